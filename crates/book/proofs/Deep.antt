-- How many segments there are, and how deep: no more than rows.
use Rattle.std.proofs.Common.{◌≡◌, ℕ, suc, ◌+◌, ◌*◌, ◌≤◌, List, [], ◌∷◌, ◌++◌, length, sym, refl, subst, inl, inr, mul-le-mul_left, mul-suc, arith, length-append}
use Rattle.streams.specs.Meaning.{Sum}
use Rattle.book.specs.Rows.{Key, Row, Bef, Above, Sorted, onto}
use Rattle.book.specs.Held.{Paged, Segs, none, plain, packed, Held, heads, chain_rows, under, contents, Till, Free, Under, FirstIs, SegsOk, Order, Alive, LeanSegs, Full, Lean, rows_of, level_of}
use Rattle.book.specs.Due.{Has}
use Rattle.book.proofs.Rows.{bef_trans}
use Rattle.book.proofs.Steps.{till_like, under_down, length_onto}
use Rattle.book.proofs.Due.{first_under, has_later, load, weigh, chain_weight, sorted_contents}

-- keys
abbrev Keys : (Key → Type 0) → List Key → Type 0
Keys P [] = Unit {0}
Keys P (k ∷ ks) = P k × Keys P ks

abbrev Rising : List Key → Type 0
Rising [] = Unit {0}
Rising (k ∷ ks) = Keys (Bef k) ks × Rising ks

keys_like : (P Q : Key → Type 0) → ((k : Key) → P k → Q k) → (ks : List Key) → Keys P ks → Keys Q ks
keys_like P Q f [] h = tt
keys_like P Q f (k ∷ ks) h = (f k h.0, keys_like P Q f ks h.1)

keys_append : (P : Key → Type 0) (ks js : List Key) → Keys P ks → Keys P js → Keys P (ks ++ js)
keys_append P [] js h i = i
keys_append P (k ∷ ks) js h i = (h.0, keys_append P ks js h.1 i)

rising_append : (ks js : List Key) → Rising ks → Rising js → Keys (λ k. Keys (Bef k) js) ks → Rising (ks ++ js)
rising_append [] js a b h = b
rising_append (k ∷ ks) js a b h = (keys_append (Bef k) ks js a.0 h.0, rising_append ks js a.1 b h.1)

-- keys that rise and are all of rows are no more than the rows
keys_both : (P Q : Key → Type 0) (ks : List Key) → Keys P ks → Keys Q ks → Keys (λ k. P k × Q k) ks
keys_both P Q [] a b = tt
keys_both P Q (k ∷ ks) a b = ((a.0, b.0), keys_both P Q ks a.1 b.1)

keys_fit : (x : List Row) (ks : List Key) → Sorted x → Rising ks → Keys (Has x) ks → length ks ≤ length x
keys_fit x [] s r h = omega arith
keys_fit [] (k ∷ ks) s r h = absurd h.0
keys_fit (c ∷ cs) (k ∷ ks) s r (inl e, h) = omega (arith, keys_fit cs ks s.1 r.1 (keys_like (λ j. Bef k j × Has (c ∷ cs) j) (Has cs) (λ j p. has_later c cs j (subst (λ (z : Key). Bef z j) (sym e) p.0) p.1) ks (keys_both (Bef k) (Has (c ∷ cs)) ks r.0 h)))
keys_fit (c ∷ cs) (k ∷ ks) s r (inr i, h) = omega (arith, keys_fit cs (k ∷ ks) s.1 r (i, keys_like (λ j. Bef k j × Has (c ∷ cs) j) (Has cs) (λ j p. has_later c cs j (bef_trans c.at k j (above_has cs c.at k s.0 i) p.0) p.1) ks (keys_both (Bef k) (Has (c ∷ cs)) ks r.0 h)))
  where
    above_has : (ys : List Row) (a b : Key) → Above a ys → Has ys b → Bef a b
    above_has [] a b u v = absurd v
    above_has (y ∷ ys) a b u (inl q) = subst (Bef a) q u.0
    above_has (y ∷ ys) a b u (inr q) = above_has ys a b u.1 q

-- THE LOWS of all segments without an index page, in index pages too
abbrev pub lows : Segs → List Key
lows none = []
lows (plain low c ss) = low ∷ lows ss
lows (packed low n inner c ss) = lows inner ++ lows ss

-- the first of them
first_low : (P Q : Key → Type 0) (ss : Segs) (k : Key) → SegsOk P ss → FirstIs ss k → Keys Q (lows ss) → Q k
first_low P Q none k o f h = absurd f
first_low P Q (plain low c ss) k o f h = subst Q f h.0
first_low P Q (packed low n inner c ss) k o f h = first_low (Till P ss) Q inner k o.4 (subst (FirstIs inner) f o.3) (part (lows inner) h)
  where
    part : (ks : List Key) → Keys Q (ks ++ lows ss) → Keys Q ks
    part [] g = tt
    part (j ∷ ks) g = (g.0, part ks g.1)

abbrev Down : (Key → Type 0) → Type 0
Down P = (a b : Key) → Bef a b → P b → P a

till_down : (P : Key → Type 0) → Down P → (ss : Segs) → Down (Till P ss)
till_down P d none a b h u = d a b h u
till_down P d (plain low c ss) a b h u = bef_trans a b low h u
till_down P d (packed low n i c ss) a b h u = bef_trans a b low h u

-- what is below the first low is within the limit, if the lows are
limit_of : (P : Key → Type 0) → Down P → (ss : Segs) (k : Key) → SegsOk P ss → Keys P (lows ss) → Till P ss k → P k
limit_of P d none k o h u = u
limit_of P d (plain low c ss) k o h u = d k low u h.0
limit_of P d (packed low n inner c ss) k o h u = d k low u (first_low P P (packed low n inner c ss) low o refl h)

lows_limit : (P : Key → Type 0) → Down P → (ss : Segs) → SegsOk P ss → Keys P (lows ss)
lows_limit P d none o = tt
lows_limit P d (plain low c ss) o = let i : Keys P (lows ss) = lows_limit P d ss o.2 in (limit_of P d ss low o.2 i o.1, i)
lows_limit P d (packed low n inner c ss) o =
    let i : Keys P (lows ss) = lows_limit P d ss o.2 in
    keys_append P (lows inner) (lows ss) (keys_like (Till P ss) P (λ k. limit_of P d ss k o.2 i) (lows inner) (lows_limit (Till P ss) (till_down P d ss) inner o.4)) i

lows_after : (P : Key → Type 0) (ss : Segs) (a : Key) → SegsOk P ss → Under ss a → Keys (Bef a) (lows ss)
lows_after P none a o u = tt
lows_after P (plain low c ss) a o u = (u, lows_after P ss a o.2 (under_down P ss a low u o.1))
lows_after P (packed low n inner c ss) a o u = keys_append (Bef a) (lows inner) (lows ss) (lows_after (Till P ss) inner a o.4 (first_under inner a low o.3 u)) (lows_after P ss a o.2 (under_down P ss a low u o.1))

lows_rise : (P : Key → Type 0) → Down P → (ss : Segs) → SegsOk P ss → Rising (lows ss)
lows_rise P d none o = tt
lows_rise P d (plain low c ss) o = (lows_after P ss low o.2 (till_like P Free (λ k x. tt) ss low o.1), lows_rise P d ss o.2)
lows_rise P d (packed low n inner c ss) o =
    rising_append (lows inner) (lows ss) (lows_rise (Till P ss) (till_down P d ss) inner o.4) (lows_rise P d ss o.2)
    (keys_like (Till P ss) (λ k. Keys (Bef k) (lows ss)) (λ k u. lows_after P ss k o.2 (till_like P Free (λ j x. tt) ss k u)) (lows inner) (lows_limit (Till P ss) (till_down P d ss) inner o.4))

lows_alive : (P : Key → Type 0) (ss : Segs) → Alive P ss → Keys P (lows ss)
lows_alive P none a = tt
lows_alive P (plain low c ss) a = (a.0, lows_alive P ss a.1)
lows_alive P (packed low n inner c ss) a = keys_append P (lows inner) (lows ss) (lows_alive P inner a.0) (lows_alive P ss a.1)

-- no more of them than rows
pub contents_few : (how : ℕ → Sum) (h : Held) → length (contents how h) ≤ rows_of h
unfolding onto
contents_few how h =
    omega (arith, length_onto how h.front (onto how h.buffer (onto how (under h.segs) (onto how (chain_rows h.source) []))), length_onto how h.buffer (onto how (under h.segs) (onto how (chain_rows h.source) [])), length_onto how (under h.segs) (onto how (chain_rows h.source) []), length_onto how (chain_rows h.source) [])

pub lows_few : (how : ℕ → Sum) (h : Held) → Order h → Alive (Has (contents how h)) h.segs → length (lows h.segs) ≤ rows_of h
lows_few how h o a = omega (arith, contents_few how h, keys_fit (contents how h) (lows h.segs) (sorted_contents how h) (lows_rise Free (λ x y p q. tt) h.segs o.segs) (lows_alive (Has (contents how h)) h.segs a))

-- a segment has one of them at least; it is less deep than it has of them
some_low : (P : Key → Type 0) (ss : Segs) (k : Key) → SegsOk P ss → FirstIs ss k → 1 ≤ length (lows ss)
some_low P none k o f = absurd f
some_low P (plain low c ss) k o f = omega arith
some_low P (packed low n inner c ss) k o f = omega (arith, length-append (lows inner) (lows ss), some_low (Till P ss) inner low o.4 o.3)

pub heads_few : (P : Key → Type 0) (ss : Segs) → SegsOk P ss → length (heads ss) ≤ length (lows ss)
heads_few P none o = omega arith
heads_few P (plain low c ss) o = omega (arith, heads_few P ss o.2)
heads_few P (packed low n inner c ss) o = omega (arith, heads_few P ss o.2, length-append (lows inner) (lows ss), some_low (Till P ss) inner low o.4 o.3)

-- after the first segment there are as many lows as segments, or more
deep : (P : Key → Type 0) (ss : Segs) → SegsOk P ss → LeanSegs ss → 1 ≤ length (heads ss) → level_of ss + length (heads ss) ≤ length (lows ss)
deep P none o l h = absurd (omega arith)
deep P (plain low c ss) o l h = omega (arith, heads_few P ss o.2)
deep P (packed low n inner c ss) o l h = omega (arith, deep (Till P ss) inner o.4 l.3 (omega (arith, l.2)), l.2, heads_few P ss o.2, length-append (lows inner) (lows ss))

pub level_few : (ss : Segs) → SegsOk Free ss → LeanSegs ss → level_of ss ≤ length (lows ss)
level_few none o l = omega arith
level_few (plain low c ss) o l = omega arith
level_few (packed low n i c ss) o l = omega (arith, deep Free (packed low n i c ss) o l (omega arith))

-- THE WEIGHT, by rows
chain_few : (c : List Paged) → Full c → chain_weight c ≤ 5 * length (chain_rows c)
chain_few [] f = omega arith
chain_few (p ∷ ps) f = omega (arith, chain_few ps f.1, f.0, length-append p.rows (chain_rows ps))

pub weigh_few : (how : ℕ → Sum) (h : Held) → Order h → Lean h → Alive (Has (contents how h)) h.segs → weigh h ≤ 6 * rows_of h
weigh_few how h o l a = omega (arith, chain_few h.source l.source, heads_few Free h.segs o.segs, lows_few how h o a)

load_few : (n : ℕ) (x : List Row) → load n x ≤ n * length x
load_few n [] = omega arith
load_few n (r ∷ rs) = let i : load n rs ≤ n * length rs = load_few n rs in let j : n * suc (length rs) ≡ n * length rs + n = mul-suc n (length rs) in omega arith

pub load_rows : (how : ℕ → Sum) (n : ℕ) (h : Held) → load n (contents how h) ≤ n * rows_of h
load_rows how n h = omega (arith, load_few n (contents how h), mul-le-mul_left n (contents_few how h))
