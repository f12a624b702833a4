-- What holds of each of some rows; sorted rows.
use Rattle.std.proofs.Common.{◌≡◌, ℕ, zero, suc, ◌+◌, Bool, true, false, cond, ◌⊎◌, List, [], ◌∷◌, ◌++◌, length, sym, refl, ap, ◌∙◌, subst, inl, inr, arith}
use Rattle.streams.specs.Meaning.{Sum}
use Rattle.book.specs.Rows.{Key, Row, Bef, Upto, ltk, join, add, onto, Each, Above, Sorted}
use Rattle.book.specs.Queue.{pick, left}
use Rattle.book.proofs.Rows.{Tri, lo, eq, hi, tri, bef_trans, add_lo, add_eq, add_hi, onto_add}

pub each_like : (P Q : Key → Type 0) → ((k : Key) → P k → Q k) → (cs : List Row) → Each P cs → Each Q cs
each_like P Q f [] h = tt
each_like P Q f (c ∷ cs) h = (f c.at h.0, each_like P Q f cs h.1)

pub each_add : (P : Key → Type 0) (how : ℕ → Sum) (r : Row) (cs : List Row) → P r.at → Each P cs → Each P (add how r cs)
unfolding add
each_add P how r [] p h = (p, tt)
each_add P how r (c ∷ cs) p h = go (tri r.at c.at) (each_add P how r cs p h.1)
  where
    go : Tri r.at c.at → Each P (add how r cs) → Each P (add how r (c ∷ cs))
    go (lo q) i = rw (add_lo how r c cs q) (p, h)
    go (eq q) i = rw (add_eq how r c cs q) (h.0, h.1)
    go (hi q) i = rw (add_hi how r c cs q) (h.0, i)

pub each_onto : (P : Key → Type 0) (how : ℕ → Sum) (rs cs : List Row) → Each P rs → Each P cs → Each P (onto how rs cs)
unfolding onto
each_onto P how [] cs p h = h
each_onto P how (r ∷ rs) cs p h = each_add P how r (onto how rs cs) p.0 (each_onto P how rs cs p.1 h)

pub each_append : (P : Key → Type 0) (rs cs : List Row) → Each P rs → Each P cs → Each P (rs ++ cs)
each_append P [] cs p h = h
each_append P (r ∷ rs) cs p h = (p.0, each_append P rs cs p.1 h)

pub each_left : (P : Key → Type 0) (rs cs : List Row) → Each P (rs ++ cs) → Each P rs
each_left P [] cs h = tt
each_left P (r ∷ rs) cs h = (h.0, each_left P rs cs h.1)

pub each_right : (P : Key → Type 0) (rs cs : List Row) → Each P (rs ++ cs) → Each P cs
each_right P [] cs h = h
each_right P (r ∷ rs) cs h = each_right P rs cs h.1

pub sorted_add : (how : ℕ → Sum) (r : Row) (cs : List Row) → Sorted cs → Sorted (add how r cs)
unfolding add
sorted_add how r [] h = (tt, tt)
sorted_add how r (c ∷ cs) h = go (tri r.at c.at) (sorted_add how r cs h.1)
  where
    go : Tri r.at c.at → Sorted (add how r cs) → Sorted (add how r (c ∷ cs))
    go (lo q) i = rw (add_lo how r c cs q) ((q, each_like (Bef c.at) (Bef r.at) (λ k. bef_trans r.at c.at k q) cs h.0), h)
    go (eq q) i = rw (add_eq how r c cs q) (h.0, h.1)
    go (hi q) i = rw (add_hi how r c cs q) (each_add (Bef c.at) how r cs q h.0, i)

pub sorted_onto : (how : ℕ → Sum) (rs cs : List Row) → Sorted cs → Sorted (onto how rs cs)
unfolding onto
sorted_onto how [] cs h = h
sorted_onto how (r ∷ rs) cs h = sorted_add how r (onto how rs cs) (sorted_onto how rs cs h)

pub sorted_left : (xs ys : List Row) → Sorted (xs ++ ys) → Sorted xs
sorted_left [] ys h = tt
sorted_left (x ∷ xs) ys h = (each_left (Bef x.at) xs ys h.0, sorted_left xs ys h.1)

pub sorted_right : (xs ys : List Row) → Sorted (xs ++ ys) → Sorted ys
sorted_right [] ys h = h
sorted_right (x ∷ xs) ys h = sorted_right xs ys h.1

pub sorted_mid : (xs : List Row) (y : Row) (ys : List Row) → Sorted (xs ++ (y ∷ ys)) → Each (λ k. Bef k y.at) xs
sorted_mid [] y ys h = tt
sorted_mid (x ∷ xs) y ys h = ((each_right (Bef x.at) xs (y ∷ ys) h.0).0, sorted_mid xs y ys h.1)

-- a row before all of sorted rows stands first
pub add_first : (how : ℕ → Sum) (r : Row) (cs : List Row) → Above r.at cs → add how r cs ≡ r ∷ cs
unfolding add
add_first how r [] h = refl
add_first how r (c ∷ cs) h = add_lo how r c cs h.0

-- picked rows
pub onto_pick : (how : ℕ → Sum) (n : ℕ) (f : Key → Bool) (rs acc : List Row) → onto how (pick n f rs) (onto how (left n f rs) acc) ≡ onto how rs acc
unfolding pick left onto
onto_pick how zero f rs acc = refl
onto_pick how (suc n) f [] acc = refl
onto_pick how (suc n) f (r ∷ rs) acc = go (f r.at) (onto_pick how n f rs acc) (onto_pick how (suc n) f rs acc)
  where
    go : (b : Bool) → onto how (pick n f rs) (onto how (left n f rs) acc) ≡ onto how rs acc → onto how (pick (suc n) f rs) (onto how (left (suc n) f rs) acc) ≡ onto how rs acc →
        onto how (cond b (r ∷ pick n f rs) (pick (suc n) f rs)) (onto how (cond b (left n f rs) (r ∷ left (suc n) f rs)) acc) ≡ add how r (onto how rs acc)
    go true i j = ap (add how r) i
    go false i j = onto_add how (pick (suc n) f rs) r (onto how (left (suc n) f rs) acc) ∙ ap (add how r) j

pub each_pick : (P : Key → Type 0) (n : ℕ) (f : Key → Bool) (rs : List Row) → Each P rs → Each P (pick n f rs)
unfolding pick
each_pick P zero f rs h = tt
each_pick P (suc n) f [] h = tt
each_pick P (suc n) f (r ∷ rs) h = elim (f r.at) as (λ b. Each P (cond b (r ∷ pick n f rs) (pick (suc n) f rs))) [ true ↦ (h.0, each_pick P n f rs h.1) | false ↦ each_pick P (suc n) f rs h.1 ]

pub each_kept : (P : Key → Type 0) (n : ℕ) (f : Key → Bool) (rs : List Row) → Each P rs → Each P (left n f rs)
unfolding left
each_kept P zero f rs h = h
each_kept P (suc n) f [] h = tt
each_kept P (suc n) f (r ∷ rs) h = elim (f r.at) as (λ b. Each P (cond b (left n f rs) (r ∷ left (suc n) f rs))) [ true ↦ each_kept P n f rs h.1 | false ↦ (h.0, each_kept P (suc n) f rs h.1) ]

pub picked : (n : ℕ) (f : Key → Bool) (rs : List Row) → Each (λ k. f k ≡ true) (pick n f rs)
unfolding pick
picked zero f rs = tt
picked (suc n) f [] = tt
picked (suc n) f (r ∷ rs) = go (f r.at) refl (picked n f rs) (picked (suc n) f rs)
  where
    go : (b : Bool) → f r.at ≡ b → Each (λ k. f k ≡ true) (pick n f rs) → Each (λ k. f k ≡ true) (pick (suc n) f rs) → Each (λ k. f k ≡ true) (cond b (r ∷ pick n f rs) (pick (suc n) f rs))
    go true e i j = (e, i)
    go false e i j = j

pub sorted_pick : (n : ℕ) (f : Key → Bool) (rs : List Row) → Sorted rs → Sorted (pick n f rs)
unfolding pick
sorted_pick zero f rs h = tt
sorted_pick (suc n) f [] h = tt
sorted_pick (suc n) f (r ∷ rs) h = elim (f r.at) as (λ b. Sorted (cond b (r ∷ pick n f rs) (pick (suc n) f rs))) [ true ↦ (each_pick (Bef r.at) n f rs h.0, sorted_pick n f rs h.1) | false ↦ sorted_pick (suc n) f rs h.1 ]

pub sorted_kept : (n : ℕ) (f : Key → Bool) (rs : List Row) → Sorted rs → Sorted (left n f rs)
unfolding left
sorted_kept zero f rs h = h
sorted_kept (suc n) f [] h = tt
sorted_kept (suc n) f (r ∷ rs) h = elim (f r.at) as (λ b. Sorted (cond b (left n f rs) (r ∷ left (suc n) f rs))) [ true ↦ sorted_kept n f rs h.1 | false ↦ (each_kept (Bef r.at) (suc n) f rs h.0, sorted_kept (suc n) f rs h.1) ]

-- at or after, and before
pub upto_self : (a : Key) → Upto a a
upto_self a = inr (refl, inr (refl, omega arith))

pub upto_bef : (a b : Key) → Bef a b → Upto a b
upto_bef a b p = grind arith

pub upto_trans : (a b c : Key) → Upto a b → Upto b c → Upto a c
upto_trans a b c p q = grind arith

pub upto_bef_trans : (a b c : Key) → Upto a b → Bef b c → Bef a c
upto_bef_trans a b c p q = grind arith

pub bef_upto_trans : (a b c : Key) → Bef a b → Upto b c → Bef a c
bef_upto_trans a b c p q = grind arith

-- what the test says
pub ltk_tells : (a b : Key) → ((ltk a b ≡ true) × Bef a b) ⊎ ((ltk a b ≡ false) × Upto b a)
ltk_tells a b = go (tri a b)
  where
    go : Tri a b → ((ltk a b ≡ true) × Bef a b) ⊎ ((ltk a b ≡ false) × Upto b a)
    go (lo p) = inl (Rattle.book.proofs.Rows.lt_yes a b p, p)
    go (eq p) = inr (rw p (Rattle.book.proofs.Rows.lt_self b), rw p (upto_self b))
    go (hi p) = inr (Rattle.book.proofs.Rows.lt_no a b p, upto_bef b a p)

-- what holds of all together holds of each part
pub each_add_inv : (P : Key → Type 0) (how : ℕ → Sum) (r : Row) (cs : List Row) → Each P (add how r cs) → P r.at × Each P cs
unfolding add
each_add_inv P how r [] h = h
each_add_inv P how r (c ∷ cs) h = go (tri r.at c.at) (each_add_inv P how r cs)
  where
    go : Tri r.at c.at → (Each P (add how r cs) → P r.at × Each P cs) → P r.at × Each P (c ∷ cs)
    go (lo q) i = subst (Each P) (add_lo how r c cs q) h
    go (eq q) i = let k : Each P (join how c r ∷ cs) = subst (Each P) (add_eq how r c cs q) h in (subst P (sym q) k.0, k)
    go (hi q) i = let k : Each P (c ∷ add how r cs) = subst (Each P) (add_hi how r c cs q) h in ((i k.1).0, (k.0, (i k.1).1))

pub each_onto_inv : (P : Key → Type 0) (how : ℕ → Sum) (rs cs : List Row) → Each P (onto how rs cs) → Each P rs × Each P cs
unfolding onto
each_onto_inv P how [] cs h = (tt, h)
each_onto_inv P how (r ∷ rs) cs h =
    let k : P r.at × Each P (onto how rs cs) = each_add_inv P how r (onto how rs cs) h in
    let j : Each P rs × Each P cs = each_onto_inv P how rs cs k.1 in
    ((k.0, j.0), j.1)

-- rows picked
pub length_pick : (n : ℕ) (f : Key → Bool) (rs : List Row) → length (pick n f rs) + length (left n f rs) ≡ length rs
unfolding pick left
length_pick zero f rs = omega arith
length_pick (suc n) f [] = omega arith
length_pick (suc n) f (r ∷ rs) = go (f r.at) (length_pick n f rs) (length_pick (suc n) f rs)
  where
    go : (b : Bool) → length (pick n f rs) + length (left n f rs) ≡ length rs → length (pick (suc n) f rs) + length (left (suc n) f rs) ≡ length rs → length (cond b (r ∷ pick n f rs) (pick (suc n) f rs)) + length (cond b (left n f rs) (r ∷ left (suc n) f rs)) ≡ suc (length rs)
    go true i j = omega arith
    go false i j = omega arith
