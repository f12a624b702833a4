-- The order of keys, what its tests tell, and a row added before, at or behind another.
-- Assumes nothing.
use Rattle.std.proofs.Common.{◌≡◌, ℕ, ◌<◌, true, false, ◌⊎◌, List, [], ◌∷◌, sym, refl, inl, inr, arith}
use Rattle.std.proofs.lemmas.Bool.{cases_order}
use Rattle.std.proofs.lemmas.Bool.Decides.{nat_tests}
use Rattle.streams.specs.Meaning.{Sum}
use Rattle.book.specs.Rows.{Key, Row, Bef, Upto, ltk, eqk, join, add, Each, Sorted}

pub bef_trans : (a b c : Key) → Bef a b → Bef b c → Bef a c
bef_trans a b c p q = grind arith

pub upto_bef : (a b : Key) → Bef a b → Upto a b
upto_bef a b p = grind arith

pub upto_trans : (a b c : Key) → Upto a b → Upto b c → Upto a c
upto_trans a b c p q = grind arith

-- what the tests tell
pub lt_yes : (a b : Key) → Bef a b → ltk a b ≡ true
unfolding ltk
lt_yes a b p = grind (arith, nat_tests)

pub lt_no : (a b : Key) → Upto b a → ltk a b ≡ false
unfolding ltk
lt_no a b p = grind (arith, nat_tests)

pub bef_from : (a b : Key) → ltk a b ≡ true → Bef a b
unfolding ltk
bef_from a b h = grind (arith, nat_tests)

pub upto_from : (a b : Key) → ltk a b ≡ false → Upto b a
unfolding ltk
upto_from a b h = grind (arith, nat_tests)

eq_no : (a b : Key) → Bef b a → eqk a b ≡ false
unfolding eqk
eq_no a b p = grind (arith, nat_tests)

eq_self : (a : Key) → eqk a a ≡ true
unfolding eqk
eq_self a = grind (arith, nat_tests)

parts_from : (a b : Key) → eqk a b ≡ true → (a.end ≡ b.end) × (a.stage ≡ b.stage) × (a.key ≡ b.key)
unfolding eqk
parts_from a b h = grind (arith, nat_tests)

pub same_from : (a b : Key) → eqk a b ≡ true → a ≡ b
same_from a b h = let s = parts_from a b h in λ i. record { end = s.0 i; stage = s.1 i; key = s.2 i }

pub after_from : (a b : Key) → Upto a b → eqk a b ≡ false → Bef a b
unfolding eqk
after_from a b u h = grind (arith, nat_tests)

upto_self : (a : Key) → Upto a a
upto_self a = inr (refl, inr (refl, omega arith))

-- a row added before, at and behind the first
pub add_before : (how : ℕ → Sum) (r c : Row) (cs : List Row) → Bef r.at c.at → add how r (c ∷ cs) ≡ r ∷ c ∷ cs
unfolding add
add_before how r c cs p = rw (lt_yes r.at c.at p)

pub add_at : (how : ℕ → Sum) (r c : Row) (cs : List Row) → r.at ≡ c.at → add how r (c ∷ cs) ≡ join how c r ∷ cs
unfolding add
add_at how r c cs p = rw (p, lt_no c.at c.at (upto_self c.at), eq_self c.at)

pub add_behind : (how : ℕ → Sum) (r c : Row) (cs : List Row) → Bef c.at r.at → add how r (c ∷ cs) ≡ c ∷ add how r cs
unfolding add
add_behind how r c cs p = rw (lt_no r.at c.at (upto_bef c.at r.at p), eq_no r.at c.at p)

-- BEFORE, AT OR BEHIND
data Tri (a b : Key) : Type 0 where
  before : Bef a b → Tri a b
  at : a ≡ b → Tri a b
  behind : Bef b a → Tri a b

tri : (a b : Key) → Tri a b
tri a b = go (cases_order a.end b.end) (cases_order a.stage b.stage) (cases_order a.key b.key)
  where
    go : (a.end ≡ b.end) ⊎ ((a.end < b.end) ⊎ (b.end < a.end)) → (a.stage ≡ b.stage) ⊎ ((a.stage < b.stage) ⊎ (b.stage < a.stage)) → (a.key ≡ b.key) ⊎ ((a.key < b.key) ⊎ (b.key < a.key)) → Tri a b
    go (inl e) (inl f) (inl g) = at (λ i. record { end = e i; stage = f i; key = g i })
    go (inl e) (inl f) (inr (inl g)) = before (inr (e, inr (f, g)))
    go (inl e) (inl f) (inr (inr g)) = behind (inr (sym e, inr (sym f, g)))
    go (inl e) (inr (inl f)) _ = before (inr (e, inl f))
    go (inl e) (inr (inr f)) _ = behind (inr (sym e, inl f))
    go (inr (inl e)) _ _ = before (inl e)
    go (inr (inr e)) _ _ = behind (inl e)

pub each_like : (P Q : Key → Type 0) → ((k : Key) → P k → Q k) → (cs : List Row) → Each P cs → Each Q cs
each_like P Q f [] h = tt
each_like P Q f (c ∷ cs) h = (f c.at h.0, each_like P Q f cs h.1)

each_add : (P : Key → Type 0) (how : ℕ → Sum) (r : Row) (cs : List Row) → P r.at → Each P cs → Each P (add how r cs)
unfolding add
each_add P how r [] p h = (p, tt)
each_add P how r (c ∷ cs) p h = go (tri r.at c.at) (each_add P how r cs p h.1)
  where
    go : Tri r.at c.at → Each P (add how r cs) → Each P (add how r (c ∷ cs))
    go (before q) i = rw (add_before how r c cs q) (p, h)
    go (at q) i = rw (add_at how r c cs q) (h.0, h.1)
    go (behind q) i = rw (add_behind how r c cs q) (h.0, i)

pub sorted_add : (how : ℕ → Sum) (r : Row) (cs : List Row) → Sorted cs → Sorted (add how r cs)
unfolding add
sorted_add how r [] h = (tt, tt)
sorted_add how r (c ∷ cs) h = go (tri r.at c.at) (sorted_add how r cs h.1)
  where
    go : Tri r.at c.at → Sorted (add how r cs) → Sorted (add how r (c ∷ cs))
    go (before q) i = rw (add_before how r c cs q) ((q, each_like (Bef c.at) (Bef r.at) (λ k. bef_trans r.at c.at k q) cs h.0), h)
    go (at q) i = rw (add_at how r c cs q) (h.0, h.1)
    go (behind q) i = rw (add_behind how r c cs q) (each_add (Bef c.at) how r cs q h.0, i)
