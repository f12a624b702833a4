-- Rows commute.
use Rattle.std.proofs.Common.{◌≡◌, ℕ, ◌%◌, ◌<◌, true, false, ◌⊎◌, List, [], ◌∷◌, ◌++◌, sym, refl, ap, ◌∙◌, inl, inr, arith}
use Rattle.std.proofs.lemmas.Bool.{cases_order}
use Rattle.std.proofs.lemmas.Bool.Decides.{nat_tests}
use Rattle.streams.specs.Meaning.{Sum, Count, Total, Least, Greatest, top}
use Rattle.book.specs.Rows.{Key, Row, Bef, ltk, eqk, put, join, add, onto}

pub data Tri (a b : Key) : Type 0 where
  lo : Bef a b → Tri a b
  eq : a ≡ b → Tri a b
  hi : Bef b a → Tri a b

same_key : (a b : Key) → a.end ≡ b.end → a.stage ≡ b.stage → a.key ≡ b.key → a ≡ b
same_key a b p q r = λ i. record { end = p i; stage = q i; key = r i }

pub tri : (a b : Key) → Tri a b
tri a b = go (cases_order a.end b.end) (cases_order a.stage b.stage) (cases_order a.key b.key)
  where
    go : (a.end ≡ b.end) ⊎ ((a.end < b.end) ⊎ (b.end < a.end)) → (a.stage ≡ b.stage) ⊎ ((a.stage < b.stage) ⊎ (b.stage < a.stage)) → (a.key ≡ b.key) ⊎ ((a.key < b.key) ⊎ (b.key < a.key)) → Tri a b
    go (inl e) (inl f) (inl g) = eq (same_key a b e f g)
    go (inl e) (inl f) (inr (inl g)) = lo (inr (e, inr (f, g)))
    go (inl e) (inl f) (inr (inr g)) = hi (inr (sym e, inr (sym f, g)))
    go (inl e) (inr (inl f)) _ = lo (inr (e, inl f))
    go (inl e) (inr (inr f)) _ = hi (inr (sym e, inl f))
    go (inr (inl e)) _ _ = lo (inl e)
    go (inr (inr e)) _ _ = hi (inl e)

pub bef_trans : (a b c : Key) → Bef a b → Bef b c → Bef a c
bef_trans a b c p q = grind arith

-- what the tests say
pub lt_yes : (a b : Key) → Bef a b → ltk a b ≡ true
unfolding ltk
lt_yes a b p = grind (arith, nat_tests)

pub lt_no : (a b : Key) → Bef b a → ltk a b ≡ false
unfolding ltk
lt_no a b p = grind (arith, nat_tests)

pub eq_no : (a b : Key) → Bef b a → eqk a b ≡ false
unfolding eqk
eq_no a b p = grind (arith, nat_tests)

pub lt_self : (a : Key) → ltk a a ≡ false
unfolding ltk
lt_self a = grind (arith, nat_tests)

pub eq_self : (a : Key) → eqk a a ≡ true
unfolding eqk
eq_self a = grind (arith, nat_tests)

pub put_comm : (s : Sum) (a b : ℕ) → put s a b ≡ put s b a
unfolding put
put_comm Count a b = ap (λ (x : ℕ). x % top) (omega arith)
put_comm Total a b = ap (λ (x : ℕ). x % top) (omega arith)
put_comm Least a b = grind (arith, nat_tests)
put_comm Greatest a b = grind (arith, nat_tests)

pub put_assoc : (s : Sum) (a b c : ℕ) → put s (put s a b) c ≡ put s a (put s b c)
unfolding put
put_assoc Count a b c = omega arith
put_assoc Total a b c = omega arith
put_assoc Least a b c = grind (arith, nat_tests)
put_assoc Greatest a b c = grind (arith, nat_tests)

pub add_lo : (how : ℕ → Sum) (r c : Row) (cs : List Row) → Bef r.at c.at → add how r (c ∷ cs) ≡ r ∷ c ∷ cs
unfolding add
add_lo how r c cs p = rw (lt_yes r.at c.at p)

pub add_eq : (how : ℕ → Sum) (r c : Row) (cs : List Row) → r.at ≡ c.at → add how r (c ∷ cs) ≡ join how c r ∷ cs
unfolding add
add_eq how r c cs p = rw (p, lt_self c.at, eq_self c.at)

pub add_hi : (how : ℕ → Sum) (r c : Row) (cs : List Row) → Bef c.at r.at → add how r (c ∷ cs) ≡ c ∷ add how r cs
unfolding add
add_hi how r c cs p = rw (lt_no r.at c.at p, eq_no r.at c.at p)

-- joined twice, and commuting
pub join_both : (how : ℕ → Sum) (c r s : Row) → join how (join how c s) r ≡ join how (join how c r) s
join_both how c r s = ap (λ (x : ℕ). record { at = c.at; value = x }) (p (how c.at.stage) c.value r.value s.value)
  where
    p : (z : Sum) (x y w : ℕ) → put z (put z x w) y ≡ put z (put z x y) w
    p z x y w = put_assoc z x w y ∙ ap (put z x) (put_comm z w y) ∙ sym (put_assoc z x y w)

pub join_comm : (how : ℕ → Sum) (r s : Row) → r.at ≡ s.at → join how r s ≡ join how s r
join_comm how r s e = λ i. record { at = e i; value = (ap (λ (k : Key). put (how k.stage) r.value s.value) e ∙ put_comm (how s.at.stage) r.value s.value) i }

abbrev Commute : (ℕ → Sum) → Row → Row → List Row → Type 0
Commute how r s cs = add how r (add how s cs) ≡ add how s (add how r cs)

both_none : (how : ℕ → Sum) (r s : Row) → Tri r.at s.at → Commute how r s []
unfolding add
both_none how r s (lo p) = add_lo how r s [] p ∙ sym (add_hi how s r [] p)
both_none how r s (eq p) = add_eq how r s [] p ∙ ap (λ (x : Row). x ∷ []) (join_comm how s r (sym p)) ∙ sym (add_eq how s r [] (sym p))
both_none how r s (hi p) = add_hi how r s [] p ∙ sym (add_lo how s r [] p)

both_low : (how : ℕ → Sum) (r s c : Row) (cs : List Row) → Bef r.at c.at → Bef s.at c.at → Tri r.at s.at → Commute how r s (c ∷ cs)
both_low how r s c cs p q (lo t) = rw (add_lo how s c cs q, add_lo how r c cs p, add_lo how r s (c ∷ cs) t, add_hi how s r (c ∷ cs) t, add_lo how s c cs q)
both_low how r s c cs p q (eq t) = rw (add_lo how s c cs q, add_lo how r c cs p, add_eq how r s (c ∷ cs) t, add_eq how s r (c ∷ cs) (sym t), join_comm how s r (sym t))
both_low how r s c cs p q (hi t) = rw (add_lo how s c cs q, add_lo how r c cs p, add_hi how r s (c ∷ cs) t, add_lo how s r (c ∷ cs) t, add_lo how r c cs p)

low_same : (how : ℕ → Sum) (r s c : Row) (cs : List Row) → Bef r.at c.at → s.at ≡ c.at → Commute how r s (c ∷ cs)
low_same how r s c cs p q =
    let t : Bef r.at s.at = rw q p in
    rw (add_eq how s c cs q, add_lo how r c cs p, add_lo how r (join how c s) cs p, add_hi how s r (c ∷ cs) t, add_eq how s c cs q)

low_high : (how : ℕ → Sum) (r s c : Row) (cs : List Row) → Bef r.at c.at → Bef c.at s.at → Commute how r s (c ∷ cs)
low_high how r s c cs p q =
    let t : Bef r.at s.at = bef_trans r.at c.at s.at p q in
    rw (add_hi how s c cs q, add_lo how r c cs p, add_lo how r c (add how s cs) p, add_hi how s r (c ∷ cs) t, add_hi how s c cs q)

same_same : (how : ℕ → Sum) (r s c : Row) (cs : List Row) → r.at ≡ c.at → s.at ≡ c.at → Commute how r s (c ∷ cs)
same_same how r s c cs p q = rw (add_eq how s c cs q, add_eq how r c cs p, add_eq how r (join how c s) cs p, add_eq how s (join how c r) cs q, join_both how c r s)

same_high : (how : ℕ → Sum) (r s c : Row) (cs : List Row) → r.at ≡ c.at → Bef c.at s.at → Commute how r s (c ∷ cs)
same_high how r s c cs p q = rw (add_hi how s c cs q, add_eq how r c cs p, add_eq how r c (add how s cs) p, add_hi how s (join how c r) cs q)

high_high : (how : ℕ → Sum) (r s c : Row) (cs : List Row) → Bef c.at r.at → Bef c.at s.at → Commute how r s cs → Commute how r s (c ∷ cs)
high_high how r s c cs p q ih = rw (add_hi how s c cs q, add_hi how r c cs p, add_hi how r c (add how s cs) p, add_hi how s c (add how r cs) q, ih)

both_step : (how : ℕ → Sum) (r s c : Row) (cs : List Row) → Tri r.at c.at → Tri s.at c.at → Commute how r s cs → Commute how r s (c ∷ cs)
both_step how r s c cs (lo p) (lo q) ih = both_low how r s c cs p q (tri r.at s.at)
both_step how r s c cs (lo p) (eq q) ih = low_same how r s c cs p q
both_step how r s c cs (lo p) (hi q) ih = low_high how r s c cs p q
both_step how r s c cs (eq p) (lo q) ih = sym (low_same how s r c cs q p)
both_step how r s c cs (eq p) (eq q) ih = same_same how r s c cs p q
both_step how r s c cs (eq p) (hi q) ih = same_high how r s c cs p q
both_step how r s c cs (hi p) (lo q) ih = sym (low_high how s r c cs q p)
both_step how r s c cs (hi p) (eq q) ih = sym (same_high how s r c cs q p)
both_step how r s c cs (hi p) (hi q) ih = high_high how r s c cs p q ih

pub add_both : (how : ℕ → Sum) (r s : Row) (cs : List Row) → add how r (add how s cs) ≡ add how s (add how r cs)
add_both how r s [] = both_none how r s (tri r.at s.at)
add_both how r s (c ∷ cs) = both_step how r s c cs (tri r.at c.at) (tri s.at c.at) (add_both how r s cs)

-- a joined row is as good as both
pub add_joined : (how : ℕ → Sum) (c r : Row) (cs : List Row) → r.at ≡ c.at → add how (join how c r) cs ≡ add how r (add how c cs)
unfolding add
add_joined how c r [] e = sym (add_eq how r c [] e)
add_joined how c r (x ∷ cs) e = go (tri c.at x.at) (add_joined how c r cs e)
  where
    go : Tri c.at x.at → add how (join how c r) cs ≡ add how r (add how c cs) → add how (join how c r) (x ∷ cs) ≡ add how r (add how c (x ∷ cs))
    go (lo p) ih = rw (add_lo how c x cs p, add_lo how (join how c r) x cs p, add_eq how r c (x ∷ cs) e)
    go (eq p) ih = rw (add_eq how c x cs p, add_eq how (join how c r) x cs p, add_eq how r (join how x c) cs (e ∙ p)) (ap (λ (y : ℕ). record { at = x.at; value = y } ∷ cs) (rw p (sym (put_assoc (how x.at.stage) x.value c.value r.value))))
    go (hi p) ih = rw (add_hi how c x cs p, add_hi how (join how c r) x cs p, add_hi how r x (add how c cs) (rw e p), ih)

-- rows added: the order is all one
pub onto_add : (how : ℕ → Sum) (rs : List Row) (r : Row) (acc : List Row) → onto how rs (add how r acc) ≡ add how r (onto how rs acc)
unfolding onto
onto_add how [] r acc = refl
onto_add how (x ∷ rs) r acc = ap (add how x) (onto_add how rs r acc) ∙ add_both how x r (onto how rs acc)

pub onto_both : (how : ℕ → Sum) (rs ss acc : List Row) → onto how rs (onto how ss acc) ≡ onto how ss (onto how rs acc)
unfolding onto
onto_both how [] ss acc = refl
onto_both how (x ∷ rs) ss acc = ap (add how x) (onto_both how rs ss acc) ∙ sym (onto_add how ss x (onto how rs acc))

pub onto_append : (how : ℕ → Sum) (rs ss acc : List Row) → onto how (rs ++ ss) acc ≡ onto how rs (onto how ss acc)
unfolding onto
onto_append how [] ss acc = refl
onto_append how (x ∷ rs) ss acc = ap (add how x) (onto_append how rs ss acc)

-- rows that were put together first are as good
pub onto_added : (how : ℕ → Sum) (r : Row) (rs acc : List Row) → onto how (add how r rs) acc ≡ add how r (onto how rs acc)
unfolding onto add
onto_added how r [] acc = refl
onto_added how r (c ∷ cs) acc = go (tri r.at c.at) (onto_added how r cs acc)
  where
    go : Tri r.at c.at → onto how (add how r cs) acc ≡ add how r (onto how cs acc) → onto how (add how r (c ∷ cs)) acc ≡ add how r (add how c (onto how cs acc))
    go (lo p) ih = rw (add_lo how r c cs p)
    go (eq p) ih = rw (add_eq how r c cs p) (add_joined how c r (onto how cs acc) p)
    go (hi p) ih = rw (add_hi how r c cs p) (ap (add how c) ih ∙ add_both how c r (onto how cs acc))

pub onto_onto : (how : ℕ → Sum) (rs ss acc : List Row) → onto how (onto how rs ss) acc ≡ onto how rs (onto how ss acc)
unfolding onto
onto_onto how [] ss acc = refl
onto_onto how (x ∷ rs) ss acc = onto_added how x (onto how rs ss) acc ∙ ap (add how x) (onto_onto how rs ss acc)

pub onto_none : (how : ℕ → Sum) (acc : List Row) → onto how [] acc ≡ acc
unfolding onto
onto_none how acc = refl
