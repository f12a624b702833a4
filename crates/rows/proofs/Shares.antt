-- Rows that are picked: those for which a test holds stand one after the other.
-- Assumes nothing.
use Rattle.std.proofs.Common.{◌≡◌, ℕ, zero, suc, ◌+◌, ◌-◌, ◌≤◌, Bool, true, false, ◌⊎◌, List, [], ◌∷◌, ◌++◌, length, take, drop, max, min, Some, None, Option, sym, refl, ap, ◌∙◌, inl, inr, arith}
use Rattle.std.proofs.lemmas.Bool.{cases_lt}
use Rattle.std.proofs.lemmas.List.{drop_all, length-take}
use Rattle.book.specs.Rows.{Key, Row, Bef, Upto, Each, ltk}
use Rattle.book.specs.Queue.{Seg, is_of, below1, pick, left}
use Rattle.book.specs.Due.{count}
use Rattle.rows.specs.declared.row.RowKey.{RowKey}
use Rattle.rows.specs.declared.segments.KeyRange.{KeyRange}
use Rattle.rows.specs.Model.{key_of}
use Rattle.rows.specs.Search.{Splits}
use Rattle.rows.specs.Segments.{IsHigh, IsRange, is_below, within, Ends, Run, Shared}
use Rattle.rows.proofs.Order.{lt_yes, lt_no, each_like}
use Rattle.rows.proofs.Parts.{each_left, each_right}

-- the test of a segment is that of its range
below_is : (high : Option RowKey) (ss : List Seg) (k : Key) → IsHigh high ss → below1 ss k ≡ is_below high k
unfolding below1
below_is None [] k h = refl
below_is None (s ∷ ss) k h = absurd h
below_is (Some x) [] k h = absurd h
below_is (Some x) (s ∷ ss) k h = ap (ltk k) h

of_is : (r : KeyRange) (i : ℕ) (ss : List Seg) → IsRange r i ss → (k : Key) → is_of i ss k ≡ within r k
unfolding is_of
of_is r zero [] h k = absurd h
of_is r (suc i) [] h k = absurd h
of_is r zero (s ∷ ss) h k = rw (h.0, below_is r.high ss k h.1) refl
of_is r (suc i) (s ∷ ss) h k = of_is r i ss h k

run_like : {t u : Key → Bool} {rs : List Row} {a b : ℕ} → ((k : Key) → u k ≡ t k) → Run t rs a b → Run u rs a b
run_like {t} {u} {rs} {a} {b} e r = record {
  order = r.order;
  within = r.within;
  low = each_like (λ k. t k ≡ false) (λ k. u k ≡ false) (λ k h. e k ∙ h) (take a rs) r.low;
  mid = each_like (λ k. t k ≡ true) (λ k. u k ≡ true) (λ k h. e k ∙ h) (drop a (take b rs)) r.mid;
  high = each_like (λ k. t k ≡ false) (λ k. u k ≡ false) (λ k h. e k ∙ h) (drop b rs) r.high;
}

-- a row that is not picked
pick_no : (m : ℕ) (t : Key → Bool) (r : Row) (rs : List Row) → t r.at ≡ false → pick m t (r ∷ rs) ≡ pick m t rs
unfolding pick
pick_no zero t r rs e = refl
pick_no (suc m) t r rs e = rw e refl

left_no : (m : ℕ) (t : Key → Bool) (r : Row) (rs : List Row) → t r.at ≡ false → left m t (r ∷ rs) ≡ r ∷ left m t rs
unfolding left
left_no zero t r rs e = refl
left_no (suc m) t r rs e = rw e refl

-- none is picked
abbrev NoneOf : (Key → Bool) → List Row → Type 0
NoneOf t rs = Each (λ k. t k ≡ false) rs

pick_none : (m : ℕ) (t : Key → Bool) (rs : List Row) → NoneOf t rs → pick m t rs ≡ []
unfolding pick
pick_none zero t rs h = refl
pick_none (suc m) t [] h = refl
pick_none (suc m) t (r ∷ rs) h = pick_no (suc m) t r rs h.0 ∙ pick_none (suc m) t rs h.1

left_none : (m : ℕ) (t : Key → Bool) (rs : List Row) → NoneOf t rs → left m t rs ≡ rs
unfolding left
left_none zero t rs h = refl
left_none (suc m) t [] h = refl
left_none (suc m) t (r ∷ rs) h = left_no (suc m) t r rs h.0 ∙ ap (λ (xs : List Row). r ∷ xs) (left_none (suc m) t rs h.1)

count_none : (t : Key → Bool) (rs : List Row) → NoneOf t rs → count t rs ≡ 0
unfolding count
count_none t [] h = refl
count_none t (r ∷ rs) h = rw h.0 (count_none t rs h.1)

-- one row on
run_rest : {t : Key → Bool} {r : Row} {rs : List Row} {a b : ℕ} → Run t (r ∷ rs) (suc a) (suc b) → Run t rs a b
run_rest u = record { order = omega (arith, u.order); within = omega (arith, u.within); low = u.low.1; mid = u.mid; high = u.high }

run_front : {t : Key → Bool} {r : Row} {rs : List Row} {b : ℕ} → Run t (r ∷ rs) 0 (suc b) → Run t rs 0 b
run_front u = record { order = omega arith; within = omega (arith, u.within); low = tt; mid = u.mid.1; high = u.high }

-- how many there are
count_run : (t : Key → Bool) (rs : List Row) (a b : ℕ) → Run t rs a b → b - a ≡ count t rs
unfolding count
count_run t rs zero zero u = sym (count_none t rs u.high)
count_run t rs (suc a) zero u = absurd (omega (arith, u.order))
count_run t [] zero (suc b) u = absurd (omega (arith, u.within))
count_run t [] (suc a) (suc b) u = absurd (omega (arith, u.within))
count_run t (r ∷ rs) zero (suc b) u = rw u.mid.0 (let e = count_run t rs 0 b (run_front u) in omega (arith, e))
count_run t (r ∷ rs) (suc a) (suc b) u = rw u.low.0 (let e = count_run t rs a b (run_rest u) in omega (arith, e))

-- the rows of a range: one place for its low, one for its upper end
below_low : (range : KeyRange) (k : Key) → Bef k (key_of range.low) → within range k ≡ false
below_low range k h = rw (lt_yes k (key_of range.low) h) refl

from_low : (range : KeyRange) (k : Key) → Upto (key_of range.low) k → within range k ≡ is_below range.high k
from_low range k h = rw (lt_no k (key_of range.low) h) refl

pub each_all : {P : Key → Type 0} → ((k : Key) → P k) → (rs : List Row) → Each P rs
each_all f [] = tt
each_all f (r ∷ rs) = (f r.at, each_all f rs)

-- of each from a on: of those before c, and of those from c on
each_part : (P : Key → Type 0) (a c : ℕ) (rs : List Row) → Each P (drop a rs) → Each P (drop a (take c rs))
each_part P zero c rs h = each_left P c rs h
each_part P (suc a) zero rs h = tt
each_part P (suc a) (suc c) [] h = tt
each_part P (suc a) (suc c) (r ∷ rs) h = each_part P a c rs h

each_later : (P : Key → Type 0) (a c : ℕ) (rs : List Row) → a ≤ c → Each P (drop a rs) → Each P (drop c rs)
each_later P zero c rs le h = each_right P c rs h
each_later P (suc a) zero rs le h = absurd (omega arith)
each_later P (suc a) (suc c) [] le h = tt
each_later P (suc a) (suc c) (r ∷ rs) le h = each_later P a c rs (omega arith) h

below_yes : (high : Option RowKey) (rs : List Row) (b : ℕ) → Ends high rs b → Each (λ k. is_below high k ≡ true) (take b rs)
below_yes None rs b e = each_all (λ k. refl) (take b rs)
below_yes (Some h) rs b e = each_like (λ k. Bef k (key_of h)) (λ k. ltk k (key_of h) ≡ true) (λ k. lt_yes k (key_of h)) (take b rs) e.low

below_not : (high : Option RowKey) (rs : List Row) (b : ℕ) → Ends high rs b → Each (λ k. is_below high k ≡ false) (drop b rs)
below_not None rs b e = rw (drop_all b rs (omega arith)) tt
below_not (Some h) rs b e = each_like (Upto (key_of h)) (λ k. ltk k (key_of h) ≡ false) (λ k. lt_no k (key_of h)) (drop b rs) e.high

ends_within : (high : Option RowKey) (rs : List Row) (b : ℕ) → Ends high rs b → b ≤ length rs
ends_within None rs b e = omega arith
ends_within (Some h) rs b e = e.within

-- for rows that stand at a low or above, the test is that of the upper end
above : (range : KeyRange) (v : Bool) (rs : List Row) → Each (Upto (key_of range.low)) rs → Each (λ k. is_below range.high k ≡ v) rs → Each (λ k. within range k ≡ v) rs
above range v [] h i = tt
above range v (r ∷ rs) h i = (from_low range r.at h.0 ∙ i.0, above range v rs h.1 i.1)

pub run_within : (range : KeyRange) {rs : List Row} {a : ℕ} (b c : ℕ) → Splits (key_of range.low) rs a → Ends range.high rs b → c ≡ max b a → Run (within range) rs a c
run_within range {rs} {a} b c s e is = elim (cases_lt a b) [
  | inl lt ↦
      let z : c ≡ b = omega arith in
      record {
        order = omega arith;
        within = omega (arith, ends_within range.high rs b e);
        low = low;
        mid = above range true (drop a (take c rs)) (each_part (Upto (key_of range.low)) a c rs s.high) (each_right (λ k. is_below range.high k ≡ true) a (take c rs) (rw z (below_yes range.high rs b e)));
        high = above range false (drop c rs) (each_later (Upto (key_of range.low)) a c rs (omega arith) s.high) (rw z (below_not range.high rs b e));
      }
  | inr le ↦
      let z : c ≡ a = omega arith in
      record {
        order = omega arith;
        within = omega (arith, s.within);
        low = low;
        mid = rw (z, drop_all a (take a rs) (omega (arith, length-take a rs))) tt;
        high = above range false (drop c rs) (each_later (Upto (key_of range.low)) a c rs (omega arith) s.high) (each_later (λ k. is_below range.high k ≡ false) b c rs (omega arith) (below_not range.high rs b e));
      }
]
  where
    low : Each (λ k. within range k ≡ false) (take a rs)
    low = each_like (λ k. Bef k (key_of range.low)) (λ k. within range k ≡ false) (below_low range) (take a rs) s.low

pub run_counted : (range : KeyRange) {rs : List Row} {a b : ℕ} → Run (within range) rs a b → (i : ℕ) (ss : List Seg) → IsRange range i ss → b - a ≡ count (is_of i ss) rs
run_counted range {rs} {a} {b} r i ss h = count_run (is_of i ss) rs a b (run_like (of_is range i ss h) r)

-- those picked of a run end at e: all, or as many as may be
abbrev pub Last : (a b m e : ℕ) → Type 0
Last a b m e = ((e ≡ b) × (b - a ≤ m)) ⊎ (e ≡ a + m)

last_rest : (a b m e : ℕ) → Last (suc a) (suc b) m (suc e) → Last a b m e
last_rest a b m e (inl p) = inl (omega (arith, p.0), omega (arith, p.1))
last_rest a b m e (inr p) = inr (omega arith)

last_front : (b m e : ℕ) → Last 0 (suc b) (suc m) (suc e) → Last 0 b m e
last_front b m e (inl p) = inl (omega (arith, p.0), omega (arith, p.1))
last_front b m e (inr p) = inr (omega arith)

pick_front : (t : Key → Bool) (rs : List Row) (b m e : ℕ) → Run t rs 0 b → e ≤ b → Last 0 b m e → take e rs ≡ pick m t rs
unfolding pick
pick_front t rs b m zero r p (inl q) = let z : b ≡ 0 = omega (arith, q.0) in sym (pick_none m t rs (rw z at r.high))
pick_front t rs b m zero r p (inr q) = let z : m ≡ 0 = omega arith in rw z refl
pick_front t rs b zero (suc e) r p q = absurd (omega arith)
pick_front t rs zero (suc m) (suc e) r p q = absurd (omega arith)
pick_front t [] (suc b) (suc m) (suc e) r p q = absurd (omega (arith, r.within))
pick_front t (c ∷ cs) (suc b) (suc m) (suc e) r p q =
    rw r.mid.0 (ap (λ (rs : List Row). c ∷ rs) (pick_front t cs b m e (run_front r) (omega arith) (last_front b m e q)))

left_front : (t : Key → Bool) (rs : List Row) (b m e : ℕ) → Run t rs 0 b → e ≤ b → Last 0 b m e → drop e rs ≡ left m t rs
unfolding left
left_front t rs b m zero r p (inl q) = let z : b ≡ 0 = omega (arith, q.0) in sym (left_none m t rs (rw z at r.high))
left_front t rs b m zero r p (inr q) = let z : m ≡ 0 = omega arith in rw z refl
left_front t rs b zero (suc e) r p q = absurd (omega arith)
left_front t rs zero (suc m) (suc e) r p q = absurd (omega arith)
left_front t [] (suc b) (suc m) (suc e) r p q = absurd (omega (arith, r.within))
left_front t (c ∷ cs) (suc b) (suc m) (suc e) r p q = rw r.mid.0 (left_front t cs b m e (run_front r) (omega arith) (last_front b m e q))

pick_run : (t : Key → Bool) (rs : List Row) (a b m e : ℕ) → Run t rs a b → a ≤ e → e ≤ b → Last a b m e → drop a (take e rs) ≡ pick m t rs
pick_run t rs zero b m e r l p q = pick_front t rs b m e r p q
pick_run t rs (suc a) b m zero r l p q = absurd (omega arith)
pick_run t rs (suc a) zero m (suc e) r l p q = absurd (omega arith)
pick_run t [] (suc a) (suc b) m (suc e) r l p q = absurd (omega (arith, r.within))
pick_run t (c ∷ cs) (suc a) (suc b) m (suc e) r l p q =
    pick_run t cs a b m e (run_rest r) (omega arith) (omega arith) (last_rest a b m e q) ∙ sym (pick_no m t c cs r.low.0)

left_run : (t : Key → Bool) (rs : List Row) (a b m e : ℕ) → Run t rs a b → a ≤ e → e ≤ b → Last a b m e → take a rs ++ drop e rs ≡ left m t rs
left_run t rs zero b m e r l p q = left_front t rs b m e r p q
left_run t rs (suc a) b m zero r l p q = absurd (omega arith)
left_run t rs (suc a) zero m (suc e) r l p q = absurd (omega arith)
left_run t [] (suc a) (suc b) m (suc e) r l p q = absurd (omega (arith, r.within))
left_run t (c ∷ cs) (suc a) (suc b) m (suc e) r l p q =
    ap (λ (rs : List Row). c ∷ rs) (left_run t cs a b m e (run_rest r) (omega arith) (omega arith) (last_rest a b m e q)) ∙ sym (left_no m t c cs r.low.0)

pub run_shared : (range : KeyRange) (rs : List Row) (a b m n : ℕ) → Run (within range) rs a b → n ≡ min (b - a) m →
    Shared range m rs (drop a (take (a + n) rs)) (take a rs ++ drop (a + n) rs)
run_shared range rs a b m n r is = record {
  picked = λ i ss h. pick_run (is_of i ss) rs a b m (a + n) (run_like (of_is range i ss h) r) (omega arith) (omega (arith, r.order)) last;
  kept = λ i ss h. left_run (is_of i ss) rs a b m (a + n) (run_like (of_is range i ss h) r) (omega arith) (omega (arith, r.order)) last;
}
  where
    last : Last a b m (a + n)
    last = elim (cases_lt m (b - a)) [
      | inl lt ↦ inr (omega arith)
      | inr le ↦ inl (omega (arith, r.order), le)
    ]
