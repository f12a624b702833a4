-- Cells in a vector: a step of the halving, and what a value added at the place that it finds comes to.
-- Assumes nothing.
use Rattle.std.proofs.Common.{◌≡◌, ℕ, zero, suc, ◌+◌, ◌<◌, ◌≤◌, true, false, ◌&&◌, ltb, List, [], ◌∷◌, ◌++◌, map, length, get_or, take, drop, set, refl, ap, inl, inr, arith}
use lib.Seq.{set_split}
use Rattle.std.proofs.lemmas.List.{map-append}
use Rattle.std.proofs.lemmas.Bool.{cases_lt}
use Rattle.std.proofs.lemmas.Bool.Decides.{nat_tests}
use Rattle.std.specs.List.{insert}
use Rattle.streams.specs.Meaning as spec
use Rattle.streams.proofs.Sorted.{sorted_into}
use Rattle.streams.specs.Order.{Bef, before, Above, Sorted}
use Rattle.plans.specs.declared.numbers.Value.{Value}
use Rattle.windows.specs.declared.cells.Slot.{Slot}
use Rattle.windows.specs.Model.{cell_of}
use Rattle.windows.specs.Table.{none, cell_at, is_of, Between, Splits}

-- what the tests tell
bef_from : (n k m j : ℕ) → true ≡ before n k m j → Bef n k m j
bef_from n k m j h = grind (arith, nat_tests)

not_from : (n k m j : ℕ) → false ≡ before n k m j → Bef n k m j → ⊥
not_from n k m j h b = grind (arith, nat_tests)

bef_trans : (a b n k m j : ℕ) → Bef a b n k → Bef n k m j → Bef a b m j
bef_trans a b n k m j p q = grind arith

-- sorted cells by their places
above_at : (n k : ℕ) (cs : List (Slot × Value)) → Above n k (map cell_of cs) → (i : ℕ) → i < length cs → Bef n k (cell_at cs i).end (cell_at cs i).key
above_at n k [] a i lt = absurd (omega arith)
above_at n k (c ∷ cs) a zero lt = a.0
above_at n k (c ∷ cs) a (suc i) lt = above_at n k cs a.1 i (omega arith)

sorted_up : (cs : List (Slot × Value)) → Sorted (map cell_of cs) → (i j : ℕ) → i < j → j < length cs → Bef (cell_at cs i).end (cell_at cs i).key (cell_at cs j).end (cell_at cs j).key
sorted_up [] s i j lt le = absurd (omega arith)
sorted_up (c ∷ cs) s i zero lt le = absurd (omega arith)
sorted_up (c ∷ cs) s zero (suc j) lt le = above_at c.0.end.0 c.0.key.0 cs s.0 j (omega arith)
sorted_up (c ∷ cs) s (suc i) (suc j) lt le = sorted_up cs s.1 i j (omega arith) (omega arith)

-- a step of the halving, at the cell in the middle
module _ (n k : ℕ) (cs : List (Slot × Value)) (s : Sorted (map cell_of cs)) (lo hi m : ℕ) (b : Between n k cs lo hi) (lt : m < hi) (le : lo ≤ m) where
  pub halve_up : true ≡ before (cell_at cs m).end (cell_at cs m).key n k → Between n k cs (m + 1) hi
  halve_up h =
      let z : Bef (cell_at cs m).end (cell_at cs m).key n k = bef_from (cell_at cs m).end (cell_at cs m).key n k h in
      record {
        order = omega arith;
        within = b.within;
        low = λ j p. elim (cases_lt j m) [
          | inl q ↦ bef_trans (cell_at cs j).end (cell_at cs j).key (cell_at cs m).end (cell_at cs m).key n k (sorted_up cs s j m q (omega (arith, b.within))) z
          | inr q ↦ let e : j ≡ m = omega arith in rw e z
        ];
        high = b.high;
      }

  pub halve_down : false ≡ before (cell_at cs m).end (cell_at cs m).key n k → Between n k cs lo m
  halve_down h =
      let z : Bef (cell_at cs m).end (cell_at cs m).key n k → ⊥ = not_from (cell_at cs m).end (cell_at cs m).key n k h in
      record {
        order = le;
        within = omega (arith, b.within);
        low = b.low;
        high = λ j p q r. elim (cases_lt m j) [
          | inl t ↦ z (bef_trans (cell_at cs m).end (cell_at cs m).key (cell_at cs j).end (cell_at cs j).key n k (sorted_up cs s m j t q) r)
          | inr t ↦ let e : j ≡ m = omega arith in z (rw e at r)
        ];
      }

-- the cells in front stand before an end and key, and the next one doesn't
abbrev Lower : (n k : ℕ) → List spec.Cell → Type 0
Lower n k [] = Unit {0}
Lower n k (c ∷ cs) = Bef c.end c.key n k × Lower n k cs

abbrev Stops : (n k : ℕ) → List spec.Cell → Type 0
Stops n k [] = Unit {0}
Stops n k (c ∷ cs) = Bef c.end c.key n k → ⊥

lower_at : (n k : ℕ) (cs : List (Slot × Value)) (i : ℕ) → ((j : ℕ) → j < i → Bef (cell_at cs j).end (cell_at cs j).key n k) → i ≤ length cs → Lower n k (map cell_of (take i cs))
lower_at n k cs zero h le = tt
lower_at n k [] (suc i) h le = tt
lower_at n k (c ∷ cs) (suc i) h le = (h 0 (omega arith), lower_at n k cs i (λ j p. h (suc j) (omega arith)) (omega arith))

stops_at : (n k : ℕ) (cs : List (Slot × Value)) (i : ℕ) → (i < length cs → Bef (cell_at cs i).end (cell_at cs i).key n k → ⊥) → Stops n k (map cell_of (drop i cs))
stops_at n k [] zero h = tt
stops_at n k [] (suc i) h = tt
stops_at n k (c ∷ cs) zero h = h (omega arith)
stops_at n k (c ∷ cs) (suc i) h = stops_at n k cs i (λ p. h (omega arith))

-- a value goes past the cells that stand before its end and key
pass_step : (s : spec.Sum) (n k v : ℕ) (c : spec.Cell) (xs ys : List spec.Cell) → Bef c.end c.key n k → spec.into s n k v (xs ++ ys) ≡ xs ++ spec.into s n k v ys → spec.into s n k v (c ∷ xs ++ ys) ≡ c ∷ xs ++ spec.into s n k v ys
unfolding spec.into
pass_step s n k v c xs ys b ih = grind (arith, nat_tests)

pass : (s : spec.Sum) (n k v : ℕ) (xs ys : List spec.Cell) → Lower n k xs → spec.into s n k v (xs ++ ys) ≡ xs ++ spec.into s n k v ys
pass s n k v [] ys l = refl
pass s n k v (c ∷ xs) ys l = pass_step s n k v c xs ys l.0 (pass s n k v xs ys l.1)

-- and stands in front of the next one, or is joined with it
in_front : (s : spec.Sum) (n k v : ℕ) (cs : List spec.Cell) → Stops n k cs → (0 < length cs → is_of n k (get_or cs 0 (cell_of none)) ≡ false) → spec.into s n k v cs ≡ record { end = n; key = k; value = spec.first s v } ∷ cs
unfolding spec.into
in_front s n k v [] st h = refl
in_front s n k v (c ∷ cs) st h = let t : is_of n k c ≡ false = h (omega arith) in grind (arith, nat_tests)

onto_it : (s : spec.Sum) (n k v : ℕ) (c : spec.Cell) (cs : List spec.Cell) → is_of n k c ≡ true → spec.into s n k v (c ∷ cs) ≡ record { end = n; key = k; value = spec.joined s c.value v } ∷ cs
unfolding spec.into
onto_it s n k v c cs h = grind (arith, nat_tests)

split : (cs : List (Slot × Value)) (i : ℕ) → map cell_of cs ≡ map cell_of (take i cs) ++ map cell_of (drop i cs)
split cs zero = refl
split [] (suc i) = refl
split (c ∷ cs) (suc i) = ap (λ (xs : List spec.Cell). cell_of c ∷ xs) (split cs i)

pub head_is : (cs : List (Slot × Value)) (i : ℕ) → i < length cs → map cell_of (drop i cs) ≡ cell_at cs i ∷ map cell_of (drop (suc i) cs)
head_is [] i lt = absurd (omega arith)
head_is (c ∷ cs) zero lt = refl
head_is (c ∷ cs) (suc i) lt = head_is cs i (omega arith)

head_at : (cs : List (Slot × Value)) (i : ℕ) → 0 < length (map cell_of (drop i cs)) → (i < length cs) × (get_or (map cell_of (drop i cs)) 0 (cell_of none) ≡ cell_at cs i)
head_at [] zero h = absurd (omega arith)
head_at [] (suc i) h = absurd (omega arith)
head_at (c ∷ cs) zero h = (omega arith, refl)
head_at (c ∷ cs) (suc i) h = let r = head_at cs i h in (omega (arith, r.0), r.1)

-- what was read at a place is what stands there
pub item_is : (cs : List (Slot × Value)) (i : ℕ) (y : Slot × Value) → i < length cs → y ≡ get_or cs i y → y ≡ get_or cs i none
item_is [] i y lt e = absurd (omega arith)
item_is (c ∷ cs) zero y lt e = e
item_is (c ∷ cs) (suc i) y lt e = item_is cs i y (omega arith) e

module _ (s : spec.Sum) (v : ℕ) (cs : List (Slot × Value)) (x : Slot × Value) (i : ℕ) (b : Splits x.0.end.0 x.0.key.0 cs i) where
  front : Lower x.0.end.0 x.0.key.0 (map cell_of (take i cs))
  front = lower_at x.0.end.0 x.0.key.0 cs i b.low b.within

  -- a cell of its own
  pub add_new : x.1.0 ≡ spec.first s v → false ≡ ltb i (length cs) && is_of x.0.end.0 x.0.key.0 (cell_at cs i) → map cell_of (insert cs i x) ≡ spec.into s x.0.end.0 x.0.key.0 v (map cell_of cs)
  add_new e h =
      rw (
        map-append cell_of (take i cs) (x ∷ drop i cs),
        split cs i,
        pass s x.0.end.0 x.0.key.0 v (map cell_of (take i cs)) (map cell_of (drop i cs)) front,
        in_front s x.0.end.0 x.0.key.0 v (map cell_of (drop i cs)) (stops_at x.0.end.0 x.0.key.0 cs i (b.high i (omega arith))) other,
        e,
      )
    where
      other : 0 < length (map cell_of (drop i cs)) → is_of x.0.end.0 x.0.key.0 (get_or (map cell_of (drop i cs)) 0 (cell_of none)) ≡ false
      other p = let q = head_at cs i p in let lt : i < length cs = q.0 in rw q.1 (grind (arith, nat_tests))

  -- joined with the cell that is there
  pub add_same : (y : Slot × Value) → y ≡ get_or cs i y → x.1.0 ≡ spec.joined s y.1.0 v → true ≡ ltb i (length cs) && is_of x.0.end.0 x.0.key.0 (cell_at cs i) → map cell_of (set cs i x) ≡ spec.into s x.0.end.0 x.0.key.0 v (map cell_of cs)
  add_same y at e h =
      let lt : i < length cs = grind (arith, nat_tests) in
      let is : is_of x.0.end.0 x.0.key.0 (cell_at cs i) ≡ true = grind (arith, nat_tests) in
      rw (
        set_split cs i x lt,
        map-append cell_of (take i cs) (x ∷ drop (suc i) cs),
        split cs i,
        pass s x.0.end.0 x.0.key.0 v (map cell_of (take i cs)) (map cell_of (drop i cs)) front,
        head_is cs i lt,
        onto_it s x.0.end.0 x.0.key.0 v (cell_at cs i) (map cell_of (drop (suc i) cs)) is,
        e,
        item_is cs i y lt at,
      )

-- sorted cells stay so
pub sorted_new : (s : spec.Sum) (n k v : ℕ) (cs new : List (Slot × Value)) → map cell_of new ≡ spec.into s n k v (map cell_of cs) → Sorted (map cell_of cs) → Sorted (map cell_of new)
sorted_new s n k v cs new e h = rw e (sorted_into s n k v (map cell_of cs) h)
