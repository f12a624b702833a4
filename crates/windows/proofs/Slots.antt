-- A map's entries as cells: what stands at a slot once a value is added there is what the meaning has.
-- Assumes nothing.
use Rattle.std.proofs.Common.{◌≡◌, ℕ, Bool, true, false, ◌&&◌, eqb, List, [], ◌∷◌, map, Some, None, Option, Ordering, refl, ap, arith}
use Rattle.std.proofs.lemmas.Bool.Decides.{nat_tests}
use Rattle.std.specs.Ordering.{MatchOrdering}
use Rattle.std.specs.Ordering as ord
use Rattle.std.specs.Cmp.{IsTotalOrder}
use Rattle.std.proofs.lemmas.Cmp.{then_total, on_total, nat_cmp_total}
use Rattle.std.specs.BTreeMap.{insert_entry, is_at}
use Rattle.std.specs.List.Sorted.{IsStrictlySortedBy}
use Rattle.std.specs.List.{AllByRecursion}
use Rattle.std.specs.Map.{keys_of, lookup}
use Rattle.std.proofs.lemmas.Map.{lookup-none}
use Rattle.std.proofs.lemmas.Map.Entries.{none_below_head, lookup_head, lookup_tail}
use Rattle.streams.specs.Meaning as spec
use Rattle.streams.specs.Order.{before, Above, Sorted}
use Rattle.plans.specs.declared.numbers.Value.{Value}
use Rattle.windows.specs.declared.cells.Slot.{Slot}
use Rattle.windows.specs.Model.{cell_of}
use Rattle.windows.specs.contracts.cells.SlotOrd.TheImpl as order

abbrev cmp : Slot → Slot → Ordering
cmp = order.cmp-value.it

total : IsTotalOrder cmp
total = then_total (on_total (λ (p : Slot). p.end.0) nat_cmp_total) (on_total (λ (p : Slot). p.key.0) nat_cmp_total)

abbrev same : Slot → Slot → Bool
same a b = eqb a.end.0 b.end.0 && eqb a.key.0 b.key.0

-- the derived order is that of cells
ranks : (a b : Slot) → MatchOrdering (cmp a b) (before a.end.0 a.key.0 b.end.0 b.key.0 ≡ true) ((before a.end.0 a.key.0 b.end.0 b.key.0 ≡ false) × (same a b ≡ true)) ((before a.end.0 a.key.0 b.end.0 b.key.0 ≡ false) × (same a b ≡ false))
ranks a b = grind (arith, nat_tests)

-- the value at a slot, with one more: the first, or one behind those before
abbrev pub Grown : (s : spec.Sum) (v : ℕ) → Value → Option Value → Type 0
Grown s v r None = r.0 ≡ spec.first s v
Grown s v r (Some a) = r.0 ≡ spec.joined s a.0 v

pub grown_into : (s : spec.Sum) (d : Slot) (v : ℕ) (r : Value) (es : List (Slot × Value)) → IsStrictlySortedBy cmp (keys_of es) → Grown s v r (lookup (is_at (cmp d)) es) → map cell_of (insert_entry cmp es d r) ≡ spec.into s d.end.0 d.key.0 v (map cell_of es)
unfolding spec.into IsStrictlySortedBy
grown_into s d v r [] st g = rw g refl
grown_into s d v r (x ∷ xs) st g = go (cmp d x.0) refl (ranks d x.0) (grown_into s d v r xs st.1)
  where
    b : Bool
    b = before d.end.0 d.key.0 x.0.end.0 x.0.key.0

    go : (o : Ordering) → cmp d x.0 ≡ o → MatchOrdering o (b ≡ true) ((b ≡ false) × (same d x.0 ≡ true)) ((b ≡ false) × (same d x.0 ≡ false)) → (Grown s v r (lookup (is_at (cmp d)) xs) → map cell_of (insert_entry cmp xs d r) ≡ spec.into s d.end.0 d.key.0 v (map cell_of xs)) → map cell_of (insert_entry cmp (x ∷ xs) d r) ≡ spec.into s d.end.0 d.key.0 v (map cell_of (x ∷ xs))
    go Ordering.Less q h more = rw (q, h, rw (lookup-none _ _ (none_below_head total d x xs st q)) at g) refl
    go Ordering.Equal q h more =
        let e : d.end.0 ≡ x.0.end.0 = grind (arith, nat_tests) in
        let k : d.key.0 ≡ x.0.key.0 = grind (arith, nat_tests) in
        let n = rw (lookup_head (is_at (cmp d)) x xs (ap ord.is_eq q)) at g in
        rw (q, h.0, h.1, n, e, k) refl
    go Ordering.Greater q h more = rw (q, h.0, h.1) (ap (λ (cs : List spec.Cell). cell_of x ∷ cs) (more (rw (lookup_tail (is_at (cmp d)) x xs (ap ord.is_eq q)) at g)))

-- a map's entries are sorted cells
above_keys : (d : Slot) (es : List (Slot × Value)) → AllByRecursion (λ y. cmp d y ≡ Ordering.Less) (keys_of es) → Above d.end.0 d.key.0 (map cell_of es)
above_keys d [] h = tt
above_keys d (x ∷ xs) h = (let q : cmp d x.0 ≡ Ordering.Less = h.0 in grind (arith, nat_tests), above_keys d xs h.1)

pub sorted_keys : (es : List (Slot × Value)) → IsStrictlySortedBy cmp (keys_of es) → Sorted (map cell_of es)
unfolding IsStrictlySortedBy
sorted_keys [] h = tt
sorted_keys (x ∷ xs) h = (above_keys x.0 xs h.0, sorted_keys xs h.1)
