-- Cells in a run and beside it: what they stand for, where a slot stands in the run, and what adding a value there leaves.
-- Assumes nothing.
use Rattle.std.specs.Prelude.{◌≡◌, ℕ, ◌<◌, ◌≤◌, Bool, true, false, ◌&&◌, List, ◌∷◌, ◌++◌, map, drop, length, Ok, Err, Result, ◌==◌, slice_index_or}
use Rattle.streams.specs.Meaning as spec
use Rattle.streams.specs.Order.{Bef, Sorted, before}
use Rattle.streams.specs.Laws.{join}
use Rattle.plans.specs.declared.numbers.Value.{Value}
use Rattle.windows.specs.declared.cells.Slot.{Slot}
use Rattle.windows.specs.declared.cells.Cells.{Cells}
use Rattle.windows.specs.Model.{cell_of}

-- the cells of a run and of strays: what the values of a window and key come to in both
abbrev pub cells_of : spec.Sum → Cells → List spec.Cell
cells_of s c = join s c.run (map cell_of c.strays.entries)

-- what comes of a cell, just before its end
abbrev pub event_of : spec.Cell → spec.Event
event_of c = record { time = spec.less_by 1 c.end; key = c.key; value = c.value }

-- what stands past the end
abbrev pub none : Slot × Value
none = (record { end = record { 0 = 0 }; key = record { 0 = 0 } }, record { 0 = 0 })

abbrev pub cell_at : List (Slot × Value) → ℕ → spec.Cell
cell_at cs j = cell_of (slice_index_or cs j none)

-- is a cell that of an end and key
abbrev pub is_of : (n k : ℕ) → spec.Cell → Bool
is_of n k c = n == c.end && k == c.key

-- the first `lo` cells stand before an end and key, and those from `hi` on do not
pub record Between (n k : ℕ) (cs : List (Slot × Value)) (lo hi : ℕ) : Type 0 where
  pub order : lo ≤ hi
  pub within : hi ≤ length cs
  pub low : (j : ℕ) → j < lo → Bef (cell_at cs j).end (cell_at cs j).key n k
  pub high : (j : ℕ) → hi ≤ j → j < length cs → Bef (cell_at cs j).end (cell_at cs j).key n k → ⊥

abbrev pub Splits : (n k : ℕ) → List (Slot × Value) → ℕ → Type 0
Splits n k cs i = Between n k cs i i

-- the cells after a value came: with it, or as they were where it was not taken
abbrev pub Taken : {E : Type 0} → spec.Sum → (n k v : ℕ) → (was now : List spec.Cell) → Result Bool E → Type 0
Taken s n k v was now (Ok true) = now ≡ spec.into s n k v was
Taken s n k v was now (Ok false) = now ≡ was
Taken s n k v was now (Err x) = now ≡ was

-- whatever else has to go out from a slot on, events and what a run has left from a place on are those before with what it had left
abbrev pub Leaves : (n k : ℕ) → List (Slot × Value) → (from to : ℕ) → (was now : List spec.Event) → Type 0
Leaves n k run from to was now =
    (s : spec.Sum) (v : ℕ) (ys : List spec.Cell) → Sorted (record { end = n; key = k; value = v } ∷ ys) →
    was ++ spec.as_events (join s (map cell_of (drop from run)) (record { end = n; key = k; value = v } ∷ ys)) ≡ now ++ spec.as_events (join s (map cell_of (drop to run)) (record { end = n; key = k; value = v } ∷ ys))

-- the events of a run's cells that stand before a slot went out
abbrev pub Passed : {E : Type 0} → (n k : ℕ) → List (Slot × Value) → (from : ℕ) → (was now : List spec.Event) → Result ℕ E → Type 0
Passed n k run from was now (Ok to) = (to ≤ length run) × (to < length run → before (cell_at run to).end (cell_at run to).key n k ≡ false) × Leaves n k run from to was now
Passed n k run from was now (Err x) = Unit {0}
