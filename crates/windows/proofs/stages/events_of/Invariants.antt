use Rattle.std.proofs.Common.{◌≡◌, ◌≤◌, ◌++◌, length, map, drop, vec_items}
use Rattle.streams.specs.Meaning.{as_events}
use Rattle.streams.specs.Order.{Sorted}
use Rattle.streams.specs.Laws.{join}
use Rattle.plans.specs.Model.{as_event, as_sum}
use Rattle.windows.specs.Model.{cell_of}
use Rattle.windows.specs.Table.{cells_of}
use Rattle.windows.proofs.stages.events_of.Given as goal

-- the events so far, and those of what is left of both
abbrev pub invariant-loop-slot : goal.invariant-loop-slot
invariant-loop-slot l =
    (l.at ≤ length l.run) × Sorted (map cell_of l.slot-iterator)
    × (map as_event (vec_items l.events) ++ as_events (join (as_sum l.how) (map cell_of (drop l.at l.run)) (map cell_of l.slot-iterator)) ≡ as_events (cells_of (as_sum l.how) l.cells))

abbrev pub invariant-loop-cell : goal.invariant-loop-cell
invariant-loop-cell l = map as_event (vec_items l.events) ++ as_events (map cell_of (drop l.cell-index l.cell-items)) ≡ map as_event (vec_items l.initial.events) ++ as_events (map cell_of l.cell-items)
