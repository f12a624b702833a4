use Rattle.std.proofs.Common.{◌≤◌, ◌-◌, length, map, vec_items}
use Rattle.plans.specs.Model.{as_event}
use Rattle.windows.specs.Table.{Leaves}
use Rattle.windows.proofs.stages.pass.Given as goal

abbrev pub invariant-loop-at : goal.invariant-loop-at
invariant-loop-at l = (l.at ≤ length l.run) × Leaves l.slot.end.0 l.slot.key.0 l.run l.from l.at (map as_event (vec_items l.initial.events)) (map as_event (vec_items l.events))

abbrev pub decreases-loop-at : goal.decreases-loop-at
decreases-loop-at l = length l.run - l.at
