use Rattle.std.proofs.Common.{◌-◌}
use Rattle.windows.specs.Table.{Between}
use Rattle.windows.proofs.cells.find.Given as goal

abbrev pub invariant-loop-lo : goal.invariant-loop-lo
invariant-loop-lo l = Between l.slot.end.0 l.slot.key.0 l.cells l.lo l.hi

abbrev pub decreases-loop-lo : goal.decreases-loop-lo
decreases-loop-lo l = l.hi - l.lo
