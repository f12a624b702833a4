use Rattle.std.proofs.Common.{◌-◌, length}
use Rattle.rows.specs.Model.{key_of, rows_of}
use Rattle.rows.specs.Search.{Between}
use Rattle.rows.proofs.Halves.{Halved}
use Rattle.rows.proofs.sorted.SortedRows.find.Given as goal

abbrev pub invariant-loop-low : goal.invariant-loop-low
invariant-loop-low l = Between (key_of l.key) (rows_of l.rows) l.low l.high × Halved (length l.rows) (l.high - l.low) l.read

abbrev pub decreases-loop-low : goal.decreases-loop-low
decreases-loop-low l = l.high - l.low
