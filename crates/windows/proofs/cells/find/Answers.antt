use Rattle.std.proofs.Common.{arith}
use Rattle.windows.proofs.Table.{halve_up, halve_down}
use Rattle.windows.proofs.cells.find.Goals as goal

pub loop-lo-preserved-then-is_before : goal.loop-lo-preserved-then-is_before
loop-lo-preserved-then-is_before c = halve_up _ _ _ c.requires _ _ _ c.loop-lo.invariant (omega arith) (omega arith) c.if-is_before.ensures

pub loop-lo-preserved : goal.loop-lo-preserved
loop-lo-preserved c = halve_down _ _ _ c.requires _ _ _ c.loop-lo.invariant (omega arith) (omega arith) c.if-is_before.ensures
