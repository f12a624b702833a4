use Rattle.std.proofs.Common.{map}
use Rattle.plans.specs.Model.{as_sum}
use Rattle.windows.specs.Model.{cell_of}
use Rattle.windows.proofs.Merge.{run_took, stray_took}
use Rattle.windows.proofs.cells.add.Goals as goal

pub returns-then-branch : goal.returns-then-branch
returns-then-branch c =
    run_took (as_sum c.args.how) _ _ _ _ _ (map cell_of c.args.cells.now.strays.entries) (rw c.if-branch.true at c.in_ok-add.ensures.cells)

pub returns : goal.returns
returns c =
    stray_took (as_sum c.args.how) _ _ _ _ _ _ _ (rw c.if-branch.false at c.in_ok-add.ensures.cells) c.in_ok-add.ensures.sorted c.in_ok-add_stray.ensures
