use Rattle.windows.proofs.Stage.{sized_at, stage_more, stage_all}
use Rattle.windows.proofs.stages.through_all.Goals as goal

pub through-requires : goal.through-requires
through-requires c = sized_at c.args.stages.now _ _ c.requires c.loop-stage-test.true c.stage-item.is

pub loop-stage-preserved : goal.loop-stage-preserved
loop-stage-preserved c = stage_more c.args.stages.now _ c.args.mark.0 _ c.loop-stage.invariant c.stage-item.result _ c.loop-stage-test.true c.stage-item.is (rw c.deref.ensures.value at c.in_ok-so_far.ensures)

pub returns : goal.returns
returns c = stage_all c.args.stages.now _ c.args.mark.0 _ c.loop-stage.invariant c.loop-stage-test.false
