use Rattle.std.proofs.Common.{arith}
use Rattle.windows.proofs.Merge.{pass_more, pushed}
use Rattle.windows.proofs.stages.pass.Goals as goal

pub loop-at-preserved : goal.loop-at-preserved
loop-at-preserved c = (
  omega (arith, c.loop-at-test.true),
  pass_more c.args.run.now c.requires.sorted c.loop-at.at _ _ _ _ _ _ c.loop-at-test.true c.if-is_before.ensures c.loop-at.invariant.1 (pushed _ _ _ _ c.in_ok-push.ensures.items c.event_of.ensures),
)
