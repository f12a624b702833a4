use Rattle.windows.proofs.Loops.{gather_more, gather_all}
use Rattle.windows.proofs.stages.gather.Goals as goal

pub loop-log-preserved : goal.loop-log-preserved
loop-log-preserved c =
    gather_more c.args.late.0 c.args.logs.now _ _ c.loop-log.invariant c.log-item.result c.loop-log-test.true c.log-item.is _ (rw c.deref.ensures.value at c.in_ok-append_in_time.ensures)

pub returns : goal.returns
returns c = gather_all c.args.late.0 c.args.logs.now _ _ c.loop-log.invariant c.loop-log-test.false
