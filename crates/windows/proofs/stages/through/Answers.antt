use Rattle.std.proofs.Common.{refl}
use Rattle.streams.specs.Meaning.{cells, ended}
use Rattle.streams.specs.Laws.{join}
use Rattle.plans.specs.Model.{stage_of}
use Rattle.windows.proofs.Stage.{cells_more}
use Rattle.windows.proofs.stages.through.Goals as goal

pub loop-event-preserved : goal.loop-event-preserved
loop-event-preserved c = cells_more (stage_of c.args.stage.now) c.args.mark.0 c.args.events.now _ _ _ _ c.loop-event-test.true c.loop-event.invariant c.in_ok-absorb.ensures

pub loop-event-init : goal.loop-event-init
unfolding cells ended join
loop-event-init c = rw (c.new-cells.ensures.run, c.new-cells.ensures.strays) refl
