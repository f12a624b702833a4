use Rattle.std.proofs.Common.{ap, map}
use Rattle.plans.specs.Model.{stage_of}
use Rattle.boxes.proofs.Fits.{stages_fit, all_times}
use Rattle.boxes.proofs.steps.take_log.Goals as goal

pub take-requires-clause-stages : goal.take-requires-clause-stages
take-requires-clause-stages c = stages_fit c.args.plan.now c.as_slice.result.now _ c.valid.ensures c.if-not-valid.false (ap (map stage_of) c.as_slice.ensures.value)

pub take-requires-clause-times : goal.take-requires-clause-times
take-requires-clause-times c = all_times _ _ c.all_small.ensures c.if-not-all_small.false
