use Rattle.std.proofs.Common.{ap}
use Rattle.std.proofs.Common.{map}
use Rattle.plans.specs.Model.{stage_of}
use Rattle.boxes.proofs.Fits.{stages_fit}
use Rattle.boxes.proofs.steps.step.Goals as goal

pub turn-requires-clause-stages : goal.turn-requires-clause-stages
turn-requires-clause-stages c = stages_fit c.args.plan.now c.as_slice-2.result.now _ c.valid.ensures c.if-not-valid.false (ap (map stage_of) c.as_slice-2.ensures.value)
