use Rattle.std.proofs.Common.{◌∙◌}
use Rattle.plans.proofs.Values.{joined_is}
use Rattle.plans.proofs.stages.Aggregate.joined.Goals as goal

pub returns : goal.returns
returns c = c.together.ensures ∙ rw c.first.ensures (joined_is _ _ _)
