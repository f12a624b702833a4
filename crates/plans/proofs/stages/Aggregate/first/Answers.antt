use Rattle.plans.proofs.Values.{first_count, first_value}
use Rattle.plans.proofs.stages.Aggregate.first.Goals as goal

pub returns-in-Count : goal.returns-in-Count
returns-in-Count c = first_count _ c.in-Count.is

pub returns-in-Total : goal.returns-in-Total
returns-in-Total c = first_value _ c.in-Total.is
