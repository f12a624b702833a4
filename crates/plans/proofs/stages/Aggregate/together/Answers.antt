use Rattle.plans.proofs.Values.{together_sum, together_least, together_greatest}
use Rattle.plans.proofs.stages.Aggregate.together.Goals as goal

pub returns-in-Count : goal.returns-in-Count
returns-in-Count c = together_sum _ _ c.in-Count.is

pub returns-in-Least : goal.returns-in-Least
returns-in-Least c = together_least _ _ _ c.in-Least.is c.min.ensures

pub returns-in-Greatest : goal.returns-in-Greatest
returns-in-Greatest c = together_greatest _ _ _ c.in-Greatest.is c.max.ensures
