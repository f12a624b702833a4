use Rattle.streams.proofs.limits_needed.Goals as goal
use Rattle.streams.proofs.Needed.{limits_needed}

pub returns : goal.returns
returns c = limits_needed
