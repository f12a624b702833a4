use Rattle.streams.proofs.join_commutes.Goals as goal
use Rattle.streams.proofs.Join.{join_commutes}

pub returns : goal.returns
returns c = join_commutes
