use Rattle.streams.proofs.join_associates.Goals as goal
use Rattle.streams.proofs.Join.{join_associates}

pub returns : goal.returns
returns c = join_associates
