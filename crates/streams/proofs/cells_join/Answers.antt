use Rattle.streams.proofs.cells_join.Goals as goal
use Rattle.streams.proofs.Join.{cells_join}

pub returns : goal.returns
returns c = cells_join
