use Rattle.worker.proofs.how_soon.Goals as goal
use Rattle.worker.proofs.Smalllaws.{small_within}

pub returns : goal.returns
returns c = small_within
