use Rattle.worker.proofs.whole.Goals as goal
use Rattle.worker.proofs.Smalllaws.{small_whole}

pub returns : goal.returns
returns c = small_whole
