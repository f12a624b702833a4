use Rattle.worker.proofs.one_book.Goals as goal
use Rattle.worker.specs.Small.{small}
use Rattle.worker.proofs.Together.{worker_keeps}
use Rattle.worker.proofs.Smalllaws.{small_safe}

pub returns : goal.returns
returns c = λ p logs most. (worker_keeps small p logs (small_safe p logs most)).0
