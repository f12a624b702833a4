use Rattle.worker.proofs.one_is_enough.Goals as goal
use Rattle.worker.specs.Small.{small}
use Rattle.worker.proofs.Comesout.{worker_ends}
use Rattle.worker.proofs.Smalllaws.{small_safe, small_live}

pub returns : goal.returns
returns c = λ p logs one most. worker_ends small p logs (small_safe p logs most) (small_live p logs most) one
