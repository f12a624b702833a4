use Rattle.shelf.proofs.late_looks.Goals as goal
use Rattle.streams.specs.Promise.{streams}
use Rattle.shelf.proofs.Latelooks.{late_looks}

pub returns : goal.returns
returns c = λ p logs can es s as' rs b. late_looks (streams p logs can) b
