use Rattle.shelf.proofs.one_request.Goals as goal
use Rattle.shelf.specs.Moments.{hand}
use Rattle.shelf.proofs.Numbers.{fresh}

pub returns : goal.returns
returns c = λ w top up all a i c q x y m n. (fresh (hand w) top up a.goes).same i c q x y m n
