use Rattle.shelf.proofs.alone_happens.Goals as goal
use Rattle.shelf.specs.Moments.{hand}
use Rattle.shelf.proofs.Scripts.{alone_happens}

pub returns : goal.returns
returns c = λ w all a i lt fs t r. alone_happens (hand w) all i lt a.goes r
