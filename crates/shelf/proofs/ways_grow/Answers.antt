use Rattle.shelf.proofs.ways_grow.Goals as goal
use Rattle.shelf.proofs.Moments.{ways_grow}

pub returns : goal.returns
returns c = λ w all a k x m. ways_grow a k x m
