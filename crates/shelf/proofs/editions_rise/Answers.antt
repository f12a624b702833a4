use Rattle.shelf.proofs.editions_rise.Goals as goal
use Rattle.shelf.proofs.Moments.{rise_one}

pub returns : goal.returns
returns c = λ w all a b. rise_one a.goes b
