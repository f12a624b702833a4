use Rattle.shelf.proofs.one_content.Goals as goal
use Rattle.shelf.proofs.Moments.{one_content}

pub returns : goal.returns
returns c = λ w all a k b. one_content a k b
