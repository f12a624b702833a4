use Rattle.shelf.proofs.answers_belong.Goals as goal
use Rattle.shelf.proofs.Moments.{belongs}
use Rattle.streams.specs.Hands.{shows, says}

pub returns : goal.returns
returns c = λ w all a i c q. (λ x m. belongs a.goes (shows i c q x) m, λ d e m. belongs a.goes (says i c q d e) m)
