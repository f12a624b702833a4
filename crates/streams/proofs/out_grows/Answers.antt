use Rattle.streams.proofs.out_grows.Goals as goal
use Rattle.streams.proofs.Opens.{out_grows}

pub returns : goal.returns
returns c = out_grows
