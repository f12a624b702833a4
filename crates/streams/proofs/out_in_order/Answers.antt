use Rattle.streams.proofs.out_in_order.Goals as goal
use Rattle.streams.proofs.Opens.{out_in_order}

pub returns : goal.returns
returns c = out_in_order
