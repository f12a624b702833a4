use Rattle.system.proofs.Together.{real_within}
use Rattle.system.proofs.how_soon.Goals as goal

pub returns : goal.returns
returns c = real_within
