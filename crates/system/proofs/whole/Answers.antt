use Rattle.system.proofs.Together.{real_whole}
use Rattle.system.proofs.whole.Goals as goal

pub returns : goal.returns
returns c = real_whole
