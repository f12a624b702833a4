use Rattle.system.proofs.Together.{real_whole}
use Rattle.system.proofs.comes_out.Goals as goal

pub returns : goal.returns
returns c = real_whole.0.1
