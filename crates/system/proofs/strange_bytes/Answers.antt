use Rattle.system.proofs.Strange.{strange_bytes}
use Rattle.system.proofs.strange_bytes.Goals as goal

pub returns : goal.returns
returns c = strange_bytes
