use Rattle.std.proofs.Common.{refl}
use Rattle.system.proofs.Together.{real_whole}
use Rattle.system.proofs.one_is_enough.Goals as goal

pub returns : goal.returns
returns c p ok logs one few = (real_whole.0.0 p refl ok logs one few).2
