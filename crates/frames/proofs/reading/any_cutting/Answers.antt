use Rattle.frames.proofs.Cut.{any_cutting}
use Rattle.frames.proofs.reading.any_cutting.Goals as goal

pub returns : goal.returns
returns c = any_cutting
