use Rattle.std.proofs.Common.{refl}
use Rattle.streams.proofs.Logs.{less_by_is}
use Rattle.windows.proofs.stages.event_of.Goals as goal

pub returns : goal.returns
returns c = rw (c.saturating_sub.ensures, less_by_is 1 c.args.cell.0.end.0) refl
