use Rattle.std.proofs.Common.{sym}
use Rattle.replies.proofs.Listed.{length_listed}
use Rattle.replies.proofs.events.Events.len.Goals as goal

pub returns : goal.returns
returns c = sym (length_listed _ c.args.self.now.bytes.now)
