use Rattle.frames.proofs.Again.{calls_again, replies_again}
use Rattle.frames.proofs.writing.read_again.Goals as goal

pub returns : goal.returns
returns c = record { calls = calls_again; replies = replies_again }
