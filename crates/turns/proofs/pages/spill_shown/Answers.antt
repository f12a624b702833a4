use Rattle.std.proofs.Common.{rules}
use Rattle.turns.proofs.Spills.{spilled_alone}
use Rattle.turns.proofs.pages.spill_shown.Goals as goal

pub returns-then-is_none-clause-spilled : goal.returns-then-is_none-clause-spilled
returns-then-is_none-clause-spilled c = spilled_alone _ c.args.size c.args.fullest.now.number _ _ c.args.fullest.now.head c.args.queue.now _ _ _ _ (search rules) c.requires.head c.spill_into.ensures.spilled
