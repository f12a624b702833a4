use Rattle.tables.proofs.Moves.{removed}
use Rattle.tables.proofs.remove_range.Goals as goal

pub returns-clause-items : goal.returns-clause-items
returns-clause-items g c = rw (c.copy_within.ensures.after) (removed c.args.slots.now c.args.range.start c.args.range.end c.args.count c.requires.order c.requires.within c.requires.whole)
