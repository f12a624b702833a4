use Rattle.tables.proofs.Moves.{inserted}
use Rattle.tables.proofs.insert_from_slice.Goals as goal

pub returns-clause-items : goal.returns-clause-items
returns-clause-items g c = rw (c.copy_from_slice.ensures.after, c.copy_within.ensures.after) (inserted c.args.slots.now c.args.from.now c.args.i c.args.count c.requires.within c.requires.room)
