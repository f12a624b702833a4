use Rattle.turns.proofs.Spills.{range_within}
use Rattle.turns.proofs.moving.spill_into.Goals as goal

pub spill-spilt-requires-clause-within : goal.spill-spilt-requires-clause-within
spill-spilt-requires-clause-within c = range_within c.args.fullest.now.range c.args.fullest.now.number c.args.queue.now.segments.items c.requires.range
