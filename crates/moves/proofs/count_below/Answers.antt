use Rattle.std.proofs.Common.{arith}
use Rattle.rows.proofs.Places.{as_long}
use Rattle.segs.specs.Model.{seg_of}
use Rattle.moves.proofs.Moves.{cut_none, cut_first}
use Rattle.moves.proofs.count_below.Goals as goal

pub returns-in-empty : goal.returns-in-empty
returns-in-empty c = cut_none c.args.segments.now c.args.rows.now _ (omega arith) (as_long c.as_slice.result.now c.as_slice.ensures.rows)

pub returns-in-len1-up : goal.returns-in-len1-up
returns-in-len1-up c = cut_first c.args.segments.now c.args.rows.now _ (seg_of c.from.result) _ (omega arith) c.from.ensures.is c.find.ensures.place
