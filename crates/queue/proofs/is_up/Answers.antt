use Rattle.std.proofs.Common.{◌≡◌, not, ◌∙◌, arith}
use Rattle.std.proofs.lemmas.Bool.Decides.{nat_tests}
use Rattle.book.specs.Rows.{ltk}
use Rattle.rows.specs.Model.{key_of}
use Rattle.segs.specs.Model.{seg_of}
use Rattle.queue.proofs.Places.{up_none, up_first}
use Rattle.queue.proofs.is_up.Goals as goal

pub returns-in-empty : goal.returns-in-empty
returns-in-empty c = up_none c.args.segments.now (key_of c.args.key) (omega arith)

low : (c : goal.After-le) → c.le.result ≡ not (ltk (key_of c.args.key) (seg_of c.from.result).low)
unfolding ltk
low c = grind (arith, nat_tests)

pub returns-in-len1-up : goal.returns-in-len1-up
returns-in-len1-up c = low c ∙ up_first c.args.segments.now (key_of c.args.key) (seg_of c.from.result) _ (omega arith) c.from.ensures.is
