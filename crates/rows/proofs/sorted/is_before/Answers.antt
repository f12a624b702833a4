use Rattle.std.proofs.Common.{arith}
use Rattle.std.proofs.lemmas.Bool.Decides.{nat_tests}
use Rattle.book.specs.Rows.{ltk}
use Rattle.rows.proofs.sorted.is_before.Goals as goal

pub returns : goal.returns
unfolding ltk
returns c = grind (arith, nat_tests)
