use Rattle.std.proofs.Common.{◌≡◌, true, false, arith}
use Rattle.std.proofs.lemmas.Bool.Decides.{nat_tests}
use Rattle.book.specs.Rows.{ltk}
use Rattle.rows.specs.Model.{key_of, row_of}
use Rattle.rows.proofs.Halves.{halved_more}
use Rattle.rows.proofs.Places.{search_up, search_down}
use Rattle.rows.proofs.sorted.SortedRows.find.Goals as goal

before : (c : goal.Then-lt) → ltk (row_of c.from-row.result).at (key_of c.args.key) ≡ true
unfolding ltk
before c = grind (arith, nat_tests)

not_before : (c : goal.Else-lt) → ltk (row_of c.from-row.result).at (key_of c.args.key) ≡ false
unfolding ltk
not_before c = grind (arith, nat_tests)

pub loop-low-preserved-then-lt : goal.loop-low-preserved-then-lt
loop-low-preserved-then-lt c = (
  search_up c.self.inside.rows.now _ c.self.invariant c.loop-low.invariant.0 (omega arith) (omega arith) c.from-row.ensures (before c),
  halved_more c.loop-low.invariant.1 (omega arith) (omega arith),
)

pub loop-low-preserved : goal.loop-low-preserved
loop-low-preserved c = (
  search_down c.self.inside.rows.now _ c.self.invariant c.loop-low.invariant.0 (omega arith) (omega arith) c.from-row.ensures (not_before c),
  halved_more c.loop-low.invariant.1 (omega arith) (omega arith),
)
