use Rattle.std.proofs.Common.{subst, sym}
use Rattle.book.specs.Rows.{Sorted}
use Rattle.rows.proofs.Parts.{part_rows, sorted_left}
use Rattle.rows.proofs.Places.{sorted_right}
use Rattle.rows.proofs.sorted.SortedRows.part.Goals as goal

pub invariant_of-result : goal.invariant_of-result
invariant_of-result c =
    let a = c.args.range.start in
    let b = c.args.range.end in
    subst Sorted (sym (part_rows c.self.inside.rows.now a b)) (sorted_right a _ (sorted_left b _ c.self.invariant))

pub returns : goal.returns
returns c = rw (← c.self.view_is) (part_rows c.self.inside.rows.now c.args.range.start c.args.range.end)
