use Rattle.std.proofs.Common.{◌≡◌, ap, ◌∙◌, subst, sym}
use Rattle.book.specs.Rows.{Sorted}
use Rattle.rows.specs.Model.{rows_of}
use Rattle.rows.proofs.table.Rows.take_share.Goals as goal

-- what is moved
moved : (c : goal.After-remove_range) → rows_of c.assign.new.self.items ≡ c.part.result
moved c = ap rows_of c.assign.ensures.items ∙ c.as_slice.ensures.rows

pub returns-clause-sorted : goal.returns-clause-sorted
returns-clause-sorted c = subst Sorted (sym (moved c)) c.as_slice.ensures.sorted

pub returns-clause-shared : goal.returns-clause-shared
returns-clause-shared c = rw (moved c, c.part.ensures, c.remove_range.ensures.rows, ← c.as_sorted-rows.ensures) c.share-part.ensures.shared
