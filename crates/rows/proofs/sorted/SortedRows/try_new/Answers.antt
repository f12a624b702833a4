use Rattle.std.proofs.Common.{rules}
use Rattle.std.proofs.lemmas.List.Sorted.{answers_always}
use Rattle.book.specs.Rows.{Sorted}
use Rattle.rows.specs.Model.{rows_of}
use Rattle.rows.proofs.Adjacent.{before, sorted_yes, sorted_no}
use Rattle.rows.proofs.sorted.SortedRows.try_new.Goals.{Then-is_sorted_by}
use Rattle.rows.proofs.sorted.SortedRows.try_new.Goals as goal

sorted : (c : goal.Then-is_sorted_by) → Sorted (rows_of c.args.rows.now)
sorted c = let h = c.is_sorted_by.ensures.cases before (answers_always _ _ _ (λ f a r g k. search rules)) in sorted_yes c.args.rows.now (rw c.if-is_sorted_by.true at h)

pub invariant_of-result : goal.invariant_of-result
invariant_of-result c = sorted c

pub returns-then-is_sorted_by-clause-some : goal.returns-then-is_sorted_by-clause-some
returns-then-is_sorted_by-clause-some c = (λ e. sorted c, λ s. search rules)

pub returns-else-is_sorted_by-clause-some : goal.returns-else-is_sorted_by-clause-some
returns-else-is_sorted_by-clause-some c = let h = c.is_sorted_by.ensures.cases before (answers_always _ _ _ (λ f a r g k. search rules)) in
    (λ e. absurd (cc), λ s. absurd (sorted_no c.args.rows.now (rw c.if-is_sorted_by.false at h) s))
