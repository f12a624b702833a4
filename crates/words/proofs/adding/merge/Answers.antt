use Rattle.std.proofs.Common.{List, ℕ, take, ap, sym, subst, ◌∙◌, arith}
use Rattle.book.specs.Rows.{Sorted, onto}
use Rattle.rows.specs.Model.{rows_of, aggregates_of}
use Rattle.words.proofs.Tables.{rows_kept, many_lent}
use Rattle.words.proofs.adding.merge.Goals as goal

pub merge-requires-clause-room : goal.merge-requires-clause-room
merge-requires-clause-room c = omega (arith, c.requires.room, many_lent 4 c.args.words.now c.as_items_mut-rows.ensures.value.0)

pub returns-clause-rows : goal.returns-clause-rows
returns-clause-rows c =
    rows_kept c.merge.result c.args.words.now c.merge.new.slots c.as_items_mut-rows.ensures.value c.merge.auto.slots ∙ c.merge.ensures.rows
    ∙ ap (λ (xs : List (List ℕ)). onto (aggregates_of c.args.stages.now) (rows_of c.args.from.now) (rows_of (take c.args.count xs))) c.as_items_mut-rows.ensures.value.0

pub returns-clause-sorted : goal.returns-clause-sorted
returns-clause-sorted c = subst Sorted (sym (rows_kept c.merge.result c.args.words.now c.merge.new.slots c.as_items_mut-rows.ensures.value c.merge.auto.slots)) c.merge.ensures.sorted
