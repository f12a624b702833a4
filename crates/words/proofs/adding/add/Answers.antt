use Rattle.std.proofs.Common.{List, ℕ, take, ap, sym, subst, ◌∙◌, arith}
use Rattle.book.specs.Rows.{Sorted, add as added}
use Rattle.rows.specs.Model.{row_of, rows_of, aggregates_of}
use Rattle.words.proofs.Tables.{rows_kept, many_lent}
use Rattle.words.proofs.adding.add.Goals as goal

pub add-requires-clause-room : goal.add-requires-clause-room
add-requires-clause-room c = omega (arith, c.requires.room, many_lent 4 c.args.words.now c.as_items_mut-rows.ensures.value.0)

pub returns-clause-rows : goal.returns-clause-rows
returns-clause-rows c =
    rows_kept c.add.result c.args.words.now c.add.new.slots c.as_items_mut-rows.ensures.value c.add.auto.slots ∙ c.add.ensures.rows
    ∙ ap (λ (xs : List (List ℕ)). added (aggregates_of c.args.stages.now) (row_of c.args.row) (rows_of (take c.args.count xs))) c.as_items_mut-rows.ensures.value.0

pub returns-clause-sorted : goal.returns-clause-sorted
returns-clause-sorted c = subst Sorted (sym (rows_kept c.add.result c.args.words.now c.add.new.slots c.as_items_mut-rows.ensures.value c.add.auto.slots)) c.add.ensures.sorted
