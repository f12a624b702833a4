use Rattle.std.proofs.Common.{◌<◌, ap, ◌∙◌, subst, sym, take, length, arith}
use Rattle.std.proofs.Math.Seq.{take-set-lt}
use Rattle.std.proofs.lemmas.List.{length-take-le, length-drop, length-map}
use Rattle.book.specs.Rows.{Sorted, put}
use Rattle.rows.specs.Model.{row_in, row_of, rows_of, aggregates_of}
use Rattle.rows.proofs.Order.{sorted_add}
use Rattle.rows.proofs.Places.{put_is, add_put, add_set}
use Rattle.rows.proofs.lent.add.Goals as goal

pub returns-in-Some-clause-rows : goal.returns-in-Some-clause-rows
returns-in-Some-clause-rows c =
    let slots = take c.args.count c.args.slots.now in
    let old = row_of c.in-Some.old in
    let place = rw c.new-rows.ensures at c.find-place.ensures.place in
    let here = rw c.new-rows.ensures at c.in-Some.ensures in
    let long = length-take-le c.args.count c.args.slots.now (omega (arith, c.requires.room)) in
    let lt : c.find-place.result.place < c.args.count = omega (arith, ap length here.0, length-drop c.find-place.result.place (rows_of slots), length-map slots row_in, long) in
    let e = c.together-value.ensures ∙ put_is _ _ _ ∙ ap (λ z. put z old.value (row_of c.args.row).value) c.aggregate_of-how.ensures in
    ap rows_of (take-set-lt c.args.count c.args.slots.now c.find-place.result.place c.into.result lt) ∙ add_set (aggregates_of c.args.stages.now) (row_of c.args.row) slots c.find-place.result.place c.together-value.result.0 c.in-Some.old c.into.result place here c.into.ensures e

pub returns-in-None-clause-rows : goal.returns-in-None-clause-rows
returns-in-None-clause-rows c =
    let place = rw c.new-rows.ensures at c.find-place.ensures.place in
    let none = rw c.new-rows.ensures at c.in-None.ensures in
    ap rows_of c.insert_from_slice.ensures.items ∙ add_put (aggregates_of c.args.stages.now) (row_of c.args.row) (take c.args.count c.args.slots.now) c.find-place.result.place c.into-in-None.result place none c.into-in-None.ensures

pub returns-in-Some-clause-sorted : goal.returns-in-Some-clause-sorted
returns-in-Some-clause-sorted c = subst Sorted (sym (returns-in-Some-clause-rows c)) (sorted_add _ _ _ c.requires.sorted)

pub returns-in-None-clause-sorted : goal.returns-in-None-clause-sorted
returns-in-None-clause-sorted c = subst Sorted (sym (returns-in-None-clause-rows c)) (sorted_add _ _ _ c.requires.sorted)
