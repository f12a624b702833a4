use Rattle.std.proofs.Common.{◌≡◌, ℕ, ◌/◌, ◌⊎◌, length, inl, inr, ap, ◌∙◌, arith}
use Rattle.std.proofs.lemmas.List.{length-drop}
use Rattle.book.specs.Queue.{page}
use Rattle.rows.specs.Model.{rows_of, aggregates_of}
use Rattle.segs.specs.Model.{page_link}
use Rattle.rows.proofs.Places.{as_long}
use Rattle.spills.proofs.Joins.{no_link, a_link, join_none, join_fits, join_beside, join_two, joined}
use Rattle.spills.proofs.pages.join_page.Goals.{else-is_none-2-via-then-is_none-2+else-is_none-3, else-is_none-2-via-else-is_none-2}
use Rattle.spills.proofs.pages.join_page.Goals as goal

pub returns-then-is_none-clause-is : goal.returns-then-is_none-clause-is
returns-then-is_none-clause-is c = λ n. join_none _ _ n _ _ _ _ _ (no_link c.args.segment.head c.if-is_none.ensures)

pub returns-then-as_slice-size-clause-is : goal.returns-then-as_slice-size-clause-is
returns-then-as_slice-size-clause-is c =
    let moved = ap rows_of c.as_slice.ensures.items in
    let all = joined (aggregates_of c.args.stages.now) c.merge.ensures.rows moved c.assign.ensures.rows in
    let kept = ap rows_of c.assign-then-as_slice-size.ensures.items ∙ c.as_slice-then-as_slice-size.ensures.rows in
    let long = as_long c.as_slice-2.result.now c.as_slice-2.ensures.rows in
    λ n. join_fits _ _ n _ _ _ _ _ _ _ (a_link c.args.segment.head c.if-is_none.ensures).1 (kept ∙ all) (omega (arith, ap length kept, long, c.if-as_slice-size.true))

pub returns-then-is_none-3-clause-is : goal.returns-then-is_none-3-clause-is
returns-then-is_none-3-clause-is c =
    let moved = ap rows_of c.as_slice.ensures.items in
    let all = joined (aggregates_of c.args.stages.now) c.merge.ensures.rows moved c.assign.ensures.rows in
    let long = as_long c.as_slice-2.result.now c.as_slice-2.ensures.rows in
    let half = length-drop (length c.merge.new.self.items / 2) c.merge.new.self.items in
    λ n. join_two _ _ n _ _ _ _ _ _ _ _ _ (a_link c.args.segment.head c.if-is_none.ensures).1 all (omega (arith, long, c.if-as_slice-size.false))
    (no_link c.args.segment.index c.if-is_none-2.ensures) (no_link c.args.shown.now.below c.if-is_none-3.ensures) c.split.ensures.halves
    (omega (arith, ap length c.split.ensures.halves.1, half, long, c.if-as_slice-size.false, c.requires.size))

pub returns-clause-is : goal.returns-clause-is
returns-clause-is c =
    let moved = ap rows_of c.as_slice.ensures.items in
    let all = joined (aggregates_of c.args.stages.now) c.merge.ensures.rows moved c.assign.ensures.rows in
    let long = as_long c.as_slice-2.result.now c.as_slice-2.ensures.rows in
    let other : (a : ℕ) × ((page_link c.args.segment.index ≡ page a) ⊎ (page_link c.args.shown.now.below ≡ page a)) = elim c.else-is_none-2.branch [
      | else-is_none-2-via-then-is_none-2+else-is_none-3 w ↦ let l = a_link c.args.shown.now.below w.if-is_none-3.ensures in (l.0, inr l.1)
      | else-is_none-2-via-else-is_none-2 w ↦ let l = a_link c.args.segment.index w.if-is_none-2.ensures in (l.0, inl l.1)
    ] in
    λ n. join_beside _ _ n _ _ _ _ _ _ _ _ (a_link c.args.segment.head c.if-is_none.ensures).1 all (omega (arith, long, c.if-as_slice-size.false)) other.1
