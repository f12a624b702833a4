use Rattle.std.proofs.Common.{◌≡◌, ℕ, ◌/◌, ◌≤◌, ◌⊎◌, length, take, drop, inl, inr, refl, ap, ◌∙◌, arith}
use Rattle.std.proofs.lemmas.List.{length-take-le, length-append, length-drop}
use Rattle.book.specs.Queue.{page}
use Rattle.rows.specs.Model.{rows_of, aggregates_of}
use Rattle.rows.proofs.Places.{as_long}
use Rattle.segs.specs.Model.{page_link}
use Rattle.spills.proofs.Joins.{no_link, a_link, join_none, join_fits, join_beside, join_two, joined}
use Rattle.spills.proofs.Fronts.{front_rows, long_rows, half_rows}
use Rattle.spills.proofs.lent.join_page.Goals.{else-is_none-2-via-then-is_none-2+else-is_none-3, else-is_none-2-via-else-is_none-2}
use Rattle.spills.proofs.lent.join_page.Goals as goal

pub returns-then-is_none-clause-is : goal.returns-then-is_none-clause-is
returns-then-is_none-clause-is c = λ n. join_none _ _ n _ _ _ _ _ (no_link c.args.segment.head c.if-is_none.ensures)

pub returns-then-all-size-clause-is : goal.returns-then-all-size-clause-is
returns-then-all-size-clause-is c =
    let how = aggregates_of c.args.stages.now in
    let rows = c.as_slice-rows.result.now in
    let whole : c.merge-all.result ≤ length c.merge-all.new.slots =
    omega (
      arith,
      c.merge-all.auto.slots,
      c.merge-all.ensures.few,
      length-append c.copy_from_slice.new.self (drop (length rows) c.args.upper.now),
      ap length c.copy_from_slice.ensures.after,
      length-drop (length rows) c.args.upper.now,
      length-take-le c.args.moved c.args.out.now (omega (arith, c.requires.moved, c.requires.out)),
      as_long rows c.as_slice-rows.ensures.rows,
      c.requires.shown,
      c.requires.moved,
      c.requires.upper,
    ) in
    let all = joined how c.merge-all.ensures.rows refl (front_rows c.copy_from_slice.new.self _ (length rows) (ap length c.copy_from_slice.ensures.after) (ap rows_of c.copy_from_slice.ensures.after ∙ c.as_slice-rows.ensures.rows)) in
    let long = long_rows c.merge-all.new.slots c.merge-all.result whole in
    let after = c.copy_from_slice-then-all-size.ensures.after in
    let kept = front_rows c.copy_from_slice-then-all-size.new.self (drop c.merge-all.result c.args.out.now) c.merge-all.result (ap length after ∙ length-take-le c.merge-all.result c.merge-all.new.slots whole) (ap rows_of after) in
    λ n. join_fits _ _ n _ _ _ _ _ _ _ (a_link c.args.segment.head c.if-is_none.ensures).1 (kept ∙ all) (omega (arith, ap length kept, long, c.if-all-size.true))

pub returns-then-is_none-3-clause-is : goal.returns-then-is_none-3-clause-is
returns-then-is_none-3-clause-is c =
    let how = aggregates_of c.args.stages.now in
    let rows = c.as_slice-rows.result.now in
    let whole : c.merge-all.result ≤ length c.merge-all.new.slots =
    omega (
      arith,
      c.merge-all.auto.slots,
      c.merge-all.ensures.few,
      length-append c.copy_from_slice.new.self (drop (length rows) c.args.upper.now),
      ap length c.copy_from_slice.ensures.after,
      length-drop (length rows) c.args.upper.now,
      length-take-le c.args.moved c.args.out.now (omega (arith, c.requires.moved, c.requires.out)),
      as_long rows c.as_slice-rows.ensures.rows,
      c.requires.shown,
      c.requires.moved,
      c.requires.upper,
    ) in
    let all = joined how c.merge-all.ensures.rows refl (front_rows c.copy_from_slice.new.self _ (length rows) (ap length c.copy_from_slice.ensures.after) (ap rows_of c.copy_from_slice.ensures.after ∙ c.as_slice-rows.ensures.rows)) in
    let long = long_rows c.merge-all.new.slots c.merge-all.result whole in
    let half = c.copy_from_slice-then-is_none-3.new.self in
    let after = c.copy_from_slice-then-is_none-3.ensures.after in
    let first = front_rows half (drop (c.merge-all.result / 2) c.args.out.now) (c.merge-all.result / 2) (ap length after ∙ length-take-le (c.merge-all.result / 2) c.merge-all.new.slots (omega (arith, whole))) (ap rows_of after) in
    let halves = half_rows c.merge-all.new.slots c.merge-all.result whole first (ap rows_of c.remove_range.ensures.items) in
    let left = ap length halves.1 ∙ length-drop (length (rows_of (take c.merge-all.result c.merge-all.new.slots)) / 2) (rows_of (take c.merge-all.result c.merge-all.new.slots)) in
    λ n. join_two _ _ n _ _ _ _ _ _ _ _ _ (a_link c.args.segment.head c.if-is_none.ensures).1 all (omega (arith, long, c.if-all-size.false))
    (no_link c.args.segment.index c.if-is_none-2.ensures) (no_link c.args.shown.now.below c.if-is_none-3.ensures) halves (omega (arith, left, long, c.if-all-size.false, c.requires.size))

pub returns-clause-is : goal.returns-clause-is
returns-clause-is c =
    let how = aggregates_of c.args.stages.now in
    let rows = c.as_slice-rows.result.now in
    let whole : c.merge-all.result ≤ length c.merge-all.new.slots =
    omega (
      arith,
      c.merge-all.auto.slots,
      c.merge-all.ensures.few,
      length-append c.copy_from_slice.new.self (drop (length rows) c.args.upper.now),
      ap length c.copy_from_slice.ensures.after,
      length-drop (length rows) c.args.upper.now,
      length-take-le c.args.moved c.args.out.now (omega (arith, c.requires.moved, c.requires.out)),
      as_long rows c.as_slice-rows.ensures.rows,
      c.requires.shown,
      c.requires.moved,
      c.requires.upper,
    ) in
    let all = joined how c.merge-all.ensures.rows refl (front_rows c.copy_from_slice.new.self _ (length rows) (ap length c.copy_from_slice.ensures.after) (ap rows_of c.copy_from_slice.ensures.after ∙ c.as_slice-rows.ensures.rows)) in
    let long = long_rows c.merge-all.new.slots c.merge-all.result whole in
    let other : (a : ℕ) × ((page_link c.args.segment.index ≡ page a) ⊎ (page_link c.args.shown.now.below ≡ page a)) = elim c.else-is_none-2.branch [
      | else-is_none-2-via-then-is_none-2+else-is_none-3 w ↦ let l = a_link c.args.shown.now.below w.if-is_none-3.ensures in (l.0, inr l.1)
      | else-is_none-2-via-else-is_none-2 w ↦ let l = a_link c.args.segment.index w.if-is_none-2.ensures in (l.0, inl l.1)
    ] in
    λ n. join_beside _ _ n _ _ _ _ _ _ _ _ (a_link c.args.segment.head c.if-is_none.ensures).1 all (omega (arith, long, c.if-all-size.false)) other.1
