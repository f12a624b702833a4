use Rattle.std.proofs.Common.{take, refl, sym, ap, ◌∙◌, subst}
use Rattle.std.proofs.lemmas.List.{take-map}
use Rattle.book.specs.Rows.{Sorted, onto}
use Rattle.rows.specs.Model.{row_in, aggregates_of}
use Rattle.segs.specs.Model.{seg_of, segs_of}
use Rattle.queue.specs.Model.{queue_of}
use Rattle.moves.proofs.Moves.{open_rows, open_none}
use Rattle.moves.proofs.open.Goals as goal

pub returns-in_default-clause-queue : goal.returns-in_default-clause-queue
returns-in_default-clause-queue c = open_none (aggregates_of c.args.stages.now) c.args.queue.now.segments.items c.as_slice.result.now (queue_of c.args.queue.now) refl c.as_slice.ensures.items c.in_default.len_below

pub returns-clause-queue : goal.returns-clause-queue
returns-clause-queue c =
    let how = aggregates_of c.args.stages.now in
    let q = queue_of c.args.queue.now in
    let n = c.count_below-count.result in
    let s = seg_of c.from-head.result in
    let rows = c.as_slice-2 in
    let low = sym (take-map row_in n rows.result.now) ∙ ap (take n) (rows.ensures.rows ∙ c.as_sorted-rows.ensures) in
    let front = c.merge.ensures.rows ∙ ap (λ rs. onto how rs q.front) low in
    (λ j. record { front = front j; buffer = c.remove_range.ensures.rows j; segments = segs_of (c.remove_range-2.ensures.items j); source = s.head; next = q.next })
    ∙ open_rows how c.args.queue.now.segments.items c.as_slice.result.now q _ s n refl c.as_slice.ensures.items c.in-len1-up.len_at_least c.from-head.ensures.is
    (subst Sorted c.as_sorted-rows.ensures rows.ensures.sorted) (rw c.as_sorted-rows.ensures at c.count_below-count.ensures)
