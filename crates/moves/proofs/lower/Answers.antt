use Rattle.std.proofs.Common.{◌∷◌, ap, ◌∙◌}
use Rattle.rows.specs.Model.{row_in, row_of, aggregates_of}
use Rattle.segs.specs.Model.{segs_of}
use Rattle.queue.specs.Model.{queue_of}
use Rattle.moves.proofs.Moves.{lower_is, lower_none}
use Rattle.moves.proofs.lower.Goals as goal

pub returns-in_default-clause-queue : goal.returns-in_default-clause-queue
returns-in_default-clause-queue c = lower_none (aggregates_of c.args.stages.now) (queue_of c.args.queue.now) c.as_slice-rows.result.now c.as_slice-rows.ensures.rows c.in_default.ensures.lookup.3

pub returns-clause-queue : goal.returns-clause-queue
returns-clause-queue c =
    let e = c.in-Some.ensures.lookup.3 in
    let w = c.in-Some.first.now in
    let q = queue_of c.args.queue.now in
    let segments = ap segs_of c.insert_from_slice.ensures.items ∙ ap (λ s. s ∷ q.segments) c.to_words.ensures in
    (λ j. record { front = c.remove_range.ensures.rows j; buffer = c.merge.ensures.rows j; segments = segments j; source = q.source; next = q.next })
    ∙ lower_is (aggregates_of c.args.stages.now) q c.as_slice-rows.result.now w (row_of c.from.result) c.as_slice-rows.ensures.rows e.0 (c.from.ensures ∙ ap row_in (e.1 w))
