use Rattle.std.proofs.Common.{◌≡◌, ℕ, refl, ap, ◌∙◌, arith}
use Rattle.book.specs.Queue.{nil, page}
use Rattle.book.specs.Due.{Do, Spill, fullest}
use Rattle.segs.specs.Model.{page_link, segs_of}
use Rattle.queue.specs.Model.{queue_of}
use Rattle.sizes.specs.Model.{sizes_of}
use Rattle.rows.proofs.Places.{as_long}
use Rattle.dues.proofs.Cases.{many, fullest_in, packs, spills, quiet, lowers, goes_on, sifts, no_source}
use Rattle.dues.proofs.due.Goals as goal

pub returns-in-Some-clause-due : goal.returns-in-Some-clause-due
returns-in-Some-clause-due c = packs (sizes_of c.args.sizes.now) c.args.mark.0 (queue_of c.args.queue.now) c.in-Some.level.0 (rw c.as_slice-segments.ensures.items at c.in-Some.ensures)

pub returns-in-Some-clause-carries : goal.returns-in-Some-clause-carries
returns-in-Some-clause-carries c =
    let ss = segs_of c.args.queue.now.segments.items in
    many c.args.sizes.now.segments ss ss c.in-Some.level.0 (rw c.as_slice-segments.ensures.items at c.in-Some.ensures)

pub returns-then-as_slice-sizes-clause-carries : goal.returns-then-as_slice-sizes-clause-carries
returns-then-as_slice-sizes-clause-carries c = fullest_in (queue_of c.args.queue.now) c.as_sorted-buffer.result c.in_ok-fullest.fullest (rw c.as_slice-segments.ensures.items at c.in_ok-fullest.ensures)

pub returns-then-as_slice-sizes-clause-due : goal.returns-then-as_slice-sizes-clause-due
returns-then-as_slice-sizes-clause-due c =
    let q = queue_of c.args.queue.now in
    let long = as_long c.as_slice.result.now (c.as_slice.ensures.rows ∙ c.as_sorted-buffer.ensures) in
    let most : c.in_ok-fullest.fullest.number ≡ (fullest q.segments q.buffer).number = let e = rw (c.as_slice-segments.ensures.items, c.as_sorted-buffer.ensures) at c.in_ok-fullest.ensures in omega (arith, e.number) in
    ap (λ (n : ℕ). Do (Spill n)) most ∙ spills (sizes_of c.args.sizes.now) c.args.mark.0 q (rw c.as_slice-segments.ensures.items at c.in_default.ensures) (omega (arith, long, c.if-as_slice-sizes.true))

pub returns-then-as_slice-sizes-2-clause-due : goal.returns-then-as_slice-sizes-2-clause-due
returns-then-as_slice-sizes-2-clause-due c =
    let q = queue_of c.args.queue.now in
    let calm = quiet (sizes_of c.args.sizes.now) q c.args.queue.now.segments.items c.as_slice-segments.result.now c.as_slice.result.now c.as_sorted-buffer.result refl c.as_slice-segments.ensures.items c.in_default.ensures c.as_slice.ensures.rows c.as_sorted-buffer.ensures c.if-as_slice-sizes.false in
    lowers (sizes_of c.args.sizes.now) c.args.mark.0 q calm (omega (arith, as_long c.as_slice-2.result.now c.as_slice-2.ensures.rows, c.if-as_slice-sizes-2.true))

pub returns-in-Some-source-clause-due : goal.returns-in-Some-source-clause-due
returns-in-Some-source-clause-due c =
    let q = queue_of c.args.queue.now in
    let calm = quiet (sizes_of c.args.sizes.now) q c.args.queue.now.segments.items c.as_slice-segments.result.now c.as_slice.result.now c.as_sorted-buffer.result refl c.as_slice-segments.ensures.items c.in_default.ensures c.as_slice.ensures.rows c.as_sorted-buffer.ensures c.if-as_slice-sizes.false in
    let short = as_long c.as_slice-2.result.now c.as_slice-2.ensures.rows in
    sifts c.args.mark.0 c.in-Some-source.page.0 q ∙ goes_on (sizes_of c.args.sizes.now) c.args.mark.0 q (page c.in-Some-source.page.0) calm (omega (arith, short, c.if-as_slice-sizes-2.false)) (ap page_link c.in-Some-source.is)

pub returns-in-None-clause-due : goal.returns-in-None-clause-due
returns-in-None-clause-due c =
    let q = queue_of c.args.queue.now in
    let calm = quiet (sizes_of c.args.sizes.now) q c.args.queue.now.segments.items c.as_slice-segments.result.now c.as_slice.result.now c.as_sorted-buffer.result refl c.as_slice-segments.ensures.items c.in_default.ensures c.as_slice.ensures.rows c.as_sorted-buffer.ensures c.if-as_slice-sizes.false in
    let short = as_long c.as_slice-2.result.now c.as_slice-2.ensures.rows in
    c.due_front.ensures.due ∙ no_source c.args.mark.0 q ∙ goes_on (sizes_of c.args.sizes.now) c.args.mark.0 q nil calm (omega (arith, short, c.if-as_slice-sizes-2.false)) (ap page_link c.in-None.is)
