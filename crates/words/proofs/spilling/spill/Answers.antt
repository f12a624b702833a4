use Rattle.std.proofs.Common.{sym, subst, arith}
use Rattle.book.specs.Rows.{Sorted}
use Rattle.words.proofs.Tables.{rows_kept, segs_kept, many_lent}
use Rattle.words.proofs.spilling.spill.Goals as goal

pub spill-requires-clause-buffer : goal.spill-requires-clause-buffer
spill-requires-clause-buffer c = omega (arith, c.requires.buffer, many_lent 4 c.args.buffer.now c.as_items_mut-buffer.ensures.value.0)

pub spill-requires-clause-segments : goal.spill-requires-clause-segments
spill-requires-clause-segments c = omega (arith, c.requires.segments, many_lent 6 c.args.segments.now c.as_items_mut-segments.ensures.value.0)

pub spill-requires-clause-out : goal.spill-requires-clause-out
spill-requires-clause-out c = omega (arith, c.requires.out, many_lent 4 c.args.out.now c.as_items_mut-out.ensures.value.0)

pub spill-requires-clause-upper : goal.spill-requires-clause-upper
spill-requires-clause-upper c = omega (arith, c.requires.upper, many_lent 4 c.args.upper.now c.as_items_mut-upper.ensures.value.0)

pub returns-clause-spills : goal.returns-clause-spills
returns-clause-spills c =
    let buffer = rows_kept c.spill.result.counts.buffer c.args.buffer.now c.spill.new.buffer c.as_items_mut-buffer.ensures.value c.spill.auto.buffer in
    let segments = segs_kept c.spill.result.counts.segments c.args.segments.now c.spill.new.segments c.as_items_mut-segments.ensures.value c.spill.auto.segments in
    let out = rows_kept c.spill.result.joined.out c.args.out.now c.spill.new.out c.as_items_mut-out.ensures.value c.spill.auto.out in
    let upper = rows_kept c.spill.result.joined.upper c.args.upper.now c.spill.new.upper c.as_items_mut-upper.ensures.value c.spill.auto.upper in
    record {
      queue = λ f l. rw (buffer, segments, ← c.as_items_mut-buffer.ensures.value.0, ← c.as_items_mut-segments.ensures.value.0) (c.spill.ensures.spills.queue f l);
      writes = λ f l. rw (out, upper, ← c.as_items_mut-buffer.ensures.value.0, ← c.as_items_mut-segments.ensures.value.0) (c.spill.ensures.spills.writes f l);
    }

pub returns-clause-sorted : goal.returns-clause-sorted
returns-clause-sorted c =
    subst Sorted (sym (rows_kept c.spill.result.counts.buffer c.args.buffer.now c.spill.new.buffer c.as_items_mut-buffer.ensures.value c.spill.auto.buffer)) c.spill.ensures.sorted

pub returns-clause-few : goal.returns-clause-few
returns-clause-few c =
    let out = rows_kept c.spill.result.joined.out c.args.out.now c.spill.new.out c.as_items_mut-out.ensures.value c.spill.auto.out in
    let upper = rows_kept c.spill.result.joined.upper c.args.upper.now c.spill.new.upper c.as_items_mut-upper.ensures.value c.spill.auto.upper in
    rw (out, upper) c.spill.ensures.few
