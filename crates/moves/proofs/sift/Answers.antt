use Rattle.std.proofs.Common.{◌+◌, drop, refl, sym, ap, ◌∙◌, arith}
use Rattle.book.specs.Queue.{places, sift_by}
use Rattle.rows.specs.Model.{row_of, rows_of, aggregates_of}
use Rattle.queue.specs.Model.{queue_of}
use Rattle.moves.proofs.Moves.{place_more, place_none}
use Rattle.moves.proofs.sift.Goals as goal

pub loop-words-init : goal.loop-words-init
unfolding sift_by
loop-words-init c = record { queue = refl; front = omega arith; buffer = omega arith; segments = refl; room = (refl, refl, refl) }

pub loop-words-preserved : goal.loop-words-preserved
loop-words-preserved c =
    let i = c.loop-words.invariant in
    let how = aggregates_of c.args.stages.now in
    record {
      queue = ap (places how (rows_of (drop (c.loop-words.words-index + 1) c.args.rows.now))) c.place.ensures.queue ∙ sym (place_more how c.args.rows.now c.loop-words.words-index _ (row_of c.from.result) (queue_of c.loop-words.queue) (omega arith) c.from.ensures) ∙ i.queue;
      front = omega (arith, i.front, c.place.ensures.front);
      buffer = omega (arith, i.buffer, c.place.ensures.buffer);
      segments = c.place.ensures.segments ∙ i.segments;
      room = (c.place.ensures.room.0 ∙ i.room.0, c.place.ensures.room.1 ∙ i.room.1, c.place.ensures.room.2 ∙ i.room.2);
    }

pub returns-clause-queue : goal.returns-clause-queue
returns-clause-queue c =
    let how = aggregates_of c.args.stages.now in
    sym (place_none how c.args.rows.now c.loop-words.words-index (queue_of c.loop-words.queue) (omega arith)) ∙ c.loop-words.invariant.queue
