use Rattle.std.proofs.Common.{◌≡◌, ℕ, suc, ◌+◌, map, length, drop, sym, ap, ◌∙◌, arith}
use Rattle.book.specs.Due.{take'}
use Rattle.book.specs.Ledger.{take_events}
use Rattle.plans.specs.Model.{as_event, events_of, stage_of}
use Rattle.queue.specs.Model.{queue_of}
use Rattle.sizes.specs.Model.{sizes_of}
use Rattle.emits.proofs.Steps.{took_more, took_stop, took_all, room_is, time_at}
use Rattle.emits.proofs.take.take_events.Goals as goal

pub returns-then-not-has_room-clause-took : goal.returns-then-not-has_room-clause-took
returns-then-not-has_room-clause-took c =
    let q = queue_of c.loop-count.queue in
    λ i. sym (c.loop-count.invariant.took i) ∙ took_stop (sizes_of c.args.sizes.now) (map stage_of c.args.stages.now) c.args.events.now c.loop-count.count (i + c.loop-count.count) q c.loop-count-test.true (sym c.has_room.ensures ∙ c.if-not-has_room.true)

pub take-requires-clause-time : goal.take-requires-clause-time
take-requires-clause-time c = time_at c.args.events.now c.loop-count.count _ (as_event c.from.result) c.requires.times c.loop-count-test.true c.from.ensures

pub take-requires-clause-front : goal.take-requires-clause-front
take-requires-clause-front c =
    let r = room_is (sizes_of c.args.sizes.now) (queue_of c.loop-count.queue) (sym c.if-not-has_room.false ∙ c.has_room.ensures) in
    omega (arith, r.0, c.requires.front, c.loop-count.invariant.room.0)

pub take-requires-clause-buffer : goal.take-requires-clause-buffer
take-requires-clause-buffer c =
    let r = room_is (sizes_of c.args.sizes.now) (queue_of c.loop-count.queue) (sym c.if-not-has_room.false ∙ c.has_room.ensures) in
    omega (arith, r.1, c.requires.buffer, c.loop-count.invariant.room.1)

pub loop-count-preserved : goal.loop-count-preserved
loop-count-preserved c =
    let z = sizes_of c.args.sizes.now in
    let sts = map stage_of c.args.stages.now in
    let n = c.loop-count.count in
    let left = events_of (drop (n + 1) c.args.events.now) in
    let more : (i : ℕ) → suc (i + n) ≡ i + (n + 1) = λ i. omega arith in
    record {
      took = λ i. ap (take_events z sts left (i + (n + 1))) c.take.ensures.queue ∙ ap (λ (k : ℕ). take_events z sts left k (take' sts (as_event c.from.result) (queue_of c.loop-count.queue))) (sym (more i))
          ∙ sym (took_more z sts c.args.events.now n (i + n) _ (as_event c.from.result) (queue_of c.loop-count.queue) c.loop-count-test.true c.from.ensures (sym c.has_room.ensures ∙ c.if-not-has_room.false)) ∙ c.loop-count.invariant.took i;
      segments = c.take.ensures.segments ∙ c.loop-count.invariant.segments;
      room = (c.take.ensures.room.0 ∙ c.loop-count.invariant.room.0, c.take.ensures.room.1 ∙ c.loop-count.invariant.room.1, c.take.ensures.room.2 ∙ c.loop-count.invariant.room.2);
    }

pub returns-clause-took : goal.returns-clause-took
returns-clause-took c =
    let n = c.loop-count.count in
    let end : n ≡ length c.args.events.now = omega (arith, c.loop-count-test.false, c.loop-count.auto.count-end) in
    λ i. sym (c.loop-count.invariant.took i) ∙ took_all (sizes_of c.args.sizes.now) (map stage_of c.args.stages.now) c.args.events.now n (i + n) (queue_of c.loop-count.queue) c.loop-count-test.false
    ∙ ap (λ (k : ℕ). record { taken = i + k; queue = queue_of c.loop-count.queue }) end
