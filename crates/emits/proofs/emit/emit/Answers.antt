use Rattle.std.proofs.Common.{◌≡◌, ℕ, suc, ◌+◌, ◌-◌, ◌++◌, List, [], map, length, drop, refl, sym, ap, ◌∙◌, append-nil, append_assoc, arith}
use Rattle.std.proofs.lemmas.List.{length-drop}
use Rattle.streams.specs.Meaning.{Event}
use Rattle.book.specs.Rows.{Row}
use Rattle.book.specs.Queue as book
use Rattle.book.specs.Flow.{onward}
use Rattle.book.specs.Due.{Emitted, emit, then', go_on, popped}
use Rattle.plans.specs.Model.{events_of, stage_of}
use Rattle.rows.specs.Model.{row_of, aggregates_of}
use Rattle.queue.specs.Model.{queue_of}
use Rattle.emits.proofs.Steps.{ended_at, emit_more, emit_stop, emit_none, then_both}
use Rattle.emits.proofs.emit.emit.Goals as goal

pub loop-init : goal.loop-init
loop-init c = record { left = c.args.most; count = omega arith; outs = []; all = refl; tail = sym (append-nil _); front = omega arith; buffer = omega arith; few = omega arith; segments = refl; room = ((refl, refl, refl), refl) }

pub loop-preserved : goal.loop-preserved
loop-preserved c =
    let i = c.loop.invariant in
    let sts = map stage_of c.args.stages.now in
    let how = aggregates_of c.args.stages.now in
    let m = c.args.mark.0 in
    let q = queue_of c.loop.queue in
    let o = onward sts (row_of c.in-Some.row) in
    let w : Emitted = go_on how o (popped (drop 1 q.front) q) in
    let k = c.args.most - (c.loop.counter + 1) in
    let one : i.left ≡ suc k = omega (arith, i.count, c.loop-test.true) in
    let ended = rw c.as_slice.ensures.rows at c.in-Some.ensures in
    let more : emit sts m i.left q ≡ then' w.outs (emit sts m k w.queue) = ap (λ (n : ℕ). emit sts m n q) one ∙ emit_more sts m k q c.in-Some.row ended in
    let rest = ap (λ (rs : List Row). popped rs q) c.remove_range.ensures.rows in
    let queue : queue_of c.go_on.new.queue ≡ w.queue = c.go_on.ensures.queue ∙ ap (λ (x : book.Queue). (go_on how o x).queue) rest in
    let outs = c.go_on.ensures.outs ∙ ap (λ (x : book.Queue). events_of c.loop.tail.items ++ (go_on how o x).outs) rest in
    record {
      left = k;
      count = omega (arith, i.count, c.loop-test.true);
      outs = i.outs ++ w.outs;
      all = i.all ∙ ap (then' i.outs) more ∙ then_both i.outs w.outs (emit sts m k w.queue) ∙ ap (λ (x : book.Queue). then' (i.outs ++ w.outs) (emit sts m k x)) (sym queue);
      tail = outs ∙ ap (λ (es : List Event). es ++ w.outs) i.tail ∙ append_assoc (events_of c.args.tail.now.items) i.outs w.outs;
      front = omega (arith, c.go_on.ensures.front, ap length c.remove_range.ensures.rows, length-drop 1 q.front, (ended_at m q.front c.in-Some.row ended).0, i.front);
      buffer = omega (arith, c.go_on.ensures.buffer, i.buffer);
      few = omega (arith, c.go_on.ensures.few, i.few);
      segments = c.go_on.ensures.segments ∙ i.segments;
      room = ((c.go_on.ensures.room.0.0 ∙ c.remove_range.ensures.room ∙ i.room.0.0, c.go_on.ensures.room.0.1 ∙ i.room.0.1, c.go_on.ensures.room.0.2 ∙ i.room.0.2), c.go_on.ensures.room.1 ∙ i.room.1);
    }

-- nothing more comes
stopped : (c : goal.In_default) → emit (map stage_of c.args.stages.now) c.args.mark.0 c.args.most (queue_of c.args.queue.now) ≡ record { queue = queue_of c.loop.queue; outs = c.loop.invariant.outs ++ [] }
stopped c = c.loop.invariant.all ∙ ap (then' c.loop.invariant.outs) (emit_stop (map stage_of c.args.stages.now) c.args.mark.0 c.loop.invariant.left (queue_of c.loop.queue) (rw c.as_slice.ensures.rows at c.in_default.ensures))

pub returns-in_default-clause-queue : goal.returns-in_default-clause-queue
returns-in_default-clause-queue c = sym (ap (λ (e : Emitted). e.queue) (stopped c))

pub returns-in_default-clause-outs : goal.returns-in_default-clause-outs
returns-in_default-clause-outs c =
    let before = events_of c.args.tail.now.items in
    c.loop.invariant.tail ∙ ap (λ (es : List Event). before ++ es) (sym (append-nil c.loop.invariant.outs)) ∙ sym (ap (λ (e : Emitted). before ++ e.outs) (stopped c))

-- so many rows were let go
done : (c : goal.After-loop) → emit (map stage_of c.args.stages.now) c.args.mark.0 c.args.most (queue_of c.args.queue.now) ≡ record { queue = queue_of c.loop.queue; outs = c.loop.invariant.outs ++ [] }
done c =
    let sts = map stage_of c.args.stages.now in
    let none : c.loop.invariant.left ≡ 0 = omega (arith, c.loop.invariant.count, c.loop-test.false) in
    c.loop.invariant.all ∙ ap (λ (n : ℕ). then' c.loop.invariant.outs (emit sts c.args.mark.0 n (queue_of c.loop.queue))) none ∙ ap (then' c.loop.invariant.outs) (emit_none sts c.args.mark.0 (queue_of c.loop.queue))

pub returns-clause-queue : goal.returns-clause-queue
returns-clause-queue c = sym (ap (λ (e : Emitted). e.queue) (done c))

pub returns-clause-outs : goal.returns-clause-outs
returns-clause-outs c =
    let before = events_of c.args.tail.now.items in
    c.loop.invariant.tail ∙ ap (λ (es : List Event). before ++ es) (sym (append-nil c.loop.invariant.outs)) ∙ sym (ap (λ (e : Emitted). before ++ e.outs) (done c))
