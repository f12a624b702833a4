use Rattle.std.proofs.Common.{◌≡◌, ℕ, ◌+◌, ◌≤◌, ◌++◌, List, length, map}
use Rattle.streams.specs.Meaning.{Event}
use Rattle.book.specs.Due.{emit, then'}
use Rattle.plans.specs.Model.{events_of, stage_of}
use Rattle.queue.specs.Model.{queue_of, SameRoom}
use Rattle.emits.proofs.emit.emit.Given as goal

-- what came out so far, and then what comes of so many rows more
abbrev pub invariant-loop : goal.invariant-loop
invariant-loop l = record {
  left : ℕ;
  count : l.counter + left ≡ l.most;
  outs : List Event;
  all : emit (map stage_of l.stages) l.mark.0 l.most (queue_of l.fn.queue) ≡ then' outs (emit (map stage_of l.stages) l.mark.0 left (queue_of l.queue));
  tail : events_of l.tail.items ≡ events_of l.fn.tail.items ++ outs;
  front : length l.queue.front.items ≤ length l.fn.queue.front.items;
  buffer : length l.queue.buffer.items ≤ length l.fn.queue.buffer.items + l.counter;
  few : length l.tail.items ≤ length l.fn.tail.items + l.counter;
  segments : l.queue.segments ≡ l.fn.queue.segments;
  room : SameRoom l.fn.queue l.queue × (l.tail.room ≡ l.fn.tail.room);
}
