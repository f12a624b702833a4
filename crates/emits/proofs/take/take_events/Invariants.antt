use Rattle.std.proofs.Common.{◌≡◌, ℕ, ◌+◌, map, drop}
use Rattle.book.specs.Ledger.{take_events}
use Rattle.plans.specs.Model.{events_of, stage_of}
use Rattle.queue.specs.Model.{queue_of, SameRoom}
use Rattle.sizes.specs.Model.{sizes_of}
use Rattle.emits.proofs.take.take_events.Given as goal

-- what is left to take makes what all of them make
abbrev pub invariant-loop-count : goal.invariant-loop-count
invariant-loop-count l = record {
  took : (i : ℕ) → take_events (sizes_of l.sizes) (map stage_of l.stages) (events_of (drop l.count l.events)) (i + l.count) (queue_of l.queue) ≡ take_events (sizes_of l.sizes) (map stage_of l.stages) (events_of l.events) i (queue_of l.fn.queue);
  segments : l.queue.segments ≡ l.fn.queue.segments;
  room : SameRoom l.fn.queue l.queue;
}
