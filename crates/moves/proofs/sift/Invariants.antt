use Rattle.std.proofs.Common.{◌≡◌, ◌+◌, ◌≤◌, length, drop}
use Rattle.book.specs.Queue.{RowPage, places, sift_by}
use Rattle.rows.specs.Model.{rows_of, aggregates_of}
use Rattle.segs.specs.Model.{page_link}
use Rattle.queue.specs.Model.{queue_of, SameRoom}
use Rattle.moves.proofs.sift.Given as goal

-- what is left to place makes the queue that the step makes
abbrev pub invariant-loop-words : goal.invariant-loop-words
invariant-loop-words l = record {
  queue : places (aggregates_of l.stages) (rows_of (drop l.words-index l.rows)) (queue_of l.queue) ≡ sift_by (aggregates_of l.stages) (RowPage (page_link l.fn.below) (rows_of l.rows)) (queue_of l.fn.queue);
  front : length l.queue.front.items ≤ length l.fn.queue.front.items + l.words-index;
  buffer : length l.queue.buffer.items ≤ length l.fn.queue.buffer.items + l.words-index;
  segments : l.queue.segments ≡ l.fn.queue.segments;
  room : SameRoom l.fn.queue l.queue;
}
