-- A spill, by the queue before and after it.
-- Assumes nothing.
use Rattle.std.specs.Prelude.{◌≡◌, ℕ, suc, ◌+◌, List, [], ◌++◌, length, take, drop, slice_index_or}
use Rattle.streams.specs.Meaning.{Sum}
use Rattle.book.specs.Rows.{Row}
use Rattle.book.specs.Queue.{Seg, Page, spill}
use Rattle.segs.specs.Model.{seg_in, segs_of}
use Rattle.queue.specs.declared.Queue.{Queue}
use Rattle.queue.specs.Model.{queue_of}
use Rattle.spills.specs.declared.pages.Spilt.{Spilt}
use Rattle.spills.specs.Model.{spilt_of}

-- in place of the i-th segment, s, stand those that it became, and the next page's number is behind those of the pages
pub record Links (i : ℕ) (s : Seg) (r : Spilt) (upper : List Row) (old new : Queue) : Type 0 where
  pub segments : (out : List Row) → segs_of new.segments.items ≡ take i (segs_of old.segments.items) ++ ((spilt_of old.next.0 s out upper r).segs ++ drop (suc i) (segs_of old.segments.items))
  pub next : (out : List Row) → new.next.0 ≡ old.next.0 + length (spilt_of old.next.0 s out upper r).writes
  pub front : new.front ≡ old.front
  pub buffer : new.buffer ≡ old.buffer
  pub source : new.source ≡ old.source

-- the queue after it, and the pages that are written
pub record Spills (how : ℕ → Sum) (size i : ℕ) (shown : Page) (old new : Queue) (out upper : List Row) (r : Spilt) : Type 0 where
  pub queue : queue_of new ≡ (spill how size i shown (queue_of old)).queue
  pub writes : (spill how size i shown (queue_of old)).writes ≡ (spilt_of old.next.0 (seg_in (slice_index_or old.segments.items i [])) out upper r).writes
