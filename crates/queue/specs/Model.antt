-- The queue that the memory of a queue holds.
-- Assumes nothing.
use Rattle.std.specs.Prelude.{◌≡◌}
use Rattle.book.specs.Queue as book
use Rattle.segs.specs.Model.{page_link, segs_of}
use Rattle.queue.specs.declared.Queue.{Queue}

abbrev pub queue_of : Queue → book.Queue
queue_of q = record { front = q.front.items; buffer = q.buffer.items; segments = segs_of q.segments.items; source = page_link q.source; next = q.next.0 }

-- its memory is as large as it was
abbrev pub SameRoom : (old new : Queue) → Type 0
SameRoom p q = (q.front.room ≡ p.front.room) × (q.buffer.room ≡ p.buffer.room) × (q.segments.room ≡ p.segments.room)
