-- What a step came to, by the definitions of the book; and why it is not done.
-- Assumes nothing.
use Rattle.std.specs.Prelude.{◌≡◌, ℕ, suc, ◌≤◌, ◌⊎◌, Bool, true, false, List, [], ◌∷◌, Ok, Err, Result, length, ◌+◌, ◌/◌, ◌<◌}
use Rattle.streams.specs.Meaning.{Event, Sum, top}
use Rattle.book.specs.Ledger.{OutWrite}
use Rattle.book.specs.Queue as book
use Rattle.book.specs.Rows.{Row}
use Rattle.book.specs.Due.{Sizes}
use Rattle.tables.specs.Lent.{Lent}
use Rattle.segs.specs.Model.{segs_of}
use Rattle.queue.specs.declared.Queue.{Queue}
use Rattle.queue.specs.Model.{queue_of}
use Rattle.packs.specs.Model.{LevelsFit, packing}
use Rattle.spills.specs.Model.{spilt_of}
use Rattle.turns.specs.declared.plates.Beyond.{Beyond}
use Rattle.turns.specs.declared.plates.Beyond.TheVariants.{Segments, Numbers}
use Rattle.turns.specs.declared.plates.Written.{Written}
use Rattle.turns.specs.declared.plates.Written.TheVariants.{Nothing, Out, Index, Rows}

abbrev pub FitLevels : List book.Seg → Bool → Type 0
FitLevels ss true = LevelsFit ss
FitLevels ss false = LevelsFit ss → ⊥

-- a level is packed into the next page; or a number would be no word, and the queue is as it was
abbrev pub Packed : Sizes → (level : ℕ) → (old new : Queue) → (page : Lent (List ℕ)) → Result Written Beyond → Type 0
Packed z v old new page (Ok w) = (w ≡ Index old.next) × (queue_of new ≡ (packing z v (queue_of old)).queue) × ((packing z v (queue_of old)).writes ≡ record { number = old.next.0; content = book.IndexPage (segs_of page.items) } ∷ [])
Packed z v old new page (Err b) = (b ≡ Numbers) × ((top ≤ suc old.next.0) ⊎ (LevelsFit (segs_of old.segments.items) → ⊥)) × (new ≡ old)

-- there is room for so many segments more
abbrev pub HasRoom : (more : ℕ) → Lent (List ℕ) → Result (Unit {0}) Beyond → Type 0
HasRoom more ss (Ok u) = length ss.items + more ≤ ss.room
HasRoom more ss (Err b) = (b ≡ Segments) × (ss.room < length ss.items + more)

-- the segments of a page come back; or there is no room for them, and the queue is as it was
abbrev pub Unpacked : (page : List book.Seg) → (old new : Queue) → Result Written Beyond → Type 0
Unpacked page old new (Ok w) = (w ≡ Nothing) × (queue_of new ≡ (book.unpack (book.IndexPage page) (queue_of old)).queue)
Unpacked page old new (Err b) = HasRoom (length page) old.segments (Err b) × (new ≡ old)

-- the front's upper half is a new first segment's; or there is no room for it, and the queue is as it was
abbrev pub Lowered : (ℕ → Sum) → (old new : Queue) → Result Written Beyond → Type 0
Lowered how old new (Ok w) = (w ≡ Nothing) × (queue_of new ≡ (book.lower how (length old.front.items / 2) (queue_of old)).queue)
Lowered how old new (Err b) = HasRoom 1 old.segments (Err b) × (new ≡ old)

-- a page's content does not depend on its segment
abbrev no_segment : book.Seg
no_segment = record { low = record { end = 0; stage = 0; key = 0 }; index = book.nil; head = book.nil; level = 0 }

-- the row and index pages that were written
abbrev pub pages_written : Written → (out upper : List Row) → (index : List book.Seg) → List book.Write
pages_written Nothing out upper index = []
pages_written (Out n) out upper index = []
pages_written (Index n) out upper index = record { number = n.0; content = book.IndexPage index } ∷ []
pages_written (Rows first spilt) out upper index = (spilt_of first.0 no_segment out upper spilt).writes

-- the out page that was written
abbrev pub outs_written : Written → List Event → List OutWrite
outs_written Nothing es = []
outs_written (Out n) es = record { number = n.0; events = es } ∷ []
outs_written (Index n) es = []
outs_written (Rows first spilt) es = []

-- no out page was written
abbrev pub NoOut : Written → Type 0
NoOut w = (es : List Event) → outs_written w es ≡ []

-- rows of the buffer are in the pages of the i-th segment; or there is no room for one more, or for page numbers, and the queue is as it was
abbrev pub Spilled : (ℕ → Sum) → (size i : ℕ) → (shown : book.Page) → (old new : Queue) → (out upper : List Row) → Result Written Beyond → Type 0
Spilled how size i shown old new out upper (Ok w) = NoOut w × (queue_of new ≡ (book.spill how size i shown (queue_of old)).queue) × ((index : List book.Seg) → pages_written w out upper index ≡ (book.spill how size i shown (queue_of old)).writes)
Spilled how size i shown old new out upper (Err b) = (HasRoom 1 old.segments (Err b) ⊎ ((b ≡ Numbers) × (top ≤ suc (suc old.next.0)))) × (new ≡ old)
