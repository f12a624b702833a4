-- What the values of the code stand for in the definitions of the book.
-- Assumes nothing.
use Rattle.std.specs.Prelude.{◌≡◌, ℕ, suc, ◌+◌, ◌/◌, ◌<◌, List, [], ◌∷◌, Some, None, Option}
use Rattle.streams.specs.Meaning.{top}
use Rattle.book.specs.Queue as book
use Rattle.book.specs.Due.{Sizes, Crowd, calm, crowded, at_level, below_level, pack_many}
use Rattle.tables.specs.Lent.{Lent}
use Rattle.segs.specs.declared.segment.Level.{Level}
use Rattle.segs.specs.Model.{segs_of}
use Rattle.queue.specs.declared.Queue.{Queue}
use Rattle.queue.specs.Model.{queue_of}

abbrev pub crowd_of : Option Level → Crowd
crowd_of None = calm
crowd_of (Some v) = crowded v.0

-- one more than each level is a word
abbrev pub LevelsFit : List book.Seg → Type 0
LevelsFit [] = Unit {0}
LevelsFit (s ∷ ss) = (suc s.level < top) × LevelsFit ss

-- the step that packs a level
abbrev pub packing : Sizes → (level : ℕ) → book.Queue → book.After
packing z v q = book.pack (below_level v q.segments + at_level v q.segments / 2) (pack_many z (at_level v q.segments)) q

pub record Packs (most level : ℕ) (old new : Queue) (page : Lent (List ℕ)) : Type 0 where
  pub queue : (z : Sizes) → z.segments ≡ most → queue_of new ≡ (packing z level (queue_of old)).queue
  pub writes : (z : Sizes) → z.segments ≡ most → (packing z level (queue_of old)).writes ≡ record { number = old.next.0; content = book.IndexPage (segs_of page.items) } ∷ []
