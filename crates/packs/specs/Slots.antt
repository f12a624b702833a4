-- What packing and unpacking make of segments in memory, whatever front, buffer and source their queue has.
-- Assumes nothing.
use Rattle.std.specs.Prelude.{◌≡◌, ℕ, suc, List, [], ◌∷◌}
use Rattle.book.specs.Rows.{Row}
use Rattle.book.specs.Queue as book
use Rattle.book.specs.Due.{Sizes}
use Rattle.segs.specs.Model.{segs_of}
use Rattle.packs.specs.Model.{packing}

abbrev pub queue_with : (front buffer : List Row) → (source : book.Link) → (next : ℕ) → (slots : List (List ℕ)) → book.Queue
queue_with f b s n slots = record { front = f; buffer = b; segments = segs_of slots; source = s; next = n }

pub record PacksSlots (most level next : ℕ) (old new page : List (List ℕ)) : Type 0 where
  pub queue : (z : Sizes) → z.segments ≡ most → (f b : List Row) (s : book.Link) → queue_with f b s (suc next) new ≡ (packing z level (queue_with f b s next old)).queue
  pub writes : (z : Sizes) → z.segments ≡ most → (f b : List Row) (s : book.Link) → (packing z level (queue_with f b s next old)).writes ≡ record { number = next; content = book.IndexPage (segs_of page) } ∷ []

abbrev pub Unpacks : (old page new : List (List ℕ)) → (source : book.Link) → Type 0
Unpacks old page new source = (f b : List Row) (s : book.Link) (n : ℕ) → queue_with f b source n new ≡ (book.unpack (book.IndexPage (segs_of page)) (queue_with f b s n old)).queue
