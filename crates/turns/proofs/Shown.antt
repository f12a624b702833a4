-- A step with a page that is shown for it.
-- Assumes nothing.
use Rattle.std.proofs.Common.{◌≡◌, ℕ, List, refl}
use Rattle.streams.specs.Meaning.{Sum}
use Rattle.book.specs.Rows.{Row}
use Rattle.book.specs.Queue.{Link, Seg, RowPage, IndexPage, Queue, sift_by, sift, unpack_by}

-- an index page has no rows to place
pub sift_index : (how : ℕ → Sum) (ss : List Seg) (q : Queue) → q ≡ (sift how (IndexPage ss) q).queue
unfolding sift_by
sift_index how ss q = refl

-- a row page has no segments
pub unpack_rows : (below : Link) (rs : List Row) (ss : List Seg) (q : Queue) → q ≡ unpack_by (RowPage below rs) ss q
unfolding unpack_by
unpack_rows below rs ss q = refl
