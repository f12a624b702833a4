-- The first rows and the first segments of memory that holds them as words.
-- Assumes nothing.
use Rattle.std.specs.Prelude.{ℕ, List, take}
use Rattle.book.specs.Rows.{Row}
use Rattle.book.specs.Queue.{Seg}
use Rattle.rows.specs.Model.{rows_of}
use Rattle.segs.specs.Model.{segs_of}
use Rattle.words.specs.Items.{items_of}

abbrev pub rows_in : ℕ → List ℕ → List Row
rows_in k words = rows_of (take k (items_of 4 words))

abbrev pub segs_in : ℕ → List ℕ → List Seg
segs_in k words = segs_of (take k (items_of 6 words))
