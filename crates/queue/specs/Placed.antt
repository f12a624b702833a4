-- A row placed among those of a front and a buffer in memory, whatever source and next page their queue has.
-- Assumes nothing.
use Rattle.std.specs.Prelude.{◌≡◌, ℕ, List}
use Rattle.streams.specs.Meaning.{Sum}
use Rattle.book.specs.Rows.{Row}
use Rattle.book.specs.Queue as book
use Rattle.rows.specs.Model.{rows_of}

abbrev pub queue_with : List book.Seg → (front buffer : List (List ℕ)) → (source : book.Link) → (next : ℕ) → book.Queue
queue_with ss f b source next = record { front = rows_of f; buffer = rows_of b; segments = ss; source = source; next = next }

abbrev pub Placed : (ℕ → Sum) → Row → List book.Seg → (front buffer front' buffer' : List (List ℕ)) → Type 0
Placed how r ss f b f' b' = (source : book.Link) (next : ℕ) → queue_with ss f' b' source next ≡ book.place how r (queue_with ss f b source next)
