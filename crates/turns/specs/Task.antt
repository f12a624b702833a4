-- What the tasks of the code stand for, and what whoever does one has to know.
-- Assumes nothing.
use Rattle.std.specs.Prelude.{◌≡◌, ℕ, ◌<◌, [], length, Option, Some, None, Ok, Err, Result}
use Rattle.book.specs.Due.{Sizes}
use Rattle.book.specs.Ledger as book
use Rattle.segs.specs.Model.{page_link}
use Rattle.segs.specs.declared.segment.PageNumber.{PageNumber}
use Rattle.dues.specs.Model.{step_of, Knows}
use Rattle.turns.specs.declared.plates.Beyond.{Beyond}
use Rattle.turns.specs.declared.plates.Beyond.TheVariants.{Loose}
use Rattle.turns.specs.declared.task.Task.{Task}
use Rattle.turns.specs.declared.task.Task.TheVariants.{Publish, Tidy}

abbrev pub task_of : Task → book.Task
task_of Publish = book.Publish
task_of (Tidy s) = book.Tidy (step_of s)

abbrev pub as_wanted : Option Task → book.Wanted
as_wanted None = book.Rest
as_wanted (Some k) = book.Want (task_of k)

abbrev pub Knows' : book.Ledger → Task → Type 0
Knows' x Publish = Unit {0}
Knows' x (Tidy s) = Knows x.queue s

abbrev pub Known : book.Ledger → Option Task → Type 0
Known x None = Unit {0}
Known x (Some k) = Knows' x k

-- of whatever ledger the task is, this is the page that it shows
abbrev pub Shows : Task → Option PageNumber → Type 0
Shows k r = (x : book.Ledger) → Knows' x k → page_link r ≡ book.shows_of (task_of k) x

-- the buffer has too many rows, and there is no segment for them
abbrev pub IsLoose : Sizes → book.Ledger → Type 0
IsLoose z x = (x.queue.segments ≡ []) × (z.buffer < length x.queue.buffer)

abbrev pub IsWanted : Sizes → (late : ℕ) → book.Ledger → Result (Option Task) Beyond → Type 0
IsWanted z late x (Ok k) = (as_wanted k ≡ book.wanted z late x) × Known x k
IsWanted z late x (Err b) = (b ≡ Loose) × IsLoose z x × (length x.tail < z.outs)
