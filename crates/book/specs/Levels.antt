-- Levels of segments: they never fall along the ledger, at most one has one segment too many, and there are few of them. So the ledger is short.
-- Assumes nothing.
use Rattle.std.specs.Prelude.{◌≡◌, ℕ, suc, ◌*◌, ◌<◌, ◌≤◌, List, [], ◌∷◌, length, ◌≢◌}
use Rattle.streams.specs.Meaning.{Entry, Plan}
use Rattle.book.specs.Queue.{Seg, Page, Blank, RowPage, IndexPage}
use Rattle.book.specs.Due.{Sizes, SizesOk, at_level}
use Rattle.book.specs.Ledger.{Served, LogBox, Task, Want, wanted}
use Rattle.book.specs.Words.{write_ledger, bytes_of, AreWords}
use Rattle.book.specs.Book.{Book, empty_book, SoundBook, put_batch, take_into, turn_of, after_turn}
use Rattle.book.specs.Small.{total, Fits}
use Rattle.book.specs.Interface.{horizon}
use Rattle.book.specs.Room.{Room}
use Rattle.book.specs.Boxes.{Boxes}
use Rattle.book.specs.Real.{sizes}

-- never below a level, and never falling
abbrev pub Climb : ℕ → List Seg → Type 0
Climb v [] = Unit {0}
Climb v (s ∷ ss) = (v ≤ s.level) × Climb s.level ss

-- all of one level
abbrev pub Flat : ℕ → List Seg → Type 0
Flat v [] = Unit {0}
Flat v (s ∷ ss) = (s.level ≡ v) × Flat v ss

abbrev pub FlatPage : Page → Type 0
FlatPage Blank = Unit {0}
FlatPage (RowPage below rs) = Unit {0}
FlatPage (IndexPage []) = Unit {0}
FlatPage (IndexPage (s ∷ ss)) = Flat s.level ss

-- one level may have one too many
abbrev pub OneOver : ℕ → List Seg → Type 0
OneOver z ss = (w : ℕ) × ((v : ℕ) → (v ≢ w) → at_level v ss ≤ z) × (at_level w ss ≤ suc z)

pub record Levels (z : Sizes) (x : Book) : Type 0 where
  pub climb : Climb 0 x.ledger.queue.segments
  pub over : OneOver z.segments x.ledger.queue.segments
  pub flat : (k : ℕ) → FlatPage (x.row k)

abbrev pub LevelsKept : Type 0
LevelsKept =
    (z : Sizes) → SizesOk z → (p : Plan) →
    ((logs : ℕ) → Levels z (empty_book logs)) ×
    ((x : Book) (l floor i : ℕ) (s : Served) (es : List Entry) → Levels z x → Levels z (put_batch p l floor i s es x)) ×
    ((x : Book) (l : ℕ) (b : LogBox) → Levels z x → Levels z (take_into z p l b x)) ×
    ((n : ℕ) (ls : List (List Entry)) (x : Book) (k : Task) → SoundBook z p ls x → Fits z n ls x → Levels z x → wanted z p.late x.ledger ≡ Want k → Levels z (after_turn (turn_of z p k x) x))

-- THE LEDGER IS SHORT: with up to 2 to the 59 entries in the logs, in bytes below 1 MiB, and below 256 KiB where all its numbers are words
abbrev pub LedgerShort : Type 0
LedgerShort =
    (p : Plan) (n : ℕ) (ls : List (List Entry)) (x : Book) → total ls ≤ 8 * horizon → SoundBook sizes p ls x → Fits sizes n ls x → Room sizes x → Levels sizes x →
    (length (bytes_of (write_ledger x.ledger)) < 1048576) × (AreWords (write_ledger x.ledger) → length (bytes_of (write_ledger x.ledger)) < 262144)

-- ALL LIMITS of a book, after at most so many steps
pub record Within (z : Sizes) (n : ℕ) (ls : List (List Entry)) (x : Book) : Type 0 where
  pub fits : Fits z n ls x
  pub room : Room z x
  pub levels : Levels z x
  pub boxes : Boxes n x
