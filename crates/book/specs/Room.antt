-- How much room the ledger and the log boxes need: so much, whatever comes.
-- Assumes nothing.
use Rattle.std.specs.Prelude.{◌≡◌, ℕ, ◌+◌, ◌*◌, ◌≤◌, List, length}
use Rattle.streams.specs.Meaning.{Entry, Plan}
use Rattle.book.specs.Due.{Sizes, SizesOk}
use Rattle.book.specs.Ledger.{Served, LogBox, let_go, Task, Rest, Want, wanted}
use Rattle.book.specs.Book.{Book, empty_book, put_batch, take_into, turn_of, after_turn}
use Rattle.book.specs.Small.{Fits}

pub record Room (z : Sizes) (x : Book) : Type 0 where
  pub front : length x.ledger.queue.front ≤ z.front + z.buffer + z.rows
  pub buffer : length x.ledger.queue.buffer ≤ z.front + 2 * z.buffer + z.rows + z.emits
  pub tail : length x.ledger.tail ≤ z.outs + z.emits
  pub log : (l : ℕ) → length (x.log l).events ≤ z.log

abbrev pub RoomKept : Type 0
RoomKept =
    (z : Sizes) → SizesOk z → (p : Plan) →
    ((logs : ℕ) → Room z (empty_book logs)) ×
    ((x : Book) (l floor i : ℕ) (s : Served) (es : List Entry) → Room z x → length (let_go floor (x.log l)).events + length es ≤ z.log → Room z (put_batch p l floor i s es x)) ×
    ((x : Book) (l : ℕ) (b : LogBox) → Room z x → wanted z p.late x.ledger ≡ Rest → Room z (take_into z p l b x)) ×
    ((n : ℕ) (ls : List (List Entry)) (x : Book) (k : Task) → Room z x → Fits z n ls x → wanted z p.late x.ledger ≡ Want k → Room z (after_turn (turn_of z p k x) x))
