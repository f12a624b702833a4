-- What is due comes to an end, in so many steps; then there is room to take.
-- Assumes nothing.
use Rattle.std.specs.Prelude.{◌≡◌, ℕ, suc, ◌+◌, ◌*◌, ◌<◌, ◌≤◌, true, List, [], length}
use Rattle.streams.specs.Meaning.{Entry, Plan, in_time}
use Rattle.book.specs.Due.{Sizes, SizesOk}
use Rattle.book.specs.Ledger.{LogBox, Ledger, taken_of, has_room, new_events, took, Task, Rest, Want, wanted, let_go}
use Rattle.book.specs.Book.{Book, SoundBook, PlanFine, taken_events, turn_of, after_turn, log_of}

-- so many steps that are due, one after the other
pub data Turns (z : Sizes) (p : Plan) : ℕ → Book → Book → Type 0 where
  rests : {x : Book} → Turns z p 0 x x
  goes : {n : ℕ} {x y : Book} (k : Task) → wanted z p.late x.ledger ≡ Want k → Turns z p n (after_turn (turn_of z p k x) x) y → Turns z p (suc n) x y

-- THE MEASURE, of so many stages, events taken and events in the tail: each step lowers it. It is the greatest that three numbers can come to, each counted as often as the ones behind it can be:
-- twice the stages that rows have before them, and the tail; the level of the first segment, and one; the weight of front, buffer, segments and source
abbrev pub weights : (taken : ℕ) → ℕ
weights e = 6 * e + 1

abbrev pub ranks : (taken : ℕ) → ℕ
ranks e = e + 2

abbrev pub most_steps : (stages taken tail : ℕ) → ℕ
most_steps n e t = (2 * (n * e) + t) * (ranks e * weights e) + (e + 1) * weights e + 6 * e

abbrev pub EndsSoon : Type 0
EndsSoon =
    (z : Sizes) → SizesOk z → (p : Plan) → PlanFine p → (ls : List (List Entry)) (x : Book) → SoundBook z p ls x →
    (n : ℕ) × (y : Book) × Turns z p n x y × (n ≤ most_steps (length p.stages) (length (taken_events p.late ls x.ledger.logs)) (length x.ledger.tail)) × (wanted z p.late y.ledger ≡ Rest) × SoundBook z p ls y

-- with nothing due there is room: whatever is new in a log's box, one event of it at least is taken
abbrev pub RoomToTake : Type 0
RoomToTake =
    (z : Sizes) (p : Plan) (x : Ledger) → wanted z p.late x ≡ Rest → (has_room z x.queue ≡ true) ×
    ((l : ℕ) (b : LogBox) → l < length x.logs → 1 ≤ length (new_events b (taken_of l x.logs)) → (taken_of l x.logs).taken < (taken_of l (took z p.stages l b x).logs).taken)

-- once all that a log holds is taken, its box is empty when that is let go: so there is room for a batch
abbrev pub RoomForBatch : Type 0
RoomForBatch =
    (z : Sizes) (p : Plan) (ls : List (List Entry)) (x : Book) (l : ℕ) → SoundBook z p ls x → l < length ls → (taken_of l x.ledger.logs).taken ≡ length (in_time p.late 0 (log_of l ls)) → (let_go (taken_of l x.ledger.logs).taken (x.log l)).events ≡ []
