-- The limits within which the book's bytes are right: what must hold of its numbers and lengths, step by step, so that every content can be written and read.
-- Assumes nothing.
use Rattle.std.specs.Prelude.{◌≡◌, ℕ, suc, ◌+◌, ◌*◌, ◌<◌, ◌≤◌, false, T, List, length}
use mathlib.Core.List.{Memᴰ}
use Rattle.streams.specs.Meaning.{Entry, Plan}
use Rattle.streams.specs.Calls.{entry_ok, empties}
use Rattle.book.specs.Queue.{Write}
use Rattle.book.specs.Due.{Sizes}
use Rattle.book.specs.Ledger.{LogBox, let_go, taken_of, Task, Rest, Want, wanted, is_old, OutWrite}
use Rattle.book.specs.Words.{AreNumbers, write_ledger, write_page, write_out, Filled}
use Rattle.book.specs.Book.{Book, empty_book, SoundBook, put_all, put_batch, take_into, turn_of, after_turn, HeldOnce, log_of}
use Rattle.book.specs.Numbers.{Among}
use Rattle.book.specs.Interface.{Tag}

-- so many steps the book reaches: the 2 to the 56 of a run, and what one worker may need after them to finish
abbrev pub longest : ℕ
longest = 56539106072908298546665520023773392506479484700019806659891398441363832832

-- Within: of a book that is right for the logs, after at most so many steps
pub record Limits (z : Sizes) (p : Plan) (logs bound : ℕ) (Within : ℕ → List (List Entry) → Book → Type 0) : Type 0 where
  pub starts : Within 0 (empties logs) (empty_book logs)
  pub later : {n : ℕ} {ls : List (List Entry)} {x : Book} → Within n ls x → Within (suc n) ls x
  pub batch : {n : ℕ} {ls : List (List Entry)} {x : Book} (l floor i c s : ℕ) (es : List Entry) → n < bound → SoundBook z p ls x → Within n ls x → l < logs → floor ≤ (taken_of l x.ledger.logs).taken → Tag n i c s → ((e : Entry) → Memᴰ e es → T (entry_ok e)) → length es ≤ 8 →
      length (let_go floor (x.log l)).events + length es ≤ z.log → Within (suc n) (put_all l es ls) (put_batch p l floor i (record { life = c; serial = s }) es x)
  pub take : {n : ℕ} {ls : List (List Entry)} {x : Book} (l : ℕ) (b : LogBox) → n < bound → SoundBook z p ls x → Within n ls x → wanted z p.late x.ledger ≡ Rest → l < logs → HeldOnce p.late (log_of l ls) b → is_old l b x.ledger ≡ false → Within n ls (take_into z p l b x)
  pub turn : {n : ℕ} {ls : List (List Entry)} {x : Book} (k : Task) → n < bound → SoundBook z p ls x → Within n ls x → wanted z p.late x.ledger ≡ Want k → Within (suc n) ls (after_turn (turn_of z p k x) x)
  -- the contents that a step fills: a box can hold their numbers, and pages are within 1 MiB
  pub ledger_words : {n : ℕ} {ls : List (List Entry)} {x : Book} (k : Task) → n < bound → SoundBook z p ls x → Within n ls x → wanted z p.late x.ledger ≡ Want k → AreNumbers (write_ledger (turn_of z p k x).ledger)
  pub page_words : {n : ℕ} {ls : List (List Entry)} {x : Book} (k : Task) (w : Write) → n < bound → SoundBook z p ls x → Within n ls x → wanted z p.late x.ledger ≡ Want k → Among w (turn_of z p k x).rows → AreNumbers (write_page w.content) × Filled w.content
  pub out_words : {n : ℕ} {ls : List (List Entry)} {x : Book} (k : Task) (w : OutWrite) → n < bound → SoundBook z p ls x → Within n ls x → wanted z p.late x.ledger ≡ Want k → Among w (turn_of z p k x).outs → AreNumbers (write_out w.events)
  pub page_short : {n : ℕ} {ls : List (List Entry)} {x : Book} (k : Task) (w : Write) → SoundBook z p ls x → Within n ls x → wanted z p.late x.ledger ≡ Want k → Among w (turn_of z p k x).rows → 8 + 32 * length (write_page w.content) ≤ 1048576
  pub out_short : {n : ℕ} {ls : List (List Entry)} {x : Book} (k : Task) (w : OutWrite) → SoundBook z p ls x → Within n ls x → wanted z p.late x.ledger ≡ Want k → Among w (turn_of z p k x).outs → 8 + 32 * length (write_out w.events) ≤ 1048576
