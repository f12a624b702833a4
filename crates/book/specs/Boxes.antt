-- What holds of the boxes of pages and logs, step by step: rows are sorted, and what came out and who was served are words.
-- Assumes nothing.
use Rattle.std.specs.Prelude.{ℕ, ◌<◌, ◌≤◌, List, [], ◌∷◌}
use Rattle.streams.specs.Meaning.{top}
use Rattle.book.specs.Rows.{Sorted}
use Rattle.book.specs.Queue.{Page, Blank, RowPage, IndexPage}
use Rattle.book.specs.Ledger.{Served}
use Rattle.book.specs.Book.{Book}
use Rattle.book.specs.Small.{EventsFit}

abbrev pub SortedPage : Page → Type 0
SortedPage Blank = Unit {0}
SortedPage (RowPage below rs) = Sorted rs
SortedPage (IndexPage ss) = Unit {0}

-- a batch is numbered by a step at most
abbrev pub ServedFit : ℕ → List Served → Type 0
ServedFit n [] = Unit {0}
ServedFit n (s ∷ ss) = (s.life < top) × (s.serial ≤ n) × ServedFit n ss

-- AFTER AT MOST SO MANY STEPS
pub record Boxes (n : ℕ) (x : Book) : Type 0 where
  pub rows : (k : ℕ) → SortedPage (x.row k)
  pub outs : (t : ℕ) → EventsFit 8 (x.out t)
  pub served : (l : ℕ) → ServedFit n (x.log l).served
