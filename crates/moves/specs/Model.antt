-- Which rows are below segments.
-- Assumes nothing.
use Rattle.std.specs.Prelude.{◌≡◌, ℕ, ◌≤◌, true, false, List, length, take, drop}
use Rattle.book.specs.Rows.{Row, Each}
use Rattle.book.specs.Queue.{Seg, goes_up}

-- the first so many rows are below the segments, and the others are not
pub record Cut (ss : List Seg) (rs : List Row) (n : ℕ) : Type 0 where
  pub within : n ≤ length rs
  pub low : Each (λ k. goes_up ss k ≡ false) (take n rs)
  pub high : Each (λ k. goes_up ss k ≡ true) (drop n rs)
