-- The rows of a segment among sorted rows: which they are, the share of them that is picked, and what is left.
-- Assumes nothing.
use Rattle.std.specs.Prelude.{◌≡◌, ℕ, zero, suc, ◌≤◌, Bool, true, false, not, ◌&&◌, List, [], ◌∷◌, length, take, drop, Some, None, Option}
use Rattle.book.specs.Rows.{Key, Row, Each, ltk}
use Rattle.book.specs.Queue.{Seg, is_of, pick, left}
use Rattle.rows.specs.declared.row.RowKey.{RowKey}
use Rattle.rows.specs.declared.segments.KeyRange.{KeyRange}
use Rattle.rows.specs.Model.{key_of}
use Rattle.rows.specs.Search.{Splits}

-- the upper end of a segment: the low of the next, if there is one
abbrev pub IsHigh : Option RowKey → (next : List Seg) → Type 0
IsHigh None [] = Unit {0}
IsHigh None (s ∷ ss) = ⊥
IsHigh (Some h) [] = ⊥
IsHigh (Some h) (s ∷ ss) = s.low ≡ key_of h

-- the keys of the i-th segment
abbrev pub IsRange : KeyRange → (i : ℕ) → List Seg → Type 0
IsRange r i [] = ⊥
IsRange r zero (s ∷ ss) = (s.low ≡ key_of r.low) × IsHigh r.high ss
IsRange r (suc i) (s ∷ ss) = IsRange r i ss

-- is a key in a range
abbrev pub is_below : Option RowKey → Key → Bool
is_below None k = true
is_below (Some h) k = ltk k (key_of h)

abbrev pub within : KeyRange → Key → Bool
within r k = not (ltk k (key_of r.low)) && is_below r.high k

-- so many rows are below the upper end
abbrev pub Ends : Option RowKey → List Row → (e : ℕ) → Type 0
Ends None rs e = e ≡ length rs
Ends (Some h) rs e = Splits (key_of h) rs e

-- a test holds for the rows from a on, before b, and for no others
pub record Run (t : Key → Bool) (rs : List Row) (a b : ℕ) : Type 0 where
  pub order : a ≤ b
  pub within : b ≤ length rs
  pub low : Each (λ k. t k ≡ false) (take a rs)
  pub mid : Each (λ k. t k ≡ true) (drop a (take b rs))
  pub high : Each (λ k. t k ≡ false) (drop b rs)

-- what is picked of rows for the segment of a range, at most so many, and what is left
pub record Shared (r : KeyRange) (most : ℕ) (rs share rest : List Row) : Type 0 where
  pub picked : (i : ℕ) (ss : List Seg) → IsRange r i ss → share ≡ pick most (is_of i ss) rs
  pub kept : (i : ℕ) (ss : List Seg) → IsRange r i ss → rest ≡ left most (is_of i ss) rs
