-- The first row of sorted rows, if it has ended.
-- Assumes nothing.
use Rattle.std.specs.Prelude.{◌≡◌, ℕ, ◌<◌, ◌≤◌, List, [], ◌∷◌, Some, None, Option}
use Rattle.book.specs.Rows as book
use Rattle.rows.specs.declared.row.Row.{Row}
use Rattle.rows.specs.Model.{row_of}

abbrev pub IsEnded : (mark : ℕ) → List book.Row → Option Row → Type 0
IsEnded m [] None = Unit {0}
IsEnded m [] (Some q) = ⊥
IsEnded m (r ∷ rs) None = m < r.at.end
IsEnded m (r ∷ rs) (Some q) = (row_of q ≡ r) × (r.at.end ≤ m)
