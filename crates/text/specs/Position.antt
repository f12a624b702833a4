-- The line and the column of a place, both from 1 on: docs/PLANS.md, "Refusals". Assumes nothing.
use Rattle.std.specs.Prelude.{ℕ, ◌+◌, cond, List, [], ◌∷◌, take, ◌==◌}
use Rattle.text.specs.declared.places.Position.{Position}

-- behind bytes that begin at such a line and column
unfoldable pub behind : (line column : ℕ) → List ℕ → Position
behind line column [] = record { line = line; column = column }
behind line column (c ∷ cs) = cond (c == 10) (behind (line + 1) 1 cs) (behind line (column + 1) cs)

abbrev pub position_of : List ℕ → (at : ℕ) → Position
position_of text at = behind 1 1 (take at text)
