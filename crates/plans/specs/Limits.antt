-- What is left of a number of parts when an expression takes its own, if it has no more.
-- Assumes nothing.
use Rattle.std.specs.Prelude.{◌≡◌, ℕ, ◌+◌, ◌<◌, true, Some, None, Option}
use Rattle.streams.specs.Meaning.{Expr}
use Rattle.streams.specs.Calls.{parts, expr_ok}

abbrev pub Spare : Expr → (most : ℕ) → Option ℕ → Type 0
Spare e most None = most < parts e
Spare e most (Some left) = (left + parts e ≡ most) × (expr_ok e ≡ true)
