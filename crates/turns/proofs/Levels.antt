-- Levels that may rise by one, from an answer on all of them.
-- Assumes nothing.
use Rattle.std.proofs.Common.{ℕ, zero, suc, ◌<◌, ◌≤◌, Bool, true, false, List, [], ◌∷◌, length, slice_index, arith}
use Rattle.std.specs.Bool.{MatchBool}
use Rattle.std.specs.List.{AllWithin, HoldsAt}
use Rattle.streams.specs.Meaning.{top}
use Rattle.segs.specs.Model.{segs_of}
use Rattle.turns.specs.Model.{FitLevels}

pub fit_by_cases : (slots : List (List ℕ)) (r : Bool) →
    MatchBool r (AllWithin (λ x. suc (slice_index x 5) < top) slots 0 (length slots)) ((k : ℕ) × (k < length slots) × HoldsAt (λ x. top ≤ suc (slice_index x 5)) slots k) → FitLevels (segs_of slots) r
fit_by_cases [] true h = tt
fit_by_cases [] false (k, lt, h) = absurd (omega arith)
fit_by_cases (x ∷ xs) true h = (h 0 x (omega arith) (omega arith), fit_by_cases xs true (λ k d l u. h (suc k) d (omega arith) (omega arith)))
fit_by_cases (x ∷ xs) false (zero, lt, h) = λ f. absurd (omega (arith, f.0, h x))
fit_by_cases (x ∷ xs) false (suc k, lt, h) = λ f. fit_by_cases xs false (k, omega arith, λ d. h d) f.1
