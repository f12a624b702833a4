-- What is known of the first byte of a line. Assumes nothing.
use Rattle.std.proofs.Common.{◌≡◌, ℕ, ◌<◌, ◌≤◌, true, false, eqb, List, [], ◌∷◌, length, get_or, refl, arith}
use Rattle.std.proofs.lemmas.Bool.Decides.{nat_tests}
use Rattle.grammar.specs.Reading.{is, is_end}

pub end_none : (bs : List ℕ) → length bs < 1 → is_end bs ≡ true
unfolding is_end
end_none [] h = refl
end_none (x ∷ xs) h = absurd (omega arith)

pub end_some : (bs : List ℕ) → 1 ≤ length bs → is_end bs ≡ false
unfolding is_end
end_some [] h = absurd (omega arith)
end_some (x ∷ xs) h = refl

pub is_first : (c : ℕ) (bs : List ℕ) → 1 ≤ length bs → is c bs ≡ eqb (get_or bs 0 0) c
unfolding is
is_first c [] h = absurd (omega arith)
is_first c (x ∷ xs) h = refl

pub ruleset fronts = (nat_tests, end_none, end_some, is_first)
