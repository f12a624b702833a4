-- A test of each of a list, from an answer on all of them.
-- Assumes nothing.
use Rattle.std.proofs.Common.{◌≡◌, ℕ, zero, suc, ◌<◌, Bool, true, false, ◌&&◌, List, [], ◌∷◌, map, length, refl, arith}
use Rattle.std.specs.Bool.{MatchBool}
use Rattle.std.specs.List.{AllWithin, HoldsAt}
use Rattle.streams.specs.Calls.{every}

pub every_by_cases : {A B : Type 0} (f : B → Bool) (g : A → B) (xs : List A) (r : Bool) →
    MatchBool r (AllWithin (λ x. f (g x) ≡ true) xs 0 (length xs)) ((k : ℕ) × (k < length xs) × HoldsAt (λ x. f (g x) ≡ false) xs k) → r ≡ every f (map g xs)
unfolding every
every_by_cases f g [] true h = refl
every_by_cases f g [] false (k, lt, h) = absurd (omega arith)
every_by_cases f g (x ∷ xs) true h = rw (h 0 x (omega arith) (omega arith)) (every_by_cases f g xs true (λ k d l u. h (suc k) d (omega arith) (omega arith)))
every_by_cases f g (x ∷ xs) false (zero, lt, h) = rw (h x) refl
every_by_cases f g (x ∷ xs) false (suc k, lt, h) = let e = every_by_cases f g xs false (k, omega arith, λ d. h d) in rw (← e) (none (f (g x)))
  where
    none : (b : Bool) → false ≡ b && false
    none true = refl
    none false = refl
