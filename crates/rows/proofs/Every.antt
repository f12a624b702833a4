-- A test of all items in memory is the book's test of what they stand for.
-- Assumes nothing.
use Rattle.std.proofs.Common.{◌≡◌, Bool, ◌&&◌, List, [], ◌∷◌, map, refl, ap}
use Rattle.std.specs.List.{list_all}
use Rattle.streams.specs.Calls.{every}

pub every_is : {A B : Type 0} (test : B → Bool) (f : A → B) (xs : List A) → list_all (λ x. test (f x)) xs ≡ every test (map f xs)
unfolding every
every_is test f [] = refl
every_is test f (x ∷ xs) = ap (λ (b : Bool). test (f x) && b) (every_is test f xs)
