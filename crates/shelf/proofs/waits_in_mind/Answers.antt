use Rattle.shelf.proofs.waits_in_mind.Goals as goal
use Rattle.std.proofs.Common.{◌≡◌, ℕ, Bool, true, List, refl}
use Rattle.streams.specs.Hands.{Stand, away, here}
use Rattle.shelf.specs.Moments.{hand}
use Rattle.shelf.proofs.Waiting.{Waiting, waits_ok}

-- in the mind of a hand that is there
there : (has : List ℕ → ℕ → Bool) (k : ℕ) (x : Stand (List ℕ)) → Waiting (λ m n. has m n ≡ true) x k → (c : ℕ) × (m : List ℕ) × (x ≡ here c m) × (has m k ≡ true)
there has k away p = absurd p
there has k (here c m) p = (c, m, refl, p)

pub returns : goal.returns
returns c = λ w has keeps takes all a x m. there has x.number (a.scene.hand x.hand) (waits_ok (hand w) (λ m n. has m n ≡ true) keeps takes a.goes x m)
