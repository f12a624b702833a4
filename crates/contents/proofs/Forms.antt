-- Words by their form.
-- Assumes nothing.
use Rattle.std.proofs.Common.{◌≡◌, ◌≢◌, ℕ, zero, suc, List, [], ◌∷◌, length, refl, ap, ◌∙◌, arith}
use Rattle.book.specs.Words.{just, unpacked}
use Rattle.contents.specs.declared.form.NoNumbers.TheVariants.{Other}
use Rattle.contents.specs.Form.{IsNumbers, IsNone}

pub form_empty : (ws : List ℕ) → length ws ≡ 0 → IsNone ws Other
unfolding unpacked
form_empty [] h = (refl, λ more e. cc)
form_empty (w ∷ ws) h = absurd (omega arith)

pub form_one : (ws : List ℕ) (n : ℕ) (ns : List ℕ) → ws ≡ n ∷ ns → n ≡ 0 → IsNumbers ws ns
unfolding unpacked
form_one ws n ns e z = let is : ws ≡ 0 ∷ ns = e ∙ ap (λ (k : ℕ). k ∷ ns) z in (is, ap (λ (xs : List ℕ). unpacked (just xs)) is)

pub form_other : (ws : List ℕ) (n : ℕ) (ns : List ℕ) → ws ≡ n ∷ ns → n ≢ 0 → n ≢ 1 → IsNone ws Other
unfolding unpacked
form_other [] n ns e z o = absurd (let l = ap length e in omega arith)
form_other (zero ∷ ws) n ns e z o = absurd (z (cc))
form_other (suc zero ∷ ws) n ns e z o = absurd (o (cc))
form_other (suc (suc w) ∷ ws) n ns e z o = (refl, λ more k. let x : suc (suc w) ≡ 1 = cc in omega arith)
