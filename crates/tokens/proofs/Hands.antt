-- A fault that is handed on. Assumes nothing.
use Rattle.std.proofs.Common.{◌≡◌, List, ℕ, sym, subst}
use Rattle.grammar.specs.Reading.{Got, after}
use Rattle.grammar.proofs.Readers.{after_bad}
use Rattle.tokens.specs.declared.faults.Fault.{Fault}
use Rattle.tokens.specs.declared.faults.Fault.TheVariants.{Memory, Refused}
use Rattle.tokens.specs.declared.faults.Unexpected.{Unexpected}
use Rattle.tokens.specs.Says.{Stops}

-- what stops the first of two readings stops both
pub after_stop : {A B : Type 0} (g : Got A) (f : A → List ℕ → Got B) (e : Fault Unexpected) → Stops g e → Stops (after g f) e
after_stop g f Memory s = tt
after_stop g f (Refused u) s = after_bad g f s

pub stop_as : {A : Type 0} {g h : Got A} (e : Fault Unexpected) → h ≡ g → Stops g e → Stops h e
stop_as e is s = subst (λ x. Stops x e) (sym is) s
