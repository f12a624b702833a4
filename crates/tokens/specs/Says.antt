-- What the answers of readers say. Assumes nothing.
use Rattle.std.specs.Prelude.{◌≡◌, ℕ, List, ◌++◌, Ok, Err, Result}
use Rattle.std.specs.Borrow.{Bor}
use Rattle.grammar.specs.Reading.{Got, got, bad}
use Rattle.tokens.specs.declared.faults.Fault.{Fault}
use Rattle.tokens.specs.declared.faults.Fault.TheVariants.{Memory, Refused}
use Rattle.tokens.specs.declared.faults.Unexpected.{Unexpected}

-- what the grammar reads, seen by `view`, and the bytes behind it; or why it is refused, and the bytes from there on
abbrev pub Reads : {X A : Type 0} → (X → A) → Got A → Result (X × Bor (List ℕ)) Unexpected → Type 0
Reads view g (Ok x) = g ≡ got (view x.0) x.1.now
Reads view g (Err u) = g ≡ bad u.0 u.1.now

-- memory may fail at any time; any other fault is the refusal of the reading, at these bytes
abbrev pub Stops : {A : Type 0} → Got A → Fault Unexpected → Type 0
Stops g Memory = Unit {0}
Stops g (Refused u) = g ≡ bad u.0 u.1.now

-- the same as `Reads` where memory may fail
abbrev pub Says : {X A : Type 0} → (X → A) → Got A → Result (X × Bor (List ℕ)) (Fault Unexpected) → Type 0
Says view g (Ok x) = g ≡ got (view x.0) x.1.now
Says view g (Err e) = Stops g e

-- an end of a text, with what stands before it
pub record EndOf (text rest : List ℕ) : Type 0 where
  pub front : List ℕ
  pub is : text ≡ front ++ rest

-- what is left behind what was read, and what is left where it is refused, is an end of the text
abbrev pub Ends : {X : Type 0} → List ℕ → Result (X × Bor (List ℕ)) Unexpected → Type 0
Ends text (Ok x) = EndOf text x.1.now
Ends text (Err u) = EndOf text u.1.now

-- the same where memory may fail
abbrev pub EndsOrStops : {X : Type 0} → List ℕ → Result (X × Bor (List ℕ)) (Fault Unexpected) → Type 0
EndsOrStops text (Ok x) = EndOf text x.1.now
EndsOrStops text (Err Memory) = Unit {0}
EndsOrStops text (Err (Refused u)) = EndOf text u.1.now
