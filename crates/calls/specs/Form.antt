-- The bytes of a call, what each value stands for in the meaning, and what may be read from bytes.
-- Assumes nothing.
use Rattle.std.specs.Prelude.{◌≡◌, ℕ, ◌+◌, ◌^◌, ◌<◌, ◌≤◌, true, false, List, [], ◌∷◌, ◌++◌, length, take, drop, Some, None, Ok, Err, Option, Result, ◌≢◌}
use Rattle.streams.specs.Calls as spec
use Rattle.octets.specs.Form.{two, eight}
use Rattle.plans.specs.Model.{entry_of}
use Rattle.plans.specs.declared.entries.Event.{Event}
use Rattle.plans.specs.declared.entries.Entry.TheVariants.{Happened, Still}
use Rattle.calls.specs.declared.kinds.Refusal.{Refusal}
use Rattle.calls.specs.declared.kinds.Refusal.TheVariants.{Invalid, NoLog, Dropped, NotOut, Busy, NotBuilt}
use Rattle.calls.specs.declared.kinds.Kind.{Kind}
use Rattle.calls.specs.declared.kinds.Kind.TheVariants as kind
use Rattle.calls.specs.declared.kinds.Call.{Call}
use Rattle.calls.specs.declared.kinds.Call.TheVariants.{Put, Out, Drop}

abbrev pub call_of : Call → spec.Call
call_of (Put log entry) = spec.Put log.0 (entry_of entry)
call_of (Out from most) = spec.Out' from.0 most
call_of (Drop before) = spec.Drop before.0

-- the number that a refusal goes by
abbrev pub number_of : Refusal → ℕ
number_of Invalid = 1
number_of NoLog = 2
number_of Dropped = 3
number_of NotOut = 4
number_of Busy = 11
number_of NotBuilt = 12

-- THE FORM OF A CALL: its kind, then its numbers
abbrev pub kind_of : Call → Kind
kind_of (Put log (Happened e)) = kind.Put
kind_of (Put log (Still t)) = kind.Still
kind_of (Out from most) = kind.Out
kind_of (Drop before) = kind.Drop

-- the byte that a kind goes by
abbrev pub byte_of : Kind → ℕ
byte_of kind.Put = 1
byte_of kind.Still = 2
byte_of kind.Out = 3
byte_of kind.Drop = 4

-- how many bytes a call of a kind has
abbrev pub size_of : Kind → ℕ
size_of kind.Put = 26
size_of kind.Still = 10
size_of kind.Out = 11
size_of kind.Drop = 9

abbrev pub event_bytes : Event → List ℕ
event_bytes e = eight e.time.0 ++ eight e.key.0 ++ eight e.value.0

abbrev pub numbers_of : Call → List ℕ
numbers_of (Put log (Happened e)) = log.0 ∷ event_bytes e
numbers_of (Put log (Still t)) = log.0 ∷ eight t.0
numbers_of (Out from most) = eight from.0 ++ two most
numbers_of (Drop before) = eight before.0

abbrev pub encoded : Call → List ℕ
encoded c = byte_of (kind_of c) ∷ numbers_of c

-- each number is as wide as its place
abbrev pub Fit : Call → Type 0
Fit (Put log (Happened e)) = (log.0 < 2 ^ 8) × (e.time.0 < 2 ^ 64) × (e.key.0 < 2 ^ 64) × (e.value.0 < 2 ^ 64)
Fit (Put log (Still t)) = (log.0 < 2 ^ 8) × (t.0 < 2 ^ 64)
Fit (Out from most) = (from.0 < 2 ^ 64) × (most < 2 ^ 16)
Fit (Drop before) = before.0 < 2 ^ 64

-- these bytes begin with the kind of a call that is not built
abbrev pub Unbuilt : List ℕ → Type 0
Unbuilt bs = (c : Call) × (rest : List ℕ) × (bs ≡ byte_of (kind_of c) ∷ rest) × (spec.core (call_of c) ≡ false)

-- what stands behind the byte of a kind: the numbers of a call of that kind, or it has another length than they have
abbrev pub ReadsNumbers : Kind → List ℕ → Option Call → Type 0
ReadsNumbers k bs None = length bs + 1 ≢ size_of k
ReadsNumbers k bs (Some c) = (kind_of c ≡ k) × (bs ≡ numbers_of c) × Fit c

-- WHAT BYTES ARE: a call that is built and has just these bytes; 12, where they begin as one that is not built; else 1,
-- and then no call has them
abbrev pub Reads : List ℕ → Result Call Refusal → Type 0
Reads bs (Ok c) = (bs ≡ encoded c) × Fit c × (spec.core (call_of c) ≡ true)
Reads bs (Err NotBuilt) = Unbuilt bs
Reads bs (Err Invalid) = (Unbuilt bs → ⊥) × ((c : Call) → Fit c → bs ≢ encoded c)
Reads bs (Err NoLog) = ⊥
Reads bs (Err Dropped) = ⊥
Reads bs (Err NotOut) = ⊥
Reads bs (Err Busy) = ⊥

-- WHAT WAS WRITTEN IS READ AGAIN
abbrev pub ReadAgain : List ℕ → Result Call Refusal → Type 0
ReadAgain bs r = (c : Call) → Fit c → spec.core (call_of c) ≡ true → bs ≡ encoded c → r ≡ Ok c

-- what writing the byte of a kind leaves: that byte in front, where a call of that kind has room, or all as it was
abbrev pub Begins : Kind → (before after : List ℕ) → Option ℕ → Type 0
Begins k before after None = (length before < size_of k) × (after ≡ before)
Begins k before after (Some at) = (at ≡ 1) × (size_of k ≤ length before) × (length after ≡ length before) × (take 1 after ≡ byte_of k ∷ []) × (drop 1 after ≡ drop 1 before)

-- the first n bytes of `after` are those of c, and the others are as they were
pub record Written (c : Call) (n : ℕ) (before after : List ℕ) : Type 0 where
  pub within : n ≤ length after
  pub bytes : take n after ≡ encoded c
  pub kept : drop n after ≡ drop n before
  pub fit : Fit c

-- what encoding leaves: the call's bytes in front, or all as it was, where they have no room
abbrev pub Encodes : Call → (before after : List ℕ) → Option ℕ → Type 0
Encodes c before after None = (length before < length (encoded c)) × (after ≡ before)
Encodes c before after (Some n) = Written c n before after
