-- The bytes of an answer, what each value stands for in the meaning, and what may be read from bytes.
-- Assumes nothing.
use Rattle.std.specs.Prelude.{◌≡◌, ℕ, ◌^◌, ◌<◌, ◌≤◌, List, [], ◌∷◌, ◌++◌, length, take, drop, Some, None, Option, ◌≢◌}
use Rattle.streams.specs.Meaning.{Event}
use Rattle.streams.specs.Calls as spec
use Rattle.octets.specs.Form.{two}
use Rattle.calls.specs.Form.{number_of}
use Rattle.calls.specs.declared.kinds.Refusal.{Refusal}
use Rattle.replies.specs.Listing.{listing, events_in}
use Rattle.replies.specs.declared.kinds.Reply.{Reply}
use Rattle.replies.specs.declared.kinds.Reply.TheVariants.{Refused, Yes, Out, Full}

-- THE FORM OF AN ANSWER: its kind, then its numbers
abbrev pub form : spec.Reply → List ℕ
form (spec.No n) = 0 ∷ n ∷ []
form spec.Yes = 1 ∷ []
form (spec.Outs es) = 2 ∷ two (length es) ++ listing es
form spec.Full = 3 ∷ []

abbrev pub reply_of : Reply → spec.Reply
reply_of (Refused r) = spec.No (number_of r)
reply_of Yes = spec.Yes
reply_of (Out es) = spec.Outs (events_in es.bytes.now)
reply_of Full = spec.Full

-- each number is as wide as its place
abbrev pub EachFit : List Event → Type 0
EachFit [] = Unit {0}
EachFit (e ∷ es) = (e.time < 2 ^ 64) × (e.key < 2 ^ 64) × (e.value < 2 ^ 64) × EachFit es

-- answers that have bytes: refusals by a number that there is, and fewer than 2^16 events
abbrev pub Fit : spec.Reply → Type 0
Fit (spec.No n) = (r : Refusal) × (number_of r ≡ n)
Fit spec.Yes = Unit {0}
Fit (spec.Outs es) = (length es < 2 ^ 16) × EachFit es
Fit spec.Full = Unit {0}

-- WHAT BYTES ARE: an answer that has just these bytes, or no answer's
abbrev pub Reads : List ℕ → Option Reply → Type 0
Reads bs None = (a : spec.Reply) → Fit a → bs ≢ form a
Reads bs (Some r) = (bs ≡ form (reply_of r)) × ((a : spec.Reply) → Fit a → bs ≡ form a → reply_of r ≡ a)

-- the first n bytes of `after` are those of a, and the others are as they were
pub record Written (a : spec.Reply) (n : ℕ) (before after : List ℕ) : Type 0 where
  pub within : n ≤ length after
  pub bytes : take n after ≡ form a
  pub kept : drop n after ≡ drop n before

-- what encoding leaves: the answer's bytes in front, or all as it was, where they have no room or there are too many
abbrev pub Encodes : spec.Reply → (before after : List ℕ) → Option ℕ → Type 0
Encodes a before after None = (Fit a → length before < length (form a)) × (after ≡ before)
Encodes a before after (Some n) = Written a n before after
