-- Events one behind the other as bytes: 24 for each, its time, key and value, high byte first. Assumes nothing.
use Rattle.std.specs.Prelude.{◌≡◌, ℕ, zero, suc, ◌/◌, ◌<◌, ◌≤◌, List, [], ◌∷◌, ◌++◌, length, drop, Some, None, Option, slice_index_or}
use Rattle.streams.specs.Meaning as spec
use Rattle.octets.specs.Form.{eight, word_of}
use Rattle.plans.specs.Model.{as_event}
use Rattle.plans.specs.declared.entries.Event.{Event}

abbrev pub listing : List spec.Event → List ℕ
listing [] = []
listing (e ∷ es) = eight e.time ++ eight e.key ++ eight e.value ++ listing es

abbrev pub first_of : List ℕ → spec.Event
first_of bs = record { time = word_of bs; key = word_of (drop 8 bs); value = word_of (drop 16 bs) }

abbrev pub listed : ℕ → List ℕ → List spec.Event
listed zero bs = []
listed (suc n) bs = first_of bs ∷ listed n (drop 24 bs)

-- the events that stand in these bytes
abbrev pub events_in : List ℕ → List spec.Event
events_in bs = listed (length bs / 24) bs

-- what stands at a place, if anything
abbrev pub Got : List spec.Event → ℕ → Option Event → Type 0
Got es i None = length es ≤ i
Got es i (Some e) = (i < length es) × (slice_index_or es i (as_event e) ≡ as_event e)
