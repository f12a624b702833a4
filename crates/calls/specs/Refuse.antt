-- The refusal that a call gets whatever the logs hold. Assumes nothing.
use Rattle.std.specs.Prelude.{◌≡◌, ℕ, Bool, true, false, length, Ok, Err, Result}
use Rattle.streams.specs.Meaning.{Plan}
use Rattle.streams.specs.Calls.{Reply, No, Yes, Outs, Full, State, Answers, core}
use Rattle.calls.specs.declared.kinds.Refusal.{Refusal}
use Rattle.calls.specs.declared.kinds.Call.{Call}
use Rattle.calls.specs.Form.{call_of, number_of}

abbrev pub is_no : Reply → Bool
is_no (No n) = true
is_no Yes = false
is_no (Outs es) = false
is_no Full = false

-- A refusal: in every state with so many logs it is what may be answered, and all that may be, and nothing changes.
-- Ok: in every state with so many logs in which nothing was dropped something may be answered, and no refusal.
abbrev pub Refuses : Call → (logs : ℕ) → Result Unit Refusal → Type 0
Refuses c logs (Err r) =
    (p : Plan) (room : ℕ) (s : State) → length s.logs ≡ logs → Answers p core room (call_of c) s (No (number_of r)) s × ((a : Reply) (t : State) → Answers p core room (call_of c) s a t → (a ≡ No (number_of r)) × (t ≡ s))
Refuses c logs (Ok u) =
    (p : Plan) (room : ℕ) (s : State) → length s.logs ≡ logs → s.dropped ≡ 0 → ((a : Reply) × (t : State) × Answers p core room (call_of c) s a t) × ((a : Reply) (t : State) → Answers p core room (call_of c) s a t → is_no a ≡ false)
