-- What the answers of the readers of stages and plans say. Assumes nothing.
use Rattle.std.specs.Prelude.{◌≡◌, ℕ, ◌≤◌, true, cond, List, [], map, length, drop, Some, None, Ok, Err, codes, vec_items, Option, Result, Vec}
use Rattle.std.specs.Str.{bytes_eq}
use Rattle.std.specs.declared.alloc.Global.{Global}
use Rattle.streams.specs.Meaning as spec
use Rattle.streams.specs.Calls.{plan_ok}
use Rattle.plans.specs.declared.stages.Stage.{Stage}
use Rattle.plans.specs.declared.stages.Plan.{Plan}
use Rattle.plans.specs.Model.{stage_of, plan_of}
use Rattle.grammar.specs.Reading.{Got, got, bad}
use Rattle.grammar.specs.Printing.{printed}
use Rattle.tokens.specs.declared.faults.Fault.{Fault}
use Rattle.tokens.specs.declared.faults.Fault.TheVariants.{Memory, Refused}
use Rattle.tokens.specs.declared.faults.Unexpected.{Unexpected}
use Rattle.tokens.specs.Says.{Stops}
use Rattle.grammar.specs.declared.refusals.Refusal.{Refusal}

-- what an aggregate's name stands for
abbrev pub named_of : List ℕ → Option spec.Sum
named_of w =
    cond (bytes_eq w (codes "count")) (Some spec.Count)
    (cond (bytes_eq w (codes "total")) (Some spec.Total) (cond (bytes_eq w (codes "least")) (Some spec.Least) (cond (bytes_eq w (codes "greatest")) (Some spec.Greatest) None)))

abbrev pub stages_in : Vec Stage Global → List spec.Stage
stages_in v = map stage_of (vec_items v)

-- what goes to the end of the text, seen by `view`; memory may fail
abbrev pub SaysWhole : {X A : Type 0} → (X → A) → Got A → Result X (Fault Unexpected) → Type 0
SaysWhole view g (Ok x) = g ≡ got (view x) []
SaysWhole view g (Err e) = Stops g e

-- memory may fail at any time; any other fault is the refusal of the reading, at that place of the text
abbrev pub Refuses : {A : Type 0} → Got A → List ℕ → Fault Refusal → Type 0
Refuses g b Memory = Unit {0}
Refuses g b (Refused r) = (g ≡ bad r.why (drop r.at b)) × (r.at ≤ length b)

abbrev pub SaysPlan : Got spec.Plan → List ℕ → Result Plan (Fault Refusal) → Type 0
SaysPlan g b (Ok p) = g ≡ got (plan_of p) []
SaysPlan g b (Err e) = Refuses g b e

-- what is read is within the limits
abbrev pub Valid : Result Plan (Fault Refusal) → Type 0
Valid (Ok p) = plan_ok (plan_of p) ≡ true
Valid (Err e) = Unit {0}

abbrev pub Again : spec.Plan → Result Plan (Fault Refusal) → Type 0
Again q (Ok p) = plan_of p ≡ q
Again q (Err e) = e ≡ Memory

-- WHAT IS PRINTED OF A PLAN WITHIN THE LIMITS IS READ AGAIN, where memory does not fail
abbrev pub ReadAgain : List ℕ → Result Plan (Fault Refusal) → Type 0
ReadAgain text r = (q : spec.Plan) → plan_ok q ≡ true → text ≡ printed q → Again q r
