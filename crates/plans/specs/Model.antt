-- What the values of the code stand for in the definitions of the meaning.
-- Assumes nothing.
use Rattle.std.specs.Prelude.{ℕ, List, map, vec_items, slice_index}
use Rattle.streams.specs.Meaning as spec
use Rattle.plans.specs.declared.entries.Event.{Event}
use Rattle.plans.specs.declared.entries.Entry.{Entry}
use Rattle.plans.specs.declared.entries.Entry.TheVariants.{Happened, Still}
use Rattle.plans.specs.declared.exprs.Expr.{Expr}
use Rattle.plans.specs.declared.exprs.Expr.TheVariants.{Num, Time, Key, Value, Plus', Minus', Times', Quotient', Rest', Less', Same', Not'}
use Rattle.plans.specs.declared.stages.Aggregate.{Aggregate}
use Rattle.plans.specs.declared.stages.Aggregate.TheVariants.{Count, Total, Least, Greatest}
use Rattle.plans.specs.declared.stages.Stage.{Stage}
use Rattle.plans.specs.declared.stages.Plan.{Plan}

abbrev pub as_event : Event → spec.Event
as_event e = record { time = e.time.0; key = e.key.0; value = e.value.0 }

-- the event in its words, and all events in memory
abbrev pub event_in : List ℕ → spec.Event
event_in ws = record { time = slice_index ws 0; key = slice_index ws 1; value = slice_index ws 2 }

abbrev pub events_of : List (List ℕ) → List spec.Event
events_of slots = map event_in slots

abbrev pub entry_of : Entry → spec.Entry
entry_of (Happened e) = spec.Ev (as_event e)
entry_of (Still t) = spec.Still t.0

abbrev pub expr_of : Expr → spec.Expr
expr_of (Num n) = spec.Num n
expr_of Time = spec.Time
expr_of Key = spec.Key
expr_of Value = spec.Value
expr_of (Plus' p a q b) = spec.Plus (expr_of a) (expr_of b)
expr_of (Minus' p a q b) = spec.Minus (expr_of a) (expr_of b)
expr_of (Times' p a q b) = spec.Times (expr_of a) (expr_of b)
expr_of (Quotient' p a q b) = spec.Quotient (expr_of a) (expr_of b)
expr_of (Rest' p a q b) = spec.Rest (expr_of a) (expr_of b)
expr_of (Less' p a q b) = spec.Less (expr_of a) (expr_of b)
expr_of (Same' p a q b) = spec.Same (expr_of a) (expr_of b)
expr_of (Not' p a) = spec.Not (expr_of a)

abbrev pub as_sum : Aggregate → spec.Sum
as_sum Count = spec.Count
as_sum Total = spec.Total
as_sum Least = spec.Least
as_sum Greatest = spec.Greatest

abbrev pub stage_of : Stage → spec.Stage
stage_of s = record { keep' = expr_of s.keep; key = expr_of s.key; value = expr_of s.value; size = s.size.0; sum = as_sum s.aggregate }

abbrev pub plan_of : Plan → spec.Plan
plan_of p = record { late = p.late.0; stages = map stage_of (vec_items p.stages) }
