-- Worked examples: a plan, entries put into so many logs, and what comes out then. docs/MEANING.md has them in words.
-- Assumes nothing.
use Rattle.std.specs.Prelude.{◌≡◌, ℕ, List, [], ◌∷◌}
use Rattle.streams.specs.Meaning.{Event, Ev, Still, Stage, Plan, Expr, Num, Key, Value, Plus, Quotient, Rest, Sum, Count, Total, Greatest, out}
use Rattle.streams.specs.Calls.{empties}
use Rattle.streams.specs.Laws.{Putting, put_all}

pub record Case : Type 0 where
  pub plan : Plan
  pub logs : ℕ
  pub puts : List Putting
  pub outs : List Event

abbrev pub event : (time key value : ℕ) → Event
event t k v = record { time = t; key = k; value = v }

abbrev pub put : (log time key value : ℕ) → Putting
put l t k v = record { log = l; entry = Ev (event t k v) }

abbrev pub still : (log time : ℕ) → Putting
still l t = record { log = l; entry = Still t }

-- windows of a size, kept whole, by the key
abbrev pub stage : (key value : Expr) → (size : ℕ) → Sum → Stage
stage k v z s = record { keep' = Num 1; key = k; value = v; size = z; sum = s }

abbrev pub counting : Plan
counting = record { late = 10; stages = stage Key Value 100 Count ∷ [] }

abbrev pub by : Stage → Plan
by st = record { late = 10; stages = st ∷ [] }

abbrev pub two_stages : Plan
two_stages = record { late = 10; stages = stage Key Value 100 Count ∷ stage (Num 0) Value 1000 Greatest ∷ [] }

-- times 5, 50 and 120 with key 1 in log 0; then a late one and one in time; then still
abbrev pub begun : List Putting → List Putting
begun more = put 0 5 1 0 ∷ put 0 50 1 0 ∷ put 0 120 1 0 ∷ more

abbrev pub gone_on : List Putting → List Putting
gone_on more = begun (put 0 60 1 0 ∷ put 0 110 1 0 ∷ more)

unfoldable pub table : List Case
table =
    -- A, B, C
    record { plan = counting; logs = 1; puts = begun []; outs = event 99 1 2 ∷ [] }
    ∷ record { plan = counting; logs = 1; puts = gone_on []; outs = event 99 1 2 ∷ [] }
    ∷ record { plan = counting; logs = 1; puts = gone_on (still 0 210 ∷ []); outs = event 99 1 2 ∷ event 199 1 2 ∷ [] }
    -- D: an empty log holds up all
    ∷ record { plan = counting; logs = 2; puts = begun []; outs = [] }
    ∷ record { plan = counting; logs = 2; puts = begun (still 1 1000 ∷ []); outs = event 99 1 2 ∷ [] }
    -- E: a second stage
    ∷ record { plan = two_stages; logs = 1; puts = gone_on (still 0 210 ∷ still 0 1010 ∷ []); outs = event 999 0 2 ∷ [] }
    -- F: by rising keys
    ∷ record { plan = counting; logs = 1; puts = put 0 5 7 0 ∷ put 0 6 3 0 ∷ still 0 110 ∷ []; outs = event 99 3 1 ∷ event 99 7 1 ∷ [] }
    -- exactly at the lateness, and just beyond
    ∷ record { plan = counting; logs = 1; puts = put 0 120 1 0 ∷ put 0 110 1 0 ∷ still 0 310 ∷ []; outs = event 199 1 2 ∷ [] }
    ∷ record { plan = counting; logs = 1; puts = put 0 120 1 0 ∷ put 0 109 1 0 ∷ still 0 310 ∷ []; outs = event 199 1 1 ∷ [] }
    -- a window that would end at 2 to the 62 never does
    ∷ record { plan = by (stage Key Value 1099511627776 Count); logs = 1; puts = put 0 4611686018427387903 1 0 ∷ []; outs = [] }
    -- a total that wraps
    ∷ record { plan = by (stage Key Value 100 Total); logs = 1; puts = put 0 5 1 18446744073709551615 ∷ put 0 6 1 3 ∷ still 0 110 ∷ []; outs = event 99 1 2 ∷ [] }
    -- quotient and rest by 0
    ∷ record { plan = by (stage Key (Plus (Quotient Key (Num 0)) (Rest Key (Num 0))) 100 Total); logs = 1; puts = put 0 5 1 4 ∷ still 0 110 ∷ []; outs = event 99 1 0 ∷ [] }
    -- a stage that keeps nothing
    ∷ record { plan = by (record { keep' = Num 0; key = Key; value = Value; size = 100; sum = Count }); logs = 1; puts = gone_on (still 0 210 ∷ []); outs = [] }
    -- equal ends in two stages
    ∷ record { plan = record { late = 10; stages = stage Key Value 100 Count ∷ stage Key (Num 1) 100 Total ∷ [] }; logs = 1; puts = put 0 5 1 0 ∷ put 0 50 1 0 ∷ still 0 110 ∷ []; outs = event 99 1 1 ∷ [] }
    ∷ []

abbrev pub Right : List Case → Type 0
Right [] = Unit {0}
Right (c ∷ cs) = (out c.plan (put_all c.puts (empties c.logs)) ≡ c.outs) × Right cs

-- Of each row just that comes out.
abbrev pub CasesRight : Type 0
CasesRight = Right table
