-- Rows of all stages in one queue, and what comes out of it.
-- Assumes nothing.
use Rattle.std.specs.Prelude.{◌≡◌, ℕ, zero, suc, ◌<◌, ◌≤◌, cond, List, [], ◌∷◌, ◌++◌, length, drop, ◌==◌}
use Rattle.streams.specs.Meaning.{Event, Stage, Cell, Sum, Count, first, word, end_of, less_by, cells, as_events}
use Rattle.book.specs.Rows.{Key, Row, Upto, Each, Above, add}

-- an event's row in a stage
abbrev pub row_of : Stage → (number : ℕ) → Event → Row
row_of st s e = record { at = record { end = end_of st.size e.time; stage = s; key = word st.key e }; value = first st.sum (word st.value e) }

-- the way of putting together of each stage
unfoldable pub how_of : List Stage → ℕ → Sum
how_of [] s = Count
how_of (st ∷ sts) zero = st.sum
how_of (st ∷ sts) (suc s) = how_of sts s

-- a row that has ended: an event, of the next stage or out
abbrev pub as_event : Row → Event
as_event r = record { time = less_by 1 r.at.end; key = r.at.key; value = r.value }

pub data Onward : Type 0 where
  Out : Event → Onward
  On : Row → Onward
  Gone : Onward

unfoldable pub onward_by : List Stage → (number : ℕ) → Event → Onward
onward_by [] s e = Out e
onward_by (st ∷ sts) s e = cond (word st.keep' e == 0) Gone (On (row_of st s e))

abbrev pub onward : List Stage → Row → Onward
onward sts r = onward_by (drop (suc r.at.stage) sts) (suc r.at.stage) (as_event r)

-- what becomes of the rows that are left, and of what came out
abbrev pub rest : (ℕ → Sum) → Onward → List Row → List Row
rest how (Out e) x = x
rest how (On r) x = add how r x
rest how Gone x = x

abbrev pub outs : Onward → List Event → List Event
outs (Out e) os = os ++ (e ∷ [])
outs (On r) os = os
outs Gone os = os

-- THE ROWS OF A STAGE, as cells
unfoldable pub stage_cells : ℕ → List Row → List Cell
stage_cells s [] = []
stage_cells s (r ∷ rs) = cond (r.at.stage == s) (record { end = r.at.end; key = r.at.key; value = r.value } ∷ stage_cells s rs) (stage_cells s rs)

-- cells of a stage that were let go: none after a bound
abbrev pub Gones : (number : ℕ) → Key → List Cell → Type 0
Gones s b [] = Unit {0}
Gones s b (c ∷ cs) = Upto (record { end = c.end; stage = s; key = c.key }) b × Gones s b cs

-- IT FLOWS RIGHT: in each stage what was let go, then what is left, are the cells of its events; what was let go are the next stage's events
abbrev pub Flow : Key → (number : ℕ) → List Stage → List Event → List Row → List Event → Type 0
Flow b s [] es x os = os ≡ es
Flow b s (st ∷ sts) es x os = (gone : List Cell) × (gone ++ stage_cells s x ≡ cells st es) × Gones s b gone × Flow b (suc s) sts (as_events gone) x os

pub record Flows (sts : List Stage) (mark : ℕ) (es : List Event) (x : List Row) (os : List Event) : Type 0 where
  pub bound : Key
  pub under : bound.end ≤ mark
  pub above : Above bound x
  pub stages : Each (λ k. k.stage < length sts) x
  pub flow : Flow bound 0 sts es x os
