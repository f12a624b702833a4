-- Events and rows as the code has them: a row whose end is beyond 64 bits is none, since its window never ends.
-- Assumes nothing.
use Rattle.std.specs.Prelude.{◌≡◌, ℕ, ◌^◌, ◌≤◌, ◌≢◌, ◌⊎◌, Some, None, Option}
use Rattle.streams.specs.Meaning.{Event, Stage, word, end_of}
use Rattle.book.specs.Flow as book
use Rattle.plans.specs.Model.{as_event}
use Rattle.rows.specs.declared.flow.Onward.{Onward}
use Rattle.rows.specs.declared.flow.Onward.TheVariants.{Out, On, Gone}
use Rattle.rows.specs.declared.row.Row.{Row}
use Rattle.rows.specs.Model.{row_of}

-- the row of an event in a stage, if it is kept and its window ends
abbrev pub Enters : Stage → (number : ℕ) → Event → Option Row → Type 0
Enters st s e None = (word st.keep' e ≡ 0) ⊎ (2 ^ 64 ≤ end_of st.size e.time)
Enters st s e (Some r) = (word st.keep' e ≢ 0) × (row_of r ≡ book.row_of st s e)

-- what becomes of a row
abbrev pub Goes : book.Onward → Onward → Type 0
Goes (book.Out e) (Out f) = as_event f ≡ e
Goes (book.Out e) (On q) = ⊥
Goes (book.Out e) Gone = ⊥
Goes (book.On r) (Out f) = ⊥
Goes (book.On r) (On q) = row_of q ≡ r
Goes (book.On r) Gone = 2 ^ 64 ≤ r.at.end
Goes book.Gone (Out f) = ⊥
Goes book.Gone (On q) = ⊥
Goes book.Gone Gone = Unit {0}
