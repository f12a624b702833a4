-- How much there is left to do, by what is in the boxes, until all is taken and nothing is due.
-- Assumes nothing.
use Rattle.std.specs.Prelude.{ℕ, suc, ◌+◌, ◌*◌, cond, List, [], ◌∷◌, length, ◌==◌}
use Rattle.streams.specs.Meaning.{Entry, less_by, in_time, latest}
use Rattle.book.specs.Ledger.{Taken}
use Rattle.book.specs.Ends.{most_steps}

-- TAKES that are left. Of a log: its events that are not taken, and its latest time, if that is not
abbrev pub left_of : (late : ℕ) → List Entry → Taken → ℕ
left_of late es t = less_by t.taken (length (in_time late 0 es)) + cond (t.latest == latest 0 es) 0 1

abbrev pub takes_left : (late : ℕ) → List (List Entry) → List Taken → ℕ
takes_left late [] ts = 0
takes_left late (es ∷ ls) [] = 0
takes_left late (es ∷ ls) (t ∷ ts) = left_of late es t + takes_left late ls ts

-- a ledger that was never filled is filled by the first look, whatever that finds
abbrev pub unfilled : (ledger : List ℕ) → ℕ
unfilled [] = 1
unfilled (b ∷ bs) = 0

-- STEPS that are due between two takes, at most, with so many entries in the logs
abbrev pub most_due : (entries : ℕ) → ℕ
most_due e = most_steps 8 e 640

-- BOTH: the steps that are due before the first take and after each
abbrev pub most_work : (logs entries : ℕ) → ℕ
most_work logs e = (e + logs + 2) * suc (most_due e)
