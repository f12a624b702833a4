-- A row that has ended goes on as the definition says, since its next window ends within 64 bits.
-- Assumes nothing.
use Rattle.std.proofs.Common.{◌≡◌, ℕ, suc, ◌^◌, ◌<◌, Bool, true, false, cond, List, [], ◌∷◌, drop, eqb, refl, arith}
use Rattle.streams.specs.Meaning.{Event, Stage, Sum, word}
use Rattle.streams.proofs.Logs.{less_by_is}
use Rattle.book.specs.Rows.{Row}
use Rattle.book.specs.Queue.{Queue}
use Rattle.book.specs.Due.{go_on}
use Rattle.book.specs.Flow as book
use Rattle.book.specs.Small.{StagesFit}
use Rattle.book.proofs.Small.{end_fits, stages_drop}
use Rattle.rows.specs.declared.flow.Onward.TheVariants.{Gone}
use Rattle.rows.specs.Flow.{Goes}

next_ends : (sts : List Stage) (s : ℕ) (e : Event) (r : Row) → StagesFit sts → e.time < 2 ^ 62 → book.onward_by sts s e ≡ book.On r → r.at.end < 2 ^ 64
unfolding book.onward_by
next_ends [] s e r h lt is = absurd (cc)
next_ends (st ∷ sts) s e r h lt is = go (eqb (word st.keep' e) 0) is
  where
    go : (b : Bool) → cond b book.Gone (book.On (book.row_of st s e)) ≡ book.On r → r.at.end < 2 ^ 64
    go true x = absurd (cc)
    go false x = let z : book.row_of st s e ≡ r = cc in rw (← z) (omega (arith, end_fits st.size e.time h.0, h.1, lt))

pub ends : (sts : List Stage) (r q : Row) → StagesFit sts → r.at.end < 2 ^ 62 → book.onward sts r ≡ book.On q → q.at.end < 2 ^ 64
ends sts r q h lt is = next_ends (drop (suc r.at.stage) sts) (suc r.at.stage) (book.as_event r) q (stages_drop (suc r.at.stage) sts h) (omega (arith, less_by_is 1 r.at.end, lt)) is

-- so what is gone there is gone here
pub gone_is : (how : ℕ → Sum) (o : book.Onward) (q : Queue) → ((r : Row) → o ≡ book.On r → r.at.end < 2 ^ 64) → Goes o Gone → (go_on how o q).queue ≡ q
gone_is how (book.Out e) q near g = absurd g
gone_is how (book.On r) q near g = absurd (omega (arith, g, near r refl))
gone_is how book.Gone q near g = refl
