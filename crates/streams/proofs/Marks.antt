-- Cells past a mark, events at it or after, a plan's limits, and that the mark rises.
-- Assumes nothing.
use Rattle.std.proofs.Common.{◌≡◌, ℕ, zero, suc, ◌<◌, ◌≤◌, Bool, true, false, cond, ◌&&◌, T, ltb, leb, List, [], ◌∷◌, ◌++◌, length, refl, ap, ◌∙◌, append-nil, arith, ltb→lt}
use Rattle.std.proofs.lemmas.Bool.Decides.{nat_tests}
use Rattle.streams.specs.Meaning.{Event, Entry, Stage, Plan, Cell, later, time_of, less_by, mark, cells, ended, as_events}
use Rattle.streams.specs.Calls.{put_in, every, stage_ok, fine, plan_ok}
use Rattle.streams.specs.Promise.{latests}
use Rattle.streams.specs.Order.{Bef, Above, Since}
use Rattle.streams.specs.Laws.{put_latest, least, mark_by}
use Rattle.streams.proofs.Logs.{ended_no, ended_step, cells_mid, mark_by_latests, put_latests, less_by_is}

-- cells whose ends are all after a mark
abbrev pub Past : ℕ → List Cell → Type 0
Past m [] = Unit {0}
Past m (c ∷ cs) = (m < c.end) × Past m cs

pub above_past : (m n k : ℕ) (cs : List Cell) → m < n → Above n k cs → Past m cs
above_past m n k [] h a = tt
above_past m n k (c ∷ cs) h a = (after a.0, above_past m n k cs h a.1)
  where
    after : Bef n k c.end c.key → m < c.end
    after q = omega arith

pub past_none : (m : ℕ) (cs : List Cell) → Past m cs → ended m cs ≡ []
unfolding ended
past_none m [] h = refl
past_none m (c ∷ cs) h = let t : leb c.end m ≡ false = grind (arith, nat_tests) in ended_no m c cs t ∙ past_none m cs h.1

pub events_both : (xs ys : List Cell) → as_events (xs ++ ys) ≡ as_events xs ++ as_events ys
unfolding as_events
events_both [] ys = refl
events_both (x ∷ xs) ys = ap (λ (es : List Event). record { time = less_by 1 x.end; key = x.key; value = x.value } ∷ es) (events_both xs ys)

pub past_since : (m : ℕ) (cs : List Cell) → Past m cs → Since m (as_events cs)
unfolding as_events
past_since m [] h = tt
past_since m (c ∷ cs) h = (omega (arith, less_by_is 1 c.end), past_since m cs h.1)

-- events at a mark or after change no window that has ended
pub since_ended : (m : ℕ) (st : Stage) (es more : List Event) → 0 < st.size → Since m more → ended m (cells st (es ++ more)) ≡ ended m (cells st es)
since_ended m st es [] h s = rw (append-nil es)
since_ended m st es (e ∷ more) h s = rw (cells_mid st es more e) (ended_step m st e (cells st (es ++ more)) h s.0 ∙ since_ended m st es more h s.1)

and_l : (a b : Bool) → T (a && b) → T a
and_l true b h = tt
and_l false b h = h

and_r : (a b : Bool) → T (a && b) → T b
and_r true b h = h
and_r false b h = absurd h

size_pos : (st : Stage) → T (stage_ok st) → 0 < st.size
size_pos st h = ltb→lt 0 st.size (and_r (fine st.keep' && fine st.key && fine st.value) (ltb 0 st.size) (and_l (fine st.keep' && fine st.key && fine st.value && ltb 0 st.size) (leb st.size 1099511627776) h))

-- stages whose windows have a size
abbrev pub Sized : List Stage → Type 0
Sized [] = Unit {0}
Sized (st ∷ sts) = (0 < st.size) × Sized sts

sized_all : (sts : List Stage) → T (every stage_ok sts) → Sized sts
unfolding every
sized_all [] h = tt
sized_all (st ∷ sts) h = (size_pos st (and_l (stage_ok st) (every stage_ok sts) h), sized_all sts (and_r (stage_ok st) (every stage_ok sts) h))

-- those of a plan within its limits, of which there is one at least
pub plan_sized : (p : Plan) → T (plan_ok p) → Sized p.stages
plan_sized p ok = sized_all p.stages (and_r (leb p.late 1099511627776 && ltb 0 (length p.stages) && leb (length p.stages) 8) (every stage_ok p.stages) ok)

pub plan_some : (p : Plan) → T (plan_ok p) → 0 < length p.stages
plan_some p ok =
    ltb→lt 0 (length p.stages)
    (and_r (leb p.late 1099511627776) (ltb 0 (length p.stages))
    (and_l (leb p.late 1099511627776 && ltb 0 (length p.stages)) (leb (length p.stages) 8) (and_l (leb p.late 1099511627776 && ltb 0 (length p.stages) && leb (length p.stages) 8) (every stage_ok p.stages) ok)))

-- the mark rises
least_mono : (late : ℕ) (xs : List ℕ) (a b : ℕ) → a ≤ b → least late xs a ≤ least late xs b
least_mono late [] a b h = h
least_mono late (x ∷ xs) a b h = least_mono late xs (cond (ltb (less_by late x) a) (less_by late x) a) (cond (ltb (less_by late x) b) (less_by late x) b) (grind (arith, nat_tests))

less_by_mono : (late x y : ℕ) → x ≤ y → less_by late x ≤ less_by late y
less_by_mono late x y h = omega (arith, less_by_is late x, less_by_is late y)

later_rises : (m t : ℕ) → m ≤ later m t
later_rises m t = grind (arith, nat_tests)

least_put : (late n : ℕ) (e : Entry) (xs : List ℕ) (a b : ℕ) → a ≤ b → least late xs a ≤ least late (put_latest n e xs) b
least_put late n e [] a b h = h
least_put late zero e (x ∷ xs) a b h =
    let u : less_by late x ≤ less_by late (later x (time_of e)) = less_by_mono late x (later x (time_of e)) (later_rises x (time_of e)) in
    least_mono late xs (cond (ltb (less_by late x) a) (less_by late x) a) (cond (ltb (less_by late (later x (time_of e))) b) (less_by late (later x (time_of e))) b) (smaller (less_by late x) (less_by late (later x (time_of e))) u)
  where
    smaller : (p q : ℕ) → p ≤ q → cond (ltb p a) p a ≤ cond (ltb q b) q b
    smaller p q i = grind (arith, nat_tests)
least_put late (suc n) e (x ∷ xs) a b h = least_put late n e xs (cond (ltb (less_by late x) a) (less_by late x) a) (cond (ltb (less_by late x) b) (less_by late x) b) (grind (arith, nat_tests))

mark_put : (late n : ℕ) (e : Entry) (xs : List ℕ) → mark_by late xs ≤ mark_by late (put_latest n e xs)
mark_put late n e [] = omega arith
mark_put late zero e (x ∷ xs) = least_mono late xs (less_by late x) (less_by late (later x (time_of e))) (less_by_mono late x (later x (time_of e)) (later_rises x (time_of e)))
mark_put late (suc n) e (x ∷ xs) = least_put late n e xs (less_by late x) (less_by late x) (omega arith)

pub mark_rises : (late n : ℕ) (e : Entry) (ls : List (List Entry)) → mark late ls ≤ mark late (put_in n e ls)
mark_rises late n e ls = rw (mark_by_latests late ls, mark_by_latests late (put_in n e ls), put_latests n e ls) (mark_put late n e (latests ls))
