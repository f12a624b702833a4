-- What must be known to go on: the cells of windows that have not ended. And what is added to what came out.
-- Assumes nothing.
use Rattle.std.proofs.Common.{◌≡◌, ℕ, zero, suc, ◌+◌, ◌<◌, ◌≤◌, Bool, true, false, cond, T, ltb, leb, List, [], ◌∷◌, ◌++◌, length, sym, refl, ap, ◌∙◌, ap₂, append_assoc, append-nil, arith, length-append}
use Rattle.std.proofs.lemmas.Bool.{leb-true, leb-false, ltb-false}
use Rattle.std.proofs.lemmas.Bool.Decides.{nat_tests}
use Rattle.streams.specs.Meaning.{Event, Entry, Ev, Still, Stage, Plan, Cell, Sum, less_by, latest, in_time, mark, all_in_time, end_of, into, cells, ended, as_events, through, through_stages, out}
use Rattle.streams.specs.Order.{Bef, Above, Sorted, Since, Until, After, Rising}
use Rattle.streams.specs.Calls.{plan_ok, put_in}
use Rattle.streams.specs.Promise.{latests}
use Rattle.streams.specs.Laws.{Known, open_of, opens_of, counts_of, known_of, taken, taken_at, put_latest, put_count, mark_by, step, absorb, Flowed, flow, go_on, Putting, put_all, go_all}
use Rattle.streams.proofs.Sorted.{sorted}
use Rattle.streams.proofs.Logs.{in_time_end, cells_mid, add_at, put_cells, put_latests, mark_by_latests, less_by_is, end_after, ended_yes, Under, mark_under}
use Rattle.streams.proofs.Marks.{Past, past_none, above_past, past_since, since_ended, events_both, mark_rises, Sized, plan_sized, plan_some}

-- Open cells by a mark: those past it stay, an event at it or after goes among them, a later mark leaves fewer.
past_open : (m : ℕ) (cs : List Cell) → Past m cs → open_of m cs ≡ cs
unfolding open_of
past_open m [] h = refl
past_open m (c ∷ cs) h = let ih : open_of m cs ≡ cs = past_open m cs h.1 in grind (arith, nat_tests)

open_past : (m : ℕ) (cs : List Cell) → Past m (open_of m cs)
unfolding open_of
open_past m [] = tt
open_past m (c ∷ cs) = go (leb c.end m) refl (open_past m cs)
  where
    go : (b : Bool) → leb c.end m ≡ b → Past m (open_of m cs) → Past m (cond b (open_of m cs) (c ∷ open_of m cs))
    go true t ih = ih
    go false t ih = (leb-false c.end m t, ih)

open_into : (m : ℕ) (s : Sum) (n k v : ℕ) (cs : List Cell) → m < n → open_of m (into s n k v cs) ≡ into s n k v (open_of m cs)
unfolding open_of into
open_into m s n k v [] h = grind (arith, nat_tests)
open_into m s n k v (c ∷ cs) h = let ih : open_of m (into s n k v cs) ≡ into s n k v (open_of m cs) = open_into m s n k v cs h in grind (arith, nat_tests)

open_step : (m : ℕ) (st : Stage) (e : Event) (cs : List Cell) → 0 < st.size → m ≤ e.time → open_of m (step st e cs) ≡ step st e (open_of m cs)
open_step m st e cs h i =
    let j : e.time < end_of st.size e.time = end_after st.size e.time h in
    let k : m < end_of st.size e.time = omega arith in
    grind (arith, open_into)

open_absorb : (m : ℕ) (st : Stage) (es more : List Event) → 0 < st.size → Since m more → open_of m (cells st (es ++ more)) ≡ absorb st more (open_of m (cells st es))
unfolding absorb
open_absorb m st es [] h s = rw (append-nil es)
open_absorb m st es (e ∷ more) h s = rw (cells_mid st es more e, open_step m st e (cells st (es ++ more)) h s.0, open_absorb m st es more h s.1)

open_open : (m n : ℕ) (cs : List Cell) → m ≤ n → open_of n (open_of m cs) ≡ open_of n cs
unfolding open_of
open_open m n [] h = refl
open_open m n (c ∷ cs) h = let ih : open_of n (open_of m cs) ≡ open_of n cs = open_open m n cs h in grind (arith, nat_tests)

-- what has ended by a later mark had ended before, or was open
ended_split : (m n : ℕ) (cs : List Cell) → m ≤ n → Sorted cs → ended n cs ≡ ended m cs ++ ended n (open_of m cs)
unfolding open_of ended
ended_split m n [] h s = refl
ended_split m n (c ∷ cs) h s = go (leb c.end m) refl (ended_split m n cs h s.1)
  where
    go : (b : Bool) → leb c.end m ≡ b → ended n cs ≡ ended m cs ++ ended n (open_of m cs) → ended n (c ∷ cs) ≡ ended m (c ∷ cs) ++ ended n (cond b (open_of m cs) (c ∷ open_of m cs))
    go true t ih =
        let u : leb c.end n ≡ true = grind (arith, nat_tests) in
        rw (ended_yes n c cs u, ended_yes m c cs t) (ap (λ (xs : List Cell). c ∷ xs) ih)
    go false t ih =
        let u : m < c.end = leb-false c.end m t in
        let past : Past m cs = above_past m c.end c.key cs u s.0 in
        rw (past_none m (c ∷ cs) (u, past), past_open m cs past)

-- a value into a window that has ended goes among those that have
ended_under_step : (m : ℕ) (s : Sum) (n k v : ℕ) (c : Cell) (cs : List Cell) → n ≤ m → Sorted (c ∷ cs) → ended m (into s n k v cs) ≡ into s n k v (ended m cs) → (m < c.end → ended m cs ≡ []) →
    ended m (into s n k v (c ∷ cs)) ≡ into s n k v (ended m (c ∷ cs))
unfolding ended into
ended_under_step m s n k v c cs h so ih none = grind (arith, nat_tests)

pub ended_under : (m : ℕ) (s : Sum) (n k v : ℕ) (cs : List Cell) → n ≤ m → Sorted cs → ended m (into s n k v cs) ≡ into s n k v (ended m cs)
unfolding ended into
ended_under m s n k v [] h so = grind (arith, nat_tests)
ended_under m s n k v (c ∷ cs) h so = ended_under_step m s n k v c cs h so (ended_under m s n k v cs h so.1) (λ u. past_none m cs (above_past m c.end c.key cs u so.0))

-- one stage: what more comes of it, from its open cells and the new events
through_more : (m n : ℕ) (st : Stage) (es more : List Event) → m ≤ n → 0 < st.size → Since m more → through st n (es ++ more) ≡ through st m es ++ as_events (ended n (absorb st more (open_of m (cells st es))))
through_more m n st es more h z s =
    rw (← (open_absorb m st es more z s), ended_split m n (cells st (es ++ more)) h (sorted st (es ++ more)), since_ended m st es more z s) (events_both (ended m (cells st es)) (ended n (open_of m (cells st (es ++ more)))))

past_ended : (m n : ℕ) (cs : List Cell) → Past m cs → Past m (ended n cs)
unfolding ended
past_ended m n [] h = tt
past_ended m n (c ∷ cs) h =
    let r : Past m (ended n cs) = past_ended m n cs h.1 in
    elim (leb c.end n) as (λ b. Past m (cond b (c ∷ ended n cs) (ended n cs))) [ true ↦ (h.0, r) | false ↦ r ]

-- whatever other events come to the same windows that have ended: what comes of the stage later goes on from there
pub stage_stands : (m n : ℕ) (st : Stage) (es fs : List Event) → m ≤ n → ended m (cells st fs) ≡ ended m (cells st es) → (more : List Event) × (through st n fs ≡ through st m es ++ more) × Since m more
stage_stands m n st es fs h q = (
  as_events (ended n (open_of m (cells st fs))),
  rw (ended_split m n (cells st fs) h (sorted st fs), q) (events_both (ended m (cells st es)) (ended n (open_of m (cells st fs)))),
  past_since m (ended n (open_of m (cells st fs))) (past_ended m n (open_of m (cells st fs)) (open_past m (cells st fs))),
)

-- all stages
pub record FlowIs (sts : List Stage) (m n : ℕ) (es more : List Event) : Type 0 where
  pub opens : (flow sts n more (opens_of sts m es)).opens ≡ opens_of sts n (es ++ more)
  pub outs : through_stages sts n (es ++ more) ≡ through_stages sts m es ++ (flow sts n more (opens_of sts m es)).outs
  pub since : Since m (flow sts n more (opens_of sts m es)).outs

flow_is : (sts : List Stage) (m n : ℕ) (es more : List Event) → Sized sts → m ≤ n → Since m more → FlowIs sts m n es more
unfolding flow opens_of through_stages
flow_is [] m n es more z h s = record { opens = refl; outs = refl; since = s }
flow_is (st ∷ sts) m n es more z h s =
    let new : List Cell = absorb st more (open_of m (cells st es)) in
    let q : open_of m (cells st (es ++ more)) ≡ new = open_absorb m st es more z.0 s in
    let t : through st n (es ++ more) ≡ through st m es ++ as_events (ended n new) = through_more m n st es more h z.0 s in
    let p : Past m new = rw q at (open_past m (cells st (es ++ more))) in
    let o : open_of n new ≡ open_of n (cells st (es ++ more)) = ap (open_of n) (sym q) ∙ open_open m n (cells st (es ++ more)) h in
    let ih : FlowIs sts m n (through st m es) (as_events (ended n new)) = flow_is sts m n (through st m es) (as_events (ended n new)) z.1 h (past_since m (ended n new) (past_ended m n new p)) in
    record {
      opens = ap₂ (λ (x : List Cell) (xs : List (List Cell)). x ∷ xs) o (ih.opens ∙ ap (opens_of sts n) (sym t));
      outs = ap (through_stages sts n) t ∙ ih.outs;
      since = ih.since;
    }

-- the event that is in, of an entry that is put into a log
added_taken : (st : Stage) (late n : ℕ) (e : Entry) (ms : List ℕ) (es : List Event) → add_at st late n e ms (cells st es) ≡ cells st (es ++ taken_at late n e ms)
unfolding taken_at
added_taken st late n e [] es = rw (append-nil es)
added_taken st late zero (Ev e) (m ∷ ms) es =
    elim (ltb (e.time + late) m) as (λ b. cond b (cells st es) (step st e (cells st es)) ≡ cells st (es ++ cond b [] (e ∷ []))) [ true ↦ rw (append-nil es) | false ↦ sym (cells_mid st es [] e ∙ rw (append-nil es)) ]
added_taken st late zero (Still t) (m ∷ ms) es = rw (append-nil es)
added_taken st late (suc n) e (m ∷ ms) es = added_taken st late n e ms es

taken_since : (late k n : ℕ) (e : Entry) (ms : List ℕ) → Under late k ms → Since k (taken_at late n e ms)
unfolding taken_at
taken_since late k n e [] u = tt
taken_since late k zero (Ev e) (m ∷ ms) u = go (ltb (e.time + late) m) refl
  where
    go : (b : Bool) → ltb (e.time + late) m ≡ b → Since k (cond b [] (e ∷ []))
    go true t = tt
    go false t = (omega (arith, ltb-false (e.time + late) m t, less_by_is late m, u.0), tt)
taken_since late k zero (Still t) (m ∷ ms) u = tt
taken_since late k (suc n) e (m ∷ ms) u = taken_since late k n e ms u.1

counts_put : (late n : ℕ) (e : Entry) (ls : List (List Entry)) → put_count n (length (taken_at late n e (latests ls))) (counts_of late ls) ≡ counts_of late (put_in n e ls)
unfolding put_count counts_of put_in latests taken_at
counts_put late n e [] = refl
counts_put late zero e (l ∷ ls) = ap (λ (k : ℕ). k ∷ counts_of late ls) (sym (ap length (in_time_end late 0 l e) ∙ length-append (in_time late 0 l) (taken late (latest 0 l) e)))
counts_put late (suc n) e (l ∷ ls) = ap (λ (ks : List ℕ). length (in_time late 0 l) ∷ ks) (counts_put late n e ls)

-- One entry more, of stages of which there is one at least: the first stage's cells are all that they see of events.
pub record OneMore (late : ℕ) (sts : List Stage) (ls : List (List Entry)) (n : ℕ) (e : Entry) (f : Flowed) : Type 0 where
  pub opens : f.opens ≡ opens_of sts (mark late (put_in n e ls)) (all_in_time late (put_in n e ls))
  pub outs : through_stages sts (mark late (put_in n e ls)) (all_in_time late (put_in n e ls)) ≡ through_stages sts (mark late ls) (all_in_time late ls) ++ f.outs
  pub since : Since (mark late ls) f.outs

one_more : (late : ℕ) (sts : List Stage) → Sized sts → 0 < length sts → (ls : List (List Entry)) (n : ℕ) (e : Entry) →
    OneMore late sts ls n e (flow sts (mark late (put_in n e ls)) (taken_at late n e (latests ls)) (opens_of sts (mark late ls) (all_in_time late ls)))
unfolding opens_of through_stages
one_more late [] z some ls n e = absurd (omega arith)
one_more late (st ∷ sts) z some ls n e =
    let a : ℕ = mark late ls in
    let b : ℕ = mark late (put_in n e ls) in
    let es : List Event = all_in_time late ls in
    let more : List Event = taken_at late n e (latests ls) in
    let same : cells st (all_in_time late (put_in n e ls)) ≡ cells st (es ++ more) = put_cells st late n e ls ∙ added_taken st late n e (latests ls) es in
    let since : Since a more = taken_since late a n e (latests ls) (rw (mark_by_latests late ls) (mark_under late (latests ls))) in
    let f : FlowIs (st ∷ sts) a b es more = flow_is (st ∷ sts) a b es more z (mark_rises late n e ls) since in
    record {
      opens = f.opens ∙ ap (λ (cs : List Cell). open_of b cs ∷ opens_of sts b (as_events (ended b cs))) (sym same);
      outs = ap (λ (cs : List Cell). through_stages sts b (as_events (ended b cs))) same ∙ f.outs;
      since = f.since;
    }

marks : (late n : ℕ) (e : Entry) (ls : List (List Entry)) → mark_by late (put_latest n e (latests ls)) ≡ mark late (put_in n e ls)
marks late n e ls = sym (mark_by_latests late (put_in n e ls) ∙ ap (mark_by late) (put_latests n e ls))

more_of : (p : Plan) → T (plan_ok p) → (ls : List (List Entry)) (n : ℕ) (e : Entry) → OneMore p.late p.stages ls n e (flow p.stages (mark_by p.late (put_latest n e (latests ls))) (taken_at p.late n e (latests ls)) (known_of p ls).opens)
more_of p ok ls n e = rw (marks p.late n e ls) (one_more p.late p.stages (plan_sized p ok) (plan_some p ok) ls n e)

go_on_is : (p : Plan) → T (plan_ok p) → (ls : List (List Entry)) (n : ℕ) (e : Entry) → (go_on p n e (known_of p ls)).known ≡ known_of p (put_in n e ls)
go_on_is p ok ls n e = λ i. record { latests = l i; counts = counts_put p.late n e ls i; opens = m.opens i; came = c i }
  where
    m : OneMore p.late p.stages ls n e (flow p.stages (mark_by p.late (put_latest n e (latests ls))) (taken_at p.late n e (latests ls)) (known_of p ls).opens)
    m = more_of p ok ls n e

    l : put_latest n e (latests ls) ≡ latests (put_in n e ls)
    l = sym (put_latests n e ls)

    c : length (out p ls) + length (go_on p n e (known_of p ls)).outs ≡ length (out p (put_in n e ls))
    c = sym (ap length m.outs ∙ length-append (out p ls) (go_on p n e (known_of p ls)).outs)

-- over any list of puts
pub open_is_enough : (p : Plan) → T (plan_ok p) → (xs : List Putting) (ls : List (List Entry)) →
    ((go_all p xs (known_of p ls)).known ≡ known_of p (put_all xs ls)) × (out p (put_all xs ls) ≡ out p ls ++ (go_all p xs (known_of p ls)).outs)
unfolding go_all put_all
open_is_enough p ok [] ls = (refl, sym (append-nil (out p ls)))
open_is_enough p ok (x ∷ xs) ls =
    let next : List (List Entry) = put_in x.log x.entry ls in
    let ih : ((go_all p xs (known_of p next)).known ≡ known_of p (put_all xs next)) × (out p (put_all xs next) ≡ out p next ++ (go_all p xs (known_of p next)).outs) = open_is_enough p ok xs next in
    let k : (go_on p x.log x.entry (known_of p ls)).known ≡ known_of p next = go_on_is p ok ls x.log x.entry in
    let o : out p next ≡ out p ls ++ (go_on p x.log x.entry (known_of p ls)).outs = (more_of p ok ls x.log x.entry).outs in (
      ap (λ (y : Known). (go_all p xs y).known) k ∙ ih.0,
      ih.1 ∙ ap₂ (λ (ys : List Event) (y : Known). ys ++ (go_all p xs y).outs) o (sym k) ∙ append_assoc (out p ls) (go_on p x.log x.entry (known_of p ls)).outs (go_all p xs (go_on p x.log x.entry (known_of p ls)).known).outs,
    )

-- WHAT COMES OUT IS IN ORDER. Windows end after 0, so that the times just before their ends rise as they do.
abbrev Pos : List Cell → Type 0
Pos [] = Unit {0}
Pos (c ∷ cs) = (0 < c.end) × Pos cs

pos_into : (s : Sum) (n k v : ℕ) (cs : List Cell) → 0 < n → Pos cs → Pos (into s n k v cs)
unfolding into
pos_into s n k v [] h p = (h, tt)
pos_into s n k v (c ∷ cs) h p = let r : Pos (into s n k v cs) = pos_into s n k v cs h p.1 in grind (arith, nat_tests)

pos_cells : (st : Stage) (es : List Event) → 0 < st.size → Pos (cells st es)
unfolding cells
pos_cells st [] h = tt
pos_cells st (e ∷ es) h =
    let r : Pos (cells st es) = pos_cells st es h in
    let j : e.time < end_of st.size e.time = end_after st.size e.time h in
    let i : 0 < end_of st.size e.time = omega arith in
    grind (arith, pos_into)

above_ended : (m n k : ℕ) (cs : List Cell) → Above n k cs → Above n k (ended m cs)
unfolding ended
above_ended m n k [] h = tt
above_ended m n k (c ∷ cs) h = let r : Above n k (ended m cs) = above_ended m n k cs h.1 in elim (leb c.end m) as (λ b. Above n k (cond b (c ∷ ended m cs) (ended m cs))) [ true ↦ (h.0, r) | false ↦ r ]

pub sorted_ended : (m : ℕ) (cs : List Cell) → Sorted cs → Sorted (ended m cs)
unfolding ended
sorted_ended m [] s = tt
sorted_ended m (c ∷ cs) s =
    let r : Sorted (ended m cs) = sorted_ended m cs s.1 in
    elim (leb c.end m) as (λ b. Sorted (cond b (c ∷ ended m cs) (ended m cs))) [ true ↦ (above_ended m c.end c.key cs s.0, r) | false ↦ r ]

after_events : (n k : ℕ) (cs : List Cell) → 0 < n → Above n k cs → After (less_by 1 n) k (as_events cs)
unfolding as_events
after_events n k [] h a = tt
after_events n k (c ∷ cs) h a = (sooner a.0, after_events n k cs h a.1)
  where
    sooner : Bef n k c.end c.key → Bef (less_by 1 n) k (less_by 1 c.end) c.key
    sooner b = let q = less_by_is 1 n in let r = less_by_is 1 c.end in grind arith

rising_ended : (m : ℕ) (cs : List Cell) → Sorted cs → Pos cs → Rising (as_events (ended m cs))
unfolding ended as_events
rising_ended m [] s p = tt
rising_ended m (c ∷ cs) s p =
    let r : Rising (as_events (ended m cs)) = rising_ended m cs s.1 p.1 in
    let a : After (less_by 1 c.end) c.key (as_events (ended m cs)) = after_events c.end c.key (ended m cs) p.0 (above_ended m c.end c.key cs s.0) in
    elim (leb c.end m) as (λ b. Rising (as_events (cond b (c ∷ ended m cs) (ended m cs)))) [ true ↦ (a, r) | false ↦ r ]

until_ended : (m : ℕ) (cs : List Cell) → Pos cs → Until m (as_events (ended m cs))
unfolding ended as_events
until_ended m [] p = tt
until_ended m (c ∷ cs) p = go (leb c.end m) refl (until_ended m cs p.1)
  where
    go : (b : Bool) → leb c.end m ≡ b → Until m (as_events (ended m cs)) → Until m (as_events (cond b (c ∷ ended m cs) (ended m cs)))
    go true t ih = (omega (arith, leb-true c.end m t, less_by_is 1 c.end, p.0), ih)
    go false t ih = ih

all_in_order : (sts : List Stage) (m : ℕ) (es : List Event) → Sized sts → 0 < length sts → Rising (through_stages sts m es) × Until m (through_stages sts m es)
unfolding through_stages
all_in_order [] m es z some = absurd (omega arith)
all_in_order (st ∷ []) m es z some = (rising_ended m (cells st es) (sorted st es) (pos_cells st es z.0), until_ended m (cells st es) (pos_cells st es z.0))
all_in_order (st ∷ sd ∷ sts) m es z some = all_in_order (sd ∷ sts) m (through st m es) z.1 (omega arith)

until_back : (m : ℕ) (xs ys : List Event) → Until m (xs ++ ys) → Until m ys
until_back m [] ys u = u
until_back m (x ∷ xs) ys u = until_back m xs ys u.1

pub out_in_order : (p : Plan) → T (plan_ok p) → (ls : List (List Entry)) → Rising (out p ls)
out_in_order p ok ls = (all_in_order p.stages (mark p.late ls) (all_in_time p.late ls) (plan_sized p ok) (plan_some p ok)).0

pub out_grows : (p : Plan) → T (plan_ok p) → (ls : List (List Entry)) (n : ℕ) (e : Entry) →
    (more : List Event) × (out p (put_in n e ls) ≡ out p ls ++ more) × Since (mark p.late ls) more × Until (mark p.late (put_in n e ls)) more
out_grows p ok ls n e =
    let m = more_of p ok ls n e in
    let more : List Event = (go_on p n e (known_of p ls)).outs in
    let u : Until (mark p.late (put_in n e ls)) (out p (put_in n e ls)) = (all_in_order p.stages (mark p.late (put_in n e ls)) (all_in_time p.late (put_in n e ls)) (plan_sized p ok) (plan_some p ok)).1 in
    (more, m.outs, m.since, until_back (mark p.late (put_in n e ls)) (out p ls) more (rw m.outs at u))

-- so what came out stands
pub out_stands : (p : Plan) → T (plan_ok p) → (ls : List (List Entry)) (n : ℕ) (e : Entry) → (more : List Event) × (out p (put_in n e ls) ≡ out p ls ++ more)
out_stands p ok ls n e = let g = out_grows p ok ls n e in (g.0, g.1)
