-- Laws of the meaning that let many workers share the work: cells are joined rows, what must be known to go on is
-- little, and what comes out grows only at its end, in order. Each is a type; a proof of the type is the theorem.
-- Assumes nothing.
use Rattle.std.specs.Prelude.{◌≡◌, ℕ, zero, suc, ◌+◌, ◌%◌, cond, ◌&&◌, T, List, [], ◌∷◌, ◌++◌, length, ◌==◌, nat_le, nat_lt}
use Rattle.streams.specs.Meaning.{Event, Entry, Ev, Still, Stage, Plan, Cell, Sum, Count, Total, Least, Greatest, top, time_of, less_by, later, in_time, mark, all_in_time, word, end_of, into, cells, ended, as_events, through, out}
use Rattle.streams.specs.Order.{before, Sorted, Rising, Since, Until}
use Rattle.streams.specs.Calls.{plan_ok, put_in}
use Rattle.streams.specs.Promise.{latests}

-- JOINING. What two values of one window and key come to that were each put together of others.
unfoldable pub together : Sum → ℕ → ℕ → ℕ
together Count a b = (a + b) % top
together Total a b = (a + b) % top
together Least a b = cond (nat_lt b a) b a
together Greatest a b = cond (nat_lt a b) b a

-- a cell among cells, put together with the one of its end and key if there is one
unfoldable pub add_cell : Sum → Cell → List Cell → List Cell
add_cell s d [] = d ∷ []
add_cell s d (c ∷ cs) =
    cond (before d.end d.key c.end c.key) (d ∷ c ∷ cs)
    (cond (d.end == c.end && d.key == c.key) (record { end = c.end; key = c.key; value = together s c.value d.value } ∷ cs) (c ∷ add_cell s d cs))

unfoldable pub join : Sum → List Cell → List Cell → List Cell
join s [] cs = cs
join s (d ∷ ds) cs = add_cell s d (join s ds cs)

-- The cells of events in two places are those of each, joined, in whatever order and grouping.
abbrev pub CellsJoin : Type 0
CellsJoin = (st : Stage) (es fs : List Event) → cells st (es ++ fs) ≡ join st.sum (cells st es) (cells st fs)

abbrev pub JoinCommutes : Type 0
JoinCommutes = (s : Sum) (xs ys : List Cell) → Sorted xs → Sorted ys → join s xs ys ≡ join s ys xs

abbrev pub JoinAssociates : Type 0
JoinAssociates = (s : Sum) (xs ys zs : List Cell) → join s (join s xs ys) zs ≡ join s xs (join s ys zs)

-- WHAT MUST BE KNOWN to go on, of whatever logs: each log's latest time, how many of its events are in, the cells of
-- windows that have not ended, stage by stage, and how many events came out.
pub record Known : Type 0 where
  pub latests : List ℕ
  pub counts : List ℕ
  pub opens : List (List Cell)
  pub came : ℕ

unfoldable pub open_of : (mark : ℕ) → List Cell → List Cell
open_of m [] = []
open_of m (c ∷ cs) = cond (nat_le c.end m) (open_of m cs) (c ∷ open_of m cs)

unfoldable pub opens_of : List Stage → (mark : ℕ) → List Event → List (List Cell)
opens_of [] m es = []
opens_of (st ∷ sts) m es = open_of m (cells st es) ∷ opens_of sts m (through st m es)

unfoldable pub counts_of : (late : ℕ) → List (List Entry) → List ℕ
counts_of late [] = []
counts_of late (l ∷ ls) = length (in_time late 0 l) ∷ counts_of late ls

abbrev pub known_of : Plan → List (List Entry) → Known
known_of p ls = record { latests = latests ls; counts = counts_of p.late ls; opens = opens_of p.stages (mark p.late ls) (all_in_time p.late ls); came = length (out p ls) }

-- what one entry more in log n does to it: the event that is in, if the entry is one and in time
abbrev pub taken : (late latest : ℕ) → Entry → List Event
taken late m (Ev e) = cond (nat_lt (e.time + late) m) [] (e ∷ [])
taken late m (Still t) = []

unfoldable pub taken_at : (late : ℕ) → ℕ → Entry → List ℕ → List Event
taken_at late n e [] = []
taken_at late zero e (m ∷ ms) = taken late m e
taken_at late (suc n) e (m ∷ ms) = taken_at late n e ms

abbrev pub put_latest : ℕ → Entry → List ℕ → List ℕ
put_latest n e [] = []
put_latest zero e (m ∷ ms) = later m (time_of e) ∷ ms
put_latest (suc n) e (m ∷ ms) = m ∷ put_latest n e ms

unfoldable pub put_count : ℕ → (more : ℕ) → List ℕ → List ℕ
put_count n k [] = []
put_count zero k (m ∷ ms) = (m + k) ∷ ms
put_count (suc n) k (m ∷ ms) = m ∷ put_count n k ms

-- the mark by the latest times
abbrev pub least : (late : ℕ) → List ℕ → ℕ → ℕ
least late [] m = m
least late (x ∷ xs) m = least late xs (cond (nat_lt (less_by late x) m) (less_by late x) m)

abbrev pub mark_by : (late : ℕ) → List ℕ → ℕ
mark_by late [] = 0
mark_by late (x ∷ xs) = least late xs (less_by late x)

-- events into cells
abbrev pub step : Stage → Event → List Cell → List Cell
step st e cs = cond (word st.keep' e == 0) cs (into st.sum (end_of st.size e.time) (word st.key e) (word st.value e) cs)

unfoldable pub absorb : Stage → List Event → List Cell → List Cell
absorb st [] cs = cs
absorb st (e ∷ es) cs = step st e (absorb st es cs)

-- new events into the open cells of each stage: what has ended goes on to the next stage, and at last comes out
pub record Flowed : Type 0 where
  pub opens : List (List Cell)
  pub outs : List Event

abbrev pub behind : List Cell → Flowed → Flowed
behind cs f = record { opens = cs ∷ f.opens; outs = f.outs }

unfoldable pub flow : List Stage → (mark : ℕ) → List Event → List (List Cell) → Flowed
flow [] m es os = record { opens = []; outs = es }
flow (st ∷ sts) m es [] = record { opens = []; outs = [] }
flow (st ∷ sts) m es (cs ∷ os) = behind (open_of m (absorb st es cs)) (flow sts m (as_events (ended m (absorb st es cs))) os)

pub record Gone : Type 0 where
  pub known : Known
  pub outs : List Event

abbrev pub go_on : Plan → ℕ → Entry → Known → Gone
go_on p n e k =
    let ms : List ℕ = put_latest n e k.latests in
    let es : List Event = taken_at p.late n e k.latests in
    let f : Flowed = flow p.stages (mark_by p.late ms) es k.opens in
    record { known = record { latests = ms; counts = put_count n (length es) k.counts; opens = f.opens; came = k.came + length f.outs }; outs = f.outs }

-- an entry put into a log
pub record Putting : Type 0 where
  pub log : ℕ
  pub entry : Entry

unfoldable pub put_all : List Putting → List (List Entry) → List (List Entry)
put_all [] ls = ls
put_all (x ∷ xs) ls = put_all xs (put_in x.log x.entry ls)

abbrev pub then' : List Event → Gone → Gone
then' es g = record { known = g.known; outs = es ++ g.outs }

unfoldable pub go_all : Plan → List Putting → Known → Gone
go_all p [] k = record { known = k; outs = [] }
go_all p (x ∷ xs) k = then' (go_on p x.log x.entry k).outs (go_all p xs (go_on p x.log x.entry k).known)

-- Over any list of puts, from whatever logs, what is known goes on to what is to be known then, and what came out
-- before with what it let out is what comes out.
abbrev pub OpenIsEnough : Type 0
OpenIsEnough = (p : Plan) → T (plan_ok p) → (xs : List Putting) (ls : List (List Entry)) →
    ((go_all p xs (known_of p ls)).known ≡ known_of p (put_all xs ls)) × (out p (put_all xs ls) ≡ out p ls ++ (go_all p xs (known_of p ls)).outs)

-- OUT IS IN ORDER, by rising times, then keys; and one entry more adds to its end only what ended between the marks.
abbrev pub OutInOrder : Type 0
OutInOrder = (p : Plan) → T (plan_ok p) → (ls : List (List Entry)) → Rising (out p ls)

abbrev pub OutGrows : Type 0
OutGrows = (p : Plan) → T (plan_ok p) → (ls : List (List Entry)) (n : ℕ) (e : Entry) →
    (more : List Event) × (out p (put_in n e ls) ≡ out p ls ++ more) × Since (mark p.late ls) more × Until (mark p.late (put_in n e ls)) more

-- Windows of no size would hold events that have ended already, and without a stage what is put into the first log would
-- come out before what is in the second: so both limits of a plan are needed.
abbrev pub LimitsNeeded : Type 0
LimitsNeeded =
    (((ls : List (List Entry)) (n : ℕ) (e : Entry) (st : Stage) → ended (mark 0 ls) (cells st (all_in_time 0 (put_in n e ls))) ≡ ended (mark 0 ls) (cells st (all_in_time 0 ls))) → ⊥) ×
    (((ls : List (List Entry)) (n : ℕ) (e : Entry) → (more : List Event) × (out (record { late = 0; stages = [] }) (put_in n e ls) ≡ out (record { late = 0; stages = [] }) ls ++ more)) → ⊥)
