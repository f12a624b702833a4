-- What is due, and what comes of it; when all is sound.
-- Assumes nothing.
use Rattle.std.specs.Prelude.{◌≡◌, ℕ, zero, suc, ◌+◌, ◌/◌, ◌<◌, ◌≤◌, Bool, cond, ◌⊎◌, List, [], ◌∷◌, ◌++◌, length, ◌==◌, nat_le, nat_lt}
use Rattle.streams.specs.Meaning.{Event, Entry, Stage, Plan, Sum, word, less_by, cells, mark, all_in_time, through_stages, out}
use Rattle.book.specs.Rows.{Key, Row, onto}
use Rattle.book.specs.Queue.{Link, nil, page, Seg, Page, Pages, Write, written, Queue, After, place, is_of, head_at, page_of, spill, lower, pack, sift, unpack, open'}
use Rattle.book.specs.Held.{Held, queue_of, HeldIn, contents, Order, Fresh, Alive, Lean, rows_of}
use Rattle.book.specs.Flow.{row_of, how_of, Onward, Out, On, Gone, onward, Flows}

-- how many there should be: rows in the front, in the buffer and in a page; segments of one level; rows let go in a step; events in an out page and in a log box
pub record Sizes : Type 0 where
  pub front : ℕ
  pub buffer : ℕ
  pub rows : ℕ
  pub segments : ℕ
  pub emits : ℕ
  pub outs : ℕ
  pub log : ℕ

-- EMIT: rows that have ended, in order: to the next stage, or out
pub record Emitted : Type 0 where
  pub queue : Queue
  pub outs : List Event

abbrev pub go_on : (ℕ → Sum) → Onward → Queue → Emitted
go_on how (Out e) q = record { queue = q; outs = e ∷ [] }
go_on how (On r) q = record { queue = place how r q; outs = [] }
go_on how Gone q = record { queue = q; outs = [] }

abbrev pub popped : List Row → Queue → Queue
popped rs q = record { front = rs; buffer = q.buffer; segments = q.segments; source = q.source; next = q.next }

abbrev pub then' : List Event → Emitted → Emitted
then' os e = record { queue = e.queue; outs = os ++ e.outs }

unfoldable pub emit_by : List Stage → (mark : ℕ) → (Queue → Emitted) → List Row → Queue → Emitted
emit_by sts m more [] q = record { queue = q; outs = [] }
emit_by sts m more (r ∷ rs) q = cond (nat_le r.at.end m) (then' (go_on (how_of sts) (onward sts r) (popped rs q)).outs (more (go_on (how_of sts) (onward sts r) (popped rs q)).queue)) (record { queue = q; outs = [] })

unfoldable pub emit : List Stage → (mark most : ℕ) → Queue → Emitted
emit sts m zero q = record { queue = q; outs = [] }
emit sts m (suc k) q = emit_by sts m (emit sts m k) q.front q

-- WHAT IS DUE
pub data Step : Type 0 where
  Spill : (segment : ℕ) → Step
  Pack : (level : ℕ) → Step
  Lower Sift Emit Unpack Open : Step

pub data Due : Type 0 where
  Nothing : Due
  Do : Step → Due

unfoldable pub count : (Key → Bool) → List Row → ℕ
count f [] = 0
count f (r ∷ rs) = cond (f r.at) (suc (count f rs)) (count f rs)

pub record Best : Type 0 where
  pub number : ℕ
  pub rows : ℕ

-- the fullest segment
unfoldable pub fullest : List Seg → List Row → Best
fullest [] rs = record { number = 0; rows = 0 }
fullest (s ∷ ss) rs = cond (nat_lt (count (is_of 0 (s ∷ ss)) rs) (fullest ss rs).rows) (record { number = suc (fullest ss rs).number; rows = (fullest ss rs).rows }) (record { number = 0; rows = count (is_of 0 (s ∷ ss)) rs })

-- how many segments there are of a level, and of lower ones
unfoldable pub at_level : ℕ → List Seg → ℕ
at_level v [] = 0
at_level v (s ∷ ss) = cond (s.level == v) (suc (at_level v ss)) (at_level v ss)

unfoldable pub below_level : ℕ → List Seg → ℕ
below_level v [] = 0
below_level v (s ∷ ss) = cond (nat_lt s.level v) (suc (below_level v ss)) (below_level v ss)

-- the first level with more segments than there should be
pub data Crowd : Type 0 where
  calm : Crowd
  crowded : (level : ℕ) → Crowd

unfoldable pub crowd : (most : ℕ) → (all ss : List Seg) → Crowd
crowd z all [] = calm
crowd z all (s ∷ ss) = cond (nat_lt z (at_level s.level all)) (crowded s.level) (crowd z all ss)

unfoldable pub due_first : Link → Due
due_first nil = Do Open
due_first (page n) = Do Unpack

unfoldable pub due_segments : List Seg → Due
due_segments [] = Nothing
due_segments (s ∷ ss) = due_first s.index

unfoldable pub due_front : (mark : ℕ) → List Row → List Seg → Due
due_front m [] ss = due_segments ss
due_front m (r ∷ rs) ss = cond (nat_le r.at.end m) (Do Emit) Nothing

unfoldable pub due_source : (mark : ℕ) → Link → Queue → Due
due_source m nil q = due_front m q.front q.segments
due_source m (page n) q = Do Sift

unfoldable pub due_rows : Sizes → (mark : ℕ) → Queue → Due
due_rows z m q =
    cond (nat_lt z.buffer (length q.buffer)) (Do (Spill (fullest q.segments q.buffer).number))
    (cond (nat_lt z.front (length q.front)) (Do Lower) (due_source m q.source q))

-- packing comes before spilling (which may add a segment), so that there is never more than one segment too many
unfoldable pub due_crowd : Sizes → (mark : ℕ) → Crowd → Queue → Due
due_crowd z m calm q = due_rows z m q
due_crowd z m (crowded v) q = Do (Pack v)

abbrev pub due : Sizes → (mark : ℕ) → Queue → Due
due z m q = due_crowd z m (crowd z.segments q.segments q.segments) q

-- the page that a step shows
unfoldable pub index_of : List Seg → Link
index_of [] = nil
index_of (s ∷ ss) = s.index

abbrev pub shows : Step → Queue → Link
shows (Spill i) q = head_at i q.segments
shows Lower q = nil
shows (Pack v) q = nil
shows Sift q = q.source
shows Emit q = nil
shows Unpack q = index_of q.segments
shows Open q = nil

pub record Done : Type 0 where
  pub queue : Queue
  pub writes : List Write
  pub outs : List Event

abbrev pub quiet : After → Done
quiet a = record { queue = a.queue; writes = a.writes; outs = [] }

-- the upper half of a level's segments, and never more in an index page than a level should have
abbrev pub pack_many : Sizes → ℕ → ℕ
pack_many z n = cond (nat_lt z.segments (less_by (n / 2) n)) z.segments (less_by (n / 2) n)

-- DO IT: a function of the queue and the page
abbrev pub do' : Sizes → List Stage → (mark : ℕ) → Step → Page → Queue → Done
do' z sts m (Spill i) shown q = quiet (spill (how_of sts) z.rows i shown q)
do' z sts m Lower shown q = quiet (lower (how_of sts) (length q.front / 2) q)
do' z sts m (Pack v) shown q = quiet (pack (below_level v q.segments + at_level v q.segments / 2) (pack_many z (at_level v q.segments)) q)
do' z sts m Sift shown q = quiet (sift (how_of sts) shown q)
do' z sts m Emit shown q = record { queue = (emit sts m z.emits q).queue; writes = []; outs = (emit sts m z.emits q).outs }
do' z sts m Unpack shown q = quiet (unpack shown q)
do' z sts m Open shown q = quiet (open' (how_of sts) q)

-- TAKE an event
unfoldable pub take' : List Stage → Event → Queue → Queue
take' [] e q = q
take' (st ∷ sts) e q = cond (word st.keep' e == 0) q (place (how_of (st ∷ sts)) (row_of st 0 e) q)

-- there is a row of a key
abbrev pub Has : List Row → Key → Type 0
Has [] k = ⊥
Has (r ∷ rs) k = (r.at ≡ k) ⊎ Has rs k

-- SOUND: of stages, up to a mark, with such events taken, such pages, such a queue, and such events that came out
pub record Sound (sts : List Stage) (mark : ℕ) (es : List Event) (f : Pages) (q : Queue) (os : List Event) : Type 0 where
  pub held : Held
  pub is : q ≡ queue_of held
  pub pages : HeldIn f held
  pub order : Order held
  pub alive : Alive (Has (contents (how_of sts) held)) held.segs
  pub lean : Lean held
  pub few : rows_of held ≤ length es
  pub flows : Flows sts mark es (contents (how_of sts) held) os

abbrev pub Sized : List Stage → Type 0
Sized [] = Unit {0}
Sized (st ∷ sts) = (0 < st.size) × Sized sts

-- THE STATEMENTS
-- at first
abbrev pub empty : Queue
empty = record { front = []; buffer = []; segments = []; source = nil; next = 0 }

abbrev pub SoundAtFirst : Type 0
SoundAtFirst = (sts : List Stage) (m : ℕ) (f : Pages) → Sound sts m [] f empty []

-- an event that is taken, and a mark that rises
abbrev pub SoundTaken : Type 0
SoundTaken = (sts : List Stage) → Sized sts → 1 ≤ length sts → (m : ℕ) (es : List Event) (e : Event) (f : Pages) (q : Queue) (os : List Event) → m ≤ e.time → Sound sts m es f q os → Sound sts m (e ∷ es) f (take' sts e q) os

abbrev pub SoundLater : Type 0
SoundLater = (sts : List Stage) (m n : ℕ) (es : List Event) (f : Pages) (q : Queue) (os : List Event) → m ≤ n → Sound sts m es f q os → Sound sts n es f q os

-- sizes that will do
abbrev pub SizesOk : Sizes → Type 0
SizesOk z = (1 ≤ z.front) × (1 ≤ z.rows) × (2 ≤ z.segments) × (1 ≤ z.emits) × (1 ≤ z.outs)

-- what is due, done
abbrev pub SoundDone : Type 0
SoundDone = (z : Sizes) → SizesOk z → (sts : List Stage) → Sized sts → (m : ℕ) (es : List Event) (f : Pages) (q : Queue) (os : List Event) (step : Step) → Sound sts m es f q os → due z m q ≡ Do step →
    (d : Done) × (d ≡ do' z sts m step (page_of f (shows step q)) q) × Sound sts m es (written d.writes f) d.queue (os ++ d.outs) × Fresh q.next d.queue.next d.writes

-- nothing due: all came out
abbrev pub AllCameOut : Type 0
AllCameOut = (z : Sizes) (sts : List Stage) (m : ℕ) (es : List Event) (f : Pages) (q : Queue) (os : List Event) → Sound sts m es f q os → due z m q ≡ Nothing → os ≡ through_stages sts m es

-- a run of what is due, to where nothing is due
pub data Runs (z : Sizes) (sts : List Stage) (m : ℕ) : Pages → Queue → List Event → Type 0 where
  rests : {f : Pages} {q : Queue} → due z m q ≡ Nothing → Runs z sts m f q []
  goes : {f : Pages} {q : Queue} {os : List Event} (step : Step) (d : Done) → due z m q ≡ Do step → d ≡ do' z sts m step (page_of f (shows step q)) q → Runs z sts m (written d.writes f) d.queue os → Runs z sts m f q (d.outs ++ os)

-- it comes to rest, and then all came out
abbrev pub ComesOut : Type 0
ComesOut = (z : Sizes) → SizesOk z → (sts : List Stage) → Sized sts → (m : ℕ) (es : List Event) (f : Pages) (q : Queue) (os : List Event) → Sound sts m es f q os → (more : List Event) × Runs z sts m f q more × (os ++ more ≡ through_stages sts m es)

-- with the first stage's cells of what is in time in logs, that is what comes out of the logs
abbrev pub SameCells : List Stage → (es fs : List Event) → Type 0
SameCells [] es fs = es ≡ fs
SameCells (st ∷ sts) es fs = cells st es ≡ cells st fs

-- THE LEAST: when the source is none, the front's first row is the least of all that is held, whatever the pages hold
abbrev pub LeastIsFirst : Type 0
LeastIsFirst = (how : ℕ → Sum) (h : Held) (r : Row) (rs : List Row) → h.front ≡ r ∷ rs → h.source ≡ [] → Order h →
    contents how h ≡ r ∷ contents how (record { front = rs; buffer = h.buffer; segs = h.segs; source = h.source; next = h.next })

-- ANY ORDER: rows in any two places may change places
abbrev pub AnyPlace : Type 0
AnyPlace = (how : ℕ → Sum) (rs ss acc : List Row) → (onto how rs (onto how ss acc) ≡ onto how ss (onto how rs acc)) × (onto how (rs ++ ss) acc ≡ onto how rs (onto how ss acc)) × (onto how (onto how rs ss) acc ≡ onto how rs (onto how ss acc))

-- A FIRST PART. However far a sound queue is, with some events taken, the others at its mark or after, and the mark of the logs no earlier: what came out is a first part of what comes out of the logs
abbrev pub Since : ℕ → List Event → Type 0
Since m [] = Unit {0}
Since m (e ∷ es) = (m ≤ e.time) × Since m es

abbrev pub FirstPart : Type 0
FirstPart = (p : Plan) → Sized p.stages → (m : ℕ) (es fs : List Event) (ls : List (List Entry)) (f : Pages) (q : Queue) (os : List Event) → m ≤ mark p.late ls → Since m fs → SameCells p.stages (es ++ fs) (all_in_time p.late ls) → Sound p.stages m es f q os →
    (more : List Event) × (out p ls ≡ os ++ more)
