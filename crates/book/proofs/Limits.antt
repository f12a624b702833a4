-- Every content fits, for as many steps as the book reaches: a box can hold its numbers, and pages are short.
use Rattle.std.proofs.Common.{◌≡◌, ℕ, zero, suc, ◌+◌, ◌*◌, ◌/◌, ◌<◌, ◌≤◌, Bool, true, false, cond, ◌&&◌, T, eqb, ltb, leb, List, [], ◌∷◌, ◌++◌, length, take, drop, sym, refl, ap, ◌∙◌, subst, inl, inr, mul-le-mul_right, mul-suc, arith, ltb→lt, length-append, length-drop, length-take}
use mathlib.Core.List.{Memᴰ}
use Rattle.std.proofs.lemmas.Bool.Decides.{nat_tests}
use Rattle.streams.specs.Meaning.{Event, Entry, Ev, Still, time_of, Stage, Plan, top, later, latest, in_time, word}
use Rattle.streams.specs.Calls.{entry_ok, small, empties, put_in}
use Rattle.book.specs.Rows.{Row}
use Rattle.book.specs.Queue.{Link, nil, page, Seg, Page, Blank, RowPage, IndexPage, Pages, Write, written, Queue, page_of, is_of, pick, Spilled, split_by, one_page, too_full, merge_by, spill_by, spill_at, pack_by}
use Rattle.book.specs.Held.{Held}
use Rattle.book.specs.Flow.{how_of, row_of}
use Rattle.book.specs.Due.{Sizes, SizesOk, Sound, Step, Spill, Pack, Lower, Sift, Emit, Unpack, Open, Done, pack_many, do', take', at_level, below_level, shows}
use Rattle.book.specs.Ledger.{LogBox, let_go, Taken, taken_of, Ledger, watermark, has_room, take_events, new_events, is_old, Task, Publish, Tidy, Rest, Want, wanted, OutWrite}
use Rattle.book.specs.Words.{write_all, write_list, write_event, write_row, write_seg, write_taken, write_queue, write_ledger, write_page, write_out, wide, Below, AreNumbers, Filled}
use Rattle.book.specs.Book.{Book, empty_book, TakenOf, LogsRight, taken_events, SoundBook, PlanFine, put_all, put_batch, take_into, turn_of, after_turn, HeldOnce, log_of}
use Rattle.book.specs.Numbers.{Among}
use Rattle.book.specs.Interface.{Tag}
use Rattle.book.specs.Limits.{Limits, longest}
use Rattle.book.specs.Small.{KeyFit, RowsFit, EventFit, EventsFit, SegsFit, PageFit, WritesFit, QueueFit, StagesFit, EntriesFit, LogsFit, total, Fits, SizesSmall, PlanSmall}
use Rattle.book.proofs.Numbers.{step_numbers}
use Rattle.book.proofs.Deep.{lows_few, heads_few}
use Rattle.book.proofs.Book.{sound_turn, logs_long}
use Rattle.book.proofs.Small.{page_up, queue_up, place_fits, row_fits, events_append, StepFits, step_fits}

-- LOGS
empties_fit : (n : ℕ) → LogsFit (empties n) × (total (empties n) ≡ 0) × (length (empties n) ≡ n)
unfolding empties
empties_fit zero = (tt, refl, refl)
empties_fit (suc n) = let r : LogsFit (empties n) × (total (empties n) ≡ 0) × (length (empties n) ≡ n) = empties_fit n in ((tt, r.0), omega (arith, r.1), ap suc r.2)

entries_append : (xs ys : List Entry) → EntriesFit xs → EntriesFit ys → EntriesFit (xs ++ ys)
entries_append [] ys h k = k
entries_append (x ∷ xs) ys h k = (h.0, entries_append xs ys h.1 k)

pub entries_left : (xs ys : List Entry) → EntriesFit (xs ++ ys) → EntriesFit xs
entries_left [] ys h = tt
entries_left (x ∷ xs) ys h = (h.0, entries_left xs ys h.1)

put_fits : (l : ℕ) (e : Entry) (ls : List (List Entry)) → T (entry_ok e) → LogsFit ls → LogsFit (put_in l e ls) × (total (put_in l e ls) ≤ total ls + 1) × (length (put_in l e ls) ≡ length ls)
unfolding put_in
put_fits l e [] h f = (tt, omega arith, refl)
put_fits zero e (x ∷ ls) h f = ((entries_append x (e ∷ []) f.0 (h, tt), f.1), omega (arith, length-append x (e ∷ [])), refl)
put_fits (suc l) e (x ∷ ls) h f = let r : LogsFit (put_in l e ls) × (total (put_in l e ls) ≤ total ls + 1) × (length (put_in l e ls) ≡ length ls) = put_fits l e ls h f.1 in ((f.0, r.0), omega (arith, r.1), ap suc r.2)

puts_fit : (l : ℕ) (es : List Entry) (ls : List (List Entry)) → EntriesFit es → LogsFit ls → LogsFit (put_all l es ls) × (total (put_all l es ls) ≤ total ls + length es) × (length (put_all l es ls) ≡ length ls)
unfolding put_all
puts_fit l [] ls h f = (f, omega arith, refl)
puts_fit l (e ∷ es) ls h f =
    let r : LogsFit (put_in l e ls) × (total (put_in l e ls) ≤ total ls + 1) × (length (put_in l e ls) ≡ length ls) = put_fits l e ls h.0 f in
    let s : LogsFit (put_all l es (put_in l e ls)) × (total (put_all l es (put_in l e ls)) ≤ total (put_in l e ls) + length es) × (length (put_all l es (put_in l e ls)) ≡ length (put_in l e ls)) = puts_fit l es (put_in l e ls) h.1 r.0 in
    (s.0, omega (arith, r.1, s.1), s.2 ∙ r.2)

entries_of : (es : List Entry) → ((e : Entry) → Memᴰ e es → T (entry_ok e)) → EntriesFit es
entries_of [] h = tt
entries_of (e ∷ es) h = (h e (Memᴰ.head refl), entries_of es (λ x m. h x (Memᴰ.tail m)))

pub logs_fit_at : (l : ℕ) (ls : List (List Entry)) → LogsFit ls → EntriesFit (log_of l ls)
unfolding log_of
logs_fit_at zero [] f = tt
logs_fit_at (suc l) [] f = tt
logs_fit_at zero (x ∷ ls) f = f.0
logs_fit_at (suc l) (x ∷ ls) f = logs_fit_at l ls f.1

and_left : (a b : Bool) → T (a && b) → T a
and_left true b h = tt
and_left false b h = h

and_right : (a b : Bool) → T (a && b) → T b
and_right true b h = h
and_right false b h = absurd h

pub event_ok : (e : Event) → T (entry_ok (Ev e)) → EventFit 0 e
unfolding entry_ok
event_ok e h = (
  omega (arith, ltb→lt e.time 4611686018427387904 (and_left (small e.time) (ltb e.key top) (and_left (small e.time && ltb e.key top) (ltb e.value top) h))),
  ltb→lt e.key top (and_right (small e.time) (ltb e.key top) (and_left (small e.time && ltb e.key top) (ltb e.value top) h)),
  ltb→lt e.value top (and_right (small e.time && ltb e.key top) (ltb e.value top) h),
)

pub time_ok : (e : Entry) → T (entry_ok e) → time_of e < 4611686018427387904
unfolding entry_ok time_of
time_ok (Ev e) h = ltb→lt e.time 4611686018427387904 (and_left (small e.time) (ltb e.key top) (and_left (small e.time && ltb e.key top) (ltb e.value top) h))
time_ok (Still t) h = ltb→lt t 4611686018427387904 h

pub latest_fits : (m : ℕ) (es : List Entry) → m < 4611686018427387904 → EntriesFit es → latest m es < 4611686018427387904
unfolding latest
latest_fits m [] h f = h
latest_fits m (e ∷ es) h f = latest_fits (later m (time_of e)) es (let k : time_of e < 4611686018427387904 = time_ok e f.0 in grind (arith, nat_tests)) f.1

pub in_time_fits : (late m : ℕ) (es : List Entry) → EntriesFit es → EventsFit 0 (in_time late m es) × (length (in_time late m es) ≤ length es)
unfolding in_time
in_time_fits late m [] f = (tt, omega arith)
in_time_fits late m (Ev e ∷ es) f = go (ltb (e.time + late) m) (in_time_fits late m es f.1) (in_time_fits late (later m e.time) es f.1)
  where
    go : (b : Bool) → EventsFit 0 (in_time late m es) × (length (in_time late m es) ≤ length es) → EventsFit 0 (in_time late (later m e.time) es) × (length (in_time late (later m e.time) es) ≤ length es) → EventsFit 0 (cond b (in_time late m es) (e ∷ in_time late (later m e.time) es)) × (length (cond b (in_time late m es) (e ∷ in_time late (later m e.time) es)) ≤ suc (length es))
    go true i j = (i.0, omega (arith, i.1))
    go false i j = ((event_ok e f.0, j.0), omega (arith, j.1))
in_time_fits late m (Still t ∷ es) f = let i : EventsFit 0 (in_time late (later m t) es) × (length (in_time late (later m t) es) ≤ length es) = in_time_fits late (later m t) es f.1 in (i.0, omega (arith, i.1))

pub events_drop : (s n : ℕ) (es : List Event) → EventsFit s es → EventsFit s (drop n es)
events_drop s zero es h = h
events_drop s (suc n) [] h = tt
events_drop s (suc n) (e ∷ es) h = events_drop s n es h.1

pub events_take : (s n : ℕ) (es : List Event) → EventsFit s es → EventsFit s (take n es)
events_take s zero es h = tt
events_take s (suc n) [] h = tt
events_take s (suc n) (e ∷ es) h = (h.0, events_take s n es h.1)

-- TAKING
take_fits : (sts : List Stage) (c : ℕ) (e : Event) (q : Queue) → StagesFit sts → EventFit 0 e → QueueFit c q → QueueFit c (take' sts e q)
unfolding take'
take_fits [] c e q z h f = f
take_fits (st ∷ sts) c e q z h f = go (eqb (word st.keep' e) 0)
  where
    go : (b : Bool) → QueueFit c (cond b q (Rattle.book.specs.Queue.place (how_of (st ∷ sts)) (row_of st 0 e) q))
    go true = f
    go false = let r : KeyFit (row_of st 0 e).at × ((row_of st 0 e).value < top) = row_fits st 0 e z.0 z.1 (omega arith) h in place_fits (how_of (st ∷ sts)) c (row_of st 0 e) q r.0 r.1 f

takes_fit : (z : Sizes) (sts : List Stage) (c : ℕ) (es : List Event) (i : ℕ) (q : Queue) → StagesFit sts → EventsFit 0 es → QueueFit c q → QueueFit c (take_events z sts es i q).queue
unfolding take_events
takes_fit z sts c [] i q s h f = f
takes_fit z sts c (e ∷ es) i q s h f = go (has_room z q) (takes_fit z sts c es (suc i) (take' sts e q) s h.1 (take_fits sts c e q s h.0 f))
  where
    go : (b : Bool) → QueueFit c (take_events z sts es (suc i) (take' sts e q)).queue → QueueFit c (cond b (take_events z sts es (suc i) (take' sts e q)) (record { taken = i; queue = q })).queue
    go true g = g
    go false g = f

-- WRITES: two at most
split_few : (n : ℕ) (s : Seg) (xs ys : List Row) → length (split_by n s xs ys).writes ≤ 2
unfolding split_by
split_few n s xs [] = omega arith
split_few n s xs (y ∷ ys) = omega arith

full_few : (n : ℕ) (s : Seg) (i b : Link) (rows moved : List Row) → length (too_full n s i b rows moved).writes ≤ 2
unfolding too_full
full_few n s nil nil rows moved = split_few n s (take (length rows / 2) rows) (drop (length rows / 2) rows)
full_few n s (page i) nil rows moved = omega arith
full_few n s nil (page b) rows moved = omega arith
full_few n s (page i) (page b) rows moved = omega arith

merge_few : (size n : ℕ) (s : Seg) (b : Link) (rows moved : List Row) → length (merge_by size n s b rows moved).writes ≤ 2
unfolding merge_by
merge_few size n s b rows moved = go (leb (length rows) size)
  where
    go : (c : Bool) → length (cond {A = Spilled} c (one_page n s b rows) (too_full n s s.index b rows moved)).writes ≤ 2
    go true = omega arith
    go false = full_few n s s.index b rows moved

spill_few : (how : ℕ → Rattle.streams.specs.Meaning.Sum) (size n : ℕ) (shown : Page) (head : Link) (s : Seg) (moved : List Row) → length (spill_by how size n shown head s moved).writes ≤ 2
unfolding spill_by
spill_few how size n Blank nil s moved = omega arith
spill_few how size n (RowPage b rs) nil s moved = omega arith
spill_few how size n (IndexPage ss) nil s moved = omega arith
spill_few how size n Blank (page h) s moved = omega arith
spill_few how size n (IndexPage ss) (page h) s moved = omega arith
spill_few how size n (RowPage b rs) (page h) s moved = merge_few size n s b (Rattle.book.specs.Rows.onto how moved rs) moved

spill_at_few : (how : ℕ → Rattle.streams.specs.Meaning.Sum) (size n : ℕ) (shown : Page) (i : ℕ) (ss : List Seg) (moved : List Row) → length (spill_at how size n shown i ss moved).writes ≤ 2
unfolding spill_at
spill_at_few how size n shown zero [] moved = omega arith
spill_at_few how size n shown (suc i) [] moved = omega arith
spill_at_few how size n shown zero (s ∷ ss) moved = spill_few how size n shown s.head s moved
spill_at_few how size n shown (suc i) (s ∷ ss) moved = spill_at_few how size n shown i ss moved

pack_few : (xs ys us : List Seg) (q : Queue) → length (pack_by xs ys us q).writes ≤ 2
unfolding pack_by
pack_few xs [] us q = omega arith
pack_few xs (t ∷ ts) us q = omega arith

pub writes_few : (z : Sizes) (sts : List Stage) (m : ℕ) (step : Step) (shown : Page) (q : Queue) → length (do' z sts m step shown q).writes ≤ 2
writes_few z sts m (Spill i) shown q = spill_at_few (how_of sts) z.rows q.next shown i q.segments (pick z.rows (is_of i q.segments) q.buffer)
writes_few z sts m (Pack v) shown q =
    let i : ℕ = below_level v q.segments + at_level v q.segments / 2 in
    let k : ℕ = pack_many z (at_level v q.segments) in
    pack_few (take i q.segments) (take k (drop i q.segments)) (drop k (drop i q.segments)) q
writes_few z sts m Lower shown q = omega arith
writes_few z sts m Sift shown q = omega arith
writes_few z sts m Emit shown q = omega arith
writes_few z sts m Unpack shown q = omega arith
writes_few z sts m Open shown q = omega arith

written_fits : (z : Sizes) (c : ℕ) (ws : List Write) (f : Pages) (k : ℕ) → WritesFit z c ws → PageFit z c (f k) → PageFit z c (written ws f k)
unfolding written
written_fits z c [] f k h p = p
written_fits z c (w ∷ ws) f k h p = go (eqb k w.number) (written_fits z c ws f k h.2 p)
  where
    go : (b : Bool) → PageFit z c (written ws f k) → PageFit z c (cond b w.content (written ws f k))
    go true i = h.0
    go false i = i

among_fits : (z : Sizes) (c : ℕ) (ws : List Write) (w : Write) → WritesFit z c ws → Among w ws → PageFit z c w.content × Filled w.content
among_fits z c [] w h a = absurd a
among_fits z c (v ∷ vs) w h (inl e) = subst (λ (x : Write). PageFit z c x.content × Filled x.content) (sym e) (h.0, h.1)
among_fits z c (v ∷ vs) w h (inr a) = among_fits z c vs w h.2 a

-- NUMBERS, of any width from a word on
pub below_append : (t : ℕ) (xs ys : List ℕ) → Below t xs → Below t ys → Below t (xs ++ ys)
below_append t [] ys h k = k
below_append t (x ∷ xs) ys h k = (h.0, below_append t xs ys h.1 k)

pub events_below : (t : ℕ) → top ≤ t → (es : List Event) → EventsFit 8 es → Below t (write_all write_event es)
unfolding write_all
events_below t w [] h = tt
events_below t w (e ∷ es) h = (omega (arith, w, h.0.0), (omega (arith, w, h.0.1), (omega (arith, w, h.0.2), events_below t w es h.1)))

rows_below : (t : ℕ) → top ≤ t → (rs : List Row) → RowsFit rs → Below t (write_all write_row rs)
unfolding write_all
rows_below t w [] h = tt
rows_below t w (r ∷ rs) h = (omega (arith, w, h.0.0, h.0.1), (omega (arith, w, h.0.0), (omega (arith, w, h.0.2), (omega (arith, w, h.1), rows_below t w rs h.2))))

segs_below : (t : ℕ) → top ≤ t → (c : ℕ) (ss : List Seg) → c < t → SegsFit c ss → Below t (write_all write_seg ss)
unfolding write_all
segs_below t w c [] l h = tt
segs_below t w c (s ∷ ss) l h = (omega (arith, w, h.0.0.0, h.0.0.1), (omega (arith, w, h.0.0.0), (omega (arith, w, h.0.0.2), (omega (arith, l, h.0.1), (omega (arith, l, h.0.2), (omega (arith, l, h.0.3), segs_below t w c ss l h.1))))))

pub page_below : (t : ℕ) → top ≤ t → (z : Sizes) (c : ℕ) (x : Page) → SizesSmall z → c < t → PageFit z c x → Below t (write_page x)
page_below t w z c Blank s l h = tt
page_below t w z c (RowPage below rs) s l h = (omega (arith, w), (omega (arith, l, h.0), (omega (arith, w, h.2, s.rows), rows_below t w rs h.1)))
page_below t w z c (IndexPage ss) s l h = (omega (arith, w), (omega (arith, w, h.1, s.segments), segs_below t w c ss l h.0))

pub rows_long : (rs : List Row) → length (write_all write_row rs) ≡ 4 * length rs
unfolding write_all
rows_long [] = refl
rows_long (r ∷ rs) = omega (arith, rows_long rs)

pub segs_long : (ss : List Seg) → length (write_all write_seg ss) ≡ 6 * length ss
unfolding write_all
segs_long [] = refl
segs_long (s ∷ ss) = omega (arith, segs_long ss)

pub events_long : (es : List Event) → length (write_all write_event es) ≡ 3 * length es
unfolding write_all
events_long [] = refl
events_long (e ∷ es) = omega (arith, events_long es)

page_short' : (z : Sizes) (c : ℕ) (x : Page) → SizesSmall z → PageFit z c x → 8 + 32 * length (write_page x) ≤ 1048576
page_short' z c Blank s h = omega arith
page_short' z c (RowPage below rs) s h = omega (arith, rows_long rs, h.2, s.rows)
page_short' z c (IndexPage ss) s h = omega (arith, segs_long ss, h.1, s.segments)

-- THE LEDGER
takens_below : (u : ℕ) → top ≤ u → (late : ℕ) (f : ℕ → LogBox) (k : ℕ) (ls : List (List Entry)) (ts : List Taken) → total ls < u → LogsFit ls → LogsRight late f k ls ts → Below u (write_all write_taken ts)
unfolding write_all
takens_below u h late f k [] [] t l r = tt
takens_below u h late f k [] (y ∷ ts) t l r = absurd r
takens_below u h late f k (x ∷ ls) [] t l r = absurd r
takens_below u h late f k (x ∷ ls) (y ∷ ts) t l r = (omega (arith, h, t, w.some, (in_time_fits late 0 x l.0).1), (omega (arith, h, w.latest, latest_fits 0 w.seen (omega arith) (entries_left w.seen w.rest (subst EntriesFit w.is l.0))), takens_below u h late f (suc k) ls ts (omega (arith, t)) l.1 r.1))
  where
    w : TakenOf late x y
    w = r.0.taken

pub taken_total : (late : ℕ) (ls : List (List Entry)) (ts : List Taken) → LogsFit ls → length (taken_events late ls ts) ≤ total ls
taken_total late [] ts f = omega arith
taken_total late (x ∷ ls) [] f = omega arith
taken_total late (x ∷ ls) (t ∷ ts) f = omega (arith, length-append (take t.taken (in_time late 0 x)) (taken_events late ls ts), length-take t.taken (in_time late 0 x), (in_time_fits late 0 x f.0).1, taken_total late ls ts f.1)

queue_counts : (sts : List Stage) (m : ℕ) (es : List Event) (f : Pages) (q : Queue) (os : List Event) → Sound sts m es f q os → (length q.front ≤ length es) × (length q.buffer ≤ length es) × (length q.segments ≤ length es)
queue_counts sts m es f q os s = (
  omega (arith, ap (λ (x : Queue). length x.front) s.is, s.few),
  omega (arith, ap (λ (x : Queue). length x.buffer) s.is, s.few),
  omega (arith, ap (λ (x : Queue). length x.segments) s.is, s.few, heads_few Rattle.book.specs.Held.Free s.held.segs s.order.segs, lows_few (how_of sts) s.held s.order s.alive),
)

-- the ledger's numbers are below any limit that is a word's or more, and far enough above the steps
pub ledger_below : (t : ℕ) → top ≤ t → (z : Sizes) (p : Plan) (m : ℕ) (ls : List (List Entry)) (x : Book) → SizesSmall z → 128 * m + 1000 < t → SoundBook z p ls x → Fits z m ls x → Below t (write_ledger x.ledger)
ledger_below t w z p m ls x sz h s f = (
  omega (arith, f.outs, h),
  below_append t (write_list write_taken y.logs) (write_list write_event y.tail ++ write_queue y.queue) (omega (arith, w, f.count, logs_long p.late x.log 0 ls y.logs s.logs), takens_below t w p.late x.log 0 ls y.logs (omega (arith, f.many, h)) f.entries s.logs)
      (below_append t (write_list write_event y.tail) (write_queue y.queue) (omega (arith, f.long, most, h), events_below t w y.tail f.tail) (
        omega (arith, f.queue.source, h),
        (
          omega (arith, f.queue.next, h),
          below_append t (write_list write_row q.front) (write_list write_row q.buffer ++ write_list write_seg q.segments) (omega (arith, counts.0, e, h), rows_below t w q.front f.queue.front)
              (below_append t (write_list write_row q.buffer) (write_list write_seg q.segments) (omega (arith, counts.1, e, h), rows_below t w q.buffer f.queue.buffer) (omega (arith, counts.2, e, h), segs_below t w (4 * m + 4) q.segments (omega (arith, h)) f.queue.segments)),
        ),
      )),
)
  where
    y : Ledger
    y = x.ledger

    q : Queue
    q = x.ledger.queue

    most : z.emits * m ≤ 128 * m
    most = mul-le-mul_right m sz.emits

    e : length (taken_events p.late ls y.logs) ≤ 8 * m
    e = omega (arith, taken_total p.late ls y.logs f.entries, f.many)

    counts : (length q.front ≤ length (taken_events p.late ls y.logs)) × (length q.buffer ≤ length (taken_events p.late ls y.logs)) × (length q.segments ≤ length (taken_events p.late ls y.logs))
    counts = queue_counts p.stages (watermark p.late y.logs) (taken_events p.late ls y.logs) x.row q (Rattle.book.specs.Book.came_out x) s.queue

-- A STEP MORE
fits_later : (z : Sizes) (n : ℕ) (ls : List (List Entry)) (x : Book) → Fits z n ls x → Fits z (suc n) ls x
fits_later z n ls x f =
    record {
      entries = f.entries;
      count = f.count;
      many = omega (arith, f.many);
      queue = queue_up (4 * n + 4) (4 * suc n + 4) x.ledger.queue (omega arith) f.queue;
      pages = λ k. page_up z (4 * n + 4) (4 * suc n + 4) (x.row k) (omega arith) (f.pages k);
      outs = omega (arith, f.outs);
      tail = f.tail;
      long = omega (arith, f.long, mul-suc z.emits n);
    }

shown_fits : (z : Sizes) (c : ℕ) (g : Pages) (l : Link) → ((k : ℕ) → PageFit z c (g k)) → PageFit z c (page_of g l)
shown_fits z c g nil h = tt
shown_fits z c g (page k) h = h k

-- what a step fills
record Fills (z : Sizes) (p : Plan) (n : ℕ) (ls : List (List Entry)) (x : Book) (k : Task) : Type 0 where
  fits : Fits z (suc n) ls (after_turn (turn_of z p k x) x)
  rows : WritesFit z (4 * suc n + 4) (turn_of z p k x).rows
  outs : (w : OutWrite) → Among w (turn_of z p k x).outs → EventsFit 8 w.events × (length w.events ≤ z.outs)

writes_up : (z : Sizes) (c d : ℕ) (ws : List Write) → c ≤ d → WritesFit z c ws → WritesFit z d ws
writes_up z c d [] h f = tt
writes_up z c d (w ∷ ws) h f = (page_up z c d w.content h f.0, f.1, writes_up z c d ws h f.2)

fills : (z : Sizes) (p : Plan) (n : ℕ) (ls : List (List Entry)) (x : Book) (k : Task) → PlanSmall p → Fits z n ls x → Fills z p n ls x k
unfolding written
fills z p n ls x Publish ps f =
    record {
      fits = record {
        entries = f.entries;
        count = f.count;
        many = omega (arith, f.many);
        queue = (fits_later z n ls x f).queue;
        pages = (fits_later z n ls x f).pages;
        outs = omega (arith, f.outs);
        tail = events_drop 8 z.outs x.ledger.tail f.tail;
        long = omega (arith, (fits_later z n ls x f).long, length-drop z.outs x.ledger.tail);
      };
      rows = tt;
      outs = one;
    }
  where
    one : (w : OutWrite) → Among w (record { number = x.ledger.pages; events = take z.outs x.ledger.tail } ∷ []) → EventsFit 8 w.events × (length w.events ≤ z.outs)
    one w (inl e) = subst (λ (v : OutWrite). EventsFit 8 v.events × (length v.events ≤ z.outs)) (sym e) (events_take 8 z.outs x.ledger.tail f.tail, omega (arith, length-take z.outs x.ledger.tail))
    one w (inr h) = absurd h
fills z p n ls x (Tidy step) ps f =
    record {
      fits = record {
        entries = f.entries;
        count = f.count;
        many = omega (arith, f.many);
        queue = queue_up (c + 2) (4 * suc n + 4) d.queue (omega arith) s.queue;
        pages = λ k. page_up z (c + 2) (4 * suc n + 4) (written d.writes x.row k) (omega arith) (written_fits z (c + 2) d.writes x.row k s.writes (page_up z c (c + 2) (x.row k) (omega arith) (f.pages k)));
        outs = omega (arith, f.outs);
        tail = events_append 8 x.ledger.tail d.outs f.tail s.outs;
        long = omega (arith, f.long, s.few, length-append x.ledger.tail d.outs, mul-suc z.emits n);
      };
      rows = writes_up z (c + 2) (4 * suc n + 4) d.writes (omega arith) s.writes;
      outs = λ w h. absurd h;
    }
  where
    c : ℕ
    c = 4 * n + 4

    m : ℕ
    m = watermark p.late x.ledger.logs

    shown : Page
    shown = page_of x.row (shows step x.ledger.queue)

    d : Done
    d = do' z p.stages m step shown x.ledger.queue

    s : StepFits z p.stages m c step shown x.ledger.queue
    s = step_fits z p.stages m c step shown x.ledger.queue ps.stages ps.few (shown_fits z c x.row (shows step x.ledger.queue) f.pages) f.queue (writes_few z p.stages m step shown x.ledger.queue) (step_numbers z p.stages m step shown x.ledger.queue).1

once_fits : (late : ℕ) (es : List Entry) (b : LogBox) (t : Taken) → EntriesFit es → HeldOnce late es b → EventsFit 0 (new_events b t)
once_fits late es b t f h = events_drop 0 (Rattle.streams.specs.Meaning.less_by b.base t.taken) b.events (subst (EventsFit 0) (sym h.holds.events) (events_drop 0 b.base (in_time late 0 h.seen) (in_time_fits late 0 h.seen (entries_left h.seen h.rest (subst EntriesFit h.is f))).0))

pub limits : (z : Sizes) → SizesOk z → SizesSmall z → (p : Plan) → PlanFine p → PlanSmall p → (logs : ℕ) → logs ≤ 256 → Limits z p logs longest (Fits z)
limits z zo sz p fine ps logs hl =
    record {
      starts = starts;
      later = λ {n} {ls} {x} f. fits_later z n ls x f;
      batch = batch;
      take = takes;
      turn = λ {n} {ls} {x} k h s f w. (fills z p n ls x k ps f).fits;
      ledger_words = λ {n} {ls} {x} k h s f w. ledger_below wide (omega arith) z p (suc n) ls (after_turn (turn_of z p k x) x) sz (omega (arith, h)) (sound_turn z zo p fine ls x k s w) (fills z p n ls x k ps f).fits;
      page_words = page_words;
      out_words = out_words;
      page_short = page_short;
      out_short = out_short;
    }
  where
    starts : Fits z 0 (empties logs) (empty_book logs)
    starts = let e : LogsFit (empties logs) × (total (empties logs) ≡ 0) × (length (empties logs) ≡ logs) = empties_fit logs in record { entries = e.0; count = omega (arith, e.2, hl); many = omega (arith, e.1); queue = record { front = tt; buffer = tt; segments = tt; source = omega arith; next = omega arith }; pages = λ k. tt; outs = omega arith; tail = tt; long = omega arith }

    batch : {n : ℕ} {ls : List (List Entry)} {x : Book} (l floor i c s : ℕ) (es : List Entry) → n < longest → SoundBook z p ls x → Fits z n ls x → l < logs → floor ≤ (taken_of l x.ledger.logs).taken → Tag n i c s → ((e : Entry) → Memᴰ e es → T (entry_ok e)) → length es ≤ 8 →
        length (let_go floor (x.log l)).events + length es ≤ z.log → Fits z (suc n) (put_all l es ls) (put_batch p l floor i (record { life = c; serial = s }) es x)
    batch {n} {ls} {x} l floor i c s es h so f hx hf tg ok few room =
        let e : LogsFit (put_all l es ls) × (total (put_all l es ls) ≤ total ls + length es) × (length (put_all l es ls) ≡ length ls) = puts_fit l es ls (entries_of es ok) f.entries in
        let g : Fits z (suc n) ls x = fits_later z n ls x f in
        record { entries = e.0; count = omega (arith, e.2, f.count); many = omega (arith, e.1, f.many, few); queue = g.queue; pages = g.pages; outs = g.outs; tail = g.tail; long = g.long }

    takes : {n : ℕ} {ls : List (List Entry)} {x : Book} (l : ℕ) (b : LogBox) → n < longest → SoundBook z p ls x → Fits z n ls x → wanted z p.late x.ledger ≡ Rest → l < logs → HeldOnce p.late (log_of l ls) b → is_old l b x.ledger ≡ false → Fits z n ls (take_into z p l b x)
    takes {n} {ls} {x} l b h so f w hx o old =
        record { entries = f.entries; count = f.count; many = f.many; queue = takes_fit z p.stages (4 * n + 4) (new_events b (taken_of l x.ledger.logs)) (taken_of l x.ledger.logs).taken x.ledger.queue ps.stages (once_fits p.late (log_of l ls) b (taken_of l x.ledger.logs) (logs_fit_at l ls f.entries) o) f.queue; pages = f.pages; outs = f.outs; tail = f.tail; long = f.long }

    page_words : {n : ℕ} {ls : List (List Entry)} {x : Book} (k : Task) (w : Write) → n < longest → SoundBook z p ls x → Fits z n ls x → wanted z p.late x.ledger ≡ Want k → Among w (turn_of z p k x).rows → AreNumbers (write_page w.content) × Filled w.content
    page_words {n} {ls} {x} k w h so f wt a = let g : PageFit z (4 * suc n + 4) w.content × Filled w.content = among_fits z (4 * suc n + 4) (turn_of z p k x).rows w (fills z p n ls x k ps f).rows a in (page_below wide (omega arith) z (4 * suc n + 4) w.content sz (omega (arith, h)) g.0, g.1)

    out_words : {n : ℕ} {ls : List (List Entry)} {x : Book} (k : Task) (w : OutWrite) → n < longest → SoundBook z p ls x → Fits z n ls x → wanted z p.late x.ledger ≡ Want k → Among w (turn_of z p k x).outs → AreNumbers (write_out w.events)
    out_words {n} {ls} {x} k w h so f wt a = let g : EventsFit 8 w.events × (length w.events ≤ z.outs) = (fills z p n ls x k ps f).outs w a in (omega (arith, g.1, sz.outs), events_below wide (omega arith) w.events g.0)

    page_short : {n : ℕ} {ls : List (List Entry)} {x : Book} (k : Task) (w : Write) → SoundBook z p ls x → Fits z n ls x → wanted z p.late x.ledger ≡ Want k → Among w (turn_of z p k x).rows → 8 + 32 * length (write_page w.content) ≤ 1048576
    page_short {n} {ls} {x} k w so f wt a = page_short' z (4 * suc n + 4) w.content sz (among_fits z (4 * suc n + 4) (turn_of z p k x).rows w (fills z p n ls x k ps f).rows a).0

    out_short : {n : ℕ} {ls : List (List Entry)} {x : Book} (k : Task) (w : OutWrite) → SoundBook z p ls x → Fits z n ls x → wanted z p.late x.ledger ≡ Want k → Among w (turn_of z p k x).outs → 8 + 32 * length (write_out w.events) ≤ 1048576
    out_short {n} {ls} {x} k w so f wt a = let g : EventsFit 8 w.events × (length w.events ≤ z.outs) = (fills z p n ls x k ps f).outs w a in omega (arith, events_long w.events, g.1, sz.outs)
