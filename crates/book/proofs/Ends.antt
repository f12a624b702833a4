-- Each step that is due lowers the measure, so what is due comes to an end.
use Rattle.std.proofs.Common.{◌≡◌, ℕ, zero, suc, ◌+◌, ◌*◌, ◌<◌, ◌≤◌, Bool, true, false, cond, ltb, leb, ◌⊎◌, List, [], ◌∷◌, ◌++◌, length, drop, sym, refl, ap, ◌∙◌, subst, inl, inr, append_assoc, mul-le-mul_right, suc-mul, mul-le-mul_left, arith, length-append, length-drop, drop_of_length-le, drop-drop}
use Rattle.std.proofs.lemmas.Bool.{leb-true, ltb-false, le-leb, and_from}
use Rattle.streams.specs.Meaning.{Event, Entry, Plan, Stage, in_time, less_by}
use Rattle.book.specs.Queue.{Pages, written, Queue, page_of}
use Rattle.book.specs.Held.{Held, queue_of, contents, rows_of, level_of}
use Rattle.book.specs.Flow.{how_of, Flows}
use Rattle.streams.proofs.Logs.{less_by_is}
use Rattle.book.specs.Due.{Sizes, SizesOk, Sized, Sound, Step, Due, Nothing, Do, Crowd, calm, crowded, crowd, due_crowd, due_rows, due_source, due, shows, Done, do', fullest, take'}
use Rattle.book.specs.Ledger.{LogBox, Taken, taken_of, set_at, watermark, has_room, Took, take_events, new_events, took_to, took, Task, Publish, Tidy, Wanted, Rest, Want, wanted_by, wanted, out_written, let_go}
use Rattle.book.specs.Book.{Book, SoundBook, PlanFine, taken_events, outs_of, came_out, turn_of, after_turn, LogRight, log_of}
use Rattle.book.specs.Ends.{Turns, rests, goes, weights, ranks, most_steps, EndsSoon, RoomToTake, RoomForBatch}
use Rattle.book.proofs.Due.{load, Rank, Falls, weigh, Adv, advance, ready}
use Rattle.book.proofs.Deep.{lows_few, level_few, weigh_few, load_rows}
use Rattle.book.proofs.Book.{sound_turn, rest_due, publish_out, logs_at}
use Rattle.book.proofs.Numbers.{took_more}

-- A STEP OF THE QUEUE, with what falls
record Fell (z : Sizes) (sts : List Stage) (m : ℕ) (es : List Event) (f : Pages) (h : Held) (os : List Event) (step : Step) (q : Queue) : Type 0 where
  sound : Sound sts m es (written (do' z sts m step (page_of f (shows step q)) q).writes f) (do' z sts m step (page_of f (shows step q)) q).queue (os ++ (do' z sts m step (page_of f (shows step q)) q).outs)
  outs : load (length sts) (contents (how_of sts) sound.held) + length (do' z sts m step (page_of f (shows step q)) q).outs ≤ load (length sts) (contents (how_of sts) h)
  falls : (load (length sts) (contents (how_of sts) sound.held) < load (length sts) (contents (how_of sts) h)) ⊎ Falls (how_of sts) h sound.held

fell_of : (z : Sizes) (sts : List Stage) (m : ℕ) (es : List Event) (f : Pages) (h : Held) (os : List Event) (step : Step) → rows_of h ≤ length es → Adv z sts m es f h os step → Fell z sts m es f h os step (queue_of h)
fell_of z sts m es f h os step few a = record { sound = record { held = a.held; is = a.is; pages = a.pages; order = a.order; alive = a.alive; lean = a.lean; few = omega (arith, few, a.few); flows = a.flows }; outs = a.outs; falls = by a.falls }
  where
    by : (load (length sts) (contents (how_of sts) a.held) < load (length sts) (contents (how_of sts) h)) ⊎ ((load (length sts) (contents (how_of sts) a.held) ≤ load (length sts) (contents (how_of sts) h)) × Falls (how_of sts) h a.held) → (load (length sts) (contents (how_of sts) a.held) < load (length sts) (contents (how_of sts) h)) ⊎ Falls (how_of sts) h a.held
    by (inl x) = inl x
    by (inr x) = inr x.1

fell : (z : Sizes) → SizesOk z → (sts : List Stage) → Sized sts → (m : ℕ) (es : List Event) (f : Pages) (q : Queue) (os : List Event) (step : Step) (s : Sound sts m es f q os) → due z m q ≡ Do step → Fell z sts m es f s.held os step q
fell z zo sts sz m es f q os step s e =
    subst (λ (x : Queue). Fell z sts m es f s.held os step x) (sym s.is)
    (fell_of z sts m es f s.held os step s.few (advance z zo sts sz m es f s.held os step (ready z zo m (queue_of s.held) step (subst (λ (x : Queue). due z m x ≡ Do step) s.is e)) s.pages s.order s.lean s.alive s.flows))

-- THE MEASURE: l times all that is behind it, r times what is behind it, v
abbrev measure : (e l r v : ℕ) → ℕ
measure e l r v = l * (ranks e * weights e) + r * weights e + v

less_load : (e l r v r' v' : ℕ) → r' ≤ e + 1 → v' ≤ 6 * e → measure e l r' v' < measure e (suc l) r v
less_load e l r v r' v' h k =
    let a : suc l * (ranks e * weights e) ≡ l * (ranks e * weights e) + ranks e * weights e = suc-mul l (ranks e * weights e) in
    let b : suc r' * weights e ≤ ranks e * weights e = mul-le-mul_right (weights e) (omega arith) in
    let c : suc r' * weights e ≡ r' * weights e + weights e = suc-mul r' (weights e) in
    omega arith

less_rank : (e l r v v' : ℕ) → v' ≤ 6 * e → measure e l r v' < measure e l (suc r) v
less_rank e l r v v' k = let c : suc r * weights e ≡ r * weights e + weights e = suc-mul r (weights e) in omega arith

-- a book that is right, with a measure of what is due in it
pub record Marked (z : Sizes) (p : Plan) (ls : List (List Entry)) (e : ℕ) (x : Book) (c : ℕ) : Type 0 where
  pub sound : SoundBook z p ls x
  pub queue : Sound p.stages (watermark p.late x.ledger.logs) (taken_events p.late ls x.ledger.logs) x.row x.ledger.queue (came_out x)
  pub taken : length (taken_events p.late ls x.ledger.logs) ≡ e
  pub l : ℕ
  pub r : ℕ
  pub v : ℕ
  pub left : 2 * load (length p.stages) (contents (how_of p.stages) queue.held) + length x.ledger.tail ≤ l
  pub rank : Rank (how_of p.stages) r queue.held
  pub weight : weigh queue.held ≤ v
  pub is : c ≡ measure e l r v

abbrev pub Sinks : Sizes → Plan → List (List Entry) → ℕ → Book → ℕ → Type 0
Sinks z p ls e x c = (d : ℕ) × (d < c) × Marked z p ls e x d

mark_tidy : (z : Sizes) → SizesOk z → (p : Plan) → PlanFine p → (ls : List (List Entry)) (e : ℕ) (x : Book) (c : ℕ) (k : Step) → Marked z p ls e x c → wanted z p.late x.ledger ≡ Want (Tidy k) → due z (watermark p.late x.ledger.logs) x.ledger.queue ≡ Do k → Sinks z p ls e (after_turn (turn_of z p (Tidy k) x) x) c
unfolding out_written
mark_tidy z zo p fine ls e x c k g w d = go f.falls
  where
    sts : List Stage
    sts = p.stages

    m : ℕ
    m = watermark p.late x.ledger.logs

    es : List Event
    es = taken_events p.late ls x.ledger.logs

    f : Fell z sts m es x.row g.queue.held (came_out x) k x.ledger.queue
    f = fell z zo sts fine.sized m es x.row x.ledger.queue (came_out x) k g.queue d

    t : Done
    t = do' z sts m k (page_of x.row (shows k x.ledger.queue)) x.ledger.queue

    y : Book
    y = after_turn (turn_of z p (Tidy k) x) x

    s : SoundBook z p ls y
    s = sound_turn z zo p fine ls x (Tidy k) g.sound w

    h : Held
    h = f.sound.held

    q : Sound sts m es (written t.writes x.row) t.queue (came_out y)
    q = record { held = h; is = f.sound.is; pages = f.sound.pages; order = f.sound.order; alive = f.sound.alive; lean = f.sound.lean; few = f.sound.few; flows = subst (Flows sts m es (contents (how_of sts) h)) (append_assoc (outs_of x.out x.ledger.pages) x.ledger.tail t.outs) f.sound.flows }

    few : rows_of h ≤ e
    few = omega (arith, f.sound.few, g.taken)

    light : weigh h ≤ 6 * e
    light = omega (arith, weigh_few (how_of sts) h f.sound.order f.sound.lean f.sound.alive, few)

    deep : level_of h.segs ≤ e
    deep = omega (arith, level_few h.segs f.sound.order.segs f.sound.lean.segs, lows_few (how_of sts) h f.sound.order f.sound.alive, few)

    tail : length (x.ledger.tail ++ t.outs) ≡ length x.ledger.tail + length t.outs
    tail = length-append x.ledger.tail t.outs

    go : (load (length sts) (contents (how_of sts) h) < load (length sts) (contents (how_of sts) g.queue.held)) ⊎ Falls (how_of sts) g.queue.held h → Sinks z p ls e y c
    go (inl a) = by g.l refl
      where
        by : (n : ℕ) → n ≡ g.l → Sinks z p ls e y c
        by zero u = absurd (omega (arith, u, g.left, a))
        by (suc n) u = (
          measure e n (suc (level_of h.segs)) (weigh h),
          subst (λ (b : ℕ). measure e n (suc (level_of h.segs)) (weigh h) < b) (ap (λ (i : ℕ). measure e i g.r g.v) u ∙ sym g.is) (less_load e n g.r g.v (suc (level_of h.segs)) (weigh h) (omega (arith, deep)) light),
          record { sound = s; queue = q; taken = g.taken; l = n; r = suc (level_of h.segs); v = weigh h; left = omega (arith, g.left, u, a, f.outs, tail); rank = inr (omega arith); weight = omega arith; is = refl },
        )
    go (inr a) = on (a g.r g.rank)
      where
        left : 2 * load (length sts) (contents (how_of sts) h) + length (x.ledger.tail ++ t.outs) ≤ g.l
        left = omega (arith, g.left, f.outs, tail)

        on : (Rank (how_of sts) g.r h × (weigh h < weigh g.queue.held)) ⊎ ((i : ℕ) × (suc i ≡ g.r) × Rank (how_of sts) i h) → Sinks z p ls e y c
        on (inl b) =
            (measure e g.l g.r (weigh h), omega (arith, g.is, b.1, g.weight), record { sound = s; queue = q; taken = g.taken; l = g.l; r = g.r; v = weigh h; left = left; rank = b.0; weight = omega arith; is = refl })
        on (inr (i, u, b)) = (
          measure e g.l i (weigh h),
          subst (λ (n : ℕ). measure e g.l i (weigh h) < n) (ap (λ (j : ℕ). measure e g.l j g.v) u ∙ sym g.is) (less_rank e g.l i g.v (weigh h) light),
          record { sound = s; queue = q; taken = g.taken; l = g.l; r = i; v = weigh h; left = left; rank = b; weight = omega arith; is = refl },
        )

some_steps : (e : ℕ) → 1 ≤ ranks e * weights e
some_steps e = let a : 1 * weights e ≤ ranks e * weights e = mul-le-mul_right (weights e) (omega arith) in omega arith

mark_publish : (z : Sizes) → SizesOk z → (p : Plan) → PlanFine p → (ls : List (List Entry)) (e : ℕ) (x : Book) (c : ℕ) → Marked z p ls e x c → wanted z p.late x.ledger ≡ Want Publish → z.outs ≤ length x.ledger.tail → Sinks z p ls e (after_turn (turn_of z p Publish x) x) c
unfolding written
mark_publish z zo p fine ls e x c g w n = by g.l refl
  where
    y : Book
    y = after_turn (turn_of z p Publish x) x

    q : Sound p.stages (watermark p.late x.ledger.logs) (taken_events p.late ls x.ledger.logs) x.row x.ledger.queue (came_out y)
    q = record {
      held = g.queue.held;
      is = g.queue.is;
      pages = g.queue.pages;
      order = g.queue.order;
      alive = g.queue.alive;
      lean = g.queue.lean;
      few = g.queue.few;
      flows = subst (Flows p.stages (watermark p.late x.ledger.logs) (taken_events p.late ls x.ledger.logs) (contents (how_of p.stages) g.queue.held)) (publish_out z p x) g.queue.flows;
    }

    by : (i : ℕ) → i ≡ g.l → Sinks z p ls e y c
    by zero u = absurd (omega (arith, u, g.left, n, zo.4))
    by (suc i) u = (
      measure e i g.r g.v,
      omega (arith, g.is ∙ ap (λ (j : ℕ). measure e j g.r g.v) (sym u), suc-mul i (ranks e * weights e), some_steps e),
      record { sound = sound_turn z zo p fine ls x Publish g.sound w; queue = q; taken = g.taken; l = i; r = g.r; v = g.v; left = omega (arith, g.left, u, n, zo.4, length-drop z.outs x.ledger.tail); rank = g.rank; weight = g.weight; is = refl },
    )

-- EACH STEP LOWERS IT
pub mark_turn : (z : Sizes) → SizesOk z → (p : Plan) → PlanFine p → (ls : List (List Entry)) (e : ℕ) (x : Book) (c : ℕ) (k : Task) → Marked z p ls e x c → wanted z p.late x.ledger ≡ Want k → Sinks z p ls e (after_turn (turn_of z p k x) x) c
unfolding wanted_by
mark_turn z zo p fine ls e x c k g w = go (leb z.outs (length x.ledger.tail)) refl w
  where
    d : Due
    d = due z (watermark p.late x.ledger.logs) x.ledger.queue

    tidy : (b : Due) → d ≡ b → wanted_by b ≡ Want k → Sinks z p ls e (after_turn (turn_of z p k x) x) c
    tidy Nothing q u = absurd (let i : ◌≡◌ {A = ℕ} 0 1 = cc in omega arith)
    tidy (Do step) q u = let i : Tidy step ≡ k = cc in subst (λ (b : Task). Sinks z p ls e (after_turn (turn_of z p b x) x) c) i (mark_tidy z zo p fine ls e x c step g (w ∙ ap Want (sym i)) q)

    go : (b : Bool) → leb z.outs (length x.ledger.tail) ≡ b → cond b (Want Publish) (wanted_by d) ≡ Want k → Sinks z p ls e (after_turn (turn_of z p k x) x) c
    go true t u = let i : Publish ≡ k = cc in subst (λ (b : Task). Sinks z p ls e (after_turn (turn_of z p b x) x) c) i (mark_publish z zo p fine ls e x c g (w ∙ ap Want (sym i)) (leb-true z.outs (length x.ledger.tail) t))
    go false t u = tidy d refl u

abbrev Comes : Sizes → Plan → List (List Entry) → Book → ℕ → Type 0
Comes z p ls x c = (n : ℕ) × (y : Book) × Turns z p n x y × (n ≤ c) × (wanted z p.late y.ledger ≡ Rest) × SoundBook z p ls y

comes : (z : Sizes) → SizesOk z → (p : Plan) → PlanFine p → (ls : List (List Entry)) (e b : ℕ) (x : Book) (c : ℕ) → c < b → Marked z p ls e x c → Comes z p ls x c
comes z zo p fine ls e zero x c h g = absurd (omega arith)
comes z zo p fine ls e (suc b) x c h g = go (wanted z p.late x.ledger) refl (λ (y : Book) (d : ℕ) (i : d < b). comes z zo p fine ls e b y d i)
  where
    go : (w : Wanted) → wanted z p.late x.ledger ≡ w → ((y : Book) (d : ℕ) → d < b → Marked z p ls e y d → Comes z p ls y d) → Comes z p ls x c
    go Rest w ih = (0, x, rests, omega arith, w, g.sound)
    go (Want k) w ih = on (mark_turn z zo p fine ls e x c k g w)
      where
        on : Sinks z p ls e (after_turn (turn_of z p k x) x) c → Comes z p ls x c
        on (d, i, m) = let r : Comes z p ls (after_turn (turn_of z p k x) x) d = ih (after_turn (turn_of z p k x) x) d (omega (arith, i, h)) m in (suc r.0, r.1, goes k w r.2, omega (arith, r.3, i), r.4, r.5)

-- at first it is as great as it can be
pub marked : (z : Sizes) (p : Plan) (ls : List (List Entry)) (x : Book) → SoundBook z p ls x → Marked z p ls (length (taken_events p.late ls x.ledger.logs)) x (most_steps (length p.stages) (length (taken_events p.late ls x.ledger.logs)) (length x.ledger.tail))
marked z p ls x s = record { sound = s; queue = s.queue; taken = refl; l = 2 * (n * e) + length x.ledger.tail; r = e + 1; v = 6 * e; left = left; rank = rank (e + 1) refl; weight = light; is = refl }
  where
    n : ℕ
    n = length p.stages

    e : ℕ
    e = length (taken_events p.late ls x.ledger.logs)

    h : Held
    h = s.queue.held

    left : 2 * load n (contents (how_of p.stages) h) + length x.ledger.tail ≤ 2 * (n * e) + length x.ledger.tail
    left = omega (arith, load_rows (how_of p.stages) n h, mul-le-mul_left n s.queue.few)

    light : weigh h ≤ 6 * e
    light = omega (arith, weigh_few (how_of p.stages) h s.queue.order s.queue.lean s.queue.alive, s.queue.few)

    deep : level_of h.segs ≤ e
    deep = omega (arith, level_few h.segs s.queue.order.segs s.queue.lean.segs, lows_few (how_of p.stages) h s.queue.order s.queue.alive, s.queue.few)

    rank : (r : ℕ) → r ≡ e + 1 → Rank (how_of p.stages) r h
    rank zero i = absurd (omega arith)
    rank (suc r) i = inr (omega (arith, i, deep))

pub ends_soon : EndsSoon
ends_soon z zo p fine ls x s = let c : ℕ = most_steps (length p.stages) (length (taken_events p.late ls x.ledger.logs)) (length x.ledger.tail) in comes z zo p fine ls (length (taken_events p.late ls x.ledger.logs)) (suc c) x c (omega arith) (marked z p ls x s)

-- ROOM TO TAKE
not_due : (b : Bool) (x : Step) (d : Due) → cond b (Do x) d ≡ Nothing → (b ≡ false) × (d ≡ Nothing)
not_due true x d e = absurd (let k : ◌≡◌ {A = ℕ} 0 1 = cc in omega arith)
not_due false x d e = (refl, e)

rows_calm : (z : Sizes) (m : ℕ) (q : Queue) → due_rows z m q ≡ Nothing → (length q.buffer ≤ z.buffer) × (length q.front ≤ z.front)
unfolding due_rows
rows_calm z m q e =
    let a : (ltb z.buffer (length q.buffer) ≡ false) × (cond (ltb z.front (length q.front)) (Do Rattle.book.specs.Due.Lower) (due_source m q.source q) ≡ Nothing) = not_due (ltb z.buffer (length q.buffer)) (Rattle.book.specs.Due.Spill (fullest q.segments q.buffer).number) (cond (ltb z.front (length q.front)) (Do Rattle.book.specs.Due.Lower) (due_source m q.source q)) e in
    let b : (ltb z.front (length q.front) ≡ false) × (due_source m q.source q ≡ Nothing) = not_due (ltb z.front (length q.front)) Rattle.book.specs.Due.Lower (due_source m q.source q) a.1 in
    (ltb-false z.buffer (length q.buffer) a.0, ltb-false z.front (length q.front) b.0)

crowd_calm : (z : Sizes) (m : ℕ) (c : Crowd) (q : Queue) → due_crowd z m c q ≡ Nothing → (length q.buffer ≤ z.buffer) × (length q.front ≤ z.front)
unfolding due_crowd
crowd_calm z m calm q e = rows_calm z m q e
crowd_calm z m (crowded v) q e = absurd (let k : ◌≡◌ {A = ℕ} 0 1 = cc in omega arith)

pub has_room_still : (z : Sizes) (m : ℕ) (q : Queue) → due z m q ≡ Nothing → has_room z q ≡ true
unfolding has_room
has_room_still z m q e = let r : (length q.buffer ≤ z.buffer) × (length q.front ≤ z.front) = crowd_calm z m (crowd z.segments q.segments q.segments) q e in and_from (leb (length q.front) z.front) (leb (length q.buffer) z.buffer) (le-leb (length q.front) z.front r.1) (le-leb (length q.buffer) z.buffer r.0)

takes_one : (z : Sizes) (sts : List Stage) (es : List Event) (i : ℕ) (q : Queue) → has_room z q ≡ true → 1 ≤ length es → i < (take_events z sts es i q).taken
unfolding take_events
takes_one z sts [] i q r h = absurd (omega arith)
takes_one z sts (e ∷ es) i q r h = rw r (omega (arith, took_more z sts es (suc i) (take' sts e q)))

pub taken_set : (l : ℕ) (u : Taken) (ts : List Taken) → l < length ts → taken_of l (set_at l u ts) ≡ u
unfolding taken_of set_at
taken_set zero u [] h = absurd (omega arith)
taken_set (suc l) u [] h = absurd (omega arith)
taken_set zero u (t ∷ ts) h = refl
taken_set (suc l) u (t ∷ ts) h = taken_set l u ts (omega arith)

pub room_to_take : RoomToTake
room_to_take z p x e = (room, takes)
  where
    room : has_room z x.queue ≡ true
    room = has_room_still z (watermark p.late x.logs) x.queue (rest_due z p.late x e).1

    takes : (l : ℕ) (b : LogBox) → l < length x.logs → 1 ≤ length (new_events b (taken_of l x.logs)) → (taken_of l x.logs).taken < (taken_of l (took z p.stages l b x).logs).taken
    takes l b h n =
        let t : Taken = taken_of l x.logs in
        let k : Took = take_events z p.stages (new_events b t) t.taken x.queue in
        subst (λ (u : Taken). t.taken < u.taken) (sym (taken_set l (took_to b t k.taken) x.logs h)) (takes_one z p.stages (new_events b t) t.taken x.queue room n)

-- ROOM FOR A BATCH
pub room_for_batch : RoomForBatch
unfolding let_go
room_for_batch z p ls x l s h e =
    ap (drop (less_by b.base t.taken)) r.holds.events ∙ drop-drop (less_by b.base t.taken) b.base es ∙ drop_of_length-le es (omega (arith, e, r.base, less_by_is b.base t.taken))
  where
    t : Taken
    t = taken_of l x.ledger.logs

    b : LogBox
    b = x.log l

    es : List Event
    es = in_time p.late 0 (log_of l ls)

    r : LogRight p.late (log_of l ls) t b
    r = subst (λ (j : ℕ). LogRight p.late (log_of l ls) t (x.log j)) (omega arith) (logs_at p.late x.log 0 l ls x.ledger.logs h s.logs)
