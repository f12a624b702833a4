-- There is room: the ledger's front, buffer and tail, and a log box's events, stay within their sizes.
use Rattle.std.proofs.Common.{◌≡◌, ℕ, zero, suc, ◌+◌, ◌*◌, ◌/◌, ◌<◌, ◌≤◌, Bool, true, false, cond, ◌&&◌, eqb, ltb, leb, List, [], ◌∷◌, length, take, drop, refl, subst, arith, length-append, length-drop, length-take}
use Rattle.std.proofs.lemmas.Bool.{leb-true, leb-false, ltb-false, and_parts}
use Rattle.streams.specs.Meaning.{Event, Entry, Ev, Still, Plan, Stage, Sum, word}
use Rattle.book.specs.Rows.{Row, add}
use Rattle.book.specs.Queue.{Link, nil, page, Seg, Page, Blank, RowPage, IndexPage, Pages, Queue, goes_up, place, places, lower_by, pack_by, sift_by, unpack_by, open_by, is_of, page_of}
use Rattle.book.specs.Flow.{how_of, row_of, Onward, Out, On, Gone, onward}
use Rattle.book.specs.Due.{Sizes, Emitted, go_on, popped, then', emit_by, emit, Step, Spill, Lower, Pack, Sift, Emit, Unpack, Open, Due, Nothing, Do, fullest, Crowd, calm, crowded, crowd, due_source, due_rows, due_crowd, due, shows, do', pack_many, take', at_level, below_level}
use Rattle.book.specs.Ledger.{Served, LogBox, passed, came, entered, entered_all, let_go, batched, Taken, taken_of, watermark, has_room, take_events, new_events, Task, Publish, Tidy, Rest, Want, wanted_by, wanted}
use Rattle.book.specs.Book.{Book, empty_book, put_batch, take_into, turn_of, after_turn}
use Rattle.book.specs.Small.{PageFit, Fits}
use Rattle.book.specs.Room.{Room, RoomKept}
use Rattle.book.proofs.Lists.{length_pick}
use Rattle.book.proofs.Steps.{length_add, length_onto}
use Rattle.book.proofs.Book.{rest_due}
use Rattle.book.proofs.Ends.{has_room_still}

-- WHAT IS NOT DUE is in bounds
abbrev pub Calm : Sizes → Step → Queue → Type 0
Calm z (Pack v) q = Unit {0}
Calm z (Spill i) q = Unit {0}
Calm z Lower q = length q.buffer ≤ z.buffer
Calm z Sift q = (length q.buffer ≤ z.buffer) × (length q.front ≤ z.front)
Calm z Emit q = (length q.buffer ≤ z.buffer) × (length q.front ≤ z.front)
Calm z Unpack q = Unit {0}
Calm z Open q = (length q.buffer ≤ z.buffer) × (length q.front ≤ z.front)

all_calm : (z : Sizes) (q : Queue) → length q.buffer ≤ z.buffer → length q.front ≤ z.front → (step : Step) → Calm z step q
all_calm z q b c (Spill i) = tt
all_calm z q b c Lower = b
all_calm z q b c (Pack v) = tt
all_calm z q b c Sift = (b, c)
all_calm z q b c Emit = (b, c)
all_calm z q b c Unpack = tt
all_calm z q b c Open = (b, c)

calm_at : (z : Sizes) (x step : Step) (q : Queue) → Calm z x q → Do x ≡ Do step → Calm z step q
calm_at z x step q c e = let k : x ≡ step = cc in subst (λ (s : Step). Calm z s q) k c

calm_rows : (z : Sizes) (m : ℕ) (q : Queue) (step : Step) → due_rows z m q ≡ Do step → Calm z step q
unfolding due_rows
calm_rows z m q step e = two (ltb z.buffer (length q.buffer)) refl e
  where
    three : length q.buffer ≤ z.buffer → (b : Bool) → ltb z.front (length q.front) ≡ b → cond b (Do Lower) (due_source m q.source q) ≡ Do step → Calm z step q
    three u true t d = calm_at z Lower step q u d
    three u false t d = all_calm z q u (ltb-false z.front (length q.front) t) step

    two : (b : Bool) → ltb z.buffer (length q.buffer) ≡ b → cond b (Do (Spill (fullest q.segments q.buffer).number)) (cond (ltb z.front (length q.front)) (Do Lower) (due_source m q.source q)) ≡ Do step → Calm z step q
    two true t d = calm_at z (Spill (fullest q.segments q.buffer).number) step q tt d
    two false t d = three (ltb-false z.buffer (length q.buffer) t) (ltb z.front (length q.front)) refl d

pub calm_crowd : (z : Sizes) (m : ℕ) (c : Crowd) (q : Queue) (step : Step) → due_crowd z m c q ≡ Do step → Calm z step q
unfolding due_crowd
calm_crowd z m calm q step e = calm_rows z m q step e
calm_crowd z m (crowded v) q step e = calm_at z (Pack v) step q tt e

-- HOW MANY
abbrev Longer : ℕ → ℕ → Queue → Queue → Type 0
Longer a b q p = (length p.front ≤ a + length q.front) × (length p.buffer ≤ b + length q.buffer)

place_room : (how : ℕ → Sum) (r : Row) (q : Queue) → Longer 1 1 q (place how r q)
unfolding place
place_room how r q = go (goes_up q.segments r.at)
  where
    a : Queue
    a = record { front = q.front; buffer = add how r q.buffer; segments = q.segments; source = q.source; next = q.next }

    b : Queue
    b = record { front = add how r q.front; buffer = q.buffer; segments = q.segments; source = q.source; next = q.next }

    go : (t : Bool) → Longer 1 1 q (cond t a b)
    go true = (omega arith, omega (arith, length_add how r q.buffer))
    go false = (omega (arith, length_add how r q.front), omega arith)

places_room : (how : ℕ → Sum) (rs : List Row) (q : Queue) → Longer (length rs) (length rs) q (places how rs q)
unfolding places
places_room how [] q = (omega arith, omega arith)
places_room how (r ∷ rs) q =
    let a : Longer (length rs) (length rs) (place how r q) (places how rs (place how r q)) = places_room how rs (place how r q) in
    let b : Longer 1 1 q (place how r q) = place_room how r q in
    (omega (arith, a.0, b.0), omega (arith, a.1, b.1))

-- EACH STEP
abbrev Kept : Sizes → Queue → Type 0
Kept z q = (length q.front ≤ z.front + z.buffer + z.rows) × (length q.buffer ≤ z.front + 2 * z.buffer + z.rows + z.emits)

room_lower : (how : ℕ → Sum) (z : Sizes) (xs ys : List Row) (q : Queue) → Kept z q → Calm z Lower q → length xs + length ys ≡ length q.front → Kept z (lower_by how xs ys q)
unfolding lower_by
room_lower how z xs [] q r c e = r
room_lower how z xs (y ∷ ys) q r c e = (omega (arith, r.0), omega (arith, r.0, c, length_onto how (y ∷ ys) q.buffer))

room_pack : (z : Sizes) (xs ys us : List Seg) (q : Queue) → Kept z q → Kept z (pack_by xs ys us q).queue
unfolding pack_by
room_pack z xs [] us q r = r
room_pack z xs (t ∷ ts) us q r = r

room_sift : (how : ℕ → Sum) (z : Sizes) (c : ℕ) (shown : Page) (q : Queue) → PageFit z c shown → Kept z q → Calm z Sift q → Kept z (sift_by how shown q)
unfolding sift_by
room_sift how z c Blank q p r m = r
room_sift how z c (IndexPage ss) q p r m = r
room_sift how z c (RowPage below rows) q p r m =
    let a : Longer (length rows) (length rows) q (places how rows (record { front = q.front; buffer = q.buffer; segments = q.segments; source = below; next = q.next })) = places_room how rows (record { front = q.front; buffer = q.buffer; segments = q.segments; source = below; next = q.next }) in
    (omega (arith, a.0, m.1, p.2), omega (arith, a.1, m.0, p.2))

room_open : (how : ℕ → Sum) (z : Sizes) (ss : List Seg) (q : Queue) → Kept z q → Calm z Open q → Kept z (open_by how ss q)
unfolding open_by
room_open how z [] q r c = r
room_open how z (s ∷ ss) q r c = go (places_room how q.buffer g)
  where
    g : Queue
    g = record { front = q.front; buffer = []; segments = ss; source = s.head; next = q.next }

    go : (length (places how q.buffer g).front ≤ length q.buffer + length q.front) × (length (places how q.buffer g).buffer ≤ length q.buffer + 0) → Kept z (places how q.buffer g)
    go a = (omega (arith, a.0, c.0, c.1), omega (arith, a.1, c.0))

room_unpack : (z : Sizes) (shown : Page) (ss : List Seg) (q : Queue) → Kept z q → Kept z (unpack_by shown ss q)
unfolding unpack_by
room_unpack z Blank ss q r = r
room_unpack z (RowPage b rs) ss q r = r
room_unpack z (IndexPage ts) [] q r = r
room_unpack z (IndexPage ts) (s ∷ ss) q r = r

-- emitting: a row goes before one comes
abbrev EmRoom : ℕ → Queue → Emitted → Type 0
EmRoom k q e = (length e.queue.front ≤ length q.front) × (length e.queue.buffer ≤ k + length q.buffer) × (length e.outs ≤ k)

on_room : (how : ℕ → Sum) (o : Onward) (rs : List Row) (q : Queue) → (length (go_on how o (popped rs q)).queue.front ≤ suc (length rs)) × (length (go_on how o (popped rs q)).queue.buffer ≤ suc (length q.buffer)) × (length (go_on how o (popped rs q)).outs ≤ 1)
on_room how (Out e) rs q = (omega arith, omega arith, omega arith)
on_room how (On r) rs q = let a : Longer 1 1 (popped rs q) (place how r (popped rs q)) = place_room how r (popped rs q) in (omega (arith, a.0), omega (arith, a.1), omega arith)
on_room how Gone rs q = (omega arith, omega arith, omega arith)

by_room : (sts : List Stage) (m k : ℕ) (more : Queue → Emitted) → ((q : Queue) → EmRoom k q (more q)) → (rs : List Row) (q : Queue) → length rs ≡ length q.front → EmRoom (suc k) q (emit_by sts m more rs q)
unfolding emit_by
by_room sts m k more ih [] q e = (omega arith, omega arith, omega arith)
by_room sts m k more ih (r ∷ rs) q e = go (leb r.at.end m)
  where
    p : Emitted
    p = go_on (how_of sts) (onward sts r) (popped rs q)

    a : EmRoom k p.queue (more p.queue)
    a = ih p.queue

    b : (length p.queue.front ≤ suc (length rs)) × (length p.queue.buffer ≤ suc (length q.buffer)) × (length p.outs ≤ 1)
    b = on_room (how_of sts) (onward sts r) rs q

    go : (t : Bool) → EmRoom (suc k) q (cond t (then' p.outs (more p.queue)) (record { queue = q; outs = [] }))
    go true = (omega (arith, a.0, b.0, e), omega (arith, a.1, b.1), omega (arith, a.2, b.2, length-append p.outs (more p.queue).outs))
    go false = (omega arith, omega arith, omega arith)

emit_room : (sts : List Stage) (m k : ℕ) (q : Queue) → EmRoom k q (emit sts m k q)
unfolding emit
emit_room sts m zero q = (omega arith, omega arith, omega arith)
emit_room sts m (suc k) q = by_room sts m k (emit sts m k) (emit_room sts m k) q.front q refl

room_step : (z : Sizes) (sts : List Stage) (m c : ℕ) (step : Step) (shown : Page) (q : Queue) → PageFit z c shown → Kept z q → Calm z step q → Kept z (do' z sts m step shown q).queue × (length (do' z sts m step shown q).outs ≤ z.emits)
room_step z sts m c (Spill i) shown q p r y = ((r.0, omega (arith, r.1, length_pick z.rows (is_of i q.segments) q.buffer)), omega arith)
room_step z sts m c Lower shown q p r y = (room_lower (how_of sts) z (take (length q.front / 2) q.front) (drop (length q.front / 2) q.front) q r y (omega (arith, length-take (length q.front / 2) q.front, length-drop (length q.front / 2) q.front)), omega arith)
room_step z sts m c (Pack v) shown q p r y =
    let i : ℕ = below_level v q.segments + at_level v q.segments / 2 in
    let k : ℕ = pack_many z (at_level v q.segments) in
    (room_pack z (take i q.segments) (take k (drop i q.segments)) (drop k (drop i q.segments)) q r, omega arith)
room_step z sts m c Sift shown q p r y = (room_sift (how_of sts) z c shown q p r y, omega arith)
room_step z sts m c Emit shown q p r y = let a : EmRoom z.emits q (emit sts m z.emits q) = emit_room sts m z.emits q in ((omega (arith, a.0, r.0), omega (arith, a.1, y.0)), a.2)
room_step z sts m c Unpack shown q p r y = (room_unpack z shown q.segments q r, omega arith)
room_step z sts m c Open shown q p r y = (room_open (how_of sts) z q.segments q r y, omega arith)

-- TAKING
abbrev Over : Sizes → Queue → Type 0
Over z q = (length q.front ≤ suc z.front) × (length q.buffer ≤ suc z.buffer)

take_room : (sts : List Stage) (e : Event) (q : Queue) → Longer 1 1 q (take' sts e q)
unfolding take'
take_room [] e q = (omega arith, omega arith)
take_room (st ∷ sts) e q = go (eqb (word st.keep' e) 0)
  where
    go : (b : Bool) → Longer 1 1 q (cond b q (place (how_of (st ∷ sts)) (row_of st 0 e) q))
    go true = (omega arith, omega arith)
    go false = place_room (how_of (st ∷ sts)) (row_of st 0 e) q

takes_room : (z : Sizes) (sts : List Stage) (es : List Event) (i : ℕ) (q : Queue) → Over z q → Over z (take_events z sts es i q).queue
unfolding take_events has_room
takes_room z sts [] i q o = o
takes_room z sts (e ∷ es) i q o = go (leb (length q.front) z.front && leb (length q.buffer) z.buffer) refl (takes_room z sts es (suc i) (take' sts e q))
  where
    a : Longer 1 1 q (take' sts e q)
    a = take_room sts e q

    go : (b : Bool) → (leb (length q.front) z.front && leb (length q.buffer) z.buffer) ≡ b → (Over z (take' sts e q) → Over z (take_events z sts es (suc i) (take' sts e q)).queue) → Over z (cond b (take_events z sts es (suc i) (take' sts e q)) (record { taken = i; queue = q })).queue
    go true t ih =
        let p : (leb (length q.front) z.front ≡ true) × (leb (length q.buffer) z.buffer ≡ true) = and_parts (leb (length q.front) z.front) (leb (length q.buffer) z.buffer) t in
        ih (omega (arith, a.0, leb-true (length q.front) z.front p.0), omega (arith, a.1, leb-true (length q.buffer) z.buffer p.1))
    go false t ih = o

calm_room : (z : Sizes) (q : Queue) → has_room z q ≡ true → Over z q
unfolding has_room
calm_room z q h =
    let p : (leb (length q.front) z.front ≡ true) × (leb (length q.buffer) z.buffer ≡ true) = and_parts (leb (length q.front) z.front) (leb (length q.buffer) z.buffer) h in
    (omega (arith, leb-true (length q.front) z.front p.0), omega (arith, leb-true (length q.buffer) z.buffer p.1))

-- A LOG BOX
entered_long : (late : ℕ) (e : Entry) (b : LogBox) → length (entered late e b).events ≤ suc (length b.events)
unfolding entered
entered_long late (Ev e) b = go (ltb (e.time + late) b.latest)
  where
    go : (c : Bool) → length (cond c (passed b) (came e b)).events ≤ suc (length b.events)
    go true = omega arith
    go false = omega (arith, length-append b.events (e ∷ []))
entered_long late (Still t) b = omega arith

all_long : (late : ℕ) (es : List Entry) (b : LogBox) → length (entered_all late es b).events ≤ length b.events + length es
unfolding entered_all
all_long late [] b = omega arith
all_long late (e ∷ es) b = omega (arith, all_long late es (entered late e b), entered_long late e b)

shown_fits : (z : Sizes) (c : ℕ) (g : Pages) (l : Link) → ((k : ℕ) → PageFit z c (g k)) → PageFit z c (page_of g l)
shown_fits z c g nil h = tt
shown_fits z c g (page k) h = h k

room_turn : (z : Sizes) (p : Plan) (n : ℕ) (ls : List (List Entry)) (x : Book) (k : Task) → Room z x → Fits z n ls x → wanted z p.late x.ledger ≡ Want k → Room z (after_turn (turn_of z p k x) x)
unfolding wanted_by
room_turn z p n ls x k r f w = go (leb z.outs (length x.ledger.tail)) refl w
  where
    d : Due
    d = due z (watermark p.late x.ledger.logs) x.ledger.queue

    publish : Room z (after_turn (turn_of z p Publish x) x)
    publish = record { front = r.front; buffer = r.buffer; tail = omega (arith, r.tail, length-drop z.outs x.ledger.tail); log = r.log }

    does_tidy : (step : Step) → d ≡ Do step → length x.ledger.tail < z.outs → Room z (after_turn (turn_of z p (Tidy step) x) x)
    does_tidy step e h =
        let m : ℕ = watermark p.late x.ledger.logs in
        let shown : Page = page_of x.row (shows step x.ledger.queue) in
        let a : Kept z (do' z p.stages m step shown x.ledger.queue).queue × (length (do' z p.stages m step shown x.ledger.queue).outs ≤ z.emits) = room_step z p.stages m (4 * n + 4) step shown x.ledger.queue (shown_fits z (4 * n + 4) x.row (shows step x.ledger.queue) f.pages) (r.front, r.buffer) (calm_crowd z m (crowd z.segments x.ledger.queue.segments x.ledger.queue.segments) x.ledger.queue step e) in
        record { front = a.0.0; buffer = a.0.1; tail = omega (arith, h, a.1, length-append x.ledger.tail (do' z p.stages m step shown x.ledger.queue).outs); log = r.log }

    tidy : (b : Due) → d ≡ b → length x.ledger.tail < z.outs → wanted_by b ≡ Want k → Room z (after_turn (turn_of z p k x) x)
    tidy Nothing q h u = absurd (let i : ◌≡◌ {A = ℕ} 0 1 = cc in omega arith)
    tidy (Do step) q h u = let i : Tidy step ≡ k = cc in subst (λ (b : Task). Room z (after_turn (turn_of z p b x) x)) i (does_tidy step q h)

    go : (b : Bool) → leb z.outs (length x.ledger.tail) ≡ b → cond b (Want Publish) (wanted_by d) ≡ Want k → Room z (after_turn (turn_of z p k x) x)
    go true t u = let i : Publish ≡ k = cc in subst (λ (b : Task). Room z (after_turn (turn_of z p b x) x)) i publish
    go false t u = tidy d refl (leb-false z.outs (length x.ledger.tail) t) u

pub room_kept : RoomKept
room_kept z zo p = (first, batch, takes, λ n ls x k. room_turn z p n ls x k)
  where
    first : (logs : ℕ) → Room z (empty_book logs)
    first logs = record { front = omega arith; buffer = omega arith; tail = omega arith; log = λ l. omega arith }

    batch : (x : Book) (l floor i : ℕ) (s : Served) (es : List Entry) → Room z x → length (let_go floor (x.log l)).events + length es ≤ z.log → Room z (put_batch p l floor i s es x)
    batch x l floor i s es r h = record { front = r.front; buffer = r.buffer; tail = r.tail; log = log }
      where
        log : (k : ℕ) → length (cond (eqb k l) (batched p.late floor i s es (x.log l)) (x.log k)).events ≤ z.log
        log k = go (eqb k l)
          where
            go : (b : Bool) → length (cond b (batched p.late floor i s es (x.log l)) (x.log k)).events ≤ z.log
            go true = omega (arith, h, all_long p.late es (let_go floor (x.log l)))
            go false = r.log k

    takes : (x : Book) (l : ℕ) (b : LogBox) → Room z x → wanted z p.late x.ledger ≡ Rest → Room z (take_into z p l b x)
    takes x l b r w =
        let t : Taken = taken_of l x.ledger.logs in
        let h : has_room z x.ledger.queue ≡ true = has_room_still z (watermark p.late x.ledger.logs) x.ledger.queue (rest_due z p.late x.ledger w).1 in
        let o : Over z (take_events z p.stages (new_events b t) t.taken x.ledger.queue).queue = takes_room z p.stages (new_events b t) t.taken x.ledger.queue (calm_room z x.ledger.queue h) in
        record { front = omega (arith, o.0, zo.1); buffer = omega (arith, o.1, zo.0); tail = r.tail; log = r.log }
