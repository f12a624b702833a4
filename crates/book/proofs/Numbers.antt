-- Page numbers are used once; what only rises.
use Rattle.std.proofs.Common.{◌≡◌, ℕ, zero, suc, ◌+◌, ◌/◌, ◌<◌, ◌≤◌, Bool, true, false, cond, eqb, leb, ◌⊎◌, List, [], ◌∷◌, ◌++◌, length, take, drop, sym, refl, ap, ◌∙◌, subst, inl, inr, append_assoc, append-nil, arith}
use Rattle.std.proofs.lemmas.Bool.{ne_eqb}
use Rattle.streams.specs.Meaning.{Event, Entry, Plan, Stage, Sum, word}
use Rattle.streams.specs.Calls.{put_in}
use Rattle.book.specs.Rows.{Row, add, onto}
use Rattle.book.specs.Queue.{Link, nil, page, Seg, Page, Blank, RowPage, IndexPage, Pages, Write, written, Queue, goes_up, place, places, lower_by, pack_by, sift_by, unpack_by, open_by, is_of, pick, Spilled, split_by, one_page, too_full, merge_by, spill_by, spill_at, page_of}
use Rattle.book.specs.Flow.{how_of, Onward, Out, On, Gone, onward}
use Rattle.book.specs.Due.{Sizes, Emitted, go_on, popped, then', emit_by, emit, Step, Spill, Lower, Pack, Sift, Emit, Unpack, Open, pack_many, do', take', at_level, below_level}
use Rattle.book.specs.Ledger.{Taken, taken_of, set_at, Ledger, watermark, has_room, Took, take_events, new_events, took_to, Task, Publish, Tidy, Rest, Want, wanted, OutWrite, out_written, Turn, does}
use Rattle.book.specs.Book.{Book, outs_of, came_out, turn_of, after_turn, put_all, HeldOnce, log_of}
use Rattle.book.specs.Numbers.{Numbered, OutNumbered, Moves, StepsMove, Follows, itself, batch, takes, turn, Among, OneContent, Grows, AlwaysGrows, OldStays}
use Rattle.book.proofs.Book.{publish_out, took_latest}

-- A STEP TAKES THE NEXT NUMBERS
abbrev Next : ℕ → List Write → ℕ → Type 0
Next n ws m = Numbered n ws × (m ≡ n + length ws)

place_next : (how : ℕ → Sum) (r : Row) (q : Queue) → (place how r q).next ≡ q.next
unfolding place
place_next how r q = go (goes_up q.segments r.at)
  where
    go : (c : Bool) → (cond {A = Queue} c (record { front = q.front; buffer = add how r q.buffer; segments = q.segments; source = q.source; next = q.next }) (record { front = add how r q.front; buffer = q.buffer; segments = q.segments; source = q.source; next = q.next })).next ≡ q.next
    go true = refl
    go false = refl

places_next : (how : ℕ → Sum) (rs : List Row) (q : Queue) → (places how rs q).next ≡ q.next
unfolding places
places_next how [] q = refl
places_next how (r ∷ rs) q = places_next how rs (place how r q) ∙ place_next how r q

on_next : (how : ℕ → Sum) (o : Onward) (q : Queue) → (go_on how o q).queue.next ≡ q.next
on_next how (Out e) q = refl
on_next how (On r) q = place_next how r q
on_next how Gone q = refl

emit_by_next : (sts : List Stage) (m : ℕ) (more : Queue → Emitted) → ((q : Queue) → (more q).queue.next ≡ q.next) → (rs : List Row) (q : Queue) → (emit_by sts m more rs q).queue.next ≡ q.next
unfolding emit_by
emit_by_next sts m more ih [] q = refl
emit_by_next sts m more ih (r ∷ rs) q = go (leb r.at.end m)
  where
    e : Emitted
    e = go_on (how_of sts) (onward sts r) (popped rs q)

    go : (c : Bool) → (cond c (then' e.outs (more e.queue)) (record { queue = q; outs = [] })).queue.next ≡ q.next
    go true = ih e.queue ∙ on_next (how_of sts) (onward sts r) (popped rs q)
    go false = refl

emit_next : (sts : List Stage) (m k : ℕ) (q : Queue) → (emit sts m k q).queue.next ≡ q.next
unfolding emit
emit_next sts m zero q = refl
emit_next sts m (suc k) q = emit_by_next sts m (emit sts m k) (emit_next sts m k) q.front q

take_next : (sts : List Stage) (e : Event) (q : Queue) → (take' sts e q).next ≡ q.next
unfolding take'
take_next [] e q = refl
take_next (st ∷ sts) e q = go (eqb (word st.keep' e) 0)
  where
    r : Row
    r = Rattle.book.specs.Flow.row_of st 0 e

    go : (c : Bool) → (cond c q (place (how_of (st ∷ sts)) r q)).next ≡ q.next
    go true = refl
    go false = place_next (how_of (st ∷ sts)) r q

split_numbers : (n : ℕ) (s : Seg) (xs ys : List Row) → Numbered n (split_by n s xs ys).writes
unfolding split_by
split_numbers n s xs [] = (refl, tt)
split_numbers n s xs (y ∷ ys) = (refl, (refl, tt))

full_numbers : (n : ℕ) (s : Seg) (i b : Link) (rows moved : List Row) → Numbered n (too_full n s i b rows moved).writes
unfolding too_full
full_numbers n s nil nil rows moved = split_numbers n s (take (length rows / 2) rows) (drop (length rows / 2) rows)
full_numbers n s (page i) nil rows moved = (refl, tt)
full_numbers n s nil (page b) rows moved = (refl, tt)
full_numbers n s (page i) (page b) rows moved = (refl, tt)

merge_numbers : (size n : ℕ) (s : Seg) (b : Link) (rows moved : List Row) → Numbered n (merge_by size n s b rows moved).writes
unfolding merge_by
merge_numbers size n s b rows moved = go (leb (length rows) size)
  where
    go : (c : Bool) → Numbered n (cond {A = Spilled} c (one_page n s b rows) (too_full n s s.index b rows moved)).writes
    go true = (refl, tt)
    go false = full_numbers n s s.index b rows moved

spill_numbers : (how : ℕ → Sum) (size n : ℕ) (shown : Page) (head : Link) (s : Seg) (moved : List Row) → Numbered n (spill_by how size n shown head s moved).writes
unfolding spill_by
spill_numbers how size n Blank nil s moved = (refl, tt)
spill_numbers how size n (RowPage b rs) nil s moved = (refl, tt)
spill_numbers how size n (IndexPage ss) nil s moved = (refl, tt)
spill_numbers how size n Blank (page h) s moved = (refl, tt)
spill_numbers how size n (IndexPage ss) (page h) s moved = (refl, tt)
spill_numbers how size n (RowPage b rs) (page h) s moved = merge_numbers size n s b (onto how moved rs) moved

spill_at_numbers : (how : ℕ → Sum) (size n : ℕ) (shown : Page) (i : ℕ) (ss : List Seg) (moved : List Row) → Numbered n (spill_at how size n shown i ss moved).writes
unfolding spill_at
spill_at_numbers how size n shown zero [] moved = tt
spill_at_numbers how size n shown (suc i) [] moved = tt
spill_at_numbers how size n shown zero (s ∷ ss) moved = spill_numbers how size n shown s.head s moved
spill_at_numbers how size n shown (suc i) (s ∷ ss) moved = spill_at_numbers how size n shown i ss moved

lower_next : (how : ℕ → Sum) (xs ys : List Row) (q : Queue) → (lower_by how xs ys q).next ≡ q.next
unfolding lower_by
lower_next how xs [] q = refl
lower_next how xs (y ∷ ys) q = refl

pack_numbers : (xs ys us : List Seg) (q : Queue) → Next q.next (pack_by xs ys us q).writes (pack_by xs ys us q).queue.next
unfolding pack_by
pack_numbers xs [] us q = (tt, omega arith)
pack_numbers xs (t ∷ ts) us q = ((refl, tt), omega arith)

sift_next : (how : ℕ → Sum) (shown : Page) (q : Queue) → (sift_by how shown q).next ≡ q.next
unfolding sift_by
sift_next how Blank q = refl
sift_next how (IndexPage ss) q = refl
sift_next how (RowPage below rows) q = places_next how rows (record { front = q.front; buffer = q.buffer; segments = q.segments; source = below; next = q.next })

unpack_next : (shown : Page) (ss : List Seg) (q : Queue) → (unpack_by shown ss q).next ≡ q.next
unfolding unpack_by
unpack_next Blank ss q = refl
unpack_next (RowPage b rs) ss q = refl
unpack_next (IndexPage ts) [] q = refl
unpack_next (IndexPage ts) (s ∷ ss) q = refl

open_next : (how : ℕ → Sum) (ss : List Seg) (q : Queue) → (open_by how ss q).next ≡ q.next
unfolding open_by
open_next how [] q = refl
open_next how (s ∷ ss) q = places_next how q.buffer (record { front = q.front; buffer = []; segments = ss; source = s.head; next = q.next })

pub step_numbers : (z : Sizes) (sts : List Stage) (m : ℕ) (step : Step) (shown : Page) (q : Queue) → Next q.next (do' z sts m step shown q).writes (do' z sts m step shown q).queue.next
step_numbers z sts m (Spill i) shown q = (spill_at_numbers (how_of sts) z.rows q.next shown i q.segments (pick z.rows (is_of i q.segments) q.buffer), refl)
step_numbers z sts m Lower shown q = (tt, omega (arith, lower_next (how_of sts) (take (length q.front / 2) q.front) (drop (length q.front / 2) q.front) q))
step_numbers z sts m (Pack v) shown q =
    let i : ℕ = below_level v q.segments + at_level v q.segments / 2 in
    let k : ℕ = pack_many z (at_level v q.segments) in
    pack_numbers (take i q.segments) (take k (drop i q.segments)) (drop k (drop i q.segments)) q
step_numbers z sts m Sift shown q = (tt, omega (arith, sift_next (how_of sts) shown q))
step_numbers z sts m Emit shown q = (tt, omega (arith, emit_next sts m z.emits q))
step_numbers z sts m Unpack shown q = (tt, omega (arith, unpack_next shown q.segments q))
step_numbers z sts m Open shown q = (tt, omega (arith, open_next (how_of sts) q.segments q))

pub steps_move : StepsMove
steps_move z p Publish shown x = record { rows = tt; next = omega arith; outs = (refl, tt); pages = omega arith }
steps_move z p (Tidy step) shown x =
    let r : Next x.queue.next (do' z p.stages (watermark p.late x.logs) step shown x.queue).writes (do' z p.stages (watermark p.late x.logs) step shown x.queue).queue.next = step_numbers z p.stages (watermark p.late x.logs) step shown x.queue in
    record { rows = r.0; next = r.1; outs = tt; pages = omega arith }

-- numbers of what is written are from the next on, and below the one after
pub among_numbers : (n : ℕ) (ws : List Write) (w : Write) → Numbered n ws → Among w ws → (n ≤ w.number) × (w.number < n + length ws)
among_numbers n [] w h a = absurd a
among_numbers n (v ∷ vs) w h (inl e) = let k : w.number ≡ v.number = ap (λ (x : Write). x.number) e in (omega (arith, h.0), omega (arith, h.0))
among_numbers n (v ∷ vs) w h (inr a) = let r : (suc n ≤ w.number) × (w.number < suc n + length vs) = among_numbers (suc n) vs w h.1 a in (omega (arith, r.0), omega (arith, r.1))

pub among_outs : (n : ℕ) (ws : List OutWrite) (w : OutWrite) → OutNumbered n ws → Among w ws → (n ≤ w.number) × (w.number < n + length ws)
among_outs n [] w h a = absurd a
among_outs n (v ∷ vs) w h (inl e) = let k : w.number ≡ v.number = ap (λ (x : OutWrite). x.number) e in (omega (arith, h.0), omega (arith, h.0))
among_outs n (v ∷ vs) w h (inr a) = let r : (suc n ≤ w.number) × (w.number < suc n + length vs) = among_outs (suc n) vs w h.1 a in (omega (arith, r.0), omega (arith, r.1))

pub one_number : (n : ℕ) (ws : List Write) (w v : Write) → Numbered n ws → Among w ws → Among v ws → w.number ≡ v.number → w ≡ v
one_number n [] w v h a b e = absurd a
one_number n (u ∷ us) w v h (inl a) (inl b) e = a ∙ sym b
one_number n (u ∷ us) w v h (inl a) (inr b) e = absurd (omega (arith, h.0, ap (λ (x : Write). x.number) a, (among_numbers (suc n) us v h.1 b).0))
one_number n (u ∷ us) w v h (inr a) (inl b) e = absurd (omega (arith, h.0, ap (λ (x : Write). x.number) b, (among_numbers (suc n) us w h.1 a).0))
one_number n (u ∷ us) w v h (inr a) (inr b) e = one_number (suc n) us w v h.1 a b e

pub one_out : (n : ℕ) (ws : List OutWrite) (w v : OutWrite) → OutNumbered n ws → Among w ws → Among v ws → w.number ≡ v.number → w ≡ v
one_out n [] w v h a b e = absurd a
one_out n (u ∷ us) w v h (inl a) (inl b) e = a ∙ sym b
one_out n (u ∷ us) w v h (inl a) (inr b) e = absurd (omega (arith, h.0, ap (λ (x : OutWrite). x.number) a, (among_outs (suc n) us v h.1 b).0))
one_out n (u ∷ us) w v h (inr a) (inl b) e = absurd (omega (arith, h.0, ap (λ (x : OutWrite). x.number) b, (among_outs (suc n) us w h.1 a).0))
one_out n (u ∷ us) w v h (inr a) (inr b) e = one_out (suc n) us w v h.1 a b e

-- a ledger that is still there, or one that is past the step
pub took_next : (z : Sizes) (sts : List Stage) (es : List Event) (i : ℕ) (q : Queue) → (take_events z sts es i q).queue.next ≡ q.next
unfolding take_events
took_next z sts [] i q = refl
took_next z sts (e ∷ es) i q = go (has_room z q) (took_next z sts es (suc i) (take' sts e q))
  where
    go : (c : Bool) → (take_events z sts es (suc i) (take' sts e q)).queue.next ≡ (take' sts e q).next → (cond c (take_events z sts es (suc i) (take' sts e q)) (record { taken = i; queue = q })).queue.next ≡ q.next
    go true h = h ∙ take_next sts e q
    go false h = refl

record Still (x y : Book) : Type 0 where
  ledger : y.ledger ≡ x.ledger
  row : y.row ≡ x.row

abbrev Past : Sizes → Plan → Task → Book → Book → Type 0
Past z p j x y = (x.ledger.queue.next + length (turn_of z p j x).rows ≤ y.ledger.queue.next) × (x.ledger.pages + length (turn_of z p j x).outs ≤ y.ledger.pages)

want_rest : (k : Task) (A : Type 0) → Rest ≡ Want k → A
want_rest k A e = absurd (let z : ◌≡◌ {A = ℕ} 0 1 = cc in omega arith)

where_now : (z : Sizes) (p : Plan) (x y : Book) → Follows z p x y → (j : Task) → wanted z p.late x.ledger ≡ Want j → Still x y ⊎ Past z p j x y
where_now z p x y itself j e = inl (record { ledger = refl; row = refl })
where_now z p x y (batch {y = v} l floor i s es f) j e = go (where_now z p x v f j e)
  where
    go : Still x v ⊎ Past z p j x v → Still x y ⊎ Past z p j x y
    go (inl h) = inl (record { ledger = h.ledger; row = h.row })
    go (inr h) = inr h
where_now z p x y (takes {y = v} l b f n) j e = go (where_now z p x v f j e)
  where
    go : Still x v ⊎ Past z p j x v → Still x y ⊎ Past z p j x y
    go (inl h) = want_rest j (Still x y ⊎ Past z p j x y) (sym n ∙ ap (wanted z p.late) h.ledger ∙ e)
    go (inr h) = inr (omega (arith, h.0, took_next z p.stages (new_events b (taken_of l v.ledger.logs)) (taken_of l v.ledger.logs).taken v.ledger.queue), h.1)
where_now z p x y (turn {y = v} k f n) j e = go (where_now z p x v f j e)
  where
    m : Moves v.ledger (turn_of z p k v)
    m = steps_move z p k (page_of v.row (Rattle.book.specs.Ledger.shows_of k v.ledger)) v.ledger

    go : Still x v ⊎ Past z p j x v → Still x y ⊎ Past z p j x y
    go (inl h) =
        let i : Want k ≡ Want j = sym n ∙ ap (wanted z p.late) h.ledger ∙ e in
        let q : k ≡ j = cc in
        let t : turn_of z p k v ≡ turn_of z p j x = ap (λ (a : Task). turn_of z p a v) q ∙ ap (λ (a : Ledger). does z p j (page_of v.row (Rattle.book.specs.Ledger.shows_of j a)) a) h.ledger ∙ ap (λ (a : Pages). does z p j (page_of a (Rattle.book.specs.Ledger.shows_of j x.ledger)) x.ledger) h.row in
        inr (omega (arith, m.next, ap (λ (a : Ledger). a.queue.next) h.ledger, ap (λ (a : Turn). length a.rows) t), omega (arith, m.pages, ap (λ (a : Ledger). a.pages) h.ledger, ap (λ (a : Turn). length a.outs) t))
    go (inr h) = inr (omega (arith, h.0, m.next), omega (arith, h.1, m.pages))

pub one_content : OneContent
one_content z p x y f j k e g = go (where_now z p x y f j e)
  where
    moves : (b : Book) (i : Task) → Moves b.ledger (turn_of z p i b)
    moves b i = steps_move z p i (page_of b.row (Rattle.book.specs.Ledger.shows_of i b.ledger)) b.ledger

    go : Still x y ⊎ Past z p j x y → ((w v : Write) → Among w (turn_of z p j x).rows → Among v (turn_of z p k y).rows → w.number ≡ v.number → w ≡ v) × ((w v : OutWrite) → Among w (turn_of z p j x).outs → Among v (turn_of z p k y).outs → w.number ≡ v.number → w ≡ v)
    go (inl h) = (
      (λ w v a b s. one_number x.ledger.queue.next (turn_of z p j x).rows w v (moves x j).rows a (subst (λ (t : Turn). Among v t.rows) same b) s),
      (λ w v a b s. one_out x.ledger.pages (turn_of z p j x).outs w v (moves x j).outs a (subst (λ (t : Turn). Among v t.outs) same b) s),
    )
      where
        i : Want k ≡ Want j
        i = sym g ∙ ap (wanted z p.late) h.ledger ∙ e

        same : turn_of z p k y ≡ turn_of z p j x
        same = let q : k ≡ j = cc in ap (λ (a : Task). turn_of z p a y) q ∙ ap (λ (a : Ledger). does z p j (page_of y.row (Rattle.book.specs.Ledger.shows_of j a)) a) h.ledger ∙ ap (λ (a : Pages). does z p j (page_of a (Rattle.book.specs.Ledger.shows_of j x.ledger)) x.ledger) h.row
    go (inr h) = (
      (λ w v a b s. absurd (omega (arith, s, h.0, (among_numbers x.ledger.queue.next (turn_of z p j x).rows w (moves x j).rows a).1, (among_numbers y.ledger.queue.next (turn_of z p k y).rows v (moves y k).rows b).0))),
      (λ w v a b s. absurd (omega (arith, s, h.1, (among_outs x.ledger.pages (turn_of z p j x).outs w (moves x j).outs a).1, (among_outs y.ledger.pages (turn_of z p k y).outs v (moves y k).outs b).0))),
    )

-- WHAT ONLY RISES
taken_rises : (j l : ℕ) (u : Taken) (ts : List Taken) → (taken_of l ts).taken ≤ u.taken → (taken_of l ts).latest ≤ u.latest → ((taken_of j ts).taken ≤ (taken_of j (set_at l u ts)).taken) × ((taken_of j ts).latest ≤ (taken_of j (set_at l u ts)).latest)
unfolding taken_of set_at
taken_rises zero zero u [] h k = (omega arith, omega arith)
taken_rises zero (suc l) u [] h k = (omega arith, omega arith)
taken_rises (suc j) zero u [] h k = (omega arith, omega arith)
taken_rises (suc j) (suc l) u [] h k = (omega arith, omega arith)
taken_rises zero zero u (t ∷ ts) h k = (h, k)
taken_rises zero (suc l) u (t ∷ ts) h k = (omega arith, omega arith)
taken_rises (suc j) zero u (t ∷ ts) h k = (omega arith, omega arith)
taken_rises (suc j) (suc l) u (t ∷ ts) h k = taken_rises j l u ts h k

pub took_more : (z : Sizes) (sts : List Stage) (es : List Event) (i : ℕ) (q : Queue) → i ≤ (take_events z sts es i q).taken
unfolding take_events
took_more z sts [] i q = omega arith
took_more z sts (e ∷ es) i q = go (has_room z q) (took_more z sts es (suc i) (take' sts e q))
  where
    go : (c : Bool) → suc i ≤ (take_events z sts es (suc i) (take' sts e q)).taken → i ≤ (cond c (take_events z sts es (suc i) (take' sts e q)) (record { taken = i; queue = q })).taken
    go true h = omega arith
    go false h = omega arith

pub written_numbered : (n : ℕ) (ws : List Write) (f : Pages) (m : ℕ) → Numbered n ws → m < n → written ws f m ≡ f m
unfolding written
written_numbered n [] f m h l = refl
written_numbered n (w ∷ ws) f m h l = go (ne_eqb m w.number (λ (e : m ≡ w.number). omega (arith, h.0))) (written_numbered (suc n) ws f m h.1 (omega arith))
  where
    go : eqb m w.number ≡ false → written ws f m ≡ f m → cond (eqb m w.number) w.content (written ws f m) ≡ f m
    go e i = rw e i

pub out_numbered : (n : ℕ) (ws : List OutWrite) (f : ℕ → List Event) (m : ℕ) → OutNumbered n ws → m < n → out_written ws f m ≡ f m
unfolding out_written
out_numbered n [] f m h l = refl
out_numbered n (w ∷ ws) f m h l = go (ne_eqb m w.number (λ (e : m ≡ w.number). omega (arith, h.0))) (out_numbered (suc n) ws f m h.1 (omega arith))
  where
    go : eqb m w.number ≡ false → out_written ws f m ≡ f m → cond (eqb m w.number) w.events (out_written ws f m) ≡ f m
    go e i = rw e i

pub turn_logs : (z : Sizes) (p : Plan) (k : Task) (y : Book) → (turn_of z p k y).ledger.logs ≡ y.ledger.logs
turn_logs z p Publish y = refl
turn_logs z p (Tidy step) y = refl

turn_out : (z : Sizes) (p : Plan) (k : Task) (y : Book) → (more : List Event) × (came_out (after_turn (turn_of z p k y) y) ≡ came_out y ++ more)
unfolding outs_of out_written
turn_out z p Publish y = ([], sym (publish_out z p y) ∙ sym (append-nil (came_out y)))
turn_out z p (Tidy step) y = ((do' z p.stages (watermark p.late y.ledger.logs) step (page_of y.row (Rattle.book.specs.Due.shows step y.ledger.queue)) y.ledger.queue).outs, sym (append_assoc (outs_of y.out y.ledger.pages) y.ledger.tail (do' z p.stages (watermark p.late y.ledger.logs) step (page_of y.row (Rattle.book.specs.Due.shows step y.ledger.queue)) y.ledger.queue).outs))

pub always_grows : AlwaysGrows
always_grows z p x y itself = record { taken = λ l. omega arith; latest = λ l. omega arith; next = omega arith; pages = omega arith; row = λ n h. refl; out = λ t h. refl; more = ([], sym (append-nil (came_out x))) }
always_grows z p x y (batch {y = v} l floor i s es f) = go (always_grows z p x v f)
  where
    go : Grows x v → Grows x y
    go g = record { taken = g.taken; latest = g.latest; next = g.next; pages = g.pages; row = g.row; out = g.out; more = g.more }
always_grows z p x y (takes {y = v} l b f n) = go (always_grows z p x v f)
  where
    t : Taken
    t = taken_of l v.ledger.logs

    k : Took
    k = take_events z p.stages (new_events b t) t.taken v.ledger.queue

    up : (j : ℕ) → ((taken_of j v.ledger.logs).taken ≤ (taken_of j y.ledger.logs).taken) × ((taken_of j v.ledger.logs).latest ≤ (taken_of j y.ledger.logs).latest)
    up j = taken_rises j l (took_to b t k.taken) v.ledger.logs (took_more z p.stages (new_events b t) t.taken v.ledger.queue) (took_latest b t k.taken)

    go : Grows x v → Grows x y
    go g = record { taken = λ j. omega (arith, g.taken j, (up j).0); latest = λ j. omega (arith, g.latest j, (up j).1); next = omega (arith, g.next, took_next z p.stages (new_events b t) t.taken v.ledger.queue); pages = g.pages; row = g.row; out = g.out; more = g.more }
always_grows z p x y (turn {y = v} k f n) = go (always_grows z p x v f)
  where
    m : Moves v.ledger (turn_of z p k v)
    m = steps_move z p k (page_of v.row (Rattle.book.specs.Ledger.shows_of k v.ledger)) v.ledger

    more : (es : List Event) × (came_out y ≡ came_out v ++ es)
    more = turn_out z p k v

    go : Grows x v → Grows x y
    go g =
        record {
          taken = λ j. subst (λ (ts : List Taken). (taken_of j x.ledger.logs).taken ≤ (taken_of j ts).taken) (sym (turn_logs z p k v)) (g.taken j);
          latest = λ j. subst (λ (ts : List Taken). (taken_of j x.ledger.logs).latest ≤ (taken_of j ts).latest) (sym (turn_logs z p k v)) (g.latest j);
          next = omega (arith, g.next, m.next);
          pages = omega (arith, g.pages, m.pages);
          row = λ i h. written_numbered v.ledger.queue.next (turn_of z p k v).rows v.row i m.rows (omega (arith, h, g.next)) ∙ g.row i h;
          out = λ i h. out_numbered v.ledger.pages (turn_of z p k v).outs v.out i m.outs (omega (arith, h, g.pages)) ∙ g.out i h;
          more = (g.more.0 ++ more.0, more.1 ∙ ap (λ (es : List Event). es ++ more.0) g.more.1 ∙ append_assoc (came_out x) g.more.0 more.0);
        }

-- an old box of a log stays one
put_longer : (k l : ℕ) (e : Entry) (ls : List (List Entry)) → (more : List Entry) × (log_of l (put_in k e ls) ≡ log_of l ls ++ more)
unfolding log_of put_in
put_longer k zero e [] = ([], refl)
put_longer k (suc l) e [] = ([], refl)
put_longer zero zero e (x ∷ ls) = (e ∷ [], refl)
put_longer zero (suc l) e (x ∷ ls) = ([], sym (append-nil (log_of l ls)))
put_longer (suc k) zero e (x ∷ ls) = ([], sym (append-nil x))
put_longer (suc k) (suc l) e (x ∷ ls) = put_longer k l e ls

pub old_stays : OldStays
unfolding put_all
old_stays late k l ls [] b h = h
old_stays late k l ls (e ∷ es) b h = old_stays late k l (put_in k e ls) es b (more (put_longer k l e ls))
  where
    more : (m : List Entry) × (log_of l (put_in k e ls) ≡ log_of l ls ++ m) → HeldOnce late (log_of l (put_in k e ls)) b
    more (m, q) = record { seen = h.seen; rest = h.rest ++ m; is = q ∙ ap (λ (x : List Entry). x ++ m) h.is ∙ append_assoc h.seen h.rest m; holds = h.holds }
