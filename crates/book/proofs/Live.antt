-- The real book keeps what one worker needs to come to an end.
use Rattle.std.proofs.Common.{◌≡◌, ℕ, zero, suc, ◌+◌, ◌*◌, ◌/◌, ◌%◌, ◌<◌, ◌≤◌, Bool, true, false, cond, ◌&&◌, T, ltb, leb, List, [], ◌∷◌, ◌++◌, length, replicate, sym, refl, ap, ◌∙◌, subst, arith, length-append, length-drop}
use mathlib.Core.List.{Memᴰ}
use Rattle.std.proofs.lemmas.Bool.{eq-eqb, le-leb, ltb-true}
use Rattle.std.proofs.lemmas.Bool.Decides.{nat_tests}
use Rattle.streams.specs.Meaning.{Event, Entry, Ev, Still, Plan, time_of, less_by, later, in_time, latest}
use Rattle.streams.specs.Calls.{entry_ok, plan_ok, drop_of, first_of}
use Rattle.streams.specs.Hands.{Box}
use Rattle.streams.proofs.Logs.{less_by_is}
use Rattle.book.specs.Queue.{written}
use Rattle.book.specs.Due.{Sizes, SizesOk}
use Rattle.book.specs.Ledger.{Served, nobody, LogBox, empty_log, entered, entered_all, let_go, set_at, batched, Taken, taken_of, Ledger, took, new_events, take_events, took_to, log_box, out_box, Rest, Want, wanted, out_written, Turn, Task}
use Rattle.book.specs.Book.{Book, LogRight, LogsRight, SoundBook, PlanFine, taken_events, turn_of, after_turn, take_into, AllTaken, log_of}
use Rattle.book.specs.Numbers.{Moves, itself, takes, turn}
use Rattle.book.specs.Words.{Maybe, just, wide, Below, AreNumbers, write_all, write_list, write_event, write_served, write_log, out_in}
use Rattle.book.specs.Small.{EventsFit, EntriesFit, total}
use Rattle.book.specs.Limits.{Limits, longest}
use Rattle.book.specs.Levels.{Within}
use Rattle.book.specs.Interface.{horizon, lacks, gives, page, reply, Ops, Now, Tag}
use Rattle.book.specs.Interface as face
use Rattle.book.specs.Right.{Right, Floor, TookAll}
use Rattle.book.specs.Real.{sizes, log_or, ledger_or, or_none, floor_of, raised, raise_by, adds_by, answer_by, real, are_other}
use Rattle.book.specs.Ends.{most_steps}
use Rattle.book.specs.Live.{Live, AnswersAll}
use Rattle.book.specs.Work.{most_work}
use Rattle.book.proofs.Book.{logs_long}
use Rattle.book.proofs.Numbers.{always_grows}
use Rattle.book.proofs.Ends.{Marked, Sinks, mark_turn, marked, taken_set, room_to_take}
use Rattle.book.proofs.Limits.{logs_fit_at, latest_fits, in_time_fits, events_drop, event_ok, time_ok, below_append, events_below}
use Rattle.book.proofs.Small.{events_up, events_append}
use Rattle.book.proofs.Parts.{length_drop_of}
use Rattle.book.proofs.Real.{just_same, calls_none, batch_served}
use Rattle.book.proofs.Safe.{due_is, doing, Doing, after_reads, moves, log_right, answer_tells, pages_full, in_page}
use Rattle.book.proofs.Laws.{sizes_ok, book_safe, book_fits, book_takes, book_answers_all, writes_given}
use Rattle.book.proofs.Words.{reads_back}
use Rattle.book.proofs.Work.{work_up, took_all, latest_part}
use Rattle.book.proofs.Left.{Work, Takes, takes_of, fine, L, work_most, work_same, work_page, work_step, work_take, differs_not}

-- A STEP CHANGES THE LEDGER: else it would be due for ever
no_length : {A : Type 0} (xs : List A) → length xs ≡ 0 → xs ≡ []
no_length [] e = refl
no_length (x ∷ xs) e = absurd (omega arith)

never : (z : Sizes) → SizesOk z → (p : Plan) → PlanFine p → (ls : List (List Entry)) (e : ℕ) (x : Book) (k : Task) → wanted z p.late x.ledger ≡ Want k → after_turn (turn_of z p k x) x ≡ x → (b c : ℕ) → c < b → Marked z p ls e x c → ⊥
never z zo p fine ls e x k w s zero c h m = omega arith
never z zo p fine ls e x k w s (suc b) c h m = let t : Sinks z p ls e x c = subst (λ (y : Book). Sinks z p ls e y c) s (mark_turn z zo p fine ls e x c k m w) in never z zo p fine ls e x k w s b t.0 (omega (arith, t.1, h)) t.2

moves_on : (z : Sizes) → SizesOk z → (p : Plan) → PlanFine p → (ls : List (List Entry)) (x : Book) (k : Task) → SoundBook z p ls x → wanted z p.late x.ledger ≡ Want k → after_turn (turn_of z p k x) x ≡ x → ⊥
moves_on z zo p fine ls x k s w e = let c : ℕ = most_steps (length p.stages) (length (taken_events p.late ls x.ledger.logs)) (length x.ledger.tail) in never z zo p fine ls (length (taken_events p.late ls x.ledger.logs)) x k w e (suc c) c (omega arith) (marked z p ls x s)

-- a turn that leaves the ledger as it is writes nothing
turn_still : (x : Book) (t : Turn) → Moves x.ledger t → t.ledger ≡ x.ledger → after_turn t x ≡ x
unfolding written out_written
turn_still x t m e = λ i. record { ledger = e i; log = x.log; row = written (no_rows i) x.row; out = out_written (no_outs i) x.out }
  where
    no_rows : t.rows ≡ []
    no_rows = no_length t.rows (omega (arith, m.next, ap (λ (y : Ledger). y.queue.next) e))

    no_outs : t.outs ≡ []
    no_outs = no_length t.outs (omega (arith, m.pages, ap (λ (y : Ledger). y.pages) e))

-- A BATCH'S NUMBERS
abbrev BoxFit : ℕ → LogBox → Type 0
BoxFit m b = (b.latest < 4611686018427387904) × (b.entries ≤ m) × EventsFit 0 b.events × (length b.events ≤ m)

later_fits : (a t : ℕ) → a < 4611686018427387904 → t < 4611686018427387904 → later a t < 4611686018427387904
later_fits a t h i = grind (arith, nat_tests)

entered_fit : (late m : ℕ) (e : Entry) (b : LogBox) → T (entry_ok e) → BoxFit m b → BoxFit (suc m) (entered late e b)
unfolding entered time_of
entered_fit late m (Ev e) b ok f = go (ltb (e.time + late) b.latest)
  where
    go : (c : Bool) → BoxFit (suc m) (cond c (Rattle.book.specs.Ledger.passed b) (Rattle.book.specs.Ledger.came e b))
    go true = (f.0, omega (arith, f.1), f.2, omega (arith, f.3))
    go false = (later_fits b.latest e.time f.0 (time_ok (Ev e) ok), omega (arith, f.1), events_append 0 b.events (e ∷ []) f.2 (event_ok e ok, tt), omega (arith, f.3, length-append b.events (e ∷ [])))
entered_fit late m (Still t) b ok f = (later_fits b.latest t f.0 (time_ok (Still t) ok), omega (arith, f.1), f.2, omega (arith, f.3))

entered_base : (late : ℕ) (e : Entry) (b : LogBox) → (entered late e b).base ≡ b.base
unfolding entered
entered_base late (Ev e) b = go (ltb (e.time + late) b.latest)
  where
    go : (c : Bool) → (cond c (Rattle.book.specs.Ledger.passed b) (Rattle.book.specs.Ledger.came e b)).base ≡ b.base
    go true = refl
    go false = refl
entered_base late (Still t) b = refl

all_entered : (late m : ℕ) (es : List Entry) (b : LogBox) → ((x : Entry) → Memᴰ x es → T (entry_ok x)) → BoxFit m b → BoxFit (m + length es) (entered_all late es b) × ((entered_all late es b).base ≡ b.base)
unfolding entered_all
all_entered late m [] b ok f = (subst (λ (k : ℕ). BoxFit k b) (omega arith) f, refl)
all_entered late m (e ∷ es) b ok f =
    let r : BoxFit (suc m + length es) (entered_all late es (entered late e b)) × ((entered_all late es (entered late e b)).base ≡ (entered late e b).base) = all_entered late (suc m) es (entered late e b) (λ x k. ok x (Memᴰ.tail k)) (entered_fit late m e b (ok e (Memᴰ.head refl)) f) in
    (subst (λ (k : ℕ). BoxFit k (entered_all late es (entered late e b))) (omega arith) r.0, r.1 ∙ entered_base late e b)

-- who was served, as a box that is read has it
served_none : (n : ℕ) → Below wide (write_all write_served (replicate n nobody))
unfolding write_all
served_none zero = tt
served_none (suc n) = (omega arith, (omega arith, served_none n))

below_right : (t : ℕ) (xs ys : List ℕ) → Below t (xs ++ ys) → Below t ys
below_right t [] ys h = h
below_right t (x ∷ xs) ys h = below_right t xs ys h.1

served_fit : (bs : List ℕ) (b : LogBox) → log_or bs ≡ just b → Below wide (write_all write_served b.served)
unfolding log_or
served_fit [] b e = subst (λ (x : LogBox). Below wide (write_all write_served x.served)) (just_same empty_log b e) (served_none 64)
served_fit (x ∷ bs) b e = below_right wide (write_list write_event b.events) (write_all write_served b.served) (reads_back.0.only (x ∷ bs) b e).1.1.1.1

served_set : (i : ℕ) (s : Served) (ss : List Served) → s.life < wide → s.serial < wide → Below wide (write_all write_served ss) → Below wide (write_all write_served (set_at i s ss))
unfolding write_all set_at
served_set i s [] a b h = tt
served_set zero s (x ∷ ss) a b h = (a, (b, h.1.1))
served_set (suc i) s (x ∷ ss) a b h = (h.0, (h.1.0, served_set i s ss a b h.1.1))

-- a box can hold the numbers of a log's box with a batch more
batch_fit : (late m floor i : ℕ) (s : Served) (es : List Entry) (b : LogBox) → m + length es < wide → b.base + less_by b.base floor < wide → s.life < wide → s.serial < wide → ((x : Entry) → Memᴰ x es → T (entry_ok x)) → BoxFit m b → Below wide (write_all write_served b.served) → AreNumbers (write_log (batched late floor i s es b))
unfolding let_go
batch_fit late m floor i s es b hm hb hc hs ok f sv = (
  omega (arith, r.0.0),
  (
    omega (arith, r.0.1, hm),
    (
      omega (arith, r.1, hb),
      below_append wide (write_list write_event x.events) (write_all write_served x.served) (omega (arith, r.0.3, hm), events_below wide (omega arith) x.events (events_up x.events r.0.2))
          (subst (λ (ss : List Served). Below wide (write_all write_served ss)) (sym (batch_served late floor i s es b)) (served_set i s b.served hc hs sv)),
    ),
  ),
)
  where
    x : LogBox
    x = batched late floor i s es b

    r : BoxFit (m + length es) (entered_all late es (let_go floor b)) × ((entered_all late es (let_go floor b)).base ≡ (let_go floor b).base)
    r = all_entered late m es (let_go floor b) ok (f.0, f.1, events_drop 0 (less_by b.base floor) b.events f.2, omega (arith, f.3, length-drop (less_by b.base floor) b.events))

-- what is known to be taken is no less than what is
raised_over : (l : ℕ) (ts : List Taken) (ns : List ℕ) → l < length ts → (taken_of l ts).taken ≤ floor_of l (raised ts ns)
unfolding taken_of floor_of raised
raised_over l [] ns h = absurd (omega arith)
raised_over zero (t ∷ ts) [] h = omega arith
raised_over (suc l) (t ∷ ts) [] h = raised_over l ts [] (omega arith)
raised_over zero (t ∷ ts) (n ∷ ns) h = let q : t.taken ≤ cond (ltb n t.taken) t.taken n = grind (arith, nat_tests) in q
raised_over (suc l) (t ∷ ts) (n ∷ ns) h = raised_over l ts ns (omega arith)

page_wants : (z : Sizes) (from most : ℕ) (x : Ledger) (got : List Event) (b : ℕ) → answer_by z from most (just x) got ≡ page b → length got < most
unfolding answer_by
page_wants z from most x got b e = go (ltb (length got) most) refl (ltb (from + length got) (x.pages * z.outs)) e
  where
    go : (c : Bool) → ltb (length got) most ≡ c → (d : Bool) → cond (c && d) (page (out_box ((from + length got) / z.outs))) (reply (first_of most (got ++ drop_of (less_by (x.pages * z.outs) (from + length got)) x.tail))) ≡ page b → length got < most
    go true t d q = ltb-true (length got) most t
    go false t true q = absurd (let i : ◌≡◌ {A = ℕ} 0 1 = cc in omega arith)
    go false t false q = absurd (let i : ◌≡◌ {A = ℕ} 0 1 = cc in omega arith)

-- all logs are taken, one by one
all_taken : (late : ℕ) (f : ℕ → LogBox) (k : ℕ) (ls : List (List Entry)) (ts : List Taken) → LogsRight late f k ls ts → ((l : ℕ) → l < length ls → ((f (k + l)).base + length (f (k + l)).events ≤ (taken_of l ts).taken) × ((f (k + l)).latest ≤ (taken_of l ts).latest)) → AllTaken late ls ts
unfolding taken_of
all_taken late f k [] ts r h = tt
all_taken late f k (es ∷ ls) [] r h = absurd r
all_taken late f k (es ∷ ls) (t ∷ ts) r h = (
  omega (arith, first.0, q.taken.some, q.holds.base, ap length q.holds.events, length-drop b.base (in_time late 0 es)),
  omega (arith, first.1, q.holds.latest, q.taken.latest, latest_part 0 q.taken.seen q.taken.rest, ap (latest 0) q.taken.is),
  all_taken late f (suc k) ls ts r.1 (λ l i. subst (λ (j : ℕ). ((f j).base + length (f j).events ≤ (taken_of l ts).taken) × ((f j).latest ≤ (taken_of l ts).latest)) (omega arith) (h (suc l) (omega (arith, i)))),
)
  where
    b : LogBox
    b = f k

    q : LogRight late es t b
    q = r.0

    first : (b.base + length b.events ≤ t.taken) × (b.latest ≤ t.latest)
    first = subst (λ (j : ℕ). ((f j).base + length (f j).events ≤ t.taken) × ((f j).latest ≤ t.latest)) (omega arith) (h 0 (omega arith))

log_total : (l : ℕ) (ls : List (List Entry)) → length (log_of l ls) ≤ total ls
unfolding log_of
log_total zero [] = omega arith
log_total (suc l) [] = omega arith
log_total zero (es ∷ ls) = omega arith
log_total (suc l) (es ∷ ls) = omega (arith, log_total l ls)

module _ (p : Plan) (ok : T (plan_ok p)) (logs : ℕ) (hl : logs ≤ 256) where
  abbrev O : Ops
  O = real sizes p logs

  abbrev R : ℕ → List (List Entry) → (ℕ → Box) → Type 0
  R n ls f = Right sizes p logs (Within sizes) n ls f

  abbrev lim : Limits sizes p logs longest (Within sizes)
  lim = L p ok logs hl

  pub step_differs : {n : ℕ} {ls : List (List Entry)} {f : ℕ → Box} → n < longest → R n ls f → (x : List ℕ) → Now f (O.due (f 0).bytes) x → O.differs (f 0).bytes (O.after (f 0).bytes x) ≡ true
  step_differs {n} {ls} {f} hn r x nw = go (are_other (f 0).bytes (O.after (f 0).bytes x)) refl
    where
      b : Book
      b = r.book

      d : Doing sizes sizes_ok p (fine p ok logs hl) logs longest (Within sizes) lim n ls f r x
      d = doing sizes sizes_ok p (fine p ok logs hl) logs longest (Within sizes) lim n ls f r x nw

      go : (c : Bool) → are_other (f 0).bytes (O.after (f 0).bytes x) ≡ c → c ≡ true
      go true e = refl
      go false e = absurd (moves_on sizes sizes_ok p (fine p ok logs hl) ls b d.task r.sound d.want (turn_still b (turn_of sizes p d.task b) (moves sizes sizes_ok p (fine p ok logs hl) logs longest (Within sizes) lim b d.task) still))
        where
          still : (turn_of sizes p d.task b).ledger ≡ b.ledger
          still = just_same (turn_of sizes p d.task b).ledger b.ledger (sym (after_reads sizes sizes_ok p (fine p ok logs hl) logs longest (Within sizes) lim n ls f r x hn d) ∙ ap (ledger_or logs) (sym (differs_not (f 0).bytes (O.after (f 0).bytes x) e)) ∙ r.ledger)

  -- a ledger that has taken no less
  took_on : (x y : List ℕ) (l : ℕ) (bs : List ℕ) (u v : Ledger) → ledger_or logs x ≡ just u → ledger_or logs y ≡ just v → (taken_of l u.logs).taken ≤ (taken_of l v.logs).taken → (taken_of l u.logs).latest ≤ (taken_of l v.logs).latest → TookAll logs x l bs → TookAll logs y l bs
  took_on x y l bs u v a b h i t =
      let e : t.ledger ≡ u = just_same t.ledger u (sym t.reads ∙ a) in
      record { ledger = v; box = t.box; reads = b; holds = t.holds; taken = omega (arith, t.taken, h, ap (λ (z : Ledger). (taken_of l z.logs).taken) e); last = omega (arith, t.last, i, ap (λ (z : Ledger). (taken_of l z.logs).latest) e) }

  pub took_step : {n : ℕ} {ls : List (List Entry)} {f : ℕ → Box} → n < longest → R n ls f → (x : List ℕ) → Now f (O.due (f 0).bytes) x → (l : ℕ) → TookAll logs (f 0).bytes l (f (log_box l)).bytes → TookAll logs (O.after (f 0).bytes x) l (f (log_box l)).bytes
  took_step {n} {ls} {f} hn r x nw l t =
      let d : Doing sizes sizes_ok p (fine p ok logs hl) logs longest (Within sizes) lim n ls f r x = doing sizes sizes_ok p (fine p ok logs hl) logs longest (Within sizes) lim n ls f r x nw in
      let g = always_grows sizes p r.book (after_turn (turn_of sizes p d.task r.book) r.book) (turn d.task itself d.want) in
      took_on (f 0).bytes (O.after (f 0).bytes x) l (f (log_box l)).bytes r.book.ledger (turn_of sizes p d.task r.book).ledger r.ledger (after_reads sizes sizes_ok p (fine p ok logs hl) logs longest (Within sizes) lim n ls f r x hn d) (g.taken l) (g.latest l) t

  pub took_other : {n : ℕ} {ls : List (List Entry)} {f : ℕ → Box} → n < longest → R n ls f → O.due (f 0).bytes ≡ face.nothing → (l : ℕ) (y : List ℕ) → l < logs → O.take (f 0).bytes l (f (log_box l)).bytes ≡ gives y → (k : ℕ) → k < logs → TookAll logs (f 0).bytes k (f (log_box k)).bytes → TookAll logs y k (f (log_box k)).bytes
  took_other {n} {ls} {f} hn r du l y h tk k hk t =
      let a : Takes p ok logs hl n ls f r l y = takes_of p ok logs hl n ls f r du l y h tk in
      let g = always_grows sizes p r.book (take_into sizes p l (r.book.log l) r.book) (takes l (r.book.log l) itself a.rest) in
      took_on (f 0).bytes y k (f (log_box k)).bytes r.book.ledger (took sizes p.stages l (r.book.log l) r.book.ledger) r.ledger a.reads (g.taken k) (g.latest k) t

  pub took_take : {n : ℕ} {ls : List (List Entry)} {f : ℕ → Box} → n < longest → R n ls f → O.due (f 0).bytes ≡ face.nothing → (l : ℕ) (y : List ℕ) → l < logs → O.take (f 0).bytes l (f (log_box l)).bytes ≡ gives y → O.due y ≡ face.nothing → TookAll logs y l (f (log_box l)).bytes
  took_take {n} {ls} {f} hn r du l y h tk dy = record { ledger = v; box = b; reads = a.reads; holds = r.log l h; taken = subst (λ (z : Taken). b.base + length b.events ≤ z.taken) (sym here) (omega (arith, all)); last = subst (λ (z : Taken). b.latest ≤ z.latest) (sym here) last }
    where
      a : Takes p ok logs hl n ls f r l y
      a = takes_of p ok logs hl n ls f r du l y h tk

      b : LogBox
      b = r.book.log l

      x : Ledger
      x = r.book.ledger

      v : Ledger
      v = took sizes p.stages l b x

      t : Taken
      t = taken_of l x.logs

      i : ℕ
      i = (take_events sizes p.stages (new_events b t) t.taken x.queue).taken

      right : LogRight p.late (log_of l ls) t b
      right = log_right sizes sizes_ok p (fine p ok logs hl) logs longest (Within sizes) lim n ls f r l h

      rest : wanted sizes p.late v ≡ Rest
      rest = calls_none (wanted sizes p.late v) v (sym (due_is sizes sizes_ok p (fine p ok logs hl) logs longest (Within sizes) lim y v a.reads) ∙ dy)

      all : i ≡ b.base + length b.events
      all = took_all sizes p.stages (new_events b t) t.taken x.queue (room_to_take sizes p v rest).0
          ∙ omega (arith, right.base, right.taken.some, right.holds.base, length-drop (less_by b.base t.taken) b.events, less_by_is b.base t.taken, ap length right.holds.events, length-drop b.base (in_time p.late 0 (log_of l ls)))

      here : taken_of l v.logs ≡ took_to b t i
      here = taken_set l (took_to b t i) x.logs (omega (arith, h, r.count, logs_long p.late r.book.log 0 ls x.logs r.sound.logs))

      last : b.latest ≤ (took_to b t i).latest
      last = subst (λ (c : Bool). b.latest ≤ cond c (later t.latest b.latest) t.latest) (sym (eq-eqb i (b.base + length b.events) all)) (up t.latest b.latest)
        where
          up : (m k : ℕ) → k ≤ later m k
          up m k = grind (arith, nat_tests)

  -- ROOM FOR A BATCH once all is taken
  pub adds_room : {n : ℕ} {ls : List (List Entry)} {f : ℕ → Box} → n < longest → R n ls f → O.due (f 0).bytes ≡ face.nothing → (i c s l : ℕ) (fl : List ℕ) (es : List Entry) → l < logs → TookAll logs (f 0).bytes l (f (log_box l)).bytes → Floor logs ls f (O.raise (f 0).bytes fl) → Tag n i c s → ((x : Entry) → Memᴰ x es → T (entry_ok x)) → length es ≤ 8 →
      O.adds (O.raise (f 0).bytes fl) i c s l (f (log_box l)).bytes es ≡ lacks → ⊥
  unfolding adds_by raise_by let_go
  adds_room {n} {ls} {f} hn r du i c s l fl es h t fo tag ok' few e =
      writes_given (leb (length (let_go floor b).events + length es) 512) (write_log (batched p.late floor i (record { life = c; serial = s }) es b)) (le-leb (length (let_go floor b).events + length es) 512 (omega (arith, few, none)))
      (batch_fit p.late (8 * n) floor i (record { life = c; serial = s }) es b (omega (arith, hn, few)) (omega (arith, right.base, right.taken.some, (in_time_fits p.late 0 (log_of l ls) fits).1, few_entries, hn, under, less_by_is b.base floor)) (omega (arith, tag.life)) (omega (arith, tag.upto, hn)) ok'
      (omega (arith, right.holds.latest, latest_fits 0 (log_of l ls) (omega arith) fits), omega (arith, right.holds.entries, few_entries), subst (EventsFit 0) (sym right.holds.events) (events_drop 0 b.base (in_time p.late 0 (log_of l ls)) (in_time_fits p.late 0 (log_of l ls) fits).0), omega (arith, ap length right.holds.events, length-drop b.base (in_time p.late 0 (log_of l ls)), (in_time_fits p.late 0 (log_of l ls) fits).1, few_entries))
      (served_fit (f (log_box l)).bytes b (r.log l h)))
      (sym (ap (adds_by sizes p.late floor i (record { life = c; serial = s }) es) (r.log l h)) ∙ e)
    where
      b : LogBox
      b = r.book.log l

      x : Ledger
      x = r.book.ledger

      floor : ℕ
      floor = floor_of l (O.raise (f 0).bytes fl)

      right : LogRight p.late (log_of l ls) (taken_of l x.logs) b
      right = log_right sizes sizes_ok p (fine p ok logs hl) logs longest (Within sizes) lim n ls f r l h

      fits : EntriesFit (log_of l ls)
      fits = logs_fit_at l ls r.within.fits.entries

      few_entries : length (log_of l ls) ≤ 8 * n
      few_entries = omega (arith, log_total l ls, r.within.fits.many)

      under : floor ≤ (taken_of l x.logs).taken
      under = fo x r.ledger l

      over : (taken_of l x.logs).taken ≤ floor
      over = subst (λ (m : Maybe Ledger). (taken_of l x.logs).taken ≤ floor_of l (raise_by m fl)) (sym r.ledger) (raised_over l x.logs fl (omega (arith, h, r.count, logs_long p.late r.book.log 0 ls x.logs r.sound.logs)))

      all : b.base + length b.events ≤ (taken_of l x.logs).taken
      all = omega (arith, t.taken, ap (λ (y : Ledger). (taken_of l y.logs).taken) (just_same t.ledger x (sym t.reads ∙ r.ledger)), ap (λ (y : LogBox). y.base + length y.events) (just_same t.box b (sym t.holds ∙ r.log l h)))

      none : length (let_go floor b).events ≡ 0
      none = omega (arith, length-drop (less_by b.base floor) b.events, less_by_is b.base floor, over, all)

  -- ANSWERING ENDS: each page has an event or more that was not gathered yet
  pub left_less : {n : ℕ} {ls : List (List Entry)} {f : ℕ → Box} → n < longest → R n ls f → (from most b : ℕ) (got : List Event) → O.answer from most (f 0).bytes got ≡ page b → less_by (length (O.more from most (f 0).bytes got (f b).bytes)) most < less_by (length got) most
  left_less {n} {ls} {f} hn r from most b got e = omega (arith, less_by_is (length (got ++ new)) most, less_by_is (length got) most, length-append got new, page_wants sizes from most x got b e', more)
    where
      x : Ledger
      x = r.book.ledger

      e' : answer_by sizes from most (just x) got ≡ page b
      e' = sym (ap (λ (m : Maybe Ledger). answer_by sizes from most m got) r.ledger) ∙ e

      q : (from + length got < x.pages * 512) × (b ≡ out_box ((from + length got) / 512))
      q = answer_tells sizes sizes_ok p (fine p ok logs hl) logs longest (Within sizes) lim from most x got b e'

      new : List Event
      new = drop_of ((from + length got) % 512) (or_none (out_in (f b).bytes))

      full : length (or_none (out_in (f b).bytes)) ≡ 512
      full = ap (λ (k : ℕ). length (or_none (out_in (f k).bytes))) q.1 ∙ pages_full sizes sizes_ok p (fine p ok logs hl) logs longest (Within sizes) lim n ls f r ((from + length got) / 512) (in_page sizes sizes_ok p (fine p ok logs hl) logs longest (Within sizes) lim from got x.pages q.0)

      more : 1 ≤ length new
      more = omega (arith, length_drop_of ((from + length got) % 512) (or_none (out_in (f b).bytes)), full)

  -- THERE IS ROOM for all that one worker needs
  pub enough : (e : ℕ) → e ≤ horizon → horizon + 132 * most_work logs e + 22 * 1024 + 24 * logs + 470 < longest
  enough e h = omega (arith, work_up logs 256 e horizon hl h, hl)

  -- AS A WORKER TAKES IT
  abbrev pub book_live : Live O p logs (book_safe p ok logs hl)
  book_live = record {
    Work = Work p ok logs hl;
    heavy = most_work logs;
    long = 1024;
    left = λ from most l got. less_by (length got) most;
    Took = TookAll logs;
    enough = enough;
    fits = λ {n} {ls} {f} hn r few b kind. (book_fits p logs n ls f r b kind).1 few;
    work_most = work_most p ok logs hl;
    work_page = work_page p ok logs hl;
    work_step = work_step p ok logs hl;
    work_take = work_take p ok logs hl;
    work_same = work_same p ok logs hl;
    few_pages = (book_takes p ok logs hl).1;
    step_differs = step_differs;
    took_step = took_step;
    differs_not = differs_not;
    take_gives = λ {n} {ls} {f} hn r d l h. (book_takes p ok logs hl).0 n ls f hn r d l h;
    took_take = took_take;
    took_other = took_other;
    adds_room = adds_room;
    left_most = λ from most l got h. omega (arith, h, less_by_is (length got) most);
    left_less = left_less;
  }

  pub book_answers : AnswersAll O p logs (book_safe p ok logs hl) book_live
  book_answers n ls f hn r d all from most got es h g e = book_answers_all p ok logs hl n ls f r d (all_taken p.late r.book.log 0 ls r.book.ledger.logs r.sound.logs each) from most got es g e
    where
      each : (l : ℕ) → l < length ls → ((r.book.log (0 + l)).base + length (r.book.log (0 + l)).events ≤ (taken_of l r.book.ledger.logs).taken) × ((r.book.log (0 + l)).latest ≤ (taken_of l r.book.ledger.logs).latest)
      each l i =
          let hx : l < logs = omega (arith, i, r.count) in
          let t : TookAll logs (f 0).bytes l (f (log_box l)).bytes = all l hx in
          let a : t.ledger ≡ r.book.ledger = just_same t.ledger r.book.ledger (sym t.reads ∙ r.ledger) in
          let b : t.box ≡ r.book.log l = just_same t.box (r.book.log l) (sym t.holds ∙ r.log l hx) in
          subst (λ (j : ℕ). ((r.book.log j).base + length (r.book.log j).events ≤ (taken_of l r.book.ledger.logs).taken) × ((r.book.log j).latest ≤ (taken_of l r.book.ledger.logs).latest)) {x = l} (omega arith)
          (omega (arith, t.taken, ap (λ (y : LogBox). y.base + length y.events) b, ap (λ (y : Ledger). (taken_of l y.logs).taken) a), omega (arith, t.last, ap (λ (y : LogBox). y.latest) b, ap (λ (y : Ledger). (taken_of l y.logs).latest) a))
