-- Within its limits the book on bytes keeps the laws that a worker needs.
use Rattle.std.proofs.Common.{◌≡◌, ℕ, zero, suc, ◌+◌, ◌-◌, ◌*◌, ◌/◌, ◌%◌, ◌<◌, ◌≤◌, Bool, true, false, cond, not, ◌&&◌, T, eqb, ltb, leb, ◌⊎◌, List, [], ◌∷◌, ◌++◌, length, sym, refl, ap, ◌∙◌, subst, inl, inr, append_assoc, append-nil, lt_of_mul-lt-mul_right, div-add-mod', arith, length-append}
use mathlib.Core.List.{Memᴰ}
use Rattle.std.proofs.lemmas.Bool.{eq-eqb, ne_eqb, eqb-true, le-leb, leb-true, and_parts, and_from, not-true}
use Rattle.streams.specs.Meaning.{Event, Entry, Plan, out, less_by}
use Rattle.streams.specs.Calls.{entry_ok, empties, put_in, drop_of, first_of}
use Rattle.streams.specs.Hands.{Box, at, all_bytes}
use Rattle.book.specs.Queue.{Link, nil, page, Page, Write, written, page_of, Blank}
use Rattle.book.specs.Due.{Sizes, SizesOk}
use Rattle.book.specs.Ledger.{Served, LogBox, empty_log, workers, let_go, batched, taken_of, Ledger, watermark, is_old, took, Task, Wanted, Rest, Want, wanted, shows_of, OutWrite, out_written, Turn, does, row_box, out_box, log_box}
use Rattle.book.specs.Words.{Maybe, nothing, just, bytes_of, AreNumbers, write_log, write_ledger, write_page, write_out, log_in, ledger_in, page_in, out_in, Filled}
use Rattle.book.specs.Book.{Book, empty_book, LogRight, outs_of, came_out, SoundBook, PlanFine, set_log, put_all, put_batch, take_into, turn_of, after_turn, log_of, AllTaken}
use Rattle.book.specs.Numbers.{Moves, Among, itself, takes, turn, Grows}
use Rattle.book.specs.Interface.{gives, Calls, with_page, reply, Filling, Ops, IsPage, Now, Gathered, no_page, one_page, Tag, Stays, Laws}
use Rattle.book.specs.Real.{log_or, ledger_or, or_none, has_by, served_of, floor_of, adds_by, raise_by, calls_of, calls_for, due_by, rests, turn_on, turn_by, turn_for, after_by, row_fillings, out_fillings, pages_by, take_by, answer_by, real}
use Rattle.book.specs.Limits.{Limits}
use Rattle.book.specs.Right as R
use Rattle.book.specs.Right.{out_in', came_in, Page'}
use Rattle.streams.proofs.Logs.{less_by_is}
use Rattle.book.proofs.Words.{reads_back}
use Rattle.book.proofs.Parts.{drop_past, drop_append, first_append, first_of_more, outs_long, page_part}
use Rattle.book.proofs.Book.{sound_first, sound_batch, sound_take, sound_turn, first_of_out, all_out, outs_same, logs_at}
use Rattle.book.proofs.Numbers.{steps_move, always_grows, old_stays, among_numbers, among_outs, one_number, one_out}
use Rattle.book.proofs.Real.{just_same, mem_among, among_mem, among_append, row_is_page, out_is_page, row_filling, out_filling, row_filling_of, out_filling_of, filled_row, filled_out, find_row, find_out, bytes_most, bytes_some, bytes_bytes, given, calls_page, calls_none, shown_below, served_set, served_other, batch_served, nobody_served, raised_under}

-- a box filled, and the others
pub at_here : (b : ℕ) (x : Box) (f : ℕ → Box) → at b x f b ≡ x
at_here b x f = rw (eq-eqb b b refl)

pub at_other : (b c : ℕ) (x : Box) (f : ℕ → Box) → (c ≡ b → ⊥) → at b x f c ≡ f c
at_other b c x f n = rw (ne_eqb c b n)

-- what was written is read
log_or_in : (bs : List ℕ) → 1 ≤ length bs → log_or bs ≡ log_in bs
unfolding log_or
log_or_in [] h = absurd (omega arith)
log_or_in (b ∷ bs) h = refl

ledger_or_in : (n : ℕ) (bs : List ℕ) → 1 ≤ length bs → ledger_or n bs ≡ ledger_in bs
unfolding ledger_or
ledger_or_in n [] h = absurd (omega arith)
ledger_or_in n (b ∷ bs) h = refl

log_back : (b : LogBox) → length b.served ≡ workers → AreNumbers (write_log b) → log_or (bytes_of (write_log b)) ≡ just b
log_back b o a = log_or_in (bytes_of (write_log b)) (bytes_some (write_log b)) ∙ reads_back.0.back b o a

log_only : (bs : List ℕ) (b : LogBox) → log_or bs ≡ just b → length b.served ≡ workers
unfolding log_or
log_only [] b e = ap (λ (x : LogBox). length x.served) (sym (just_same empty_log b e))
log_only (x ∷ bs) b e = (reads_back.0.only (x ∷ bs) b e).2

pub ledger_back : (n : ℕ) (x : Ledger) → AreNumbers (write_ledger x) → ledger_or n (bytes_of (write_ledger x)) ≡ just x
ledger_back n x a = ledger_or_in n (bytes_of (write_ledger x)) (bytes_some (write_ledger x)) ∙ reads_back.1.back x tt a

module _ (z : Sizes) (zo : SizesOk z) (p : Plan) (fine : PlanFine p) (logs bound : ℕ) (Within : ℕ → List (List Entry) → Book → Type 0) (L : Limits z p logs bound Within) where
  abbrev Right : ℕ → List (List Entry) → (ℕ → Box) → Type 0
  Right n ls f = R.Right z p logs Within n ls f

  abbrev Old : (ℕ → Box) → List ℕ → Type 0
  Old f x = R.Old logs f x

  abbrev OldBox : List (List Entry) → ℕ → List ℕ → Type 0
  OldBox ls l x = R.OldBox p.late ls l x

  abbrev OldLedger : List (List Entry) → (ℕ → Box) → List ℕ → Type 0
  OldLedger ls f x = R.OldLedger logs ls f x

  abbrev OldLog : List (List Entry) → (ℕ → Box) → ℕ → List ℕ → Type 0
  OldLog ls f l x = R.OldLog p.late logs ls f l x

  abbrev Floor : List (List Entry) → (ℕ → Box) → List ℕ → Type 0
  Floor ls f fl = R.Floor logs ls f fl

  abbrev Spent : List ℕ → ℕ → Type 0
  Spent x b = R.Spent logs x b

  came_is : (n : ℕ) (ls : List (List Entry)) (f : ℕ → Box) (r : Right n ls f) → came_in f r.book.ledger ≡ came_out r.book
  unfolding or_none
  came_is n ls f r = ap (λ (es : List Event). es ++ r.book.ledger.tail) (outs_same r.book.out (out_in' f) r.book.ledger.pages (λ t h. ap or_none (r.out t h).1))

  -- WHAT STAYS, from one ledger to a later one
  record On (f f' : ℕ → Box) (now now' : Ledger) : Type 0 where
    is : ledger_or logs (f 0).bytes ≡ just now
    is' : ledger_or logs (f' 0).bytes ≡ just now'
    taken : (l : ℕ) → (taken_of l now.logs).taken ≤ (taken_of l now'.logs).taken
    next : now.queue.next ≤ now'.queue.next
    pages : now.pages ≤ now'.pages
    outs : (t : ℕ) → t < now.pages → (f' (out_box t)).bytes ≡ (f (out_box t)).bytes
    more : (es : List Event) × (came_in f' now' ≡ came_in f now ++ es)

  page_on : (y y' : Ledger) (b : ℕ) → y.queue.next ≤ y'.queue.next → y.pages ≤ y'.pages → Page' y b → Page' y' b
  page_on y y' b h i (inl (k, a, e)) = inl (k, omega (arith, h, a), e)
  page_on y y' b h i (inr (t, a, e)) = inr (t, omega (arith, i, a), e)

  stays_on : (ls ls' : List (List Entry)) (f f' : ℕ → Box) (now now' : Ledger) → On f f' now now' → ((l : ℕ) (x : List ℕ) → OldLog ls f l x → OldLog ls' f' l x) → Stays OldLedger OldLog Floor Spent ls f ls' f'
  stays_on ls ls' f f' now now' o lg = record { ledger = ledger; log = lg; floor = floor; spent = spent }
    where
      ledger : (x : List ℕ) → Old f x → Old f' x
      ledger x a =
          record {
            old = a.old;
            now = now';
            reads = a.reads;
            is = o.is';
            taken = λ l. omega (arith, a.taken l, same_taken l, o.taken l);
            pages = omega (arith, a.pages, same_pages, o.pages);
            more = (a.more.0 ++ o.more.0, o.more.1 ∙ ap (λ (es : List Event). es ++ o.more.0) (ap (came_in f) (sym same) ∙ a.more.1) ∙ append_assoc (came_in f a.old) a.more.0 o.more.0 ∙ ap (λ (es : List Event). es ++ (a.more.0 ++ o.more.0)) old_same);
          }
        where
          same : a.now ≡ now
          same = just_same a.now now (sym a.is ∙ o.is)

          same_taken : (l : ℕ) → (taken_of l a.now.logs).taken ≡ (taken_of l now.logs).taken
          same_taken l = ap (λ (y : Ledger). (taken_of l y.logs).taken) same

          same_pages : a.now.pages ≡ now.pages
          same_pages = ap (λ (y : Ledger). y.pages) same

          old_same : came_in f a.old ≡ came_in f' a.old
          old_same = ap (λ (es : List Event). es ++ a.old.tail) (outs_same (out_in' f') (out_in' f) a.old.pages (λ t h. ap (λ (bs : List ℕ). or_none (out_in bs)) (sym (o.outs t (omega (arith, h, a.pages, same_pages))))))

      floor : (x : List ℕ) → Floor ls f x → Floor ls' f' x
      floor x a y e l = omega (arith, a now o.is l, o.taken l, ap (λ (w : Ledger). (taken_of l w.logs).taken) (just_same now' y (sym o.is' ∙ e)))

      spent : (b : ℕ) → Spent (f 0).bytes b → Spent (f' 0).bytes b
      spent b (y, e, g) = (now', o.is', page_on now now' b o.next o.pages (subst (λ (w : Ledger). Page' w b) (just_same y now (sym e ∙ o.is)) g))

  -- OF THE OPERATIONS, with the ledger read
  pub due_is : (x : List ℕ) (y : Ledger) → ledger_or logs x ≡ just y → (real z p logs).due x ≡ calls_of (wanted z p.late y) y
  unfolding due_by
  due_is x y e = ap (due_by z p) e

  pages_are : (x shown : List ℕ) (y : Ledger) → ledger_or logs x ≡ just y → (real z p logs).pages x shown ≡ row_fillings (turn_for z p shown y).rows ++ out_fillings (turn_for z p shown y).outs
  unfolding pages_by
  pages_are x shown y e = ap (pages_by z p shown) e

  pub after_is : (x shown : List ℕ) (y : Ledger) → ledger_or logs x ≡ just y → (real z p logs).after x shown ≡ bytes_of (write_ledger (turn_for z p shown y).ledger)
  unfolding after_by
  after_is x shown y e = ap (after_by z p shown x) e

  -- the step that is due, and the page that it shows
  pub record Doing (n : ℕ) (ls : List (List Entry)) (f : ℕ → Box) (r : Right n ls f) (x : List ℕ) : Type 0 where
    pub task : Task
    pub want : wanted z p.late r.book.ledger ≡ Want task
    pub is : turn_for z p x r.book.ledger ≡ turn_of z p task r.book

  doing_by : (n : ℕ) (ls : List (List Entry)) (f : ℕ → Box) (r : Right n ls f) (x : List ℕ) (w : Wanted) → wanted z p.late r.book.ledger ≡ w → Now f (calls_of w r.book.ledger) x → Doing n ls f r x
  unfolding calls_of turn_by turn_on
  doing_by n ls f r x Rest e h = absurd h
  doing_by n ls f r x (Want k) e h = record { task = k; want = e; is = ap (λ (v : Wanted). turn_by z p v (page_in x) r.book.ledger) e ∙ shown (shows_of k r.book.ledger) refl h }
    where
      shown : (l : Link) → shows_of k r.book.ledger ≡ l → Now f (calls_for l) x → turn_on z p k l (page_in x) r.book.ledger ≡ does z p k (page_of r.book.row l) r.book.ledger
      shown nil q u = refl
      shown (page m) q u =
          ap (λ (g : Maybe Page). turn_on z p k (page m) g r.book.ledger)
          (ap page_in (sym u) ∙ (r.row m (shown_below p.stages (watermark p.late r.book.ledger.logs) (Rattle.book.specs.Book.taken_events p.late ls r.book.ledger.logs) r.book.row r.book.ledger (came_out r.book) k m r.sound.queue q)).1)

  pub doing : (n : ℕ) (ls : List (List Entry)) (f : ℕ → Box) (r : Right n ls f) (x : List ℕ) → Now f ((real z p logs).due (f 0).bytes) x → Doing n ls f r x
  doing n ls f r x h = doing_by n ls f r x (wanted z p.late r.book.ledger) refl (subst (λ (c : Calls). Now f c x) (due_is (f 0).bytes r.book.ledger r.ledger) h)

  pub moves : (b : Book) (k : Task) → Moves b.ledger (turn_of z p k b)
  moves b k = steps_move z p k (page_of b.row (shows_of k b.ledger)) b.ledger

  -- a page that is called for
  data Called (t : Turn) (a : Filling) : Type 0 where
    a_row : (w : Write) → Among w t.rows → a ≡ row_filling w → Called t a
    an_out : (w : OutWrite) → Among w t.outs → a ≡ out_filling w → Called t a

  called_of : (t : Turn) (a : Filling) → Among a (row_fillings t.rows ++ out_fillings t.outs) → Called t a
  called_of t a h = go (among_append a (row_fillings t.rows) (out_fillings t.outs) h)
    where
      go : Among a (row_fillings t.rows) ⊎ Among a (out_fillings t.outs) → Called t a
      go (inl i) = let r : (w : Write) × Among w t.rows × (a ≡ row_filling w) = row_filling_of a t.rows i in a_row r.0 r.1 r.2
      go (inr i) = let r : (w : OutWrite) × Among w t.outs × (a ≡ out_filling w) = out_filling_of a t.outs i in an_out r.0 r.1 r.2

  called : (n : ℕ) (ls : List (List Entry)) (f : ℕ → Box) (r : Right n ls f) (x : List ℕ) (d : Doing n ls f r x) (a : Filling) → Memᴰ a ((real z p logs).pages (f 0).bytes x) → Called (turn_of z p d.task r.book) a
  called n ls f r x d a m = subst (λ (t : Turn). Called t a) d.is (called_of (turn_for z p x r.book.ledger) a (subst (Among a) (pages_are (f 0).bytes x r.book.ledger r.ledger) (mem_among a ((real z p logs).pages (f 0).bytes x) m)))

  -- WHAT IS OLD
  abbrev O : Ops
  O = real z p logs

  ledger_now : {n : ℕ} {ls : List (List Entry)} {f : ℕ → Box} → Right n ls f → Old f (f 0).bytes
  ledger_now {n} {ls} {f} r = record { old = r.book.ledger; now = r.book.ledger; reads = r.ledger; is = r.ledger; taken = λ l. omega arith; pages = omega arith; more = ([], sym (append-nil (came_in f r.book.ledger))) }

  pub log_right : (n : ℕ) (ls : List (List Entry)) (f : ℕ → Box) (r : Right n ls f) (l : ℕ) → l < logs → LogRight p.late (log_of l ls) (taken_of l r.book.ledger.logs) (r.book.log l)
  log_right n ls f r l h = subst (λ (j : ℕ). LogRight p.late (log_of l ls) (taken_of l r.book.ledger.logs) (r.book.log j)) (omega arith) (logs_at p.late r.book.log 0 l ls r.book.ledger.logs (omega (arith, h, r.count)) r.sound.logs)

  log_now : {n : ℕ} {ls : List (List Entry)} {f : ℕ → Box} → Right n ls f → (l : ℕ) → OldLog ls f l (f (log_box l)).bytes
  log_now {n} {ls} {f} r l h = record { box = r.book.log l; reads = r.log l h; once = record { seen = log_of l ls; rest = []; is = sym (append-nil (log_of l ls)); holds = (log_right n ls f r l h).holds } }

  floor_none : (ls : List (List Entry)) (f : ℕ → Box) → Floor ls f []
  unfolding floor_of
  floor_none ls f y e zero = omega arith
  floor_none ls f y e (suc l) = omega arith

  floor_raise : (ls : List (List Entry)) (f : ℕ → Box) (fl x : List ℕ) → Old f x → Floor ls f fl → Floor ls f (O.raise x fl)
  unfolding raise_by
  floor_raise ls f fl x a h y e l =
      subst (λ (m : Maybe Ledger). floor_of l (raise_by m fl) ≤ (taken_of l y.logs).taken) (sym a.reads)
      (raised_under l (taken_of l y.logs).taken a.old.logs fl (subst (λ (w : Ledger). (taken_of l a.old.logs).taken ≤ (taken_of l w.logs).taken) (just_same a.now y (sym a.is ∙ e)) (a.taken l)) (h y e l))

  empties_long : (n : ℕ) → length (empties n) ≡ n
  unfolding empties
  empties_long zero = refl
  empties_long (suc n) = ap suc (empties_long n)

  starts : Right 0 (empties logs) (λ b. record { edition = 0; bytes = [] })
  unfolding ledger_or log_or
  starts = record { book = empty_book logs; sound = sound_first z p logs; within = L.starts; count = empties_long logs; ledger = refl; log = λ l h. refl; row = λ k h. absurd (omega (arith, h)); out = λ t h. absurd (omega (arith, h)) }

  later' : {n : ℕ} {ls : List (List Entry)} {f : ℕ → Box} → Right n ls f → Right (suc n) ls f
  later' r = record { book = r.book; sound = r.sound; within = L.later r.within; count = r.count; ledger = r.ledger; log = r.log; row = r.row; out = r.out }

  -- PAGES
  due_page : (x : List ℕ) (b : ℕ) → O.due x ≡ with_page b → IsPage b
  unfolding due_by
  due_page x b e = go (ledger_or logs x) e
    where
      go : (m : Maybe Ledger) → due_by z p m ≡ with_page b → IsPage b
      go nothing q = absurd (let i : ◌≡◌ {A = ℕ} 0 1 = cc in omega arith)
      go (just y) q = let r : (k : Task) × (n : ℕ) × (wanted z p.late y ≡ Want k) × (shows_of k y ≡ page n) × (b ≡ row_box n) = calls_page (wanted z p.late y) y b q in subst IsPage (sym r.4) (row_is_page r.1)

  called_page : (t : Turn) (a : Filling) → Called t a → IsPage a.box
  called_page t a (a_row w i e) = subst (λ (x : Filling). IsPage x.box) (sym e) (row_is_page w.number)
  called_page t a (an_out w i e) = subst (λ (x : Filling). IsPage x.box) (sym e) (out_is_page w.number)

  pages_page : (x y : List ℕ) (a : Filling) → Memᴰ a (O.pages x y) → IsPage a.box
  unfolding pages_by
  pages_page x y a m = go (ledger_or logs x) (mem_among a (O.pages x y) m)
    where
      go : (w : Maybe Ledger) → Among a (pages_by z p y w) → IsPage a.box
      go nothing h = absurd h
      go (just w) h = called_page (turn_for z p y w) a (called_of (turn_for z p y w) a h)

  pub answer_tells : (from most : ℕ) (x : Ledger) (got : List Event) (b : ℕ) → answer_by z from most (just x) got ≡ Rattle.book.specs.Interface.page b → (from + length got < x.pages * z.outs) × (b ≡ out_box ((from + length got) / z.outs))
  unfolding answer_by
  answer_tells from most x got b e = go (ltb (length got) most && ltb (from + length got) (x.pages * z.outs)) refl e
    where
      go : (c : Bool) → (ltb (length got) most && ltb (from + length got) (x.pages * z.outs)) ≡ c → cond c (Rattle.book.specs.Interface.page (out_box ((from + length got) / z.outs))) (reply (first_of most (got ++ drop_of (less_by (x.pages * z.outs) (from + length got)) x.tail))) ≡ Rattle.book.specs.Interface.page b → (from + length got < x.pages * z.outs) × (b ≡ out_box ((from + length got) / z.outs))
      go true t q = (Rattle.std.proofs.lemmas.Bool.ltb-true (from + length got) (x.pages * z.outs) (and_parts (ltb (length got) most) (ltb (from + length got) (x.pages * z.outs)) t).1, cc)
      go false t q = absurd (let i : ◌≡◌ {A = ℕ} 0 1 = cc in omega arith)

  answer_page : (from most : ℕ) (x : List ℕ) (got : List Event) (b : ℕ) → O.answer from most x got ≡ Rattle.book.specs.Interface.page b → IsPage b
  unfolding answer_by
  answer_page from most x got b e = go (ledger_or logs x) e
    where
      go : (m : Maybe Ledger) → answer_by z from most m got ≡ Rattle.book.specs.Interface.page b → IsPage b
      go nothing q = let e : out_box 0 ≡ b = cc in subst IsPage e (out_is_page 0)
      go (just y) q = subst IsPage (sym (answer_tells from most y got b q).1) (out_is_page ((from + length got) / z.outs))

  moves_for : (shown : List ℕ) (y : Ledger) → Moves y (turn_for z p shown y)
  unfolding turn_by turn_on
  moves_for shown y = go (wanted z p.late y)
    where
      still : Moves y (rests y)
      still = record { rows = tt; next = omega arith; outs = tt; pages = omega arith }

      on : (k : Task) (l : Link) (g : Maybe Page) → Moves y (turn_on z p k l g y)
      on k nil g = steps_move z p k Blank y
      on k (page n) nothing = still
      on k (page n) (just g) = steps_move z p k g y

      go : (w : Wanted) → Moves y (turn_by z p w (page_in shown) y)
      go Rest = still
      go (Want k) = on k (shows_of k y) (page_in shown)

  called_one : (y : Ledger) (t : Turn) (a b : Filling) → Moves y t → Called t a → Called t b → a.box ≡ b.box → a.bytes ≡ b.bytes
  called_one y t a b m (a_row w i e) (a_row v j g) h =
      let q : w ≡ v = one_number y.queue.next t.rows w v m.rows i j (omega (arith, h, ap (λ (x : Filling). x.box) e, ap (λ (x : Filling). x.box) g)) in
      ap (λ (x : Filling). x.bytes) e ∙ ap (λ (x : Write). bytes_of (write_page x.content)) q ∙ sym (ap (λ (x : Filling). x.bytes) g)
  called_one y t a b m (an_out w i e) (an_out v j g) h =
      let q : w ≡ v = one_out y.pages t.outs w v m.outs i j (omega (arith, h, ap (λ (x : Filling). x.box) e, ap (λ (x : Filling). x.box) g)) in
      ap (λ (x : Filling). x.bytes) e ∙ ap (λ (x : OutWrite). bytes_of (write_out x.events)) q ∙ sym (ap (λ (x : Filling). x.bytes) g)
  called_one y t a b m (a_row w i e) (an_out v j g) h = absurd (omega (arith, h, ap (λ (x : Filling). x.box) e, ap (λ (x : Filling). x.box) g))
  called_one y t a b m (an_out w i e) (a_row v j g) h = absurd (omega (arith, h, ap (λ (x : Filling). x.box) e, ap (λ (x : Filling). x.box) g))

  pages_one : (x y : List ℕ) (a b : Filling) → Memᴰ a (O.pages x y) → Memᴰ b (O.pages x y) → a.box ≡ b.box → a.bytes ≡ b.bytes
  unfolding pages_by
  pages_one x y a b m i h = go (ledger_or logs x) (mem_among a (O.pages x y) m) (mem_among b (O.pages x y) i)
    where
      go : (w : Maybe Ledger) → Among a (pages_by z p y w) → Among b (pages_by z p y w) → a.bytes ≡ b.bytes
      go nothing c d = absurd c
      go (just w) c d = called_one w (turn_for z p y w) a b (moves_for y w) (called_of (turn_for z p y w) a c) (called_of (turn_for z p y w) b d) h

  spent_filled : {n : ℕ} {ls : List (List Entry)} {f : ℕ → Box} → Right n ls f → (b : ℕ) → Spent (f 0).bytes b → IsPage b × (1 ≤ (f b).edition)
  spent_filled {n} {ls} {f} r b (y, e, g) = go (subst (λ (w : Ledger). Page' w b) (just_same y r.book.ledger (sym e ∙ r.ledger)) g)
    where
      go : Page' r.book.ledger b → IsPage b × (1 ≤ (f b).edition)
      go (inl (k, a, q)) = subst (λ (c : ℕ). IsPage c × (1 ≤ (f c).edition)) (sym q) (row_is_page k, (r.row k a).0)
      go (inr (t, a, q)) = subst (λ (c : ℕ). IsPage c × (1 ≤ (f c).edition)) (sym q) (out_is_page t, (r.out t a).0)

  due_spent : {n : ℕ} {ls : List (List Entry)} {f : ℕ → Box} → Right n ls f → (b : ℕ) → O.due (f 0).bytes ≡ with_page b → Spent (f 0).bytes b
  due_spent {n} {ls} {f} r b e =
      let y : Ledger = r.book.ledger in
      let c : (k : Task) × (m : ℕ) × (wanted z p.late y ≡ Want k) × (shows_of k y ≡ page m) × (b ≡ row_box m) = calls_page (wanted z p.late y) y b (sym (due_is (f 0).bytes y r.ledger) ∙ e) in
      (y, r.ledger, inl (c.1, shown_below p.stages (watermark p.late y.logs) (Rattle.book.specs.Book.taken_events p.late ls y.logs) r.book.row y (came_out r.book) c.0 c.1 r.sound.queue c.3, c.4))

  fits_box : (ws : List ℕ) → 8 + 32 * length ws ≤ 1048576 → T (leb (length (bytes_of ws)) 1048576 && all_bytes (bytes_of ws))
  fits_box ws h = subst T (sym (and_from (leb (length (bytes_of ws)) 1048576) (all_bytes (bytes_of ws)) (le-leb (length (bytes_of ws)) 1048576 (omega (arith, h, bytes_most ws))) (bytes_bytes ws))) tt

  not_spent : (f : ℕ → Box) (y : Ledger) (b : ℕ) → ledger_or logs (f 0).bytes ≡ just y → (Page' y b → ⊥) → Spent (f 0).bytes b → ⊥
  not_spent f y b e h (w, q, g) = h (subst (λ (v : Ledger). Page' v b) (just_same w y (sym q ∙ e)) g)

  called_new : (y : Ledger) (t : Turn) (a : Filling) → Moves y t → Called t a → Page' y a.box → ⊥
  called_new y t a m (a_row w i e) (inl (k, h, q)) = omega (arith, h, q, ap (λ (x : Filling). x.box) e, (among_numbers y.queue.next t.rows w m.rows i).0)
  called_new y t a m (a_row w i e) (inr (k, h, q)) = omega (arith, q, ap (λ (x : Filling). x.box) e)
  called_new y t a m (an_out w i e) (inl (k, h, q)) = omega (arith, q, ap (λ (x : Filling). x.box) e)
  called_new y t a m (an_out w i e) (inr (k, h, q)) = omega (arith, h, q, ap (λ (x : Filling). x.box) e, (among_outs y.pages t.outs w m.outs i).0)

  pages_new : {n : ℕ} {ls : List (List Entry)} {f : ℕ → Box} → Right n ls f → (x : List ℕ) → Now f (O.due (f 0).bytes) x → (a : Filling) → Memᴰ a (O.pages (f 0).bytes x) → (Spent (f 0).bytes a.box → ⊥) × T (leb (length a.bytes) 1048576 && all_bytes a.bytes)
  pages_new {n} {ls} {f} r x h a m = (not_spent f r.book.ledger a.box r.ledger (called_new r.book.ledger (turn_of z p d.task r.book) a (moves r.book d.task) c), short c)
    where
      d : Doing n ls f r x
      d = doing n ls f r x h

      c : Called (turn_of z p d.task r.book) a
      c = called n ls f r x d a m

      short : Called (turn_of z p d.task r.book) a → T (leb (length a.bytes) 1048576 && all_bytes a.bytes)
      short (a_row w i e) = subst (λ (y : Filling). T (leb (length y.bytes) 1048576 && all_bytes y.bytes)) (sym e) (fits_box (write_page w.content) (L.page_short d.task w r.sound r.within d.want i))
      short (an_out w i e) = subst (λ (y : Filling). T (leb (length y.bytes) 1048576 && all_bytes y.bytes)) (sym e) (fits_box (write_out w.events) (L.out_short d.task w r.sound r.within d.want i))

  -- SERVED
  record Added (old bs : List ℕ) (l i c s : ℕ) (fl : List ℕ) (es : List Entry) (b : LogBox) : Type 0 where
    reads : log_or bs ≡ just (batched p.late (floor_of l fl) i (record { life = c; serial = s }) es b)
    served : length b.served ≡ workers
    room : length (let_go (floor_of l fl) b).events + length es ≤ z.log

  served_long : (i : ℕ) (s : Served) (ss : List Served) → length (Rattle.book.specs.Ledger.set_at i s ss) ≡ length ss
  served_long i s ss = Rattle.book.proofs.Book.length_set_at i s ss

  added : (old bs : List ℕ) (l i c s : ℕ) (fl : List ℕ) (es : List Entry) (b : LogBox) → log_or old ≡ just b → O.adds fl i c s l old es ≡ gives bs → Added old bs l i c s fl es b
  unfolding adds_by
  added old bs l i c s fl es b e g =
      let tag : Served = record { life = c; serial = s } in
      let b' : LogBox = batched p.late (floor_of l fl) i tag es b in
      let r : (leb (length (let_go (floor_of l fl) b).events + length es) z.log ≡ true) × AreNumbers (write_log b') × (bs ≡ bytes_of (write_log b')) = given (leb (length (let_go (floor_of l fl) b).events + length es) z.log) (write_log b') bs (sym (ap (adds_by z p.late (floor_of l fl) i tag es) e) ∙ g) in
      let n : length b.served ≡ workers = log_only old b e in
      record { reads = ap log_or r.2 ∙ log_back b' (ap length (batch_served p.late (floor_of l fl) i tag es b) ∙ served_long i tag b.served ∙ n) r.1; served = n; room = leb-true (length (let_go (floor_of l fl) b).events + length es) z.log r.0 }

  has_none : (i c s : ℕ) → 1 ≤ s → O.has [] i c s ≡ true → ⊥
  unfolding has_by log_or
  has_none i c s h e = let q : (served_of i empty_log.served).serial ≡ s = eqb-true (served_of i empty_log.served).serial s (and_parts (eqb (served_of i empty_log.served).life c) (eqb (served_of i empty_log.served).serial s) e).1 in omega (arith, h, q, ap (λ (x : Served). x.serial) (nobody_served 64 i))

  mine : (i c s : ℕ) (fl : List ℕ) (l : ℕ) (es : List Entry) (b : LogBox) → i < 64 → length b.served ≡ workers → served_of i (batched p.late (floor_of l fl) i (record { life = c; serial = s }) es b).served ≡ record { life = c; serial = s }
  mine i c s fl l es b h n = ap (served_of i) (batch_served p.late (floor_of l fl) i (record { life = c; serial = s }) es b) ∙ served_set i (record { life = c; serial = s }) b.served (omega (arith, h, n))

  has_new : (ls : List (List Entry)) (f : ℕ → Box) (n i c s l : ℕ) (fl old bs : List ℕ) (es : List Entry) → n < bound → l < logs → OldLog ls f l old → Tag n i c s → O.adds fl i c s l old es ≡ gives bs → O.has bs i c s ≡ true
  unfolding has_by
  has_new ls f n i c s l fl old bs es h hl o t e =
      let b : LogBox = (o hl).box in
      let a : Added old bs l i c s fl es b = added old bs l i c s fl es b (o hl).reads e in
      let q : served_of i (batched p.late (floor_of l fl) i (record { life = c; serial = s }) es b).served ≡ record { life = c; serial = s } = mine i c s fl l es b t.worker a.served in
      ap (λ (m : Maybe LogBox). has_by m i c s) a.reads ∙ and_from (eqb (served_of i (batched p.late (floor_of l fl) i (record { life = c; serial = s }) es b).served).life c) (eqb (served_of i (batched p.late (floor_of l fl) i (record { life = c; serial = s }) es b).served).serial s)
      (eq-eqb (served_of i (batched p.late (floor_of l fl) i (record { life = c; serial = s }) es b).served).life c (ap (λ (x : Served). x.life) q)) (eq-eqb (served_of i (batched p.late (floor_of l fl) i (record { life = c; serial = s }) es b).served).serial s (ap (λ (x : Served). x.serial) q))

  has_mine : (ls : List (List Entry)) (f : ℕ → Box) (n i c s l : ℕ) (fl old bs : List ℕ) (es : List Entry) → n < bound → l < logs → OldLog ls f l old → Tag n i c s → O.adds fl i c s l old es ≡ gives bs → (d t : ℕ) → 1 ≤ t → O.has bs i d t ≡ true → (d ≡ c) × (t ≡ s)
  unfolding has_by
  has_mine ls f n i c s l fl old bs es h hl o tg e d t ht g =
      let b : LogBox = (o hl).box in
      let a : Added old bs l i c s fl es b = added old bs l i c s fl es b (o hl).reads e in
      let x : Served = served_of i (batched p.late (floor_of l fl) i (record { life = c; serial = s }) es b).served in
      let q : x ≡ record { life = c; serial = s } = mine i c s fl l es b tg.worker a.served in
      let k : (eqb x.life d ≡ true) × (eqb x.serial t ≡ true) = and_parts (eqb x.life d) (eqb x.serial t) (sym (ap (λ (m : Maybe LogBox). has_by m i d t) a.reads) ∙ g) in
      (sym (eqb-true x.life d k.0) ∙ ap (λ (y : Served). y.life) q, sym (eqb-true x.serial t k.1) ∙ ap (λ (y : Served). y.serial) q)

  has_other : (ls : List (List Entry)) (f : ℕ → Box) (n i c s l : ℕ) (fl old bs : List ℕ) (es : List Entry) → n < bound → l < logs → OldLog ls f l old → Tag n i c s → O.adds fl i c s l old es ≡ gives bs → (j d t : ℕ) → (j ≡ i → ⊥) → O.has bs j d t ≡ O.has old j d t
  unfolding has_by
  has_other ls f n i c s l fl old bs es h hl o tg e j d t ne =
      let b : LogBox = (o hl).box in
      let a : Added old bs l i c s fl es b = added old bs l i c s fl es b (o hl).reads e in
      ap (λ (m : Maybe LogBox). has_by m j d t) a.reads ∙ ap (λ (x : Served). eqb x.life d && eqb x.serial t) (ap (served_of j) (batch_served p.late (floor_of l fl) i (record { life = c; serial = s }) es b) ∙ served_other i j (record { life = c; serial = s }) b.served ne) ∙ sym (ap (λ (m : Maybe LogBox). has_by m j d t) (o hl).reads)

  -- A BATCH
  put_one : (k : ℕ) (e : Entry) (ks : List (List Entry)) → length (put_in k e ks) ≡ length ks
  unfolding put_in
  put_one k e [] = refl
  put_one zero e (x ∷ ks) = refl
  put_one (suc k) e (x ∷ ks) = ap suc (put_one k e ks)

  put_count : (l : ℕ) (es : List Entry) (ls : List (List Entry)) → length (put_all l es ls) ≡ length ls
  unfolding put_all
  put_count l [] ls = refl
  put_count l (e ∷ es) ls = put_count l es (put_in l e ls) ∙ put_one l e ls

  same_came : (f f' : ℕ → Box) (y : Ledger) → ((t : ℕ) → t < y.pages → (f' (out_box t)).bytes ≡ (f (out_box t)).bytes) → came_in f' y ≡ came_in f y ++ []
  same_came f f' y h = ap (λ (es : List Event). es ++ y.tail) (outs_same (out_in' f) (out_in' f') y.pages (λ t i. ap (λ (bs : List ℕ). or_none (out_in bs)) (h t i))) ∙ sym (append-nil (came_in f y))

  put_ok : {n : ℕ} {ls : List (List Entry)} {f : ℕ → Box} (i c s l e : ℕ) (fl bs : List ℕ) (es : List Entry) → n < bound → Right n ls f → l < logs → Floor ls f fl → Tag n i c s → ((x : Entry) → Memᴰ x es → T (entry_ok x)) → length es ≤ 8 → O.adds fl i c s l (f (log_box l)).bytes es ≡ gives bs →
      Right (suc n) (put_all l es ls) (at (log_box l) (record { edition = e + 1; bytes = bs }) f) × Stays OldLedger OldLog Floor Spent ls f (put_all l es ls) (at (log_box l) (record { edition = e + 1; bytes = bs }) f)
  put_ok {n} {ls} {f} i c s l e fl bs es hn r hl fo tg ok few ad = (right, stays_on ls (put_all l es ls) f f' x.ledger x.ledger on (λ k y o h. let b : OldBox ls k y = o h in record { box = b.box; reads = b.reads; once = old_stays p.late l k ls es b.box b.once }))
    where
      x : Book
      x = r.book

      tag : Served
      tag = record { life = c; serial = s }

      f' : ℕ → Box
      f' = at (log_box l) (record { edition = e + 1; bytes = bs }) f

      a : Added (f (log_box l)).bytes bs l i c s fl es (x.log l)
      a = added (f (log_box l)).bytes bs l i c s fl es (x.log l) (r.log l hl) ad

      floor : floor_of l fl ≤ (taken_of l x.ledger.logs).taken
      floor = fo x.ledger r.ledger l

      other : (b : ℕ) → (b ≡ log_box l → ⊥) → f' b ≡ f b
      other b h = at_other (log_box l) b (record { edition = e + 1; bytes = bs }) f h

      log : (k : ℕ) → k < logs → log_or (f' (log_box k)).bytes ≡ just (set_log l (batched p.late (floor_of l fl) i tag es (x.log l)) x.log k)
      log k h = go (eqb k l) refl
        where
          go : (t : Bool) → eqb k l ≡ t → log_or (f' (log_box k)).bytes ≡ just (cond (eqb k l) (batched p.late (floor_of l fl) i tag es (x.log l)) (x.log k))
          go true t = rw t (ap (λ (j : ℕ). log_or (f' (log_box j)).bytes) (eqb-true k l t) ∙ ap (λ (y : Box). log_or y.bytes) (at_here (log_box l) (record { edition = e + 1; bytes = bs }) f) ∙ a.reads)
          go false t = rw t (ap (λ (y : Box). log_or y.bytes) (other (log_box k) (λ (q : log_box k ≡ log_box l). Rattle.std.proofs.lemmas.Bool.eqb-false k l t (omega arith))) ∙ r.log k h)

      zero_other : f' 0 ≡ f 0
      zero_other = other 0 (λ (q : 0 ≡ log_box l). omega arith)

      row_other : (k : ℕ) → f' (row_box k) ≡ f (row_box k)
      row_other k = other (row_box k) (λ (q : row_box k ≡ log_box l). omega arith)

      out_other : (t : ℕ) → f' (out_box t) ≡ f (out_box t)
      out_other t = other (out_box t) (λ (q : out_box t ≡ log_box l). omega arith)

      right : Right (suc n) (put_all l es ls) f'
      right =
          record {
            book = put_batch p l (floor_of l fl) i tag es x;
            sound = sound_batch z p ls x l (floor_of l fl) i tag es r.sound (omega (arith, hl, r.count)) floor;
            within = L.batch l (floor_of l fl) i c s es hn r.sound r.within hl floor tg ok few a.room;
            count = put_count l es ls ∙ r.count;
            ledger = ap (λ (y : Box). ledger_or logs y.bytes) zero_other ∙ r.ledger;
            log = log;
            row = λ k h. subst (λ (y : Box). (1 ≤ y.edition) × (page_in y.bytes ≡ just (x.row k))) (sym (row_other k)) (r.row k h);
            out = λ t h. subst (λ (y : Box). (1 ≤ y.edition) × (out_in y.bytes ≡ just (x.out t))) (sym (out_other t)) (r.out t h);
          }

      on : On f f' x.ledger x.ledger
      on = record { is = r.ledger; is' = ap (λ (y : Box). ledger_or logs y.bytes) zero_other ∙ r.ledger; taken = λ k. omega arith; next = omega arith; pages = omega arith; outs = λ t h. ap (λ (y : Box). y.bytes) (out_other t); more = ([], same_came f f' x.ledger (λ t h. ap (λ (y : Box). y.bytes) (out_other t))) }

  -- A PAGE
  page_ok : {n : ℕ} {ls : List (List Entry)} {f : ℕ → Box} (x : List ℕ) (a : Filling) → n < bound → Right n ls f → Now f (O.due (f 0).bytes) x → Memᴰ a (O.pages (f 0).bytes x) → (f a.box).edition ≡ 0 →
      Right (suc n) ls (at a.box (record { edition = 1; bytes = a.bytes }) f) × Stays OldLedger OldLog Floor Spent ls f ls (at a.box (record { edition = 1; bytes = a.bytes }) f)
  page_ok {n} {ls} {f} x a hn r nw m ed = (right, stays_on ls ls f f' y.ledger y.ledger on (λ k v o. o))
    where
      y : Book
      y = r.book

      d : Doing n ls f r x
      d = doing n ls f r x nw

      g : Called (turn_of z p d.task y) a
      g = called n ls f r x d a m

      f' : ℕ → Box
      f' = at a.box (record { edition = 1; bytes = a.bytes }) f

      other : (b : ℕ) → (b ≡ a.box → ⊥) → f' b ≡ f b
      other b h = at_other a.box b (record { edition = 1; bytes = a.bytes }) f h

      is_page : IsPage a.box
      is_page = called_page (turn_of z p d.task y) a g

      new : Page' y.ledger a.box → ⊥
      new = called_new y.ledger (turn_of z p d.task y) a (moves y d.task) g

      zero_other : f' 0 ≡ f 0
      zero_other = other 0 (λ (q : 0 ≡ a.box). is_page.0 (sym q))

      log_other : (l : ℕ) → f' (log_box l) ≡ f (log_box l)
      log_other l = other (log_box l) (λ (q : log_box l ≡ a.box). is_page.1 l (sym q))

      row_other : (k : ℕ) → k < y.ledger.queue.next → f' (row_box k) ≡ f (row_box k)
      row_other k h = other (row_box k) (λ (q : row_box k ≡ a.box). new (inl (k, h, sym q)))

      out_other : (t : ℕ) → t < y.ledger.pages → f' (out_box t) ≡ f (out_box t)
      out_other t h = other (out_box t) (λ (q : out_box t ≡ a.box). new (inr (t, h, sym q)))

      right : Right (suc n) ls f'
      right =
          record {
            book = y;
            sound = r.sound;
            within = L.later r.within;
            count = r.count;
            ledger = ap (λ (b : Box). ledger_or logs b.bytes) zero_other ∙ r.ledger;
            log = λ l h. ap (λ (b : Box). log_or b.bytes) (log_other l) ∙ r.log l h;
            row = λ k h. subst (λ (b : Box). (1 ≤ b.edition) × (page_in b.bytes ≡ just (y.row k))) (sym (row_other k h)) (r.row k h);
            out = λ t h. subst (λ (b : Box). (1 ≤ b.edition) × (out_in b.bytes ≡ just (y.out t))) (sym (out_other t h)) (r.out t h);
          }

      on : On f f' y.ledger y.ledger
      on = record { is = r.ledger; is' = ap (λ (b : Box). ledger_or logs b.bytes) zero_other ∙ r.ledger; taken = λ k. omega arith; next = omega arith; pages = omega arith; outs = λ t h. ap (λ (b : Box). b.bytes) (out_other t h); more = ([], same_came f f' y.ledger (λ t h. ap (λ (b : Box). b.bytes) (out_other t h))) }

  -- THE LEDGER filled with that of a later book, whose new pages are there
  record Refill (n m : ℕ) (ls : List (List Entry)) (f : ℕ → Box) (r : Right n ls f) (bs : List ℕ) (y : Book) : Type 0 where
    sound : SoundBook z p ls y
    within : Within m ls y
    grows : Grows r.book y
    reads : ledger_or logs bs ≡ just y.ledger
    log : (l : ℕ) → y.log l ≡ r.book.log l
    row : (k : ℕ) → r.book.ledger.queue.next ≤ k → k < y.ledger.queue.next → (1 ≤ (f (row_box k)).edition) × (page_in (f (row_box k)).bytes ≡ just (y.row k))
    out : (t : ℕ) → r.book.ledger.pages ≤ t → t < y.ledger.pages → (1 ≤ (f (out_box t)).edition) × (out_in (f (out_box t)).bytes ≡ just (y.out t))

  refilled : (n m : ℕ) (ls : List (List Entry)) (f : ℕ → Box) (r : Right n ls f) (bs : List ℕ) (y : Book) (e : ℕ) → Refill n m ls f r bs y →
      Right m ls (at 0 (record { edition = e + 1; bytes = bs }) f) × Stays OldLedger OldLog Floor Spent ls f ls (at 0 (record { edition = e + 1; bytes = bs }) f)
  refilled n m ls f r bs y e g = (right, stays_on ls ls f f' x.ledger y.ledger on (λ k v o. o))
    where
      x : Book
      x = r.book

      f' : ℕ → Box
      f' = at 0 (record { edition = e + 1; bytes = bs }) f

      other : (b : ℕ) → (b ≡ 0 → ⊥) → f' b ≡ f b
      other b h = at_other 0 b (record { edition = e + 1; bytes = bs }) f h

      here : ledger_or logs (f' 0).bytes ≡ just y.ledger
      here = ap (λ (b : Box). ledger_or logs b.bytes) (at_here 0 (record { edition = e + 1; bytes = bs }) f) ∙ g.reads

      row_other : (k : ℕ) → f' (row_box k) ≡ f (row_box k)
      row_other k = other (row_box k) (λ (q : row_box k ≡ 0). omega arith)

      out_other : (t : ℕ) → f' (out_box t) ≡ f (out_box t)
      out_other t = other (out_box t) (λ (q : out_box t ≡ 0). omega arith)

      row : (k : ℕ) → k < y.ledger.queue.next → (1 ≤ (f (row_box k)).edition) × (page_in (f (row_box k)).bytes ≡ just (y.row k))
      row k h = go (ltb k x.ledger.queue.next) refl
        where
          go : (b : Bool) → ltb k x.ledger.queue.next ≡ b → (1 ≤ (f (row_box k)).edition) × (page_in (f (row_box k)).bytes ≡ just (y.row k))
          go true t = let i : k < x.ledger.queue.next = Rattle.std.proofs.lemmas.Bool.ltb-true k x.ledger.queue.next t in ((r.row k i).0, (r.row k i).1 ∙ ap just (sym (g.grows.row k i)))
          go false t = g.row k (Rattle.std.proofs.lemmas.Bool.ltb-false k x.ledger.queue.next t) h

      out : (t : ℕ) → t < y.ledger.pages → (1 ≤ (f (out_box t)).edition) × (out_in (f (out_box t)).bytes ≡ just (y.out t))
      out t h = go (ltb t x.ledger.pages) refl
        where
          go : (b : Bool) → ltb t x.ledger.pages ≡ b → (1 ≤ (f (out_box t)).edition) × (out_in (f (out_box t)).bytes ≡ just (y.out t))
          go true u = let i : t < x.ledger.pages = Rattle.std.proofs.lemmas.Bool.ltb-true t x.ledger.pages u in ((r.out t i).0, (r.out t i).1 ∙ ap just (sym (g.grows.out t i)))
          go false u = g.out t (Rattle.std.proofs.lemmas.Bool.ltb-false t x.ledger.pages u) h

      right : Right m ls f'
      right =
          record {
            book = y;
            sound = g.sound;
            within = g.within;
            count = r.count;
            ledger = here;
            log = λ l h. ap (λ (b : Box). log_or b.bytes) (other (log_box l) (λ (q : log_box l ≡ 0). omega arith)) ∙ r.log l h ∙ ap just (sym (g.log l));
            row = λ k h. subst (λ (b : Box). (1 ≤ b.edition) × (page_in b.bytes ≡ just (y.row k))) (sym (row_other k)) (row k h);
            out = λ t h. subst (λ (b : Box). (1 ≤ b.edition) × (out_in b.bytes ≡ just (y.out t))) (sym (out_other t)) (out t h);
          }

      on : On f f' x.ledger y.ledger
      on = record {
        is = r.ledger;
        is' = here;
        taken = g.grows.taken;
        next = g.grows.next;
        pages = g.grows.pages;
        outs = λ t h. ap (λ (b : Box). b.bytes) (out_other t);
        more = (g.grows.more.0, came_is m ls f' right ∙ g.grows.more.1 ∙ ap (λ (es : List Event). es ++ g.grows.more.0) (sym (came_is n ls f r)));
      }

  same_ok : {n : ℕ} {ls : List (List Entry)} {f : ℕ → Box} (e : ℕ) → Right n ls f → Right n ls (at 0 (record { edition = e + 1; bytes = (f 0).bytes }) f) × Stays OldLedger OldLog Floor Spent ls f ls (at 0 (record { edition = e + 1; bytes = (f 0).bytes }) f)
  same_ok {n} {ls} {f} e r = refilled n n ls f r (f 0).bytes r.book e (record { sound = r.sound; within = r.within; grows = always_grows z p r.book r.book itself; reads = r.ledger; log = λ l. refl; row = λ k a b. absurd (omega arith); out = λ t a b. absurd (omega arith) })

  -- TAKING
  not_false : (b : Bool) → not b ≡ true → b ≡ false
  not_false b e = not-true b e

  take_ok : {n : ℕ} {ls : List (List Entry)} {f : ℕ → Box} (e l : ℕ) (x y : List ℕ) → n < bound → Right n ls f → O.due (f 0).bytes ≡ Rattle.book.specs.Interface.nothing → l < logs → OldLog ls f l x → O.take (f 0).bytes l x ≡ gives y →
      Right n ls (at 0 (record { edition = e + 1; bytes = y }) f) × Stays OldLedger OldLog Floor Spent ls f ls (at 0 (record { edition = e + 1; bytes = y }) f)
  unfolding take_by
  take_ok {n} {ls} {f} e l x y hn r du hl ol tk = refilled n n ls f r y (take_into z p l b v) e (record {
    sound = sound_take z p ls v l b fine r.sound (omega (arith, hl, r.count)) o.once new;
    within = L.take l b hn r.sound r.within rest hl o.once new;
    grows = gr;
    reads = ap (ledger_or logs) g.2 ∙ ledger_back logs (took z p.stages l b v.ledger) g.1;
    log = λ k. refl;
    row = λ k i j. absurd (omega (arith, i, j, gr_next));
    out = λ t i j. absurd (omega (arith, i, j));
  })
    where
      v : Book
      v = r.book

      o : OldBox ls l x
      o = ol hl

      b : LogBox
      b = o.box

      g : (not (is_old l b v.ledger) ≡ true) × AreNumbers (write_ledger (took z p.stages l b v.ledger)) × (y ≡ bytes_of (write_ledger (took z p.stages l b v.ledger)))
      g = given (not (is_old l b v.ledger)) (write_ledger (took z p.stages l b v.ledger)) y (sym (ap (λ (m : Maybe LogBox). take_by z p l m (ledger_or logs (f 0).bytes)) o.reads ∙ ap (take_by z p l (just b)) r.ledger) ∙ tk)

      new : is_old l b v.ledger ≡ false
      new = not_false (is_old l b v.ledger) g.0

      rest : wanted z p.late v.ledger ≡ Rest
      rest = calls_none (wanted z p.late v.ledger) v.ledger (sym (due_is (f 0).bytes v.ledger r.ledger) ∙ du)

      gr : Grows v (take_into z p l b v)
      gr = always_grows z p v (take_into z p l b v) (takes l b itself rest)

      gr_next : (take_into z p l b v).ledger.queue.next ≡ v.ledger.queue.next
      gr_next = Rattle.book.proofs.Numbers.took_next z p.stages (Rattle.book.specs.Ledger.new_events b (taken_of l v.ledger.logs)) (taken_of l v.ledger.logs).taken v.ledger.queue

  -- A STEP, read back from the boxes with its pages filled
  pub record Stepped (n : ℕ) (ls : List (List Entry)) (f : ℕ → Box) (r : Right n ls f) (x : List ℕ) (k : Task) : Type 0 where
    pub reads : ledger_or logs (O.after (f 0).bytes x) ≡ just (turn_of z p k r.book).ledger
    pub row : (j : ℕ) → r.book.ledger.queue.next ≤ j → j < (turn_of z p k r.book).ledger.queue.next → (1 ≤ (f (row_box j)).edition) × (page_in (f (row_box j)).bytes ≡ just (written (turn_of z p k r.book).rows r.book.row j))
    pub out : (j : ℕ) → r.book.ledger.pages ≤ j → j < (turn_of z p k r.book).ledger.pages → (1 ≤ (f (out_box j)).edition) × (out_in (f (out_box j)).bytes ≡ just (out_written (turn_of z p k r.book).outs r.book.out j))

  pub after_reads : (n : ℕ) (ls : List (List Entry)) (f : ℕ → Box) (r : Right n ls f) (x : List ℕ) → n < bound → (d : Doing n ls f r x) → ledger_or logs (O.after (f 0).bytes x) ≡ just (turn_of z p d.task r.book).ledger
  after_reads n ls f r x hn d =
      ap (ledger_or logs) (after_is (f 0).bytes x r.book.ledger r.ledger ∙ ap (λ (w : Turn). bytes_of (write_ledger w.ledger)) d.is) ∙ ledger_back logs (turn_of z p d.task r.book).ledger (L.ledger_words d.task hn r.sound r.within d.want)

  pub stepped : (n : ℕ) (ls : List (List Entry)) (f : ℕ → Box) (r : Right n ls f) (x : List ℕ) → n < bound → (d : Doing n ls f r x) → ((a : Filling) → Memᴰ a (O.pages (f 0).bytes x) → (1 ≤ (f a.box).edition) × ((f a.box).bytes ≡ a.bytes)) → Stepped n ls f r x d.task
  stepped n ls f r x hn d there = record { reads = after_reads n ls f r x hn d; row = row; out = out }
    where
      v : Book
      v = r.book

      k : Task
      k = d.task

      t : Turn
      t = turn_of z p k v

      mv : Moves v.ledger t
      mv = moves v k

      mem : (a : Filling) → Among a (row_fillings t.rows ++ out_fillings t.outs) → Memᴰ a (O.pages (f 0).bytes x)
      mem a h = among_mem a (O.pages (f 0).bytes x) (subst (Among a) (sym (pages_are (f 0).bytes x v.ledger r.ledger ∙ ap (λ (w : Turn). row_fillings w.rows ++ out_fillings w.outs) d.is)) h)

      row : (j : ℕ) → v.ledger.queue.next ≤ j → j < t.ledger.queue.next → (1 ≤ (f (row_box j)).edition) × (page_in (f (row_box j)).bytes ≡ just (written t.rows v.row j))
      row j a b = go (find_row v.ledger.queue.next t.rows v.row j mv.rows a (omega (arith, b, mv.next)))
        where
          go : (w : Write) × Among w t.rows × (w.number ≡ j) × (written t.rows v.row j ≡ w.content) → (1 ≤ (f (row_box j)).edition) × (page_in (f (row_box j)).bytes ≡ just (written t.rows v.row j))
          go (w, i, q, c) =
              let h : (1 ≤ (f (row_box w.number)).edition) × ((f (row_box w.number)).bytes ≡ bytes_of (write_page w.content)) = there (row_filling w) (mem (row_filling w) (filled_row w t.rows (out_fillings t.outs) i)) in
              let u : AreNumbers (write_page w.content) × Filled w.content = L.page_words k w hn r.sound r.within d.want i in
              subst (λ (s : ℕ). (1 ≤ (f (row_box s)).edition) × (page_in (f (row_box s)).bytes ≡ just (written t.rows v.row j))) q (h.0, ap page_in h.1 ∙ reads_back.2.back w.content u.1 u.0 ∙ ap just (sym c))

      out : (j : ℕ) → v.ledger.pages ≤ j → j < t.ledger.pages → (1 ≤ (f (out_box j)).edition) × (out_in (f (out_box j)).bytes ≡ just (out_written t.outs v.out j))
      out j a b = go (find_out v.ledger.pages t.outs v.out j mv.outs a (omega (arith, b, mv.pages)))
        where
          go : (w : OutWrite) × Among w t.outs × (w.number ≡ j) × (out_written t.outs v.out j ≡ w.events) → (1 ≤ (f (out_box j)).edition) × (out_in (f (out_box j)).bytes ≡ just (out_written t.outs v.out j))
          go (w, i, q, c) =
              let h : (1 ≤ (f (out_box w.number)).edition) × ((f (out_box w.number)).bytes ≡ bytes_of (write_out w.events)) = there (out_filling w) (mem (out_filling w) (filled_out w t.rows t.outs i)) in
              subst (λ (s : ℕ). (1 ≤ (f (out_box s)).edition) × (out_in (f (out_box s)).bytes ≡ just (out_written t.outs v.out j))) q (h.0, ap out_in h.1 ∙ reads_back.3.back w.events tt (L.out_words k w hn r.sound r.within d.want i) ∙ ap just (sym c))

  step_ok : {n : ℕ} {ls : List (List Entry)} {f : ℕ → Box} (e : ℕ) (x : List ℕ) → n < bound → Right n ls f → Now f (O.due (f 0).bytes) x → ((a : Filling) → Memᴰ a (O.pages (f 0).bytes x) → (1 ≤ (f a.box).edition) × ((f a.box).bytes ≡ a.bytes)) →
      Right (suc n) ls (at 0 (record { edition = e + 1; bytes = O.after (f 0).bytes x }) f) × Stays OldLedger OldLog Floor Spent ls f ls (at 0 (record { edition = e + 1; bytes = O.after (f 0).bytes x }) f) × ((a : Filling) → Memᴰ a (O.pages (f 0).bytes x) → Spent (O.after (f 0).bytes x) a.box)
  step_ok {n} {ls} {f} e x hn r nw there = (both.0, both.1, λ a m. (y.ledger, s.reads, spent a (called n ls f r x d a m)))
    where
      v : Book
      v = r.book

      d : Doing n ls f r x
      d = doing n ls f r x nw

      k : Task
      k = d.task

      t : Turn
      t = turn_of z p k v

      y : Book
      y = after_turn t v

      mv : Moves v.ledger t
      mv = moves v k

      s : Stepped n ls f r x k
      s = stepped n ls f r x hn d there

      both : Right (suc n) ls (at 0 (record { edition = e + 1; bytes = O.after (f 0).bytes x }) f) × Stays OldLedger OldLog Floor Spent ls f ls (at 0 (record { edition = e + 1; bytes = O.after (f 0).bytes x }) f)
      both = refilled n (suc n) ls f r (O.after (f 0).bytes x) y e (record { sound = sound_turn z zo p fine ls v k r.sound d.want; within = L.turn k hn r.sound r.within d.want; grows = always_grows z p v y (turn k itself d.want); reads = s.reads; log = λ l. refl; row = s.row; out = s.out })

      spent : (a : Filling) → Called t a → Page' t.ledger a.box
      spent a (a_row w i q) = inl (w.number, omega (arith, (among_numbers v.ledger.queue.next t.rows w mv.rows i).1, mv.next), ap (λ (s : Filling). s.box) q)
      spent a (an_out w i q) = inr (w.number, omega (arith, (among_outs v.ledger.pages t.outs w mv.outs i).1, mv.pages), ap (λ (s : Filling). s.box) q)

  -- WHAT CAME OUT
  pub pages_full : (n : ℕ) (ls : List (List Entry)) (f : ℕ → Box) (r : Right n ls f) (t : ℕ) → t < r.book.ledger.pages → length (out_in' f t) ≡ z.outs
  unfolding or_none
  pages_full n ls f r t h = ap (λ (m : Maybe (List Event)). length (or_none m)) (r.out t h).1 ∙ r.sound.full t h

  old_pages : (n : ℕ) (ls : List (List Entry)) (f : ℕ → Box) (r : Right n ls f) (x : List ℕ) (a : Old f x) → a.old.pages ≤ r.book.ledger.pages
  old_pages n ls f r x a = omega (arith, a.pages, ap (λ (y : Ledger). y.pages) (just_same a.now r.book.ledger (sym a.is ∙ r.ledger)))

  pub in_page : (from : ℕ) (got : List Event) (n : ℕ) → from + length got < n * z.outs → (from + length got) / z.outs < n
  in_page from got n h = let q : (from + length got) / z.outs * z.outs + (from + length got) % z.outs ≡ from + length got = div-add-mod' (from + length got) z.outs in lt_of_mul-lt-mul_right z.outs (omega (arith, q, h))

  answer_spent : {n : ℕ} {ls : List (List Entry)} {f : ℕ → Box} → Right n ls f → (from most : ℕ) (x : List ℕ) (got : List Event) (b : ℕ) → Old f x → O.answer from most x got ≡ Rattle.book.specs.Interface.page b → Spent (f 0).bytes b
  answer_spent {n} {ls} {f} r from most x got b a e =
      let q : (from + length got < a.old.pages * z.outs) × (b ≡ out_box ((from + length got) / z.outs)) = answer_tells from most a.old got b (sym (ap (λ (m : Maybe Ledger). answer_by z from most m got) a.reads) ∙ e) in
      (r.book.ledger, r.ledger, inr ((from + length got) / z.outs, omega (arith, in_page from got a.old.pages q.0, old_pages n ls f r x a), q.1))

  -- what was gathered is what came out, from there on
  gathered : (n : ℕ) (ls : List (List Entry)) (f : ℕ → Box) (r : Right n ls f) (from most : ℕ) (x : List ℕ) (a : Old f x) (got : List Event) → Gathered O (λ b y. Spent (f 0).bytes b × ((f b).bytes ≡ y)) from most x got → drop_of from (came_in f a.old) ≡ got ++ drop_of (from + length got) (came_in f a.old)
  gathered n ls f r from most x a got no_page = ap (λ (m : ℕ). drop_of m (came_in f a.old)) (omega arith)
  gathered n ls f r from most x a got (one_page {got = had} b y g e m) =
      gathered n ls f r from most x a had g ∙ ap (λ (es : List Event). had ++ es) part ∙ sym (append_assoc had new (drop_of (from + length had + length new) (came_in f a.old)))
      ∙ ap (λ (k : ℕ). (had ++ new) ++ drop_of k (came_in f a.old)) (omega (arith, length-append had new))
    where
      pos : ℕ
      pos = from + length had

      q : (from + length had < a.old.pages * z.outs) × (b ≡ out_box ((from + length had) / z.outs))
      q = answer_tells from most a.old had b (sym (ap (λ (w : Maybe Ledger). answer_by z from most w had) a.reads) ∙ e)

      new : List Event
      new = drop_of (pos % z.outs) (or_none (out_in y))

      same : or_none (out_in y) ≡ out_in' f (pos / z.outs)
      same = ap (λ (bs : List ℕ). or_none (out_in bs)) (sym m.1 ∙ ap (λ (c : ℕ). (f c).bytes) q.1)

      part : drop_of pos (came_in f a.old) ≡ new ++ drop_of (pos + length new) (came_in f a.old)
      part = page_part (out_in' f) z.outs a.old.pages pos a.old.tail zo.4 (λ t h. pages_full n ls f r t (omega (arith, h, old_pages n ls f r x a))) (in_page from had a.old.pages q.0) ∙ ap (λ (es : List Event). drop_of (pos % z.outs) es ++ drop_of (pos + length (drop_of (pos % z.outs) es)) (came_in f a.old)) (sym same)

  reply_tells : (from most : ℕ) (x : Ledger) (got es : List Event) → answer_by z from most (just x) got ≡ reply es → (es ≡ first_of most (got ++ drop_of (less_by (x.pages * z.outs) (from + length got)) x.tail)) × ((most ≤ length got) ⊎ (x.pages * z.outs ≤ from + length got))
  unfolding answer_by
  reply_tells from most x got es e = go (ltb (length got) most) refl (ltb (from + length got) (x.pages * z.outs)) refl e
    where
      pos : ℕ
      pos = from + length got

      all : ℕ
      all = x.pages * z.outs

      go : (c : Bool) → ltb (length got) most ≡ c → (d : Bool) → ltb pos all ≡ d → cond (c && d) (Rattle.book.specs.Interface.page (out_box (pos / z.outs))) (reply (first_of most (got ++ drop_of (less_by all pos) x.tail))) ≡ reply es → (es ≡ first_of most (got ++ drop_of (less_by all pos) x.tail)) × ((most ≤ length got) ⊎ (all ≤ pos))
      go true t true u q = absurd (let i : ◌≡◌ {A = ℕ} 0 1 = cc in omega arith)
      go true t false u q = (cc, inr (Rattle.std.proofs.lemmas.Bool.ltb-false pos all u))
      go false t true u q = (cc, inl (Rattle.std.proofs.lemmas.Bool.ltb-false (length got) most t))
      go false t false u q = (cc, inl (Rattle.std.proofs.lemmas.Bool.ltb-false (length got) most t))

  -- an answer is what had come out by its ledger, from there on
  answer_is : (n : ℕ) (ls : List (List Entry)) (f : ℕ → Box) (r : Right n ls f) (from most : ℕ) (x : List ℕ) (got es : List Event) (a : Old f x) → Gathered O (λ b y. Spent (f 0).bytes b × ((f b).bytes ≡ y)) from most x got → O.answer from most x got ≡ reply es → es ≡ first_of most (drop_of from (came_in f a.old))
  answer_is n ls f r from most x got es a g e = t.0 ∙ by t.1
    where
      o : List Event
      o = came_in f a.old

      w : Ledger
      w = a.old

      t : (es ≡ first_of most (got ++ drop_of (less_by (w.pages * z.outs) (from + length got)) w.tail)) × ((most ≤ length got) ⊎ (w.pages * z.outs ≤ from + length got))
      t = reply_tells from most w got es (sym (ap (λ (m : Maybe Ledger). answer_by z from most m got) a.reads) ∙ e)

      had : drop_of from o ≡ got ++ drop_of (from + length got) o
      had = gathered n ls f r from most x a got g

      long : length (outs_of (out_in' f) w.pages) ≡ w.pages * z.outs
      long = outs_long (out_in' f) z.outs w.pages (λ i h. pages_full n ls f r i (omega (arith, h, old_pages n ls f r x a)))

      tail : w.pages * z.outs ≤ from + length got → drop_of (from + length got) o ≡ drop_of (less_by (w.pages * z.outs) (from + length got)) w.tail
      tail h = ap (λ (m : ℕ). drop_of m o) (omega (arith, h, long, less_by_is (w.pages * z.outs) (from + length got))) ∙ drop_past (outs_of (out_in' f) w.pages) w.tail (less_by (w.pages * z.outs) (from + length got))

      by : (most ≤ length got) ⊎ (w.pages * z.outs ≤ from + length got) → first_of most (got ++ drop_of (less_by (w.pages * z.outs) (from + length got)) w.tail) ≡ first_of most (drop_of from o)
      by (inl h) = first_append most got (drop_of (less_by (w.pages * z.outs) (from + length got)) w.tail) h ∙ sym (first_append most got (drop_of (from + length got) o) h) ∙ ap (first_of most) (sym had)
      by (inr h) = ap (λ (xs : List Event). first_of most (got ++ xs)) (sym (tail h)) ∙ ap (first_of most) (sym had)

  answer_ok : {n : ℕ} {ls : List (List Entry)} {f : ℕ → Box} (from most : ℕ) (x : List ℕ) (got es : List Event) → Right n ls f → Old f x → Gathered O (λ b y. Spent (f 0).bytes b × ((f b).bytes ≡ y)) from most x got → O.answer from most x got ≡ reply es →
      (j : ℕ) × (j ≤ most) × (es ≡ first_of j (drop_of from (out p ls)))
  answer_ok {n} {ls} {f} from most x got es r a g e = (length (first_of most (drop_of from o)), parts.0, answer_is n ls f r from most x got es a g e ∙ parts.1 ∙ ap (first_of (length (first_of most (drop_of from o)))) (sym (drop_append from o more) ∙ ap (drop_of from) (sym whole)))
    where
      o : List Event
      o = came_in f a.old

      fst : (m : List Event) × (out p ls ≡ came_out r.book ++ m)
      fst = first_of_out z p fine ls r.book r.sound

      more : List Event
      more = a.more.0 ++ fst.0

      whole : out p ls ≡ o ++ more
      whole = fst.1 ∙ ap (λ (xs : List Event). xs ++ fst.0) (sym (came_is n ls f r) ∙ ap (came_in f) (sym (just_same a.now r.book.ledger (sym a.is ∙ r.ledger))) ∙ a.more.1) ∙ append_assoc o a.more.0 fst.0

      parts : (length (first_of most (drop_of from o)) ≤ most) × (first_of most (drop_of from o) ≡ first_of (length (first_of most (drop_of from o))) (drop_of from o ++ drop_of (from - length o) more))
      parts = first_of_more most (drop_of from o) (drop_of (from - length o) more)

  -- with nothing due and all taken, it is all there is
  pub answers_all : (n : ℕ) (ls : List (List Entry)) (f : ℕ → Box) (r : Right n ls f) → O.due (f 0).bytes ≡ Rattle.book.specs.Interface.nothing → AllTaken p.late ls r.book.ledger.logs → (from most : ℕ) (got es : List Event) → Gathered O (λ b y. Spent (f 0).bytes b × ((f b).bytes ≡ y)) from most (f 0).bytes got → O.answer from most (f 0).bytes got ≡ reply es →
      es ≡ first_of most (drop_of from (out p ls))
  unfolding ledger_now
  answers_all n ls f r d t from most got es g e =
      answer_is n ls f r from most (f 0).bytes got es (ledger_now r) g e ∙ ap (λ (os : List Event). first_of most (drop_of from os)) (came_is n ls f r ∙ all_out z p ls r.book r.sound t (calls_none (wanted z p.late r.book.ledger) r.book.ledger (sym (due_is (f 0).bytes r.book.ledger r.ledger) ∙ d)))

  pub laws : Laws (real z p logs) p logs bound Right OldLedger OldLog Floor Spent
  laws = record {
    ledger_now = ledger_now;
    log_now = log_now;
    floor_none = floor_none;
    floor_raise = floor_raise;
    starts = starts;
    later = later';
    due_page = due_page;
    pages_page = pages_page;
    answer_page = answer_page;
    pages_one = pages_one;
    spent_filled = spent_filled;
    due_spent = due_spent;
    pages_new = pages_new;
    answer_spent = answer_spent;
    has_none = has_none;
    has_new = has_new;
    has_mine = has_mine;
    has_other = has_other;
    put_ok = put_ok;
    page_ok = page_ok;
    step_ok = step_ok;
    same_ok = same_ok;
    take_ok = take_ok;
    answer_ok = answer_ok;
  }
