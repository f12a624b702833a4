-- What is left to do, by the boxes as they are: never more than so much, and less with every step and every take that changes something.
use Rattle.std.proofs.Common.{◌≡◌, ℕ, suc, ◌+◌, ◌*◌, ◌<◌, ◌≤◌, Bool, true, false, not, ◌||◌, T, eqb, ltb, ◌⊎◌, List, [], ◌∷◌, length, sym, refl, ap, ◌∙◌, subst, inl, inr, mul-le-mul, arith}
use mathlib.Core.List.{Memᴰ}
use Rattle.std.proofs.lemmas.Bool.{eqb-true}
use Rattle.streams.specs.Meaning.{Entry, Plan}
use Rattle.streams.specs.Calls.{plan_ok}
use Rattle.streams.specs.Hands.{Box, at}
use Rattle.book.specs.Queue.{Link, nil, page, Page, Pages, Write, written, page_of}
use Rattle.book.specs.Ledger.{LogBox, Taken, taken_of, set_at, Ledger, take_events, new_events, took_to, took, is_old, log_box, row_box, Rest, Want, wanted, Turn, Task, does, shows_of}
use Rattle.book.specs.Book.{Book, LogRight, taken_events, came_out, SoundBook, PlanFine, take_into, turn_of, after_turn, HeldOnce, log_of}
use Rattle.book.specs.Numbers.{Among, Numbered, Moves}
use Rattle.book.specs.Words.{Maybe, just, bytes_of, AreNumbers, write_ledger, page_in}
use Rattle.book.specs.Small.{LogsFit, total}
use Rattle.book.specs.Limits.{Limits, longest}
use Rattle.book.specs.Levels.{Within}
use Rattle.book.specs.Interface.{gives, nothing, Filling, Ops, Now}
use Rattle.book.specs.Right.{Right, Spent}
use Rattle.book.specs.Real.{sizes, log_or, ledger_or, real, take_by, are_other}
use Rattle.book.specs.Work.{left_of, takes_left, unfilled, most_due, most_work}
use Rattle.book.proofs.Book.{sound_take, logs_long, logs_at, set_same}
use Rattle.book.proofs.Numbers.{one_number, took_next, turn_logs, took_more, written_numbered}
use Rattle.book.proofs.Ends.{Marked, Sinks, mark_turn, marked, taken_set}
use Rattle.book.proofs.Limits.{taken_total}
use Rattle.book.proofs.Real.{just_same, find_row, given, bytes_some, calls_none, shown_below}
use Rattle.book.proofs.Safe.{at_here, at_other, ledger_back, due_is, after_is, Doing, doing, Stepped, stepped, moves, laws}
use Rattle.book.proofs.Laws.{plan_small, plan_fine, sizes_ok, sizes_small, all_limits, not_old}
use Rattle.book.proofs.Work.{due_few, work_few, work_less, takes_few, takes_set, left_most, left_less, took_none}
use Rattle.book.proofs.Words.{reads_back}

filled_none : (bs : List ℕ) → 1 ≤ length bs → unfilled bs ≡ 0
filled_none [] h = absurd (omega arith)
filled_none (b ∷ bs) h = refl

unfilled_few : (bs : List ℕ) → unfilled bs ≤ 1
unfilled_few [] = omega arith
unfilled_few (b ∷ bs) = omega arith

-- a page that a step writes is the same whatever was there
written_any : (n : ℕ) (ws : List Write) (f g : Pages) (j : ℕ) → Numbered n ws → n ≤ j → j < n + length ws → written ws f j ≡ written ws g j
written_any n ws f g j m a b =
    let x : (w : Write) × Among w ws × (w.number ≡ j) × (written ws f j ≡ w.content) = find_row n ws f j m a b in
    let y : (w : Write) × Among w ws × (w.number ≡ j) × (written ws g j ≡ w.content) = find_row n ws g j m a b in
    x.3 ∙ ap (λ (w : Write). w.content) (one_number n ws x.0 y.0 m x.1 y.1 (x.2 ∙ sym y.2)) ∙ sym y.3

pub differs_not : (x y : List ℕ) → are_other x y ≡ false → x ≡ y
unfolding are_other
differs_not [] [] e = refl
differs_not [] (b ∷ y) e = absurd (let k : ◌≡◌ {A = ℕ} 0 1 = cc in omega arith)
differs_not (a ∷ x) [] e = absurd (let k : ◌≡◌ {A = ℕ} 0 1 = cc in omega arith)
differs_not (a ∷ x) (b ∷ y) e = go (eqb a b) refl e (differs_not x y)
  where
    go : (c : Bool) → eqb a b ≡ c → (not c || are_other x y) ≡ false → (are_other x y ≡ false → x ≡ y) → a ∷ x ≡ b ∷ y
    go true k m ih = ap (λ (n : ℕ). n ∷ x) (eqb-true a b k) ∙ ap (λ (l : List ℕ). b ∷ l) (ih m)
    go false k m ih = absurd (let i : ◌≡◌ {A = ℕ} 0 1 = cc in omega arith)

differs_self : (x : List ℕ) → are_other x x ≡ true → ⊥
unfolding are_other
differs_self [] e = let k : ◌≡◌ {A = ℕ} 0 1 = cc in omega arith
differs_self (a ∷ x) e = differs_self x (subst (λ (c : Bool). (not c || are_other x x) ≡ true) (Rattle.std.proofs.lemmas.Bool.eq-eqb a a refl) e)

module _ (p : Plan) (ok : T (plan_ok p)) (logs : ℕ) (hl : logs ≤ 256) where
  abbrev pub O : Ops
  O = real sizes p logs

  abbrev pub R : ℕ → List (List Entry) → (ℕ → Box) → Type 0
  R n ls f = Right sizes p logs (Within sizes) n ls f

  pub fine : PlanFine p
  fine = plan_fine p ok

  pub L : Limits sizes p logs longest (Within sizes)
  L = all_limits sizes sizes_ok sizes_small p fine (plan_small p ok) logs hl

  -- THE BOXES READ as a book
  record Reads (x : Book) (f : ℕ → Box) : Type 0 where
    ledger : ledger_or logs (f 0).bytes ≡ just x.ledger
    log : (l : ℕ) → l < logs → log_or (f (log_box l)).bytes ≡ just (x.log l)
    row : (k : ℕ) → k < x.ledger.queue.next → page_in (f (row_box k)).bytes ≡ just (x.row k)

  right_reads : (n : ℕ) (ls : List (List Entry)) (f : ℕ → Box) (r : R n ls f) → Reads r.book f
  right_reads n ls f r = record { ledger = r.ledger; log = r.log; row = λ k h. (r.row k h).1 }

  reads_on : (x : Book) (f g : ℕ → Box) → Reads x f → (g 0).bytes ≡ (f 0).bytes → ((l : ℕ) → l < logs → g (log_box l) ≡ f (log_box l)) → ((k : ℕ) → k < x.ledger.queue.next → g (row_box k) ≡ f (row_box k)) → Reads x g
  reads_on x f g r a b c = record { ledger = ap (ledger_or logs) a ∙ r.ledger; log = λ l h. ap (λ (y : Box). log_or y.bytes) (b l h) ∙ r.log l h; row = λ k h. ap (λ (y : Box). page_in y.bytes) (c k h) ∙ r.row k h }

  -- two books that the same boxes read as are the same as far as boxes go
  record Same (x y : Book) : Type 0 where
    ledger : x.ledger ≡ y.ledger
    log : (l : ℕ) → l < logs → x.log l ≡ y.log l
    row : (k : ℕ) → k < x.ledger.queue.next → x.row k ≡ y.row k

  same_of : (x y : Book) (f : ℕ → Box) → Reads x f → Reads y f → Same x y
  same_of x y f a b = record { ledger = led; log = λ l h. just_same (x.log l) (y.log l) (sym (a.log l h) ∙ b.log l h); row = λ k h. just_same (x.row k) (y.row k) (sym (a.row k h) ∙ b.row k (subst (λ (z : Ledger). k < z.queue.next) led h)) }
    where
      led : x.ledger ≡ y.ledger
      led = just_same x.ledger y.ledger (sym a.ledger ∙ b.ledger)

  -- WHAT IS LEFT TO DO
  pub record Work (w : ℕ) (f : ℕ → Box) : Type 0 where
    book : Book
    ls : List (List Entry)
    count : length ls ≡ logs
    fit : LogsFit ls
    reads : Reads book f
    e : ℕ
    c : ℕ
    left : Marked sizes p ls e book c
    brief : c ≤ most_due (total ls)
    most : (takes_left p.late ls book.ledger.logs + unfilled (f 0).bytes) * suc (most_due (total ls)) + c ≤ w

  -- what is due in a book that is right, when nothing of it is done yet
  due_first_step : (ls : List (List Entry)) (x : Book) → LogsFit ls → SoundBook sizes p ls x → length x.ledger.tail ≤ 640 → (c : ℕ) × Marked sizes p ls (length (taken_events p.late ls x.ledger.logs)) x c × (c ≤ most_due (total ls))
  due_first_step ls x f s t = (_, marked sizes p ls x s, due_few (length p.stages) (length (taken_events p.late ls x.ledger.logs)) (length x.ledger.tail) (total ls) (plan_small p ok).few (taken_total p.late ls x.ledger.logs f) t)

  pub work_most : {n : ℕ} {ls : List (List Entry)} {f : ℕ → Box} → n < longest → R n ls f → (e : ℕ) → total ls ≤ e → Work (most_work logs e) f
  work_most {n} {ls} {f} hn r e h = record {
    book = x;
    ls = ls;
    count = r.count;
    fit = r.within.fits.entries;
    reads = right_reads n ls f r;
    e = length (taken_events p.late ls x.ledger.logs);
    c = d.0;
    left = d.1;
    brief = d.2;
    most = work_few (takes_left p.late ls x.ledger.logs + unfilled (f 0).bytes) d.0 logs (total ls) e (omega (arith, takes_few p.late ls x.ledger.logs r.within.fits.entries, r.count, unfilled_few (f 0).bytes)) d.2 h;
  }
    where
      x : Book
      x = r.book

      d : (c : ℕ) × Marked sizes p ls (length (taken_events p.late ls x.ledger.logs)) x c × (c ≤ most_due (total ls))
      d = due_first_step ls x r.within.fits.entries r.sound r.within.room.tail

  -- boxes that read the same leave the same to do
  work_on : (w : ℕ) (f g : ℕ → Box) (k : Work w f) → (g 0).bytes ≡ (f 0).bytes → ((l : ℕ) → l < logs → g (log_box l) ≡ f (log_box l)) → ((j : ℕ) → j < k.book.ledger.queue.next → g (row_box j) ≡ f (row_box j)) → Work w g
  work_on w f g k a b c = record { book = k.book; ls = k.ls; count = k.count; fit = k.fit; reads = reads_on k.book f g k.reads a b c; e = k.e; c = k.c; left = k.left; brief = k.brief; most = subst (λ (bs : List ℕ). (takes_left p.late k.ls k.book.ledger.logs + unfilled bs) * suc (most_due (total k.ls)) + k.c ≤ w) (sym a) k.most }

  pub work_same : {f : ℕ → Box} (e w : ℕ) → Work w f → Work w (at 0 (record { edition = e; bytes = (f 0).bytes }) f)
  work_same {f} e w k = work_on w f (at 0 b f) k (ap (λ (y : Box). y.bytes) (at_here 0 b f)) (λ l h. at_other 0 (log_box l) b f (λ q. omega (arith, q))) (λ j h. at_other 0 (row_box j) b f (λ q. omega (arith, q)))
    where
      b : Box
      b = record { edition = e; bytes = (f 0).bytes }

  pub work_page : {n : ℕ} {ls : List (List Entry)} {f : ℕ → Box} → n < longest → R n ls f → (x : List ℕ) → Now f (O.due (f 0).bytes) x → (a : Filling) → Memᴰ a (O.pages (f 0).bytes x) → (f a.box).edition ≡ 0 →
      (w : ℕ) → Work w f → Work w (at a.box (record { edition = 1; bytes = a.bytes }) f)
  work_page {n} {ls} {f} hn r x nw a m e w k =
      work_on w f (at a.box b f) k (ap (λ (y : Box). y.bytes) (at_other a.box 0 b f (λ q. is.0 (sym q)))) (λ l h. at_other a.box (log_box l) b f (λ q. is.1 l (sym q)))
      (λ j h. at_other a.box (row_box j) b f (λ q. (all.pages_new r x nw a m).0 (k.book.ledger, k.reads.ledger, inl (j, h, sym q))))
    where
      b : Box
      b = record { edition = 1; bytes = a.bytes }

      all : Rattle.book.specs.Interface.Laws O p logs longest R (Rattle.book.specs.Right.OldLedger logs) (Rattle.book.specs.Right.OldLog p.late logs) (Rattle.book.specs.Right.Floor logs) (Spent logs)
      all = laws sizes sizes_ok p fine logs longest (Within sizes) L

      is : Rattle.book.specs.Interface.IsPage a.box
      is = all.pages_page (f 0).bytes x a m

  -- A STEP that is due leaves less
  shown_same : (x y : Book) (l : Link) → ((k : ℕ) → l ≡ page k → x.row k ≡ y.row k) → page_of x.row l ≡ page_of y.row l
  shown_same x y nil h = refl
  shown_same x y (page k) h = h k refl

  pub work_step : {n : ℕ} {ls : List (List Entry)} {f : ℕ → Box} → n < longest → R n ls f → (x : List ℕ) → Now f (O.due (f 0).bytes) x → ((a : Filling) → Memᴰ a (O.pages (f 0).bytes x) → (1 ≤ (f a.box).edition) × ((f a.box).bytes ≡ a.bytes)) →
      (e w : ℕ) → Work w f → (v : ℕ) × (v < w) × Work v (at 0 (record { edition = e; bytes = O.after (f 0).bytes x }) f)
  work_step {n} {ls} {f} hn r x nw there e w k = (v, less, record { book = y; ls = k.ls; count = k.count; fit = k.fit; reads = reads; e = k.e; c = sink.0; left = sink.2; brief = omega (arith, sink.1, k.brief); most = omega arith })
    where
      d : Doing sizes sizes_ok p fine logs longest (Within sizes) L n ls f r x
      d = doing sizes sizes_ok p fine logs longest (Within sizes) L n ls f r x nw

      s : Stepped sizes sizes_ok p fine logs longest (Within sizes) L n ls f r x d.task
      s = stepped sizes sizes_ok p fine logs longest (Within sizes) L n ls f r x hn d there

      t : Task
      t = d.task

      b : Book
      b = k.book

      same : Same b r.book
      same = same_of b r.book f k.reads (right_reads n ls f r)

      want : wanted sizes p.late b.ledger ≡ Want t
      want = ap (wanted sizes p.late) same.ledger ∙ d.want

      turn_same : turn_of sizes p t b ≡ turn_of sizes p t r.book
      turn_same =
          ap (λ (g : Page). does sizes p t g b.ledger) (shown_same b r.book (shows_of t b.ledger) (λ j q. same.row j (shown_below p.stages _ _ b.row b.ledger (came_out b) t j k.left.sound.queue q)))
          ∙ ap (λ (z : Ledger). does sizes p t (page_of r.book.row (shows_of t z)) z) same.ledger

      y : Book
      y = after_turn (turn_of sizes p t b) b

      sink : Sinks sizes p k.ls k.e y k.c
      sink = mark_turn sizes sizes_ok p fine k.ls k.e b k.c t k.left want

      after : List ℕ
      after = O.after (f 0).bytes x

      g : ℕ → Box
      g = at 0 (record { edition = e; bytes = after }) f

      mv : Moves b.ledger (turn_of sizes p t b)
      mv = moves sizes sizes_ok p fine logs longest (Within sizes) L b t

      row : (j : ℕ) → j < (turn_of sizes p t b).ledger.queue.next → page_in (f (row_box j)).bytes ≡ just (written (turn_of sizes p t b).rows b.row j)
      row j h = go (ltb j b.ledger.queue.next) refl
        where
          go : (c : Bool) → ltb j b.ledger.queue.next ≡ c → page_in (f (row_box j)).bytes ≡ just (written (turn_of sizes p t b).rows b.row j)
          go true q = let m : j < b.ledger.queue.next = Rattle.std.proofs.lemmas.Bool.ltb-true j b.ledger.queue.next q in k.reads.row j m ∙ ap just (sym (written_numbered b.ledger.queue.next (turn_of sizes p t b).rows b.row j mv.rows m))
          go false q =
              let m : b.ledger.queue.next ≤ j = Rattle.std.proofs.lemmas.Bool.ltb-false j b.ledger.queue.next q in
              (s.row j (subst (λ (z : Ledger). z.queue.next ≤ j) same.ledger m) (subst (λ (z : Turn). j < z.ledger.queue.next) turn_same h)).1
              ∙ ap (λ (z : Turn). just (written z.rows r.book.row j)) (sym turn_same) ∙ ap just (written_any b.ledger.queue.next (turn_of sizes p t b).rows r.book.row b.row j mv.rows m (omega (arith, h, mv.next)))

      reads : Reads y g
      reads = record {
        ledger = ap (λ (z : Box). ledger_or logs z.bytes) (at_here 0 (record { edition = e; bytes = after }) f) ∙ s.reads ∙ ap (λ (z : Turn). just z.ledger) (sym turn_same);
        log = λ l h. ap (λ (z : Box). log_or z.bytes) (at_other 0 (log_box l) (record { edition = e; bytes = after }) f (λ q. omega (arith, q))) ∙ k.reads.log l h;
        row = λ j h. ap (λ (z : Box). page_in z.bytes) (at_other 0 (row_box j) (record { edition = e; bytes = after }) f (λ q. omega (arith, q))) ∙ row j h;
      }

      some : 1 ≤ length (g 0).bytes
      some = subst (λ (bs : List ℕ). 1 ≤ length bs) (sym (ap (λ (z : Box). z.bytes) (at_here 0 (record { edition = e; bytes = after }) f) ∙ after_is sizes sizes_ok p fine logs longest (Within sizes) L (f 0).bytes x r.book.ledger r.ledger)) (bytes_some (write_ledger _))

      takes : takes_left p.late k.ls y.ledger.logs ≡ takes_left p.late k.ls b.ledger.logs
      takes = ap (takes_left p.late k.ls) (turn_logs sizes p t b)

      v : ℕ
      v = (takes_left p.late k.ls y.ledger.logs + unfilled (g 0).bytes) * suc (most_due (total k.ls)) + sink.0

      less : v < w
      less = let m : (takes_left p.late k.ls y.ledger.logs + unfilled (g 0).bytes) * suc (most_due (total k.ls)) ≤ (takes_left p.late k.ls b.ledger.logs + unfilled (f 0).bytes) * suc (most_due (total k.ls)) = mul-le-mul (omega (arith, takes, filled_none (g 0).bytes some)) (omega arith) in omega (arith, m, sink.1, k.most)

  -- A TAKE from a log's box as it is
  pub record Takes (n : ℕ) (ls : List (List Entry)) (f : ℕ → Box) (r : R n ls f) (l : ℕ) (y : List ℕ) : Type 0 where
    pub is : y ≡ bytes_of (write_ledger (took sizes p.stages l (r.book.log l) r.book.ledger))
    pub reads : ledger_or logs y ≡ just (took sizes p.stages l (r.book.log l) r.book.ledger)
    pub rest : wanted sizes p.late r.book.ledger ≡ Rest

  rest_of : (n : ℕ) (ls : List (List Entry)) (f : ℕ → Box) (r : R n ls f) → O.due (f 0).bytes ≡ nothing → wanted sizes p.late r.book.ledger ≡ Rest
  rest_of n ls f r d = calls_none (wanted sizes p.late r.book.ledger) r.book.ledger (sym (due_is sizes sizes_ok p fine logs longest (Within sizes) L (f 0).bytes r.book.ledger r.ledger) ∙ d)

  pub takes_of : (n : ℕ) (ls : List (List Entry)) (f : ℕ → Box) (r : R n ls f) → O.due (f 0).bytes ≡ nothing → (l : ℕ) (y : List ℕ) → l < logs → O.take (f 0).bytes l (f (log_box l)).bytes ≡ gives y → Takes n ls f r l y
  unfolding take_by
  takes_of n ls f r d l y h tk = record { is = g.2; reads = ap (ledger_or logs) g.2 ∙ ledger_back logs (took sizes p.stages l b v) g.1; rest = rest_of n ls f r d }
    where
      b : LogBox
      b = r.book.log l

      v : Ledger
      v = r.book.ledger

      g : (not (is_old l b v) ≡ true) × AreNumbers (write_ledger (took sizes p.stages l b v)) × (y ≡ bytes_of (write_ledger (took sizes p.stages l b v)))
      g = given (not (is_old l b v)) (write_ledger (took sizes p.stages l b v)) y (sym (ap (λ (m : Maybe LogBox). take_by sizes p l m (ledger_or logs (f 0).bytes)) (r.log l h) ∙ ap (take_by sizes p l (just b)) r.ledger) ∙ tk)

  -- bytes that a ledger is read from are its own, if there are any
  ledger_own : (bs : List ℕ) (x : Ledger) → ledger_or logs bs ≡ just x → (unfilled bs ≡ 1) ⊎ (bs ≡ bytes_of (write_ledger x))
  unfolding ledger_or
  ledger_own [] x e = inl refl
  ledger_own (b ∷ bs) x e = inr (reads_back.1.only (b ∷ bs) x e).0

  pub work_take : {n : ℕ} {ls : List (List Entry)} {f : ℕ → Box} → n < longest → R n ls f → O.due (f 0).bytes ≡ nothing → (l : ℕ) (y : List ℕ) → l < logs → O.take (f 0).bytes l (f (log_box l)).bytes ≡ gives y → O.differs (f 0).bytes y ≡ true →
      (e w : ℕ) → Work w f → (v : ℕ) × (v < w) × Work v (at 0 (record { edition = e; bytes = y }) f)
  work_take {n} {ls} {f} hn r du l y h tk df e w k = (v, less, record { book = b'; ls = k.ls; count = k.count; fit = k.fit; reads = reads; e = length (taken_events p.late k.ls b'.ledger.logs); c = d.0; left = d.1; brief = d.2; most = omega arith })
    where
      t : Takes n ls f r l y
      t = takes_of n ls f r du l y h tk

      b : Book
      b = k.book

      same : Same b r.book
      same = same_of b r.book f k.reads (right_reads n ls f r)

      lb : LogBox
      lb = b.log l

      ts : List Taken
      ts = b.ledger.logs

      b' : Book
      b' = take_into sizes p l lb b

      took_same : took sizes p.stages l lb b.ledger ≡ took sizes p.stages l (r.book.log l) r.book.ledger
      took_same = ap (λ (x : LogBox). took sizes p.stages l x b.ledger) (same.log l h) ∙ ap (took sizes p.stages l (r.book.log l)) same.ledger

      right : LogRight p.late (log_of l k.ls) (taken_of l ts) lb
      right = subst (λ (j : ℕ). LogRight p.late (log_of l k.ls) (taken_of l ts) (b.log j)) (omega arith) (logs_at p.late b.log 0 l k.ls ts (omega (arith, h, k.count)) k.left.sound.logs)

      once : HeldOnce p.late (log_of l k.ls) lb
      once = record { seen = log_of l k.ls; rest = []; is = sym (mathlib.Core.List.append-nil (log_of l k.ls)); holds = right.holds }

      sound : SoundBook sizes p k.ls b'
      sound = sound_take sizes p k.ls b l lb fine k.left.sound (omega (arith, h, k.count)) once (not_old l lb b.ledger right.base)

      tail : length b.ledger.tail ≤ 640
      tail = subst (λ (x : Ledger). length x.tail ≤ 640) (sym same.ledger) r.within.room.tail

      d : (c : ℕ) × Marked sizes p k.ls (length (taken_events p.late k.ls b'.ledger.logs)) b' c × (c ≤ most_due (total k.ls))
      d = due_first_step k.ls b' k.fit sound tail

      g : ℕ → Box
      g = at 0 (record { edition = e; bytes = y }) f

      here : (g 0).bytes ≡ y
      here = ap (λ (z : Box). z.bytes) (at_here 0 (record { edition = e; bytes = y }) f)

      keeps : b'.ledger.queue.next ≡ b.ledger.queue.next
      keeps = took_next sizes p.stages (new_events lb (taken_of l ts)) (taken_of l ts).taken b.ledger.queue

      reads : Reads b' g
      reads = record {
        ledger = ap (ledger_or logs) here ∙ t.reads ∙ ap just (sym took_same);
        log = λ j i. ap (λ (z : Box). log_or z.bytes) (at_other 0 (log_box j) (record { edition = e; bytes = y }) f (λ q. omega (arith, q))) ∙ k.reads.log j i;
        row = λ j i. ap (λ (z : Box). page_in z.bytes) (at_other 0 (row_box j) (record { edition = e; bytes = y }) f (λ q. omega (arith, q))) ∙ k.reads.row j (omega (arith, i, keeps));
      }

      i : ℕ
      i = (take_events sizes p.stages (new_events lb (taken_of l ts)) (taken_of l ts).taken b.ledger.queue).taken

      from : (taken_of l ts).taken ≤ i
      from = took_more sizes p.stages (new_events lb (taken_of l ts)) (taken_of l ts).taken b.ledger.queue

      u : Taken
      u = took_to lb (taken_of l ts) i

      long : length ts ≡ length k.ls
      long = logs_long p.late b.log 0 k.ls ts k.left.sound.logs

      upto : i ≤ length (Rattle.streams.specs.Meaning.in_time p.late 0 (log_of l k.ls))
      upto = subst (λ (z : Taken). z.taken ≤ length (Rattle.streams.specs.Meaning.in_time p.late 0 (log_of l k.ls))) (taken_set l u ts (omega (arith, h, long, k.count))) (logs_at p.late b'.log 0 l k.ls (set_at l u ts) (omega (arith, h, k.count)) sound.logs).taken.some

      -- if nothing changed the ledger would be the same
      still : u ≡ taken_of l ts → took sizes p.stages l lb b.ledger ≡ b.ledger
      still q = λ j. record { logs = (ap (λ (z : Taken). set_at l z ts) q ∙ set_same l ts) j; pages = b.ledger.pages; tail = b.ledger.tail; queue = took_none sizes p.stages (new_events lb (taken_of l ts)) (taken_of l ts).taken b.ledger.queue (ap (λ (z : Taken). z.taken) q) j }

      takes_fewer : takes_left p.late k.ls (set_at l u ts) + unfilled (g 0).bytes < takes_left p.late k.ls ts + unfilled (f 0).bytes
      takes_fewer = go (ledger_own (f 0).bytes b.ledger k.reads.ledger)
        where
          none : unfilled (g 0).bytes ≡ 0
          none = filled_none (g 0).bytes (subst (λ (bs : List ℕ). 1 ≤ length bs) (sym (here ∙ t.is)) (bytes_some (write_ledger (took sizes p.stages l (r.book.log l) r.book.ledger))))

          sets : (left_of p.late (log_of l k.ls) u ≤ left_of p.late (log_of l k.ls) (taken_of l ts) → takes_left p.late k.ls (set_at l u ts) ≤ takes_left p.late k.ls ts) × (left_of p.late (log_of l k.ls) u < left_of p.late (log_of l k.ls) (taken_of l ts) → takes_left p.late k.ls (set_at l u ts) < takes_left p.late k.ls ts)
          sets = takes_set p.late l u k.ls ts (omega (arith, h, k.count)) long

          go : (unfilled (f 0).bytes ≡ 1) ⊎ ((f 0).bytes ≡ bytes_of (write_ledger b.ledger)) → takes_left p.late k.ls (set_at l u ts) + unfilled (g 0).bytes < takes_left p.late k.ls ts + unfilled (f 0).bytes
          go (inl a) = omega (arith, a, none, sets.0 (left_most p.late (log_of l k.ls) lb (taken_of l ts) right i from upto))
          go (inr a) = omega (arith, none, sets.1 (left_less p.late (log_of l k.ls) lb (taken_of l ts) right i from upto (λ q. differs_self y (subst (λ (x : List ℕ). are_other x y ≡ true) (a ∙ ap (λ (z : Ledger). bytes_of (write_ledger z)) (sym (still q) ∙ took_same) ∙ sym t.is) df))))

      v : ℕ
      v = (takes_left p.late k.ls b'.ledger.logs + unfilled (g 0).bytes) * suc (most_due (total k.ls)) + d.0

      less : v < w
      less = omega (arith, work_less (takes_left p.late k.ls (set_at l u ts) + unfilled (g 0).bytes) (takes_left p.late k.ls ts + unfilled (f 0).bytes) d.0 k.c (total k.ls) takes_fewer d.2, k.most)
