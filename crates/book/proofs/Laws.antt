-- The real sizes and every plan will do: the laws hold.
use Rattle.std.proofs.Common.{◌≡◌, ℕ, suc, ◌+◌, ◌*◌, ◌<◌, ◌≤◌, Bool, true, false, cond, not, ◌&&◌, T, ltb, leb, List, [], ◌∷◌, ◌++◌, length, sym, refl, ap, ◌∙◌, subst, inl, inr, append-nil, arith, ltb→lt, leb→le, length-append}
use Rattle.std.proofs.lemmas.Bool.{and_from, le-leb, lt-ltb, le-ltb}
use Rattle.streams.specs.Hands.{all_bytes, Box}
use Rattle.streams.specs.Meaning.{Stage, Plan, Entry, top}
use Rattle.streams.specs.Calls.{every, stage_ok, fine, plan_ok}
use Rattle.book.specs.Queue.{Link, nil, page, Page, Blank, Write}
use Rattle.book.proofs.Book.{sound_take, logs_at}
use Rattle.book.specs.Due.{Sizes, SizesOk, Sized}
use Rattle.book.specs.Book.{PlanFine, Book, LogRight, HeldOnce, log_of, take_into}
use Rattle.book.specs.Small.{StagesFit, total, Fits, SizesSmall, PlanSmall}
use Rattle.book.specs.Limits.{Limits, longest}
use Rattle.book.specs.Levels.{Within}
use Rattle.book.specs.Ledger.{Served, LogBox, Ledger, workers, log_box, is_old, took, taken_of, Wanted, Rest, Want, wanted, Publish, Tidy, OutWrite, Turn, does, watermark, Task, shows_of}
use Rattle.book.specs.Words.{just, bytes_of, write_all, write_list, write_event, write_served, write_log, write_ledger, wide, AreWords, AreNumbers, Maybe, page_in}
use Rattle.book.specs.Real.{sizes, log_or, ledger_or, real, are_numbers, writes, row_fillings, out_fillings, take_by, due_by, pages_by, rests, turn_on, turn_by}
use Rattle.book.specs.Interface.{horizon, Safe, lacks, gives, nothing}
use Rattle.book.specs.Right.{Right, OldLedger, OldLog, Floor, Spent, BookLaws, BookWords, BookFits, BookAnswersAll, BookTakes}
use Rattle.book.proofs.Limits.{limits, events_long, ledger_below, page_below, writes_few}
use Rattle.book.proofs.Room.{room_kept}
use Rattle.book.proofs.Levels.{levels_kept, ledger_short}
use Rattle.book.proofs.Boxes.{boxes_first, boxes_later, boxes_batch, boxes_turn}
use Rattle.book.proofs.Words.{reads_back}
use Rattle.book.proofs.Real.{bytes_most, bytes_bytes, calls_none}
use Rattle.book.proofs.Safe.{laws, answers_all}

and_left : (a b : Bool) → T (a && b) → T a
and_left true b h = tt
and_left false b h = h

and_right : (a b : Bool) → T (a && b) → T b
and_right true b h = h
and_right false b h = absurd h

stages_ok : (sts : List Stage) → T (every stage_ok sts) → StagesFit sts
unfolding every
stages_ok [] h = tt
stages_ok (st ∷ sts) h = (ltb→lt 0 st.size (and_right most (ltb 0 st.size) (and_left (most && ltb 0 st.size) (leb st.size 1099511627776) one)), leb→le st.size 1099511627776 (and_right (most && ltb 0 st.size) (leb st.size 1099511627776) one), stages_ok sts (and_right (stage_ok st) (every stage_ok sts) h))
  where
    most : Bool
    most = fine st.keep' && fine st.key && fine st.value

    one : T (stage_ok st)
    one = and_left (stage_ok st) (every stage_ok sts) h

pub sized : (sts : List Stage) → StagesFit sts → Sized sts
sized [] h = tt
sized (st ∷ sts) h = (h.0, sized sts h.2)

pub plan_small : (p : Plan) → T (plan_ok p) → PlanSmall p
plan_small p h = record { few = leb→le (length p.stages) 8 (and_right (leb p.late 1099511627776 && ltb 0 (length p.stages)) (leb (length p.stages) 8) (and_left (leb p.late 1099511627776 && ltb 0 (length p.stages) && leb (length p.stages) 8) (every stage_ok p.stages) h)); stages = stages_ok p.stages (and_right (leb p.late 1099511627776 && ltb 0 (length p.stages) && leb (length p.stages) 8) (every stage_ok p.stages) h) }

pub plan_fine : (p : Plan) → T (plan_ok p) → PlanFine p
plan_fine p h =
    record {
      some = ltb→lt 0 (length p.stages) (and_right (leb p.late 1099511627776) (ltb 0 (length p.stages)) (and_left (leb p.late 1099511627776 && ltb 0 (length p.stages)) (leb (length p.stages) 8) (and_left (leb p.late 1099511627776 && ltb 0 (length p.stages) && leb (length p.stages) 8) (every stage_ok p.stages) h)));
      sized = sized p.stages (plan_small p h).stages;
    }

pub sizes_ok : SizesOk sizes
sizes_ok = (omega arith, omega arith, omega arith, omega arith, omega arith)

pub sizes_small : SizesSmall sizes
sizes_small = record { emits = omega arith; rows = omega arith; segments = omega arith; outs = omega arith }

-- all limits together
pub all_limits : (z : Sizes) → SizesOk z → SizesSmall z → (p : Plan) → PlanFine p → PlanSmall p → (logs : ℕ) → logs ≤ 256 → Limits z p logs longest (Within z)
all_limits z zo sz p pf ps logs hl =
    record {
      starts = record { fits = L.starts; room = (room_kept z zo p).0 logs; levels = (levels_kept z zo p).0 logs; boxes = boxes_first logs };
      later = λ {n} {ls} {x} w. record { fits = L.later w.fits; room = w.room; levels = w.levels; boxes = boxes_later n x w.boxes };
      batch = λ {n} {ls} {x} l floor i c s es h so w hx hf tg ok few room. record { fits = L.batch l floor i c s es h so w.fits hx hf tg ok few room; room = (room_kept z zo p).1 x l floor i (record { life = c; serial = s }) es w.room room; levels = (levels_kept z zo p).1 x l floor i (record { life = c; serial = s }) es w.levels; boxes = boxes_batch p n x l floor i (record { life = c; serial = s }) es tg.life tg.upto w.boxes };
      take = λ {n} {ls} {x} l b h so w e hx o old. record { fits = L.take l b h so w.fits e hx o old; room = (room_kept z zo p).2 x l b w.room e; levels = (levels_kept z zo p).2 x l b w.levels; boxes = record { rows = w.boxes.rows; outs = w.boxes.outs; served = w.boxes.served } };
      turn = λ {n} {ls} {x} k h so w e. record { fits = L.turn k h so w.fits e; room = (room_kept z zo p).3 n ls x k w.room w.fits e; levels = (levels_kept z zo p).3 n ls x k so w.fits w.levels e; boxes = boxes_turn z p n ls x k so w.fits w.boxes };
      ledger_words = λ k h so w e. L.ledger_words k h so w.fits e;
      page_words = λ k v h so w e a. L.page_words k v h so w.fits e a;
      out_words = λ k v h so w e a. L.out_words k v h so w.fits e a;
      page_short = λ k v so w e a. L.page_short k v so w.fits e a;
      out_short = λ k v so w e a. L.out_short k v so w.fits e a;
    }
  where
    L : Limits z p logs longest (Fits z)
    L = limits z zo sz p pf ps logs hl

pub book_laws : BookLaws
book_laws p h logs hl = laws sizes sizes_ok p (plan_fine p h) logs longest (Within sizes) (all_limits sizes sizes_ok sizes_small p (plan_fine p h) (plan_small p h) logs hl)

pub book_answers_all : BookAnswersAll
book_answers_all p h logs hl = answers_all sizes sizes_ok p (plan_fine p h) logs longest (Within sizes) (all_limits sizes sizes_ok sizes_small p (plan_fine p h) (plan_small p h) logs hl)

-- as a worker takes it
abbrev pub book_safe : (p : Plan) → T (plan_ok p) → (logs : ℕ) → logs ≤ 256 → Safe (real sizes p logs) p logs
book_safe p h logs hl = record { bound = longest; far = omega arith; Sound = Right sizes p logs (Within sizes); OldLedger = OldLedger logs; OldLog = OldLog p.late logs; Floor = Floor logs; Spent = Spent logs; laws = book_laws p h logs hl }

-- NUMBERS ARE WORDS
pub book_words : BookWords
book_words p logs n ls f h r = (ledger_below top (omega arith) sizes p n ls r.book sizes_small (omega (arith, h)) r.sound r.within.fits, λ k. page_below top (omega arith) sizes (4 * n + 4) (r.book.row k) sizes_small (omega (arith, h)) (r.within.fits.pages k))

-- THE LEDGER AND THE LOG BOXES FIT
abbrev Short : (most : ℕ) → List ℕ → Type 0
Short t bs = T (leb (length bs) t && all_bytes bs)

short : (t : ℕ) (ns : List ℕ) → length (bytes_of ns) ≤ t → Short t (bytes_of ns)
short t ns h = subst T (sym (and_from (leb (length (bytes_of ns)) t) (all_bytes (bytes_of ns)) (le-leb (length (bytes_of ns)) t h) (bytes_bytes ns))) tt

none_short : (t : ℕ) → Short t []
unfolding all_bytes
none_short t = subst T (sym (and_from (leb 0 t) true (le-leb 0 t (omega arith)) refl)) tt

ledger_bytes : (t logs : ℕ) (bs : List ℕ) (y : Ledger) → ledger_or logs bs ≡ just y → length (bytes_of (write_ledger y)) ≤ t → Short t bs
unfolding ledger_or
ledger_bytes t logs [] y e h = none_short t
ledger_bytes t logs (x ∷ bs) y e h = subst (Short t) (sym (reads_back.1.only (x ∷ bs) y e).0) (short t (write_ledger y) h)

served_long : (ss : List Served) → length (write_all write_served ss) ≡ 2 * length ss
unfolding write_all
served_long [] = refl
served_long (s ∷ ss) = omega (arith, served_long ss)

log_bytes : (t : ℕ) → 262144 ≤ t → (bs : List ℕ) (b : LogBox) → log_or bs ≡ just b → length b.events ≤ 512 → Short t bs
unfolding log_or
log_bytes t u [] b e h = none_short t
log_bytes t u (x ∷ bs) b e h =
    let o : (x ∷ bs ≡ bytes_of (write_log b)) × AreNumbers (write_log b) × (length b.served ≡ workers) = reads_back.0.only (x ∷ bs) b e in
    subst (Short t) (sym o.0) (short t (write_log b) (omega (arith, u, h, o.2, length-append (write_list write_event b.events) (write_all write_served b.served), events_long b.events, served_long b.served, bytes_most (write_log b))))

pub book_fits : BookFits
book_fits p logs n ls f r b (inl e) = (
  λ h. subst (λ (c : ℕ). Short 262144 (f c).bytes) (sym e) (ledger_bytes 262144 logs (f 0).bytes r.book.ledger r.ledger (omega (arith, (brief (omega (arith, h, r.within.fits.many))).1 (book_words p logs n ls f h r).0))),
  λ h. subst (λ (c : ℕ). Short 1048576 (f c).bytes) (sym e) (ledger_bytes 1048576 logs (f 0).bytes r.book.ledger r.ledger (omega (arith, (brief (omega (arith, h))).0))),
)
  where
    brief : total ls ≤ 8 * horizon → (length (bytes_of (write_ledger r.book.ledger)) < 1048576) × (AreWords (write_ledger r.book.ledger) → length (bytes_of (write_ledger r.book.ledger)) < 262144)
    brief m = ledger_short p n ls r.book m r.sound r.within.fits r.within.room r.within.levels
book_fits p logs n ls f r b (inr (l, hl, e)) = (λ h. subst (λ (c : ℕ). Short 262144 (f c).bytes) (sym e) (fit 262144 (omega arith)), λ h. subst (λ (c : ℕ). Short 1048576 (f c).bytes) (sym e) (fit 1048576 (omega arith)))
  where
    fit : (t : ℕ) → 262144 ≤ t → Short t (f (log_box l)).bytes
    fit t u = log_bytes t u (f (log_box l)).bytes (r.book.log l) (r.log l hl) (r.within.room.log l)

-- TAKING
all_numbers : (ns : List ℕ) → AreNumbers ns → are_numbers ns ≡ true
unfolding are_numbers
all_numbers [] h = refl
all_numbers (n ∷ ns) h = and_from (ltb n wide) (are_numbers ns) (lt-ltb n wide h.0) (all_numbers ns h.1)

pub writes_given : (b : Bool) (ns : List ℕ) → b ≡ true → AreNumbers ns → writes b ns ≡ lacks → ⊥
writes_given b ns h a e = let t : gives (bytes_of ns) ≡ lacks = sym (ap (λ (c : Bool). cond c (gives (bytes_of ns)) lacks) (and_from b (are_numbers ns) h (all_numbers ns a))) ∙ e in (let k : ◌≡◌ {A = ℕ} 0 1 = cc in omega arith)

few_rows : (ws : List Write) → length (row_fillings ws) ≡ length ws
unfolding row_fillings
few_rows [] = refl
few_rows (w ∷ ws) = ap suc (few_rows ws)

few_outs : (ws : List OutWrite) → length (out_fillings ws) ≡ length ws
unfolding out_fillings
few_outs [] = refl
few_outs (w ∷ ws) = ap suc (few_outs ws)

pub not_old : (l : ℕ) (b : LogBox) (x : Ledger) → b.base ≤ (taken_of l x.logs).taken → is_old l b x ≡ false
unfolding is_old
not_old l b x h = le-ltb (taken_of l x.logs).taken b.base h

few_by : (p : Plan) (shown : List ℕ) (m : Maybe Ledger) → length (pages_by sizes p shown m) ≤ 2
unfolding pages_by turn_by turn_on
few_by p shown Rattle.book.specs.Words.nothing = omega arith
few_by p shown (just x) = go (wanted sizes p.late x)
  where
    both : (t : Turn) → length t.rows + length t.outs ≤ 2 → length (row_fillings t.rows ++ out_fillings t.outs) ≤ 2
    both t h = omega (arith, h, length-append (row_fillings t.rows) (out_fillings t.outs), few_rows t.rows, few_outs t.outs)

    few : (k : Task) (g : Page) → length (row_fillings (does sizes p k g x).rows ++ out_fillings (does sizes p k g x).outs) ≤ 2
    few Publish g = both (does sizes p Publish g x) (omega arith)
    few (Tidy step) g = both (does sizes p (Tidy step) g x) (omega (arith, writes_few sizes p.stages (watermark p.late x.logs) step g x.queue))

    on : (k : Task) (l : Link) (g : Maybe Page) → length (row_fillings (turn_on sizes p k l g x).rows ++ out_fillings (turn_on sizes p k l g x).outs) ≤ 2
    on k nil g = few k Blank
    on k (page n) Rattle.book.specs.Words.nothing = both (rests x) (omega arith)
    on k (page n) (just g) = few k g

    go : (w : Wanted) → length (row_fillings (turn_by sizes p w (page_in shown) x).rows ++ out_fillings (turn_by sizes p w (page_in shown) x).outs) ≤ 2
    go Rest = both (rests x) (omega arith)
    go (Want k) = on k (shows_of k x) (page_in shown)

pub book_takes : BookTakes
unfolding take_by due_by
book_takes p ok logs hl = (takes, few)
  where
    takes : (n : ℕ) (ls : List (List Entry)) (f : ℕ → Box) → n < longest → Right sizes p logs (Within sizes) n ls f → (real sizes p logs).due (f 0).bytes ≡ nothing → (l : ℕ) → l < logs → (real sizes p logs).take (f 0).bytes l (f (log_box l)).bytes ≡ lacks → ⊥
    takes n ls f h r d l hx e =
        writes_given (not (is_old l b x.ledger)) (write_ledger (took sizes p.stages l b x.ledger)) (ap not new) (ledger_below wide (omega arith) sizes p n ls (take_into sizes p l b x) sizes_small (omega (arith, h)) (sound_take sizes p ls x l b (plan_fine p ok) r.sound (omega (arith, hx, r.count)) once new) ((all_limits sizes sizes_ok sizes_small p (plan_fine p ok) (plan_small p ok) logs hl).take l b h r.sound r.within rest hx once new).fits)
        (sym (ap (λ (m : Maybe LogBox). take_by sizes p l m (ledger_or logs (f 0).bytes)) (r.log l hx) ∙ ap (take_by sizes p l (just b)) r.ledger) ∙ e)
      where
        x : Book
        x = r.book

        b : LogBox
        b = x.log l

        right : LogRight p.late (log_of l ls) (taken_of l x.ledger.logs) b
        right = subst (λ (j : ℕ). LogRight p.late (log_of l ls) (taken_of l x.ledger.logs) (x.log j)) (omega arith) (logs_at p.late x.log 0 l ls x.ledger.logs (omega (arith, hx, r.count)) r.sound.logs)

        once : HeldOnce p.late (log_of l ls) b
        once = record { seen = log_of l ls; rest = []; is = sym (append-nil (log_of l ls)); holds = right.holds }

        new : is_old l b x.ledger ≡ false
        new = not_old l b x.ledger right.base

        rest : wanted sizes p.late x.ledger ≡ Rest
        rest = calls_none (wanted sizes p.late x.ledger) x.ledger (sym (ap (due_by sizes p) r.ledger) ∙ d)

    few : (y shown : List ℕ) → length ((real sizes p logs).pages y shown) ≤ 2
    few y shown = few_by p shown (ledger_or logs y)
