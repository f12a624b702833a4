-- By bytes that are not what the book writes nothing is told, filled or forgotten.
-- Assumes nothing.
use Rattle.std.proofs.Common.{◌≡◌, ℕ, zero, suc, ◌+◌, ◌%◌, Bool, true, false, cond, not, ◌&&◌, eqb, ltb, List, [], ◌∷◌, ◌++◌, length, sym, refl, ap, ◌∙◌, subst, append-nil, arith}
use Rattle.std.proofs.lemmas.Bool.{eq-eqb, cond_both, cond-true, or_right}
use Rattle.streams.specs.Meaning.{Event, Entry, Plan}
use Rattle.streams.specs.Calls.{Call, Put, Out', Drop, drop_of}
use Rattle.streams.specs.Hands.{Box}
use Rattle.book.specs.Queue.{Link, nil, Page}
use Rattle.book.specs.Queue as queue
use Rattle.book.specs.Interface as seam
use Rattle.book.specs.Ledger.{Ledger, LogBox, Served, log_box, Wanted, Rest, Want, Turn, wanted, shows_of, out_box}
use Rattle.book.specs.Words.{Maybe, nothing, bytes_of, write_ledger}
use Rattle.book.specs.Real.{real, sizes, log_or, ledger_or, has_by, adds_by, raise_by, due_by, calls_for, calls_of, rests, turn_on, turn_by, after_by, take_by, are_other, answer_by, or_none}
use Rattle.worker.specs.Worker.{Phase, rest, log, put, ledger, page', written, kept, look, answer', gather, Batch, none, some, Keep, Mind, Job, stays, Asks, none', show, asks, hearing, looking, start_call, start_by, start, idle_by, idle, fill_log, putting, on_log_by, on_ledger_by, read_ledger, is_no_page, on_page, write, took_by, gathers, gather_by, settle, on_shown, acts}
use Rattle.system.specs.Strange.{Strange, OnlyAsks, Waits, StrangeBytes}

-- equal bytes do not differ
same_bytes : (x : List ℕ) → are_other x x ≡ false
unfolding are_other
same_bytes [] = refl
same_bytes (a ∷ x) = rw (eq-eqb a a refl, same_bytes x)

drop_none : (k : ℕ) → drop_of {A = Event} k [] ≡ []
unfolding drop_of
drop_none zero = refl
drop_none (suc k) = refl

module _ (p : Plan) (n : ℕ) (m : Mind) where
  -- it asks to be shown a box, or for nothing
  by_asks : (mm : Mind) (a : Asks) (f : Phase) → OnlyAsks a → mm.keep ≡ m.keep → mm.floor ≡ m.floor → Waits m (asks mm a f)
  by_asks mm a f h k g = record { tells = refl; asks = h; keep = k; floor = g }

  by_call : (mm : Mind) → mm.keep ≡ m.keep → mm.floor ≡ m.floor → (q : ℕ) (c : Call) → Waits m (start_call (real sizes p n) n mm q c)
  by_call mm k g q (Put l e) = by_asks mm (show (log_box l)) (log l) tt k g
  by_call mm k g q (Out' f c) = by_asks mm (show 0) (answer' q f c) tt k g
  by_call mm k g q (Drop c) = record { tells = refl; asks = tt; keep = k; floor = g }

  by_start : (mm : Mind) → mm.keep ≡ m.keep → mm.floor ≡ m.floor → (b : Batch) (js : List Job) → Waits m (start_by (real sizes p n) n mm b js)
  by_start mm k g (some l ps) js = by_asks mm (show (log_box l)) (log l) tt k g
  by_start mm k g none (j ∷ js) = by_call mm k g j.number j.call
  by_start mm k g none [] = by_asks (looking mm mm.floor (cond (ltb mm.place n) mm.place 0) n) (show 0) ledger tt k g

  by_idle : (mm : Mind) → mm.keep ≡ m.keep → mm.floor ≡ m.floor → (b : Batch) (js : List Job) → Waits m (idle_by (real sizes p n) n mm b js)
  by_idle mm k g (some l ps) js = by_start mm k g (some l ps) js
  by_idle mm k g none (j ∷ js) = by_start mm k g none (j ∷ js)
  by_idle mm k g none [] = by_asks mm none' rest tt k g

  -- a log's box
  no_such_log : (k : Keep) (l e floor : ℕ) (s : Served) (es : List Entry) (b : Maybe LogBox) → b ≡ nothing → Waits m (fill_log (real sizes p n) n (hearing m true) k l e (adds_by sizes p.late floor k.me s es b))
  unfolding adds_by
  no_such_log k l e floor s es b is = rw is (by_asks (looking (hearing m true) m.floor l 1) (show 0) ledger tt refl refl)

  by_log : (l : ℕ) (x : Box) → log_or x.bytes ≡ nothing → (b : Batch) → Waits m (on_log_by (real sizes p n) n (hearing m true) l x b)
  unfolding has_by
  by_log l x is none = no_such_log _ l x.edition _ _ _ (log_or x.bytes) is
  by_log l x is (some q ps) =
      cond_both (eqb l q) (cond (has_by (log_or x.bytes) m.keep.me m.keep.chance m.keep.serial) (settle (real sizes p n) n (hearing m true) ps) (putting (real sizes p n) n (hearing m true) m.keep q ps x)) (start (real sizes p n) n (hearing m true)) (Waits m)
      (λ _. subst (λ (b : Maybe LogBox). Waits m (cond (has_by b m.keep.me m.keep.chance m.keep.serial) (settle (real sizes p n) n (hearing m true) ps) (putting (real sizes p n) n (hearing m true) m.keep q ps x))) (sym is) (no_such_log m.keep q x.edition _ _ _ (log_or x.bytes) is))
      (λ _. by_start (hearing m true) refl refl m.keep.batch m.keep.waiting)

  -- the ledger
  by_ledger : (x : Box) (b : Maybe Ledger) → b ≡ nothing → Waits m (on_ledger_by (real sizes p n) n (looking (hearing m true) (raise_by b m.floor) m.place m.left) x (due_by sizes p b))
  unfolding raise_by due_by
  by_ledger x b is =
      rw is
      (cond_both (ltb m.place n && not (eqb m.left 0)) (asks mm (show (log_box m.place)) (look x.edition x.bytes false m.place)) (idle (real sizes p n) n mm) (Waits m)
      (λ _. by_asks mm (show (log_box m.place)) (look x.edition x.bytes false m.place) tt refl refl) (λ _. by_idle mm refl refl m.keep.batch m.keep.waiting))
    where
      mm : Mind
      mm = looking (hearing m true) m.floor m.place m.left

  -- a page that a due step calls for
  rests_on : (y : Ledger) (b : ℕ) (w : Wanted) → calls_of w y ≡ seam.with_page b → turn_by sizes p w nothing y ≡ rests y
  unfolding calls_of turn_by turn_on
  rests_on y b Rest e = refl
  rests_on y b (Want k) e = on (shows_of k y) e
    where
      on : (l : Link) → calls_for l ≡ seam.with_page b → turn_on sizes p k l nothing y ≡ rests y
      on nil q = absurd (let z : ◌≡◌ {A = ℕ} 0 1 = cc in omega arith)
      on (queue.page j) q = refl

  by_page : (e : ℕ) (l : List ℕ) (b : ℕ) (x : Box) → Strange p n (page' e l b) x → Waits m (on_page (real sizes p n) n (hearing m true) e l x)
  unfolding after_by due_by
  by_page e l b x (y, is, wrote, due, lost) =
      subst (Waits m) (sym (cond-true (is_no_page (real sizes p n) n l x) (read_ledger (real sizes p n) n (hearing m true)) (write (real sizes p n) n (hearing m true) e ((real sizes p n).pages l x.bytes) ((real sizes p n).after l x.bytes)) nothing_done))
      (by_asks (hearing m true) (show 0) ledger tt refl refl)
    where
      same : (real sizes p n).after l x.bytes ≡ l
      same =
          ap (after_by sizes p x.bytes l) is
          ∙ ap (λ (g : Maybe Page). bytes_of (write_ledger (turn_by sizes p (wanted sizes p.late y) g y).ledger)) lost
          ∙ ap (λ (v : Turn). bytes_of (write_ledger v.ledger)) (rests_on y b (wanted sizes p.late y) (sym (ap (due_by sizes p) is) ∙ due))
          ∙ sym wrote

      nothing_done : is_no_page (real sizes p n) n l x ≡ true
      nothing_done = or_right (eqb x.edition 0) (not (are_other l ((real sizes p n).after l x.bytes))) (ap (λ (z : List ℕ). not (are_other l z)) same ∙ ap not (same_bytes l))

  -- what came out
  by_answer : (k f c : ℕ) (l : List ℕ) (b : Maybe Ledger) → b ≡ nothing → Waits m (gather_by (real sizes p n) n (hearing m true) k f c l [] (answer_by sizes f c b []))
  unfolding answer_by
  by_answer k f c l b is = rw is (by_asks (hearing m true) (show (out_box 0)) (gather k f c l [] (out_box 0)) tt refl refl)

  by_gather : (k f c : ℕ) (l : List ℕ) (got : List Event) (b : ℕ) (x : Box) → Strange p n (gather k f c l got b) x → Waits m (on_shown (real sizes p n) n (hearing m true) x (gather k f c l got b))
  unfolding or_none
  by_gather k f c l got b x (is, lost) =
      cond_both (eqb x.edition 0) (start (real sizes p n) n (hearing m true)) (gathers (real sizes p n) n (hearing m true) k f c l ((real sizes p n).more f c l got x.bytes)) (Waits m)
      (λ _. by_start (hearing m true) refl refl m.keep.batch m.keep.waiting)
      (λ _. subst (λ (es : List Event). Waits m (gathers (real sizes p n) n (hearing m true) k f c l es)) (sym same) (subst (λ (v : seam.Next). Waits m (gather_by (real sizes p n) n (hearing m true) k f c l got v)) (sym is) (by_asks (hearing m true) (show b) (gather k f c l got b) tt refl refl)))
    where
      same : (real sizes p n).more f c l got x.bytes ≡ got
      same = ap (λ (v : Maybe (List Event)). got ++ drop_of ((f + length got) % sizes.outs) (or_none v)) lost ∙ ap (λ (v : List Event). got ++ v) (drop_none ((f + length got) % sizes.outs)) ∙ append-nil got

  by_phase : (x : Box) (f : Phase) → Strange p n f x → Waits m (on_shown (real sizes p n) n (hearing m true) x f)
  unfolding take_by
  by_phase x rest h = absurd h
  by_phase x (log l) h = by_log l x h m.keep.batch
  by_phase x put h = absurd h
  by_phase x ledger h = by_ledger x (ledger_or n x.bytes) h
  by_phase x (page' e l b) h = by_page e l b x h
  by_phase x (written e t ts l) h = absurd h
  by_phase x kept h = absurd h
  by_phase x (look e l c k) h = subst (λ (b : Maybe LogBox). Waits m (took_by (real sizes p n) n (hearing m true) e l c k (take_by sizes p k b (ledger_or n l)))) (sym h) (by_asks (hearing m true) (show 0) ledger tt refl refl)
  by_phase x (answer' k f c) h = by_answer k f c x.bytes (ledger_or n x.bytes) h
  by_phase x (gather k f c l got b) h = by_gather k f c l got b x h

pub strange_bytes : StrangeBytes
unfolding acts
strange_bytes p n m x h = subst (λ (b : Bool). Waits m (cond b (on_shown (real sizes p n) n (hearing m true) x m.phase) (stays m))) (sym (eq-eqb m.asked m.asked refl)) (by_phase p n m x m.phase h)
