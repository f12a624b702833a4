-- The worker alone looks after the ledger: it comes to where nothing is due and all logs that it was to look at are taken.
use Rattle.std.proofs.Common.{◌≡◌, ℕ, zero, suc, ◌+◌, ◌*◌, ◌<◌, ◌≤◌, Bool, true, false, cond, not, ◌&&◌, ◌||◌, eqb, ltb, ◌⊎◌, List, [], ◌∷◌, ◌++◌, length, sym, refl, ap, ◌∙◌, subst, ap₂, subst₂, inl, inr, ⊎_elim, arith}
use mathlib.Core.List.Memᴰ
use mathlib.Core.List.{Memᴰ}
use Rattle.std.proofs.lemmas.Bool.{eqb-true, eqb-false, eq-eqb, ne_eqb, lt-ltb, ltb-true, and_from, and_right, or_right, not_from_true, not_from_false, cond-true, cond-false, cond_both, cases_Bool, both_ways, or_from}
use Rattle.streams.specs.Meaning.{Entry, Plan}
use Rattle.streams.specs.Calls.{Call, Reply}
use Rattle.streams.specs.Hands.{Box, wants_fill, Seen, at, Scene}
use Rattle.book.specs.Ledger.{log_box}
use Rattle.book.specs.Interface.{horizon, Gives, lacks, gives, Calls, nothing, alone, with_page, Filling, Ops, Safe, Now}
use Rattle.worker.specs.Worker.{ledger, page', written, kept, look, Keep, Mind, show, fill, Step, asks, hearing, looking, is_nothing, read_ledger, idle, write, next_log, on_ledger_by, took_by, on_filled, less_one, is_no_page}
use Rattle.book.specs.Live.{Live}
use Rattle.book.specs.Small.{total}
use Rattle.shelf.specs.Moments.{calls}
use Rattle.shelf.proofs.Places.{at_self, at_one, at_other, at_twice}
use Rattle.shelf.proofs.History.{past}
use Rattle.shelf.proofs.Made.{calls_alone}
use Rattle.worker.proofs.Invariant.{fill_ok, log_some, must_now, page_held, View, Good, Filled'}
use Rattle.worker.proofs.Entries.{entries_most}
use Rattle.worker.proofs.Laws.{Right, Laws}
use Rattle.worker.proofs.Onebook.{inv, view_of, Inv}
use Rattle.worker.proofs.Safelaws.{safe_laws, now_on}
use Rattle.worker.proofs.Alone.{At, mid_in, Wanted, see, pour, miss}
use Rattle.shelf.proofs.Scripts.{Fits}

module _ (o : Ops) (p : Plan) (logs : ℕ) (P : Safe o p logs) (V : Live o p logs P) (one : 1 ≤ logs) (all i c : ℕ) (al : all ≤ 64) (lt : i < all) (es : List (Seen Call Reply)) (s : Scene Mind ℕ) (made : calls es ≤ horizon) where
  abbrev pub A : Step → (ℕ → Box) → ℕ → Type 0
  A r f n = At o logs all i c lt es s r f n

  abbrev L : Laws o p logs
  L = safe_laws o p logs P

  -- the page that a due step calls for is as it must be
  right_of : (v : View o p logs L) → Good o p logs L v → {n : ℕ} {ls : List (List Entry)} → P.Sound n ls v.co.f → (d : Calls) (x : List ℕ) → o.due (v.co.f 0).bytes ≡ d → Now v.co.f d x → Right (L.Must v.w) d x
  right_of v h sd nothing x e now = now
  right_of v h sd alone x e now = now
  right_of v h sd (with_page b) x e now = let q = P.laws.spent_filled sd b (P.laws.due_spent sd b e) in subst (L.Must v.w b) now (must_now o p logs L v h b q.0 q.1)

  -- WHAT THE INVARIANT SAYS after a step of the worker alone
  module _ {r : Step} {f : ℕ → Box} {n : ℕ} (a : A r f n) (sm : n < P.bound) where
    known : Inv o p logs L n (a.mid.fs ++ es) (past a.mid.goes) a.mid.to
    known = inv o p logs L al sm a.mid.goes

    abbrev view : View o p logs L
    view = view_of o p logs L n known.0 (a.mid.fs ++ es) known.1 known.2 (past a.mid.goes) a.mid.to

    sound_to : P.Sound n known.0.ls a.mid.to.box
    sound_to = subst (P.Sound n known.0.ls) known.3.sound.is known.3.sound.sound

    sound_now : P.Sound n known.0.ls f
    sound_now = subst (P.Sound n known.0.ls) a.mid.boxes sound_to

    -- the boxes are right for logs that have no more entries than calls were made before it was alone
    pub sound_at : (ls : List (List Entry)) × P.Sound n ls f × (total ls ≤ calls es)
    sound_at = let t = entries_most p logs known.3.loose.book in let c = calls_alone es a.mid.run in (known.0.ls, sound_now, omega (arith, t, c))

    -- the floor that it has seen is not above what is taken
    pub floor_at : (ls : List (List Entry)) × P.Sound n ls f × P.Floor ls f r.mind.floor
    floor_at = (known.0.ls, sound_now, subst (λ z. P.Floor known.0.ls z r.mind.floor) (known.3.sound.is ∙ a.mid.boxes) (known.3.hands i c r.mind a.mid.minds).floor)

    -- what is asked to be filled at the edition that is there fits
    fit_of : (b e : ℕ) (bs : List ℕ) → ((b ≡ 0) ⊎ ((l : ℕ) × (l < logs) × (b ≡ log_box l))) → r.ask ≡ fill b e bs → e ≡ (f b).edition → suc n < P.bound → Fits bs
    fit_of b e bs kd is ed sm1 = let t = entries_most p logs g.3.loose.book in let c = calls_alone es a.mid.run in
        subst Fits (ap (λ z. z.bytes) (at_self b (record { edition = e + 1; bytes = bs }) a.mid.to.box)) (V.fits sm1 (subst (P.Sound (suc n) g.0.ls) g.3.sound.is g.3.sound.sound) (omega (arith, t, c, made)) b kd)
      where
        g : Filled' o p logs L view i c r.mind.asked b e bs
        g = fill_ok o p logs L view known.3 sm i c r.mind.asked b e bs (ed ∙ ap (λ z. (z b).edition) (sym a.mid.boxes))
            (known.3.facts (wants_fill i c r.mind.asked b e bs) (mid_in o logs all i c lt es s a.mid (subst (λ z. Wanted o logs all i c lt es s r.mind.asked z a.mid.new) is a.wants)))

    -- the pages of a step that is due, once they are filled, hold what the step writes
    held_of : (x : List ℕ) → Now f (o.due (f 0).bytes) x → (t : Filling) → Memᴰ t (o.pages (f 0).bytes x) → 1 ≤ (f t.box).edition → (f t.box).bytes ≡ t.bytes
    held_of = subst (λ f. (x : List ℕ) → Now f (o.due (f 0).bytes) x → (t : Filling) → Memᴰ t (o.pages (f 0).bytes x) → 1 ≤ (f t.box).edition → (f t.box).bytes ≡ t.bytes) a.mid.boxes
        (λ x now. page_held o p logs L view known.3 x (right_of view known.3 sound_to (o.due (a.mid.to.box 0).bytes) x refl now))

  pub pours : {r : Step} {f : ℕ → Box} {n : ℕ} (b e : ℕ) (bs : List ℕ) → ((b ≡ 0) ⊎ ((l : ℕ) × (l < logs) × (b ≡ log_box l))) → r.ask ≡ fill b e bs → e ≡ (f b).edition → suc n < P.bound → A r f n → A (on_filled o logs (hearing r.mind true) true r.mind.phase) (at b (record { edition = e + 1; bytes = bs }) f) (suc (suc n))
  pours b e bs kd is ed sm a = pour o logs all i c lt es s b e bs is ed (fit_of a (omega (arith, sm)) b e bs kd is ed sm) a

  abbrev pub next : ℕ → ℕ
  next pl = cond (ltb (pl + 1) logs) (pl + 1) 0

  -- a log that is still to be looked at, with so many left from a place on
  abbrev pub ahead : (left place log : ℕ) → Type 0
  ahead zero pl l = ⊥
  ahead (suc k) pl l = (l ≡ pl) ⊎ ahead k (next pl) l

  -- a log that is looked at later, or is taken already
  abbrev pub Todo : (left place : ℕ) → List ℕ → (ℕ → Box) → ℕ → Type 0
  Todo k pl y f l = ahead k pl l ⊎ V.Took y l (f (log_box l)).bytes

  -- the end of it: nothing is due, what is kept is as it was, log boxes are as they were, and each log of some kind is taken
  pub record Done (k : Keep) (f0 : ℕ → Box) (tot : ℕ) (Q : ℕ → Type 0) : Type 0 where
    pub m : Mind
    pub f : ℕ → Box
    pub n : ℕ
    pub at' : A (idle o logs m) f n
    pub keep : m.keep ≡ k
    pub same : (l : ℕ) → f (log_box l) ≡ f0 (log_box l)
    pub idle' : o.due (f 0).bytes ≡ nothing
    pub fl : List ℕ
    pub floor : m.floor ≡ o.raise (f 0).bytes fl
    pub took : (l : ℕ) → l < logs → Q l → V.Took (f 0).bytes l (f (log_box l)).bytes
    pub w : ℕ
    pub work : V.Work w f
    pub spent : n + 12 * w ≤ tot

  done_on : {k : Keep} {tot : ℕ} {f0 f1 : ℕ → Box} {Q R : ℕ → Type 0} → ((l : ℕ) → f1 (log_box l) ≡ f0 (log_box l)) → ((l : ℕ) → l < logs → Q l → R l) → Done k f1 tot R → Done k f0 tot Q
  done_on e q d = record { m = d.m; f = d.f; n = d.n; at' = d.at'; keep = d.keep; same = λ l. d.same l ∙ e l; idle' = d.idle'; fl = d.fl; floor = d.floor; took = λ l u v. d.took l u (q l u v); w = d.w; work = d.work; spent = d.spent }

  module _ (tot : ℕ) (tb : tot < P.bound) where
    -- THE MEASURE: with less of `left` and of what is left to do than so much, whatever the mind, it ends; twelve steps for each
    abbrev Rec : ℕ → Type 0
    Rec k = (m : Mind) (f : ℕ → Box) (n w : ℕ) → m.place < logs → A (read_ledger o logs m) f n → V.Work w f → m.left + w < k → n + 12 * (m.left + w) + 12 ≤ tot → Done m.keep f tot (Todo m.left m.place (f 0).bytes f)

    -- the ledger was filled with y
    refilled : (k : ℕ) → Rec k → (m : Mind) (f : ℕ → Box) (n e w : ℕ) (y : List ℕ) → m.place < logs → A (asks m (fill 0 e y) kept) f n → e ≡ (f 0).edition → V.Work w (at 0 (record { edition = e + 1; bytes = y }) f) → m.left + w < k → n + 12 * (m.left + w) + 14 ≤ tot →
        Done m.keep f tot (Todo m.left m.place y f)
    refilled k rec m f n e w y pl a ed wk ms bud =
        done_on logs_same (λ l u v. ⊎_elim (λ x. inl x) (λ x. inr (subst₂ (λ a b. V.Took a l b) (sym e0) (ap (λ z. z.bytes) (sym (logs_same l))) x)) v)
        (rec (hearing m' true) f1 (suc (suc n)) w pl (pours 0 e y (inl refl) refl ed (omega (arith, bud, tb)) a) wk (omega (arith, ms)) (omega (arith, bud)))
      where
        m' : Mind
        m' = (asks m (fill 0 e y) kept).mind

        f1 : ℕ → Box
        f1 = at 0 (record { edition = e + 1; bytes = y }) f

        e0 : (f1 0).bytes ≡ y
        e0 = ap (λ z. z.bytes) (at_self 0 (record { edition = e + 1; bytes = y }) f)

        logs_same : (l : ℕ) → f1 (log_box l) ≡ f (log_box l)
        logs_same l = at_other 0 (record { edition = e + 1; bytes = y }) f (log_box l) (log_some l)

    -- a page of a step is filled already, or is among those that are still to be filled
    abbrev Filled : List Filling → (ℕ → Box) → Filling → Type 0
    Filled ts f a = (1 ≤ (f a.box).edition) ⊎ Memᴰ a ts

    -- a step's pages, and the step
    abbrev Writes : (k : ℕ) → List Filling → Type 0
    Writes k ts = (m : Mind) (f : ℕ → Box) (n e w : ℕ) (led x : List ℕ) → m.place < logs → e ≡ (f 0).edition → (f 0).bytes ≡ led → Now f (o.due led) x → ((a : Filling) → Memᴰ a ts → Memᴰ a (o.pages led x)) → ((a : Filling) → Memᴰ a (o.pages led x) → Filled ts f a) →
        A (write o logs m e ts (o.after led x)) f n → V.Work w f → m.left + w < suc k → n + 2 * length ts + 12 * (m.left + w) + 2 ≤ tot → n + 2 * length ts + 4 ≤ tot → Done m.keep f tot (Todo m.left m.place led f)

    writes : (k : ℕ) → Rec k → (ts : List Filling) → Writes k ts
    writes k rec [] m f n e w led x pl ed is now sub todo a wk ms bud bud2 = let less = st.1 in
        done_on (λ l. refl) (λ l u v. ⊎_elim (λ z. inl z) (λ z. inr (step_took l z)) v) (refilled k rec m f n e st.0 (o.after led x) pl a ed st.2 (omega (arith, less, ms)) (omega (arith, less, bud)))
      where
        sm : n < P.bound
        sm = omega (arith, bud2, tb)

        sd : (ls : List (List Entry)) × P.Sound n ls f × (total ls ≤ calls es)
        sd = sound_at a sm

        now' : Now f (o.due (f 0).bytes) x
        now' = subst (λ z. Now f (o.due z) x) (sym is) now

        at_least : (a : Filling) → Filled [] f a → 1 ≤ (f a.box).edition
        at_least a (inl y) = y
        at_least a (inr y) = elim y [ ]

        st : (v : ℕ) × (v < w) × V.Work v (at 0 (record { edition = e + 1; bytes = o.after led x }) f)
        st = subst (λ z. (v : ℕ) × (v < w) × V.Work v (at 0 (record { edition = e + 1; bytes = o.after z x }) f)) is
            (V.work_step sm sd.1 x now' (λ t m. let q = at_least t (todo t (subst (λ z. Memᴰ t (o.pages z x)) is m)) in (q, held_of a sm x now' t m q)) (e + 1) w wk)

        step_took : (l : ℕ) → V.Took led l (f (log_box l)).bytes → V.Took (o.after led x) l (f (log_box l)).bytes
        step_took l z = subst (λ u. V.Took (o.after u x) l (f (log_box l)).bytes) is (V.took_step sm sd.1 x now' l (subst (λ u. V.Took u l (f (log_box l)).bytes) (sym is) z))
    writes k rec (t ∷ ts) m f n e w led x pl ed is now sub todo a wk ms bud bud2 = go (writes k rec ts) (cases_Bool (eqb 0 (f t.box).edition))
      where
        m1 : Mind
        m1 = hearing (asks m (fill t.box 0 t.bytes) (written e t ts (o.after led x))).mind true

        f1 : ℕ → Box
        f1 = at t.box (record { edition = 1; bytes = t.bytes }) f

        sd : (ls : List (List Entry)) × P.Sound n ls f × (total ls ≤ calls es)
        sd = sound_at a (omega (arith, bud2, tb))

        pg : (t.box ≡ 0 → ⊥) × ((l : ℕ) → t.box ≡ log_box l → ⊥)
        pg = P.laws.pages_page led x t (sub t (Memᴰ.head refl))

        now' : Now f (o.due (f 0).bytes) x
        now' = subst (λ z. Now f (o.due z) x) (sym is) now

        mine : Memᴰ t (o.pages (f 0).bytes x)
        mine = subst (λ z. Memᴰ t (o.pages z x)) (sym is) (sub t (Memᴰ.head refl))

        e0 : f1 0 ≡ f 0
        e0 = at_other t.box (record { edition = 1; bytes = t.bytes }) f 0 (λ z. pg.0 (sym z))

        logs_same : (l : ℕ) → f1 (log_box l) ≡ f (log_box l)
        logs_same l = at_other t.box (record { edition = 1; bytes = t.bytes }) f (log_box l) (λ z. pg.1 l (sym z))

        go : Writes k ts → (eqb 0 (f t.box).edition ≡ true) ⊎ (eqb 0 (f t.box).edition ≡ false) → Done m.keep f tot (Todo m.left m.place led f)
        go again (inl y) = done_on logs_same (λ l u v. ⊎_elim (λ z. inl z) (λ z. inr (subst (λ b. V.Took led l b.bytes) (sym (logs_same l)) z)) v)
            (again m1 f1 (suc (suc n)) e w led x pl (ed ∙ ap (λ z. z.edition) (sym e0)) (ap (λ z. z.bytes) e0 ∙ is) now1 (λ a z. sub a (Memᴰ.tail z)) todo1 (pour o logs all i c lt es s t.box 0 t.bytes refl ed0 (P.laws.pages_new sd.1 x now' t mine).1 a)
            (V.work_page (omega (arith, bud2, tb)) sd.1 x now' t mine (sym ed0) w wk) ms (omega (arith, bud)) (omega (arith, bud2)))
          where
            ed0 : 0 ≡ (f t.box).edition
            ed0 = eqb-true 0 (f t.box).edition y

            now1 : Now f1 (o.due led) x
            now1 = now_on f f1 (o.due led) x (λ b d. ap (λ z. z.bytes) (at_other t.box (record { edition = 1; bytes = t.bytes }) f b
                (λ z. let q = (P.laws.spent_filled sd.1 b (P.laws.due_spent sd.1 b (ap o.due is ∙ d))).1 in let u : (f b).edition ≡ 0 = ap (λ w. (f w).edition) z ∙ sym ed0 in omega (arith, q, u)))) now

            todo1 : (a : Filling) → Memᴰ a (o.pages led x) → Filled ts f1 a
            todo1 a m = ⊎_elim (λ z. inl (at_one (λ b. 1 ≤ b.edition) t.box (record { edition = 1; bytes = t.bytes }) f a.box (λ _. omega arith) (λ _. z)))
                (λ z. ⊎_elim (λ u. inl (at_one (λ b. 1 ≤ b.edition) t.box (record { edition = 1; bytes = t.bytes }) f a.box (λ _. omega arith) (λ ne. absurd (ne (ap (λ b. b.box) u))))) (λ u. inr u) (Memᴰ.cases_cons z)) (todo a m)
        go again (inr y) = again m1 f (suc (suc n)) e w led x pl ed is now (λ a z. sub a (Memᴰ.tail z)) todo1 (miss o logs all i c lt es s t.box 0 t.bytes refl ed1 a) wk ms (omega (arith, bud)) (omega (arith, bud2))
          where
            ed1 : 0 ≡ (f t.box).edition → ⊥
            ed1 = eqb-false 0 (f t.box).edition y

            todo1 : (a : Filling) → Memᴰ a (o.pages led x) → Filled ts f a
            todo1 a m = ⊎_elim (λ z. inl z) (λ z. ⊎_elim (λ u. let q : (f a.box).edition ≡ (f t.box).edition = ap (λ b. (f b.box).edition) u in inl (omega (arith, q, ed1))) (λ u. inr u) (Memᴰ.cases_cons z)) (todo a m)

    -- what is in hand, while logs are looked at: the ledger as it is, or another that is still to be filled
    abbrev led' : (ℕ → Box) → List ℕ → ℕ → Box
    led' f y = at 0 (record { edition = (f 0).edition + 1; bytes = y }) f

    abbrev Pend : ℕ → Mind → (ℕ → Box) → (n w : ℕ) → List ℕ → Bool → Type 0
    Pend k m f n w y false = (y ≡ (f 0).bytes) × ((fl : List ℕ) × (m.floor ≡ o.raise (f 0).bytes fl)) × V.Work w f × (m.left + w < suc k) × (n + 12 * (m.left + w) + 10 ≤ tot)
    Pend k m f n w y true = (m.left + w < k) × (n + 12 * (m.left + w) + 20 ≤ tot)

    pend_bound : (k : ℕ) (m : Mind) (f : ℕ → Box) (n w : ℕ) (y : List ℕ) (ch : Bool) → Pend k m f n w y ch → n + 4 < P.bound
    pend_bound k m f n w y false h = omega (arith, h.4, tb)
    pend_bound k m f n w y true h = omega (arith, h.1, tb)

    stops : (k : ℕ) → Rec k → (m : Mind) (f : ℕ → Box) (n w : ℕ) (y : List ℕ) (ch : Bool) → m.place < logs → o.due y ≡ nothing → V.Work w (led' f y) → Pend k m f n w y ch → A (cond ch (asks m (fill 0 (f 0).edition y) kept) (idle o logs m)) f n → Done m.keep f tot (λ l. V.Took y l (f (log_box l)).bytes)
    stops k rec m f n w y true pl d wk h a = done_on (λ l. refl) (λ l u v. inr v) (refilled k rec m f n (f 0).edition w y pl a refl wk h.0 (omega (arith, h.1)))
    stops k rec m f n w y false pl d wk h a = record {
      m = m;
      f = f;
      n = n;
      at' = a;
      keep = refl;
      same = λ l. refl;
      idle' = ap o.due (sym h.0) ∙ d;
      fl = h.1.0;
      floor = h.1.1;
      took = λ l u v. subst (λ z. V.Took z l (f (log_box l)).bytes) h.0 v;
      w = w;
      work = h.2;
      spent = omega (arith, h.4);
    }

    -- one look
    pub record Took1 (f : ℕ → Box) (n l : ℕ) (y x : List ℕ) : Type 0 where
      pub ls : List (List Entry)
      pub sound : P.Sound n ls (led' f x)
      pub less : o.differs y x ≡ true → (w : ℕ) → V.Work w (led' f y) → (v : ℕ) × (v < w) × V.Work v (led' f x)
      pub took : o.due x ≡ nothing → V.Took x l (f (log_box l)).bytes
      pub others : (k : ℕ) → k < logs → V.Took y k (f (log_box k)).bytes → V.Took x k (f (log_box k)).bytes

    module _ (f : ℕ → Box) (n : ℕ) (sm : n < P.bound) (ls : List (List Entry)) (y : List ℕ) (sd : P.Sound n ls (led' f y)) (d : o.due y ≡ nothing) (l : ℕ) (ll : l < logs) where
      e0 : (led' f y 0).bytes ≡ y
      e0 = ap (λ z. z.bytes) (at_self 0 (record { edition = (f 0).edition + 1; bytes = y }) f)

      el : (k : ℕ) → (led' f y (log_box k)).bytes ≡ (f (log_box k)).bytes
      el k = ap (λ z. z.bytes) (at_other 0 (record { edition = (f 0).edition + 1; bytes = y }) f (log_box k) (log_some k))

      d1 : o.due (led' f y 0).bytes ≡ nothing
      d1 = ap o.due e0 ∙ d

      take1 : (g : Gives) → o.take y l (f (log_box l)).bytes ≡ g → o.take (led' f y 0).bytes l (led' f y (log_box l)).bytes ≡ g
      take1 g e = ap₂ (λ a b. o.take a l b) e0 (el l) ∙ e

      twice : (x : List ℕ) → at 0 (record { edition = (f 0).edition + 1; bytes = x }) (led' f y) ≡ led' f x
      twice x = at_twice 0 (record { edition = (f 0).edition + 1; bytes = x }) (record { edition = (f 0).edition + 1; bytes = y }) f

      look_gives : o.take y l (f (log_box l)).bytes ≡ lacks → ⊥
      look_gives e = V.take_gives sm sd d1 l ll (take1 lacks e)

      look_took : (x : List ℕ) → o.take y l (f (log_box l)).bytes ≡ gives x → Took1 f n l y x
      look_took x e = record {
        ls = ls;
        sound = subst (P.Sound n ls) (twice x) (P.laws.take_ok (f 0).edition l (led' f y (log_box l)).bytes x sm sd d1 ll (P.laws.log_now sd l) (take1 (gives x) e)).0;
        less = λ t w wk. let q = V.work_take sm sd d1 l x ll (take1 (gives x) e) (ap (λ z. o.differs z x) e0 ∙ t) ((f 0).edition + 1) w wk in (q.0, q.1, subst (V.Work q.0) (twice x) q.2);
        took = λ z. subst (V.Took x l) (el l) (V.took_take sm sd d1 l x ll (take1 (gives x) e) z);
        others = λ k kl z. subst (V.Took x k) (el k) (V.took_other sm sd d1 l x ll (take1 (gives x) e) k kl (subst₂ (λ a b. V.Took a k b) (sym e0) (sym (el k)) z));
      }

    -- what is in hand after a look
    pub record Looked (k : ℕ) (m : Mind) (f : ℕ → Box) (n : ℕ) (x : List ℕ) (ch : Bool) : Type 0 where
      pub w : ℕ
      pub work : V.Work w (led' f x)
      pub pend : Pend k m f n w x ch

    pend_next : (k : ℕ) (m m' : Mind) (f : ℕ → Box) (n w : ℕ) (y x : List ℕ) (ch b : Bool) → m.left ≡ suc m'.left → m'.floor ≡ m.floor → (b ≡ true → (w : ℕ) → V.Work w (led' f y) → (v : ℕ) × (v < w) × V.Work v (led' f x)) → (b ≡ false → y ≡ x) →
        V.Work w (led' f y) → Pend k m f n w y ch → Looked k m' f (suc (suc n)) x (ch || b)
    pend_next k m m' f n w y x true true lf fe less same wk h = let q = less refl w wk in let r = q.1 in record { w = q.0; work = q.2; pend = (omega (arith, h.0, r, lf), omega (arith, h.1, r, lf)) }
    pend_next k m m' f n w y x true false lf fe less same wk h = record { w = w; work = subst (λ z. V.Work w (led' f z)) (same refl) wk; pend = (omega (arith, h.0, lf), omega (arith, h.1, lf)) }
    pend_next k m m' f n w y x false true lf fe less same wk h = let q = less refl w wk in let r = q.1 in record { w = q.0; work = q.2; pend = (omega (arith, h.3, r, lf), omega (arith, h.4, r, lf)) }
    pend_next k m m' f n w y x false false lf fe less same wk h = record {
      w = w;
      work = subst (λ z. V.Work w (led' f z)) (same refl) wk;
      pend = (sym (same refl) ∙ h.0, (h.1.0, fe ∙ h.1.1), h.2, omega (arith, h.3, lf), omega (arith, h.4, lf));
    }

    pend_full : (k : ℕ) (m : Mind) (f : ℕ → Box) (n w v : ℕ) (y : List ℕ) (ch : Bool) → v < w → Pend k m f n w y ch → (m.left + v < k) × (suc (suc n) + 12 * (m.left + v) + 14 ≤ tot)
    pend_full k m f n w v y true less h = (omega (arith, h.0, less), omega (arith, h.1, less))
    pend_full k m f n w v y false less h = (omega (arith, h.3, less), omega (arith, h.4, less))

    not_nothing : (d : Calls) → is_nothing d ≡ true → d ≡ nothing
    not_nothing nothing e = refl
    not_nothing alone e = absurd (both_ways false refl e)
    not_nothing (with_page b) e = absurd (both_ways false refl e)

    next_in : (pl : ℕ) → next pl < logs
    next_in pl = cond_both (ltb (pl + 1) logs) (pl + 1) 0 (λ z. z < logs) (λ t. ltb-true (pl + 1) logs t) (λ t. omega (arith, one))

    -- the logs that are left are looked at: each is taken, or makes a step due, which is done first
    abbrev Looks : (k j : ℕ) → Type 0
    Looks k j = (m : Mind) → m.left ≡ j → m.place < logs → (f : ℕ → Box) (n w : ℕ) (y : List ℕ) (ch : Bool) → A (next_log o logs m (f 0).edition y ch) f n → (ls : List (List Entry)) → P.Sound n ls (led' f y) → o.due y ≡ nothing → V.Work w (led' f y) → Pend k m f n w y ch → Done m.keep f tot (Todo j m.place y f)

    looks : (k : ℕ) → Rec k → (j : ℕ) → Looks k j
    looks k rec zero m lf pl f n w y ch a ls sd d wk h = done_on (λ l. refl) (λ l u v. ⊎_elim (λ z. absurd z) (λ z. z) v)
        (stops k rec m f n w y ch pl d wk h (subst (λ z. A z f n) (cond-false (ltb m.place logs && not (eqb m.left 0)) (asks m (show (log_box m.place)) (look (f 0).edition y ch m.place)) (cond ch (asks m (fill 0 (f 0).edition y) kept) (idle o logs m))
        (and_right (ltb m.place logs) (not (eqb m.left 0)) (not_from_true (eqb m.left 0) (eq-eqb m.left 0 lf)))) a))
    looks k rec (suc j) m lf pl f n w y ch a ls sd d wk h =
        by (looks k rec j) (o.take y m.place (f (log_box m.place)).bytes) refl
        (see o logs all i c lt es s (log_box m.place) refl (subst (λ z. A z f n) (cond-true (ltb m.place logs && not (eqb m.left 0)) (asks m (show (log_box m.place)) (look (f 0).edition y ch m.place)) (cond ch (asks m (fill 0 (f 0).edition y) kept) (idle o logs m))
        (and_from (ltb m.place logs) (not (eqb m.left 0)) (lt-ltb m.place logs pl) (not_from_false (eqb m.left 0) (ne_eqb m.left 0 (λ z. omega (arith, z, lf)))))) a))
      where
        e : ℕ
        e = (f 0).edition

        m2 : Mind
        m2 = hearing (asks m (show (log_box m.place)) (look e y ch m.place)).mind true

        sm : suc (suc n) < P.bound
        sm = let q = pend_bound k m f n w y ch h in omega (arith, q)

        by : Looks k j → (g : Gives) → o.take y m.place (f (log_box m.place)).bytes ≡ g → A (took_by o logs m2 e y ch m.place g) f (suc (suc n)) → Done m.keep f tot (Todo (suc j) m.place y f)
        by again lacks t a2 = absurd (look_gives f (suc (suc n)) sm ls y (P.laws.later (P.laws.later sd)) d m.place pl t)
        by again (gives x) t a2 = due_or_none (cases_Bool (is_nothing (o.due x)))
          where
            T1 : Took1 f (suc (suc n)) m.place y x
            T1 = look_took f (suc (suc n)) sm ls y (P.laws.later (P.laws.later sd)) d m.place pl x t

            m3 : Mind
            m3 = looking m2 m.floor (next m.place) (less_one o logs m.left)

            goes_on : Step
            goes_on = next_log o logs m3 e x (ch || o.differs y x)

            stops_here : Step
            stops_here = cond (ch || o.differs y x) (asks m2 (fill 0 e x) kept) (read_ledger o logs m2)

            less_one_is : (a : ℕ) → a ≡ suc j → less_one o logs a ≡ j
            less_one_is zero z = absurd (omega (arith, z))
            less_one_is (suc b) z = omega (arith, z)

            due_or_none : (is_nothing (o.due x) ≡ true) ⊎ (is_nothing (o.due x) ≡ false) → Done m.keep f tot (Todo (suc j) m.place y f)
            due_or_none (inl u) = let q = less_one_is m.left lf in let dx = not_nothing (o.due x) u in let pn = pend_next k m m3 f n w y x ch (o.differs y x) (omega (arith, lf, q)) refl T1.less (V.differs_not y x) wk h in
                done_on (λ l. refl) (λ l kl v. ⊎_elim (λ z. ⊎_elim (λ v. inr (subst (λ b. V.Took x b (f (log_box b)).bytes) (sym v) (T1.took dx))) (λ v. inl v) z) (λ z. inr (T1.others l kl z)) v)
                (again m3 q (next_in m.place) f (suc (suc n)) pn.w x (ch || o.differs y x) (subst (λ z. A z f (suc (suc n))) (cond-true (is_nothing (o.due x)) goes_on stops_here u) a2) T1.ls T1.sound dx pn.work pn.pend)
            due_or_none (inr u) = let df : o.differs y x ≡ true = ⊎_elim (λ z. z) (λ z. absurd (both_ways (is_nothing (o.due x)) u (ap is_nothing (ap o.due (sym (V.differs_not y x z)) ∙ d)))) (cases_Bool (o.differs y x)) in
                let v = T1.less df w wk in let q = pend_full k m f n w v.0 y ch v.1 h in
                done_on (λ l. refl) (λ l kl v. ⊎_elim (λ z. inl (subst (λ b. ahead b m.place l) (sym lf) z)) (λ z. inr (T1.others l kl z)) v)
                (refilled k rec m2 f (suc (suc n)) e v.0 x pl (subst (λ z. A z f (suc (suc n))) (cond-false (is_nothing (o.due x)) goes_on stops_here u ∙ cond-true (ch || o.differs y x) (asks m2 (fill 0 e x) kept) (read_ledger o logs m2) (or_right ch (o.differs y x) df)) a2) refl v.2 q.0 q.1)

    -- so it ends, by that measure
    pub ledger_done : (k : ℕ) → Rec k
    ledger_done zero m f n w pl a wk ms bud = absurd (omega (arith, ms))
    ledger_done (suc k) m f n w pl a wk ms bud = by (ledger_done k) (o.due (f 0).bytes) refl (see o logs all i c lt es s 0 refl a)
      where
        m2 : Mind
        m2 = looking (hearing (asks m (show 0) ledger).mind true) (o.raise (f 0).bytes m.floor) m.place m.left

        sd : (ls : List (List Entry)) × P.Sound n ls f × (total ls ≤ calls es)
        sd = sound_at a (omega (arith, bud, tb))

        by : Rec k → (d : Calls) → o.due (f 0).bytes ≡ d → A (on_ledger_by o logs m2 (f 0) d) f (suc (suc n)) → Done m.keep f tot (Todo m.left m.place (f 0).bytes f)
        by rec nothing e a2 = looks k rec m.left m2 refl pl f (suc (suc n)) w (f 0).bytes false a2 sd.0 (P.laws.same_ok (f 0).edition (P.laws.later (P.laws.later sd.1))).0 e (V.work_same ((f 0).edition + 1) w wk) (refl, (m.floor, refl), wk, ms, omega (arith, bud))
        by rec alone e a2 = let few = V.few_pages (f 0).bytes [] in
            writes k rec (o.pages (f 0).bytes []) m2 f (suc (suc n)) (f 0).edition w (f 0).bytes [] pl refl refl (subst (λ z. Now f z []) (sym e) refl) (λ a m. m) (λ a m. inr m) a2 wk ms (omega (arith, bud, few)) (omega (arith, bud, few, ms))
        by rec (with_page b) e a2 = let few = V.few_pages (f 0).bytes (f b).bytes in let ed = (P.laws.spent_filled sd.1 b (P.laws.due_spent sd.1 b e)).1 in
            writes k rec (o.pages (f 0).bytes (f b).bytes) m3 f (suc (suc (suc (suc n)))) (f 0).edition w (f 0).bytes (f b).bytes pl refl refl (subst (λ z. Now f z (f b).bytes) (sym e) refl) (λ a m. m) (λ a m. inr m)
            (subst (λ z. A z f (suc (suc (suc (suc n))))) (cond-false (is_no_page o logs (f 0).bytes (f b)) (read_ledger o logs m3) (write o logs m3 (f 0).edition (o.pages (f 0).bytes (f b).bytes) (o.after (f 0).bytes (f b).bytes)) (or_from (eqb (f b).edition 0) (not (o.differs (f 0).bytes (o.after (f 0).bytes (f b).bytes))) (ne_eqb (f b).edition 0 (λ z. omega (arith, z, ed))) (not_from_true (o.differs (f 0).bytes (o.after (f 0).bytes (f b).bytes)) (V.step_differs (omega (arith, bud, tb)) sd.1 (f b).bytes (subst (λ z. Now f z (f b).bytes) (sym e) refl)))))
            (see o logs all i c lt es s b refl a2)) wk ms (omega (arith, bud, few)) (omega (arith, bud, few, ms))
          where
            m3 : Mind
            m3 = hearing (asks m2 (show b) (page' (f 0).edition (f 0).bytes b)).mind true
