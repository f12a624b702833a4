-- The worker alone: what it asks is answered, two steps at a time; each run is also one that can happen, so that all that is known of what can happen is known along it.
use Rattle.std.proofs.Common.{◌≡◌, ℕ, suc, ◌+◌, ◌<◌, ◌≤◌, Bool, true, false, cond, not, ◌||◌, eqb, List, [], ◌∷◌, ◌++◌, sym, refl, ap, ◌∙◌, subst, arith}
use mathlib.Core.List.Memᴰ
use mathlib.Core.List.{Memᴰ}
use Rattle.std.proofs.lemmas.Bool.{eq-eqb, cond-true, cond-false}
use Rattle.streams.specs.Calls.{Call, Reply}
use Rattle.streams.specs.Hands.{Box, In, Shown, Filled, Beat, Way, wants_box, wants_fill, here, Seen, told, at, Scene, Comes, a_beat, Goes}
use Rattle.book.specs.Interface.{Ops}
use Rattle.worker.specs.Worker.{Mind, Told, Asks, none', show, fill, Step, hearing, stays, is_rest, start, on_shown, on_filled, acts, worker}
use Rattle.shelf.proofs.Scripts.{Fits, Script, begin, under_way, Turned, take_turn, Answered, be_shown, fail_to_fill}
use Rattle.shelf.proofs.Scripts as scripts
use Rattle.worker.proofs.Jobs.{tolds, tells_are, sent_are, ways_of}

in_tolds : (i : ℕ) (ts : List Told) (t : Told) → Memᴰ t ts → Memᴰ (told i t.number t.reply) (tolds i ts)
unfolding tolds
in_tolds i [] t m = elim m [ ]
in_tolds i (a ∷ ts) t (Memᴰ.head e) = Memᴰ.head (ap (λ z. told i z.number z.reply) e)
in_tolds i (a ∷ ts) t (Memᴰ.tail m) = Memᴰ.tail (in_tolds i ts t m)

module _ (o : Ops) (logs all i c : ℕ) (lt : i < all) (es : List (Seen Call Reply)) (s : Scene Mind ℕ) where
  -- the worker alone, after some steps: its mind, the boxes, how many steps
  abbrev pub Mid : Mind → (ℕ → Box) → ℕ → Type 0
  Mid m f n = Script (worker o logs) all i c lt es s m f n

  abbrev pub Wanted : ℕ → Asks → List (Way ℕ) → Type 0
  Wanted q none' new = Unit {0}
  Wanted q (show b) new = Memᴰ (wants_box i c q b) new
  Wanted q (fill b e bs) new = Memᴰ (wants_fill i c q b e bs) new

  -- a step of the worker was just done: what it asked for is under way, what it told was told
  pub record At (r : Step) (f : ℕ → Box) (n : ℕ) : Type 0 where
    pub mid : Mid r.mind f n
    pub wants : Wanted r.mind.asked r.ask mid.new
    pub tolds' : (t : Told) → Memᴰ t r.tell → Memᴰ (told i t.number t.reply) mid.fs

  wanted_of : (q : ℕ) (a : Asks) (new : List (Way ℕ)) → Wanted q a (ways_of i c q a ++ new)
  wanted_of q none' new = tt
  wanted_of q (show b) new = Memᴰ.head refl
  wanted_of q (fill b e bs) new = Memᴰ.head refl

  pub mid_turn : {m : Mind} {f : ℕ → Box} {n : ℕ} (a : Mid m f n) (x : In ℕ Call) → Comes i c a.new x → At (acts o logs x m) f (suc n)
  mid_turn {m} {f} {n} a x k = record {
    mid = t.after;
    wants = subst (Wanted r.mind.asked r.ask) (sym (t.asked_are ∙ ap (λ z. z ++ a.new) (sent_are i c r.mind.asked r.tell r.ask))) (wanted_of r.mind.asked r.ask a.new);
    tolds' = λ u y. subst (Memᴰ (told i u.number u.reply)) (sym t.told_are) (Memᴰ.append_left a.fs (subst (Memᴰ (told i u.number u.reply)) (sym (tells_are i r.mind.asked r.tell r.ask)) (in_tolds i r.tell u y)));
  }
    where
      r : Step
      r = acts o logs x m

      t : Turned (worker o logs) all i c lt es s a x
      t = take_turn (worker o logs) all i c lt es s a x k

  pub mid_in : {m : Mind} {f : ℕ → Box} {n : ℕ} (a : Mid m f n) {w : Way ℕ} → Memᴰ w a.new → Memᴰ w a.to.ways
  mid_in a = under_way (worker o logs) all i c lt es s a

  -- what was asked is shown to it
  pub see : {r : Step} {f : ℕ → Box} {n : ℕ} (b : ℕ) → r.ask ≡ show b → At r f n → At (on_shown o logs (hearing r.mind true) (f b) r.mind.phase) f (suc (suc n))
  unfolding acts
  see {r} {f} {n} b is a = subst (λ z. At z f (suc (suc n))) (cond-true (eqb q q) (on_shown o logs (hearing r.mind true) (f b) r.mind.phase) (stays r.mind) (eq-eqb q q refl)) (mid_turn x.script (Shown q (f b)) x.comes)
    where
      q : ℕ
      q = r.mind.asked

      x : Answered (worker o logs) all i c lt es s r.mind f (suc n) (Shown q (f b))
      x = be_shown (worker o logs) all i c lt es s a.mid q b (subst (λ z. Wanted q z a.mid.new) is a.wants)

  -- a filling is done, if it is of the edition that the box has, and fits
  pub pour : {r : Step} {f : ℕ → Box} {n : ℕ} (b e : ℕ) (bs : List ℕ) → r.ask ≡ fill b e bs → e ≡ (f b).edition → Fits bs → At r f n → At (on_filled o logs (hearing r.mind true) true r.mind.phase) (at b (record { edition = e + 1; bytes = bs }) f) (suc (suc n))
  unfolding acts
  pour {r} {f} {n} b e bs is ed fit a = subst (λ z. At z (at b (record { edition = e + 1; bytes = bs }) f) (suc (suc n))) (cond-true (eqb q q) (on_filled o logs (hearing r.mind true) true r.mind.phase) (stays r.mind) (eq-eqb q q refl)) (mid_turn x.script (Filled q true (e + 1)) x.comes)
    where
      q : ℕ
      q = r.mind.asked

      x : Answered (worker o logs) all i c lt es s r.mind (at b (record { edition = e + 1; bytes = bs }) f) (suc n) (Filled q true (e + 1))
      x = scripts.fill (worker o logs) all i c lt es s a.mid q b e bs (subst (λ z. Wanted q z a.mid.new) is a.wants) ed fit

  -- it is not done, if it is of another edition
  pub miss : {r : Step} {f : ℕ → Box} {n : ℕ} (b e : ℕ) (bs : List ℕ) → r.ask ≡ fill b e bs → (e ≡ (f b).edition → ⊥) → At r f n → At (on_filled o logs (hearing r.mind true) false r.mind.phase) f (suc (suc n))
  unfolding acts
  miss {r} {f} {n} b e bs is ed a = subst (λ z. At z f (suc (suc n))) (cond-true (eqb q q) (on_filled o logs (hearing r.mind true) false r.mind.phase) (stays r.mind) (eq-eqb q q refl)) (mid_turn x.script (Filled q false (f b).edition) x.comes)
    where
      q : ℕ
      q = r.mind.asked

      x : Answered (worker o logs) all i c lt es s r.mind f (suc n) (Filled q false (f b).edition)
      x = fail_to_fill (worker o logs) all i c lt es s a.mid q b e bs (subst (λ z. Wanted q z a.mid.new) is a.wants) ed

  -- two beats lead to the first showing
  pub begun : {n : ℕ} (m : Mind) → Goes (worker o logs) all n es s → s.hand i ≡ here c m → (k : ℕ) × (k ≤ 2 + n) × At (start o logs (hearing m false)) s.box k
  unfolding acts
  begun {n} m g e = go (is_rest m.phase || not m.heard) refl
    where
      d0 : Mid m s.box n
      d0 = begin (worker o logs) all i c lt es s g e

      beats : (m : Mind) → acts o logs Beat m ≡ cond (is_rest m.phase || not m.heard) (start o logs (hearing m false)) (stays (hearing m false))
      beats m = refl

      or_true : (b : Bool) → (b || true) ≡ true
      or_true true = refl
      or_true false = refl

      go : (b : Bool) → (is_rest m.phase || not m.heard) ≡ b → (k : ℕ) × (k ≤ 2 + n) × At (start o logs (hearing m false)) s.box k
      go true t = (suc n, omega arith, subst (λ z. At z s.box (suc n)) (beats m ∙ cond-true (is_rest m.phase || not m.heard) (start o logs (hearing m false)) (stays (hearing m false)) t) (mid_turn d0 Beat a_beat))
      go false t =
          let d1 : At (stays (hearing m false)) s.box (suc n) = subst (λ z. At z s.box (suc n)) (beats m ∙ cond-false (is_rest m.phase || not m.heard) (start o logs (hearing m false)) (stays (hearing m false)) t) (mid_turn d0 Beat a_beat) in
          (suc (suc n), omega arith, subst (λ z. At z s.box (suc (suc n))) (beats (hearing m false) ∙ cond-true (is_rest m.phase || true) (start o logs (hearing m false)) (stays (hearing m false)) (or_true (is_rest m.phase))) (mid_turn d1.mid Beat a_beat))
