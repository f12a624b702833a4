-- The worker lets go of a call only by telling it; and what waited at a hand alone still waits, or was told.
use Rattle.std.proofs.Common.{◌≡◌, ℕ, ◌+◌, Bool, true, cond, not, eqb, ltb, leb, ◌⊎◌, List, [], ◌∷◌, ◌++◌, length, sym, refl, ap, ◌∙◌, subst, inl, inr, ⊎_elim}
use mathlib.Core.List.Memᴰ
use mathlib.Core.List.{Memᴰ}
use Rattle.std.proofs.lemmas.Bool.{eqb-true, eqb-false, not_from_false, cond-true, cond-false, cond_both, cases_Bool}
use Rattle.streams.specs.Calls.{Call, Put, Out', Drop, Reply, No, Yes, Outs, entry_ok}
use Rattle.streams.specs.Hands.{In, Ask, Out, To, Show, Fill, Tell, Hand, Seen, told, Scene, Waits, count_at, tells, settled, Alone, stay, turn, shown, filled, not_filled}
use Rattle.book.specs.Interface.{Ops}
use Rattle.worker.specs.Worker.{Job, Batch, some, Keep, Mind, Told, Step, keeping, waits, stays, start, for_log, keep_if, yeses, puts_of, is_rest, refuses, accepts, judges, acts, telling, asking', worker}
use Rattle.shelf.proofs.Counts.{stay_without}
use Rattle.worker.proofs.Invariant.{none_some}
use Rattle.worker.proofs.Busy.{HasK, Can', keeps, fixes, settles, answers, refuses', accepts', can, kp_start}

keep_in : (f : Job → Bool) (js : List Job) (j : Job) → Memᴰ j js → f j ≡ true → Memᴰ j (keep_if f js)
unfolding keep_if
keep_in f [] j m t = elim m [ ]
keep_in f (a ∷ js) j (Memᴰ.head e) t = subst (Memᴰ j) (sym (cond-true (f a) (a ∷ keep_if f js) (keep_if f js) (ap f (sym e) ∙ t))) (Memᴰ.head e)
keep_in f (a ∷ js) j (Memᴰ.tail m) t = cond_both (f a) (a ∷ keep_if f js) (keep_if f js) (Memᴰ j) (λ _. Memᴰ.tail (keep_in f js j m t)) (λ _. keep_in f js j m t)

yes_in : (ps : List Job) (j : Job) → Memᴰ j ps → Memᴰ (record { number = j.number; reply = Yes }) (yeses ps)
unfolding yeses
yes_in [] j m = elim m [ ]
yes_in (a ∷ ps) j (Memᴰ.head e) = Memᴰ.head (ap (λ z. record { number = z.number; reply = Yes }) e)
yes_in (a ∷ ps) j (Memᴰ.tail m) = Memᴰ.tail (yes_in ps j m)

abbrev Stays : ℕ → Step → Type 0
Stays k r = HasK r.mind.keep k ⊎ ((y : Reply) × Memᴰ (record { number = k; reply = y }) r.tell)

-- a call in mind stays there or is told
keeps_of : (x : In ℕ Call) (m : Mind) (r : Step) (k : ℕ) → Can' x m r → HasK m.keep k → Stays k r
keeps_of x m r k (keeps t e) h = inl (subst (λ z. HasK z k) (sym e) h)
keeps_of x m r k (fixes l t e nb) (inr z) = absurd (none_some (sym nb ∙ z.2))
keeps_of x m r k (fixes l t e nb) (inl z) = inl (subst (λ u. HasK u k) (sym e) (⊎_elim
    (λ f. inr (l, keep_if (λ j. for_log l j.call) m.keep.waiting, refl, z.0, keep_in (λ j. for_log l j.call) m.keep.waiting z.0 z.1 f, z.2))
    (λ f. inl (z.0, keep_in (λ j. not (for_log l j.call)) m.keep.waiting z.0 z.1 (not_from_false (for_log l z.0.call) f), z.2)) (cases_Bool (for_log l z.0.call))))
keeps_of x m r k (settles l ps b t e) (inl z) = inl (subst (λ u. HasK u k) (sym e) (inl z))
keeps_of x m r k (settles l ps b t e) (inr z) = let q : ◌≡◌ {A = Batch} (some z.0 z.1) (some l ps) = sym z.2 ∙ b in let u : z.1 ≡ ps = cc in
    inr (Yes, subst (Memᴰ (record { number = k; reply = Yes })) (sym t) (subst (λ w. Memᴰ (record { number = w; reply = Yes }) (yeses ps)) (sym z.5) (yes_in ps z.3 (subst (Memᴰ z.3) u z.4))))
keeps_of x m r k (answers n ev an t e) (inr z) = inl (subst (λ u. HasK u k) (sym e) (inr z))
keeps_of x m r k (answers n ev an t e) (inl z) = ⊎_elim
    (λ f. inr (Outs ev, subst (Memᴰ (record { number = k; reply = Outs ev })) (sym t) (Memᴰ.head (ap (λ w. record { number = w; reply = Outs ev }) (z.2 ∙ eqb-true z.0.number n f)))))
    (λ f. inl (subst (λ u. HasK u k) (sym e) (inl (z.0, keep_in (λ j. not (eqb j.number n)) m.keep.waiting z.0 z.1 (not_from_false (eqb z.0.number n) f), z.2)))) (cases_Bool (eqb z.0.number n))
keeps_of x m r k (refuses' n w c xe t e lots) h = inl (subst (λ z. HasK z k) (sym e) h)
keeps_of x m r k (accepts' n c xe t e) (inr z) = inl (subst (λ u. HasK u k) (sym e) (inr z))
keeps_of x m r k (accepts' n c xe t e) (inl z) = inl (subst (λ u. HasK u k) (sym e) (inl (z.0, Memᴰ.append_left (record { number = n; call = c } ∷ []) z.1, z.2)))

module _ (o : Ops) (logs : ℕ) where
  takes_accept : (m : Mind) (k : ℕ) (c : Call) → Stays k (accepts o logs m k c)
  takes_accept m k c = cond_both (is_rest m.phase) (start o logs (keeping m k')) (stays (keeping m k')) (Stays k) (λ t. inl (subst (λ z. HasK z k) (sym (kp_start o logs (keeping m k') k'.batch k'.waiting).1) has)) (λ t. inl has)
    where
      k' : Keep
      k' = waits m.keep (m.keep.waiting ++ (record { number = k; call = c } ∷ []))

      has : HasK k' k
      has = inl (record { number = k; call = c }, Memᴰ.append_right m.keep.waiting (Memᴰ.head refl), refl)

  no : (m : Mind) (k w : ℕ) → Stays k (refuses o logs m k w)
  no m k w = inr (No w, Memᴰ.head refl)

  takes_judge : (m : Mind) (k : ℕ) (c : Call) → Stays k (judges o logs m k c)
  takes_judge m k (Put l e) = cond_both (entry_ok e) (cond (ltb l logs) (accepts o logs m k (Put l e)) (refuses o logs m k 2)) (refuses o logs m k 1) (Stays k)
      (λ t. cond_both (ltb l logs) (accepts o logs m k (Put l e)) (refuses o logs m k 2) (Stays k) (λ t. takes_accept m k (Put l e)) (λ t. no m k 2)) (λ t. no m k 1)
  takes_judge m k (Out' f n) = cond_both (leb n 1024) (accepts o logs m k (Out' f n)) (refuses o logs m k 1) (Stays k) (λ t. takes_accept m k (Out' f n)) (λ t. no m k 1)
  takes_judge m k (Drop n) = no m k 12

  takes : (c : Call) (m : Mind) (k : ℕ) → Stays k (acts o logs (Ask k c) m)
  unfolding acts
  takes c m k = cond_both (ltb (length m.keep.waiting + puts_of m.keep.batch) 8) (judges o logs m k c) (refuses o logs m k 11) (Stays k) (λ t. takes_judge m k c) (λ t. no m k 11)

tell_in : (ts : List Told) (os : List (Out ℕ Reply)) (k : ℕ) (y : Reply) → Memᴰ (record { number = k; reply = y }) ts → Memᴰ (Tell k y) (telling ts os)
unfolding telling
tell_in [] os k y m = elim m [ ]
tell_in (t ∷ ts) os k y (Memᴰ.head e) = Memᴰ.head (ap (λ z. Tell z.number z.reply) e)
tell_in (t ∷ ts) os k y (Memᴰ.tail m) = Memᴰ.tail (tell_in ts os k y m)

abbrev pub HasM : Mind → ℕ → Type 0
HasM m k = HasK m.keep k

told_of : (k : ℕ) (r : Step) → Stays k r → HasK r.mind.keep k ⊎ ((y : Reply) × Memᴰ (Tell k y) (telling r.tell (asking' r.mind.asked r.ask)))
told_of k r (inl h) = inl h
told_of k r (inr h) = inr (h.0, tell_in r.tell (asking' r.mind.asked r.ask) k h.0 h.1)

-- a turn lets go of no call untold
pub worker_keeps_calls : (o : Ops) (logs : ℕ) (x : In ℕ Call) (m : Mind) (k : ℕ) → HasM m k → HasM ((worker o logs).turns x m).mind k ⊎ ((y : Reply) × Memᴰ (Tell k y) ((worker o logs).turns x m).does)
worker_keeps_calls o logs x m k h = told_of k (acts o logs x m) (keeps_of x m (acts o logs x m) k (can o logs x m) h)

-- and takes every call to mind, or tells it
pub worker_takes_calls : (o : Ops) (logs : ℕ) (c : Call) (m : Mind) (k : ℕ) → HasM ((worker o logs).turns (Ask k c) m).mind k ⊎ ((y : Reply) × Memᴰ (Tell k y) ((worker o logs).turns (Ask k c) m).does)
worker_takes_calls o logs c m k = told_of k (acts o logs (Ask k c) m) (takes o logs c m k)

-- ANY HAND ALONE
module _ {M O R : Type 0} where
  settled_or : (i k : ℕ) (os : List (Out M R)) (ws : List Waits) → Memᴰ (record { hand = i; number = k }) ws → Memᴰ (record { hand = i; number = k }) (settled i os ws) ⊎ ((r : R) × Memᴰ (told i k r) (tells {O = O} i os))
  unfolding settled tells
  settled_or i k [] ws m = inl m
  settled_or i k (To j w ∷ os) ws m = settled_or i k os ws m
  settled_or i k (Show q b ∷ os) ws m = settled_or i k os ws m
  settled_or i k (Fill q b e bs ∷ os) ws m = settled_or i k os ws m
  settled_or i k (Tell n y ∷ os) ws m = ⊎_elim (λ t. inr (y, Memᴰ.head (ap (λ z. told i z y) (sym (eqb-true n k t)))))
      (λ t. ⊎_elim (λ z. inl z) (λ z. inr (z.0, Memᴰ.tail z.1)) (settled_or i k os _ (stay_without i n ws (record { hand = i; number = k }) m (λ _ z. eqb-false n k t z)))) (cases_Bool (eqb n k))

  -- what waited still waits, or was told
  pub alone_waits : {h : Hand M O R} {i : ℕ} {s t : Scene h.Mind M} {fs : List (Seen O R)} → Alone h i s fs t → (k : ℕ) → Memᴰ (record { hand = i; number = k }) s.waits → Memᴰ (record { hand = i; number = k }) t.waits ⊎ ((r : R) × Memᴰ (told i k r) fs)
  alone_waits stay k m = inl m
  alone_waits {h = h} {i = i} (turn {es = es} {t = t} c v x new a e w cm) k m = ⊎_elim (λ z. ⊎_elim (λ y. inl y) (λ y. inr (y.0, Memᴰ.append_left es y.1)) (settled_or i k (h.turns x v).does t.waits z)) (λ z. inr (z.0, Memᴰ.append_right (tells i (h.turns x v).does) z.1)) (alone_waits a k m)
  alone_waits (shown c q b new a w k') k m = alone_waits a k m
  alone_waits (filled c q b e bs new a w k' t) k m = alone_waits a k m
  alone_waits (not_filled c q b e bs new a w k' t) k m = alone_waits a k m

pub count_none : (i : ℕ) (ws : List Waits) → ((a : Waits) → Memᴰ a ws → i ≡ a.hand → ⊥) → count_at i ws ≡ 0
unfolding count_at
count_none i [] f = refl
count_none i (w ∷ ws) f = cond-false (eqb i w.hand) (1 + count_at i ws) (count_at i ws) (⊎_elim (λ t. absurd (f w (Memᴰ.head refl) (eqb-true i w.hand t))) (λ t. t) (cases_Bool (eqb i w.hand))) ∙ count_none i ws (λ a m. f a (Memᴰ.tail m))
