-- OneIsEnough and ComesOut for the worker, over any book that keeps Safe and Live.
use Rattle.std.proofs.Common.{◌≡◌, ℕ, suc, ◌+◌, ◌*◌, ◌<◌, ◌≤◌, true, false, not, T, ltb, leb, ◌⊎◌, List, [], ◌∷◌, ◌++◌, length, sym, refl, ap, ◌∙◌, subst, subst₂, inl, inr, ⊎_elim, arith}
use mathlib.Core.List.Memᴰ
use mathlib.Core.List.{Memᴰ}
use Rattle.std.proofs.lemmas.Bool.{lt-ltb, le-leb, cond-true}
use Rattle.streams.specs.Meaning.{Entry, Plan, out}
use Rattle.streams.specs.Calls.{Call, Out', Reply, Outs, State, core, first_of, drop_of}
use Rattle.streams.specs.Hands.{Ask, Hand, Stand, here, Seen, called, told, tells, is_used, Scene, Waits, count_at, turned, asking, Alone, Goes, asked, Open, Ready, Book}
use Rattle.streams.specs.Promise.{streams}
use Rattle.book.specs.Ledger.{log_box}
use Rattle.book.specs.Interface.{horizon, nothing, Ops, Safe}
use Rattle.worker.specs.Worker.{Job, none, some, rest, Keep, Mind, none', asks, keeping, hearing, waits, start, start_by, accepts, judges, refuses, acts, worker, puts_of}
use Rattle.book.specs.Live.{Live, AnswersAll}
use Rattle.shelf.specs.Moments.{calls}
use Rattle.worker.specs.Theorems.{WorkerEnds, WorkerOut, WorkerWithin}
use Rattle.shelf.proofs.Places.{at_self}
use Rattle.shelf.proofs.Made.{calls_asked, calls_most, calls_alone}
use Rattle.shelf.proofs.Waiting.{Waiting, waits_ok}
use Rattle.worker.proofs.Invariant.{none_some}
use Rattle.worker.proofs.Onebook.{inv}
use Rattle.worker.proofs.Jobs.{state_of}
use Rattle.worker.proofs.Safelaws.{safe_laws}
use Rattle.worker.proofs.Keeping.{HasM, worker_keeps_calls, worker_takes_calls, alone_waits, count_none}
use Rattle.worker.proofs.Alone.{At, begun}
use Rattle.worker.proofs.Tending.{sound_at}
use Rattle.worker.proofs.Ends.{Final, all_ends, Answered, ask_answer}

-- a hand that keeps nothing has no call in mind
empty_has : (k : Keep) (n : ℕ) → k.batch ≡ none → k.waiting ≡ [] → ((j : Job) × Memᴰ j k.waiting × (n ≡ j.number)) ⊎ ((l : ℕ) × (ps : List Job) × (k.batch ≡ some l ps) × (j : Job) × Memᴰ j ps × (n ≡ j.number)) → ⊥
empty_has k n b w (inl z) = elim (subst (Memᴰ z.0) w z.1) [ ]
empty_has k n b w (inr z) = none_some (sym b ∙ z.2)

module _ (o : Ops) (p : Plan) (logs : ℕ) (P : Safe o p logs) (V : Live o p logs P) (one : 1 ≤ logs) (all n : ℕ) (al : all ≤ 64) (sm : n < 72057594037927936) (es : List (Seen Call Reply)) (s : Scene Mind ℕ) (g : Goes (worker o logs) all n es s)
    (i c : ℕ) (m : Mind) (lt : i < all) (e : s.hand i ≡ here c m) where
  abbrev H : Hand ℕ Call Reply
  H = worker o logs

  made : calls es ≤ horizon
  made = let q = calls_most g in omega (arith, q, sm)

  -- room for all
  tot : (t : ℕ) × (t + 2 * V.long + 20 < P.bound) × Final o p logs P V one all i c al lt es s made t
  tot =
      let en = V.enough (calls es) made in
      let b = begun o logs all i c lt es s m g e in let le = b.1 in
      let sb : b.0 < P.bound = omega (arith, le, sm, en) in
      let sd = sound_at o p logs P V one all i c al lt es s made b.2 sb in
      let t : ℕ = n + 132 * V.heavy (calls es) + 20 * V.long + 24 * logs + 442 in
      (t, omega (arith, sm, en), all_ends o p logs P V one all i c al lt es s made (hearing m false) s.box b.0 (V.heavy (calls es)) t (omega (arith, sm, en)) (V.work_most sb sd.1 (calls es) sd.2) (omega (arith, le)) b.2)

  abbrev F : Final o p logs P V one all i c al lt es s made tot.0
  F = tot.2

  abbrev to : Scene Mind ℕ
  to = F.at'.mid.to

  abbrev M : Mind
  M = (asks F.m none' rest).mind

  no_waits : (a : Waits) → Memᴰ a to.waits → i ≡ a.hand → ⊥
  no_waits a k y = let h = waits_ok H HasM (worker_keeps_calls o logs) (worker_takes_calls o logs) F.at'.mid.goes a k in
      empty_has F.m.keep a.number F.empty.0 F.empty.1 (subst (λ z. Waiting HasM z a.number) (ap to.hand (sym y) ∙ F.at'.mid.minds) h)

  -- all that waits is told
  pub one_enough : (fs : List (Seen Call Reply)) × (t : Scene Mind ℕ) × Alone H i s fs t × ((k : ℕ) → Memᴰ (record { hand = i; number = k }) s.waits → (r : Reply) × Memᴰ (told i k r) fs)
  one_enough = (F.at'.mid.fs, to, F.at'.mid.run, λ k w. ⊎_elim (λ z. absurd (no_waits (record { hand = i; number = k }) z refl)) (λ z. z) (alone_waits F.at'.mid.run k w))

  -- all that and how soon
  pub within : (fs : List (Seen Call Reply)) × (t : Scene Mind ℕ) × (k : ℕ) × Alone H i s fs t × Goes H all k (fs ++ es) t × (k ≤ n + 132 * V.heavy (calls es) + 20 * V.long + 24 * logs + 442) × (count_at i t.waits ≡ 0) ×
      (o.due (t.box 0).bytes ≡ nothing) × ((l : ℕ) → l < logs → V.Took (t.box 0).bytes l (t.box (log_box l)).bytes)
  unfolding tot
  within = (
    F.at'.mid.fs,
    to,
    F.n,
    F.at'.mid.run,
    F.at'.mid.goes,
    (let q = F.spent in omega (arith, q)),
    count_none i to.waits no_waits,
    subst (λ z. o.due (z 0).bytes ≡ nothing) (sym F.at'.mid.boxes) F.idle',
    λ l ll. subst (λ z. V.Took (z 0).bytes l (z (log_box l)).bytes) (sym F.at'.mid.boxes) (F.took l ll),
  )

  -- asked for what came out, at rest
  ask_is : (k from most : ℕ) → most ≤ 1024 → (x : Keep) × (x.batch ≡ none) × (x.waiting ≡ record { number = k; call = Out' from most } ∷ []) × ((acts o logs (Ask k (Out' from most)) M).mind.keep ≡ x)
  unfolding acts
  ask_is k from most le = (k', F.empty.0, is, ap (λ z. z.mind.keep) whole ∙ kept)
    where
      j : Job
      j = record { number = k; call = Out' from most }

      k' : Keep
      k' = waits M.keep (M.keep.waiting ++ (j ∷ []))

      is : k'.waiting ≡ j ∷ []
      is = ap (λ z. z ++ (j ∷ [])) F.empty.1

      room : ltb (length M.keep.waiting + puts_of M.keep.batch) 8 ≡ true
      room = lt-ltb (length M.keep.waiting + puts_of M.keep.batch) 8 (let a : length M.keep.waiting ≡ 0 = ap length F.empty.1 in let b : puts_of M.keep.batch ≡ 0 = ap puts_of F.empty.0 in omega (arith, a, b))

      whole : acts o logs (Ask k (Out' from most)) M ≡ start o logs (keeping M k')
      whole = cond-true (ltb (length M.keep.waiting + puts_of M.keep.batch) 8) (judges o logs M k (Out' from most)) (refuses o logs M k 11) room ∙ cond-true (leb most 1024) (accepts o logs M k (Out' from most)) (refuses o logs M k 1) (le-leb most 1024 le)

      kept : (start o logs (keeping M k')).mind.keep ≡ k'
      kept = subst₂ (λ y z. (start_by o logs (keeping M k') y z).mind.keep ≡ k') (sym F.empty.0) (sym is) refl

  near : F.n + 2 * V.long + 20 < P.bound
  near = let a = tot.1 in let b = F.spent in omega (arith, a, b)

  logs_then : (ls : List (List Entry)) × P.Sound F.n ls to.box × (os : List (Open Call)) × (rs : List (Ready Reply)) × Book (streams p logs core) (F.at'.mid.fs ++ es) (state_of p logs ls) os rs
  logs_then = let v = inv o p logs (safe_laws o p logs P) al (let a = near in omega (arith, a)) F.at'.mid.goes in let q = v.3.sound in let b = v.3.loose in
      (v.0.ls, subst (P.Sound F.n v.0.ls) q.is q.sound, b.opens, b.readies, b.book)

  abbrev Tells : (k from most : ℕ) → Mind → Type 0
  Tells k from most v = (gs : List (Seen Call Reply)) × (w : Scene Mind ℕ) × Alone H i (turned H i c (H.turns (Ask k (Out' from most)) v) (asking i k to)) gs w ×
      Memᴰ (told i k (Outs (first_of most (drop_of from (out p logs_then.0))))) (gs ++ tells i (H.turns (Ask k (Out' from most)) v).does)

  answers_m : AnswersAll o p logs P V → (k from most : ℕ) → T (not (is_used k (F.at'.mid.fs ++ es))) → k < 18446744073709551616 → most ≤ 1024 → Tells k from most M
  answers_m every k from most un ks ms =
      (r.at'.mid.fs, r.at'.mid.to, r.at'.mid.run, Memᴰ.append_left (tells i (H.turns (Ask k x) M).does) (subst (λ z. Memᴰ (told i k (Outs z)) r.at'.mid.fs) all_of (r.at'.tolds' (record { number = k; reply = Outs r.es' }) (Memᴰ.head refl))))
    where
      x : Call
      x = Out' from most

      m2 : Mind
      m2 = (acts o logs (Ask k x) M).mind

      s2 : Scene Mind ℕ
      s2 = turned H i c (H.turns (Ask k x) M) (asking i k to)

      es2 : List (Seen Call Reply)
      es2 = tells i (H.turns (Ask k x) M).does ++ called i k x ∷ (F.at'.mid.fs ++ es)

      b : (a : ℕ) × (a ≤ 2 + suc F.n) × At o logs all i c lt es2 s2 (start o logs (hearing m2 false)) to.box a
      b = begun o logs all i c lt es2 s2 m2 (asked i c k x M lt ks F.at'.mid.goes F.at'.mid.minds un) (at_self i (here c m2) to.hand)

      made2 : calls es2 ≤ horizon
      made2 = let a = calls_asked i k x (H.turns (Ask k x) M).does (F.at'.mid.fs ++ es) in let b = calls_alone es F.at'.mid.run in let c = calls_most g in omega (arith, a, b, c, sm)

      q : (y : Keep) × (y.batch ≡ none) × (y.waiting ≡ record { number = k; call = Out' from most } ∷ []) × (m2.keep ≡ y)
      q = ask_is k from most ms

      r : Answered o p logs P V one all i c al lt es2 s2 made2 (hearing m2 false).keep to.box (b.0 + 2 * V.long + 4) k from most
      r = ask_answer o p logs P V one all i c al lt es2 s2 made2 (hearing m2 false) to.box b.0 k from most (b.0 + 2 * V.long + 4) ms (let a = near in let z = b.1 in omega (arith, a, z)) (omega arith)
          (subst₂ (λ y z. At o logs all i c lt es2 s2 (start_by o logs (hearing m2 false) y z) to.box b.0) (ap (λ z. z.batch) q.3 ∙ q.1) (ap (λ z. z.waiting) q.3 ∙ q.2) b.2)

      f_is : F.f ≡ to.box
      f_is = sym F.at'.mid.boxes

      all_of : r.es' ≡ first_of most (drop_of from (out p logs_then.0))
      all_of = every F.n logs_then.0 to.box (let a = near in omega (arith, a)) logs_then.1 (subst (λ z. o.due (z 0).bytes ≡ nothing) f_is F.idle') (subst (λ z. (l : ℕ) → l < logs → V.Took (z 0).bytes l (z (log_box l)).bytes) f_is F.took) from most r.got r.es' ms r.gathered r.is

  same_mind : (v : Mind) → to.hand i ≡ here c v → M ≡ v
  same_mind v hv = let u : ◌≡◌ {A = Stand Mind} (here c M) (here c v) = sym F.at'.mid.minds ∙ hv in (cc)

  -- at rest, with nothing due and all taken, an answer is all that there is
  pub comes_out : AnswersAll o p logs P V → (fs : List (Seen Call Reply)) × (t : Scene Mind ℕ) × Alone H i s fs t × (count_at i t.waits ≡ 0) × (u : State) × (os : List (Open Call)) × (rs : List (Ready Reply)) × Book (streams p logs core) (fs ++ es) u os rs ×
      ((k from most : ℕ) (v : Mind) → t.hand i ≡ here c v → T (not (is_used k (fs ++ es))) → k < 18446744073709551616 → most ≤ 1024 → u.dropped ≤ from →
      (gs : List (Seen Call Reply)) × (w : Scene Mind ℕ) × Alone H i (turned H i c (H.turns (Ask k (Out' from most)) v) (asking i k t)) gs w ×
      Memᴰ (told i k (Outs (first_of most (drop_of from (out p u.logs))))) (gs ++ tells i (H.turns (Ask k (Out' from most)) v).does))
  comes_out every = (
    F.at'.mid.fs,
    to,
    F.at'.mid.run,
    count_none i to.waits no_waits,
    state_of p logs logs_then.0,
    logs_then.2,
    logs_then.3,
    logs_then.4,
    λ k from most v hv un ks ms dr. subst (Tells k from most) (same_mind v hv) (answers_m every k from most un ks ms),
  )

pub worker_ends : WorkerEnds
worker_ends o p logs P V one all n oneA al sm es s g i c m lt e = one_enough o p logs P V one all n al sm es s g i c m lt e

pub worker_out : WorkerOut
worker_out o plans lay p pp ok logs one lg all n oneA al sm es s g i c m lt e = let q = lay p pp ok logs one lg in comes_out (o p logs) p logs q.0 q.1 one all n al sm es s g i c m lt e q.2

pub worker_within : WorkerWithin
worker_within o p logs P V one all n al sm es s g i c m lt e = within o p logs P V one all n al sm es s g i c m lt e
