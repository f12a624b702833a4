-- What may be answered to a call, as far as the call itself says it. Assumes nothing.
use Rattle.std.proofs.Common.{◌≡◌, ℕ, ◌<◌, ◌≤◌, Bool, true, false, not, ◌&&◌, T, ltb, length, Ok, Err, Result, sym, refl, subst, arith}
use Rattle.std.proofs.lemmas.Bool.{lt-ltb}
use Rattle.streams.specs.Meaning.{Event, Plan, Entry, Ev, Still, top}
use Rattle.streams.specs.Calls as spec
use Rattle.streams.specs.Calls.{Reply, No, State, Answers, core, small, entry_ok, put, bad_put, no_log, full, outs, too_many, gone, drop, no_drop, not_yet}
use Rattle.plans.specs.Model.{entry_of}
use Rattle.plans.specs.declared.entries.Entry as code
use Rattle.plans.specs.declared.numbers.LogNumber.{LogNumber}
use Rattle.plans.specs.declared.numbers.Place.{Place}
use Rattle.calls.specs.declared.kinds.Call.{Call}
use Rattle.calls.specs.declared.kinds.Refusal.{Refusal}
use Rattle.calls.specs.declared.kinds.Refusal.TheVariants.{Invalid, NoLog, NotBuilt}
use Rattle.calls.specs.declared.kinds.Call.TheVariants.{Put, Out, Drop}
use Rattle.calls.specs.Refuse.{is_no, Refuses}

pub held : (b : Bool) → b ≡ true → T b
held b e = subst T (sym e) tt

pub unheld : (b : Bool) → b ≡ false → T b → ⊥
unheld true e t = let z : ◌≡◌ {A = ℕ} 0 1 = cc in omega arith
unheld false e t = t

pub fails : (b : Bool) → b ≡ false → T (not b)
fails true e = let z : ◌≡◌ {A = ℕ} 0 1 = cc in absurd (omega arith)
fails false e = tt

holds : (b : Bool) → b ≡ true → T (not b) → ⊥
holds true e t = t
holds false e t = let z : ◌≡◌ {A = ℕ} 0 1 = cc in omega arith

-- keys and values are words, so only the time matters
pub happened : (e : Event) → e.key < top → e.value < top → entry_ok (Ev e) ≡ small e.time
unfolding entry_ok
happened e k v = let hk : ltb e.key top ≡ true = lt-ltb _ _ k in let hv : ltb e.value top ≡ true = lt-ltb _ _ v in rw (hk, hv) (both (small e.time))
  where
    both : (b : Bool) → (b && true && true) ≡ b
    both true = refl
    both false = refl

pub still : (t : ℕ) → entry_ok (Still t) ≡ small t
unfolding entry_ok
still t = refl

module _ (p : Plan) (room : ℕ) where
  bad : {n : ℕ} {e : Entry} {s : State} {a : Reply} {t : State} → entry_ok e ≡ false → Answers p core room (spec.Put n e) s a t → (a ≡ No 1) × (t ≡ s)
  unfolding core
  bad b (put n e s can ok lt) = absurd (unheld (entry_ok e) b ok)
  bad b (bad_put n e s can no') = (refl, refl)
  bad b (no_log n e s can ok ge) = absurd (unheld (entry_ok e) b ok)
  bad b (full n e s can ok lt more much) = absurd (unheld (entry_ok e) b ok)
  bad b (not_yet c s un) = absurd (un tt)

  beyond : {n : ℕ} {e : Entry} {s : State} {a : Reply} {t : State} → entry_ok e ≡ true → length s.logs ≤ n → Answers p core room (spec.Put n e) s a t → (a ≡ No 2) × (t ≡ s)
  unfolding core
  beyond g h (put n e s can ok lt) = absurd (omega arith)
  beyond g h (bad_put n e s can no') = absurd (holds (entry_ok e) g no')
  beyond g h (no_log n e s can ok ge) = (refl, refl)
  beyond g h (full n e s can ok lt more much) = absurd (omega arith)
  beyond g h (not_yet c s un) = absurd (un tt)

  within : {n : ℕ} {e : Entry} {s : State} {a : Reply} {t : State} → entry_ok e ≡ true → n < length s.logs → Answers p core room (spec.Put n e) s a t → is_no a ≡ false
  unfolding core
  within g h (put n e s can ok lt) = refl
  within g h (bad_put n e s can no') = absurd (holds (entry_ok e) g no')
  within g h (no_log n e s can ok ge) = absurd (omega arith)
  within g h (full n e s can ok lt more much) = refl
  within g h (not_yet c s un) = absurd (un tt)

  many : {f k : ℕ} {s : State} {a : Reply} {t : State} → 1024 < k → Answers p core room (spec.Out' f k) s a t → (a ≡ No 1) × (t ≡ s)
  unfolding core
  many h (outs f k j s can le from le') = absurd (omega arith)
  many h (too_many f k s can gt) = (refl, refl)
  many h (gone f k s can le lt) = absurd (omega arith)
  many h (not_yet c s un) = absurd (un tt)

  few : {f k : ℕ} {s : State} {a : Reply} {t : State} → k ≤ 1024 → s.dropped ≡ 0 → Answers p core room (spec.Out' f k) s a t → is_no a ≡ false
  unfolding core
  few h z (outs f k j s can le from le') = refl
  few h z (too_many f k s can gt) = absurd (omega arith)
  few h z (gone f k s can le lt) = absurd (omega arith)
  few h z (not_yet c s un) = absurd (un tt)

  unbuilt : {n : ℕ} {s : State} {a : Reply} {t : State} → Answers p core room (spec.Drop n) s a t → (a ≡ No 12) × (t ≡ s)
  unfolding core
  unbuilt (drop n s can le) = absurd can
  unbuilt (no_drop n s can gt) = absurd can
  unbuilt (not_yet c s un) = (refl, refl)

pub of_drop : (b : Place) (logs : ℕ) → Refuses (Drop b) logs (Err NotBuilt)
unfolding core
of_drop b logs p room s h = (not_yet (spec.Drop b.0) s (λ t. t), λ a t r. unbuilt p room r)

module _ (l : LogNumber) (e : code.Entry) (logs : ℕ) where
  pub invalid : entry_ok (entry_of e) ≡ false → Refuses (Put l e) logs (Err Invalid)
  unfolding core
  invalid b p room s h = (bad_put l.0 (entry_of e) s tt (fails _ b), λ a t r. bad p room b r)

  pub no_such_log : entry_ok (entry_of e) ≡ true → logs ≤ l.0 → Refuses (Put l e) logs (Err NoLog)
  unfolding core
  no_such_log g le p room s h = (no_log l.0 (entry_of e) s tt (held _ g) (omega arith), λ a t r. beyond p room g (omega arith) r)

  pub taken : (u : Unit) → entry_ok (entry_of e) ≡ true → l.0 < logs → Refuses (Put l e) logs (Ok u)
  unfolding core
  taken u g lt p room s h z = ((_, _, put l.0 (entry_of e) s tt (held _ g) (omega arith)), λ a t r. within p room g (omega arith) r)

module _ (f : Place) (m logs : ℕ) where
  pub many_asked : 1024 < m → Refuses (Out f m) logs (Err Invalid)
  unfolding core
  many_asked gt p room s h = (too_many f.0 m s tt gt, λ a t r. many p room gt r)

  pub few_asked : (u : Unit) → m ≤ 1024 → Refuses (Out f m) logs (Ok u)
  unfolding core
  few_asked u le p room s h z = ((_, _, outs f.0 m 0 s tt le (omega arith) (omega arith)), λ a t r. few p room le z r)

-- the same of a call that is equal to this one
pub same : {x y : Call} (r : Result Unit Refusal) (logs : ℕ) → x ≡ y → Refuses y logs r → Refuses x logs r
same {x} {y} r logs e h = subst (λ (z : Call). Refuses z logs r) (sym e) h
