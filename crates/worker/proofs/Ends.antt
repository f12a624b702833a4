-- The worker alone answers all that waits at it, and comes to rest where nothing is due and all is taken.
use Rattle.std.proofs.Common.{◌≡◌, ℕ, zero, suc, ◌+◌, ◌*◌, ◌<◌, ◌≤◌, Bool, true, false, cond, not, T, eqb, ltb, ◌⊎◌, List, [], ◌∷◌, length, sym, refl, ap, ◌∙◌, subst, subst₂, inl, inr, ⊎_elim, arith}
use mathlib.Core.List.{Memᴰ}
use Rattle.std.proofs.lemmas.Bool.{eqb-true, eq-eqb, ne_eqb, lt-ltb, ltb-true, ltb-false, not_from_true, cond-true, cond-false, cond_both, cases_Bool, both_ways}
use Rattle.streams.specs.Meaning.{Event, Entry, Plan}
use Rattle.streams.specs.Calls.{Call, Put, Out', Drop, Reply, Outs, entry_ok}
use Rattle.streams.specs.Hands.{Box, Seen, at, Scene, Beat, a_beat}
use Rattle.book.specs.Ledger.{log_box}
use Rattle.book.specs.Interface.{horizon, Gives, lacks, gives, nothing, Next, page, reply, Ops, Gathered, no_page, one_page, Tag, Safe}
use Rattle.worker.specs.Worker.{Job, Batch, none, some, rest, log, put, answer', gather, Keep, Mind, Told, none', show, fill, Step, asks, keeping, hearing, looking, waits, fixed, settled', saying, for_log, keep_if, entries, yeses, puts_of, read_ledger, start_call, start_by, start, idle_by, idle, settle, fill_log, putting, on_log_by, on_put_by, gather_by, gathers, acts}
use Rattle.book.specs.Live.{Live}
use Rattle.book.specs.Small.{total}
use Rattle.shelf.specs.Moments.{calls}
use Rattle.worker.proofs.Jobs.{keep_less, in_keep, entries_few, entries_ok, IsPut}
use Rattle.worker.proofs.Invariant.{CallOk, for_put}
use Rattle.worker.proofs.Onebook.{inv}
use Rattle.worker.proofs.Safelaws.{safe_laws}
use Rattle.worker.proofs.Alone.{At, see, mid_turn}
use Rattle.worker.proofs.Tending.{sound_at, floor_at, pours, next, ahead, ledger_done}

diff : (a b : ℕ) → a ≤ b → (d : ℕ) × (b ≡ a + d)
diff zero b le = (b, omega arith)
diff (suc a) zero le = absurd (omega (arith, le))
diff (suc a) (suc b) le = let r = diff a b (omega (arith, le)) in (r.0, omega (arith, r.1))

abbrev pub batch_one : Batch → ℕ
batch_one none = 0
batch_one (some l ps) = 1

-- how many jobs there are: calls that wait, and one for the batch
abbrev pub jobs_in : Keep → ℕ
jobs_in k = length k.waiting + batch_one k.batch

module _ (o : Ops) (p : Plan) (logs : ℕ) (P : Safe o p logs) (V : Live o p logs P) (one : 1 ≤ logs) (all i c : ℕ) (al : all ≤ 64) (lt : i < all) (es : List (Seen Call Reply)) (s : Scene Mind ℕ) (made : calls es ≤ horizon) where
  abbrev pub B : Step → (ℕ → Box) → ℕ → Type 0
  B r f n = At o logs all i c lt es s r f n

  -- the most that can be left to do
  abbrev heavy : ℕ
  heavy = V.heavy (calls es)

  -- what is used of the invariant
  pub record KeepFacts (k : Keep) (n : ℕ) : Type 0 where
    pub few : length k.waiting + puts_of k.batch ≤ 8
    pub ok : (j : Job) → Memᴰ j k.waiting → CallOk logs j.call
    pub in_logs : (l : ℕ) (ps : List Job) → k.batch ≡ some l ps → l < logs
    pub from : (l : ℕ) (ps : List Job) → k.batch ≡ some l ps → 1 ≤ k.serial
    pub puts : (l : ℕ) (ps : List Job) → k.batch ≡ some l ps → (j : Job) → Memᴰ j ps → IsPut l j.call
    -- the tag of its batch, and of the next one
    pub tag : (t : ℕ) → 1 ≤ t → t ≤ k.serial + 1 → Tag (suc n) k.me k.chance t

  pub keep_at : {r : Step} {f : ℕ → Box} {n : ℕ} → B r f n → n < P.bound → KeepFacts r.mind.keep n
  keep_at {r} {f} {n} a sm = let v = inv o p logs (safe_laws o p logs P) al sm a.mid.goes in let k = (v.3.hands i c r.mind a.mid.minds).keep in
      record {
        few = k.few;
        ok = k.ok;
        in_logs = λ l ps e. (k.batch l ps e).in_logs;
        from = λ l ps e. (k.batch l ps e).from;
        puts = λ l ps e. (k.batch l ps e).puts;
        tag = λ t one le. subst₂ (λ x y. Tag (suc n) x y t) (sym k.me) (sym k.chance) (record { worker = k.hand; life = k.life; from = one; upto = let q = k.serial in omega (arith, q, le) });
      }

  snd : {r : Step} {f : ℕ → Box} {n : ℕ} → B r f n → n < P.bound → (ls : List (List Entry)) × P.Sound n ls f × (total ls ≤ calls es)
  snd a sm = sound_at o p logs P V one all i c al lt es s made a sm

  -- what is told is told; the rest goes on
  quiet_call : (m : Mind) (k : ℕ) (x : Call) → (start_call o logs m k x).tell ≡ []
  quiet_call m k (Put l e) = refl
  quiet_call m k (Out' a b) = refl
  quiet_call m k (Drop a) = refl

  quiet_idle : (m : Mind) (b : Batch) (js : List Job) → (idle_by o logs m b js).tell ≡ []
  quiet_idle m (some l ps) js = refl
  quiet_idle m none [] = refl
  quiet_idle m none (j ∷ js) = quiet_call m j.number j.call

  unsay : {r : Step} {f : ℕ → Box} {n : ℕ} (ts : List Told) → r.tell ≡ [] → B (saying ts r) f n → B r f n
  unsay {r} ts e a = record { mid = a.mid; wants = a.wants; tolds' = λ t y. absurd (elim (subst (Memᴰ t) e y) [ ]) }

  -- A ROUND: a batch is in, or it has to be taken from the log first
  pub record Less (k0 : Keep) (tot : ℕ) : Type 0 where
    pub m : Mind
    pub f : ℕ → Box
    pub n : ℕ
    pub at' : B (idle o logs m) f n
    pub fewer : jobs_in m.keep < jobs_in k0
    pub w : ℕ
    pub work : V.Work w f
    pub spent : n + 12 * w ≤ tot

  -- why a log is put into: for the batch in hand, or for the call that waits longest
  pub data Which (l : ℕ) (k : Keep) : Type 0 where
    fixed' : (ps : List Job) → k.batch ≡ some l ps → Which l k
    first' : (j : Job) (js : List Job) → k.batch ≡ none → k.waiting ≡ j ∷ js → for_log l j.call ≡ true → Which l k

  -- there was no room in a log for a batch, by that floor
  abbrev Stuck : ℕ → List ℕ → (ℕ → Box) → ℕ → Type 0
  Stuck l fl f n = (a b t : ℕ) × (xs : List Entry) × Tag n a b t × ((x : Entry) → Memᴰ x xs → T (entry_ok x)) × (length xs ≤ 8) × (o.adds fl a b t l (f (log_box l)).bytes xs ≡ lacks)

  settles : (m : Mind) (f : ℕ → Box) (n w : ℕ) (ps : List Job) (k0 : Keep) (tot : ℕ) → jobs_in (settled' m.keep) < jobs_in k0 → V.Work w f → n + 12 * w ≤ tot → B (settle o logs m ps) f n → Less k0 tot
  settles m f n w ps k0 tot fw wk sp a = record { m = keeping m (settled' m.keep); f = f; n = n; at' = unsay (yeses ps) (quiet_idle (keeping m (settled' m.keep)) none m.keep.waiting) a; fewer = fw; w = w; work = wk; spent = sp }

  -- a batch is filled in, or there is no room
  puts : (m : Mind) (f : ℕ → Box) (n t l : ℕ) (ps : List Job) (k k0 : Keep) (tot : ℕ) → tot < P.bound → l < logs → Tag t k.me k.chance k.serial → ((x : Entry) → Memᴰ x (entries ps) → T (entry_ok x)) → length (entries ps) ≤ 8 → k.batch ≡ some l ps → length k.waiting < jobs_in k0 → n + 12 * heavy + 4 ≤ tot →
      B (putting o logs m k l ps (f (log_box l))) f n → Less k0 tot ⊎ (B (read_ledger o logs (looking m m.floor l 1)) f n × Stuck l m.floor f t)
  puts m f n t l ps k k0 tot tb ll tag ok few kb fw bud a = by (o.adds m.floor k.me k.chance k.serial l (f (log_box l)).bytes (entries ps)) refl a
    where
      by : (g : Gives) → o.adds m.floor k.me k.chance k.serial l (f (log_box l)).bytes (entries ps) ≡ g → B (fill_log o logs m k l (f (log_box l)).edition g) f n → Less k0 tot ⊎ (B (read_ledger o logs (looking m m.floor l 1)) f n × Stuck l m.floor f t)
      by lacks e a = inr (a, (k.me, k.chance, k.serial, entries ps, tag, ok, few, e))
      by (gives bs) e a = inl (settles m2 f1 (suc (suc n)) heavy ps k0 tot (omega (arith, fw)) (V.work_most n2 sd.1 (calls es) sd.2) (omega (arith, bud)) a2)
        where
          m2 : Mind
          m2 = hearing (asks (keeping m k) (fill (log_box l) (f (log_box l)).edition bs) put).mind true

          f1 : ℕ → Box
          f1 = at (log_box l) (record { edition = (f (log_box l)).edition + 1; bytes = bs }) f

          a2 : B (settle o logs m2 ps) f1 (suc (suc n))
          a2 = subst (λ z. B (on_put_by o logs m2 true z) f1 (suc (suc n))) kb (pours o p logs P V one all i c al lt es s made (log_box l) (f (log_box l)).edition bs (inr (l, ll, refl)) refl refl (omega (arith, bud, tb)) a)

          n2 : suc (suc n) < P.bound
          n2 = omega (arith, bud, tb)

          sd : (ls : List (List Entry)) × P.Sound (suc (suc n)) ls f1 × (total ls ≤ calls es)
          sd = snd a2 n2

  some_jobs : (k : Keep) (l : ℕ) (ps : List Job) → k.batch ≡ some l ps → jobs_in k ≡ length k.waiting + 1
  some_jobs k l ps e = ap (λ z. length k.waiting + batch_one z) e

  drop_one : (f : Job → Bool) (j : Job) (js : List Job) → f j ≡ false → length (keep_if f (j ∷ js)) ≤ length js
  unfolding keep_if
  drop_one f j js e = subst (λ z. length z ≤ length js) (sym (cond-false (f j) (j ∷ keep_if f js) (keep_if f js) e)) (keep_less f js)

  -- a log is shown: it is settled, filled in, or has no room
  visit : (l : ℕ) (m : Mind) (f : ℕ → Box) (n w tot : ℕ) → tot < P.bound → Which l m.keep → l < logs → KeepFacts m.keep n → V.Work w f → n + 12 * w + 12 * heavy + 6 ≤ tot → B (asks m (show (log_box l)) (log l)) f n →
      Less m.keep tot ⊎ (B (read_ledger o logs (looking (hearing (asks m (show (log_box l)) (log l)).mind true) m.floor l 1)) f (suc (suc n)) × Stuck l m.floor f (suc n))
  visit l m f n w tot tb (fixed' ps e) ll kf wk bud a = by (cases_Bool (o.has (f (log_box l)).bytes m.keep.me m.keep.chance m.keep.serial))
    where
      m1 : Mind
      m1 = hearing (asks m (show (log_box l)) (log l)).mind true

      a1 : B (cond (o.has (f (log_box l)).bytes m.keep.me m.keep.chance m.keep.serial) (settle o logs m1 ps) (putting o logs m1 m.keep l ps (f (log_box l)))) f (suc (suc n))
      a1 = subst (λ z. B z f (suc (suc n))) (cond-true (eqb l l) (cond (o.has (f (log_box l)).bytes m.keep.me m.keep.chance m.keep.serial) (settle o logs m1 ps) (putting o logs m1 m.keep l ps (f (log_box l)))) (start o logs m1) (eq-eqb l l refl))
          (subst (λ z. B (on_log_by o logs m1 l (f (log_box l)) z) f (suc (suc n))) e (see o logs all i c lt es s (log_box l) refl a))

      few : length (entries ps) ≤ 8
      few = let q = entries_few ps in let r = kf.few in let u : puts_of m.keep.batch ≡ length ps = ap puts_of e in omega (arith, q, r, u)

      by : (o.has (f (log_box l)).bytes m.keep.me m.keep.chance m.keep.serial ≡ true) ⊎ (o.has (f (log_box l)).bytes m.keep.me m.keep.chance m.keep.serial ≡ false) →
          Less m.keep tot ⊎ (B (read_ledger o logs (looking m1 m.floor l 1)) f (suc (suc n)) × Stuck l m.floor f (suc n))
      by (inl t) = let q = some_jobs m.keep l ps e in inl (settles m1 f (suc (suc n)) w ps m.keep tot (omega (arith, q)) wk (omega (arith, bud)) (subst (λ z. B z f (suc (suc n))) (cond-true (o.has (f (log_box l)).bytes m.keep.me m.keep.chance m.keep.serial) (settle o logs m1 ps) (putting o logs m1 m.keep l ps (f (log_box l))) t) a1))
      by (inr t) = let q = some_jobs m.keep l ps e in puts m1 f (suc (suc n)) (suc n) l ps m.keep m.keep tot tb ll (kf.tag m.keep.serial (kf.from l ps e) (omega arith)) (entries_ok l ps (kf.puts l ps e)) few e (omega (arith, q)) (omega (arith, bud))
          (subst (λ z. B z f (suc (suc n))) (cond-false (o.has (f (log_box l)).bytes m.keep.me m.keep.chance m.keep.serial) (settle o logs m1 ps) (putting o logs m1 m.keep l ps (f (log_box l))) t) a1)
  visit l m f n w tot tb (first' j js e jw fo) ll kf wk bud a = puts m1 f (suc (suc n)) (suc n) l ps (fixed m.keep l ps left) m.keep tot tb ll (kf.tag (m.keep.serial + 1) (omega arith) (omega arith)) (entries_ok l ps put_all) few refl fw (omega (arith, bud))
      (subst (λ z. B (on_log_by o logs m1 l (f (log_box l)) z) f (suc (suc n))) e (see o logs all i c lt es s (log_box l) refl a))
    where
      m1 : Mind
      m1 = hearing (asks m (show (log_box l)) (log l)).mind true

      ps : List Job
      ps = keep_if (λ j. for_log l j.call) m.keep.waiting

      left : List Job
      left = keep_if (λ j. not (for_log l j.call)) m.keep.waiting

      few : length (entries ps) ≤ 8
      few = let q = entries_few ps in let r = kf.few in let u = keep_less (λ j. for_log l j.call) m.keep.waiting in omega (arith, q, r, u)

      fw : length left < jobs_in m.keep
      fw = let q = drop_one (λ j. not (for_log l j.call)) j js (not_from_true (for_log l j.call) fo) in
          let u : length left ≡ length (keep_if (λ j. not (for_log l j.call)) (j ∷ js)) = ap (λ z. length (keep_if (λ j. not (for_log l j.call)) z)) jw in
          let v : length m.keep.waiting ≡ suc (length js) = ap length jw in omega (arith, q, u, v)

      put_all : (a : Job) → Memᴰ a ps → IsPut l a.call
      put_all a y = let r = in_keep (λ j. for_log l j.call) m.keep.waiting a y in for_put logs l a.call r.1 (kf.ok a r.0)

  -- a log that is to be put into, until it is done
  idle_which : (l : ℕ) (m : Mind) (f : ℕ → Box) (n : ℕ) → Which l m.keep → B (idle o logs m) f n → B (asks m (show (log_box l)) (log l)) f n
  idle_which l m f n (fixed' ps e) a = subst (λ z. B (idle_by o logs m z m.keep.waiting) f n) e a
  idle_which l m f n (first' j js e w fo) a = by j.call fo (subst₂ (λ y z. B (idle_by o logs m y z) f n) e w a)
    where
      by : (x : Call) → for_log l x ≡ true → B (start_call o logs m j.number x) f n → B (asks m (show (log_box l)) (log l)) f n
      by (Put b y) t a = subst (λ z. B (asks m (show (log_box z)) (log z)) f n) (eqb-true b l t) a
      by (Out' x y) t a = absurd (both_ways false refl t)
      by (Drop x) t a = absurd (both_ways false refl t)

  which_in : (l n : ℕ) (k : Keep) → KeepFacts k n → Which l k → l < logs
  which_in l n k kf (fixed' ps e) = kf.in_logs l ps e
  which_in l n k kf (first' j js e w fo) = by j.call fo (kf.ok j (subst (Memᴰ j) (sym w) (Memᴰ.head refl)))
    where
      by : (x : Call) → for_log l x ≡ true → CallOk logs x → l < logs
      by (Put b y) t h = subst (λ z. z < logs) (eqb-true b l t) h.0
      by (Out' x y) t h = absurd (both_ways false refl t)
      by (Drop x) t h = absurd (both_ways false refl t)

  less_on : {k k' : Keep} {tot : ℕ} → k ≡ k' → Less k tot → Less k' tot
  less_on {k} {k'} {tot} e x = subst (λ z. Less z tot) e x

  -- with no room the ledger takes that log, and then there is room: so a put meets a full box at most once
  put_round : (l : ℕ) (m : Mind) (f : ℕ → Box) (n w tot : ℕ) → tot < P.bound → Which l m.keep → V.Work w f → n + 12 * w + 12 * heavy + 40 ≤ tot → B (idle o logs m) f n → Less m.keep tot
  put_round l m f n w tot tb which wk bud a0 = ⊎_elim (λ z. z) (λ z. again z.0) (visit l m f n w tot tb which ll kf wk (omega (arith, bud)) a)
    where
      a : B (asks m (show (log_box l)) (log l)) f n
      a = idle_which l m f n which a0

      kf : KeepFacts m.keep n
      kf = keep_at a (omega (arith, bud, tb))

      ll : l < logs
      ll = which_in l n m.keep kf which

      m1 : Mind
      m1 = looking (hearing (asks m (show (log_box l)) (log l)).mind true) m.floor l 1

      again : B (read_ledger o logs m1) f (suc (suc n)) → Less m.keep tot
      again b =
          let d = ledger_done o p logs P V one all i c al lt es s made (n + 12 * w + 26) (omega (arith, bud, tb)) (2 + w) m1 f (suc (suc n)) w ll b wk (omega arith) (omega arith) in
          let sp = d.spent in
          less_on d.keep (taken d.m d.f d.n d.w d.fl (omega (arith, sp, bud)) (subst (Which l) (sym d.keep) which) d.work d.idle' (d.took l ll (inl (inl refl))) d.floor d.at')
        where
          -- once that log is taken there is room
          taken : (m : Mind) (f : ℕ → Box) (n w : ℕ) (fl : List ℕ) → n + 12 * w + 12 * heavy + 14 ≤ tot → Which l m.keep → V.Work w f → o.due (f 0).bytes ≡ nothing → V.Took (f 0).bytes l (f (log_box l)).bytes → m.floor ≡ o.raise (f 0).bytes fl → B (idle o logs m) f n → Less m.keep tot
          taken m f n w fl bud which wk idle' took is a0 = ⊎_elim (λ z. z) (λ z. absurd (full' z.1)) (visit l m f n w tot tb which ll (keep_at a (omega (arith, sm))) wk (omega (arith, bud)) a)
            where
              a : B (asks m (show (log_box l)) (log l)) f n
              a = idle_which l m f n which a0

              sm : suc n < P.bound
              sm = omega (arith, bud, tb)

              sd : (ls : List (List Entry)) × P.Sound n ls f × P.Floor ls f m.floor
              sd = floor_at o p logs P V one all i c al lt es s made a (omega (arith, sm))

              full' : Stuck l m.floor f (suc n) → ⊥
              full' z = V.adds_room sm (P.laws.later sd.1) idle' z.0 z.1 z.2 l fl z.3 ll took (subst (P.Floor sd.0 f) is sd.2) z.4 z.5 z.6 (subst (λ u. o.adds u z.0 z.1 z.2 l (f (log_box l)).bytes z.3 ≡ lacks) is z.7)

  -- AN ANSWER
  abbrev pub gone' : Mind → (number : ℕ) → Mind
  gone' m k = keeping m (waits m.keep (keep_if (λ j. not (eqb j.number k)) m.keep.waiting))

  abbrev pub Right' : (ℕ → Box) → ℕ → List ℕ → Type 0
  Right' f b x = P.Spent (f 0).bytes b × ((f b).bytes ≡ x)

  pub record Answered (k0 : Keep) (f : ℕ → Box) (top k from most : ℕ) : Type 0 where
    pub m : Mind
    pub n : ℕ
    pub got : List Event
    pub es' : List Event
    pub at' : B (saying (record { number = k; reply = Outs es' } ∷ []) (idle o logs (gone' m k))) f n
    pub keep : m.keep ≡ k0
    pub is : o.answer from most (f 0).bytes got ≡ reply es'
    pub gathered : Gathered o (Right' f) from most (f 0).bytes got
    pub steps : n ≤ top

  -- an answer shows pages until it has all
  pub answers : (fuel : ℕ) (m : Mind) (f : ℕ → Box) (n k from most : ℕ) (got : List Event) (top : ℕ) → top < P.bound → V.left from most (f 0).bytes got < fuel → n + 2 * fuel ≤ top → Gathered o (Right' f) from most (f 0).bytes got →
      B (gathers o logs m k from most (f 0).bytes got) f n → Answered m.keep f top k from most
  answers zero m f n k from most got top tb ms bud ga a = absurd (omega (arith, ms))
  answers (suc fuel) m f n k from most got top tb ms bud ga a = by (answers fuel) (o.answer from most (f 0).bytes got) refl a
    where
      Again : Type 0
      Again = (m : Mind) (f : ℕ → Box) (n k from most : ℕ) (got : List Event) (top : ℕ) → top < P.bound → V.left from most (f 0).bytes got < fuel → n + 2 * fuel ≤ top → Gathered o (Right' f) from most (f 0).bytes got →
          B (gathers o logs m k from most (f 0).bytes got) f n → Answered m.keep f top k from most

      sm : n < P.bound
      sm = omega (arith, bud, tb)

      sd : (ls : List (List Entry)) × P.Sound n ls f × (total ls ≤ calls es)
      sd = snd a sm

      by : Again → (x : Next) → o.answer from most (f 0).bytes got ≡ x → B (gather_by o logs m k from most (f 0).bytes got x) f n → Answered m.keep f top k from most
      by again (reply ev) e a = record { m = m; n = n; got = got; es' = ev; at' = a; keep = refl; is = e; gathered = ga; steps = omega (arith, bud) }
      by again (page b) e a =
          let sp = P.laws.answer_spent sd.1 from most (f 0).bytes got b (P.laws.ledger_now sd.1) e in
          let ed = (P.laws.spent_filled sd.1 b sp).1 in
          let ls = V.left_less sm sd.1 from most b got e in
          again m1 f (suc (suc n)) k from most (o.more from most (f 0).bytes got (f b).bytes) top tb (omega (arith, ls, ms)) (omega (arith, bud)) (one_page b (f b).bytes ga e (sp, refl))
          (subst (λ z. B z f (suc (suc n))) (cond-false (eqb (f b).edition 0) (start o logs m1) (gathers o logs m1 k from most (f 0).bytes (o.more from most (f 0).bytes got (f b).bytes)) (ne_eqb (f b).edition 0 (λ z. omega (arith, z, ed))))
          (see o logs all i c lt es s b refl a))
        where
          m1 : Mind
          m1 = hearing (asks m (show b) (gather k from most (f 0).bytes got b)).mind true

  pub ask_answer : (m : Mind) (f : ℕ → Box) (n k from most top : ℕ) → most ≤ 1024 → top < P.bound → n + 2 * V.long + 4 ≤ top → B (asks m (show 0) (answer' k from most)) f n → Answered m.keep f top k from most
  ask_answer m f n k from most top le tb bud a = let q = V.left_most from most (f 0).bytes [] le in
      answers (suc V.long) (hearing (asks m (show 0) (answer' k from most)).mind true) f (suc (suc n)) k from most [] top tb (omega (arith, q)) (omega (arith, bud)) no_page (see o logs all i c lt es s 0 refl a)

  -- what a round may cost
  abbrev C : ℕ
  C = 12 * heavy + 2 * V.long + 40

  -- a round for what came out
  out_round : (m : Mind) (f : ℕ → Box) (n w tot : ℕ) (j : Job) (js : List Job) (from most : ℕ) → most ≤ 1024 → tot < P.bound → m.keep.waiting ≡ j ∷ js → V.Work w f → n + 12 * w + C ≤ tot → B (asks m (show 0) (answer' j.number from most)) f n → Less m.keep tot
  out_round m f n w tot j js from most le tb jw wk bud a =
      let r = ask_answer m f n j.number from most (n + 2 * V.long + 4) le (omega (arith, bud, tb)) (omega arith) a in
      let st = r.steps in
      let q = drop_one (λ a. not (eqb a.number j.number)) j js (not_from_true (eqb j.number j.number) (eq-eqb j.number j.number refl)) in
      let u : length (keep_if (λ a. not (eqb a.number j.number)) r.m.keep.waiting) ≡ length (keep_if (λ a. not (eqb a.number j.number)) (j ∷ js)) = ap (λ z. length (keep_if (λ a. not (eqb a.number j.number)) z)) (ap (λ z. z.waiting) r.keep ∙ jw) in
      let v : length m.keep.waiting ≡ suc (length js) = ap length jw in
      let x : batch_one r.m.keep.batch ≡ batch_one m.keep.batch = ap (λ z. batch_one z.batch) r.keep in
      record { m = gone' r.m j.number; f = f; n = r.n; at' = unsay (record { number = j.number; reply = Outs r.es' } ∷ []) (quiet_idle (gone' r.m j.number) r.m.keep.batch (keep_if (λ a. not (eqb a.number j.number)) r.m.keep.waiting)) r.at'; fewer = omega (arith, q, u, v, x); w = w; work = wk; spent = omega (arith, st, bud) }

  -- ALL ROUNDS
  abbrev Empty : Keep → Type 0
  Empty k = (k.batch ≡ none) × (k.waiting ≡ [])

  -- any round
  round : (m : Mind) (f : ℕ → Box) (n w tot : ℕ) → tot < P.bound → V.Work w f → n + 12 * w + C ≤ tot → B (idle o logs m) f n → Less m.keep tot ⊎ Empty m.keep
  round m f n w tot tb wk bud a = by m.keep.batch m.keep.waiting refl refl
    where
      same : (k : ℕ) (x : Call) → (start_call o logs m k x).mind.keep.waiting ≡ m.keep.waiting
      same k (Put l e) = refl
      same k (Out' y z) = refl
      same k (Drop y) = refl

      -- the call that waits longest was let in
      let_in : (j : Job) (js : List Job) → m.keep.batch ≡ none → m.keep.waiting ≡ j ∷ js → CallOk logs j.call
      let_in j js b jw = (keep_at (subst₂ (λ y z. B (idle_by o logs m y z) f n) b jw a) (omega (arith, bud, tb))).ok j (subst (Memᴰ j) (sym (same j.number j.call ∙ jw)) (Memᴰ.head refl))

      call : (j : Job) (js : List Job) → m.keep.batch ≡ none → m.keep.waiting ≡ j ∷ js → (x : Call) → j.call ≡ x → CallOk logs x → Less m.keep tot
      call j js b jw (Put l e) x ok = put_round l m f n w tot tb (first' j js b jw (ap (for_log l) x ∙ eq-eqb l l refl)) wk (omega (arith, bud)) a
      call j js b jw (Out' y z) x ok = out_round m f n w tot j js y z ok tb jw wk bud (subst (λ u. B (start_call o logs m j.number u) f n) x (subst₂ (λ y z. B (idle_by o logs m y z) f n) b jw a))
      call j js b jw (Drop y) x ok = absurd ok

      by : (b : Batch) (js : List Job) → m.keep.batch ≡ b → m.keep.waiting ≡ js → Less m.keep tot ⊎ Empty m.keep
      by (some l ps) js e jw = inl (put_round l m f n w tot tb (fixed' ps e) wk (omega (arith, bud)) a)
      by none [] e jw = inr (e, jw)
      by none (j ∷ js) e jw = inl (call j js e jw j.call refl (let_in j js e jw))

  pub record Rested (tot : ℕ) : Type 0 where
    pub m : Mind
    pub f : ℕ → Box
    pub n : ℕ
    pub at' : B (idle o logs m) f n
    pub empty : Empty m.keep
    pub w : ℕ
    pub work : V.Work w f
    pub spent : n + 12 * w ≤ tot

  abbrev cost : ℕ → ℕ
  cost zero = C
  cost (suc j) = C + cost j

  -- round after round, until nothing waits
  ends : (j : ℕ) (m : Mind) (f : ℕ → Box) (n w tot : ℕ) → tot < P.bound → jobs_in m.keep ≤ j → V.Work w f → n + 12 * w + cost j ≤ tot → B (idle o logs m) f n → Rested tot
  ends zero m f n w tot tb few wk bud a = ⊎_elim (λ d. absurd (let q = d.fewer in omega (arith, q, few))) (λ e. record { m = m; f = f; n = n; at' = a; empty = e; w = w; work = wk; spent = omega (arith, bud) }) (round m f n w (n + 12 * w + C) (omega (arith, bud, tb)) wk (omega arith) a)
  ends (suc j) m f n w tot tb few wk bud a = ⊎_elim (λ d. let q = d.fewer in let sp = d.spent in ends j d.m d.f d.n d.w tot tb (omega (arith, q, few)) d.work (omega (arith, sp, bud)) d.at')
      (λ e. record { m = m; f = f; n = n; at' = a; empty = e; w = w; work = wk; spent = omega (arith, bud) }) (round m f n w (n + 12 * w + C) (omega (arith, bud, tb)) wk (omega arith) a)

  -- THE LOOK OVER ALL LOGS
  next_is : (pl : ℕ) → pl + 1 < logs → next o p logs P V one all i c al lt es s made pl ≡ pl + 1
  next_is pl h = cond-true (ltb (pl + 1) logs) (pl + 1) 0 (lt-ltb (pl + 1) logs h)

  abbrev Ahead : (left place log : ℕ) → Type 0
  Ahead k pl l = ahead o p logs P V one all i c al lt es s made k pl l

  ahead_up : (d pl more l : ℕ) → l ≡ pl + d → l < logs → Ahead (suc (d + more)) pl l
  ahead_up zero pl more l e ll = inl (omega (arith, e))
  ahead_up (suc d) pl more l e ll = inr (subst₂ (λ a b. Ahead a b l) {x = suc (d + more)} (omega arith) (sym (next_is pl (omega (arith, e, ll)))) (ahead_up d (pl + 1) more l (omega (arith, e)) ll))

  ahead_wrap : (d pl more l : ℕ) → pl + d + 1 ≡ logs → l < logs → Ahead (suc (d + suc (l + more))) pl l
  ahead_wrap zero pl more l e ll = inr (subst₂ (λ a b. Ahead a b l) {x = suc (l + more)} (omega arith) (sym (cond-false (ltb (pl + 1) logs) (pl + 1) 0 (not_ltb (cases_Bool (ltb (pl + 1) logs))))) (ahead_up l 0 more l (omega arith) ll))
    where
      not_ltb : (ltb (pl + 1) logs ≡ true) ⊎ (ltb (pl + 1) logs ≡ false) → ltb (pl + 1) logs ≡ false
      not_ltb (inl t) = absurd (let q = ltb-true (pl + 1) logs t in omega (arith, q, e))
      not_ltb (inr t) = t
  ahead_wrap (suc d) pl more l e ll = inr (subst₂ (λ a b. Ahead a b l) {x = suc (d + suc (l + more))} (omega arith) (sym (next_is pl (omega (arith, e)))) (ahead_wrap d (pl + 1) more l (omega (arith, e)) ll))

  -- as many looks as there are logs come to every log
  ahead_all : (pl l : ℕ) → pl < logs → l < logs → Ahead logs pl l
  ahead_all pl l pp ll = ⊎_elim up wrap (cases_Bool (ltb l pl))
    where
      up : ltb l pl ≡ true → Ahead logs pl l
      up t = let q = ltb-true l pl t in let d = diff (pl + 1) logs (omega (arith, pp)) in let de = d.1 in let r = diff (suc (d.0 + suc l)) logs (omega (arith, q, de)) in let re = r.1 in
          subst (λ a. Ahead a pl l) {x = suc (d.0 + suc (l + r.0))} (omega (arith, re)) (ahead_wrap d.0 pl r.0 l (omega (arith, de)) ll)

      wrap : ltb l pl ≡ false → Ahead logs pl l
      wrap t = let q = ltb-false l pl t in let d = diff pl l (omega (arith, q)) in let de = d.1 in let r = diff (suc d.0) logs (omega (arith, de, ll)) in let re = r.1 in
          subst (λ a. Ahead a pl l) {x = suc (d.0 + r.0)} (omega (arith, re)) (ahead_up d.0 pl r.0 l de ll)

  place_in : (pl : ℕ) → cond (ltb pl logs) pl 0 < logs
  place_in pl = cond_both (ltb pl logs) pl 0 (λ z. z < logs) (λ t. ltb-true pl logs t) (λ t. omega (arith, one))

  pub record Final (tot : ℕ) : Type 0 where
    pub m : Mind
    pub f : ℕ → Box
    pub n : ℕ
    pub at' : B (asks m none' rest) f n
    pub empty : (m.keep.batch ≡ none) × (m.keep.waiting ≡ [])
    pub idle' : o.due (f 0).bytes ≡ nothing
    pub took : (l : ℕ) → l < logs → V.Took (f 0).bytes l (f (log_box l)).bytes
    pub spent : n ≤ tot

  abbrev looks_all : Mind → Mind
  looks_all m = looking m m.floor (cond (ltb m.place logs) m.place 0) logs

  to_rest : (m : Mind) (f : ℕ → Box) (n : ℕ) → (m.keep.batch ≡ none) × (m.keep.waiting ≡ []) → B (idle o logs m) f n → B (asks m none' rest) f n
  to_rest m f n e a = subst₂ (λ y z. B (idle_by o logs m y z) f n) e.0 e.1 a

  -- then a look at every log
  full : (m : Mind) (f : ℕ → Box) (n w tot : ℕ) → tot < P.bound → (m.keep.batch ≡ none) × (m.keep.waiting ≡ []) → V.Work w f → n + 12 * w + 12 * logs + 12 ≤ tot → B (read_ledger o logs (looks_all m)) f n → Final tot
  full m f n w tot tb e wk bud a =
      let d = ledger_done o p logs P V one all i c al lt es s made tot tb (suc (logs + w)) (looks_all m) f n w (place_in m.place) a wk (omega arith) (omega (arith, bud)) in
      let sp = d.spent in
      let e2 : (d.m.keep.batch ≡ none) × (d.m.keep.waiting ≡ []) = (ap (λ z. z.batch) d.keep ∙ e.0, ap (λ z. z.waiting) d.keep ∙ e.1) in
      record { m = d.m; f = d.f; n = d.n; at' = to_rest d.m d.f d.n e2 d.at'; empty = e2; idle' = d.idle'; took = λ l ll. d.took l ll (inl (ahead_all (cond (ltb m.place logs) m.place 0) l (place_in m.place) ll)); spent = omega (arith, sp) }

  -- from rest, once more
  final : (m : Mind) (f : ℕ → Box) (n w tot : ℕ) → tot < P.bound → (m.keep.batch ≡ none) × (m.keep.waiting ≡ []) → V.Work w f → n + 12 * w + 12 * logs + 13 ≤ tot → B (idle o logs m) f n → Final tot
  unfolding acts
  final m f n w tot tb e wk bud a = full m1 f (suc n) w tot tb e wk (omega (arith, bud)) (subst₂ (λ y z. B (start_by o logs m1 y z) f (suc n)) e.0 e.1 (mid_turn o logs all i c lt es s (to_rest m f n e a).mid Beat a_beat))
    where
      m1 : Mind
      m1 = hearing (asks m none' rest).mind false

  few_jobs : (k : Keep) (b : Batch) → k.batch ≡ b → length k.waiting + puts_of k.batch ≤ 8 → jobs_in k ≤ 9
  few_jobs k none e h = let q : batch_one k.batch ≡ 0 = ap batch_one e in omega (arith, q, h)
  few_jobs k (some l ps) e h = let q : batch_one k.batch ≡ 1 = ap batch_one e in omega (arith, q, h)

  kept_start : (m : Mind) (b : Batch) (js : List Job) → (start_by o logs m b js).mind.keep ≡ m.keep
  kept_start m (some l ps) js = refl
  kept_start m none [] = refl
  kept_start m none (j ∷ js) = by j.call
    where
      by : (x : Call) → (start_call o logs m j.number x).mind.keep ≡ m.keep
      by (Put l e) = refl
      by (Out' y z) = refl
      by (Drop y) = refl

  -- FROM ANY MIND, at its first showing
  pub all_ends : (m : Mind) (f : ℕ → Box) (n w tot : ℕ) → tot < P.bound → V.Work w f → n + 12 * w + (12 * logs + 20) + cost 9 + (12 * logs + 20) ≤ tot → B (start o logs m) f n → Final tot
  all_ends m f n w tot tb wk bud a = by m.keep.batch m.keep.waiting refl refl a
    where
      kf : KeepFacts m.keep n
      kf = subst (λ k. KeepFacts k n) (kept_start m m.keep.batch m.keep.waiting) (keep_at a (omega (arith, bud, tb)))

      jobs : jobs_in m.keep ≤ 9
      jobs = few_jobs m.keep m.keep.batch refl kf.few

      go : B (idle o logs m) f n → Final tot
      go a = let r = ends 9 m f n w (n + 12 * w + cost 9) (omega (arith, bud, tb)) jobs wk (omega arith) a in let sp = r.spent in final r.m r.f r.n r.w tot tb r.empty r.work (omega (arith, sp, bud)) r.at'

      by : (b : Batch) (js : List Job) → m.keep.batch ≡ b → m.keep.waiting ≡ js → B (start_by o logs m b js) f n → Final tot
      by (some l ps) js e jw a = go (subst₂ (λ y z. B (idle_by o logs m y z) f n) (sym e) (sym jw) a)
      by none (j ∷ js) e jw a = go (subst₂ (λ y z. B (idle_by o logs m y z) f n) (sym e) (sym jw) a)
      by none [] e jw a = full m f n w tot tb (e, jw) wk (omega (arith, bud)) a
