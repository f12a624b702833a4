-- BusyAtNine for the worker: what it keeps waits at it, and only the ninth call is handed back.
use Rattle.std.proofs.Common.{◌≡◌, ℕ, suc, ◌+◌, ◌<◌, ◌≤◌, Bool, true, false, cond, not, ◌&&◌, ◌||◌, eqb, ltb, leb, ◌⊎◌, List, [], ◌∷◌, ◌++◌, length, sym, refl, ap, ◌∙◌, subst, subst₂, inl, inr, ⊎_elim, arith}
use mathlib.Core.List.Memᴰ
use mathlib.Core.List.{Memᴰ}
use Rattle.std.proofs.lemmas.Bool.{cond_both, eq-eqb, ltb-false, both_ways}
use Rattle.streams.specs.Meaning.{Event, Plan}
use Rattle.streams.specs.Calls.{Call, Put, Out', Drop, Reply, No, Yes, Outs, entry_ok}
use Rattle.streams.specs.Hands.{Box, In, From, Shown, Filled, Ask, Beat, Tell, here, Seen, Scene, Goes, count_at, Way}
use Rattle.book.specs.Ledger.{log_box}
use Rattle.book.specs.Interface.{Gives, lacks, gives, Calls, nothing, alone, with_page, Next, page, reply, Filling, Ops}
use Rattle.worker.specs.Worker.{Job, Batch, none, some, Phase, rest, log, put, ledger, page', written, kept, look, answer', gather, Keep, Mind, Told, Asks, none', show, fill, Step, keep_if, entries, stays, asks, keeping, hearing, looking, waits, fixed, settled', for_log, yeses, is_nothing, read_ledger, start_call, start_by, start, idle_by, idle, settle, fill_log, putting, on_log_by, on_put_by, write, next_log, on_ledger_by, on_ledger, took_by, gather_by, gathers, on_shown, on_filled, refuses, accepts, judges, acts, puts_of, is_rest, telling, asking', worker, less_one, is_no_page}
use Rattle.worker.proofs.Laws.{Laws}
use Rattle.shelf.proofs.Places.{all_cons, all_none}
use Rattle.shelf.proofs.Counts.{minds_wait, Differ, count_many_at}
use Rattle.worker.proofs.Jobs.{Distinct, in_keep}
use Rattle.worker.proofs.Invariant.{none_some, PhaseOk}
use Rattle.worker.proofs.Onebook.{inv}

-- a call is in mind: it waits, or is in the batch
abbrev pub HasK : Keep → ℕ → Type 0
HasK k n = ((j : Job) × Memᴰ j k.waiting × (n ≡ j.number)) ⊎ ((l : ℕ) × (ps : List Job) × (k.batch ≡ some l ps) × (j : Job) × Memᴰ j ps × (n ≡ j.number))

-- numbers in mind differ
pub record Apart (k : Keep) : Type 0 where
  pub waiting : Distinct k.waiting
  pub batch : (l : ℕ) (ps : List Job) → k.batch ≡ some l ps → Distinct ps × ((j : Job) → Memᴰ j ps → (a : Job) → Memᴰ a k.waiting → j.number ≡ a.number → ⊥)

-- the call that is being answered
abbrev pub Ans : Phase → ℕ → Type 0
Ans rest k = ⊥
Ans (log l) k = ⊥
Ans put k = ⊥
Ans ledger k = ⊥
Ans (page' e l b) k = ⊥
Ans (written e t ts l) k = ⊥
Ans kept k = ⊥
Ans (look e l c n) k = ⊥
Ans (answer' n f t) k = n ≡ k
Ans (gather n f t l got b) k = n ≡ k

-- all that a turn can do to what is kept, and tell
pub data Can' (x : In ℕ Call) (m : Mind) (r : Step) : Type 0 where
  keeps : r.tell ≡ [] → r.mind.keep ≡ m.keep → Can' x m r
  fixes : (l : ℕ) → r.tell ≡ [] → r.mind.keep ≡ fixed m.keep l (keep_if (λ j. for_log l j.call) m.keep.waiting) (keep_if (λ j. not (for_log l j.call)) m.keep.waiting) → m.keep.batch ≡ none → Can' x m r
  settles : (l : ℕ) (ps : List Job) → m.keep.batch ≡ some l ps → r.tell ≡ yeses ps → r.mind.keep ≡ settled' m.keep → Can' x m r
  answers : (k : ℕ) (ev : List Event) → Ans m.phase k → r.tell ≡ record { number = k; reply = Outs ev } ∷ [] → r.mind.keep ≡ waits m.keep (keep_if (λ j. not (eqb j.number k)) m.keep.waiting) → Can' x m r
  refuses' : (k w : ℕ) (c : Call) → x ≡ Ask k c → r.tell ≡ record { number = k; reply = No w } ∷ [] → r.mind.keep ≡ m.keep → (w ≡ 11 → 8 ≤ length m.keep.waiting + puts_of m.keep.batch) → Can' x m r
  accepts' : (k : ℕ) (c : Call) → x ≡ Ask k c → r.tell ≡ [] → r.mind.keep ≡ waits m.keep (m.keep.waiting ++ (record { number = k; call = c } ∷ [])) → Can' x m r

-- a step that tells nothing and changes nothing of what is kept
abbrev pub Kp : Keep → Step → Type 0
Kp k r = (r.tell ≡ []) × (r.mind.keep ≡ k)

module _ (o : Ops) (logs : ℕ) where
  kp_call : (m : Mind) (k : ℕ) (c : Call) → Kp m.keep (start_call o logs m k c)
  kp_call m k (Put l e) = (refl, refl)
  kp_call m k (Out' f n) = (refl, refl)
  kp_call m k (Drop n) = (refl, refl)

  pub kp_start : (m : Mind) (b : Batch) (js : List Job) → Kp m.keep (start_by o logs m b js)
  kp_start m (some l ps) js = (refl, refl)
  kp_start m none [] = (refl, refl)
  kp_start m none (j ∷ js) = kp_call m j.number j.call

  kp_idle : (m : Mind) (b : Batch) (js : List Job) → Kp m.keep (idle_by o logs m b js)
  kp_idle m (some l ps) js = (refl, refl)
  kp_idle m none [] = (refl, refl)
  kp_idle m none (j ∷ js) = kp_call m j.number j.call

  kp_rest : (m : Mind) → Kp m.keep (idle o logs m)
  kp_rest m = kp_idle m m.keep.batch m.keep.waiting

  kp_write : (m : Mind) (e : ℕ) (ts : List Filling) (y : List ℕ) → Kp m.keep (write o logs m e ts y)
  kp_write m e [] y = (refl, refl)
  kp_write m e (t ∷ ts) y = (refl, refl)

  kp_next : (m : Mind) (e : ℕ) (y : List ℕ) (c : Bool) → Kp m.keep (next_log o logs m e y c)
  kp_next m e y c = cond_both (ltb m.place logs && not (eqb m.left 0)) (asks m (show (log_box m.place)) (look e y c m.place)) (cond c (asks m (fill 0 e y) kept) (idle o logs m)) (Kp m.keep)
      (λ t. (refl, refl)) (λ t. cond_both c (asks m (fill 0 e y) kept) (idle o logs m) (Kp m.keep) (λ t. (refl, refl)) (λ t. kp_rest m))

  kp_ledger : (m : Mind) (x : Box) (d : Calls) → Kp m.keep (on_ledger_by o logs m x d)
  kp_ledger m x nothing = kp_next m x.edition x.bytes false
  kp_ledger m x alone = kp_write m x.edition (o.pages x.bytes []) (o.after x.bytes [])
  kp_ledger m x (with_page b) = (refl, refl)

  kp_took : (m : Mind) (e : ℕ) (l : List ℕ) (c : Bool) (n : ℕ) (g : Gives) → Kp m.keep (took_by o logs m e l c n g)
  kp_took m e l c n lacks = (refl, refl)
  kp_took m e l c n (gives x) = cond_both (is_nothing (o.due x)) (next_log o logs (looking m m.floor (cond (ltb (n + 1) logs) (n + 1) 0) (less_one o logs m.left)) e x (c || o.differs l x)) (cond (c || o.differs l x) (asks m (fill 0 e x) kept) (read_ledger o logs m)) (Kp m.keep)
      (λ t. kp_next (looking m m.floor (cond (ltb (n + 1) logs) (n + 1) 0) (less_one o logs m.left)) e x (c || o.differs l x))
      (λ t. cond_both (c || o.differs l x) (asks m (fill 0 e x) kept) (read_ledger o logs m) (Kp m.keep) (λ t. (refl, refl)) (λ t. (refl, refl)))

  module _ (y : In ℕ Call) (m : Mind) where
    abbrev m1 : Mind
    m1 = hearing m true

    of_kp : (r : Step) → Kp m.keep r → Can' y m r
    of_kp r k = keeps k.0 k.1

    can_settle : (l : ℕ) (ps : List Job) → m.keep.batch ≡ some l ps → Can' y m (settle o logs m1 ps)
    can_settle l ps b = settles l ps b refl (kp_rest (keeping m1 (settled' m.keep))).1

    can_fill : (l e : ℕ) (k : Keep) (g : Gives) → ((r : Step) → Kp k r → Can' y m r) → Can' y m (fill_log o logs m1 k l e g)
    can_fill l e k lacks f = keeps refl refl
    can_fill l e k (gives bs) f = f (asks (keeping m1 k) (fill (log_box l) e bs) put) (refl, refl)

    can_log : (l : ℕ) (x : Box) (b : Batch) → m.keep.batch ≡ b → Can' y m (on_log_by o logs m1 l x b)
    can_log l x none is = can_fill l x.edition (fixed m.keep l (keep_if (λ j. for_log l j.call) m.keep.waiting) (keep_if (λ j. not (for_log l j.call)) m.keep.waiting))
        (o.adds m.floor m.keep.me m.keep.chance (m.keep.serial + 1) l x.bytes (entries (keep_if (λ j. for_log l j.call) m.keep.waiting))) (λ r k. fixes l k.0 k.1 is)
    can_log l x (some n ps) is = cond_both (eqb l n) (cond (o.has x.bytes m.keep.me m.keep.chance m.keep.serial) (settle o logs m1 ps) (putting o logs m1 m.keep n ps x)) (start o logs m1) (Can' y m)
        (λ t. cond_both (o.has x.bytes m.keep.me m.keep.chance m.keep.serial) (settle o logs m1 ps) (putting o logs m1 m.keep n ps x) (Can' y m) (λ t. can_settle n ps is)
        (λ t. can_fill n x.edition m.keep (o.adds m.floor m.keep.me m.keep.chance m.keep.serial n x.bytes (entries ps)) of_kp))
        (λ t. of_kp (start o logs m1) (kp_start m1 m.keep.batch m.keep.waiting))

    can_gather : (k f n : ℕ) (l : List ℕ) (got : List Event) (z : Next) → Ans m.phase k → Can' y m (gather_by o logs m1 k f n l got z)
    can_gather k f n l got (page b) an = keeps refl refl
    can_gather k f n l got (reply es) an = answers k es an refl (kp_rest (keeping m1 (waits m.keep (keep_if (λ j. not (eqb j.number k)) m.keep.waiting)))).1

    can_shown : (x : Box) (ph : Phase) → m.phase ≡ ph → Can' y m (on_shown o logs m1 x ph)
    can_shown x rest is = keeps refl refl
    can_shown x (log l) is = can_log l x m.keep.batch refl
    can_shown x put is = keeps refl refl
    can_shown x ledger is = of_kp (on_ledger o logs m1 x) (kp_ledger (looking m1 (o.raise x.bytes m.floor) m.place m.left) x (o.due x.bytes))
    can_shown x (page' e l b) is = cond_both (is_no_page o logs l x) (read_ledger o logs m1) (write o logs m1 e (o.pages l x.bytes) (o.after l x.bytes)) (Can' y m) (λ t. keeps refl refl) (λ t. of_kp (write o logs m1 e (o.pages l x.bytes) (o.after l x.bytes)) (kp_write m1 e (o.pages l x.bytes) (o.after l x.bytes)))
    can_shown x (written e t ts l) is = keeps refl refl
    can_shown x kept is = keeps refl refl
    can_shown x (look e l c n) is = of_kp (took_by o logs m1 e l c n (o.take l n x.bytes)) (kp_took m1 e l c n (o.take l n x.bytes))
    can_shown x (answer' k f n) is = can_gather k f n x.bytes [] (o.answer f n x.bytes []) (subst (λ z. Ans z k) (sym is) refl)
    can_shown x (gather k f n l got b) is = cond_both (eqb x.edition 0) (start o logs m1) (gathers o logs m1 k f n l (o.more f n l got x.bytes)) (Can' y m) (λ t. of_kp (start o logs m1) (kp_start m1 m.keep.batch m.keep.waiting))
        (λ t. can_gather k f n l (o.more f n l got x.bytes) (o.answer f n l (o.more f n l got x.bytes)) (subst (λ z. Ans z k) (sym is) refl))

    can_put : (d : Bool) (b : Batch) → m.keep.batch ≡ b → Can' y m (on_put_by o logs m1 d b)
    can_put d none is = of_kp (start o logs m1) (kp_start m1 m.keep.batch m.keep.waiting)
    can_put d (some l ps) is = cond_both d (settle o logs m1 ps) (start o logs m1) (Can' y m) (λ t. can_settle l ps is) (λ t. of_kp (start o logs m1) (kp_start m1 m.keep.batch m.keep.waiting))

    can_filled : (d : Bool) (ph : Phase) → Can' y m (on_filled o logs m1 d ph)
    can_filled d rest = keeps refl refl
    can_filled d (log l) = keeps refl refl
    can_filled d put = can_put d m.keep.batch refl
    can_filled d ledger = keeps refl refl
    can_filled d (page' e l b) = keeps refl refl
    can_filled d (written e t ts l) = of_kp (write o logs m1 e ts l) (kp_write m1 e ts l)
    can_filled d kept = keeps refl refl
    can_filled d (look e l c n) = keeps refl refl
    can_filled d (answer' k f n) = keeps refl refl
    can_filled d (gather k f n l got b) = keeps refl refl

  can_accept : (m : Mind) (k : ℕ) (c : Call) → Can' (Ask k c) m (accepts o logs m k c)
  can_accept m k c = cond_both (is_rest m.phase) (start o logs (keeping m k')) (stays (keeping m k')) (Can' (Ask k c) m) (λ t. let r = kp_start (keeping m k') k'.batch k'.waiting in accepts' k c refl r.0 r.1) (λ t. accepts' k c refl refl refl)
    where
      k' : Keep
      k' = waits m.keep (m.keep.waiting ++ (record { number = k; call = c } ∷ []))

  not_11 : (m : Mind) (k w : ℕ) (c : Call) → (w ≡ 11 → ⊥) → Can' (Ask k c) m (refuses o logs m k w)
  not_11 m k w c ne = refuses' k w c refl refl refl (λ e. absurd (ne e))

  can_judge : (m : Mind) (k : ℕ) (c : Call) → Can' (Ask k c) m (judges o logs m k c)
  can_judge m k (Put l e) = cond_both (entry_ok e) (cond (ltb l logs) (accepts o logs m k (Put l e)) (refuses o logs m k 2)) (refuses o logs m k 1) (Can' (Ask k (Put l e)) m)
      (λ t. cond_both (ltb l logs) (accepts o logs m k (Put l e)) (refuses o logs m k 2) (Can' (Ask k (Put l e)) m) (λ t. can_accept m k (Put l e)) (λ t. not_11 m k 2 (Put l e) (λ e. omega arith))) (λ t. not_11 m k 1 (Put l e) (λ e. omega arith))
  can_judge m k (Out' f n) = cond_both (leb n 1024) (accepts o logs m k (Out' f n)) (refuses o logs m k 1) (Can' (Ask k (Out' f n)) m) (λ t. can_accept m k (Out' f n)) (λ t. not_11 m k 1 (Out' f n) (λ e. omega arith))
  can_judge m k (Drop n) = not_11 m k 12 (Drop n) (λ e. omega arith)

  pub can : (x : In ℕ Call) (m : Mind) → Can' x m (acts o logs x m)
  unfolding acts
  can (From j w) m = keeps refl refl
  can (Shown q x) m = cond_both (eqb q m.asked) (on_shown o logs (hearing m true) x m.phase) (stays m) (Can' (Shown q x) m) (λ t. can_shown (Shown q x) m x m.phase refl) (λ t. keeps refl refl)
  can (Filled q d e) m = cond_both (eqb q m.asked) (on_filled o logs (hearing m true) d m.phase) (stays m) (Can' (Filled q d e) m) (λ t. can_filled (Filled q d e) m d m.phase) (λ t. keeps refl refl)
  can (Ask k c) m = cond_both (ltb (length m.keep.waiting + puts_of m.keep.batch) 8) (judges o logs m k c) (refuses o logs m k 11) (Can' (Ask k c) m) (λ t. can_judge m k c) (λ t. refuses' k 11 c refl refl refl (λ e. ltb-false (length m.keep.waiting + puts_of m.keep.batch) 8 t))
  can Beat m = cond_both (is_rest m.phase || not m.heard) (start o logs (hearing m false)) (stays (hearing m false)) (Can' Beat m) (λ t. let r = kp_start (hearing m false) m.keep.batch m.keep.waiting in keeps r.0 r.1) (λ t. keeps refl refl)

-- what is told is told by the list of a step
told_in : (q : ℕ) (a : Asks) (ts : List Told) (k : ℕ) (r : Reply) → Memᴰ (Tell k r) (telling ts (asking' q a)) → Memᴰ (record { number = k; reply = r }) ts
unfolding telling
told_in q none' [] k r m = elim m [ ]
told_in q (show b) [] k r (Memᴰ.head e) = absurd (let z : ◌≡◌ {A = ℕ} 0 1 = cc in omega arith)
told_in q (show b) [] k r (Memᴰ.tail m) = elim m [ ]
told_in q (fill b e bs) [] k r (Memᴰ.head x) = absurd (let z : ◌≡◌ {A = ℕ} 0 1 = cc in omega arith)
told_in q (fill b e bs) [] k r (Memᴰ.tail m) = elim m [ ]
told_in q a (t ∷ ts) k r (Memᴰ.head e) = Memᴰ.head (let u : k ≡ t.number = cc in let v : r ≡ t.reply = cc in subst₂ (λ y z. ◌≡◌ {A = Told} (record { number = k; reply = r }) (record { number = y; reply = z })) u v refl)
told_in q a (t ∷ ts) k r (Memᴰ.tail m) = Memᴰ.tail (told_in q a ts k r m)

in_yeses : (ps : List Job) (t : Told) → Memᴰ t (yeses ps) → (j : Job) × Memᴰ j ps × (t.number ≡ j.number) × (t.reply ≡ Yes)
unfolding yeses
in_yeses [] t m = elim m [ ]
in_yeses (j ∷ ps) t (Memᴰ.head e) = (j, Memᴰ.head refl, ap (λ z. z.number) e, ap (λ z. z.reply) e)
in_yeses (j ∷ ps) t (Memᴰ.tail m) = let r = in_yeses ps t m in (r.0, Memᴰ.tail r.1, r.2, r.3)

pub record Fit (m : Mind) : Type 0 where
  pub apart : Apart m.keep
  pub answering : (k : ℕ) → Ans m.phase k → (j : Job) × Memᴰ j m.keep.waiting × (k ≡ j.number)

fair_of : (x : In ℕ Call) (m : Mind) (r : Step) (k : ℕ) → Can' x m r → Fit m → ((n : ℕ) (c : Call) → x ≡ Ask n c → HasK m.keep n → ⊥) → HasK r.mind.keep k →
    (HasK m.keep k ⊎ ((c : Call) × (x ≡ Ask k c))) × ((t : Told) → Memᴰ t r.tell → t.number ≡ k → ⊥)
fair_of x m r k (keeps t e) fit new h = (inl (subst (λ z. HasK z k) e h), λ a m. elim (subst (Memᴰ a) t m) [ ])
fair_of x m r k (fixes l t e nb) fit new h = (inl (go (subst (λ z. HasK z k) e h)), λ a m. elim (subst (Memᴰ a) t m) [ ])
  where
    go : HasK (fixed m.keep l (keep_if (λ j. for_log l j.call) m.keep.waiting) (keep_if (λ j. not (for_log l j.call)) m.keep.waiting)) k → HasK m.keep k
    go (inl z) = inl (z.0, (in_keep (λ j. not (for_log l j.call)) m.keep.waiting z.0 z.1).0, z.2)
    go (inr z) = let b = z.2 in let q : keep_if (λ j. for_log l j.call) m.keep.waiting ≡ z.1 = cc in inl (z.3, (in_keep (λ j. for_log l j.call) m.keep.waiting z.3 (subst (Memᴰ z.3) (sym q) z.4)).0, z.5)
fair_of x m r k (settles l ps b t e) fit new h = go (subst (λ z. HasK z k) e h)
  where
    go : HasK (settled' m.keep) k → (HasK m.keep k ⊎ ((c : Call) × (x ≡ Ask k c))) × ((t : Told) → Memᴰ t r.tell → t.number ≡ k → ⊥)
    go (inr z) = absurd (none_some z.2)
    go (inl z) = (inl (inl z), λ a n u. let y = in_yeses ps a (subst (Memᴰ a) t n) in (fit.apart.batch l ps b).1 y.0 y.1 z.0 z.1 (sym y.2 ∙ (u ∙ z.2)))
fair_of x m r k (answers n ev an t e) fit new h = go (subst (λ z. HasK z k) e h)
  where
    one : (a : Told) → Memᴰ a r.tell → a.number ≡ n
    one a y = all_cons (λ a. a.number ≡ n) refl (all_none (λ a. a.number ≡ n)) a (subst (Memᴰ a) t y)

    go : HasK (waits m.keep (keep_if (λ j. not (eqb j.number n)) m.keep.waiting)) k → (HasK m.keep k ⊎ ((c : Call) × (x ≡ Ask k c))) × ((t : Told) → Memᴰ t r.tell → t.number ≡ k → ⊥)
    go (inl z) = let y = in_keep (λ j. not (eqb j.number n)) m.keep.waiting z.0 z.1 in
        (inl (inl (z.0, y.0, z.2)), λ a u w. both_ways (not (eqb z.0.number n)) (ap not (eq-eqb z.0.number n (sym z.2 ∙ (sym w ∙ one a u)))) y.1)
    go (inr z) = let w = fit.answering n an in (inl (inr z), λ a u v. (fit.apart.batch z.0 z.1 z.2).1 z.3 z.4 w.0 w.1 (sym z.5 ∙ (sym v ∙ (one a u ∙ w.2))))
fair_of x m r k (refuses' n w c xe t e lots) fit new h = let q = subst (λ z. HasK z k) e h in
    (inl q, λ a y u. new n c xe (subst (HasK m.keep) (sym u ∙ all_cons (λ a. a.number ≡ n) refl (all_none (λ a. a.number ≡ n)) a (subst (Memᴰ a) t y)) q))
fair_of x m r k (accepts' n c xe t e) fit new h = (go (subst (λ z. HasK z k) e h), λ a m. elim (subst (Memᴰ a) t m) [ ])
  where
    go : HasK (waits m.keep (m.keep.waiting ++ (record { number = n; call = c } ∷ []))) k → HasK m.keep k ⊎ ((c : Call) × (x ≡ Ask k c))
    go (inr z) = inl (inr z)
    go (inl z) = ⊎_elim (λ y. inl (inl (z.0, y, z.2))) (λ y. inr (c, xe ∙ ap (λ q. Ask q c) (sym (z.2 ∙ all_cons (λ a. a.number ≡ n) refl (all_none (λ a. a.number ≡ n)) z.0 y)))) (Memᴰ.append_cases m.keep.waiting z.1)

busy_of : (x : In ℕ Call) (m : Mind) (r : Step) (k : ℕ) → Can' x m r → Memᴰ (record { number = k; reply = No 11 }) r.tell → (c : Call) × (x ≡ Ask k c) × (8 ≤ length m.keep.waiting + puts_of m.keep.batch)
busy_of x m r k (keeps t e) y = elim (subst (Memᴰ (record { number = k; reply = No 11 })) t y) [ ]
busy_of x m r k (fixes l t e nb) y = elim (subst (Memᴰ (record { number = k; reply = No 11 })) t y) [ ]
busy_of x m r k (settles l ps b t e) y = let z = in_yeses ps (record { number = k; reply = No 11 }) (subst (Memᴰ (record { number = k; reply = No 11 })) t y) in let u : No 11 ≡ Yes = z.3 in absurd (let z : ◌≡◌ {A = ℕ} 0 1 = cc in omega arith)
busy_of x m r k (answers n ev an t e) y = let u : No 11 ≡ Outs ev = all_cons (λ a. a.reply ≡ Outs ev) refl (all_none (λ a. a.reply ≡ Outs ev)) (record { number = k; reply = No 11 }) (subst (Memᴰ (record { number = k; reply = No 11 })) t y) in absurd (let z : ◌≡◌ {A = ℕ} 0 1 = cc in omega arith)
busy_of x m r k (refuses' n w c xe t e lots) y =
    let u : (k ≡ n) × (No 11 ≡ No w) = all_cons (λ a. (a.number ≡ n) × (a.reply ≡ No w)) (refl, refl) (all_none (λ a. (a.number ≡ n) × (a.reply ≡ No w))) (record { number = k; reply = No 11 }) (subst (Memᴰ (record { number = k; reply = No 11 })) t y) in
    let v = u.1 in let q : w ≡ 11 = cc in (c, xe ∙ ap (λ z. Ask z c) (sym u.0), lots q)
busy_of x m r k (accepts' n c xe t e) y = elim (subst (Memᴰ (record { number = k; reply = No 11 })) t y) [ ]

-- how many
numbers : List Job → List ℕ
numbers [] = []
numbers (j ∷ js) = j.number ∷ numbers js

in_numbers : (js : List Job) (k : ℕ) → Memᴰ k (numbers js) → (j : Job) × Memᴰ j js × (k ≡ j.number)
unfolding numbers
in_numbers [] k m = elim m [ ]
in_numbers (j ∷ js) k (Memᴰ.head e) = (j, Memᴰ.head refl, e)
in_numbers (j ∷ js) k (Memᴰ.tail m) = let r = in_numbers js k m in (r.0, Memᴰ.tail r.1, r.2)

numbers_differ : (js : List Job) → Distinct js → Differ (numbers js)
unfolding numbers
numbers_differ [] d = tt
numbers_differ (j ∷ js) d = (λ n m e. let r = in_numbers js n m in d.0 r.0 r.1 (e ∙ r.2), numbers_differ js d.1)

length_numbers : (js : List Job) → length (numbers js) ≡ length js
unfolding numbers
length_numbers [] = refl
length_numbers (j ∷ js) = ap suc (length_numbers js)

length_both : (xs ys : List Job) → length (xs ++ ys) ≡ length xs + length ys
length_both [] ys = omega arith
length_both (x ∷ xs) ys = let r = length_both xs ys in omega (arith, r)

distinct_both : (xs ys : List Job) → Distinct xs → Distinct ys → ((j : Job) → Memᴰ j ys → (a : Job) → Memᴰ a xs → j.number ≡ a.number → ⊥) → Distinct (xs ++ ys)
distinct_both [] ys d g c = g
distinct_both (x ∷ xs) ys d g c = (λ a m e. ⊎_elim (λ y. d.0 a y e) (λ y. c a y x (Memᴰ.head refl) (sym e)) (Memᴰ.append_cases xs m), distinct_both xs ys d.1 g (λ j m a n. c j m a (Memᴰ.tail n)))

abbrev batched : Batch → List Job
batched none = []
batched (some l ps) = ps

module _ (o : Ops) (p : Plan) (logs : ℕ) (L : Laws o p logs) where
  jobs_of : (k : Keep) (b : Batch) → k.batch ≡ b → Apart k → Distinct (k.waiting ++ batched b) × (puts_of b ≡ length (batched b)) × ((j : Job) → Memᴰ j (k.waiting ++ batched b) → HasK k j.number)
  jobs_of k none e a = (distinct_both k.waiting [] a.waiting tt (λ j m. elim m [ ]), refl, λ j m. ⊎_elim (λ y. inl (j, y, refl)) (λ y. elim y [ ]) (Memᴰ.append_cases k.waiting m))
  jobs_of k (some l ps) e a = let b = a.batch l ps e in (distinct_both k.waiting ps a.waiting b.0 b.1, refl, λ j m. ⊎_elim (λ y. inl (j, y, refl)) (λ y. inr (l, ps, e, j, y, refl)) (Memᴰ.append_cases k.waiting m))

  fit_phase : (w : L.World) (f : ℕ → Box) (ws : List (Way ℕ)) (i d q : ℕ) (k : Keep) (ph : Phase) → PhaseOk o p logs L w f ws i d q k ph → (n : ℕ) → Ans ph n → (j : Job) × Memᴰ j k.waiting × (n ≡ j.number)
  fit_phase w f ws i d q k rest h n a = absurd a
  fit_phase w f ws i d q k (log l) h n a = absurd a
  fit_phase w f ws i d q k put h n a = absurd a
  fit_phase w f ws i d q k ledger h n a = absurd a
  fit_phase w f ws i d q k (page' e l b) h n a = absurd a
  fit_phase w f ws i d q k (written e t ts l) h n a = absurd a
  fit_phase w f ws i d q k kept h n a = absurd a
  fit_phase w f ws i d q k (look e l c b) h n a = absurd a
  fit_phase w f ws i d q k (answer' x y z) h n a = (record { number = x; call = Out' y z }, h.1, sym a)
  fit_phase w f ws i d q k (gather x y z l got b) h n a = (record { number = x; call = Out' y z }, h.1, sym a)

  fit_ok : (all n : ℕ) (es : List (Seen Call Reply)) (s : Scene Mind ℕ) → all ≤ 64 → n < 72057594037927936 → Goes (worker o logs) all n es s → (i c : ℕ) (m : Mind) → s.hand i ≡ here c m → Fit m
  fit_ok all n es s al sm g i c m e = let v = inv o p logs L al (let f = L.far in omega arith) g in let k = v.3.hands i c m e in
      record { apart = record { waiting = k.keep.distinct; batch = λ l ps b. let q = k.keep.batch l ps b in (q.distinct, q.clear) }; answering = fit_phase v.0 s.box s.ways i c m.asked m.keep m.phase k.phase }

  -- only a ninth call is handed back
  pub worker_busy : {all n : ℕ} {es : List (Seen Call Reply)} {s : Scene Mind ℕ} → all ≤ 64 → n < 72057594037927936 → Goes (worker o logs) all n es s → (i c k : ℕ) (m : Mind) (x : In ℕ Call) → s.hand i ≡ here c m → Memᴰ (Tell k (No 11)) ((worker o logs).turns x m).does →
      (d : Call) × (x ≡ Ask k d) × (8 ≤ count_at i s.waits)
  worker_busy {all} {n} {es} {s} al sm g i c k m x e t =
      let r = busy_of x m (acts o logs x m) k (can o logs x m) (told_in (acts o logs x m).mind.asked (acts o logs x m).ask (acts o logs x m).tell k (No 11) t) in
      let fit = fit_ok all n es s al sm g i c m e in
      let js = jobs_of m.keep m.keep.batch refl fit.apart in
      let all_jobs : List Job = m.keep.waiting ++ batched m.keep.batch in
      let q = count_many_at i (numbers all_jobs) s.waits (numbers_differ all_jobs js.0)
      (λ k y. let z = in_numbers all_jobs k y in (minds_wait (worker o logs) (λ m. HasK m.keep) Fit fit_ok (λ me ch k. no_jobs me ch k)
      (λ x m k ok new h. let f = fair_of x m (acts o logs x m) k (can o logs x m) ok new h in (f.0, λ y u. f.1 (record { number = k; reply = y }) (told_in (acts o logs x m).mind.asked (acts o logs x m).ask (acts o logs x m).tell k y u) refl))
      al sm g i c m e k (subst (HasK m.keep) (sym z.2) (js.2 z.0 z.1))).0) in
      let a = length_numbers all_jobs in let b = length_both m.keep.waiting (batched m.keep.batch) in let d = js.1 in let h = r.2 in (r.0, r.1, omega (arith, a, b, d, h, q))
    where
      no_jobs : (me ch k : ℕ) → HasK ((worker o logs).begins me ch).keep k → ⊥
      no_jobs me ch k (inl z) = elim z.1 [ ]
      no_jobs me ch k (inr z) = none_some z.2
