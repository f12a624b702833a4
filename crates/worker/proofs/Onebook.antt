-- OneBook for the worker: by induction over all that can happen.
use Rattle.std.proofs.Common.{◌≡◌, ℕ, suc, ◌+◌, ◌<◌, ◌≤◌, Bool, true, false, cond, not, ◌&&◌, ◌||◌, eqb, ltb, leb, ◌⊎◌, List, [], ◌∷◌, ◌++◌, length, sym, refl, ap, ◌∙◌, subst, subst₂, inl, inr, arith}
use Rattle.std.proofs.lemmas.Bool.{cond_both}
use Rattle.streams.specs.Meaning.{Event, Plan}
use Rattle.streams.specs.Calls.{Call, Put, Out', Drop, Reply, State, entry_ok}
use Rattle.streams.specs.Hands.{Box, In, From, Shown, Filled, Ask, Beat, wants_fill, shows, says, away, here, Seen, called, is_used, is_in, at, Scene, Open, Ready, Book, sent, tells, Goes, first, turns, asked, shows_box, fills, doesnt_fill, goes, comes}
use Rattle.book.specs.Ledger.{log_box}
use Rattle.book.specs.Interface.{Gives, lacks, gives, Calls, nothing, alone, with_page, Next, page, reply, Filling, Ops}
use Rattle.worker.specs.Worker.{Job, Batch, none, some, Phase, rest, log, put, ledger, page', written, kept, look, answer', gather, Keep, Mind, Told, Asks, none', show, fill, Step, keep_if, entries, stays, asks, keeping, hearing, looking, waits, fixed, settled', for_log, is_nothing, read_ledger, start_call, start_by, start, idle_by, idle, settle, fill_log, putting, on_log_by, on_put_by, write, next_log, on_ledger_by, took_by, gather_by, gathers, on_shown, on_filled, refuses, accepts, judges, acts, puts_of, is_rest, telling, asking', turn_of, worker, less_one, is_no_page}
use Rattle.worker.proofs.Laws.{Laws}
use Rattle.shelf.specs.Moments.{Rises}
use Rattle.shelf.proofs.Places.{not_here, fillable_edition, is_false}
use Rattle.shelf.proofs.History.{past}
use Rattle.shelf.proofs.Numbers.{fresh}
use Rattle.shelf.proofs.Latelooks.{Loose}
use Rattle.shelf.proofs.History
use Rattle.shelf.proofs.Latelooks
use Rattle.worker.proofs.Jobs.{tells_are, sent_are, length_empties, K, state_of}
use Rattle.worker.proofs.Invariant.{View, Good, Turned, turn_ok, call_ok, fill_ok, answer_quiet, gone_quiet, come_quiet}

-- numbers go up
abbrev Up : ℕ → Step → Type 0
Up a r = (a ≤ r.mind.asked) × ((r.ask ≡ none') ⊎ (a < r.mind.asked))

rises_asks : (a q : ℕ) (x : Asks) → a ≤ q → ((x ≡ none') ⊎ (a < q)) → Rises a (asking' q x) q
rises_asks a q none' le u = le
rises_asks a q (show b) le (inl u) = absurd (let z : ◌≡◌ {A = ℕ} 0 1 = cc in omega arith)
rises_asks a q (show b) le (inr u) = (u, omega arith)
rises_asks a q (fill b e bs) le (inl u) = absurd (let z : ◌≡◌ {A = ℕ} 0 1 = cc in omega arith)
rises_asks a q (fill b e bs) le (inr u) = (u, omega arith)

rises_of : (a : ℕ) (ts : List Told) (r : Step) → Up a r → Rises a (telling ts (asking' r.mind.asked r.ask)) r.mind.asked
unfolding telling
rises_of a [] r u = rises_asks a r.mind.asked r.ask u.0 u.1
rises_of a (t ∷ ts) r u = rises_of a ts r u

up_asks : (m : Mind) (x : Asks) (ph : Phase) → Up m.asked (asks m x ph)
up_asks m x ph = (omega arith, inr (omega arith))

up_stays : (m : Mind) → Up m.asked (stays m)
up_stays m = (omega arith, inl refl)

module _ (o : Ops) (logs : ℕ) where
  up_call : (m : Mind) (k : ℕ) (c : Call) → Up m.asked (start_call o logs m k c)
  up_call m k (Put l e) = up_asks m (show (log_box l)) (log l)
  up_call m k (Out' f n) = up_asks m (show 0) (answer' k f n)
  up_call m k (Drop n) = up_stays m

  up_start : (m : Mind) (b : Batch) (js : List Job) → Up m.asked (start_by o logs m b js)
  up_start m (some l ps) js = up_asks m (show (log_box l)) (log l)
  up_start m none [] = up_asks (looking m m.floor (cond (ltb m.place logs) m.place 0) logs) (show 0) ledger
  up_start m none (j ∷ js) = up_call m j.number j.call

  up_idle : (m : Mind) (b : Batch) (js : List Job) → Up m.asked (idle_by o logs m b js)
  up_idle m (some l ps) js = up_start m (some l ps) js
  up_idle m none [] = up_asks m none' rest
  up_idle m none (j ∷ js) = up_start m none (j ∷ js)

  up_rest : (m : Mind) → Up m.asked (idle o logs m)
  up_rest m = up_idle m m.keep.batch m.keep.waiting

  up_fill : (m : Mind) (k : Keep) (l e : ℕ) (g : Gives) → Up m.asked (fill_log o logs m k l e g)
  up_fill m k l e lacks = up_asks (looking m m.floor l 1) (show 0) ledger
  up_fill m k l e (gives bs) = up_asks (keeping m k) (fill (log_box l) e bs) put

  up_put : (m : Mind) (k : Keep) (l : ℕ) (ps : List Job) (x : Box) → Up m.asked (putting o logs m k l ps x)
  up_put m k l ps x = up_fill m k l x.edition (o.adds m.floor k.me k.chance k.serial l x.bytes (entries ps))

  up_log : (m : Mind) (l : ℕ) (x : Box) (b : Batch) → Up m.asked (on_log_by o logs m l x b)
  up_log m l x none = up_put m (fixed m.keep l (keep_if (λ j. for_log l j.call) m.keep.waiting) (keep_if (λ j. not (for_log l j.call)) m.keep.waiting)) l (keep_if (λ j. for_log l j.call) m.keep.waiting) x
  up_log m l x (some n ps) = cond_both (eqb l n) (cond (o.has x.bytes m.keep.me m.keep.chance m.keep.serial) (settle o logs m ps) (putting o logs m m.keep n ps x)) (start o logs m) (Up m.asked)
      (λ t. cond_both (o.has x.bytes m.keep.me m.keep.chance m.keep.serial) (settle o logs m ps) (putting o logs m m.keep n ps x) (Up m.asked) (λ t. up_rest (keeping m (settled' m.keep))) (λ t. up_put m m.keep n ps x))
      (λ t. up_start m m.keep.batch m.keep.waiting)

  up_write : (m : Mind) (e : ℕ) (ts : List Filling) (y : List ℕ) → Up m.asked (write o logs m e ts y)
  up_write m e [] y = up_asks m (fill 0 e y) kept
  up_write m e (t ∷ ts) y = up_asks m (fill t.box 0 t.bytes) (written e t ts y)

  up_next : (m : Mind) (e : ℕ) (y : List ℕ) (c : Bool) → Up m.asked (next_log o logs m e y c)
  up_next m e y c = cond_both (ltb m.place logs && not (eqb m.left 0)) (asks m (show (log_box m.place)) (look e y c m.place)) (cond c (asks m (fill 0 e y) kept) (idle o logs m)) (Up m.asked)
      (λ t. up_asks m (show (log_box m.place)) (look e y c m.place)) (λ t. cond_both c (asks m (fill 0 e y) kept) (idle o logs m) (Up m.asked) (λ t. up_asks m (fill 0 e y) kept) (λ t. up_rest m))

  up_ledger : (m : Mind) (x : Box) (d : Calls) → Up m.asked (on_ledger_by o logs m x d)
  up_ledger m x nothing = up_next m x.edition x.bytes false
  up_ledger m x alone = up_write m x.edition (o.pages x.bytes []) (o.after x.bytes [])
  up_ledger m x (with_page b) = up_asks m (show b) (page' x.edition x.bytes b)

  up_took : (m : Mind) (e : ℕ) (l : List ℕ) (c : Bool) (n : ℕ) (g : Gives) → Up m.asked (took_by o logs m e l c n g)
  up_took m e l c n lacks = up_asks m (show 0) ledger
  up_took m e l c n (gives x) = cond_both (is_nothing (o.due x)) (next_log o logs (looking m m.floor (cond (ltb (n + 1) logs) (n + 1) 0) (less_one o logs m.left)) e x (c || o.differs l x)) (cond (c || o.differs l x) (asks m (fill 0 e x) kept) (read_ledger o logs m)) (Up m.asked)
      (λ t. up_next (looking m m.floor (cond (ltb (n + 1) logs) (n + 1) 0) (less_one o logs m.left)) e x (c || o.differs l x))
      (λ t. cond_both (c || o.differs l x) (asks m (fill 0 e x) kept) (read_ledger o logs m) (Up m.asked) (λ t. up_asks m (fill 0 e x) kept) (λ t. up_asks m (show 0) ledger))

  up_gather : (m : Mind) (k f n : ℕ) (l : List ℕ) (got : List Event) (y : Next) → Up m.asked (gather_by o logs m k f n l got y)
  up_gather m k f n l got (page b) = up_asks m (show b) (gather k f n l got b)
  up_gather m k f n l got (reply es) = up_rest (keeping m (waits m.keep (keep_if (λ j. not (eqb j.number k)) m.keep.waiting)))

  up_shown : (m : Mind) (x : Box) (ph : Phase) → Up m.asked (on_shown o logs m x ph)
  up_shown m x rest = up_stays m
  up_shown m x (log l) = up_log m l x m.keep.batch
  up_shown m x put = up_stays m
  up_shown m x ledger = up_ledger (looking m (o.raise x.bytes m.floor) m.place m.left) x (o.due x.bytes)
  up_shown m x (page' e l b) = cond_both (is_no_page o logs l x) (read_ledger o logs m) (write o logs m e (o.pages l x.bytes) (o.after l x.bytes)) (Up m.asked) (λ t. up_asks m (show 0) ledger) (λ t. up_write m e (o.pages l x.bytes) (o.after l x.bytes))
  up_shown m x (written e t ts l) = up_stays m
  up_shown m x kept = up_stays m
  up_shown m x (look e l c n) = up_took m e l c n (o.take l n x.bytes)
  up_shown m x (answer' k f n) = up_gather m k f n x.bytes [] (o.answer f n x.bytes [])
  up_shown m x (gather k f n l got b) = cond_both (eqb x.edition 0) (start o logs m) (gathers o logs m k f n l (o.more f n l got x.bytes)) (Up m.asked) (λ t. up_start m m.keep.batch m.keep.waiting) (λ t. up_gather m k f n l (o.more f n l got x.bytes) (o.answer f n l (o.more f n l got x.bytes)))

  up_putted : (m : Mind) (d : Bool) (b : Batch) → Up m.asked (on_put_by o logs m d b)
  up_putted m d none = up_start m m.keep.batch m.keep.waiting
  up_putted m d (some l ps) = cond_both d (settle o logs m ps) (start o logs m) (Up m.asked) (λ t. up_rest (keeping m (settled' m.keep))) (λ t. up_start m m.keep.batch m.keep.waiting)

  up_filled : (m : Mind) (d : Bool) (ph : Phase) → Up m.asked (on_filled o logs m d ph)
  up_filled m d rest = up_stays m
  up_filled m d (log l) = up_stays m
  up_filled m d put = up_putted m d m.keep.batch
  up_filled m d ledger = up_stays m
  up_filled m d (page' e l b) = up_stays m
  up_filled m d (written e t ts l) = up_write m e ts l
  up_filled m d kept = up_asks m (show 0) ledger
  up_filled m d (look e l c n) = up_stays m
  up_filled m d (answer' k f n) = up_stays m
  up_filled m d (gather k f n l got b) = up_stays m

  up_accept : (m : Mind) (k : ℕ) (c : Call) → Up m.asked (accepts o logs m k c)
  up_accept m k c = cond_both (is_rest m.phase) (start o logs (keeping m k')) (stays (keeping m k')) (Up m.asked) (λ t. up_start (keeping m k') k'.batch k'.waiting) (λ t. up_stays (keeping m k'))
    where
      k' : Keep
      k' = waits m.keep (m.keep.waiting ++ (record { number = k; call = c } ∷ []))

  up_judge : (m : Mind) (k : ℕ) (c : Call) → Up m.asked (judges o logs m k c)
  up_judge m k (Put l e) = cond_both (entry_ok e) (cond (ltb l logs) (accepts o logs m k (Put l e)) (refuses o logs m k 2)) (refuses o logs m k 1) (Up m.asked)
      (λ t. cond_both (ltb l logs) (accepts o logs m k (Put l e)) (refuses o logs m k 2) (Up m.asked) (λ t. up_accept m k (Put l e)) (λ t. up_stays m)) (λ t. up_stays m)
  up_judge m k (Out' f n) = cond_both (leb n 1024) (accepts o logs m k (Out' f n)) (refuses o logs m k 1) (Up m.asked) (λ t. up_accept m k (Out' f n)) (λ t. up_stays m)
  up_judge m k (Drop n) = up_stays m

  up_acts : (x : In ℕ Call) (m : Mind) → Up m.asked (acts o logs x m)
  unfolding acts
  up_acts (From j w) m = up_stays m
  up_acts (Shown q x) m = cond_both (eqb q m.asked) (on_shown o logs (hearing m true) x m.phase) (stays m) (Up m.asked) (λ t. up_shown (hearing m true) x m.phase) (λ t. up_stays m)
  up_acts (Filled q d e) m = cond_both (eqb q m.asked) (on_filled o logs (hearing m true) d m.phase) (stays m) (Up m.asked) (λ t. up_filled (hearing m true) d m.phase) (λ t. up_stays m)
  up_acts (Ask k c) m = cond_both (ltb (length m.keep.waiting + puts_of m.keep.batch) 8) (judges o logs m k c) (refuses o logs m k 11) (Up m.asked) (λ t. up_judge m k c) (λ t. up_stays m)
  up_acts Beat m = cond_both (is_rest m.phase || not m.heard) (start o logs (hearing m false)) (stays (hearing m false)) (Up m.asked) (λ t. up_start (hearing m false) m.keep.batch m.keep.waiting) (λ t. up_stays (hearing m false))

  -- the numbers of requests rise in each turn
  pub worker_rises : (x : In ℕ Call) (m : Mind) → Rises m.asked ((worker o logs).turns x m).does ((worker o logs).turns x m).mind.asked
  worker_rises x m = rises_of m.asked (acts o logs x m).tell (acts o logs x m) (up_acts x m)

module _ (o : Ops) (p : Plan) (logs : ℕ) (L : Laws o p logs) where
  abbrev pub view_of : (n : ℕ) (w : L.World) (es : List (Seen Call Reply)) (os : List (Open Call)) (rs : List (Ready Reply)) (h : ℕ → ℕ → List ℕ) → Scene Mind ℕ → View o p logs L
  view_of n w es os rs h s = record { w = w; co = record { n = n; seen = es; opens = os; readies = rs; past = h; f = s.box; drawn = s.drawn }; hand = s.hand; ways = s.ways }

  -- there is a world and a book of what customers saw for which the invariant holds
  abbrev pub Inv : (n : ℕ) (es : List (Seen Call Reply)) (h : ℕ → ℕ → List ℕ) → Scene Mind ℕ → Type 0
  Inv n es h s = (w : L.World) × (os : List (Open Call)) × (rs : List (Ready Reply)) × Good o p logs L (view_of n w es os rs h s)

  abbrev vu : (n : ℕ) (es : List (Seen Call Reply)) (h : ℕ → ℕ → List ℕ) (s : Scene Mind ℕ) → Inv n es h s → View o p logs L
  vu n es h s v = view_of n v.0 es v.1 v.2 h s

  -- a turn, as it is told and sent
  turn_inv : (n : ℕ) (w : L.World) (es : List (Seen Call Reply)) (h : ℕ → ℕ → List ℕ) (s : Scene Mind ℕ) (i c : ℕ) (r : Step) (new : List (Seen Call Reply)) (os0 : List (Open Call)) (rs0 : List (Ready Reply)) → Turned o p logs L (view_of n w es os0 rs0 h s) i c new r →
      (os : List (Open Call)) × (rs : List (Ready Reply)) × Good o p logs L (record { w = w; co = record { n = suc n; seen = tells i (turn_of r).does ++ new; opens = os; readies = rs; past = h; f = s.box; drawn = s.drawn }; hand = at i (here c r.mind) s.hand; ways = sent i c (turn_of r).does ++ s.ways })
  turn_inv n w es h s i c r new os0 rs0 t = (
    t.0,
    t.1,
    subst₂ (λ a b. Good o p logs L (record { w = w; co = record { n = suc n; seen = a ++ new; opens = t.0; readies = t.1; past = h; f = s.box; drawn = s.drawn }; hand = at i (here c r.mind) s.hand; ways = b ++ s.ways }))
        (sym (tells_are i r.mind.asked r.tell r.ask)) (sym (sent_are i c r.mind.asked r.tell r.ask)) t.2,
  )

  -- at the beginning
  first_good : Good o p logs L (view_of 0 L.start [] [] [] (λ b e. []) (record { hand = λ i. away; box = λ b. record { edition = 0; bytes = [] }; ways = []; waits = []; drawn = [] }))
  first_good = record {
    sound = L.starts;
    loose = subst (λ z. Loose (K p logs) [] (state_of p logs z) [] []) (sym L.starts_logs) (record { opens = []; readies = []; os_are = Latelooks.none; rs_are = Latelooks.none; book = Book.empty });
    many = ap length L.starts_logs ∙ length_empties logs;
    now = λ b. refl;
    hist = λ b e le. record { was = L.was_now L.starts b; must = λ x y. absurd (omega (arith, le, y)); lives = λ l u i c t one x. absurd (L.has_none i c t one x) };
    facts = λ a m. elim m [ ];
    hands = λ i d m y. absurd (not_here y);
  }

  -- after whatever has come to be
  pub inv : {all n : ℕ} {es : List (Seen Call Reply)} {s : Scene Mind ℕ} → all ≤ 64 → n < L.bound → (g : Goes (worker o logs) all n es s) → Inv n es (past g) s
  unfolding past
  inv al sm first = (L.start, [], [], first_good)
  inv al sm (turns {n = n} {es = es} {s = s} i c m x lt g e k) = let v = inv al (omega arith) g in
      let t = turn_inv n v.0 es (past g) s i c (acts o logs x m) es v.1 v.2 (turn_ok o p logs L (vu n es (past g) s v) v.3 sm i c m e (History.kept g) (fresh (worker o logs) (λ m. m.asked) (worker_rises o logs) g) k) in (v.0, t.0, t.1, t.2)
  inv al sm (asked {n = n} {es = es} {s = s} i c k x m lt lt' g e new) = let v = inv al (omega arith) g in
      let t = turn_inv n v.0 es (past g) s i c (acts o logs (Ask k x) m) (called i k x ∷ es) v.1 v.2 (call_ok o p logs L (vu n es (past g) s v) v.3 sm i c m e (History.kept g) (fresh (worker o logs) (λ m. m.asked) (worker_rises o logs) g) k x (is_false (is_used k es) new)) in (v.0, t.0, t.1, t.2)
  inv al sm (shows_box {n = n} {es = es} {s = s} i c k b g w) = let v = inv al (omega arith) g in (v.0, v.1, v.2, answer_quiet o p logs L (vu n es (past g) s v) v.3 (shows i c k (s.box b)) (λ w co f. tt))
  inv al sm (fills {n = n} {es = es} {s = s} i c k b e bs g w t) = let v = inv al (omega arith) g in
      fill_ok o p logs L (vu n es (past g) s v) v.3 (omega arith) i c k b e bs (fillable_edition (s.box b) e bs t) (v.3.facts (wants_fill i c k b e bs) w)
  inv al sm (doesnt_fill {n = n} {es = es} {s = s} i c k b e bs g w t) = let v = inv al (omega arith) g in (v.0, v.1, v.2, answer_quiet o p logs L (vu n es (past g) s v) v.3 (says i c k false (s.box b).edition) (λ w co f. tt))
  inv al sm (goes {n = n} {es = es} {s = s} i c m lt g e) = let v = inv al (omega arith) g in (v.0, v.1, v.2, gone_quiet o p logs L (vu n es (past g) s v) v.3 i)
  inv al sm (comes {n = n} {es = es} {s = s} i r lt lt' new g e) = let v = inv al (omega arith) g in (v.0, v.1, v.2, come_quiet o p logs L (vu n es (past g) s v) v.3 i r (omega arith) lt' (is_false (is_in r s.drawn) new))

  -- so there is a book-keeper's book
  pub worker_book : {all n : ℕ} {es : List (Seen Call Reply)} {s : Scene Mind ℕ} → all ≤ 64 → n < L.bound → Goes (worker o logs) all n es s → (t : State) × (os : List (Open Call)) × (rs : List (Ready Reply)) × Book (K p logs) es t os rs
  worker_book al sm g = let v = inv al sm g in let b = v.3.loose in (state_of p logs (L.logs_of v.0), b.opens, b.readies, b.book)
