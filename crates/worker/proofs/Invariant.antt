-- The worker's invariant, over any book that keeps its laws, and that every step keeps it: a turn, a call, an answer of the store, a
-- filling, a hand that goes or comes. All facts are about the past or only grow, so that what others do leaves them true: what a box
-- held, what a page must hold, how far the ledger had come, which calls were made. Only the first lemmas of each part see the code.
use Rattle.std.proofs.Common.{◌≡◌, ℕ, suc, ◌+◌, ◌<◌, ◌≤◌, Bool, true, false, cond, not, ◌&&◌, ◌||◌, T, eqb, ltb, leb, ◌⊎◌, List, [], ◌∷◌, ◌++◌, length, sym, refl, ap, ◌∙◌, subst, subst₂, inl, inr, ⊎_elim, arith}
use mathlib.Core.List.Memᴰ
use mathlib.Core.List.{Memᴰ}
use Rattle.std.proofs.lemmas.Bool.{eqb-true, eqb-false, eq-eqb, cond_both, or_left, or_right, cases_Bool, and_parts, both_ways, ltb-true, ltb-false, leb-true, leb-false, or_parts}
use Rattle.streams.specs.Meaning.{Event, Plan, out}
use Rattle.streams.specs.Calls.{Call, Put, Out', Drop, Reply, No, Yes, Outs, State, entry_ok, core, drop_of, first_of, Answers, outs, bad_put, no_log, too_many, not_yet}
use Rattle.streams.specs.Hands.{Box, In, Ask, Way, word, wants_box, wants_fill, shows, says, Stand, away, here, Seen, called, told, is_used, is_in, at, Open, Ready, fillable, all_bytes, Comes, a_word, a_box, a_filling, a_beat}
use Rattle.book.specs.Ledger.{log_box}
use Rattle.book.specs.Book.{put_all}
use Rattle.book.specs.Interface.{Gives, lacks, gives, Calls, nothing, alone, with_page, Next, page, reply, Filling, Ops, IsPage, Gathered, no_page, one_page, Tag}
use Rattle.worker.specs.Worker.{stays, asks, keeping, hearing, looking, waits, fixed, settled', saying, for_log, yeses, is_nothing, read_ledger, start_call, start_by, start, idle_by, idle, settle, fill_log, putting, on_log_by, on_put_by, write, next_log, on_ledger_by, on_ledger, on_page, took_by, gather_by, gathers, on_shown, on_filled, refuses, accepts, judges, acts, puts_of, is_rest, worker, less_one, Job, Batch, none, some, Phase, rest, log, put, ledger, page', written, kept, look, answer', gather, Keep, Mind, Told, Asks, none', show, fill, Step, keep_if, entries, is_no_page}
use Rattle.worker.proofs.Laws.{Right, Laws}
use Rattle.shelf.proofs.Places.{all_cons, all_none, all_append, at_case, at_hands, not_here, at_self, at_one, at_other, at_twice}
use Rattle.shelf.proofs.Callers.{by, caller, caller_used, caller_stays, caller_new}
use Rattle.shelf.proofs.History.{Kept}
use Rattle.shelf.proofs.Numbers.{Fresh}
use Rattle.shelf.proofs.Latelooks.{Loose, Less, taken, less_of, less_rest, loose_in, loose_done, loose_out, loose_back}
use Rattle.worker.proofs.Jobs.{keep_split, keep_less, length_snoc, entries_few, in_keep, distinct_keep, distinct_same, distinct_snoc, tell_all, TellAll, tolds, opening, readying, Distinct, IsPut, is_put, entries_ok, length_puts, K, state_of, DoneAll, done_all, ways_of}

pub at_mine : {A : Type 0} (i c : ℕ) (m : A) (f : ℕ → Stand A) (d : ℕ) (n : A) → at i (here c m) f i ≡ here d n → (c ≡ d) × (m ≡ n)
at_mine {A} i c m f d n e = let u : ◌≡◌ {A = Stand A} (here c m) (here d n) = sym (at_self i (here c m) f) ∙ e in (cc, cc)

pub log_some : (l : ℕ) → log_box l ≡ 0 → ⊥
log_some l e = omega arith

-- a call that was let in
abbrev pub CallOk : (logs : ℕ) → Call → Type 0
CallOk logs (Put l e) = (l < logs) × T (entry_ok e)
CallOk logs (Out' f n) = n ≤ 1024
CallOk logs (Drop n) = ⊥

pub none_some : {l : ℕ} {ps : List Job} → none ≡ some l ps → ⊥
none_some e = let z : ◌≡◌ {A = ℕ} 0 1 = cc in omega arith

pub for_put : (logs l : ℕ) (c : Call) → for_log l c ≡ true → CallOk logs c → IsPut l c
for_put logs l (Put n e) t h = (eqb-true n l t, h.1)
for_put logs l (Out' f k) t h = absurd (both_ways false refl t)
for_put logs l (Drop n) t h = absurd (both_ways false refl t)

not_both : (b : Bool) → b ≡ true → not b ≡ true → ⊥
not_both true x y = both_ways false refl y
not_both false x y = both_ways false refl x

pub caller_tolds : (k i : ℕ) (ts : List Told) (es : List (Seen Call Reply)) → caller k (tolds i ts ++ es) ≡ caller k es
unfolding caller tolds
caller_tolds k i [] es = refl
caller_tolds k i (t ∷ ts) es = caller_tolds k i ts es

-- a page that could not be filled, though it fits, is filled already
pub unfit_some : (e : ℕ) (y x : List ℕ) → T (leb (length x) 1048576 && all_bytes x) → T (not (fillable (record { edition = e; bytes = y }) 0 x)) → 1 ≤ e
unfit_some e y x fits un = go (eqb 0 e) refl (leb (length x) 1048576) (all_bytes x) fits un
  where
    go : (a : Bool) → eqb 0 e ≡ a → (b c : Bool) → T (b && c) → T (not (a && b && c)) → 1 ≤ e
    go true u true true f n = absurd n
    go true u true false f n = absurd f
    go true u false c f n = absurd f
    go false u b c f n = let q = eqb-false 0 e u in omega arith

module _ (o : Ops) (p : Plan) (logs : ℕ) (L : Laws o p logs) where
  -- WHAT HAS COME TO BE: how many steps, what customers saw, the calls that are open and the replies that are ready in the
  -- book-keeper's book, what each box held by edition and what it holds, the numbers by chance that were drawn
  pub record Core : Type 0 where
    pub n : ℕ
    pub seen : List (Seen Call Reply)
    pub opens : List (Open Call)
    pub readies : List (Ready Reply)
    pub past : ℕ → ℕ → List ℕ
    pub f : ℕ → Box
    pub drawn : List ℕ

  -- with the book's world, the hands, and what is under way
  pub record View : Type 0 where
    pub w : L.World
    pub co : Core
    pub hand : ℕ → Stand Mind
    pub ways : List (Way ℕ)

  -- a box held that at an edition; if it still is of that edition, it still does
  pub record OldAt (w : L.World) (f : ℕ → Box) (b e : ℕ) (x : List ℕ) : Type 0 where
    pub upto : e ≤ (f b).edition
    pub same : e ≡ (f b).edition → (f b).bytes ≡ x
    pub was : L.Was w b x

  -- a ledger with some logs taken into it, one after the other, while nothing was due
  pub data Taken (w : L.World) (x : List ℕ) : List ℕ → Type 0 where
    same : Taken w x x
    takes : {y : List ℕ} (l : ℕ) (b z : List ℕ) → Taken w x y → o.due y ≡ nothing → l < logs → L.Was w (log_box l) b → o.take y l b ≡ gives z → Taken w x z

  -- a step that is due, with some of its pages still to be filled
  pub record Doing (w : L.World) (f : ℕ → Box) (e : ℕ) (ts : List Filling) (y : List ℕ) : Type 0 where
    pub led : List ℕ
    pub shown : List ℕ
    pub old : OldAt w f 0 e led
    pub right : Right (L.Must w) (o.due led) shown
    pub is : y ≡ o.after led shown
    pub todo : (a : Filling) → Memᴰ a (o.pages led shown) → (1 ≤ (f a.box).edition) ⊎ Memᴰ a ts
    pub sub : (a : Filling) → Memᴰ a ts → Memᴰ a (o.pages led shown)

  -- a ledger of an edition at which nothing is due, with what was taken since
  pub record Taking (w : L.World) (f : ℕ → Box) (e : ℕ) (y : List ℕ) : Type 0 where
    pub led : List ℕ
    pub old : OldAt w f 0 e led
    pub idle : o.due led ≡ nothing
    pub took : Taken w led y

  -- WHAT A HAND AWAITS: its request is under way, and what it remembers of boxes was so
  abbrev pub PhaseOk : (w : L.World) (f : ℕ → Box) (ws : List (Way ℕ)) (i d q : ℕ) → Keep → Phase → Type 0
  PhaseOk w f ws i d q k rest = Unit {0}
  PhaseOk w f ws i d q k (log l) = (l < logs) × Memᴰ (wants_box i d q (log_box l)) ws
  PhaseOk w f ws i d q k put = (b e : ℕ) × (bs : List ℕ) × Memᴰ (wants_fill i d q b e bs) ws × ((l : ℕ) (ps : List Job) → k.batch ≡ some l ps → (b ≡ log_box l) × (o.has bs i d k.serial ≡ true))
  PhaseOk w f ws i d q k ledger = Memᴰ (wants_box i d q 0) ws
  PhaseOk w f ws i d q k (page' e x b) = Memᴰ (wants_box i d q b) ws × OldAt w f 0 e x × (o.due x ≡ with_page b)
  PhaseOk w f ws i d q k (written e t ts y) = Memᴰ (wants_fill i d q t.box 0 t.bytes) ws × Doing w f e (t ∷ ts) y
  PhaseOk w f ws i d q k kept = Unit {0}
  PhaseOk w f ws i d q k (look e y c l) = (l < logs) × Memᴰ (wants_box i d q (log_box l)) ws × Taking w f e y × (o.due y ≡ nothing)
  PhaseOk w f ws i d q k (answer' n a b) = Memᴰ (wants_box i d q 0) ws × Memᴰ (record { number = n; call = Out' a b }) k.waiting
  PhaseOk w f ws i d q k (gather n a b x got t) = Memᴰ (wants_box i d q t) ws × Memᴰ (record { number = n; call = Out' a b }) k.waiting × L.Was w 0 x × Gathered o (L.Must w) a b x got × (o.answer a b x got ≡ page t)

  -- a filling that was asked, by a batch that is not the one in hand
  pub record Other (f : ℕ → Box) (i c s l e : ℕ) (ps : List Job) (d : ℕ) (k : Keep) : Type 0 where
    -- a batch of this life has a serial no greater than the last; a smaller one, if a batch is in hand
    pub older : c ≡ d → s ≤ k.serial
    pub past' : c ≡ d → (n : ℕ) (qs : List Job) → k.batch ≡ some n qs → s < k.serial
    -- its calls neither wait nor are in the batch in hand
    pub clear : (j : Job) → Memᴰ j ps → (a : Job) → Memᴰ a k.waiting → j.number ≡ a.number → ⊥
    pub apart : (j : Job) → Memᴰ j ps → (n : ℕ) (qs : List Job) → k.batch ≡ some n qs → (a : Job) → Memᴰ a qs → j.number ≡ a.number → ⊥
    -- once the batch in hand is in that log, this filling names an older edition: it can no longer succeed
    pub late : (n : ℕ) (qs : List Job) → k.batch ≡ some n qs → o.has (f (log_box l)).bytes i d k.serial ≡ true → e < (f (log_box l)).edition

  -- a filling of a log that a hand with this mind may have asked for: of the batch in hand, or of another
  abbrev pub Mine : (f : ℕ → Box) (i c s l e : ℕ) (ps : List Job) (d : ℕ) (k : Keep) → Type 0
  Mine f i c s l e ps d k = ((c ≡ d) × (s ≡ k.serial) × (k.batch ≡ some l ps)) ⊎ Other f i c s l e ps d k

  -- of a list of calls: they were made at that hand; they are open; their replies are ready; they are puts into that log
  abbrev pub Made : List (Seen Call Reply) → ℕ → List Job → Type 0
  Made es i ps = (j : Job) → Memᴰ j ps → caller j.number es ≡ by i j.call

  abbrev pub Opened : List (Open Call) → ℕ → List Job → Type 0
  Opened os i ps = (j : Job) → Memᴰ j ps → Memᴰ (opening i j.number j.call) os

  abbrev pub Readied : List (Ready Reply) → ℕ → List Job → Type 0
  Readied rs i ps = (j : Job) → Memᴰ j ps → Memᴰ (readying i j.number Yes) rs

  abbrev pub Puts : ℕ → List Job → Type 0
  Puts l ps = (j : Job) → Memᴰ j ps → IsPut l j.call

  -- A FILLING OF A LOG under way: of which log, which batch, by which floor, from which content
  pub record LogAsk (w : L.World) (v : Core) (i c b e : ℕ) (bs : List ℕ) : Type 0 where
    pub l : ℕ
    pub s : ℕ
    pub ps : List Job
    pub fl : List ℕ
    pub bytes : List ℕ
    pub box_is : b ≡ log_box l
    pub in_logs : l < logs
    -- it adds the batch to what the box held at the edition that it names, by a floor that is not above what is taken
    pub old : OldAt w v.f (log_box l) e bytes
    pub floor : L.Floor w fl
    pub adds : o.adds fl i c s l bytes (entries ps) ≡ gives bs
    -- by a life that was drawn, under a serial of its own; at most eight puts with numbers of their own
    pub tag : Tag v.n i c s
    pub born : is_in c v.drawn ≡ true
    pub few : length (entries ps) ≤ 8
    pub distinct : Distinct ps
    pub puts : Puts l ps
    pub made : Made v.seen i ps
    -- while the box has that edition, all its puts are open: then it is done by the book-keeper when it is filled
    pub open' : e ≡ (v.f (log_box l)).edition → Opened v.opens i ps

  -- and the hand that asked for it, if it is still there, knows of it
  pub record LogFill (w : L.World) (v : Core) (hand : ℕ → Stand Mind) (i c b e : ℕ) (bs : List ℕ) : Type 0 where
    pub ask : LogAsk w v i c b e bs
    pub mine : (d : ℕ) (m : Mind) → hand i ≡ here d m → Mine v.f i c ask.s ask.l e ask.ps d m.keep

  -- A FILLING OF THE LEDGER under way: a due step whose pages are all filled, or logs that were taken
  abbrev pub LedFill : L.World → (ℕ → Box) → (b e : ℕ) → List ℕ → Type 0
  LedFill w f b e bs = (b ≡ 0) × (Doing w f e [] bs ⊎ Taking w f e bs)

  -- A FILLING OF A PAGE under way: of edition 0, with what that page must hold
  abbrev pub PageFill : L.World → (b e : ℕ) → List ℕ → Type 0
  PageFill w b e bs = IsPage b × (e ≡ 0) × L.Must w b bs

  -- each filling under way is one of the three
  abbrev pub Fact : L.World → Core → (ℕ → Stand Mind) → Way ℕ → Type 0
  Fact w v h (word j i m) = Unit {0}
  Fact w v h (wants_box i c q b) = Unit {0}
  Fact w v h (wants_fill i c q b e bs) = LogFill w v h i c b e bs ⊎ (LedFill w v.f b e bs ⊎ PageFill w b e bs)
  Fact w v h (shows i c q x) = Unit {0}
  Fact w v h (says i c q d e) = Unit {0}

  -- THE BATCH in hand
  pub record BatchOk (v : Core) (i d : ℕ) (k : Keep) (l : ℕ) (ps : List Job) : Type 0 where
    pub in_logs : l < logs
    pub from : 1 ≤ k.serial
    pub distinct : Distinct ps
    pub puts : Puts l ps
    pub made : Made v.seen i ps
    pub clear : (j : Job) → Memᴰ j ps → (a : Job) → Memᴰ a k.waiting → j.number ≡ a.number → ⊥
    -- if any content that the log had shows it as served, its replies are ready; if the log does not show it now, its puts are open
    pub inn : (e : ℕ) → e ≤ (v.f (log_box l)).edition → o.has (v.past (log_box l) e) i d k.serial ≡ true → Readied v.readies i ps
    pub out' : o.has (v.f (log_box l)).bytes i d k.serial ≡ false → Opened v.opens i ps

  -- WHAT A HAND KEEPS
  pub record KeepOk (v : Core) (i d : ℕ) (k : Keep) : Type 0 where
    pub me : k.me ≡ i
    pub chance : k.chance ≡ d
    pub hand : i < 64
    pub life : d < 18446744073709551616
    -- no more batches than steps
    pub serial : k.serial ≤ v.n
    pub born : is_in d v.drawn ≡ true
    -- at most eight calls; those that wait were let in, were made here, are open, and have numbers of their own
    pub few : length k.waiting + puts_of k.batch ≤ 8
    pub ok : (j : Job) → Memᴰ j k.waiting → CallOk logs j.call
    pub made : Made v.seen i k.waiting
    pub open' : Opened v.opens i k.waiting
    pub distinct : Distinct k.waiting
    -- no log ever showed a later batch of this life as served
    pub top : (l e t : ℕ) → e ≤ (v.f (log_box l)).edition → 1 ≤ t → o.has (v.past (log_box l) e) i d t ≡ true → t ≤ k.serial
    pub batch : (l : ℕ) (ps : List Job) → k.batch ≡ some l ps → BatchOk v i d k l ps

  -- A HAND that is there
  pub record HandOk (v : View) (i d : ℕ) (m : Mind) : Type 0 where
    pub keep : KeepOk v.co i d m.keep
    pub floor : L.Floor v.w m.floor
    pub phase : PhaseOk v.w v.co.f v.ways i d m.asked m.keep m.phase

  -- WHAT A BOX HELD at an edition: the book knows it; a page that is filled holds what it must; served are lives that were drawn
  pub record HistOk (w : L.World) (drawn : List ℕ) (b e : ℕ) (x : List ℕ) : Type 0 where
    pub was : L.Was w b x
    pub must : IsPage b → 1 ≤ e → L.Must w b x
    pub lives : (l : ℕ) → b ≡ log_box l → (i c t : ℕ) → 1 ≤ t → o.has x i c t ≡ true → is_in c drawn ≡ true

  -- THE INVARIANT
  pub record Good (v : View) : Type 0 where
    -- the boxes are right for the logs
    pub sound : L.Sound v.co.n v.w v.co.f
    -- there is a book-keeper's book of what customers saw, in the state with these logs
    pub loose : Loose (K p logs) v.co.seen (state_of p logs (L.logs_of v.w)) v.co.opens v.co.readies
    -- as many logs as there are
    pub many : length (L.logs_of v.w) ≡ logs
    -- what a box holds is what it held at its edition
    pub now : (b : ℕ) → v.co.past b (v.co.f b).edition ≡ (v.co.f b).bytes
    -- all that boxes held, all that is under way, all hands
    pub hist : (b e : ℕ) → e ≤ (v.co.f b).edition → HistOk v.w v.co.drawn b e (v.co.past b e)
    pub facts : (a : Way ℕ) → Memᴰ a v.ways → Fact v.w v.co v.hand a
    pub hands : (i d : ℕ) (m : Mind) → v.hand i ≡ here d m → HandOk v i d m

  -- a page that is filled holds what it must; so one that a due step calls for holds what it is to be filled with
  pub must_now : (v : View) → Good v → (b : ℕ) → IsPage b → 1 ≤ (v.co.f b).edition → L.Must v.w b (v.co.f b).bytes
  must_now v h b pg one = subst (L.Must v.w b) (h.now b) ((h.hist b (v.co.f b).edition (omega arith)).must pg one)

  pub page_held : (v : View) → Good v → (x : List ℕ) → Right (L.Must v.w) (o.due (v.co.f 0).bytes) x → (a : Filling) → Memᴰ a (o.pages (v.co.f 0).bytes x) → 1 ≤ (v.co.f a.box).edition → (v.co.f a.box).bytes ≡ a.bytes
  page_held v h x r a m one = let q = L.must_of h.sound (v.co.f 0).bytes x (L.was_now h.sound 0) r a m in
      L.must_one h.sound a.box (v.co.f a.box).bytes a.bytes (must_now v h a.box q.1 one) q.0

  -- BOXES GO ON: editions rise, and of one edition there is one content
  pub record Boxes (u w : L.World) (f g : ℕ → Box) : Type 0 where
    pub ups : L.Upto u w
    pub eds : (b : ℕ) → (f b).edition ≤ (g b).edition
    pub sames : (b : ℕ) → (f b).edition ≡ (g b).edition → (f b).bytes ≡ (g b).bytes

  pub boxes_refl : (w : L.World) (f : ℕ → Box) → Boxes w w f f
  boxes_refl w f = record { ups = L.upto_refl w; eds = λ b. omega arith; sames = λ b e. refl }

  module _ {u w : L.World} {f g : ℕ → Box} (x : Boxes u w f g) where
    pub old_on : {b e : ℕ} {y : List ℕ} → OldAt u f b e y → OldAt w g b e y
    old_on {b} {e} {y} h = record { upto = omega (arith, h.upto, x.eds b); same = λ q. sym (x.sames b (omega (arith, h.upto, x.eds b))) ∙ h.same (omega (arith, h.upto, x.eds b)); was = L.was_on x.ups b y h.was }

    right_on : (d : Calls) (y : List ℕ) → Right (L.Must u) d y → Right (L.Must w) d y
    right_on nothing y h = h
    right_on alone y h = h
    right_on (with_page b) y h = L.must_on x.ups b y h

    pub doing_on : {e : ℕ} {ts : List Filling} {y : List ℕ} → Doing u f e ts y → Doing w g e ts y
    doing_on {e} {ts} {y} h = record { led = h.led; shown = h.shown; old = old_on h.old; right = right_on (o.due h.led) h.shown h.right; is = h.is; todo = λ a m. ⊎_elim (λ z. inl (omega (arith, z, x.eds a.box))) (λ z. inr z) (h.todo a m); sub = h.sub }

    taken_on : {y z : List ℕ} → Taken u y z → Taken w y z
    taken_on same = same
    taken_on (takes l b z t d lt was e) = takes l b z (taken_on t) d lt (L.was_on x.ups (log_box l) b was) e

    pub taking_on : {e : ℕ} {y : List ℕ} → Taking u f e y → Taking w g e y
    taking_on h = record { led = h.led; old = old_on h.old; idle = h.idle; took = taken_on h.took }

    gathered_on : {a b : ℕ} {y : List ℕ} {got : List Event} → Gathered o (L.Must u) a b y got → Gathered o (L.Must w) a b y got
    gathered_on no_page = no_page
    gathered_on (one_page t z h e m) = one_page t z (gathered_on h) e (L.must_on x.ups t z m)

    pub phase_on : {ws vs : List (Way ℕ)} → ((a : Way ℕ) → Memᴰ a ws → Memᴰ a vs) → (i d q : ℕ) (k : Keep) (ph : Phase) → PhaseOk u f ws i d q k ph → PhaseOk w g vs i d q k ph
    phase_on s i d q k rest h = tt
    phase_on s i d q k (log l) h = (h.0, s (wants_box i d q (log_box l)) h.1)
    phase_on s i d q k put h = (h.0, h.1, h.2, s (wants_fill i d q h.0 h.1 h.2) h.3, h.4)
    phase_on s i d q k ledger h = s (wants_box i d q 0) h
    phase_on s i d q k (page' e y b) h = (s (wants_box i d q b) h.0, old_on h.1, h.2)
    phase_on s i d q k (written e t ts y) h = (s (wants_fill i d q t.box 0 t.bytes) h.0, doing_on h.1)
    phase_on s i d q k kept h = tt
    phase_on s i d q k (look e y c l) h = (h.0, s (wants_box i d q (log_box l)) h.1, taking_on h.2, h.3)
    phase_on s i d q k (answer' n a b) h = (s (wants_box i d q 0) h.0, h.1)
    phase_on s i d q k (gather n a b y got t) h = (s (wants_box i d q t) h.0, h.1, L.was_on x.ups 0 y h.2, gathered_on h.3, h.4)

    mine_on : {i c s l e : ℕ} {ps : List Job} {d : ℕ} {k : Keep} → e ≤ (f (log_box l)).edition → Mine f i c s l e ps d k → Mine g i c s l e ps d k
    mine_on le (inl h) = inl h
    mine_on {i} {c} {s} {l} {e} {ps} {d} {k} le (inr h) = inr (record { older = h.older; past' = h.past'; clear = h.clear; apart = h.apart; late = λ n qs b t. go n qs b t (eqb (f (log_box l)).edition (g (log_box l)).edition) refl })
      where
        go : (n : ℕ) (qs : List Job) → k.batch ≡ some n qs → o.has (g (log_box l)).bytes i d k.serial ≡ true → (z : Bool) → eqb (f (log_box l)).edition (g (log_box l)).edition ≡ z → e < (g (log_box l)).edition
        go n qs b t true z = let q = eqb-true (f (log_box l)).edition (g (log_box l)).edition z in let r = h.late n qs b (ap (λ y. o.has y i d k.serial) (x.sames (log_box l) q) ∙ t) in omega arith
        go n qs b t false z = let q = eqb-false (f (log_box l)).edition (g (log_box l)).edition z in let r = x.eds (log_box l) in omega arith

  -- what any step leaves true; whoever gives this keeps the facts of all that was under way
  pub record Grows (u w : L.World) (v v' : Core) (h h' : ℕ → Stand Mind) : Type 0 where
    pub ns : v.n ≤ v'.n
    pub boxes : Boxes u w v.f v'.f
    pub callers : (i k : ℕ) (c : Call) → caller k v.seen ≡ by i c → caller k v'.seen ≡ by i c
    pub opens : (i k l : ℕ) (c : Call) → IsPut l c → caller k v.seen ≡ by i c → (v.f (log_box l)).edition ≡ (v'.f (log_box l)).edition → Memᴰ (opening i k c) v.opens → Memᴰ (opening i k c) v'.opens
    pub drawns : (c : ℕ) → is_in c v.drawn ≡ true → is_in c v'.drawn ≡ true
    pub mines : (i c s l e : ℕ) (ps : List Job) → is_in c v.drawn ≡ true → Made v.seen i ps → ((d : ℕ) (m : Mind) → h i ≡ here d m → Mine v.f i c s l e ps d m.keep) → (d : ℕ) (m : Mind) → h' i ≡ here d m → Mine v.f i c s l e ps d m.keep

  tag_on : {n n' i c s : ℕ} → n ≤ n' → Tag n i c s → Tag n' i c s
  tag_on le t = record { worker = t.worker; life = t.life; from = t.from; upto = omega (arith, le, t.upto) }

  module _ {u w : L.World} {v v' : Core} {h' h'' : ℕ → Stand Mind} (g : Grows u w v v' h' h'') where
    log_on : {i c b e : ℕ} {bs : List ℕ} → LogFill u v h' i c b e bs → LogFill w v' h'' i c b e bs
    log_on {i} {c} {b} {e} {bs} h = let a = h.ask in record {
      ask = record {
        l = a.l;
        s = a.s;
        ps = a.ps;
        fl = a.fl;
        bytes = a.bytes;
        box_is = a.box_is;
        in_logs = a.in_logs;
        old = old_on g.boxes a.old;
        floor = L.floor_on g.boxes.ups a.fl a.floor;
        adds = a.adds;
        tag = tag_on g.ns a.tag;
        born = g.drawns c a.born;
        few = a.few;
        distinct = a.distinct;
        puts = a.puts;
        made = λ j m. g.callers i j.number j.call (a.made j m);
        open' = λ q j m. g.opens i j.number a.l j.call (a.puts j m) (a.made j m) (let r = g.boxes.eds (log_box a.l) in let t = a.old.upto in omega arith) (a.open' (let r = g.boxes.eds (log_box a.l) in let t = a.old.upto in omega arith) j m);
      };
      mine = λ d m y. mine_on g.boxes a.old.upto (g.mines i c a.s a.l e a.ps a.born a.made h.mine d m y);
    }

    pub fact_on : (a : Way ℕ) → Fact u v h' a → Fact w v' h'' a
    fact_on (word j i m) h = tt
    fact_on (wants_box i c q b) h = tt
    fact_on (wants_fill i c q b e bs) (inl h) = inl (log_on h)
    fact_on (wants_fill i c q b e bs) (inr (inl h)) = inr (inl (h.0, ⊎_elim (λ z. inl (doing_on g.boxes z)) (λ z. inr (taking_on g.boxes z)) h.1))
    fact_on (wants_fill i c q b e bs) (inr (inr h)) = inr (inr (h.0, h.1, L.must_on g.boxes.ups b bs h.2))
    fact_on (shows i c q x) h = tt
    fact_on (says i c q d e) h = tt

  -- A TURN OF A HAND
  abbrev pub next : Core → List (Seen Call Reply) → List (Open Call) → List (Ready Reply) → Core
  next v es os rs = record { n = suc v.n; seen = es; opens = os; readies = rs; past = v.past; f = v.f; drawn = v.drawn }

  abbrev pub AskFact : L.World → Core → (i c : ℕ) → Keep → Asks → Type 0
  AskFact w v i c k none' = Unit {0}
  AskFact w v i c k (show b) = Unit {0}
  AskFact w v i c k (fill b e bs) = ((a : LogAsk w v i c b e bs) × (a.s ≡ k.serial) × (k.batch ≡ some a.l a.ps)) ⊎ (LedFill w v.f b e bs ⊎ PageFill w b e bs)

  abbrev pub Mines : List (Seen Call Reply) → (ℕ → Box) → (i c : ℕ) → Keep → Keep → Type 0
  Mines es f i c k k' = (d s l e : ℕ) (ps : List Job) → Made es i ps → Mine f i d s l e ps c k → Mine f i d s l e ps c k'

  -- what a turn that tells nothing does: only this is asked of the code of a turn
  pub record Does (es : List (Seen Call Reply)) (w : L.World) (v : Core) (ws : List (Way ℕ)) (i c : ℕ) (k : Keep) (r : Step) : Type 0 where
    pub keep : KeepOk v i c r.mind.keep
    pub floor : L.Floor w r.mind.floor
    pub mines : Mines es v.f i c k r.mind.keep
    pub asks : AskFact w v i c r.mind.keep r.ask
    pub phase : PhaseOk w v.f (ways_of i c r.mind.asked r.ask ++ ws) i c r.mind.asked r.mind.keep r.mind.phase
    pub said : r.tell ≡ []

  -- what stays when a turn tells something
  pub record Stays (v : Core) (i : ℕ) (v' : Core) : Type 0 where
    pub callers : (j k : ℕ) (c : Call) → caller k v.seen ≡ by j c → caller k v'.seen ≡ by j c
    pub puts : (j k l : ℕ) (c : Call) → IsPut l c → Memᴰ (opening j k c) v.opens → Memᴰ (opening j k c) v'.opens
    pub opens : (j k : ℕ) (c : Call) → (j ≡ i → ⊥) → Memᴰ (opening j k c) v.opens → Memᴰ (opening j k c) v'.opens
    pub readies : (j k : ℕ) (r : Reply) → (j ≡ i → ⊥) → Memᴰ (readying j k r) v.readies → Memᴰ (readying j k r) v'.readies

  module _ (v : View) (h : Good v) (i c : ℕ) (m : Mind) (e : v.hand i ≡ here c m) (es : List (Seen Call Reply)) (os : List (Open Call)) (rs : List (Ready Reply))
      (lo : Loose (K p logs) es (state_of p logs (L.logs_of v.w)) os rs) (st : Stays v.co i (next v.co es os rs)) where
    abbrev nco : Core
    nco = next v.co es os rs

    other_keep : (j d : ℕ) (k : Keep) → (j ≡ i → ⊥) → KeepOk v.co j d k → KeepOk nco j d k
    other_keep j d k ne q = record {
      me = q.me;
      chance = q.chance;
      hand = q.hand;
      life = q.life;
      serial = omega (arith, q.serial);
      born = q.born;
      few = q.few;
      ok = q.ok;
      made = λ a y. st.callers j a.number a.call (q.made a y);
      open' = λ a y. st.opens j a.number a.call ne (q.open' a y);
      distinct = q.distinct;
      top = q.top;
      batch = λ l ps y. let b = q.batch l ps y in record {
        in_logs = b.in_logs;
        from = b.from;
        distinct = b.distinct;
        puts = b.puts;
        made = λ a z. st.callers j a.number a.call (b.made a z);
        clear = b.clear;
        inn = λ g z t a u. st.readies j a.number Yes ne (b.inn g z t a u);
        out' = λ t a u. st.opens j a.number a.call ne (b.out' t a u);
      };
    }

    abbrev pub moved_to : Step → View
    moved_to r = record { w = v.w; co = nco; hand = at i (here c r.mind) v.hand; ways = ways_of i c r.mind.asked r.ask ++ v.ways }

    module _ (r : Step) (x : Does v.co.seen v.w nco v.ways i c m.keep r) where
      moved_mines : (j d s l g : ℕ) (ps : List Job) → is_in d v.co.drawn ≡ true → Made v.co.seen j ps → ((d' : ℕ) (n : Mind) → v.hand j ≡ here d' n → Mine v.co.f j d s l g ps d' n.keep) → (d' : ℕ) (n : Mind) → at i (here c r.mind) v.hand j ≡ here d' n → Mine v.co.f j d s l g ps d' n.keep
      moved_mines j d s l g ps bn made mine d' n y = at_hands (λ j d' n. Made v.co.seen j ps → ((d' : ℕ) (n : Mind) → v.hand j ≡ here d' n → Mine v.co.f j d s l g ps d' n.keep) → Mine v.co.f j d s l g ps d' n.keep) i c r.mind v.hand
          (λ made mine. x.mines d s l g ps made (mine c m e)) (λ j d' n ne z made mine. mine d' n z) j d' n y made mine

      moved_grows : Grows v.w v.w v.co nco v.hand (at i (here c r.mind) v.hand)
      moved_grows = record { ns = omega arith; boxes = boxes_refl v.w v.co.f; callers = st.callers; opens = λ j k l q y z u. st.puts j k l q y; drawns = λ d y. y; mines = moved_mines }

      new_facts : (a : Asks) → AskFact v.w nco i c r.mind.keep a → (b : Way ℕ) → Memᴰ b (ways_of i c r.mind.asked a) → Fact v.w nco (at i (here c r.mind) v.hand) b
      new_facts none' y = all_none (Fact v.w nco (at i (here c r.mind) v.hand))
      new_facts (show b) y = all_cons (Fact v.w nco (at i (here c r.mind) v.hand)) tt (all_none (Fact v.w nco (at i (here c r.mind) v.hand)))
      new_facts (fill b g bs) y = all_cons (Fact v.w nco (at i (here c r.mind) v.hand))
          (⊎_elim (λ z. inl (record { ask = z.0; mine = λ d n u. let q = at_mine i c r.mind v.hand d n u in inl (q.0, z.1 ∙ ap (λ k. k.keep.serial) q.1, ap (λ k. k.keep.batch) (sym q.1) ∙ z.2) })) (λ z. inr z) y)
          (all_none (Fact v.w nco (at i (here c r.mind) v.hand)))

      -- a turn keeps the invariant
      pub moved : Good (moved_to r)
      moved = record {
        sound = L.later h.sound;
        loose = lo;
        many = h.many;
        now = h.now;
        hist = h.hist;
        facts = all_append (Fact v.w nco (at i (here c r.mind) v.hand)) (ways_of i c r.mind.asked r.ask) v.ways (new_facts r.ask x.asks) (λ a y. fact_on moved_grows a (h.facts a y));
        hands = at_hands (HandOk (moved_to r)) i c r.mind v.hand (record { keep = x.keep; floor = x.floor; phase = x.phase })
            (λ j d n ne y. let k = h.hands j d n y in record { keep = other_keep j d n.keep ne k.keep; floor = k.floor; phase = phase_on (boxes_refl v.w v.co.f) (λ a z. Memᴰ.append_right (ways_of i c r.mind.asked r.ask) z) j d n.asked n.keep n.phase k.phase });
      }

  -- A FILLING SUCCEEDS
  -- a hand while a box is filled: what it keeps stays true
  pub record Stood (v : View) (b : ℕ) (bs : List ℕ) (f' : ℕ → Box) (os : List (Open Call)) (rs : List (Ready Reply)) (j d : ℕ) (m : Mind) : Type 0 where
    pub waits : Opened os j m.keep.waiting
    pub top : (l : ℕ) → b ≡ log_box l → (t : ℕ) → 1 ≤ t → o.has bs j d t ≡ true → t ≤ m.keep.serial
    pub inn : (l : ℕ) (ps : List Job) → m.keep.batch ≡ some l ps → b ≡ log_box l → o.has bs j d m.keep.serial ≡ true → Readied rs j ps
    pub out' : (l : ℕ) (ps : List Job) → m.keep.batch ≡ some l ps → o.has (f' (log_box l)).bytes j d m.keep.serial ≡ false → Opened os j ps

  module _ (v : View) (h : Good v) (i c q b e : ℕ) (bs : List ℕ) (is-now : e ≡ (v.co.f b).edition) (w : L.World) (up : L.Upto v.w w) (os : List (Open Call)) (rs : List (Ready Reply)) where
    abbrev f' : ℕ → Box
    f' = at b (record { edition = e + 1; bytes = bs }) v.co.f

    abbrev past' : ℕ → ℕ → List ℕ
    past' = at b (at (e + 1) bs (v.co.past b)) v.co.past

    abbrev fco : Core
    fco = record { n = suc v.co.n; seen = v.co.seen; opens = os; readies = rs; past = past'; f = f'; drawn = v.co.drawn }

    abbrev pub filled_to : View
    filled_to = record { w = w; co = fco; hand = v.hand; ways = says i c q true (e + 1) ∷ v.ways }

    fill_boxes : Boxes v.w w v.co.f f'
    fill_boxes = record {
      ups = up;
      eds = λ d. at_one (λ z. (v.co.f d).edition ≤ z.edition) b (record { edition = e + 1; bytes = bs }) v.co.f d (λ x. let y : (v.co.f d).edition ≡ e = ap (λ z. (v.co.f z).edition) x ∙ sym is-now in omega arith) (λ x. omega arith);
      sames = λ d. at_one (λ z. (v.co.f d).edition ≡ z.edition → (v.co.f d).bytes ≡ z.bytes) b (record { edition = e + 1; bytes = bs }) v.co.f d (λ x u. absurd (let y : (v.co.f d).edition ≡ e = ap (λ z. (v.co.f z).edition) x ∙ sym is-now in omega arith)) (λ x u. refl);
    }

    hist_on : (Q : ℕ → ℕ → List ℕ → Type 0) → ((d g : ℕ) → g ≤ (v.co.f d).edition → Q d g (v.co.past d g)) → Q b (e + 1) bs → (d g : ℕ) → g ≤ (f' d).edition → Q d g (past' d g)
    hist_on Q old new d g = go (eqb d b) refl
      where
        inner : d ≡ b → g ≤ e + 1 → (t : Bool) → eqb g (e + 1) ≡ t → Q d g (cond t bs (v.co.past b g))
        inner x le true y = subst₂ (λ z u. Q z u bs) (sym x) (sym (eqb-true g (e + 1) y)) new
        inner x le false y = subst (λ z. Q d g (v.co.past z g)) x (old d g (let u = eqb-false g (e + 1) y in let z : (v.co.f d).edition ≡ e = ap (λ z. (v.co.f z).edition) x ∙ sym is-now in omega arith))

        go : (t : Bool) → eqb d b ≡ t → g ≤ (cond t (record { edition = e + 1; bytes = bs }) (v.co.f d)).edition → Q d g (cond t (at (e + 1) bs (v.co.past b)) (v.co.past d) g)
        go true x le = inner (eqb-true d b x) le (eqb g (e + 1)) refl
        go false x le = old d g le

    module _ (sound : L.Sound (suc v.co.n) w f') (lo : Loose (K p logs) v.co.seen (state_of p logs (L.logs_of w)) os rs) (many : length (L.logs_of w) ≡ logs) (new : HistOk w v.co.drawn b (e + 1) bs)
        (opens : (j k l : ℕ) (x : Call) → IsPut l x → caller k v.co.seen ≡ by j x → (b ≡ log_box l → ⊥) → Memᴰ (opening j k x) v.co.opens → Memᴰ (opening j k x) os)
        (still : (a : Ready Reply) → Memᴰ a v.co.readies → Memᴰ a rs) (stood : (j d : ℕ) (m : Mind) → v.hand j ≡ here d m → Stood v b bs f' os rs j d m) where
      fill_grows : Grows v.w w v.co fco v.hand v.hand
      fill_grows = record {
        ns = omega arith;
        boxes = fill_boxes;
        callers = λ j k x y. y;
        opens = λ j k l x y z u. opens j k l x y z (λ t. absurd (let r : (v.co.f (log_box l)).edition ≡ e = ap (λ z. (v.co.f z).edition) (sym t) ∙ sym is-now in let s : (f' (log_box l)).edition ≡ e + 1 = ap (λ z. (f' z).edition) (sym t) ∙ ap (λ z. z.edition) (at_self b (record { edition = e + 1; bytes = bs }) v.co.f) in omega arith));
        drawns = λ d y. y;
        mines = λ j x s l g ps bn made mine. mine;
      }

      fill_keep : (j d : ℕ) (m : Mind) → Stood v b bs f' os rs j d m → KeepOk v.co j d m.keep → KeepOk fco j d m.keep
      fill_keep j d m x k = record {
        me = k.me;
        chance = k.chance;
        hand = k.hand;
        life = k.life;
        serial = omega (arith, k.serial);
        born = k.born;
        few = k.few;
        ok = k.ok;
        made = k.made;
        open' = x.waits;
        distinct = k.distinct;
        top = λ l g t le one. hist_on (λ b g y. (l : ℕ) → b ≡ log_box l → o.has y j d t ≡ true → t ≤ m.keep.serial) (λ b g z l u y. k.top l g t (subst (λ z. g ≤ (v.co.f z).edition) u z) one (ap (λ z. o.has (v.co.past z g) j d t) (sym u) ∙ y)) (λ l u. x.top l u t one) (log_box l) g le l refl;
        batch = λ l ps y. let a = k.batch l ps y in record {
          in_logs = a.in_logs;
          from = a.from;
          distinct = a.distinct;
          puts = a.puts;
          made = a.made;
          clear = a.clear;
          inn = λ g le. hist_on (λ b g z. b ≡ log_box l → o.has z j d m.keep.serial ≡ true → Readied rs j ps) (λ b g z u t n w. still (readying j n.number Yes) (a.inn g (subst (λ z. g ≤ (v.co.f z).edition) u z) (ap (λ z. o.has (v.co.past z g) j d m.keep.serial) (sym u) ∙ t) n w)) (x.inn l ps y) (log_box l) g le refl;
          out' = x.out' l ps y;
        };
      }

      -- a filling that keeps the boxes right and every hand standing keeps the invariant
      pub filled : Good filled_to
      filled = record {
        sound = sound;
        loose = lo;
        many = many;
        now = λ d. elim (eqb d b) as (λ t. cond t (at (e + 1) bs (v.co.past b)) (v.co.past d) (cond t (record { edition = e + 1; bytes = bs }) (v.co.f d)).edition ≡ (cond t (record { edition = e + 1; bytes = bs }) (v.co.f d)).bytes) [ true ↦ at_self (e + 1) bs (v.co.past b) | false ↦ h.now d ];
        hist = hist_on (HistOk w v.co.drawn) (λ d g le. let x = h.hist d g le in record { was = L.was_on up d (v.co.past d g) x.was; must = λ y z. L.must_on up d (v.co.past d g) (x.must y z); lives = x.lives }) new;
        facts = all_cons (Fact w fco v.hand) tt (λ a y. fact_on fill_grows a (h.facts a y));
        hands = λ j d m y. let k = h.hands j d m y in record { keep = fill_keep j d m (stood j d m y) k.keep; floor = L.floor_on up m.floor k.floor; phase = phase_on fill_boxes (λ a z. Memᴰ.tail z) j d m.asked m.keep m.phase k.phase };
      }

  abbrev pub filled_view : View → (i c q b e : ℕ) → List ℕ → L.World → List (Open Call) → List (Ready Reply) → View
  filled_view v i c q b e bs w os rs = record {
    w = w;
    co = record { n = suc v.co.n; seen = v.co.seen; opens = os; readies = rs; past = at b (at (e + 1) bs (v.co.past b)) v.co.past; f = at b (record { edition = e + 1; bytes = bs }) v.co.f; drawn = v.co.drawn };
    hand = v.hand;
    ways = says i c q true (e + 1) ∷ v.ways;
  }

  abbrev pub Filled' : View → (i c q b e : ℕ) → List ℕ → Type 0
  Filled' v i c q b e bs = (w : L.World) × (os : List (Open Call)) × (rs : List (Ready Reply)) × Good (filled_view v i c q b e bs w os rs)

  module _ (v : View) (h : Good v) (small : v.co.n < L.bound) (i c q : ℕ) where
    stood_same : (b : ℕ) (bs : List ℕ) (x : Box) → ((l : ℕ) → b ≡ log_box l → ⊥) → (j d : ℕ) (m : Mind) → v.hand j ≡ here d m → Stood v b bs (at b x v.co.f) v.co.opens v.co.readies j d m
    stood_same b bs x no' j d m y = let k = (h.hands j d m y).keep in record {
      waits = k.open';
      top = λ l u. absurd (no' l u);
      inn = λ l ps z u. absurd (no' l u);
      out' = λ l ps z t. (k.batch l ps z).out' (ap (λ z. o.has z.bytes j d m.keep.serial) (sym (at_other b x v.co.f (log_box l) (λ u. no' l (sym u)))) ∙ t);
    }

    -- a page, or the ledger: nothing is done by it
    plain : (b e : ℕ) (bs : List ℕ) → ((l : ℕ) → b ≡ log_box l → ⊥) → e ≡ (v.co.f b).edition → (w : L.World) → L.Upto v.w w → L.Sound (suc v.co.n) w (at b (record { edition = e + 1; bytes = bs }) v.co.f) → L.logs_of w ≡ L.logs_of v.w → (IsPage b → L.Must w b bs) → Filled' v i c q b e bs
    plain b e bs no' now w up sound sl must = (
      w,
      v.co.opens,
      v.co.readies,
      filled v h i c q b e bs now w up v.co.opens v.co.readies sound
          (subst (λ z. Loose (K p logs) v.co.seen (state_of p logs z) v.co.opens v.co.readies) (sym sl) h.loose) (ap length sl ∙ h.many)
          (record { was = subst (L.Was w b) (ap (λ z. z.bytes) (at_self b (record { edition = e + 1; bytes = bs }) v.co.f)) (L.was_now sound b); must = λ x y. must x; lives = λ l u. absurd (no' l u) })
          (λ j k l x y z u r. r) (λ a r. r) (stood_same b bs (record { edition = e + 1; bytes = bs }) no'),
    )

    -- a page
    page_fill : (b e : ℕ) (bs : List ℕ) → e ≡ (v.co.f b).edition → PageFill v.w b e bs → Filled' v i c q b e bs
    page_fill b e bs now x = let r = L.page_ok b bs small h.sound x.0 x.2 (sym now ∙ x.1) in
        plain b e bs x.0.1 now r.0 r.1 (subst (λ z. L.Sound (suc v.co.n) r.0 (at b (record { edition = z + 1; bytes = bs }) v.co.f)) (sym x.1) r.2) r.3 (λ y. L.must_on r.1 b bs x.2)

    -- logs that were taken one after the other, in one filling
    take_all : (e : ℕ) (x y : List ℕ) → (v.co.f 0).bytes ≡ x → Taken v.w x y → (w : L.World) × L.Upto v.w w × L.Sound v.co.n w (at 0 (record { edition = e + 1; bytes = y }) v.co.f) × (L.logs_of w ≡ L.logs_of v.w)
    take_all e x y is same = let r = L.same_ok e h.sound in (r.0, r.1, subst (λ z. L.Sound v.co.n r.0 (at 0 (record { edition = e + 1; bytes = z }) v.co.f)) is r.2, r.3)
    take_all e x y is (takes {y = u} l b z t d lt was g) =
        let r = take_all e x u is t in
        let f1 : ℕ → Box = at 0 (record { edition = e + 1; bytes = u }) v.co.f in
        let s : (f1 0).bytes ≡ u = ap (λ z. z.bytes) (at_self 0 (record { edition = e + 1; bytes = u }) v.co.f) in
        let a = L.take_ok {f = f1} e l b y small r.2 (ap o.due s ∙ d) lt (L.was_on r.1 (log_box l) b was) (ap (λ z. o.take z l b) s ∙ g) in
        (a.0, L.upto_trans r.1 a.1, subst (L.Sound v.co.n a.0) (at_twice 0 (record { edition = e + 1; bytes = y }) (record { edition = e + 1; bytes = u }) v.co.f) a.2, a.3 ∙ r.3)

    no_such_log : (l : ℕ) → 0 ≡ log_box l → ⊥
    no_such_log l e = log_some l (sym e)

    -- the ledger
    led_fill : (e : ℕ) (bs : List ℕ) → e ≡ (v.co.f 0).edition → Doing v.w v.co.f e [] bs ⊎ Taking v.w v.co.f e bs → Filled' v i c q 0 e bs
    led_fill e bs now (inr x) = let r = take_all e x.led bs (x.old.same now) x.took in plain 0 e bs no_such_log now r.0 r.1 (L.later r.2) r.3 (λ y. absurd (y.0 refl))
    led_fill e bs now (inl x) = let r = L.step_ok e x.shown small h.sound right' pages' in
        plain 0 e bs no_such_log now r.0 r.1 (subst (λ z. L.Sound (suc v.co.n) r.0 (at 0 (record { edition = e + 1; bytes = z }) v.co.f)) (ap (λ z. o.after z x.shown) is ∙ sym x.is) r.2) r.3 (λ y. absurd (y.0 refl))
      where
        is : (v.co.f 0).bytes ≡ x.led
        is = x.old.same now

        right' : Right (L.Must v.w) (o.due (v.co.f 0).bytes) x.shown
        right' = subst (λ z. Right (L.Must v.w) (o.due z) x.shown) (sym is) x.right

        at_least : (a : Filling) → (1 ≤ (v.co.f a.box).edition) ⊎ Memᴰ a [] → 1 ≤ (v.co.f a.box).edition
        at_least a (inl y) = y
        at_least a (inr y) = elim y [ ]

        pages' : (a : Filling) → Memᴰ a (o.pages (v.co.f 0).bytes x.shown) → (1 ≤ (v.co.f a.box).edition) × ((v.co.f a.box).bytes ≡ a.bytes)
        pages' a m = let one = at_least a (x.todo a (subst (λ z. Memᴰ a (o.pages z x.shown)) is m)) in (one, page_held v h x.shown right' a m one)

    module _ (l e s : ℕ) (ps : List Job) (fl old bs : List ℕ) (now : e ≡ (v.co.f (log_box l)).edition) (dr : is_in c v.co.drawn ≡ true) (lt : l < logs) (is : (v.co.f (log_box l)).bytes ≡ old) (floor : L.Floor v.w fl)
        (adds : o.adds fl i c s l old (entries ps) ≡ gives bs) (tag : Tag v.co.n i c s) (distinct : Distinct ps) (puts : Puts l ps) (made : Made v.co.seen i ps) (few : length (entries ps) ≤ 8) (opened : Opened v.co.opens i ps)
        (mine : (d : ℕ) (m : Mind) → v.hand i ≡ here d m → Mine v.co.f i c s l e ps d m.keep) where
      was : L.Was v.w (log_box l) old
      was = subst (L.Was v.w (log_box l)) is (L.was_now h.sound (log_box l))

      past_is : v.co.past (log_box l) (v.co.f (log_box l)).edition ≡ old
      past_is = h.now (log_box l) ∙ is

      new_has : o.has bs i c s ≡ true
      new_has = L.has_new v.w v.co.n i c s l fl old bs (entries ps) small lt was tag adds

      mine_has : (d t : ℕ) → 1 ≤ t → o.has bs i d t ≡ true → (d ≡ c) × (t ≡ s)
      mine_has = L.has_mine v.w v.co.n i c s l fl old bs (entries ps) small lt was tag adds

      other_has : (j d t : ℕ) → (j ≡ i → ⊥) → o.has bs j d t ≡ o.has old j d t
      other_has = L.has_other v.w v.co.n i c s l fl old bs (entries ps) small lt was tag adds

      put_it : (w : L.World) × L.Upto v.w w × L.Sound (suc v.co.n) w (at (log_box l) (record { edition = e + 1; bytes = bs }) v.co.f) × (L.logs_of w ≡ put_all l (entries ps) (L.logs_of v.w))
      put_it = L.put_ok i c s l e fl bs (entries ps) small h.sound lt floor tag (entries_ok l ps puts) few (ap (λ z. o.adds fl i c s l z (entries ps)) is ∙ adds)

      did : DoneAll p logs v.co.seen (put_all l (entries ps) (L.logs_of v.w)) v.co.opens v.co.readies i ps
      did = done_all p logs v.co.seen i l ps (L.logs_of v.w) v.co.opens v.co.readies (subst (λ z. l < z) (sym h.many) lt) distinct puts opened h.loose

      abbrev g' : ℕ → Box
      g' = at (log_box l) (record { edition = e + 1; bytes = bs }) v.co.f

      g_self : (g' (log_box l)).bytes ≡ bs
      g_self = ap (λ z. z.bytes) (at_self (log_box l) (record { edition = e + 1; bytes = bs }) v.co.f)

      -- another call stays open
      apart_hand : (j k : ℕ) (y : Call) → caller k v.co.seen ≡ by j y → (j ≡ i → ⊥) → (a : Job) → Memᴰ a ps → k ≡ a.number → ⊥
      apart_hand j k y u ne a m z = ne (let r : by j y ≡ by i a.call = sym u ∙ (ap (λ z. caller z v.co.seen) z ∙ made a m) in cc)

      apart_log : (j k n : ℕ) (y : Call) → caller k v.co.seen ≡ by j y → IsPut n y → (log_box l ≡ log_box n → ⊥) → (a : Job) → Memᴰ a ps → k ≡ a.number → ⊥
      apart_log j k n y u t ne a m z =
          let r : by j y ≡ by i a.call = sym u ∙ (ap (λ z. caller z v.co.seen) z ∙ made a m) in
          let yp = is_put n y t in let ap' = is_put l a.call (puts a m) in
          let yq = yp.1 in let aq = ap'.1 in
          let q : by j (Put n yp.0) ≡ by i (Put l ap'.0) = ap (λ z. by j z) (sym yq) ∙ (r ∙ ap (λ z. by i z) aq) in
          let w : n ≡ l = cc in ne (ap log_box (sym w))

      abbrev S : (j d : ℕ) (m : Mind) → Type 0
      S j d m = Stood v (log_box l) bs g' did.opens did.readies j d m

      others_stood : (j d : ℕ) (m : Mind) → (j ≡ i → ⊥) → v.hand j ≡ here d m → S j d m
      others_stood j d m ne y = let k = (h.hands j d m y).keep in record {
        waits = λ a u. did.stay (opening j a.number a.call) (k.open' a u) (apart_hand j a.number a.call (k.made a u) ne);
        top = λ n u t one x. k.top l (v.co.f (log_box l)).edition t (omega arith) one (ap (λ z. o.has z j d t) past_is ∙ (sym (other_has j d t ne) ∙ x));
        inn = λ n qs b u x a z. did.still (readying j a.number Yes) ((k.batch n qs b).inn (v.co.f (log_box n)).edition (omega arith) (ap (λ z. o.has (v.co.past z (v.co.f z).edition) j d m.keep.serial) (sym u) ∙ (ap (λ z. o.has z j d m.keep.serial) past_is ∙ (sym (other_has j d m.keep.serial ne) ∙ x))) a z);
        out' = λ n qs b x a z. let bk = k.batch n qs b in did.stay (opening j a.number a.call)
            (bk.out' (⊎_elim (λ u. ap (λ z. o.has (v.co.f z).bytes j d m.keep.serial) (sym u) ∙ (ap (λ z. o.has z j d m.keep.serial) is ∙ (sym (other_has j d m.keep.serial ne) ∙ (ap (λ z. o.has z j d m.keep.serial) (sym g_self) ∙ (ap (λ z. o.has (g' z).bytes j d m.keep.serial) u ∙ x)))))
            (λ u. ap (λ z. o.has z.bytes j d m.keep.serial) (sym (at_other (log_box l) (record { edition = e + 1; bytes = bs }) v.co.f (log_box n) (λ z. u (sym z)))) ∙ x) (same_log n)) a z)
            (apart_hand j a.number a.call (bk.made a z) ne);
      }
        where
          same_log : (n : ℕ) → (log_box l ≡ log_box n) ⊎ (log_box l ≡ log_box n → ⊥)
          same_log n = ⊎_elim (λ t. inl (eqb-true (log_box l) (log_box n) t)) (λ t. inr (eqb-false (log_box l) (log_box n) t)) (cases_Bool (eqb (log_box l) (log_box n)))

      same_waits : (d : ℕ) (m : Mind) → HandOk v i d m → Mine v.co.f i c s l e ps d m.keep → (b : Job) → Memᴰ b m.keep.waiting → (a : Job) → Memᴰ a ps → b.number ≡ a.number → ⊥
      same_waits d m y (inl z) b u a w q = (y.keep.batch l ps z.2).clear a w b u (sym q)
      same_waits d m y (inr z) b u a w q = z.clear a w b u (sym q)

      same_top : (d t : ℕ) (m : Mind) → Mine v.co.f i c s l e ps d m.keep → 1 ≤ t → o.has bs i d t ≡ true → t ≤ m.keep.serial
      same_top d t m (inl z) one x = let r = mine_has d t one x in let y = z.1 in omega (arith, r.1, y)
      same_top d t m (inr z) one x = let r = mine_has d t one x in let y = z.older (sym r.0) in omega (arith, r.1, y)

      same_inn : (d n : ℕ) (qs : List Job) (m : Mind) → Mine v.co.f i c s l e ps d m.keep → m.keep.batch ≡ some n qs → 1 ≤ m.keep.serial → o.has bs i d m.keep.serial ≡ true → Readied did.readies i qs
      same_inn d n qs m (inl z) b one x = let r : some l ps ≡ some n qs = sym z.2 ∙ b in let q : ps ≡ qs = cc in subst (Readied did.readies i) q did.ready
      same_inn d n qs m (inr z) b one x = let r = mine_has d m.keep.serial one x in let y = z.past' (sym r.0) n qs b in absurd (omega (arith, r.1, y))

      same_out : (d n : ℕ) (qs : List Job) (m : Mind) → HandOk v i d m → Mine v.co.f i c s l e ps d m.keep → m.keep.batch ≡ some n qs → o.has (g' (log_box n)).bytes i d m.keep.serial ≡ false → Opened did.opens i qs
      same_out d n qs m y (inl z) b x a w = absurd (both_ways (o.has (g' (log_box n)).bytes i d m.keep.serial) x
          (let r : some l ps ≡ some n qs = sym z.2 ∙ b in let q : l ≡ n = cc in ap (λ z. o.has (g' (log_box z)).bytes i d m.keep.serial) (sym q) ∙ (ap (λ z. o.has z i d m.keep.serial) g_self ∙ (ap (λ z. o.has bs i z m.keep.serial) (sym z.0) ∙ (ap (o.has bs i c) (sym z.1) ∙ new_has)))))
      same_out d n qs m y (inr z) b x a w = did.stay (opening i a.number a.call)
          (⊎_elim (λ u. here' u (cases_Bool (o.has (v.co.f (log_box n)).bytes i d m.keep.serial))) (λ u. (y.keep.batch n qs b).out' (ap (λ z. o.has z.bytes i d m.keep.serial) (sym (at_other (log_box l) (record { edition = e + 1; bytes = bs }) v.co.f (log_box n) (λ z. u (sym z)))) ∙ x) a w)
          (⊎_elim (λ t. inl (eqb-true (log_box l) (log_box n) t)) (λ t. inr (eqb-false (log_box l) (log_box n) t)) (cases_Bool (eqb (log_box l) (log_box n)))))
          (λ k t q. z.apart k t n qs b a w (sym q))
        where
          here' : log_box l ≡ log_box n → (o.has (v.co.f (log_box n)).bytes i d m.keep.serial ≡ true) ⊎ (o.has (v.co.f (log_box n)).bytes i d m.keep.serial ≡ false) → Memᴰ (opening i a.number a.call) v.co.opens
          here' u (inl t) = absurd (let r = z.late n qs b (ap (λ z. o.has (v.co.f z).bytes i d m.keep.serial) u ∙ t) in omega (arith, r, now))
          here' u (inr t) = (y.keep.batch n qs b).out' t a w

      same_stood : (d : ℕ) (m : Mind) → v.hand i ≡ here d m → S i d m
      same_stood d m y = let k = h.hands i d m y in record {
        waits = λ a u. did.stay (opening i a.number a.call) (k.keep.open' a u) (same_waits d m k (mine d m y) a u);
        top = λ n u t one x. same_top d t m (mine d m y) one x;
        inn = λ n qs b u x. same_inn d n qs m (mine d m y) b (k.keep.batch n qs b).from x;
        out' = λ n qs b x. same_out d n qs m k (mine d m y) b x;
      }

      all_stood : (j d : ℕ) (m : Mind) → v.hand j ≡ here d m → S j d m
      all_stood j d m = ⊎_elim (λ t. subst (λ z. v.hand z ≡ here d m → S z d m) (sym (eqb-true j i t)) (same_stood d m)) (λ t. others_stood j d m (eqb-false j i t)) (cases_Bool (eqb j i))

      log_lives : (n : ℕ) → log_box l ≡ log_box n → (j d t : ℕ) → 1 ≤ t → o.has bs j d t ≡ true → is_in d v.co.drawn ≡ true
      log_lives n u j d t one x = ⊎_elim (λ z. ap (λ y. is_in y v.co.drawn) (mine_has d t one (ap (λ y. o.has bs y d t) (sym (eqb-true j i z)) ∙ x)).0 ∙ dr)
          (λ z. (h.hist (log_box l) (v.co.f (log_box l)).edition (omega arith)).lives l refl j d t one (ap (λ y. o.has y j d t) past_is ∙ (sym (other_has j d t (eqb-false j i z)) ∙ x))) (cases_Bool (eqb j i))

      -- a log: the puts of the batch are done by the book-keeper at this moment
      log_fill : Filled' v i c q (log_box l) e bs
      log_fill = (
        put_it.0,
        did.opens,
        did.readies,
        filled v h i c q (log_box l) e bs now put_it.0 put_it.1 did.opens did.readies put_it.2
            (subst (λ z. Loose (K p logs) v.co.seen (state_of p logs z) did.opens did.readies) (sym put_it.3) did.loose) (ap length put_it.3 ∙ (length_puts l (entries ps) (L.logs_of v.w) ∙ h.many))
            (record { was = subst (L.Was put_it.0 (log_box l)) g_self (L.was_now put_it.2 (log_box l)); must = λ x y. absurd (x.1 l refl); lives = log_lives })
            (λ j k n x y z u r. did.stay (opening j k x) r (apart_log j k n x z y u)) did.still all_stood,
      )

    -- every filling that is under way and succeeds keeps the invariant
    pub fill_ok : (b e : ℕ) (bs : List ℕ) → e ≡ (v.co.f b).edition → Fact v.w v.co v.hand (wants_fill i c q b e bs) → Filled' v i c q b e bs
    fill_ok b e bs now (inr (inr x)) = page_fill b e bs now x
    fill_ok b e bs now (inr (inl x)) = subst (λ z. e ≡ (v.co.f z).edition → Filled' v i c q z e bs) (sym x.0) (λ y. led_fill e bs y x.1) now
    fill_ok b e bs now (inl x) = let a = x.ask in subst (λ z. e ≡ (v.co.f z).edition → Filled' v i c q z e bs) (sym a.box_is)
        (λ y. log_fill a.l e a.s a.ps a.fl a.bytes bs y a.born a.in_logs (a.old.same y) a.floor a.adds a.tag a.distinct a.puts a.made a.few (a.open' y) x.mine) now

  pub record Sm (w : L.World) (n : ℕ) (f : ℕ → Box) : Type 0 where
    pub k : ℕ
    pub lt : n < L.bound
    pub sound : L.Sound k w f

  -- THE STEPS OF A HAND, in a view after what was told
  module _ (es0 : List (Seen Call Reply)) (w : L.World) (co : Core) (ws : List (Way ℕ)) (i c : ℕ) (k0 : Keep) (sm : Sm w co.n co.f) where
    pub record Base (k : Keep) (fl : List ℕ) : Type 0 where
      pub keep : KeepOk co i c k
      pub floor : L.Floor w fl
      pub mines : Mines es0 co.f i c k0 k

    abbrev D : Step → Type 0
    D r = Does es0 w co ws i c k0 r

    asks_ok : (m : Mind) → Base m.keep m.floor → (a : Asks) (ph : Phase) → AskFact w co i c m.keep a → PhaseOk w co.f (ways_of i c (m.asked + 1) a ++ ws) i c (m.asked + 1) m.keep ph → D (asks m a ph)
    asks_ok m b a ph x y = record { keep = b.keep; floor = b.floor; mines = b.mines; asks = x; phase = y; said = refl }

    read_ok : (m : Mind) → Base m.keep m.floor → D (read_ledger o logs m)
    read_ok m b = asks_ok m b (show 0) ledger tt (Memᴰ.head refl)

    call_start : (m : Mind) → Base m.keep m.floor → (n : ℕ) (x : Call) → Memᴰ (record { number = n; call = x }) m.keep.waiting → CallOk logs x → D (start_call o logs m n x)
    call_start m b n (Put l e) k h = asks_ok m b (show (log_box l)) (log l) tt (h.0, Memᴰ.head refl)
    call_start m b n (Out' f t) k h = asks_ok m b (show 0) (answer' n f t) tt (Memᴰ.head refl, k)
    call_start m b n (Drop t) k h = absurd h

    start_by_is : (m : Mind) → Base m.keep m.floor → (x : Batch) (js : List Job) → m.keep.batch ≡ x → m.keep.waiting ≡ js → D (start_by o logs m x js)
    start_by_is m b (some l ps) js e g = asks_ok m b (show (log_box l)) (log l) tt ((b.keep.batch l ps e).in_logs, Memᴰ.head refl)
    start_by_is m b none [] e g = read_ok (looking m m.floor (cond (ltb m.place logs) m.place 0) logs) b
    start_by_is m b none (j ∷ js) e g = let k : Memᴰ j m.keep.waiting = subst (Memᴰ j) (sym g) (Memᴰ.head refl) in call_start m b j.number j.call k (b.keep.ok j k)

    start_ok : (m : Mind) → Base m.keep m.floor → D (start o logs m)
    start_ok m b = start_by_is m b m.keep.batch m.keep.waiting refl refl

    idle_keeps : (m : Mind) → Base m.keep m.floor → (x : Batch) (js : List Job) → m.keep.batch ≡ x → m.keep.waiting ≡ js → D (idle_by o logs m x js)
    idle_keeps m b (some l ps) js e g = start_by_is m b (some l ps) js e g
    idle_keeps m b none [] e g = asks_ok m b none' rest tt tt
    idle_keeps m b none (j ∷ js) e g = start_by_is m b none (j ∷ js) e g

    idle_ok : (m : Mind) → Base m.keep m.floor → D (idle o logs m)
    idle_ok m b = idle_keeps m b m.keep.batch m.keep.waiting refl refl

    -- the ledger
    write_ok : (m : Mind) → Base m.keep m.floor → (e : ℕ) (ts : List Filling) (y : List ℕ) → Doing w co.f e ts y → D (write o logs m e ts y)
    write_ok m b e [] y d = asks_ok m b (fill 0 e y) kept (inr (inl (refl, inl d))) tt
    write_ok m b e (t ∷ ts) y d = let a = L.must_of sm.sound d.led d.shown d.old.was d.right t (d.sub t (Memᴰ.head refl)) in
        asks_ok m b (fill t.box 0 t.bytes) (written e t ts y) (inr (inr (a.1, refl, a.0))) (Memᴰ.head refl, d)

    next_ok : (m : Mind) → Base m.keep m.floor → (e : ℕ) (y : List ℕ) (ch : Bool) → Taking w co.f e y → o.due y ≡ nothing → D (next_log o logs m e y ch)
    next_ok m b e y ch t d = cond_both (ltb m.place logs && not (eqb m.left 0)) (asks m (show (log_box m.place)) (look e y ch m.place)) (cond ch (asks m (fill 0 e y) kept) (idle o logs m)) D
        (λ z. asks_ok m b (show (log_box m.place)) (look e y ch m.place) tt (ltb-true m.place logs (and_parts (ltb m.place logs) (not (eqb m.left 0)) z).0, Memᴰ.head refl, t, d))
        (λ z. cond_both ch (asks m (fill 0 e y) kept) (idle o logs m) D (λ u. asks_ok m b (fill 0 e y) kept (inr (inl (refl, inr t))) tt) (λ u. idle_ok m b))

    doing_all : (e : ℕ) (l x : List ℕ) → OldAt w co.f 0 e l → Right (L.Must w) (o.due l) x → Doing w co.f e (o.pages l x) (o.after l x)
    doing_all e l x old r = record { led = l; shown = x; old = old; right = r; is = refl; todo = λ a m. inr m; sub = λ a m. m }

    ledger_by : (m : Mind) → Base m.keep m.floor → (x : Box) → OldAt w co.f 0 x.edition x.bytes → (d : Calls) → o.due x.bytes ≡ d → D (on_ledger_by o logs m x d)
    ledger_by m b x old nothing e = next_ok m b x.edition x.bytes false (record { led = x.bytes; old = old; idle = e; took = same }) e
    ledger_by m b x old alone e = write_ok m b x.edition (o.pages x.bytes []) (o.after x.bytes []) (doing_all x.edition x.bytes [] old (subst (λ z. Right (L.Must w) z []) (sym e) refl))
    ledger_by m b x old (with_page t) e = asks_ok m b (show t) (page' x.edition x.bytes t) tt (Memᴰ.head refl, old, e)

    ledger_ok : (m : Mind) → Base m.keep m.floor → (x : Box) → OldAt w co.f 0 x.edition x.bytes → D (on_ledger o logs m x)
    ledger_ok m b x old = ledger_by (looking m (o.raise x.bytes m.floor) m.place m.left) (record { keep = b.keep; floor = L.floor_raise w x.bytes m.floor old.was b.floor; mines = b.mines }) x old (o.due x.bytes) refl

    page_ok' : (m : Mind) → Base m.keep m.floor → (e : ℕ) (l : List ℕ) (t : ℕ) (x : Box) → OldAt w co.f 0 e l → o.due l ≡ with_page t → (1 ≤ x.edition → L.Must w t x.bytes) → D (on_page o logs m e l x)
    page_ok' m b e l t x old d must = cond_both (is_no_page o logs l x) (read_ledger o logs m) (write o logs m e (o.pages l x.bytes) (o.after l x.bytes)) D
        (λ z. read_ok m b) (λ z. write_ok m b e (o.pages l x.bytes) (o.after l x.bytes) (doing_all e l x.bytes old (subst (λ y. Right (L.Must w) y x.bytes) (sym d) (must (let q = eqb-false x.edition 0 (or_parts (eqb x.edition 0) (not (o.differs l (o.after l x.bytes))) z).0 in omega arith)))))

    took_by_is : (m : Mind) → Base m.keep m.floor → (e : ℕ) (y : List ℕ) (ch : Bool) (l : ℕ) → l < logs → Taking w co.f e y → o.due y ≡ nothing → (x : List ℕ) → L.Was w (log_box l) x → (g : Gives) → o.take y l x ≡ g → D (took_by o logs m e y ch l g)
    took_by_is m b e y ch l lt t d x was lacks g = read_ok m b
    took_by_is m b e y ch l lt t d x was (gives z) g =
        cond_both (is_nothing (o.due z)) (next_log o logs (looking m m.floor (cond (ltb (l + 1) logs) (l + 1) 0) (less_one o logs m.left)) e z (ch || o.differs y z)) (cond (ch || o.differs y z) (asks m (fill 0 e z) kept) (read_ledger o logs m)) D
        (λ u. next_ok (looking m m.floor (cond (ltb (l + 1) logs) (l + 1) 0) (less_one o logs m.left)) b e z (ch || o.differs y z) t' (nothing_is (o.due z) u))
        (λ u. cond_both (ch || o.differs y z) (asks m (fill 0 e z) kept) (read_ledger o logs m) D (λ q. asks_ok m b (fill 0 e z) kept (inr (inl (refl, inr t'))) tt) (λ q. read_ok m b))
      where
        t' : Taking w co.f e z
        t' = record { led = t.led; old = t.old; idle = t.idle; took = takes l x z t.took d lt was g }

        nothing_is : (a : Calls) → is_nothing a ≡ true → a ≡ nothing
        nothing_is nothing u = refl
        nothing_is alone u = absurd (both_ways false refl u)
        nothing_is (with_page n) u = absurd (both_ways false refl u)

    -- puts
    fill_by : (m : Mind) → Base m.keep m.floor → (k : Keep) → Base k m.floor → (l : ℕ) (ps : List Job) → k.batch ≡ some l ps → (x : Box) → OldAt w co.f (log_box l) x.edition x.bytes → (x.edition ≡ (co.f (log_box l)).edition → Opened co.opens i ps) →
        (g : Gives) → o.adds m.floor k.me k.chance k.serial l x.bytes (entries ps) ≡ g → D (fill_log o logs m k l x.edition g)
    fill_by m b k bk l ps is x old op lacks g = read_ok (looking m m.floor l 1) b
    fill_by m b k bk l ps is x old op (gives bs) g = asks_ok (keeping m k) bk (fill (log_box l) x.edition bs) put (inl (ask, refl, is))
        (log_box l, x.edition, bs, Memᴰ.head refl, λ n qs e. let r : some l ps ≡ some n qs = sym is ∙ e in let q : l ≡ n = cc in (ap log_box q, L.has_new w co.n i c k.serial l m.floor x.bytes bs (entries ps) sm.lt bo.in_logs old.was tag adds))
      where
        bo : BatchOk co i c k l ps
        bo = bk.keep.batch l ps is

        tag : Tag co.n i c k.serial
        tag = record { worker = bk.keep.hand; life = bk.keep.life; from = bo.from; upto = bk.keep.serial }

        adds : o.adds m.floor i c k.serial l x.bytes (entries ps) ≡ gives bs
        adds = subst₂ (λ y z. o.adds m.floor y z k.serial l x.bytes (entries ps) ≡ gives bs) bk.keep.me bk.keep.chance g

        ask : LogAsk w co i c (log_box l) x.edition bs
        ask = record { l = l; s = k.serial; ps = ps; fl = m.floor; bytes = x.bytes; box_is = refl; in_logs = bo.in_logs; old = old; floor = b.floor; adds = adds; tag = tag; born = bk.keep.born; few = let r = entries_few ps in let u : puts_of k.batch ≡ length ps = ap puts_of is in omega (arith, r, u, bk.keep.few); distinct = bo.distinct; puts = bo.puts; made = bo.made; open' = op }

  -- A TURN
  abbrev pub turned_view : View → (i c : ℕ) → List (Seen Call Reply) → List (Open Call) → List (Ready Reply) → Step → View
  turned_view v i c es os rs r = record { w = v.w; co = next v.co (tolds i r.tell ++ es) os rs; hand = at i (here c r.mind) v.hand; ways = ways_of i c r.mind.asked r.ask ++ v.ways }

  abbrev pub Turned : View → (i c : ℕ) → List (Seen Call Reply) → Step → Type 0
  Turned v i c es r = (os : List (Open Call)) × (rs : List (Ready Reply)) × Good (turned_view v i c es os rs r)

  mines_less : (es : List (Seen Call Reply)) (f : ℕ → Box) (i c : ℕ) (k : Keep) (js : List Job) → ((a : Job) → Memᴰ a js → Memᴰ a k.waiting) → Mines es f i c k (waits k js)
  mines_less es f i c k js sub d s l e ps made (inl z) = inl z
  mines_less es f i c k js sub d s l e ps made (inr z) = inr (record { older = z.older; past' = z.past'; clear = λ j m a n. z.clear j m a (sub a n); apart = z.apart; late = z.late })

  mines_settled : (es : List (Seen Call Reply)) (v : Core) (i c : ℕ) (k : Keep) → KeepOk v i c k → Mines es v.f i c k (settled' k)
  mines_settled es v i c k q d s l e ps made (inl z) = inr (record { older = λ u. omega (arith, z.1); past' = λ u n qs b. absurd (none_some b); clear = (q.batch l ps z.2).clear; apart = λ j m n qs b. absurd (none_some b); late = λ n qs b. absurd (none_some b) })
  mines_settled es v i c k q d s l e ps made (inr z) = inr (record { older = z.older; past' = λ u n qs b. absurd (none_some b); clear = z.clear; apart = λ j m n qs b. absurd (none_some b); late = λ n qs b. absurd (none_some b) })

  module _ (v : View) (h : Good v) (small : suc v.co.n < L.bound) (i c : ℕ) (m : Mind) (e : v.hand i ≡ here c m) (kp : Kept v.co.past v.co.f v.ways) (fr : Fresh (λ (z : Mind). z.asked) v.hand v.ways v.co.drawn) where
    abbrev qco : Core
    qco = next v.co v.co.seen v.co.opens v.co.readies

    hk : HandOk v i c m
    hk = h.hands i c m e

    sm : Sm v.w (suc v.co.n) v.co.f
    sm = record { k = v.co.n; lt = small; sound = h.sound }

    q_stays : Stays v.co i qco
    q_stays = record { callers = λ j k x y. y; puts = λ j k l x y z. z; opens = λ j k x n z. z; readies = λ j k r n z. z }

    q_keep : KeepOk qco i c m.keep
    q_keep = let q = hk.keep in record {
      me = q.me;
      chance = q.chance;
      hand = q.hand;
      life = q.life;
      serial = omega (arith, q.serial);
      born = q.born;
      few = q.few;
      ok = q.ok;
      made = q.made;
      open' = q.open';
      distinct = q.distinct;
      top = q.top;
      batch = λ l ps y. let b = q.batch l ps y in record { in_logs = b.in_logs; from = b.from; distinct = b.distinct; puts = b.puts; made = b.made; clear = b.clear; inn = b.inn; out' = b.out' };
    }

    abbrev QBase : Keep → List ℕ → Type 0
    QBase = Base v.co.seen v.w qco v.ways i c m.keep sm

    abbrev QDoes : Step → Type 0
    QDoes = Does v.co.seen v.w qco v.ways i c m.keep

    q_base : QBase m.keep m.floor
    q_base = record { keep = q_keep; floor = hk.floor; mines = λ d s l g ps made z. z }

    quiet : (r : Step) → QDoes r → Turned v i c v.co.seen r
    unfolding tolds
    quiet r x = (
      v.co.opens,
      v.co.readies,
      subst (λ z. Good (turned_view v i c v.co.seen v.co.opens v.co.readies (record { tell = z; ask = r.ask; mind = r.mind }))) (sym x.said)
          (moved v h i c m e v.co.seen v.co.opens v.co.readies h.loose q_stays r x),
    )

    stay_does : (b : Bool) → QDoes (stays (hearing m b))
    stay_does b = record { keep = q_keep; floor = hk.floor; mines = λ d s l g ps made z. z; asks = tt; phase = hk.phase; said = refl }

    same_does : QDoes (stays m)
    same_does = record { keep = q_keep; floor = hk.floor; mines = λ d s l g ps made z. z; asks = tt; phase = hk.phase; said = refl }

    -- a batch is settled
    settle_ok : (l : ℕ) (ps : List Job) → m.keep.batch ≡ some l ps → Readied v.co.readies i ps → Turned v i c v.co.seen (settle o logs (hearing m true) ps)
    settle_ok l ps b ready = (v.co.opens, ta.readies, moved v h i c m e es' v.co.opens ta.readies ta.loose st (idle o logs (keeping (hearing m true) k')) (idle_ok v.co.seen v.w sco v.ways i c m.keep sm (keeping (hearing m true) k') base'))
      where
        bo : BatchOk v.co i c m.keep l ps
        bo = hk.keep.batch l ps b

        ta : TellAll p logs (tolds i (yeses ps) ++ v.co.seen) (L.logs_of v.w) v.co.opens v.co.readies i ps
        ta = tell_all p logs v.co.seen i ps (L.logs_of v.w) v.co.opens v.co.readies bo.distinct ready h.loose

        es' : List (Seen Call Reply)
        es' = tolds i (yeses ps) ++ v.co.seen

        sco : Core
        sco = next v.co es' v.co.opens ta.readies

        k' : Keep
        k' = settled' m.keep

        st : Stays v.co i sco
        st = record { callers = λ j k x y. caller_tolds k i (yeses ps) v.co.seen ∙ y; puts = λ j k n x y z. z; opens = λ j k x n z. z; readies = λ j k r ne z. ta.stay (readying j k r) z (λ a n y. ne (ap (λ t. t.hand) y)) }

        base' : Base v.co.seen v.w sco v.ways i c m.keep sm k' m.floor
        base' = let q = hk.keep in record {
          keep = record { me = q.me; chance = q.chance; hand = q.hand; life = q.life; serial = omega (arith, q.serial); born = q.born; few = omega (arith, q.few); ok = q.ok; made = λ j x. st.callers i j.number j.call (q.made j x); open' = q.open'; distinct = q.distinct; top = q.top; batch = λ n qs x. absurd (none_some x) };
          floor = hk.floor;
          mines = mines_settled v.co.seen v.co i c m.keep q;
        }

    -- a batch is fixed
    module _ (l : ℕ) (lt : l < logs) (nb : m.keep.batch ≡ none) where
      abbrev mine' : Job → Bool
      mine' j = for_log l j.call

      abbrev ps' : List Job
      ps' = keep_if (λ j. for_log l j.call) m.keep.waiting

      abbrev js' : List Job
      js' = keep_if (λ j. not (for_log l j.call)) m.keep.waiting

      abbrev kf : Keep
      kf = fixed m.keep l ps' js'

      in_ps : (a : Job) → Memᴰ a ps' → Memᴰ a m.keep.waiting × (for_log l a.call ≡ true)
      in_ps = in_keep (λ j. for_log l j.call) m.keep.waiting

      in_js : (a : Job) → Memᴰ a js' → Memᴰ a m.keep.waiting × (not (for_log l a.call) ≡ true)
      in_js = in_keep (λ j. not (for_log l j.call)) m.keep.waiting

      no_has : (n g : ℕ) → g ≤ (v.co.f (log_box n)).edition → o.has (v.co.past (log_box n) g) i c (m.keep.serial + 1) ≡ true → ⊥
      no_has n g le x = let r = hk.keep.top n g (m.keep.serial + 1) le (omega arith) x in omega arith

      fix_batch : BatchOk qco i c kf l ps'
      fix_batch = let q = hk.keep in record {
        in_logs = lt;
        from = omega arith;
        distinct = distinct_keep mine' m.keep.waiting q.distinct;
        puts = λ j x. let y = in_ps j x in for_put logs l j.call y.1 (q.ok j y.0);
        made = λ j x. q.made j (in_ps j x).0;
        clear = λ j x a y z. let u = in_ps j x in let t = in_js a y in let r = distinct_same m.keep.waiting q.distinct j a u.0 t.0 z in not_both (for_log l a.call) (ap mine' (sym r) ∙ u.1) t.1;
        inn = λ g le x. absurd (no_has l g le x);
        out' = λ x j y. q.open' j (in_ps j y).0;
      }

      fix_base : QBase kf m.floor
      fix_base = let q = hk.keep in record {
        keep = record {
          me = q.me;
          chance = q.chance;
          hand = q.hand;
          life = q.life;
          serial = omega (arith, q.serial);
          born = q.born;
          few = let r = keep_split (λ j. for_log l j.call) (λ j. not (for_log l j.call)) (λ j. refl) m.keep.waiting in omega (arith, r, q.few);
          ok = λ j x. q.ok j (in_js j x).0;
          made = λ j x. q.made j (in_js j x).0;
          open' = λ j x. q.open' j (in_js j x).0;
          distinct = distinct_keep (λ j. not (for_log l j.call)) m.keep.waiting q.distinct;
          top = λ n g t le one x. let r = q.top n g t le one x in omega arith;
          batch = λ n qs x. let a : l ≡ n = cc in let b : ps' ≡ qs = cc in subst₂ (BatchOk qco i c kf) a b fix_batch;
        };
        floor = hk.floor;
        mines = fix_mines;
      }
        where
          fix_mines : Mines v.co.seen v.co.f i c m.keep kf
          fix_mines d s n g ps made (inl z) = absurd (none_some (sym nb ∙ z.2))
          fix_mines d s n g ps made (inr z) = inr (record {
            older = λ u. omega (arith, z.older u);
            past' = λ u n qs b. omega (arith, z.older u);
            clear = λ j x a y. z.clear j x a (in_js a y).0;
            apart = λ j x n qs b a y. let r : some l ps' ≡ some n qs = b in let t : ps' ≡ qs = cc in z.clear j x a (in_ps a (subst (Memᴰ a) (sym t) y)).0;
            late = λ n' qs b x. absurd (no_has n (v.co.f (log_box n)).edition (omega arith) (ap (λ y. o.has y i c (m.keep.serial + 1)) (h.now (log_box n)) ∙ x));
          })

    -- the box that was asked for
    old_of : (b : ℕ) (x : Box) → x.edition ≤ (v.co.f b).edition → v.co.past b x.edition ≡ x.bytes → OldAt v.w v.co.f b x.edition x.bytes
    old_of b x le was = record { upto = le; same = λ q. sym (h.now b) ∙ (ap (v.co.past b) (sym q) ∙ was); was = subst (L.Was v.w b) was (h.hist b x.edition le).was }

    log_by : (l : ℕ) → l < logs → (x : Box) → x.edition ≤ (v.co.f (log_box l)).edition → v.co.past (log_box l) x.edition ≡ x.bytes → (b : Batch) → m.keep.batch ≡ b → Turned v i c v.co.seen (on_log_by o logs (hearing m true) l x b)
    log_by l lt x le was none nb = quiet (on_log_by o logs (hearing m true) l x none) (fill_by v.co.seen v.w qco v.ways i c m.keep sm (hearing m true) q_base (kf l lt nb) (fix_base l lt nb) l (ps' l lt nb) refl x (old_of (log_box l) x le was)
        (λ q j y. hk.keep.open' j (in_ps l lt nb j y).0) (o.adds m.floor m.keep.me m.keep.chance (m.keep.serial + 1) l x.bytes (entries (ps' l lt nb))) refl)
    log_by l lt x le was (some n ps) is = cond_both (eqb l n) (cond (o.has x.bytes m.keep.me m.keep.chance m.keep.serial) (settle o logs (hearing m true) ps) (putting o logs (hearing m true) m.keep n ps x)) (start o logs (hearing m true)) (Turned v i c v.co.seen)
        (λ t. cond_both (o.has x.bytes m.keep.me m.keep.chance m.keep.serial) (settle o logs (hearing m true) ps) (putting o logs (hearing m true) m.keep n ps x) (Turned v i c v.co.seen) (yes' (eqb-true l n t)) (no' (eqb-true l n t)))
        (λ t. quiet (start o logs (hearing m true)) (start_ok v.co.seen v.w qco v.ways i c m.keep sm (hearing m true) q_base))
      where
        bo : BatchOk v.co i c m.keep n ps
        bo = hk.keep.batch n ps is

        me_is : o.has x.bytes m.keep.me m.keep.chance m.keep.serial ≡ o.has x.bytes i c m.keep.serial
        me_is = subst₂ (λ y z. o.has x.bytes m.keep.me m.keep.chance m.keep.serial ≡ o.has x.bytes y z m.keep.serial) hk.keep.me hk.keep.chance refl

        yes' : l ≡ n → o.has x.bytes m.keep.me m.keep.chance m.keep.serial ≡ true → Turned v i c v.co.seen (settle o logs (hearing m true) ps)
        yes' ln t = settle_ok n ps is (bo.inn x.edition (subst (λ z. x.edition ≤ (v.co.f (log_box z)).edition) ln le) (ap (λ z. o.has (v.co.past (log_box z) x.edition) i c m.keep.serial) (sym ln) ∙ (ap (λ z. o.has z i c m.keep.serial) was ∙ (sym me_is ∙ t))))

        no' : l ≡ n → o.has x.bytes m.keep.me m.keep.chance m.keep.serial ≡ false → Turned v i c v.co.seen (putting o logs (hearing m true) m.keep n ps x)
        no' ln t = quiet (putting o logs (hearing m true) m.keep n ps x) (fill_by v.co.seen v.w qco v.ways i c m.keep sm (hearing m true) q_base m.keep q_base n ps is x old
            (λ q. bo.out' (ap (λ z. o.has z i c m.keep.serial) (old.same q) ∙ (sym me_is ∙ t))) (o.adds m.floor m.keep.me m.keep.chance m.keep.serial n x.bytes (entries ps)) refl)
          where
            old : OldAt v.w v.co.f (log_box n) x.edition x.bytes
            old = subst (λ z. OldAt v.w v.co.f (log_box z) x.edition x.bytes) ln (old_of (log_box l) x le was)

    -- what came out is told
    told_out : (k f n : ℕ) (ev : List Event) → Memᴰ (record { number = k; call = Out' f n }) m.keep.waiting → (j : ℕ) → j ≤ n → ev ≡ first_of j (drop_of f (out p (L.logs_of v.w))) →
        Turned v i c v.co.seen (saying (record { number = k; reply = Outs ev } ∷ []) (idle o logs (keeping (hearing m true) (waits m.keep (keep_if (λ a. not (eqb a.number k)) m.keep.waiting)))))
    unfolding tolds core caller
    told_out k f n ev mem j le is = (le'.0, v.co.readies, moved v h i c m e es' le'.0 v.co.readies lo st (idle o logs (keeping (hearing m true) k')) (idle_ok v.co.seen v.w tco v.ways i c m.keep sm (keeping (hearing m true) k') base'))
      where
        le' : (os : List (Open Call)) × Less (opening i k (Out' f n)) v.co.opens os
        le' = less_of (hk.keep.open' (record { number = k; call = Out' f n }) mem)

        es' : List (Seen Call Reply)
        es' = told i k (Outs ev) ∷ v.co.seen

        tco : Core
        tco = next v.co es' le'.0 v.co.readies

        k' : Keep
        k' = waits m.keep (keep_if (λ a. not (eqb a.number k)) m.keep.waiting)

        may : Answers p core 68719476736 (Out' f n) (state_of p logs (L.logs_of v.w)) (Outs ev) (state_of p logs (L.logs_of v.w))
        may = subst (λ z. Answers p core 68719476736 (Out' f n) (state_of p logs (L.logs_of v.w)) (Outs z) (state_of p logs (L.logs_of v.w))) (sym is) (outs f n j (state_of p logs (L.logs_of v.w)) tt (hk.keep.ok (record { number = k; call = Out' f n }) mem) (omega arith) le)

        lo : Loose (K p logs) es' (state_of p logs (L.logs_of v.w)) le'.0 v.co.readies
        lo = loose_out (K p logs) (readying i k (Outs ev)) (loose_done (K p logs) (opening i k (Out' f n)) (Outs ev) h.loose le'.1 may) (taken refl)

        put_stays : (a t l : ℕ) (x : Call) → IsPut l x → Memᴰ (opening a t x) v.co.opens → Memᴰ (opening a t x) le'.0
        put_stays a t l x y z = ⊎_elim (λ u. absurd (subst (IsPut l) (ap (λ q. q.call) u) y)) (λ u. u) (less_rest le'.1 z)

        st : Stays v.co i tco
        st = record { callers = λ j k x y. y; puts = put_stays; opens = λ j k x ne z. ⊎_elim (λ u. absurd (ne (ap (λ q. q.hand) u))) (λ u. u) (less_rest le'.1 z); readies = λ j k r n z. z }

        in_w : (a : Job) → Memᴰ a k'.waiting → Memᴰ a m.keep.waiting × (not (eqb a.number k) ≡ true)
        in_w = in_keep (λ a. not (eqb a.number k)) m.keep.waiting

        base' : Base v.co.seen v.w tco v.ways i c m.keep sm k' m.floor
        base' = let q = hk.keep in record {
          keep = record {
            me = q.me;
            chance = q.chance;
            hand = q.hand;
            life = q.life;
            serial = omega (arith, q.serial);
            born = q.born;
            few = let r = keep_less (λ a. not (eqb a.number k)) m.keep.waiting in omega (arith, r, q.few);
            ok = λ a x. q.ok a (in_w a x).0;
            made = λ a x. st.callers i a.number a.call (q.made a (in_w a x).0);
            open' = λ a x. let y = in_w a x in ⊎_elim (λ u. absurd (not_both (eqb a.number k) (eq-eqb a.number k (ap (λ z. z.number) u)) y.1)) (λ u. u) (less_rest le'.1 (q.open' a y.0));
            distinct = distinct_keep (λ a. not (eqb a.number k)) m.keep.waiting q.distinct;
            top = q.top;
            batch = λ l ps y. let b = q.batch l ps y in record { in_logs = b.in_logs; from = b.from; distinct = b.distinct; puts = b.puts; made = λ a x. st.callers i a.number a.call (b.made a x); clear = λ a x d z. b.clear a x d (in_w d z).0; inn = b.inn; out' = λ t a x. put_stays i a.number l a.call (b.puts a x) (b.out' t a x) };
          };
          floor = hk.floor;
          mines = mines_less v.co.seen v.co.f i c m.keep k'.waiting (λ a x. (in_w a x).0);
        }

    gather_waits : (k f n : ℕ) (x : List ℕ) (got : List Event) → Memᴰ (record { number = k; call = Out' f n }) m.keep.waiting → L.Was v.w 0 x → Gathered o (L.Must v.w) f n x got → (y : Next) → o.answer f n x got ≡ y →
        Turned v i c v.co.seen (gather_by o logs (hearing m true) k f n x got y)
    gather_waits k f n x got mem was ga (page b) g = quiet (gather_by o logs (hearing m true) k f n x got (page b)) (asks_ok v.co.seen v.w qco v.ways i c m.keep sm (hearing m true) q_base (show b) (gather k f n x got b) tt (Memᴰ.head refl, mem, was, ga, g))
    gather_waits k f n x got mem was ga (reply ev) g = let r = L.answer_ok f n x got ev h.sound was ga g in told_out k f n ev mem r.0 r.1 r.2

    -- what the store says
    seen_at : (x : Box) (b : ℕ) → Memᴰ (shows i c m.asked x) v.ways → Memᴰ (wants_box i c m.asked b) v.ways → (x.edition ≤ (v.co.f b).edition) × (v.co.past b x.edition ≡ x.bytes)
    seen_at x b s w = let r = kp.ways (shows i c m.asked x) s in
        let u : ◌≡◌ {A = Way ℕ} (wants_box i c m.asked r.box) (wants_box i c m.asked b) = fr.same i c m.asked (wants_box i c m.asked r.box) (wants_box i c m.asked b) r.wanted w (refl, refl, refl) (refl, refl, refl) in
        let q : r.box ≡ b = cc in (subst (λ z. x.edition ≤ (v.co.f z).edition) q r.upto, subst (λ z. v.co.past z x.edition ≡ x.bytes) q r.was)

    must_at : (x : Box) (b : ℕ) → IsPage b → x.edition ≤ (v.co.f b).edition → v.co.past b x.edition ≡ x.bytes → 1 ≤ x.edition → L.Must v.w b x.bytes
    must_at x b pg le was one = subst (L.Must v.w b) was ((h.hist b x.edition le).must pg one)

    shown_by : (x : Box) → Memᴰ (shows i c m.asked x) v.ways → (ph : Phase) → PhaseOk v.w v.co.f v.ways i c m.asked m.keep ph → Turned v i c v.co.seen (on_shown o logs (hearing m true) x ph)
    shown_by x s rest q = quiet (stays (hearing m true)) (stay_does true)
    shown_by x s (log l) q = let r = seen_at x (log_box l) s q.1 in log_by l q.0 x r.0 r.1 m.keep.batch refl
    shown_by x s put q = quiet (stays (hearing m true)) (stay_does true)
    shown_by x s ledger q = let r = seen_at x 0 s q in quiet (on_ledger o logs (hearing m true) x) (ledger_ok v.co.seen v.w qco v.ways i c m.keep sm (hearing m true) q_base x (old_of 0 x r.0 r.1))
    shown_by x s (page' g l b) q = let r = seen_at x b s q.0 in quiet (on_page o logs (hearing m true) g l x)
        (page_ok' v.co.seen v.w qco v.ways i c m.keep sm (hearing m true) q_base g l b x q.1 q.2 (must_at x b (L.due_page v.w l b q.1.was q.2) r.0 r.1))
    shown_by x s (written g t ts l) q = quiet (stays (hearing m true)) (stay_does true)
    shown_by x s kept q = quiet (stays (hearing m true)) (stay_does true)
    shown_by x s (look g l ch n) q = let r = seen_at x (log_box n) s q.1 in quiet (on_shown o logs (hearing m true) x (look g l ch n))
        (took_by_is v.co.seen v.w qco v.ways i c m.keep sm (hearing m true) q_base g l ch n q.0 q.2 q.3 x.bytes (old_of (log_box n) x r.0 r.1).was (o.take l n x.bytes) refl)
    shown_by x s (answer' k f n) q = let r = seen_at x 0 s q.0 in gather_waits k f n x.bytes [] q.1 (old_of 0 x r.0 r.1).was no_page (o.answer f n x.bytes []) refl
    shown_by x s (gather k f n l got b) q = let r = seen_at x b s q.0 in cond_both (eqb x.edition 0) (start o logs (hearing m true)) (gathers o logs (hearing m true) k f n l (o.more f n l got x.bytes)) (Turned v i c v.co.seen)
        (λ t. quiet (start o logs (hearing m true)) (start_ok v.co.seen v.w qco v.ways i c m.keep sm (hearing m true) q_base))
        (λ t. gather_waits k f n l (o.more f n l got x.bytes) q.1 q.2 (one_page b x.bytes q.3 q.4 (must_at x b (L.answer_page v.w f n l got b q.2 q.4) r.0 r.1 (let u = eqb-false x.edition 0 t in omega arith))) (o.answer f n l (o.more f n l got x.bytes)) refl)

    filled_at : (g b e' : ℕ) (bs : List ℕ) → Memᴰ (says i c m.asked true g) v.ways → Memᴰ (wants_fill i c m.asked b e' bs) v.ways → (g ≤ (v.co.f b).edition) × (v.co.past b g ≡ bs) × (1 ≤ g)
    filled_at g b e' bs s w = let r = kp.ways (says i c m.asked true g) s in
        let u : ◌≡◌ {A = Way ℕ} (wants_fill i c m.asked r.box r.from r.bytes) (wants_fill i c m.asked b e' bs) = fr.same i c m.asked (wants_fill i c m.asked r.box r.from r.bytes) (wants_fill i c m.asked b e' bs) r.wanted w (refl, refl, refl) (refl, refl, refl) in
        let q : r.box ≡ b = cc in let t : r.bytes ≡ bs = cc in (subst (λ z. g ≤ (v.co.f z).edition) q r.upto, subst (λ z. v.co.past z g ≡ r.bytes) q r.was ∙ t, omega (arith, r.next))

    page_there : (d : Bool) (g b : ℕ) (bs : List ℕ) → L.Must v.w b bs → Memᴰ (says i c m.asked d g) v.ways → Memᴰ (wants_fill i c m.asked b 0 bs) v.ways → 1 ≤ (v.co.f b).edition
    page_there true g b bs must s w = let r = filled_at g b 0 bs s w in omega (arith, r.0, r.2)
    page_there false g b bs must s w = let r = kp.ways (says i c m.asked false g) s in
        let u : ◌≡◌ {A = Way ℕ} (wants_fill i c m.asked r.box r.from r.bytes) (wants_fill i c m.asked b 0 bs) = fr.same i c m.asked (wants_fill i c m.asked r.box r.from r.bytes) (wants_fill i c m.asked b 0 bs) r.wanted w (refl, refl, refl) (refl, refl, refl) in
        let q : r.box ≡ b = cc in let t : r.bytes ≡ bs = cc in let z : r.from ≡ 0 = cc in
        let le : g ≤ (v.co.f b).edition = subst (λ z. g ≤ (v.co.f z).edition) q r.upto in
        let one = unfit_some g (v.co.past r.box g) bs (L.must_fits v.w b bs must) (subst₂ (λ y u. T (not (fillable (record { edition = g; bytes = v.co.past r.box g }) y u))) z t r.unfit) in omega arith

    filled_by : (d : Bool) (g : ℕ) → Memᴰ (says i c m.asked d g) v.ways → (ph : Phase) → PhaseOk v.w v.co.f v.ways i c m.asked m.keep ph → Turned v i c v.co.seen (on_filled o logs (hearing m true) d ph)
    filled_by d g s rest q = quiet (stays (hearing m true)) (stay_does true)
    filled_by d g s (log l) q = quiet (stays (hearing m true)) (stay_does true)
    filled_by d g s put q = go d s m.keep.batch refl
      where
        go : (d : Bool) → Memᴰ (says i c m.asked d g) v.ways → (b : Batch) → m.keep.batch ≡ b → Turned v i c v.co.seen (on_put_by o logs (hearing m true) d b)
        go d s none is = quiet (start o logs (hearing m true)) (start_ok v.co.seen v.w qco v.ways i c m.keep sm (hearing m true) q_base)
        go false s (some l ps) is = quiet (start o logs (hearing m true)) (start_ok v.co.seen v.w qco v.ways i c m.keep sm (hearing m true) q_base)
        go true s (some l ps) is = let r = filled_at g q.0 q.1 q.2 s q.3 in let t = q.4 l ps is in
            settle_ok l ps is ((hk.keep.batch l ps is).inn g (subst (λ z. g ≤ (v.co.f z).edition) t.0 r.0) (ap (λ z. o.has z i c m.keep.serial) (ap (λ z. v.co.past z g) (sym t.0) ∙ r.1) ∙ t.1))
    filled_by d g s ledger q = quiet (stays (hearing m true)) (stay_does true)
    filled_by d g s (page' a l b) q = quiet (stays (hearing m true)) (stay_does true)
    filled_by d g s (written a t ts l) q = quiet (write o logs (hearing m true) a ts l) (write_ok v.co.seen v.w qco v.ways i c m.keep sm (hearing m true) q_base a ts l
        (record { led = x.led; shown = x.shown; old = x.old; right = x.right; is = x.is; todo = λ b y. ⊎_elim (λ z. inl z) (λ z. left' b z) (x.todo b y); sub = λ b y. x.sub b (Memᴰ.tail y) }))
      where
        x : Doing v.w v.co.f a (t ∷ ts) l
        x = q.1

        there : 1 ≤ (v.co.f t.box).edition
        there = page_there d g t.box t.bytes (L.must_of h.sound x.led x.shown x.old.was x.right t (x.sub t (Memᴰ.head refl))).0 s q.0

        left' : (b : Filling) → Memᴰ b (t ∷ ts) → (1 ≤ (v.co.f b.box).edition) ⊎ Memᴰ b ts
        left' b (Memᴰ.head z) = inl (subst (λ y. 1 ≤ (v.co.f y.box).edition) (sym z) there)
        left' b (Memᴰ.tail z) = inr z
    filled_by d g s kept q = quiet (read_ledger o logs (hearing m true)) (read_ok v.co.seen v.w qco v.ways i c m.keep sm (hearing m true) q_base)
    filled_by d g s (look a l ch n) q = quiet (stays (hearing m true)) (stay_does true)
    filled_by d g s (answer' k f n) q = quiet (stays (hearing m true)) (stay_does true)
    filled_by d g s (gather k f n l got b) q = quiet (stays (hearing m true)) (stay_does true)

    -- a turn on anything but a call keeps it
    pub turn_ok : {x : In ℕ Call} → Comes i c v.ways x → Turned v i c v.co.seen (acts o logs x m)
    unfolding acts
    turn_ok (a_word j w k) = quiet (stays m) same_does
    turn_ok (a_box q x k) = cond_both (eqb q m.asked) (on_shown o logs (hearing m true) x m.phase) (stays m) (Turned v i c v.co.seen)
        (λ t. shown_by x (subst (λ z. Memᴰ (shows i c z x) v.ways) (eqb-true q m.asked t) k) m.phase hk.phase) (λ t. quiet (stays m) same_does)
    turn_ok (a_filling q g d k) = cond_both (eqb q m.asked) (on_filled o logs (hearing m true) d m.phase) (stays m) (Turned v i c v.co.seen)
        (λ t. filled_by d g (subst (λ z. Memᴰ (says i c z d g) v.ways) (eqb-true q m.asked t) k) m.phase hk.phase) (λ t. quiet (stays m) same_does)
    turn_ok a_beat = cond_both (is_rest m.phase || not m.heard) (start o logs (hearing m false)) (stays (hearing m false)) (Turned v i c v.co.seen)
        (λ t. quiet (start o logs (hearing m false)) (start_ok v.co.seen v.w qco v.ways i c m.keep sm (hearing m false) q_base)) (λ t. quiet (stays (hearing m false)) (stay_does false))

    -- a call comes in
    abbrev Room : Type 0
    Room = length m.keep.waiting + puts_of m.keep.batch < 8

    module _ (k : ℕ) (x : Call) (new : is_used k v.co.seen ≡ false) where
      abbrev ces : List (Seen Call Reply)
      ces = called i k x ∷ v.co.seen

      abbrev cst : State
      cst = state_of p logs (L.logs_of v.w)

      c_in : Loose (K p logs) ces cst (opening i k x ∷ v.co.opens) v.co.readies
      c_in = loose_in (K p logs) (opening i k x) h.loose

      c_callers : (j n : ℕ) (y : Call) → caller n v.co.seen ≡ by j y → caller n ces ≡ by j y
      c_callers j n y z = caller_stays n j i k y x v.co.seen new z

      -- refused, or handed back
      back : (r : Reply) → Loose (K p logs) (told i k r ∷ ces) cst v.co.opens v.co.readies → Turned v i c ces (record { tell = record { number = k; reply = r } ∷ []; ask = none'; mind = m })
      unfolding tolds caller
      back r lo = (
        v.co.opens,
        v.co.readies,
        moved v h i c m e (told i k r ∷ ces) v.co.opens v.co.readies lo
            (record { callers = c_callers; puts = λ j n l y z u. u; opens = λ j n y ne z. z; readies = λ j n t ne z. z }) (stays m)
            (let q = hk.keep in record {
              keep = record {
                me = q.me;
                chance = q.chance;
                hand = q.hand;
                life = q.life;
                serial = omega (arith, q.serial);
                born = q.born;
                few = q.few;
                ok = q.ok;
                made = λ a y. c_callers i a.number a.call (q.made a y);
                open' = q.open';
                distinct = q.distinct;
                top = q.top;
                batch = λ l ps y. let b = q.batch l ps y in record { in_logs = b.in_logs; from = b.from; distinct = b.distinct; puts = b.puts; made = λ a z. c_callers i a.number a.call (b.made a z); clear = b.clear; inn = b.inn; out' = b.out' };
              };
              floor = hk.floor;
              mines = λ d s l g ps made z. z;
              asks = tt;
              phase = hk.phase;
              said = refl;
            }),
      )

      refused : (r : Reply) → Answers p core 68719476736 x cst r cst → Turned v i c ces (record { tell = record { number = k; reply = r } ∷ []; ask = none'; mind = m })
      refused r may = back r (loose_out (K p logs) (readying i k r) (loose_done (K p logs) (opening i k x) r c_in (taken refl) may) (taken refl))

      busy' : Turned v i c ces (refuses o logs m k 11)
      busy' = back (No 11) (loose_back (K p logs) (opening i k x) c_in (taken refl))

      -- let in
      abbrev jx : Job
      jx = record { number = k; call = x }

      abbrev cw : List Job
      cw = m.keep.waiting ++ (jx ∷ [])

      abbrev ck : Keep
      ck = waits m.keep cw

      abbrev cco : Core
      cco = next v.co ces (opening i k x ∷ v.co.opens) v.co.readies

      not_used : (j : ℕ) (y : Call) → caller k v.co.seen ≡ by j y → ⊥
      not_used j y z = both_ways (is_used k v.co.seen) new (caller_used k j y v.co.seen z)

      cw_all : (Q : Job → Type 0) → ((a : Job) → Memᴰ a m.keep.waiting → Q a) → Q jx → (a : Job) → Memᴰ a cw → Q a
      cw_all Q f g = all_append Q m.keep.waiting (jx ∷ []) f (all_cons Q g (all_none Q))

      c_stays : Stays v.co i cco
      c_stays = record { callers = c_callers; puts = λ j n l y z u. Memᴰ.tail u; opens = λ j n y ne z. Memᴰ.tail z; readies = λ j n t ne z. z }

      c_mines : Mines v.co.seen v.co.f i c m.keep ck
      c_mines d s l g ps made (inl z) = inl z
      c_mines d s l g ps made (inr z) = inr (record { older = z.older; past' = z.past'; clear = λ j y. cw_all (λ a. j.number ≡ a.number → ⊥) (z.clear j y) (λ u. not_used i j.call (ap (λ t. caller t v.co.seen) (sym u) ∙ made j y)); apart = z.apart; late = z.late })

      c_base : Room → CallOk logs x → Base v.co.seen v.w cco v.ways i c m.keep sm ck m.floor
      c_base room ok = let q = hk.keep in record {
        keep = record {
          me = q.me;
          chance = q.chance;
          hand = q.hand;
          life = q.life;
          serial = omega (arith, q.serial);
          born = q.born;
          few = let r = length_snoc m.keep.waiting jx in omega (arith, r, room);
          ok = cw_all (λ a. CallOk logs a.call) q.ok ok;
          made = cw_all (λ a. caller a.number ces ≡ by i a.call) (λ a y. c_callers i a.number a.call (q.made a y)) (caller_new i k x v.co.seen);
          open' = cw_all (λ a. Memᴰ (opening i a.number a.call) (opening i k x ∷ v.co.opens)) (λ a y. Memᴰ.tail (q.open' a y)) (Memᴰ.head refl);
          distinct = distinct_snoc m.keep.waiting jx q.distinct (λ a y u. not_used i a.call (ap (λ t. caller t v.co.seen) (sym u) ∙ q.made a y));
          top = q.top;
          batch = λ l ps y. let b = q.batch l ps y in record {
            in_logs = b.in_logs;
            from = b.from;
            distinct = b.distinct;
            puts = b.puts;
            made = λ a z. c_callers i a.number a.call (b.made a z);
            clear = λ j z. cw_all (λ a. j.number ≡ a.number → ⊥) (b.clear j z) (λ u. not_used i j.call (ap (λ t. caller t v.co.seen) (sym u) ∙ b.made j z));
            inn = b.inn;
            out' = λ t a z. Memᴰ.tail (b.out' t a z);
          };
        };
        floor = hk.floor;
        mines = c_mines;
      }

      more_phase : (q : ℕ) (ph : Phase) → PhaseOk v.w v.co.f v.ways i c q m.keep ph → PhaseOk v.w v.co.f v.ways i c q ck ph
      more_phase q rest y = y
      more_phase q (log l) y = y
      more_phase q put y = y
      more_phase q ledger y = y
      more_phase q (page' g l b) y = y
      more_phase q (written g t ts l) y = y
      more_phase q kept y = y
      more_phase q (look g l ch n) y = y
      more_phase q (answer' a f n) y = (y.0, Memᴰ.append_left (jx ∷ []) y.1)
      more_phase q (gather a f n l got b) y = (y.0, Memᴰ.append_left (jx ∷ []) y.1, y.2, y.3, y.4)

      taken_in : (r : Step) → Does v.co.seen v.w cco v.ways i c m.keep r → Turned v i c ces r
      unfolding tolds
      taken_in r d = (
        opening i k x ∷ v.co.opens,
        v.co.readies,
        subst (λ z. Good (turned_view v i c ces (opening i k x ∷ v.co.opens) v.co.readies (record { tell = z; ask = r.ask; mind = r.mind }))) (sym d.said)
            (moved v h i c m e ces (opening i k x ∷ v.co.opens) v.co.readies c_in c_stays r d),
      )

      accept_ok : Room → CallOk logs x → Turned v i c ces (accepts o logs m k x)
      accept_ok room ok = cond_both (is_rest m.phase) (start o logs (keeping m ck)) (stays (keeping m ck)) (Turned v i c ces)
          (λ t. taken_in (start o logs (keeping m ck)) (start_ok v.co.seen v.w cco v.ways i c m.keep sm (keeping m ck) (c_base room ok)))
          (λ t. taken_in (stays (keeping m ck)) (record { keep = (c_base room ok).keep; floor = hk.floor; mines = c_mines; asks = tt; phase = more_phase m.asked m.phase hk.phase; said = refl }))

    judge_ok : Room → (k : ℕ) (x : Call) → is_used k v.co.seen ≡ false → Turned v i c (called i k x ∷ v.co.seen) (judges o logs m k x)
    unfolding core
    judge_ok room k (Put l en) new = cond_both (entry_ok en) (cond (ltb l logs) (accepts o logs m k (Put l en)) (refuses o logs m k 2)) (refuses o logs m k 1) (Turned v i c (called i k (Put l en) ∷ v.co.seen))
        (λ t. cond_both (ltb l logs) (accepts o logs m k (Put l en)) (refuses o logs m k 2) (Turned v i c (called i k (Put l en) ∷ v.co.seen))
        (λ u. accept_ok k (Put l en) new room (ltb-true l logs u, subst T (sym t) tt))
        (λ u. refused k (Put l en) new (No 2) (no_log l en (state_of p logs (L.logs_of v.w)) tt (subst T (sym t) tt) (subst (λ z. z ≤ l) (sym h.many) (ltb-false l logs u)))))
        (λ t. refused k (Put l en) new (No 1) (bad_put l en (state_of p logs (L.logs_of v.w)) tt (subst (λ z. T (not z)) (sym t) tt)))
    judge_ok room k (Out' f n) new = cond_both (leb n 1024) (accepts o logs m k (Out' f n)) (refuses o logs m k 1) (Turned v i c (called i k (Out' f n) ∷ v.co.seen))
        (λ t. accept_ok k (Out' f n) new room (leb-true n 1024 t)) (λ t. refused k (Out' f n) new (No 1) (too_many f n (state_of p logs (L.logs_of v.w)) tt (leb-false n 1024 t)))
    judge_ok room k (Drop n) new = refused k (Drop n) new (No 12) (not_yet (Drop n) (state_of p logs (L.logs_of v.w)) (λ z. z))

    -- and a turn on a call
    pub call_ok : (k : ℕ) (x : Call) → is_used k v.co.seen ≡ false → Turned v i c (called i k x ∷ v.co.seen) (acts o logs (Ask k x) m)
    unfolding acts
    call_ok k x new = cond_both (ltb (length m.keep.waiting + puts_of m.keep.batch) 8) (judges o logs m k x) (refuses o logs m k 11) (Turned v i c (called i k x ∷ v.co.seen)) (λ t. judge_ok (ltb-true (length m.keep.waiting + puts_of m.keep.batch) 8 t) k x new) (λ t. busy' k x new)

  -- THE STORE ANSWERS, hands go and come
  module _ (v : View) (h : Good v) (f : ℕ → Stand Mind) (new : List (Way ℕ)) (dr : List ℕ) where
    abbrev zco : Core
    zco = record { n = suc v.co.n; seen = v.co.seen; opens = v.co.opens; readies = v.co.readies; past = v.co.past; f = v.co.f; drawn = dr }

    abbrev pub quiet_view : View
    quiet_view = record { w = v.w; co = zco; hand = f; ways = new ++ v.ways }

    pub quiet_ok : ((a : Way ℕ) → Memᴰ a new → Fact v.w zco f a) → ((d : ℕ) → is_in d v.co.drawn ≡ true → is_in d dr ≡ true) →
        ((j d : ℕ) (m : Mind) → f j ≡ here d m → (v.hand j ≡ here d m) ⊎ HandOk quiet_view j d m) →
        ((i c s l g : ℕ) (ps : List Job) → is_in c v.co.drawn ≡ true → Made v.co.seen i ps → ((d : ℕ) (m : Mind) → v.hand i ≡ here d m → Mine v.co.f i c s l g ps d m.keep) → (d : ℕ) (m : Mind) → f i ≡ here d m → Mine v.co.f i c s l g ps d m.keep) →
        Good quiet_view
    quiet_ok fs drs hs ms = record {
      sound = L.later h.sound;
      loose = h.loose;
      many = h.many;
      now = h.now;
      hist = λ b g le. let x = h.hist b g le in record { was = x.was; must = x.must; lives = λ l u i c t one y. drs c (x.lives l u i c t one y) };
      facts = all_append (Fact v.w zco f) new v.ways fs (λ a y. fact_on grow a (h.facts a y));
      hands = λ j d m y. ⊎_elim (old j d m) (λ z. z) (hs j d m y);
    }
      where
        grow : Grows v.w v.w v.co zco v.hand f
        grow = record { ns = omega arith; boxes = boxes_refl v.w v.co.f; callers = λ j k x y. y; opens = λ j k l x y z u r. r; drawns = drs; mines = ms }

        old : (j d : ℕ) (m : Mind) → v.hand j ≡ here d m → HandOk quiet_view j d m
        old j d m y = let k = h.hands j d m y in let q = k.keep in record {
          keep = record {
            me = q.me;
            chance = q.chance;
            hand = q.hand;
            life = q.life;
            serial = omega (arith, q.serial);
            born = drs d q.born;
            few = q.few;
            ok = q.ok;
            made = q.made;
            open' = q.open';
            distinct = q.distinct;
            top = q.top;
            batch = λ l ps y. let b = q.batch l ps y in record { in_logs = b.in_logs; from = b.from; distinct = b.distinct; puts = b.puts; made = b.made; clear = b.clear; inn = b.inn; out' = b.out' };
          };
          floor = k.floor;
          phase = phase_on (boxes_refl v.w v.co.f) (λ a z. Memᴰ.append_right new z) j d m.asked m.keep m.phase k.phase;
        }

  -- an answer of the store that changes no box; a hand that goes; one that comes
  pub answer_quiet : (v : View) → Good v → (a : Way ℕ) → ((w : L.World) (co : Core) (f : ℕ → Stand Mind) → Fact w co f a) → Good (record { w = v.w; co = next v.co v.co.seen v.co.opens v.co.readies; hand = v.hand; ways = a ∷ v.ways })
  answer_quiet v h a fa = quiet_ok v h v.hand (a ∷ []) v.co.drawn (all_cons (Fact v.w (next v.co v.co.seen v.co.opens v.co.readies) v.hand) (fa v.w (next v.co v.co.seen v.co.opens v.co.readies) v.hand) (all_none (Fact v.w (next v.co v.co.seen v.co.opens v.co.readies) v.hand)))
      (λ d y. y) (λ j d m y. inl y) (λ i c s l g ps bn made mine. mine)

  pub gone_quiet : (v : View) → Good v → (i : ℕ) → Good (record { w = v.w; co = next v.co v.co.seen v.co.opens v.co.readies; hand = at i away v.hand; ways = v.ways })
  gone_quiet v h i = quiet_ok v h (at i away v.hand) [] v.co.drawn (all_none (Fact v.w (next v.co v.co.seen v.co.opens v.co.readies) (at i away v.hand))) (λ d y. y) (λ j d m y. inl (still j d m y)) (λ j c s l g ps bn made mine d m y. mine d m (still j d m y))
    where
      still : (j d : ℕ) (m : Mind) → at i away v.hand j ≡ here d m → v.hand j ≡ here d m
      still j d m y = ⊎_elim (λ z. absurd (not_here z.1)) (λ z. z.1) (at_case i away v.hand j (here d m) y)

  pub come_quiet : (v : View) → Good v → (i r : ℕ) → i < 64 → r < 18446744073709551616 → is_in r v.co.drawn ≡ false →
      Good (record { w = v.w; co = record { n = suc v.co.n; seen = v.co.seen; opens = v.co.opens; readies = v.co.readies; past = v.co.past; f = v.co.f; drawn = r ∷ v.co.drawn }; hand = at i (here r ((worker o logs).begins i r)) v.hand; ways = v.ways })
  unfolding is_in
  come_quiet v h i r lt lt' new = quiet_ok v h (at i (here r m0) v.hand) [] (r ∷ v.co.drawn) (all_none (Fact v.w rco (at i (here r m0) v.hand))) (λ d y. or_right (eqb d r) (is_in d v.co.drawn) y)
      (at_hands (λ j d m. (v.hand j ≡ here d m) ⊎ HandOk rv j d m) i r m0 v.hand (inr fresh_hand) (λ j d m ne y. inl y))
      (λ j c s l g ps bn made mine d m y. at_hands (λ j d m. ((d : ℕ) (m : Mind) → v.hand j ≡ here d m → Mine v.co.f j c s l g ps d m.keep) → Mine v.co.f j c s l g ps d m.keep) i r m0 v.hand
      (λ mine. inr (record { older = λ u. absurd (other c bn u); past' = λ u n qs b. absurd (none_some b); clear = λ j x a y. elim y [ ]; apart = λ j x n qs b. absurd (none_some b); late = λ n qs b. absurd (none_some b) }))
      (λ j d m ne y mine. mine d m y) j d m y mine)
    where
      m0 : Mind
      m0 = (worker o logs).begins i r

      rco : Core
      rco = record { n = suc v.co.n; seen = v.co.seen; opens = v.co.opens; readies = v.co.readies; past = v.co.past; f = v.co.f; drawn = r ∷ v.co.drawn }

      rv : View
      rv = record { w = v.w; co = rco; hand = at i (here r m0) v.hand; ways = v.ways }

      other : (c : ℕ) → is_in c v.co.drawn ≡ true → c ≡ r → ⊥
      other c bn u = both_ways (is_in r v.co.drawn) new (ap (λ z. is_in z v.co.drawn) (sym u) ∙ bn)

      fresh_hand : HandOk rv i r m0
      fresh_hand = record {
        keep = record {
          me = refl;
          chance = refl;
          hand = lt;
          life = lt';
          serial = omega arith;
          born = or_left (eqb r r) (is_in r v.co.drawn) (eq-eqb r r refl);
          few = omega arith;
          ok = λ j x. elim x [ ];
          made = λ j x. elim x [ ];
          open' = λ j x. elim x [ ];
          distinct = tt;
          top = λ l g t le one x. absurd (both_ways (is_in r v.co.drawn) new ((h.hist (log_box l) g le).lives l refl i r t one x));
          batch = λ l ps b. absurd (none_some b);
        };
        floor = L.floor_none v.w;
        phase = tt;
      }
