-- Jobs, and what is done and told of many at once in a book.
use Rattle.std.proofs.Common.{◌≡◌, ℕ, zero, suc, ◌+◌, ◌<◌, ◌≤◌, Bool, true, false, cond, not, T, List, [], ◌∷◌, ◌++◌, length, sym, refl, ap, ◌∙◌, subst, ⊎_elim, arith}
use mathlib.Core.List.{Memᴰ}
use Rattle.std.proofs.lemmas.Bool.{cond_both, both_ways}
use Rattle.streams.specs.Meaning.{Entry, Plan}
use Rattle.streams.specs.Calls.{Call, Put, Out', Drop, Reply, Yes, State, entry_ok, core, empties, put_in, put}
use Rattle.streams.specs.Hands.{Seen, told, Keeper, Open, Ready, Way, wants_box, wants_fill, sent, tells}
use Rattle.streams.specs.Promise.{streams}
use Rattle.book.specs.Book.{put_all}
use Rattle.worker.specs.Worker.{Job, Told, Asks, none', show, fill, keep_if, entries, entry_of, yeses, telling, asking'}
use Rattle.shelf.proofs.Places.{all_cons, all_none}
use Rattle.shelf.proofs.Latelooks.{Less, less_of, less_rest, Loose, loose_done, loose_out}

-- a call that is open in the book-keeper's book, a reply that is ready
abbrev pub opening : (i k : ℕ) → Call → Open Call
opening i k o = record { hand = i; number = k; call = o }

abbrev pub readying : (i k : ℕ) → Reply → Ready Reply
readying i k r = record { hand = i; number = k; reply = r }

-- calls with numbers of their own
abbrev pub Distinct : List Job → Type 0
Distinct [] = Unit {0}
Distinct (j ∷ js) = ((a : Job) → Memᴰ a js → j.number ≡ a.number → ⊥) × Distinct js

pub distinct_same : (js : List Job) → Distinct js → (a b : Job) → Memᴰ a js → Memᴰ b js → a.number ≡ b.number → a ≡ b
distinct_same [] d a b m k e = elim m [ ]
distinct_same (j ∷ js) d a b (mathlib.Core.List.Memᴰ.head x) (mathlib.Core.List.Memᴰ.head y) e = x ∙ sym y
distinct_same (j ∷ js) d a b (mathlib.Core.List.Memᴰ.head x) (mathlib.Core.List.Memᴰ.tail y) e = absurd (d.0 b y (ap (λ z. z.number) (sym x) ∙ e))
distinct_same (j ∷ js) d a b (mathlib.Core.List.Memᴰ.tail x) (mathlib.Core.List.Memᴰ.head y) e = absurd (d.0 a x (ap (λ z. z.number) (sym y) ∙ sym e))
distinct_same (j ∷ js) d a b (mathlib.Core.List.Memᴰ.tail x) (mathlib.Core.List.Memᴰ.tail y) e = distinct_same js d.1 a b x y e

pub in_keep : (f : Job → Bool) (js : List Job) (a : Job) → Memᴰ a (keep_if f js) → Memᴰ a js × (f a ≡ true)
unfolding keep_if
in_keep f [] a m = elim m [ ]
in_keep f (j ∷ js) a m = cond_both (f j) (j ∷ keep_if f js) (keep_if f js) (λ z. Memᴰ a z → Memᴰ a (j ∷ js) × (f a ≡ true))
    (λ t. all_cons (λ z. Memᴰ z (j ∷ js) × (f z ≡ true)) (mathlib.Core.List.Memᴰ.head refl, t) (λ z x. let r = in_keep f js z x in (mathlib.Core.List.Memᴰ.tail r.0, r.1)) a)
    (λ t x. let r = in_keep f js a x in (mathlib.Core.List.Memᴰ.tail r.0, r.1)) m

pub distinct_keep : (f : Job → Bool) (js : List Job) → Distinct js → Distinct (keep_if f js)
unfolding keep_if
distinct_keep f [] d = tt
distinct_keep f (j ∷ js) d = cond_both (f j) (j ∷ keep_if f js) (keep_if f js) Distinct (λ t. (λ a m. d.0 a (in_keep f js a m).0, distinct_keep f js d.1)) (λ t. distinct_keep f js d.1)

pub distinct_snoc : (js : List Job) (j : Job) → Distinct js → ((a : Job) → Memᴰ a js → a.number ≡ j.number → ⊥) → Distinct (js ++ (j ∷ []))
distinct_snoc [] j d n = (λ a m. elim m [ ], tt)
distinct_snoc (b ∷ js) j d n = (
  λ a m e. ⊎_elim (λ x. d.0 a x e) (λ x. all_cons (λ z. b.number ≡ z.number → ⊥) (n b (mathlib.Core.List.Memᴰ.head refl)) (all_none (λ z. b.number ≡ z.number → ⊥)) a x e) (mathlib.Core.List.Memᴰ.append_cases js m),
  distinct_snoc js j d.1 (λ a m. n a (mathlib.Core.List.Memᴰ.tail m)),
)

-- a put of a log, that is all right
abbrev pub IsPut : ℕ → Call → Type 0
IsPut l (Put n e) = (n ≡ l) × T (entry_ok e)
IsPut l (Out' f k) = ⊥
IsPut l (Drop n) = ⊥

pub is_put : (l : ℕ) (c : Call) → IsPut l c → (e : Entry) × (c ≡ Put l e)
is_put l (Put n e) h = (e, ap (λ z. Put z e) h.0)
is_put l (Out' f k) h = absurd h
is_put l (Drop n) h = absurd h

entries_one : (l : ℕ) (c : Call) (es : List Entry) → IsPut l c → ((x : Entry) → Memᴰ x es → T (entry_ok x)) → (x : Entry) → Memᴰ x (entry_of c es) → T (entry_ok x)
entries_one l (Put n e) es h f = all_cons (λ x. T (entry_ok x)) h.1 f
entries_one l (Out' a b) es h f = absurd h
entries_one l (Drop n) es h f = absurd h

pub entries_ok : (l : ℕ) (js : List Job) → ((j : Job) → Memᴰ j js → IsPut l j.call) → (x : Entry) → Memᴰ x (entries js) → T (entry_ok x)
unfolding entries
entries_ok l [] f = all_none (λ x. T (entry_ok x))
entries_ok l (j ∷ js) f = entries_one l j.call (entries js) (f j (mathlib.Core.List.Memᴰ.head refl)) (entries_ok l js (λ a m. f a (mathlib.Core.List.Memᴰ.tail m)))

-- those that are kept and those that are not are all
pub keep_split : (f g : Job → Bool) → ((j : Job) → g j ≡ not (f j)) → (js : List Job) → length (keep_if g js) + length (keep_if f js) ≡ length js
unfolding keep_if
keep_split f g e [] = omega arith
keep_split f g e (j ∷ js) = go (keep_split f g e js) (f j) (g j) (e j)
  where
    go : length (keep_if g js) + length (keep_if f js) ≡ length js → (a b : Bool) → b ≡ not a → length (cond b (j ∷ keep_if g js) (keep_if g js)) + length (cond a (j ∷ keep_if f js) (keep_if f js)) ≡ suc (length js)
    go r true true x = absurd (both_ways false refl (sym x))
    go r true false x = omega (arith, r)
    go r false true x = omega (arith, r)
    go r false false x = absurd (both_ways false refl x)

pub keep_less : (f : Job → Bool) (js : List Job) → length (keep_if f js) ≤ length js
unfolding keep_if
keep_less f [] = omega arith
keep_less f (j ∷ js) = let r = keep_less f js in cond_both (f j) (j ∷ keep_if f js) (keep_if f js) (λ z. length z ≤ suc (length js)) (λ t. omega (arith, r)) (λ t. omega (arith, r))

pub length_snoc : (js : List Job) (j : Job) → length (js ++ (j ∷ [])) ≡ length js + 1
length_snoc [] j = omega arith
length_snoc (a ∷ js) j = let r = length_snoc js j in omega (arith, r)

entries_step : (c : Call) (es : List Entry) (n : ℕ) → length es ≤ n → length (entry_of c es) ≤ suc n
entries_step (Put l e) es n h = omega (arith, h)
entries_step (Out' f k) es n h = omega (arith, h)
entries_step (Drop k) es n h = omega (arith, h)

pub entries_few : (js : List Job) → length (entries js) ≤ length js
unfolding entries
entries_few [] = omega arith
entries_few (j ∷ js) = entries_step j.call (entries js) (length js) (entries_few js)

pub length_put : (n : ℕ) (e : Entry) (ls : List (List Entry)) → length (put_in n e ls) ≡ length ls
unfolding put_in
length_put n e [] = refl
length_put zero e (l ∷ ls) = refl
length_put (suc n) e (l ∷ ls) = ap suc (length_put n e ls)

pub length_puts : (n : ℕ) (es : List Entry) (ls : List (List Entry)) → length (put_all n es ls) ≡ length ls
unfolding put_all
length_puts n [] ls = refl
length_puts n (e ∷ es) ls = length_puts n es (put_in n e ls) ∙ length_put n e ls

pub length_empties : (n : ℕ) → length (empties n) ≡ n
unfolding empties
length_empties zero = refl
length_empties (suc n) = ap suc (length_empties n)

module _ (p : Plan) (logs : ℕ) where
  abbrev pub K : Keeper Call Reply
  K = streams p logs core

  abbrev pub state_of : List (List Entry) → State
  state_of ls = record { logs = ls; dropped = 0 }

  -- the book after the puts of a batch were done, one after the other: their replies are ready, other calls are still open
  pub record DoneAll (es : List (Seen Call Reply)) (ls : List (List Entry)) (os : List (Open Call)) (rs : List (Ready Reply)) (i : ℕ) (js : List Job) : Type 0 where
    pub opens : List (Open Call)
    pub readies : List (Ready Reply)
    pub loose : Loose K es (state_of ls) opens readies
    pub stay : (a : Open Call) → Memᴰ a os → ((j : Job) → Memᴰ j js → a.number ≡ j.number → ⊥) → Memᴰ a opens
    pub still : (a : Ready Reply) → Memᴰ a rs → Memᴰ a readies
    pub ready : (j : Job) → Memᴰ j js → Memᴰ (readying i j.number Yes) readies

  mutual_one : (es : List (Seen Call Reply)) (i l : ℕ) (k : ℕ) (c : Call) (js : List Job) (ls : List (List Entry)) (os : List (Open Call)) (rs : List (Ready Reply)) → l < length ls → IsPut l c → Loose K es (state_of ls) os rs → Memᴰ (opening i k c) os →
      ((ls' : List (List Entry)) (os' : List (Open Call)) (rs' : List (Ready Reply)) → l < length ls' → Less (opening i k c) os os' → Loose K es (state_of ls') os' rs' → DoneAll es (put_all l (entries js) ls') os' rs' i js) →
      ((j : Job) → Memᴰ j js → k ≡ j.number → ⊥) → DoneAll es (put_all l (entry_of c (entries js)) ls) os rs i (record { number = k; call = c } ∷ js)
  unfolding put_all core
  mutual_one es i l k (Out' a b) js ls os rs lt h lo m f d = absurd h
  mutual_one es i l k (Drop n) js ls os rs lt h lo m f d = absurd h
  mutual_one es i l k (Put n e) js ls os rs lt h lo m f d =
      let x = less_of m in
      let q : n < length ls = subst (λ z. z < length ls) (sym h.0) lt in
      let lo' : Loose K es (state_of (put_in l e ls)) x.0 (readying i k Yes ∷ rs) = subst (λ z. Loose K es (state_of (put_in z e ls)) x.0 (readying i k Yes ∷ rs)) h.0 (loose_done K (opening i k (Put n e)) Yes lo x.1 (put n e (state_of ls) tt h.1 q)) in
      let r = f (put_in l e ls) x.0 (readying i k Yes ∷ rs) (subst (λ z. l < z) (sym (length_put l e ls)) lt) x.1 lo' in
      record {
        opens = r.opens;
        readies = r.readies;
        loose = r.loose;
        stay = λ a y z. r.stay a (⊎_elim (λ u. absurd (z (record { number = k; call = Put n e }) (mathlib.Core.List.Memᴰ.head refl) (ap (λ v. v.number) u))) (λ u. u) (less_rest x.1 y)) (λ j w. z j (mathlib.Core.List.Memᴰ.tail w));
        still = λ a y. r.still a (mathlib.Core.List.Memᴰ.tail y);
        ready = all_cons (λ j. Memᴰ (readying i j.number Yes) r.readies) (r.still (readying i k Yes) (mathlib.Core.List.Memᴰ.head refl)) r.ready;
      }

  -- a batch is done at once
  pub done_all : (es : List (Seen Call Reply)) (i l : ℕ) (js : List Job) (ls : List (List Entry)) (os : List (Open Call)) (rs : List (Ready Reply)) → l < length ls → Distinct js → ((j : Job) → Memᴰ j js → IsPut l j.call) →
      ((j : Job) → Memᴰ j js → Memᴰ (opening i j.number j.call) os) → Loose K es (state_of ls) os rs → DoneAll es (put_all l (entries js) ls) os rs i js
  unfolding entries put_all
  done_all es i l [] ls os rs lt d h g lo = record { opens = os; readies = rs; loose = lo; stay = λ a m n. m; still = λ a m. m; ready = λ j m. elim m [ ] }
  done_all es i l (j ∷ js) ls os rs lt d h g lo = mutual_one es i l j.number j.call js ls os rs lt (h j (mathlib.Core.List.Memᴰ.head refl)) lo (g j (mathlib.Core.List.Memᴰ.head refl))
      (λ ls' os' rs' lt' le lo'. done_all es i l js ls' os' rs' lt' d.1 (λ a m. h a (mathlib.Core.List.Memᴰ.tail m)) (λ a m. ⊎_elim (λ u. absurd (d.0 a m (sym (ap (λ v. v.number) u)))) (λ u. u) (less_rest le (g a (mathlib.Core.List.Memᴰ.tail m)))) lo') d.0

  -- the book after the replies of a batch were told
  pub record TellAll (es : List (Seen Call Reply)) (ls : List (List Entry)) (os : List (Open Call)) (rs : List (Ready Reply)) (i : ℕ) (js : List Job) : Type 0 where
    pub readies : List (Ready Reply)
    pub loose : Loose K es (state_of ls) os readies
    pub stay : (a : Ready Reply) → Memᴰ a rs → ((j : Job) → Memᴰ j js → a ≡ readying i j.number Yes → ⊥) → Memᴰ a readies

-- what is told, and asked
unfoldable pub tolds : ℕ → List Told → List (Seen Call Reply)
tolds i [] = []
tolds i (t ∷ ts) = told i t.number t.reply ∷ tolds i ts

-- what is told and asked by a step, as what customers see and as what is under way
abbrev pub ways_of : (i c q : ℕ) → Asks → List (Way ℕ)
ways_of i c q none' = []
ways_of i c q (show b) = wants_box i c q b ∷ []
ways_of i c q (fill b e bs) = wants_fill i c q b e bs ∷ []

pub tells_are : (i q : ℕ) (ts : List Told) (a : Asks) → tells {O = Call} i (telling ts (asking' q a)) ≡ tolds i ts
unfolding tells telling tolds
tells_are i q [] none' = refl
tells_are i q [] (show b) = refl
tells_are i q [] (fill b e bs) = refl
tells_are i q (t ∷ ts) a = ap {B = List (Seen Call Reply)} (λ z. told i t.number t.reply ∷ z) (tells_are i q ts a)

pub sent_are : (i c q : ℕ) (ts : List Told) (a : Asks) → sent i c (telling ts (asking' q a)) ≡ ways_of i c q a
unfolding sent telling
sent_are i c q [] none' = refl
sent_are i c q [] (show b) = refl
sent_are i c q [] (fill b e bs) = refl
sent_are i c q (t ∷ ts) a = sent_are i c q ts a

module _ (p : Plan) (logs : ℕ) where
  -- a batch is told at once
  pub tell_all : (es : List (Seen Call Reply)) (i : ℕ) (js : List Job) (ls : List (List Entry)) (os : List (Open Call)) (rs : List (Ready Reply)) → Distinct js → ((j : Job) → Memᴰ j js → Memᴰ (readying i j.number Yes) rs) →
      Loose (K p logs) es (state_of p logs ls) os rs → TellAll p logs (tolds i (yeses js) ++ es) ls os rs i js
  unfolding tolds yeses
  tell_all es i [] ls os rs d g lo = record { readies = rs; loose = lo; stay = λ a m n. m }
  tell_all es i (j ∷ js) ls os rs d g lo =
      let r = tell_all es i js ls os rs d.1 (λ a m. g a (mathlib.Core.List.Memᴰ.tail m)) lo in
      let x = less_of (r.stay (readying i j.number Yes) (g j (mathlib.Core.List.Memᴰ.head refl)) (λ a m e. d.0 a m (ap (λ z. z.number) e))) in
      record {
        readies = x.0;
        loose = loose_out (K p logs) (readying i j.number Yes) r.loose x.1;
        stay = λ a m n. ⊎_elim (λ u. absurd (n j (mathlib.Core.List.Memᴰ.head refl) u)) (λ u. u) (less_rest x.1 (r.stay a m (λ b k. n b (mathlib.Core.List.Memᴰ.tail k))));
      }
