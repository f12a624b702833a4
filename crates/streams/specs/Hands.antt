-- A shelf that lasts, and hands that don't: what hands ask of the shelf, what they say to each other, how they go and come, and what customers see.
-- Assumes nothing.
use Rattle.std.specs.Prelude.{◌≡◌, ℕ, suc, ◌+◌, ◌<◌, ◌≤◌, Bool, true, false, cond, not, ◌&&◌, ◌||◌, T, List, [], ◌∷◌, ◌++◌, length, ◌==◌, nat_le, nat_lt}
use mathlib.Core.List.{Memᴰ}

-- a box on the shelf: how often it was filled, and with what
pub record Box : Type 0 where
  pub edition : ℕ
  pub bytes : List ℕ

pub data In (M O : Type 0) : Type 0 where
  From : (hand : ℕ) → M → In M O
  -- the shelf's answer to what was asked under a number: a box as it was; or whether it was filled, and its edition then
  Shown : (number : ℕ) → Box → In M O
  Filled : (number : ℕ) → (done : Bool) → (edition : ℕ) → In M O
  Ask : (number : ℕ) → O → In M O
  Beat : In M O

pub data Out (M R : Type 0) : Type 0 where
  To : (hand : ℕ) → M → Out M R
  Show : (number box : ℕ) → Out M R
  -- fill a box, if it is of that edition
  Fill : (number box edition : ℕ) → List ℕ → Out M R
  Tell : (number : ℕ) → R → Out M R

-- a hand's code. It begins with its number and one by chance that no hand had before, and knows nothing else.
pub record Hand (M O R : Type 0) : Type 1 where
  pub Mind : Type 0
  pub begins : (me chance : ℕ) → Mind
  pub turns : In M O → Mind → record { does : List (Out M R); mind : Mind }

-- what is under way: between hands; to the shelf, from which life of a hand; from the shelf to a life
pub data Way (M : Type 0) : Type 0 where
  word : (by to : ℕ) → M → Way M
  wants_box : (hand chance number box : ℕ) → Way M
  wants_fill : (hand chance number box edition : ℕ) → List ℕ → Way M
  shows : (hand chance number : ℕ) → Box → Way M
  says : (hand chance number : ℕ) → Bool → (edition : ℕ) → Way M

pub data Stand (Mind : Type 0) : Type 0 where
  away : Stand Mind
  here : (chance : ℕ) → Mind → Stand Mind

pub record Waits : Type 0 where
  pub hand : ℕ
  pub number : ℕ

pub data Seen (O R : Type 0) : Type 0 where
  called : (hand number : ℕ) → O → Seen O R
  told : (hand number : ℕ) → R → Seen O R

pub record Scene (Mind M : Type 0) : Type 0 where
  pub hand : ℕ → Stand Mind
  pub box : ℕ → Box
  pub ways : List (Way M)
  pub waits : List Waits
  -- numbers by chance that were drawn
  pub drawn : List ℕ

abbrev pub at : {A : Type 0} → ℕ → A → (ℕ → A) → ℕ → A
at i x f j = cond (j == i) x (f j)

unfoldable pub sent : {M R : Type 0} → (hand chance : ℕ) → List (Out M R) → List (Way M)
sent i c [] = []
sent i c (To j m ∷ os) = word i j m ∷ sent i c os
sent i c (Show k b ∷ os) = wants_box i c k b ∷ sent i c os
sent i c (Fill k b e bs ∷ os) = wants_fill i c k b e bs ∷ sent i c os
sent i c (Tell k r ∷ os) = sent i c os

unfoldable pub tells : {M O R : Type 0} → ℕ → List (Out M R) → List (Seen O R)
tells i [] = []
tells i (To j m ∷ os) = tells i os
tells i (Show k b ∷ os) = tells i os
tells i (Fill k b e bs ∷ os) = tells i os
tells i (Tell k r ∷ os) = told i k r ∷ tells i os

unfoldable pub without : (hand number : ℕ) → List Waits → List Waits
without i k [] = []
without i k (a ∷ as') = cond (i == a.hand && k == a.number) (without i k as') (a ∷ without i k as')

unfoldable pub settled : {M R : Type 0} → ℕ → List (Out M R) → List Waits → List Waits
settled i [] ws = ws
settled i (To j m ∷ os) ws = settled i os ws
settled i (Show k b ∷ os) ws = settled i os ws
settled i (Fill k b e bs ∷ os) ws = settled i os ws
settled i (Tell k r ∷ os) ws = settled i os (without i k ws)

unfoldable pub emptied : ℕ → List Waits → List Waits
emptied i [] = []
emptied i (a ∷ as') = cond (i == a.hand) (emptied i as') (a ∷ emptied i as')

unfoldable pub count_at : ℕ → List Waits → ℕ
count_at i [] = 0
count_at i (a ∷ as') = cond (i == a.hand) (1 + count_at i as') (count_at i as')

unfoldable pub is_used : {O R : Type 0} → ℕ → List (Seen O R) → Bool
is_used k [] = false
is_used k (called i n o ∷ es) = k == n || is_used k es
is_used k (told i n r ∷ es) = is_used k es

abbrev pub turned : {M O R : Type 0} → (h : Hand M O R) → (i c : ℕ) → record { does : List (Out M R); mind : h.Mind } → Scene h.Mind M → Scene h.Mind M
turned {M} {O} {R} h i c x s = record { hand = at i (here c x.mind) s.hand; box = s.box; ways = sent i c x.does ++ s.ways; waits = settled i x.does s.waits; drawn = s.drawn }

abbrev pub asking : {Mind M : Type 0} → (hand number : ℕ) → Scene Mind M → Scene Mind M
asking i k s = record { hand = s.hand; box = s.box; ways = s.ways; waits = record { hand = i; number = k } ∷ s.waits; drawn = s.drawn }

unfoldable pub is_in : ℕ → List ℕ → Bool
is_in i [] = false
is_in i (x ∷ xs) = i == x || is_in i xs

-- with any number of 64 bits that wasn't drawn before
abbrev pub come : {M O R : Type 0} → (h : Hand M O R) → (i chance : ℕ) → Scene h.Mind M → Scene h.Mind M
come {M} {O} {R} h i r s = record { hand = at i (here r (h.begins i r)) s.hand; box = s.box; ways = s.ways; waits = s.waits; drawn = r ∷ s.drawn }

abbrev pub gone : {Mind M : Type 0} → ℕ → Scene Mind M → Scene Mind M
gone i s = record { hand = at i away s.hand; box = s.box; ways = s.ways; waits = emptied i s.waits; drawn = s.drawn }

-- THE SHELF does one thing at a time: it shows a box, or fills it if it is of the edition that is said; boxes hold up to 1 MiB of bytes
unfoldable pub all_bytes : List ℕ → Bool
all_bytes [] = true
all_bytes (b ∷ bs) = nat_lt b 256 && all_bytes bs

abbrev pub fillable : Box → ℕ → List ℕ → Bool
fillable b e bs = e == b.edition && nat_le (length bs) 1048576 && all_bytes bs

abbrev pub answered : {Mind M : Type 0} → Way M → (ℕ → Box) → Scene Mind M → Scene Mind M
answered a f s = record { hand = s.hand; box = f; ways = a ∷ s.ways; waits = s.waits; drawn = s.drawn }

-- what may come to a hand of a life
pub data Comes {M O : Type 0} (i c : ℕ) : List (Way M) → In M O → Type 0 where
  a_word : {ws : List (Way M)} (j : ℕ) (m : M) → Memᴰ (word j i m) ws → Comes i c ws (From j m)
  a_box : {ws : List (Way M)} (k : ℕ) (b : Box) → Memᴰ (shows i c k b) ws → Comes i c ws (Shown k b)
  a_filling : {ws : List (Way M)} (k e : ℕ) (d : Bool) → Memᴰ (says i c k d e) ws → Comes i c ws (Filled k d e)
  a_beat : {ws : List (Way M)} → Comes i c ws Beat

-- Whatever can happen, counted. All that is under way comes late, again, in any order, or never, to the shelf as well; hands go at any time, all of them too, and come again knowing nothing.
pub data Goes {M O R : Type 0} (h : Hand M O R) (all : ℕ) : ℕ → List (Seen O R) → Scene h.Mind M → Type 0 where
  first : Goes h all 0 [] (record { hand = λ i. away; box = λ b. record { edition = 0; bytes = [] }; ways = []; waits = []; drawn = [] })
  turns : {n : ℕ} {es : List (Seen O R)} {s : Scene h.Mind M} (i c : ℕ) (m : h.Mind) (x : In M O) → i < all → Goes h all n es s → s.hand i ≡ here c m → Comes i c s.ways x →
      Goes h all (suc n) (tells i (h.turns x m).does ++ es) (turned h i c (h.turns x m) s)
  asked : {n : ℕ} {es : List (Seen O R)} {s : Scene h.Mind M} (i c k : ℕ) (o : O) (m : h.Mind) → i < all → k < 18446744073709551616 → Goes h all n es s → s.hand i ≡ here c m → T (not (is_used k es)) →
      Goes h all (suc n) (tells i (h.turns (Ask k o) m).does ++ called i k o ∷ es) (turned h i c (h.turns (Ask k o) m) (asking i k s))
  shows_box : {n : ℕ} {es : List (Seen O R)} {s : Scene h.Mind M} (i c k b : ℕ) → Goes h all n es s → Memᴰ (wants_box i c k b) s.ways → Goes h all (suc n) es (answered (shows i c k (s.box b)) s.box s)
  fills : {n : ℕ} {es : List (Seen O R)} {s : Scene h.Mind M} (i c k b e : ℕ) (bs : List ℕ) → Goes h all n es s → Memᴰ (wants_fill i c k b e bs) s.ways → T (fillable (s.box b) e bs) →
      Goes h all (suc n) es (answered (says i c k true (e + 1)) (at b (record { edition = e + 1; bytes = bs }) s.box) s)
  doesnt_fill : {n : ℕ} {es : List (Seen O R)} {s : Scene h.Mind M} (i c k b e : ℕ) (bs : List ℕ) → Goes h all n es s → Memᴰ (wants_fill i c k b e bs) s.ways → T (not (fillable (s.box b) e bs)) →
      Goes h all (suc n) es (answered (says i c k false (s.box b).edition) s.box s)
  goes : {n : ℕ} {es : List (Seen O R)} {s : Scene h.Mind M} (i c : ℕ) (m : h.Mind) → i < all → Goes h all n es s → s.hand i ≡ here c m → Goes h all (suc n) es (gone i s)
  comes : {n : ℕ} {es : List (Seen O R)} {s : Scene h.Mind M} (i r : ℕ) → i < all → r < 18446744073709551616 → T (not (is_in r s.drawn)) → Goes h all n es s → s.hand i ≡ away → Goes h all (suc n) es (come h i r s)

-- A BOOK-KEEPER who does one call after the other: what a call may answer and leave; and what is said to a call too many
pub record Keeper (O R : Type 0) : Type 1 where
  pub State : Type 0
  pub start : State
  pub May : O → State → R → State → Type 0
  pub busy : R

pub record Open (O : Type 0) : Type 0 where
  pub hand : ℕ
  pub number : ℕ
  pub call : O

pub record Ready (R : Type 0) : Type 0 where
  pub hand : ℕ
  pub number : ℕ
  pub reply : R

pub data Book {O R : Type 0} (p : Keeper O R) : List (Seen O R) → p.State → List (Open O) → List (Ready R) → Type 0 where
  empty : Book p [] p.start [] []
  comes_in : {es : List (Seen O R)} {s : p.State} {os : List (Open O)} {rs : List (Ready R)} (i k : ℕ) (o : O) → Book p es s os rs → Book p (called i k o ∷ es) s (record { hand = i; number = k; call = o } ∷ os) rs
  is_done : {es : List (Seen O R)} {s t : p.State} {rs : List (Ready R)} {r : R} (xs ys : List (Open O)) (i k : ℕ) (o : O) → Book p es s (xs ++ record { hand = i; number = k; call = o } ∷ ys) rs → p.May o s r t →
      Book p es t (xs ++ ys) (record { hand = i; number = k; reply = r } ∷ rs)
  goes_out : {es : List (Seen O R)} {s : p.State} {os : List (Open O)} (xs ys : List (Ready R)) (i k : ℕ) (r : R) → Book p es s os (xs ++ record { hand = i; number = k; reply = r } ∷ ys) → Book p (told i k r ∷ es) s os (xs ++ ys)
  handed_back : {es : List (Seen O R)} {s : p.State} {rs : List (Ready R)} (xs ys : List (Open O)) (i k : ℕ) (o : O) → Book p es s (xs ++ record { hand = i; number = k; call = o } ∷ ys) rs → Book p (told i k p.busy ∷ es) s (xs ++ ys) rs

abbrev pub OneBook : {M O R : Type 0} → Keeper O R → Hand M O R → Type 0
OneBook {M} {O} {R} p h =
    (all n : ℕ) → 1 ≤ all → all ≤ 64 → n < 72057594037927936 → (es : List (Seen O R)) (s : Scene h.Mind M) → Goes h all n es s → (t : p.State) × (os : List (Open O)) × (rs : List (Ready R)) × Book p es t os rs

abbrev pub BusyAtNine : {M O R : Type 0} → Keeper O R → Hand M O R → Type 0
BusyAtNine {M} {O} {R} p h =
    (all n : ℕ) → 1 ≤ all → all ≤ 64 → n < 72057594037927936 → (es : List (Seen O R)) (s : Scene h.Mind M) → Goes h all n es s → (i c k : ℕ) (m : h.Mind) (x : In M O) → s.hand i ≡ here c m → Memᴰ (Tell k p.busy) (h.turns x m).does →
    (o : O) × (x ≡ Ask k o) × (8 ≤ count_at i s.waits)

-- ONE HAND IS ENOUGH. What one hand and the shelf can do, by what it asks from then on, with all other hands away or silent.
pub data Alone {M O R : Type 0} (h : Hand M O R) (i : ℕ) (s : Scene h.Mind M) : List (Seen O R) → Scene h.Mind M → Type 0 where
  stay : Alone h i s [] s
  turn : {es : List (Seen O R)} {t : Scene h.Mind M} (c : ℕ) (m : h.Mind) (x : In M O) (new : List (Way M)) → Alone h i s es t → t.hand i ≡ here c m → t.ways ≡ new ++ s.ways → Comes i c new x →
      Alone h i s (tells i (h.turns x m).does ++ es) (turned h i c (h.turns x m) t)
  shown : {es : List (Seen O R)} {t : Scene h.Mind M} (c k b : ℕ) (new : List (Way M)) → Alone h i s es t → t.ways ≡ new ++ s.ways → Memᴰ (wants_box i c k b) new → Alone h i s es (answered (shows i c k (t.box b)) t.box t)
  filled : {es : List (Seen O R)} {t : Scene h.Mind M} (c k b e : ℕ) (bs : List ℕ) (new : List (Way M)) → Alone h i s es t → t.ways ≡ new ++ s.ways → Memᴰ (wants_fill i c k b e bs) new → T (fillable (t.box b) e bs) →
      Alone h i s es (answered (says i c k true (e + 1)) (at b (record { edition = e + 1; bytes = bs }) t.box) t)
  not_filled : {es : List (Seen O R)} {t : Scene h.Mind M} (c k b e : ℕ) (bs : List ℕ) (new : List (Way M)) → Alone h i s es t → t.ways ≡ new ++ s.ways → Memᴰ (wants_fill i c k b e bs) new → T (not (fillable (t.box b) e bs)) →
      Alone h i s es (answered (says i c k false (t.box b).edition) t.box t)

abbrev pub OneIsEnough : {M O R : Type 0} → Hand M O R → Type 0
OneIsEnough {M} {O} {R} h =
    (all n : ℕ) → 1 ≤ all → all ≤ 64 → n < 72057594037927936 → (es : List (Seen O R)) (s : Scene h.Mind M) → Goes h all n es s → (i c : ℕ) (m : h.Mind) → i < all → s.hand i ≡ here c m →
    (fs : List (Seen O R)) × (t : Scene h.Mind M) × Alone h i s fs t × ((k : ℕ) → Memᴰ (record { hand = i; number = k }) s.waits → (r : R) × Memᴰ (told i k r) fs)
