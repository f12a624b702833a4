-- What has come to be, looked back on, step by step; and what holds of it whatever hands do.
-- A statement about all hands whatever their minds would be of Type 1, and could stand on no contract: minds here are lists of
-- numbers, as any mind can be written down.
-- Assumes nothing.
use Rattle.std.specs.Prelude.{◌≡◌, ℕ, zero, suc, ◌+◌, ◌<◌, ◌≤◌, Bool, true, false, ◌⊎◌, List, [], ◌∷◌, ◌++◌}
use mathlib.Core.List.{Memᴰ}
use Rattle.streams.specs.Meaning.{Plan}
use Rattle.streams.specs.Calls.{Call, Reply, State}
use Rattle.streams.specs.Hands.{Box, In, Ask, Out, To, Show, Fill, Tell, Hand, Way, word, wants_box, wants_fill, shows, says, away, here, Seen, called, told, Scene, Waits, fillable, Goes, first, turns, asked, shows_box, fills, doesnt_fill, goes, comes, Alone, Keeper, Open, Ready, Book}
use Rattle.streams.specs.Promise.{streams}

-- A MOMENT: what has come to be after some steps
pub record Moment {M O R : Type 0} (h : Hand M O R) (all : ℕ) : Type 0 where
  pub steps : ℕ
  pub seen : List (Seen O R)
  pub scene : Scene h.Mind M
  pub goes : Goes h all steps seen scene

-- one step before; before the first there is nothing
unfoldable pub before : {M O R : Type 0} {h : Hand M O R} {all n : ℕ} {es : List (Seen O R)} {s : Scene h.Mind M} → Goes h all n es s → Moment h all
before first = record { steps = 0; seen = []; scene = record { hand = λ i. away; box = λ b. record { edition = 0; bytes = [] }; ways = []; waits = []; drawn = [] }; goes = first }
before (turns {n = n} {es = es} {s = s} i c m x lt g e k) = record { steps = n; seen = es; scene = s; goes = g }
before (asked {n = n} {es = es} {s = s} i c k o m lt lt' g e new) = record { steps = n; seen = es; scene = s; goes = g }
before (shows_box {n = n} {es = es} {s = s} i c k b g w) = record { steps = n; seen = es; scene = s; goes = g }
before (fills {n = n} {es = es} {s = s} i c k b e bs g w t) = record { steps = n; seen = es; scene = s; goes = g }
before (doesnt_fill {n = n} {es = es} {s = s} i c k b e bs g w t) = record { steps = n; seen = es; scene = s; goes = g }
before (goes {n = n} {es = es} {s = s} i c m lt g e) = record { steps = n; seen = es; scene = s; goes = g }
before (comes {n = n} {es = es} {s = s} i r lt lt' new g e) = record { steps = n; seen = es; scene = s; goes = g }

-- so many steps before
unfoldable pub back : {M O R : Type 0} {h : Hand M O R} {all : ℕ} → ℕ → Moment h all → Moment h all
back zero a = a
back (suc k) a = back k (before a.goes)

-- how many calls customers made
unfoldable pub calls : {O R : Type 0} → List (Seen O R) → ℕ
calls [] = 0
calls (called i k o ∷ es) = 1 + calls es
calls (told i k r ∷ es) = calls es

-- ANY HAND whose mind is a list of numbers
pub record Turn : Type 0 where
  pub does : List (Out ℕ Reply)
  pub mind : List ℕ

pub record Manner : Type 0 where
  pub begins : (me chance : ℕ) → List ℕ
  pub turns : In ℕ Call → List ℕ → Turn

abbrev pub hand : Manner → Hand ℕ Call Reply
hand w = record { Mind = List ℕ; begins = w.begins; turns = λ x m. record { does = (w.turns x m).does; mind = (w.turns x m).mind } }

-- In one step a box stays as it is, or its edition rises by one.
abbrev pub EditionsRise : Type 0
EditionsRise = (w : Manner) (all : ℕ) (a : Moment (hand w) all) (b : ℕ) → let old : Box = (before a.goes).scene.box b in let new : Box = a.scene.box b in (new ≡ old) ⊎ (new.edition ≡ old.edition + 1)

-- A box has one content for each edition, and its editions never fall.
abbrev pub OneContent : Type 0
OneContent = (w : Manner) (all : ℕ) (a : Moment (hand w) all) (k b : ℕ) → let old : Box = (back k a).scene.box b in let new : Box = a.scene.box b in (old.edition ≤ new.edition) × (old.edition ≡ new.edition → old ≡ new)

-- Whatever is under way stays under way: it may come again at any time.
abbrev pub WaysGrow : Type 0
WaysGrow = (w : Manner) (all : ℕ) (a : Moment (hand w) all) (k : ℕ) (x : Way ℕ) → Memᴰ x (back k a).scene.ways → Memᴰ x a.scene.ways

-- What is shown under a number is the box that was asked for under it, as it was at a moment at which that request was under way;
-- what is said of a filling is whether it could be done at such a moment, and the edition that the box then had or got.
pub record ShownAt {M O R : Type 0} {h : Hand M O R} {all : ℕ} (a : Moment h all) (i c q : ℕ) (x : Box) : Type 0 where
  pub ago : ℕ
  pub box : ℕ
  pub wanted : Memᴰ (wants_box i c q box) (back ago a).scene.ways
  pub was : (back ago a).scene.box box ≡ x

pub record FilledAt {M O R : Type 0} {h : Hand M O R} {all : ℕ} (a : Moment h all) (i c q : ℕ) (done : Bool) (e : ℕ) : Type 0 where
  pub ago : ℕ
  pub box : ℕ
  pub from : ℕ
  pub bytes : List ℕ
  pub wanted : Memᴰ (wants_fill i c q box from bytes) (back ago a).scene.ways
  pub could : fillable ((back ago a).scene.box box) from bytes ≡ done
  pub edition : ((done ≡ true) × (e ≡ from + 1)) ⊎ ((done ≡ false) × (e ≡ ((back ago a).scene.box box).edition))

abbrev pub AnswersBelong : Type 0
AnswersBelong = (w : Manner) (all : ℕ) (a : Moment (hand w) all) (i c q : ℕ) →
    ((x : Box) → Memᴰ (shows i c q x) a.scene.ways → ShownAt a i c q x) × ((done : Bool) (e : ℕ) → Memᴰ (says i c q done e) a.scene.ways → FilledAt a i c q done e)

-- NUMBERS. The requests of a turn are made under numbers that go up from one number to another.
abbrev pub Rises : {M R : Type 0} → ℕ → List (Out M R) → ℕ → Type 0
Rises a [] z = a ≤ z
Rises a (To j m ∷ os) z = Rises a os z
Rises a (Show q b ∷ os) z = (a < q) × Rises q os z
Rises a (Fill q b e bs ∷ os) z = (a < q) × Rises q os z
Rises a (Tell k r ∷ os) z = Rises a os z

-- a way asks the shelf, by a hand's life under a number
abbrev pub Asks : {M : Type 0} → (i c q : ℕ) → Way M → Type 0
Asks i c q (word j k m) = ⊥
Asks i c q (wants_box j d r b) = (i ≡ j) × (c ≡ d) × (q ≡ r)
Asks i c q (wants_fill j d r b e bs) = (i ≡ j) × (c ≡ d) × (q ≡ r)
Asks i c q (shows j d r x) = ⊥
Asks i c q (says j d r x e) = ⊥

-- A hand whose numbers rise in each turn, from a number in its mind, made one request under each number of a life.
abbrev pub OneRequest : Type 0
OneRequest = (w : Manner) (top : List ℕ → ℕ) → ((x : In ℕ Call) (m : List ℕ) → Rises (top m) (w.turns x m).does (top (w.turns x m).mind)) →
    (all : ℕ) (a : Moment (hand w) all) (i c q : ℕ) (x y : Way ℕ) → Memᴰ x a.scene.ways → Memᴰ y a.scene.ways → Asks i c q x → Asks i c q y → x ≡ y

-- WHAT WAITS at a hand is in its mind, if the hand takes every call to mind or tells it, and lets go of none untold.
abbrev pub WaitsInMind : Type 0
WaitsInMind = (w : Manner) (has : List ℕ → ℕ → Bool) →
    ((x : In ℕ Call) (m : List ℕ) (k : ℕ) → has m k ≡ true → (has (w.turns x m).mind k ≡ true) ⊎ ((r : Reply) × Memᴰ (Tell k r) (w.turns x m).does)) →
    ((o : Call) (m : List ℕ) (k : ℕ) → (has (w.turns (Ask k o) m).mind k ≡ true) ⊎ ((r : Reply) × Memᴰ (Tell k r) (w.turns (Ask k o) m).does)) →
    (all : ℕ) (a : Moment (hand w) all) (x : Waits) → Memᴰ x a.scene.waits → (c : ℕ) × (m : List ℕ) × (a.scene.hand x.hand ≡ here c m) × (has m x.number ≡ true)

-- ALONE. What a hand and the shelf do alone can happen.
abbrev pub AloneHappens : Type 0
AloneHappens = (w : Manner) (all : ℕ) (a : Moment (hand w) all) (i : ℕ) → i < all → (fs : List (Seen Call Reply)) (t : Scene (List ℕ) ℕ) → Alone (hand w) i a.scene fs t → (n : ℕ) × Goes (hand w) all n (fs ++ a.seen) t

-- LATE LOOKS. A book in which a call that leaves the state as it is may be answered late, by what held at some moment since it
-- came in: an open call remembers the replies that could have been given to it.
pub record Pending (O R : Type 0) : Type 0 where
  pub open' : Open O
  pub could : List R

abbrev pub reply_to : {O R : Type 0} → Open O → R → Ready R
reply_to a r = record { hand = a.hand; number = a.number; reply = r }

pub data LateBook {O R : Type 0} (p : Keeper O R) : List (Seen O R) → p.State → List (Pending O R) → List (Ready R) → Type 0 where
  empty : LateBook p [] p.start [] []
  comes_in : {es : List (Seen O R)} {s : p.State} {as' : List (Pending O R)} {rs : List (Ready R)} (a : Open O) → LateBook p es s as' rs → LateBook p (called a.hand a.number a.call ∷ es) s (record { open' = a; could = [] } ∷ as') rs
  looks : {es : List (Seen O R)} {s : p.State} {rs : List (Ready R)} (xs ys : List (Pending O R)) (a : Pending O R) (r : R) → LateBook p es s (xs ++ a ∷ ys) rs → p.May a.open'.call s r s →
      LateBook p es s (record { open' = a.open'; could = r ∷ a.could } ∷ xs ++ ys) rs
  is_late : {es : List (Seen O R)} {s : p.State} {rs : List (Ready R)} (xs ys : List (Pending O R)) (a : Pending O R) (r : R) → LateBook p es s (xs ++ a ∷ ys) rs → Memᴰ r a.could → LateBook p es s (xs ++ ys) (reply_to a.open' r ∷ rs)
  is_done : {es : List (Seen O R)} {s t : p.State} {rs : List (Ready R)} (xs ys : List (Pending O R)) (a : Pending O R) (r : R) → LateBook p es s (xs ++ a ∷ ys) rs → p.May a.open'.call s r t → LateBook p es t (xs ++ ys) (reply_to a.open' r ∷ rs)
  goes_out : {es : List (Seen O R)} {s : p.State} {as' : List (Pending O R)} (xs ys : List (Ready R)) (a : Ready R) → LateBook p es s as' (xs ++ a ∷ ys) → LateBook p (told a.hand a.number a.reply ∷ es) s as' (xs ++ ys)
  handed_back : {es : List (Seen O R)} {s : p.State} {rs : List (Ready R)} (xs ys : List (Pending O R)) (a : Pending O R) → LateBook p es s (xs ++ a ∷ ys) rs → LateBook p (told a.open'.hand a.open'.number p.busy ∷ es) s (xs ++ ys) rs

-- Whatever such a book tells, a book-keeper who answers each call at one moment would tell, and comes to the same state.
abbrev pub LateLooks : Type 0
LateLooks = (p : Plan) (logs : ℕ) (can : Call → Bool) (es : List (Seen Call Reply)) (s : State) (as' : List (Pending Call Reply)) (rs : List (Ready Reply)) →
    LateBook (streams p logs can) es s as' rs → (os : List (Open Call)) × (xs : List (Ready Reply)) × Book (streams p logs can) es s os xs
