-- A hand that asks under ever greater numbers: a number, within a life, says what was asked. For any such hand.
use Rattle.std.proofs.Common.{◌≡◌, ℕ, ◌+◌, ◌<◌, ◌≤◌, true, false, eqb, List, [], ◌∷◌, ◌++◌, sym, refl, ap, ◌∙◌, subst, ⊎_elim, arith}
use mathlib.Core.List.Memᴰ
use mathlib.Core.List.{Memᴰ}
use Rattle.std.proofs.lemmas.Bool.{eq-eqb, or_left, or_right}
use Rattle.streams.specs.Hands.{In, Ask, Out, To, Show, Fill, Tell, Hand, Way, word, wants_box, wants_fill, shows, says, Stand, away, here, Seen, at, is_in, Scene, sent, Goes, first, turns, asked, shows_box, fills, doesnt_fill, goes, comes}
use Rattle.shelf.specs.Moments.{Rises, Asks}
use Rattle.shelf.proofs.Places.{all_cons, all_none, all_append, at_case, at_hands, not_here, is_false}

-- what is known of the numbers asked under: each life's is drawn, they are at most what its mind has, and tell requests apart
pub record Fresh {Mind M : Type 0} (top : Mind → ℕ) (f : ℕ → Stand Mind) (ws : List (Way M)) (drawn : List ℕ) : Type 0 where
  pub drew : (i c : ℕ) (m : Mind) → f i ≡ here c m → is_in c drawn ≡ true
  pub lives : (a : Way M) → Memᴰ a ws → (i c q : ℕ) → Asks i c q a → is_in c drawn ≡ true
  pub upto : (i c : ℕ) (m : Mind) → f i ≡ here c m → (a : Way M) → Memᴰ a ws → (q : ℕ) → Asks i c q a → q ≤ top m
  pub same : (i c q : ℕ) (a b : Way M) → Memᴰ a ws → Memᴰ b ws → Asks i c q a → Asks i c q b → a ≡ b

rises_le : {M R : Type 0} (a z : ℕ) (os : List (Out M R)) → Rises a os z → a ≤ z
rises_le a z [] h = h
rises_le a z (To j m ∷ os) h = rises_le a z os h
rises_le a z (Show q b ∷ os) h = omega (arith, h.0, rises_le q z os h.1)
rises_le a z (Fill q b e bs ∷ os) h = omega (arith, h.0, rises_le q z os h.1)
rises_le a z (Tell k r ∷ os) h = rises_le a z os h

-- what is sent asks as that life, and under numbers between
pub record Between (i c a z j d q : ℕ) : Type 0 where
  pub hand : j ≡ i
  pub life : d ≡ c
  pub above : a < q
  pub upto : q ≤ z

between_on : {i c a a' z j d q : ℕ} → a ≤ a' → Between i c a' z j d q → Between i c a z j d q
between_on l h = record { hand = h.hand; life = h.life; above = omega (arith, l, h.above); upto = h.upto }

sent_asks : {M R : Type 0} (i c a z j d q : ℕ) (os : List (Out M R)) → Rises a os z → (x : Way M) → Memᴰ x (sent i c os) → Asks j d q x → Between i c a z j d q
unfolding sent
sent_asks i c a z j d q [] h = all_none (λ x. Asks j d q x → Between i c a z j d q)
sent_asks i c a z j d q (To k m ∷ os) h = all_cons (λ x. Asks j d q x → Between i c a z j d q) (λ y. absurd y) (sent_asks i c a z j d q os h)
sent_asks i c a z j d q (Show r b ∷ os) h = all_cons (λ x. Asks j d q x → Between i c a z j d q)
    (λ y. record { hand = y.0; life = y.1; above = omega (arith, h.0, y.2); upto = omega (arith, rises_le r z os h.1, y.2) }) (λ x m y. between_on (omega (arith, h.0)) (sent_asks i c r z j d q os h.1 x m y))
sent_asks i c a z j d q (Fill r b e bs ∷ os) h = all_cons (λ x. Asks j d q x → Between i c a z j d q)
    (λ y. record { hand = y.0; life = y.1; above = omega (arith, h.0, y.2); upto = omega (arith, rises_le r z os h.1, y.2) }) (λ x m y. between_on (omega (arith, h.0)) (sent_asks i c r z j d q os h.1 x m y))
sent_asks i c a z j d q (Tell k r ∷ os) h = sent_asks i c a z j d q os h

-- at most one request under a number of a life
abbrev Single : {M : Type 0} → (i c q : ℕ) → List (Way M) → Type 0
Single {M} i c q ws = (a b : Way M) → Memᴰ a ws → Memᴰ b ws → Asks i c q a → Asks i c q b → a ≡ b

single_append : {M : Type 0} (i c q : ℕ) (new ws : List (Way M)) → Single i c q new → Single i c q ws → ((a b : Way M) → Memᴰ a new → Memᴰ b ws → Asks i c q a → Asks i c q b → ⊥) → Single i c q (new ++ ws)
single_append {M} i c q new ws n o clash a b x y = all_append (λ a. (b : Way M) → Memᴰ b (new ++ ws) → Asks i c q a → Asks i c q b → a ≡ b) new ws
    (λ a k. all_append (λ b. Asks i c q a → Asks i c q b → a ≡ b) new ws (λ b l. n a b k l) (λ b l u v. absurd (clash a b k l u v)))
    (λ a k. all_append (λ b. Asks i c q a → Asks i c q b → a ≡ b) new ws (λ b l u v. absurd (clash b a l k v u)) (λ b l. o a b k l)) a x b y

single_one : {M : Type 0} (i c q : ℕ) (w : Way M) → Single i c q (w ∷ [])
single_one {M} i c q w a b (Memᴰ.head e) (Memᴰ.head f) u v = e ∙ sym f
single_one i c q w a b (Memᴰ.head e) (Memᴰ.tail m) u v = elim m [ ]
single_one i c q w a b (Memᴰ.tail m) k u v = elim m [ ]

sent_single : {M R : Type 0} (i c a z j d q : ℕ) (os : List (Out M R)) → Rises a os z → Single j d q (sent i c os)
unfolding sent
sent_single i c a z j d q [] h = λ x y k l. elim k [ ]
sent_single i c a z j d q (To k m ∷ os) h = single_append j d q (word i k m ∷ []) (sent i c os) (single_one j d q (word i k m)) (sent_single i c a z j d q os h) (λ x y k l u v. all_cons (λ x. Asks j d q x → ⊥) (λ u. u) (all_none (λ x. Asks j d q x → ⊥)) x k u)
sent_single i c a z j d q (Show r b ∷ os) h = single_append j d q (wants_box i c r b ∷ []) (sent i c os) (single_one j d q (wants_box i c r b)) (sent_single i c r z j d q os h.1)
    (λ x y k l u v. all_cons (λ x. Asks j d q x → ⊥) (λ u. omega (arith, u.2, (sent_asks i c r z j d q os h.1 y l v).above)) (all_none (λ x. Asks j d q x → ⊥)) x k u)
sent_single i c a z j d q (Fill r b e bs ∷ os) h = single_append j d q (wants_fill i c r b e bs ∷ []) (sent i c os) (single_one j d q (wants_fill i c r b e bs)) (sent_single i c r z j d q os h.1)
    (λ x y k l u v. all_cons (λ x. Asks j d q x → ⊥) (λ u. omega (arith, u.2, (sent_asks i c r z j d q os h.1 y l v).above)) (all_none (λ x. Asks j d q x → ⊥)) x k u)
sent_single i c a z j d q (Tell k r ∷ os) h = sent_single i c a z j d q os h

module _ {Mind M : Type 0} (top : Mind → ℕ) (f : ℕ → Stand Mind) (ws : List (Way M)) (drawn : List ℕ) (k : Fresh top f ws drawn) where
  -- a turn, an answer of the shelf, a hand that goes, one that comes
  fresh_turn : {R : Type 0} (i c : ℕ) (m m' : Mind) (os : List (Out M R)) → f i ≡ here c m → Rises (top m) os (top m') → Fresh top (at i (here c m') f) (sent i c os ++ ws) drawn
  fresh_turn i c m m' os e h = record {
    drew = at_hands (λ j d n. is_in d drawn ≡ true) i c m' f (k.drew i c m e) (λ j d n ne y. k.drew j d n y);
    lives = all_append (λ a. (j d q : ℕ) → Asks j d q a → is_in d drawn ≡ true) (sent i c os) ws
        (λ a x j d q u. ap (λ z. is_in z drawn) (sent_asks i c (top m) (top m') j d q os h a x u).life ∙ k.drew i c m e) k.lives;
    upto = at_hands (λ j d n. (a : Way M) → Memᴰ a (sent i c os ++ ws) → (q : ℕ) → Asks j d q a → q ≤ top n) i c m' f
        (all_append (λ a. (q : ℕ) → Asks i c q a → q ≤ top m') (sent i c os) ws (λ a x q u. (sent_asks i c (top m) (top m') i c q os h a x u).upto)
        (λ a x q u. omega (arith, k.upto i c m e a x q u, rises_le (top m) (top m') os h)))
        (λ j d n ne y. all_append (λ a. (q : ℕ) → Asks j d q a → q ≤ top n) (sent i c os) ws (λ a x q u. absurd (ne (sent_asks i c (top m) (top m') j d q os h a x u).hand)) (k.upto j d n y));
    same = λ j d q. single_append j d q (sent i c os) ws (sent_single i c (top m) (top m') j d q os h) (k.same j d q)
        (λ a b x y u v. let s = sent_asks i c (top m) (top m') j d q os h a x u in clash j d q b y v s);
  }
    where
      clash : (j d q : ℕ) (b : Way M) → Memᴰ b ws → Asks j d q b → Between i c (top m) (top m') j d q → ⊥
      clash j d q b y v s = omega (arith, s.above, k.upto i c m e b y q (subst (λ z. Asks i z q b) s.life (subst (λ z. Asks z d q b) s.hand v)))

  fresh_more : (w : Way M) → ((i c q : ℕ) → Asks i c q w → ⊥) → Fresh top f (w ∷ ws) drawn
  fresh_more w none = record {
    drew = k.drew;
    lives = all_cons (λ a. (j d q : ℕ) → Asks j d q a → is_in d drawn ≡ true) (λ j d q u. absurd (none j d q u)) k.lives;
    upto = λ i c m e. all_cons (λ a. (q : ℕ) → Asks i c q a → q ≤ top m) (λ q u. absurd (none i c q u)) (k.upto i c m e);
    same = λ i c q. single_append i c q (w ∷ []) ws (single_one i c q w) (k.same i c q) (λ a b x y u v. all_cons (λ x. Asks i c q x → ⊥) (none i c q) (all_none (λ x. Asks i c q x → ⊥)) a x u);
  }

  fresh_gone : (i : ℕ) → Fresh top (at i away f) ws drawn
  fresh_gone i = record {
    drew = λ j d n y. k.drew j d n (still j d n y);
    lives = k.lives;
    upto = λ j d n y. k.upto j d n (still j d n y);
    same = k.same;
  }
    where
      still : (j d : ℕ) (n : Mind) → at i away f j ≡ here d n → f j ≡ here d n
      still j d n y = ⊎_elim (λ z. absurd (not_here z.1)) (λ z. z.1) (at_case i away f j (here d n) y)

  fresh_come : (i r : ℕ) (m : Mind) → is_in r drawn ≡ false → Fresh top (at i (here r m) f) ws (r ∷ drawn)
  unfolding is_in
  fresh_come i r m new = record {
    drew = at_hands (λ j d n. is_in d (r ∷ drawn) ≡ true) i r m f (or_left (eqb r r) (is_in r drawn) (eq-eqb r r refl)) (λ j d n ne y. or_right (eqb d r) (is_in d drawn) (k.drew j d n y));
    lives = λ a x j d q u. or_right (eqb d r) (is_in d drawn) (k.lives a x j d q u);
    upto = at_hands (λ j d n. (a : Way M) → Memᴰ a ws → (q : ℕ) → Asks j d q a → q ≤ top n) i r m f
        (λ a x q u. absurd (let y : is_in r drawn ≡ true = k.lives a x i r q u in let z : ◌≡◌ {A = ℕ} 0 1 = cc in omega arith)) (λ j d n ne y. k.upto j d n y);
    same = k.same;
  }

-- it holds all along, if numbers rise in each turn
pub fresh : {M O R : Type 0} (h : Hand M O R) (top : h.Mind → ℕ) → ((x : In M O) (m : h.Mind) → Rises (top m) (h.turns x m).does (top (h.turns x m).mind)) →
    {all n : ℕ} {es : List (Seen O R)} {s : Scene h.Mind M} → Goes h all n es s → Fresh top s.hand s.ways s.drawn
fresh h top up first = record { drew = λ i c m y. absurd (not_here y); lives = λ a x. absurd (Memᴰ.not-nil x); upto = λ i c m y. absurd (not_here y); same = λ i c q a b x. absurd (Memᴰ.not-nil x) }
fresh h top up (turns {s = s} i c m x lt g e k) = fresh_turn top s.hand s.ways s.drawn (fresh h top up g) i c m (h.turns x m).mind (h.turns x m).does e (up x m)
fresh h top up (asked {s = s} i c k o m lt lt' g e new) = fresh_turn top s.hand s.ways s.drawn (fresh h top up g) i c m (h.turns (Ask k o) m).mind (h.turns (Ask k o) m).does e (up (Ask k o) m)
fresh h top up (shows_box {s = s} i c k b g w) = fresh_more top s.hand s.ways s.drawn (fresh h top up g) (shows i c k (s.box b)) (λ i c q u. u)
fresh h top up (fills {s = s} i c k b e bs g w t) = fresh_more top s.hand s.ways s.drawn (fresh h top up g) (says i c k true (e + 1)) (λ i c q u. u)
fresh h top up (doesnt_fill {s = s} i c k b e bs g w t) = fresh_more top s.hand s.ways s.drawn (fresh h top up g) (says i c k false (s.box b).edition) (λ i c q u. u)
fresh h top up (goes {s = s} i c m lt g e) = fresh_gone top s.hand s.ways s.drawn (fresh h top up g) i
fresh h top up (comes {s = s} i r lt lt' new g e) = fresh_come top s.hand s.ways s.drawn (fresh h top up g) i r (h.begins i r) (is_false (is_in r s.drawn) new)
