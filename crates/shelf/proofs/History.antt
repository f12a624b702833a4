-- The history of every box, for any hand: what is shown was so, what is said to be done was done.
use Rattle.std.proofs.Common.{◌≡◌, ℕ, ◌+◌, ◌≤◌, true, false, cond, not, T, eqb, List, [], ◌∷◌, ◌++◌, sym, refl, ap, ◌∙◌, subst, arith}
use mathlib.Core.List.Memᴰ
use mathlib.Core.List.{Memᴰ}
use Rattle.streams.specs.Hands.{Box, Ask, Out, To, Show, Fill, Tell, Hand, Way, word, wants_box, wants_fill, shows, says, Seen, at, Scene, sent, fillable, Goes, first, turns, asked, shows_box, fills, doesnt_fill, goes, comes}
use Rattle.shelf.proofs.Places.{all_cons, all_none, all_append, at_self, at_one, fillable_edition}

-- all that a turn sends are words and requests of that life
pub all_sent : {M R : Type 0} (P : Way M → Type 0) (i c : ℕ) (os : List (Out M R)) → ((j : ℕ) (m : M) → P (word i j m)) → ((q b : ℕ) → P (wants_box i c q b)) → ((q b e : ℕ) (bs : List ℕ) → P (wants_fill i c q b e bs)) →
    (a : Way M) → Memᴰ a (sent i c os) → P a
unfolding sent
all_sent P i c [] w s f = all_none P
all_sent P i c (To j m ∷ os) w s f = all_cons P (w j m) (all_sent P i c os w s f)
all_sent P i c (Show q b ∷ os) w s f = all_cons P (s q b) (all_sent P i c os w s f)
all_sent P i c (Fill q b e bs ∷ os) w s f = all_cons P (f q b e bs) (all_sent P i c os w s f)
all_sent P i c (Tell k r ∷ os) w s f = all_sent P i c os w s f

-- what a box held, by its edition
unfoldable pub past : {M O R : Type 0} {h : Hand M O R} {all n : ℕ} {es : List (Seen O R)} {s : Scene h.Mind M} → Goes h all n es s → ℕ → ℕ → List ℕ
past first = λ b e. []
past (turns i c m x lt g e k) = past g
past (asked i c k o m lt lt' g e new) = past g
past (shows_box i c k b g w) = past g
past (fills i c k b e bs g w t) = at b (at (e + 1) bs (past g b)) (past g)
past (doesnt_fill i c k b e bs g w t) = past g
past (goes i c m lt g e) = past g
past (comes i r lt lt' new g e) = past g

pub record WasShown {M : Type 0} (p : ℕ → ℕ → List ℕ) (f : ℕ → Box) (ws : List (Way M)) (i c q : ℕ) (x : Box) : Type 0 where
  pub box : ℕ
  pub wanted : Memᴰ (wants_box i c q box) ws
  pub upto : x.edition ≤ (f box).edition
  pub was : p box x.edition ≡ x.bytes

pub record WasFilled {M : Type 0} (p : ℕ → ℕ → List ℕ) (f : ℕ → Box) (ws : List (Way M)) (i c q : ℕ) (e : ℕ) : Type 0 where
  pub box : ℕ
  pub from : ℕ
  pub bytes : List ℕ
  pub wanted : Memᴰ (wants_fill i c q box from bytes) ws
  pub next : e ≡ from + 1
  pub upto : e ≤ (f box).edition
  pub was : p box e ≡ bytes

pub record WasNot {M : Type 0} (p : ℕ → ℕ → List ℕ) (f : ℕ → Box) (ws : List (Way M)) (i c q : ℕ) (e : ℕ) : Type 0 where
  pub box : ℕ
  pub from : ℕ
  pub bytes : List ℕ
  pub wanted : Memᴰ (wants_fill i c q box from bytes) ws
  pub upto : e ≤ (f box).edition
  pub unfit : T (not (fillable (record { edition = e; bytes = p box e }) from bytes))

abbrev pub Was : {M : Type 0} → (p : ℕ → ℕ → List ℕ) (f : ℕ → Box) (ws : List (Way M)) → Way M → Type 0
Was p f ws (word j i m) = Unit {0}
Was p f ws (wants_box i c q b) = Unit {0}
Was p f ws (wants_fill i c q b e bs) = Unit {0}
Was p f ws (shows i c q x) = WasShown p f ws i c q x
Was p f ws (says i c q true e) = WasFilled p f ws i c q e
Was p f ws (says i c q false e) = WasNot p f ws i c q e

pub record Kept {M : Type 0} (p : ℕ → ℕ → List ℕ) (f : ℕ → Box) (ws : List (Way M)) : Type 0 where
  pub now : (b : ℕ) → p b (f b).edition ≡ (f b).bytes
  pub ways : (a : Way M) → Memᴰ a ws → Was p f ws a

was_on : {M : Type 0} (p p' : ℕ → ℕ → List ℕ) (f f' : ℕ → Box) (ws ws' : List (Way M)) → ((b : ℕ) → (f b).edition ≤ (f' b).edition) → ((b e : ℕ) → e ≤ (f b).edition → p' b e ≡ p b e) → ((a : Way M) → Memᴰ a ws → Memᴰ a ws') →
    (a : Way M) → Was p f ws a → Was p' f' ws' a
was_on p p' f f' ws ws' up same more (word j i m) h = tt
was_on p p' f f' ws ws' up same more (wants_box i c q b) h = tt
was_on p p' f f' ws ws' up same more (wants_fill i c q b e bs) h = tt
was_on p p' f f' ws ws' up same more (shows i c q x) h =
    record { box = h.box; wanted = more (wants_box i c q h.box) h.wanted; upto = omega (arith, up h.box, h.upto); was = same h.box x.edition h.upto ∙ h.was }
was_on p p' f f' ws ws' up same more (says i c q true e) h =
    record { box = h.box; from = h.from; bytes = h.bytes; wanted = more (wants_fill i c q h.box h.from h.bytes) h.wanted; next = h.next; upto = omega (arith, up h.box, h.upto); was = same h.box e h.upto ∙ h.was }
was_on p p' f f' ws ws' up same more (says i c q false e) h =
    record {
      box = h.box;
      from = h.from;
      bytes = h.bytes;
      wanted = more (wants_fill i c q h.box h.from h.bytes) h.wanted;
      upto = omega (arith, up h.box, h.upto);
      unfit = subst (λ z. T (not (fillable (record { edition = e; bytes = z }) h.from h.bytes))) (sym (same h.box e h.upto)) h.unfit;
    }

-- the shelf shows, or doesn't fill, or hands send
kept_more : {M : Type 0} (p : ℕ → ℕ → List ℕ) (f : ℕ → Box) (new ws : List (Way M)) → Kept p f ws → ((a : Way M) → Memᴰ a new → Was p f ws a) → Kept p f (new ++ ws)
kept_more p f new ws k w = record { now = k.now; ways = all_append (Was p f (new ++ ws)) new ws (λ a x. on a (w a x)) (λ a x. on a (k.ways a x)) }
  where
    on : (a : Way _) → Was p f ws a → Was p f (new ++ ws) a
    on = was_on p p f f ws (new ++ ws) (λ b. omega arith) (λ b e h. refl) (λ a m. Memᴰ.append_right new m)

kept_filled : {M : Type 0} (p : ℕ → ℕ → List ℕ) (f : ℕ → Box) (ws : List (Way M)) (i c q b e : ℕ) (bs : List ℕ) → Kept p f ws → Memᴰ (wants_fill i c q b e bs) ws → e ≡ (f b).edition →
    Kept (at b (at (e + 1) bs (p b)) p) (at b (record { edition = e + 1; bytes = bs }) f) (says i c q true (e + 1) ∷ ws)
kept_filled {M} p f ws i c q b e bs k m is =
    record {
      now = now;
      ways = all_cons (Was p' f' (says i c q true (e + 1) ∷ ws))
          (record { box = b; from = e; bytes = bs; wanted = Memᴰ.tail m; next = refl; upto = subst (λ z. e + 1 ≤ z.edition) (sym (at_self b (record { edition = e + 1; bytes = bs }) f)) (omega arith); was = ap (λ z. z (e + 1)) (at_self b (at (e + 1) bs (p b)) p) ∙ at_self (e + 1) bs (p b) })
          (λ a x. was_on p p' f f' ws (says i c q true (e + 1) ∷ ws) up same (λ a m. Memᴰ.tail m) a (k.ways a x));
    }
  where
    p' : ℕ → ℕ → List ℕ
    p' = at b (at (e + 1) bs (p b)) p

    f' : ℕ → Box
    f' = at b (record { edition = e + 1; bytes = bs }) f

    now : (d : ℕ) → p' d (f' d).edition ≡ (f' d).bytes
    now d = elim (eqb d b) as (λ t. cond t (at (e + 1) bs (p b)) (p d) (cond t (record { edition = e + 1; bytes = bs }) (f d)).edition ≡ (cond t (record { edition = e + 1; bytes = bs }) (f d)).bytes) [ true ↦ at_self (e + 1) bs (p b) | false ↦ k.now d ]

    up : (d : ℕ) → (f d).edition ≤ (f' d).edition
    up d = at_one (λ z. (f d).edition ≤ z.edition) b (record { edition = e + 1; bytes = bs }) f d (λ x. let y : (f d).edition ≡ e = ap (λ z. (f z).edition) x ∙ sym is in omega arith) (λ x. omega arith)

    same : (d g : ℕ) → g ≤ (f d).edition → p' d g ≡ p d g
    same d g l = at_one (λ z. z g ≡ p d g) b (at (e + 1) bs (p b)) p d
        (λ x. at_one (λ z. z ≡ p d g) (e + 1) bs (p b) g (λ y. absurd (let u : (f d).edition ≡ e = ap (λ z. (f z).edition) x ∙ sym is in omega arith)) (λ y. ap (λ z. p z g) (sym x))) (λ x. refl)

pub kept : {M O R : Type 0} {h : Hand M O R} {all n : ℕ} {es : List (Seen O R)} {s : Scene h.Mind M} → (g : Goes h all n es s) → Kept (past g) s.box s.ways
unfolding past
kept first = record { now = λ b. refl; ways = all_none (Was _ _ _) }
kept {h = h} (turns {s = s} i c m x lt g e k) = kept_more (past g) s.box (sent i c (h.turns x m).does) s.ways (kept g) (all_sent (Was (past g) s.box s.ways) i c (h.turns x m).does (λ j m. tt) (λ q b. tt) (λ q b e bs. tt))
kept {h = h} (asked {s = s} i c k o m lt lt' g e new) = kept_more (past g) s.box (sent i c (h.turns (Ask k o) m).does) s.ways (kept g) (all_sent (Was (past g) s.box s.ways) i c (h.turns (Ask k o) m).does (λ j m. tt) (λ q b. tt) (λ q b e bs. tt))
kept (shows_box {s = s} i c k b g w) = kept_more (past g) s.box (shows i c k (s.box b) ∷ []) s.ways (kept g)
    (all_cons (Was (past g) s.box s.ways) (record { box = b; wanted = w; upto = omega arith; was = (kept g).now b }) (all_none (Was (past g) s.box s.ways)))
kept (fills {s = s} i c k b e bs g w t) = kept_filled (past g) s.box s.ways i c k b e bs (kept g) w (fillable_edition (s.box b) e bs t)
kept (doesnt_fill {s = s} i c k b e bs g w t) = kept_more (past g) s.box (says i c k false (s.box b).edition ∷ []) s.ways (kept g)
    (all_cons (Was (past g) s.box s.ways)
    (record { box = b; from = e; bytes = bs; wanted = w; upto = omega arith; unfit = subst (λ z. T (not (fillable (record { edition = (s.box b).edition; bytes = z }) e bs))) (sym ((kept g).now b)) t })
    (all_none (Was (past g) s.box s.ways)))
kept (goes i c m lt g e) = kept g
kept (comes i r lt lt' new g e) = kept g
