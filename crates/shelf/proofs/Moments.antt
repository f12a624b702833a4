-- What holds of the shelf whatever hands do: from one step to the next, and so between any two moments.
use Rattle.std.proofs.Common.{◌≡◌, ℕ, zero, suc, ◌+◌, ◌≤◌, ◌⊎◌, List, sym, refl, ap, ◌∙◌, subst, inl, inr, arith}
use mathlib.Core.List.Memᴰ
use mathlib.Core.List.{Memᴰ}
use Rattle.streams.specs.Hands.{Box, Ask, Hand, Way, word, wants_box, wants_fill, shows, says, Seen, Scene, sent, fillable, Goes, first, turns, asked, shows_box, fills, doesnt_fill, goes, comes}
use Rattle.shelf.specs.Moments.{Moment, before, back, ShownAt, FilledAt}
use Rattle.shelf.proofs.Places.{all_cons, all_none, all_append, at_one, fillable_edition, is_true, is_false}
use Rattle.shelf.proofs.History.{all_sent}

module _ {M O R : Type 0} {h : Hand M O R} {all : ℕ} where
  -- in one step a box stays, or its edition rises by one
  pub rise_one : {n : ℕ} {es : List (Seen O R)} {s : Scene h.Mind M} (g : Goes h all n es s) (b : ℕ) → (s.box b ≡ (before g).scene.box b) ⊎ ((s.box b).edition ≡ ((before g).scene.box b).edition + 1)
  unfolding before
  rise_one first b = inl refl
  rise_one (turns i c m x lt g e k) b = inl refl
  rise_one (asked i c k o m lt lt' g e new) b = inl refl
  rise_one (shows_box i c k d g w) b = inl refl
  rise_one (fills {s = s} i c k d e bs g w t) b = at_one (λ z. (z ≡ s.box b) ⊎ (z.edition ≡ (s.box b).edition + 1)) d (record { edition = e + 1; bytes = bs }) s.box b
      (λ is. inr (ap (λ z. z + 1) (fillable_edition (s.box d) e bs t ∙ ap (λ z. (s.box z).edition) (sym is)))) (λ ne. inl refl)
  rise_one (doesnt_fill i c k d e bs g w t) b = inl refl
  rise_one (goes i c m lt g e) b = inl refl
  rise_one (comes i r lt lt' new g e) b = inl refl

  -- what is under way stays under way
  grow_one : {n : ℕ} {es : List (Seen O R)} {s : Scene h.Mind M} (g : Goes h all n es s) (x : Way M) → Memᴰ x (before g).scene.ways → Memᴰ x s.ways
  unfolding before
  grow_one first x m = m
  grow_one (turns i c m x lt g e k) y l = Memᴰ.append_right (sent i c (h.turns x m).does) l
  grow_one (asked i c k o m lt lt' g e new) y l = Memᴰ.append_right (sent i c (h.turns (Ask k o) m).does) l
  grow_one (shows_box i c k d g w) y l = Memᴰ.tail l
  grow_one (fills i c k d e bs g w t) y l = Memᴰ.tail l
  grow_one (doesnt_fill i c k d e bs g w t) y l = Memᴰ.tail l
  grow_one (goes i c m lt g e) y l = l
  grow_one (comes i r lt lt' new g e) y l = l

  -- so between any two moments: one content for each edition
  pub one_content : (a : Moment h all) (k b : ℕ) → (((back k a).scene.box b).edition ≤ (a.scene.box b).edition) × (((back k a).scene.box b).edition ≡ (a.scene.box b).edition → (back k a).scene.box b ≡ a.scene.box b)
  unfolding back
  one_content a zero b = (omega arith, λ _. refl)
  one_content a (suc k) b = go ((back k (before a.goes)).scene.box b) ((before a.goes).scene.box b) (a.scene.box b) (one_content (before a.goes) k b) (rise_one a.goes b)
    where
      go : (old mid new : Box) → (old.edition ≤ mid.edition) × (old.edition ≡ mid.edition → old ≡ mid) → (new ≡ mid) ⊎ (new.edition ≡ mid.edition + 1) → (old.edition ≤ new.edition) × (old.edition ≡ new.edition → old ≡ new)
      go old mid new p (inl e) = subst (λ z. (old.edition ≤ z.edition) × (old.edition ≡ z.edition → old ≡ z)) (sym e) p
      go old mid new p (inr e) = let q = p.0 in (omega (arith, q, e), λ u. absurd (omega (arith, q, e, u)))

  pub ways_grow : (a : Moment h all) (k : ℕ) (x : Way M) → Memᴰ x (back k a).scene.ways → Memᴰ x a.scene.ways
  unfolding back
  ways_grow a zero x m = m
  ways_grow a (suc k) x m = grow_one a.goes x (ways_grow (before a.goes) k x m)

  -- an answer that is under way belongs to a request
  abbrev Belongs : Moment h all → Way M → Type 0
  Belongs a (word j i m) = Unit {0}
  Belongs a (wants_box i c q b) = Unit {0}
  Belongs a (wants_fill i c q b e bs) = Unit {0}
  Belongs a (shows i c q x) = ShownAt a i c q x
  Belongs a (says i c q d e) = FilledAt a i c q d e

  -- a step later it still does
  older : (a : Moment h all) (x : Way M) → Belongs (before a.goes) x → Belongs a x
  unfolding back
  older a (word j i m) p = tt
  older a (wants_box i c q b) p = tt
  older a (wants_fill i c q b e bs) p = tt
  older a (shows i c q x) p = record { ago = suc p.ago; box = p.box; wanted = p.wanted; was = p.was }
  older a (says i c q d e) p = record { ago = suc p.ago; box = p.box; from = p.from; bytes = p.bytes; wanted = p.wanted; could = p.could; edition = p.edition }

  pub belongs : {n : ℕ} {es : List (Seen O R)} {s : Scene h.Mind M} (g : Goes h all n es s) (x : Way M) → Memᴰ x s.ways → Belongs (record { steps = n; seen = es; scene = s; goes = g }) x
  unfolding before back
  belongs first = all_none (Belongs _)
  belongs (turns {s = s} i c m x lt g e k) = all_append (Belongs _) (sent i c (h.turns x m).does) s.ways (all_sent (Belongs _) i c (h.turns x m).does (λ j w. tt) (λ q b. tt) (λ q b d bs. tt)) (λ y l. older _ y (belongs g y l))
  belongs (asked {s = s} i c k o m lt lt' g e new) = all_append (Belongs _) (sent i c (h.turns (Ask k o) m).does) s.ways (all_sent (Belongs _) i c (h.turns (Ask k o) m).does (λ j w. tt) (λ q b. tt) (λ q b d bs. tt)) (λ y l. older _ y (belongs g y l))
  belongs (shows_box i c k b g w) = all_cons (Belongs _) (record { ago = 1; box = b; wanted = w; was = refl }) (λ y l. older _ y (belongs g y l))
  belongs (fills {s = s} i c k b e bs g w t) = all_cons (Belongs _) (record { ago = 1; box = b; from = e; bytes = bs; wanted = w; could = is_true (fillable (s.box b) e bs) t; edition = inl (refl, refl) }) (λ y l. older _ y (belongs g y l))
  belongs (doesnt_fill {s = s} i c k b e bs g w t) = all_cons (Belongs _) (record { ago = 1; box = b; from = e; bytes = bs; wanted = w; could = is_false (fillable (s.box b) e bs) t; edition = inr (refl, refl) }) (λ y l. older _ y (belongs g y l))
  belongs (goes i c m lt g e) = λ y l. older _ y (belongs g y l)
  belongs (comes i r lt lt' new g e) = λ y l. older _ y (belongs g y l)
