-- What waits at a hand is in its mind, for any hand that lets go of a call only by telling it.
use Rattle.std.proofs.Common.{◌≡◌, ℕ, ◌&&◌, eqb, ◌⊎◌, List, [], ◌∷◌, sym, refl, ap, ◌∙◌, subst, inl, inr, ⊎_elim, arith}
use mathlib.Core.List.Memᴰ
use mathlib.Core.List.{Memᴰ}
use Rattle.std.proofs.lemmas.Bool.{eqb-true, eqb-false, cond_both, and_cases}
use Rattle.streams.specs.Hands.{In, Ask, Out, To, Show, Fill, Tell, Hand, Stand, away, here, Seen, at, Scene, Waits, settled, without, emptied, Goes, first, turns, asked, shows_box, fills, doesnt_fill, goes, comes}
use Rattle.shelf.proofs.Places.{all_cons}

other : {M R : Type 0} (a : Waits) (r : R) (o : Out M R) (os : List (Out M R)) → (◌≡◌ {A = Out M R} (Tell a.number r) o → ⊥) → (Memᴰ (Tell a.number r) os → ⊥) → Memᴰ (Tell a.number r) (o ∷ os) → ⊥
other a r o os f g m = ⊎_elim f g (Memᴰ.cases_cons m)

-- what still waits after something was told, or a hand has gone, waited before and was not that
pub in_without : (i k : ℕ) (ws : List Waits) (a : Waits) → Memᴰ a (without i k ws) → Memᴰ a ws × (i ≡ a.hand → k ≡ a.number → ⊥)
unfolding without
in_without i k [] a m = elim m [ ]
in_without i k (w ∷ ws) a m =
    cond_both (eqb i w.hand && eqb k w.number) (without i k ws) (w ∷ without i k ws) (λ l. Memᴰ a l → Memᴰ a (w ∷ ws) × (i ≡ a.hand → k ≡ a.number → ⊥))
    (λ t n. let r = in_without i k ws a n in (Memᴰ.tail r.0, r.1))
    (λ t n. ⊎_elim
    (λ e. (Memᴰ.head e, λ x y. ⊎_elim (λ z. eqb-false i w.hand z (x ∙ ap (λ u. u.hand) e)) (λ z. eqb-false k w.number z (y ∙ ap (λ u. u.number) e)) (and_cases (eqb i w.hand) (eqb k w.number) t)))
    (λ l. let r = in_without i k ws a l in (Memᴰ.tail r.0, r.1)) (Memᴰ.cases_cons n)) m

pub in_emptied : (i : ℕ) (ws : List Waits) (a : Waits) → Memᴰ a (emptied i ws) → Memᴰ a ws × (i ≡ a.hand → ⊥)
unfolding emptied
in_emptied i [] a m = elim m [ ]
in_emptied i (w ∷ ws) a m =
    cond_both (eqb i w.hand) (emptied i ws) (w ∷ emptied i ws) (λ l. Memᴰ a l → Memᴰ a (w ∷ ws) × (i ≡ a.hand → ⊥))
    (λ t n. let r = in_emptied i ws a n in (Memᴰ.tail r.0, r.1))
    (λ t n. ⊎_elim (λ e. (Memᴰ.head e, λ x. eqb-false i w.hand t (x ∙ ap (λ u. u.hand) e)))
    (λ l. let r = in_emptied i ws a l in (Memᴰ.tail r.0, r.1)) (Memᴰ.cases_cons n)) m

pub in_settled : {M R : Type 0} (i : ℕ) (os : List (Out M R)) (ws : List Waits) (a : Waits) → Memᴰ a (settled i os ws) → Memᴰ a ws × (i ≡ a.hand → (r : R) → Memᴰ (Tell a.number r) os → ⊥)
unfolding settled
in_settled {M} {R} i [] ws a m = (m, λ x r k. elim k [ ])
in_settled {M} {R} i (To j w ∷ os) ws a m = let r = in_settled i os ws a m in (r.0, λ x y k. other a y (To j w) os (λ e. let z : ◌≡◌ {A = ℕ} 0 1 = cc in omega arith) (r.1 x y) k)
in_settled {M} {R} i (Show q b ∷ os) ws a m = let r = in_settled i os ws a m in (r.0, λ x y k. other a y (Show q b) os (λ e. let z : ◌≡◌ {A = ℕ} 0 1 = cc in omega arith) (r.1 x y) k)
in_settled {M} {R} i (Fill q b e bs ∷ os) ws a m = let r = in_settled i os ws a m in (r.0, λ x y k. other a y (Fill q b e bs) os (λ e. let z : ◌≡◌ {A = ℕ} 0 1 = cc in omega arith) (r.1 x y) k)
in_settled {M} {R} i (Tell n y ∷ os) ws a m = let r = in_settled i os (without i n ws) a m in let w = in_without i n ws a r.0 in
    (w.0, λ x u k. other a u (Tell n y) os (λ e. w.1 x (let z : n ≡ a.number = cc in z)) (r.1 x u) k)

-- what waits at a hand is in its mind, in a sense of the hand's own
module _ {Mind : Type 0} (Has : Mind → ℕ → Type 0) where
  abbrev pub Waiting : Stand Mind → ℕ → Type 0
  Waiting away k = ⊥
  Waiting (here c m) k = Has m k

  pub waits_turned : {M R : Type 0} (i c : ℕ) (m : Mind) (os : List (Out M R)) (f : ℕ → Stand Mind) (ws : List Waits) →
      ((a : Waits) → Memᴰ a ws → i ≡ a.hand → Has m a.number ⊎ ((y : R) × Memᴰ (Tell a.number y) os)) → ((a : Waits) → Memᴰ a ws → Waiting (f a.hand) a.number ⊎ (i ≡ a.hand)) →
      (a : Waits) → Memᴰ a (settled i os ws) → Waiting (at i (here c m) f a.hand) a.number
  waits_turned i c m os f ws mine others a k = let r = in_settled i os ws a k in
      cond_both (eqb a.hand i) (here c m) (f a.hand) (λ z. Waiting z a.number)
      (λ t. let e : i ≡ a.hand = sym (eqb-true a.hand i t) in ⊎_elim (λ y. y) (λ y. absurd (r.1 e y.0 y.1)) (mine a r.0 e))
      (λ t. ⊎_elim (λ y. y) (λ y. absurd (eqb-false a.hand i t (sym y))) (others a r.0))

-- a hand lets go of a call only by telling it
pub waits_ok : {M O R : Type 0} (h : Hand M O R) (Has : h.Mind → ℕ → Type 0) →
    ((x : In M O) (m : h.Mind) (k : ℕ) → Has m k → Has (h.turns x m).mind k ⊎ ((y : R) × Memᴰ (Tell k y) (h.turns x m).does)) →
    ((o : O) (m : h.Mind) (k : ℕ) → Has (h.turns (Ask k o) m).mind k ⊎ ((y : R) × Memᴰ (Tell k y) (h.turns (Ask k o) m).does)) →
    {all n : ℕ} {es : List (Seen O R)} {s : Scene h.Mind M} → Goes h all n es s → (a : Waits) → Memᴰ a s.waits → Waiting Has (s.hand a.hand) a.number
waits_ok h Has keeps takes first = λ a k. elim k [ ]
waits_ok h Has keeps takes (turns {s = s} i c m x lt g e w) = waits_turned Has i c (h.turns x m).mind (h.turns x m).does s.hand s.waits
    (λ a k y. keeps x m a.number (subst (λ z. Waiting Has z a.number) (ap s.hand (sym y) ∙ e) (waits_ok h Has keeps takes g a k)))
    (λ a k. inl (waits_ok h Has keeps takes g a k))
waits_ok {R = R} h Has keeps takes (asked {s = s} i c k o m lt lt' g e new) = waits_turned Has i c (h.turns (Ask k o) m).mind (h.turns (Ask k o) m).does s.hand (record { hand = i; number = k } ∷ s.waits)
    (all_cons (λ a. i ≡ a.hand → Has (h.turns (Ask k o) m).mind a.number ⊎ ((y : R) × Memᴰ (Tell a.number y) (h.turns (Ask k o) m).does)) (λ _. takes o m k)
    (λ a l y. keeps (Ask k o) m a.number (subst (λ z. Waiting Has z a.number) (ap s.hand (sym y) ∙ e) (waits_ok h Has keeps takes g a l))))
    (all_cons (λ a. Waiting Has (s.hand a.hand) a.number ⊎ (i ≡ a.hand)) (inr refl) (λ a l. inl (waits_ok h Has keeps takes g a l)))
waits_ok h Has keeps takes (shows_box i c k b g w) = waits_ok h Has keeps takes g
waits_ok h Has keeps takes (fills i c k b e bs g w t) = waits_ok h Has keeps takes g
waits_ok h Has keeps takes (doesnt_fill i c k b e bs g w t) = waits_ok h Has keeps takes g
waits_ok h Has keeps takes (goes {s = s} i c m lt g e) = λ a k. let r = in_emptied i s.waits a k in
    cond_both (eqb a.hand i) away (s.hand a.hand) (λ z. Waiting Has z a.number) (λ t. r.1 (sym (eqb-true a.hand i t))) (λ t. waits_ok h Has keeps takes g a r.0)
waits_ok h Has keeps takes (comes {s = s} i r lt lt' new g e) = λ a k.
    cond_both (eqb a.hand i) (here r (h.begins i r)) (s.hand a.hand) (λ z. Waiting Has z a.number)
    (λ t. absurd (subst (λ z. Waiting Has z a.number) (ap s.hand (eqb-true a.hand i t) ∙ e) (waits_ok h Has keeps takes g a k))) (λ t. waits_ok h Has keeps takes g a k)
