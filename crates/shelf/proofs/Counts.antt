-- What a hand has in mind waits at it, and how much that is. For any hand.
use Rattle.std.proofs.Common.{◌≡◌, ℕ, ◌+◌, ◌<◌, ◌≤◌, true, cond, ◌&&◌, ◌||◌, T, eqb, ◌⊎◌, List, [], ◌∷◌, ◌++◌, length, sym, refl, ap, ◌∙◌, subst, ⊎_elim, arith, T_not}
use mathlib.Core.List.{Memᴰ}
use Rattle.std.proofs.lemmas.Bool.{eqb-true, eq-eqb, cond-true, cond-false, cond_both, and_parts, or_left, or_right}
use Rattle.streams.specs.Hands.{In, Ask, Out, To, Show, Fill, Tell, Hand, Way, away, here, Seen, Scene, Waits, settled, without, emptied, count_at, is_used, called, tells, Comes, a_word, a_box, a_filling, a_beat, Goes, first, turns, asked, shows_box, fills, doesnt_fill, goes, comes}
use Rattle.shelf.proofs.Places.{at_case, at_hands, not_here}
use Rattle.shelf.proofs.Latelooks.{Less, taken, later, less_of, less_rest}

-- what is not told still waits
pub stay_without : (i k : ℕ) (ws : List Waits) (a : Waits) → Memᴰ a ws → (i ≡ a.hand → k ≡ a.number → ⊥) → Memᴰ a (without i k ws)
unfolding without
stay_without i k [] a m n = elim m [ ]
stay_without i k (w ∷ ws) a (Memᴰ.head e) n = cond_both (eqb i w.hand && eqb k w.number) (without i k ws) (w ∷ without i k ws) (Memᴰ a)
    (λ t. let p = and_parts (eqb i w.hand) (eqb k w.number) t in absurd (n (eqb-true i w.hand p.0 ∙ ap (λ z. z.hand) (sym e)) (eqb-true k w.number p.1 ∙ ap (λ z. z.number) (sym e)))) (λ _. Memᴰ.head e)
stay_without i k (w ∷ ws) a (Memᴰ.tail m) n = cond_both (eqb i w.hand && eqb k w.number) (without i k ws) (w ∷ without i k ws) (Memᴰ a) (λ _. stay_without i k ws a m n) (λ _. Memᴰ.tail (stay_without i k ws a m n))

stay_emptied : (i : ℕ) (ws : List Waits) (a : Waits) → Memᴰ a ws → (i ≡ a.hand → ⊥) → Memᴰ a (emptied i ws)
unfolding emptied
stay_emptied i [] a m n = elim m [ ]
stay_emptied i (w ∷ ws) a (Memᴰ.head e) n = cond_both (eqb i w.hand) (emptied i ws) (w ∷ emptied i ws) (Memᴰ a) (λ t. absurd (n (eqb-true i w.hand t ∙ ap (λ z. z.hand) (sym e)))) (λ _. Memᴰ.head e)
stay_emptied i (w ∷ ws) a (Memᴰ.tail m) n = cond_both (eqb i w.hand) (emptied i ws) (w ∷ emptied i ws) (Memᴰ a) (λ _. stay_emptied i ws a m n) (λ _. Memᴰ.tail (stay_emptied i ws a m n))

stay_settled : {M R : Type 0} (i : ℕ) (os : List (Out M R)) (ws : List Waits) (a : Waits) → Memᴰ a ws → (i ≡ a.hand → (r : R) → Memᴰ (Tell a.number r) os → ⊥) → Memᴰ a (settled i os ws)
unfolding settled
stay_settled i [] ws a m n = m
stay_settled i (To j w ∷ os) ws a m n = stay_settled i os ws a m (λ e r k. n e r (Memᴰ.tail k))
stay_settled i (Show q b ∷ os) ws a m n = stay_settled i os ws a m (λ e r k. n e r (Memᴰ.tail k))
stay_settled i (Fill q b e bs ∷ os) ws a m n = stay_settled i os ws a m (λ e r k. n e r (Memᴰ.tail k))
stay_settled i (Tell k y ∷ os) ws a m n = stay_settled i os (without i k ws) a (stay_without i k ws a m (λ e f. n e y (Memᴰ.head (ap (λ z. Tell z y) (sym f))))) (λ e r x. n e r (Memᴰ.tail x))

-- a hand takes on only what is asked of it, and lets go of what it tells, where no number is asked that it has in mind
abbrev pub WaitingOk : {O R : Type 0} → (i : ℕ) → List Waits → List (Seen O R) → ℕ → Type 0
WaitingOk i ws es k = Memᴰ (record { hand = i; number = k }) ws × (is_used k es ≡ true)

used_tells : {O R M : Type 0} (k i : ℕ) (os : List (Out M R)) (es : List (Seen O R)) → is_used k (tells {O = O} i os ++ es) ≡ is_used k es
unfolding is_used tells
used_tells k i [] es = refl
used_tells k i (To j m ∷ os) es = used_tells k i os es
used_tells k i (Show q b ∷ os) es = used_tells k i os es
used_tells k i (Fill q b e bs ∷ os) es = used_tells k i os es
used_tells k i (Tell n r ∷ os) es = used_tells k i os es

used_called : {O R : Type 0} (k i n : ℕ) (o : O) (es : List (Seen O R)) → is_used k (called i n o ∷ es) ≡ eqb k n || is_used k es
unfolding is_used
used_called k i n o es = refl

not_ask : {M O : Type 0} {i c : ℕ} {ws : List (Way M)} {x : In M O} → Comes i c ws x → (n : ℕ) (o : O) → x ≡ Ask n o → ⊥
not_ask (a_word j m k) n o e = let z : ◌≡◌ {A = ℕ} 0 1 = cc in omega arith
not_ask (a_box q b k) n o e = let z : ◌≡◌ {A = ℕ} 0 1 = cc in omega arith
not_ask (a_filling q f d k) n o e = let z : ◌≡◌ {A = ℕ} 0 1 = cc in omega arith
not_ask a_beat n o e = let z : ◌≡◌ {A = ℕ} 0 1 = cc in omega arith

same_ask : {M O : Type 0} (k n : ℕ) (o p : O) → ◌≡◌ {A = In M O} (Ask k o) (Ask n p) → n ≡ k
same_ask k n o p e = cc

module _ {M O R : Type 0} (h : Hand M O R) (Has : h.Mind → ℕ → Type 0) (Ok : h.Mind → Type 0)
    (ok : (all n : ℕ) (es : List (Seen O R)) (s : Scene h.Mind M) → all ≤ 64 → n < 72057594037927936 → Goes h all n es s → (i c : ℕ) (m : h.Mind) → s.hand i ≡ here c m → Ok m) (b : (me chance k : ℕ) → Has (h.begins me chance) k → ⊥)
    (f : (x : In M O) (m : h.Mind) (k : ℕ) → Ok m → ((n : ℕ) (o : O) → x ≡ Ask n o → Has m n → ⊥) → Has (h.turns x m).mind k → (Has m k ⊎ ((o : O) × (x ≡ Ask k o))) × ((r : R) → Memᴰ (Tell k r) (h.turns x m).does → ⊥)) where
  pub minds_wait : {all n : ℕ} {es : List (Seen O R)} {s : Scene h.Mind M} → all ≤ 64 → n < 72057594037927936 → Goes h all n es s → (i c : ℕ) (m : h.Mind) → s.hand i ≡ here c m → (k : ℕ) → Has m k → WaitingOk i s.waits es k
  minds_wait al sm first = λ i c m e. absurd (not_here e)
  minds_wait al sm (turns {es = es} {s = s} i c m x lt g e w) = at_hands (λ j d n. (k : ℕ) → Has n k → WaitingOk j (settled i (h.turns x m).does s.waits) (tells i (h.turns x m).does ++ es) k) i c (h.turns x m).mind s.hand
      (λ k y. let p = f x m k (ok _ _ _ _ al (omega arith) g i c m e) (λ n o z. absurd (not_ask w n o z)) y in ⊎_elim
      (λ z. let q = minds_wait al (omega arith) g i c m e k z in (stay_settled i (h.turns x m).does s.waits (record { hand = i; number = k }) q.0 (λ _. p.1), used_tells k i (h.turns x m).does es ∙ q.1)) (λ z. absurd (not_ask w k z.0 z.1)) p.0)
      (λ j d n ne y k z. let q = minds_wait al (omega arith) g j d n y k z in (stay_settled i (h.turns x m).does s.waits (record { hand = j; number = k }) q.0 (λ u. absurd (ne (sym u))), used_tells k i (h.turns x m).does es ∙ q.1))
  minds_wait al sm (asked {es = es} {s = s} i c l o m lt lt' g e new) =
      at_hands (λ j d n. (k : ℕ) → Has n k → WaitingOk j (settled i (h.turns (Ask l o) m).does (record { hand = i; number = l } ∷ s.waits)) (tells i (h.turns (Ask l o) m).does ++ called i l o ∷ es) k) i c (h.turns (Ask l o) m).mind s.hand
      (λ k y. let p = f (Ask l o) m k (ok _ _ _ _ al (omega arith) g i c m e) (λ n q z w. fresh_number (minds_wait al (omega arith) g i c m e n w).1 (same_ask l n o q z)) y in ⊎_elim
      (λ z. let q = minds_wait al (omega arith) g i c m e k z in (stay_settled i (h.turns (Ask l o) m).does (record { hand = i; number = l } ∷ s.waits) (record { hand = i; number = k }) (Memᴰ.tail q.0) (λ _. p.1), is_used_still k (or_right (eqb k l) (is_used k es) q.1)))
      (λ z. (
        stay_settled i (h.turns (Ask l o) m).does (record { hand = i; number = l } ∷ s.waits) (record { hand = i; number = k }) (Memᴰ.head (ap (λ u. record { hand = i; number = u }) (same_ask l k o z.0 z.1))) (λ _. p.1),
        is_used_still k (or_left (eqb k l) (is_used k es) (eq-eqb k l (same_ask l k o z.0 z.1))),
      )) p.0)
      (λ j d n ne y k z. let q = minds_wait al (omega arith) g j d n y k z in
      (stay_settled i (h.turns (Ask l o) m).does (record { hand = i; number = l } ∷ s.waits) (record { hand = j; number = k }) (Memᴰ.tail q.0) (λ u. absurd (ne (sym u))), is_used_still k (or_right (eqb k l) (is_used k es) q.1)))
    where
      is_used_still : (k : ℕ) → (eqb k l || is_used k es) ≡ true → is_used k (tells i (h.turns (Ask l o) m).does ++ called i l o ∷ es) ≡ true
      is_used_still k t = used_tells k i (h.turns (Ask l o) m).does (called i l o ∷ es) ∙ (used_called k i l o es ∙ t)

      fresh_number : {n : ℕ} → is_used n es ≡ true → n ≡ l → ⊥
      fresh_number {n} u z = T_not (is_used l es) new (subst T (sym (ap (λ v. is_used v es) (sym z) ∙ u)) tt)
  minds_wait al sm (shows_box i c k d g w) = minds_wait al (omega arith) g
  minds_wait al sm (fills i c k d e bs g w t) = minds_wait al (omega arith) g
  minds_wait al sm (doesnt_fill i c k d e bs g w t) = minds_wait al (omega arith) g
  minds_wait al sm (goes {s = s} i c m lt g e) = λ j d n y k x. ⊎_elim (λ z. absurd (not_here z.1))
      (λ z. let q = minds_wait al (omega arith) g j d n z.1 k x in (stay_emptied i s.waits (record { hand = j; number = k }) q.0 (λ u. z.0 (sym u)), q.1)) (at_case i away s.hand j (here d n) y)
  minds_wait al sm (comes {es = es} {s = s} i r lt lt' new g e) = at_hands (λ j d n. (k : ℕ) → Has n k → WaitingOk j s.waits es k) i r (h.begins i r) s.hand
      (λ k x. absurd (b i r k x)) (λ j d n ne y. minds_wait al (omega arith) g j d n y)

-- how many
abbrev pub Differ : List ℕ → Type 0
Differ [] = Unit {0}
Differ (k ∷ ks) = ((n : ℕ) → Memᴰ n ks → k ≡ n → ⊥) × Differ ks

count_less : (i k : ℕ) (ws vs : List Waits) → Less (record { hand = i; number = k }) ws vs → count_at i ws ≡ 1 + count_at i vs
unfolding count_at
count_less i k ws vs (taken {x = x} e) = cond-true (eqb i x.hand) (1 + count_at i vs) (count_at i vs) (eq-eqb i x.hand (ap (λ z. z.hand) e))
count_less i k ws vs (later {x = x} {l = l} {m = m} h) = let r = count_less i k l m h in
    cond_both (eqb i x.hand) (1 + count_at i l) (count_at i l) (λ z. z ≡ 1 + cond (eqb i x.hand) (1 + count_at i m) (count_at i m))
    (λ t. ap (λ z. 1 + z) r ∙ ap (λ z. 1 + z) (sym (cond-true (eqb i x.hand) (1 + count_at i m) (count_at i m) t))) (λ t. r ∙ ap (λ z. 1 + z) (sym (cond-false (eqb i x.hand) (1 + count_at i m) (count_at i m) t)))

-- as many as differ
pub count_many_at : (i : ℕ) (ks : List ℕ) (ws : List Waits) → Differ ks → ((k : ℕ) → Memᴰ k ks → Memᴰ (record { hand = i; number = k }) ws) → length ks ≤ count_at i ws
count_many_at i [] ws d f = omega arith
count_many_at i (k ∷ ks) ws d f = let l = less_of (f k (Memᴰ.head refl)) in
    let r = count_many_at i ks l.0 d.1 (λ n m. ⊎_elim (λ e. absurd (d.0 n m (sym (ap (λ z. z.number) e)))) (λ y. y) (less_rest l.1 (f n (Memᴰ.tail m)))) in
    let e = count_less i k ws l.0 l.1 in omega arith
