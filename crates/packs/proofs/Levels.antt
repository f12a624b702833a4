-- Levels of segments, counted so far, and the first that is crowded.
-- Assumes nothing.
use Rattle.std.proofs.Common.{◌≡◌, ℕ, suc, ◌+◌, ◌<◌, ◌≤◌, List, ◌∷◌, length, get_or, drop, sym, refl, ap, ◌∙◌, arith}
use Rattle.std.proofs.lemmas.Bool.{eq-eqb, ne_eqb, lt-ltb, le-ltb}
use Rattle.std.proofs.lemmas.List.{drop_more, drop_all, drop-map}
use Rattle.book.specs.Queue.{Seg}
use Rattle.book.specs.Due.{at_level, below_level, calm, crowded, crowd}
use Rattle.segs.specs.Model.{seg_in, segs_of}

below_more : (v : ℕ) (s : Seg) (ss : List Seg) → s.level < v → (below_level v (s ∷ ss) ≡ suc (below_level v ss)) × (at_level v (s ∷ ss) ≡ at_level v ss)
unfolding below_level at_level
below_more v s ss h = (rw (lt-ltb s.level v h) refl, rw (ne_eqb s.level v (λ e. omega (arith, h, e))) refl)

at_more : (v : ℕ) (s : Seg) (ss : List Seg) → s.level ≡ v → (below_level v (s ∷ ss) ≡ below_level v ss) × (at_level v (s ∷ ss) ≡ suc (at_level v ss))
unfolding below_level at_level
at_more v s ss h = (rw (le-ltb s.level v (omega (arith, h))) refl, rw (eq-eqb s.level v h) refl)

none_more : (v : ℕ) (s : Seg) (ss : List Seg) → v < s.level → (below_level v (s ∷ ss) ≡ below_level v ss) × (at_level v (s ∷ ss) ≡ at_level v ss)
unfolding below_level at_level
none_more v s ss h = (rw (le-ltb s.level v (omega (arith, h))) refl, rw (ne_eqb s.level v (λ e. omega (arith, h, e))) refl)

-- the segment at a place, and those behind it
there : (slots : List (List ℕ)) (i : ℕ) (d : List ℕ) (s : Seg) → i < length slots → s ≡ seg_in (get_or slots i d) → segs_of (drop i slots) ≡ s ∷ segs_of (drop (i + 1) slots)
there slots i d s lt e = ap segs_of (drop_more slots i d lt) ∙ ap (λ (x : Seg). x ∷ segs_of (drop (i + 1) slots)) (sym e)

pub behind : (slots was : List (List ℕ)) (i : ℕ) (d : List ℕ) (s : Seg) → was ≡ slots → i < length slots → s ≡ seg_in (get_or was i d) → drop i (segs_of slots) ≡ s ∷ segs_of (drop (i + 1) slots)
behind slots was i d s is lt e = drop-map seg_in i slots ∙ there slots i d s lt (e ∙ ap (λ (ws : List (List ℕ)). seg_in (get_or ws i d)) is)

-- one segment on: below is b more, and at is a more
pub record Step (v : ℕ) (slots : List (List ℕ)) (i b a : ℕ) : Type 0 where
  pub below : below_level v (segs_of (drop i slots)) ≡ b + below_level v (segs_of (drop (i + 1) slots))
  pub at : at_level v (segs_of (drop i slots)) ≡ a + at_level v (segs_of (drop (i + 1) slots))

pub step_below : (v : ℕ) (slots : List (List ℕ)) (i : ℕ) (d : List ℕ) (s : Seg) → i < length slots → s ≡ seg_in (get_or slots i d) → s.level < v → Step v slots i 1 0
step_below v slots i d s lt e h = let m = below_more v s (segs_of (drop (i + 1) slots)) h in let t = there slots i d s lt e in record { below = ap (below_level v) t ∙ omega (arith, m.0); at = ap (at_level v) t ∙ omega (arith, m.1) }

pub step_at : (v : ℕ) (slots : List (List ℕ)) (i : ℕ) (d : List ℕ) (s : Seg) → i < length slots → s ≡ seg_in (get_or slots i d) → s.level ≡ v → Step v slots i 0 1
step_at v slots i d s lt e h = let m = at_more v s (segs_of (drop (i + 1) slots)) h in let t = there slots i d s lt e in record { below = ap (below_level v) t ∙ omega (arith, m.0); at = ap (at_level v) t ∙ omega (arith, m.1) }

pub step_none : (v : ℕ) (slots : List (List ℕ)) (i : ℕ) (d : List ℕ) (s : Seg) → i < length slots → s ≡ seg_in (get_or slots i d) → v < s.level → Step v slots i 0 0
step_none v slots i d s lt e h = let m = none_more v s (segs_of (drop (i + 1) slots)) h in let t = there slots i d s lt e in record { below = ap (below_level v) t ∙ omega (arith, m.0); at = ap (at_level v) t ∙ omega (arith, m.1) }

pub none_left : (v : ℕ) (slots : List (List ℕ)) (i : ℕ) → length slots ≤ i → (below_level v (segs_of (drop i slots)) ≡ 0) × (at_level v (segs_of (drop i slots)) ≡ 0)
unfolding below_level at_level
none_left v slots i h = (rw (drop_all i slots h) refl, rw (drop_all i slots h) refl)

-- crowds
pub crowd_none : (z : ℕ) (all : List Seg) (slots : List (List ℕ)) (i : ℕ) → length slots ≤ i → crowd z all (segs_of (drop i slots)) ≡ calm
unfolding crowd
crowd_none z all slots i h = rw (drop_all i slots h) refl

pub crowd_here : (z : ℕ) (all : List Seg) (slots : List (List ℕ)) (i : ℕ) (d : List ℕ) (s : Seg) → i < length slots → s ≡ seg_in (get_or slots i d) → z < at_level s.level all → crowd z all (segs_of (drop i slots)) ≡ crowded s.level
unfolding crowd
crowd_here z all slots i d s lt e m = ap (crowd z all) (there slots i d s lt e) ∙ rw (lt-ltb z (at_level s.level all) m) refl

pub crowd_next : (z : ℕ) (all : List Seg) (slots : List (List ℕ)) (i : ℕ) (d : List ℕ) (s : Seg) → i < length slots → s ≡ seg_in (get_or slots i d) → at_level s.level all ≤ z
    → crowd z all (segs_of (drop i slots)) ≡ crowd z all (segs_of (drop (i + 1) slots))
unfolding crowd
crowd_next z all slots i d s lt e m = ap (crowd z all) (there slots i d s lt e) ∙ rw (le-ltb z (at_level s.level all) m) refl
