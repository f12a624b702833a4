-- How many calls customers made: no more than there were steps, and none while a hand is alone. For any hand.
use Rattle.std.proofs.Common.{◌≡◌, ℕ, ◌+◌, ◌≤◌, List, [], ◌∷◌, ◌++◌, refl, ap, ◌∙◌, append_assoc, arith}
use Rattle.streams.specs.Hands.{Ask, Out, To, Show, Fill, Tell, Hand, Seen, called, Scene, tells, Goes, first, turns, asked, shows_box, fills, doesnt_fill, goes, comes, Alone, stay, turn, shown, filled, not_filled}
use Rattle.shelf.specs.Moments.{calls}

-- what is told is no call
calls_tells : {M O R : Type 0} (i : ℕ) (os : List (Out M R)) (es : List (Seen O R)) → calls (tells {O = O} i os ++ es) ≡ calls es
unfolding calls tells
calls_tells i [] es = refl
calls_tells i (To j m ∷ os) es = calls_tells i os es
calls_tells i (Show q b ∷ os) es = calls_tells i os es
calls_tells i (Fill q b e bs ∷ os) es = calls_tells i os es
calls_tells i (Tell n r ∷ os) es = calls_tells i os es

-- a turn on a call adds that one
pub calls_asked : {M O R : Type 0} (i k : ℕ) (o : O) (os : List (Out M R)) (es : List (Seen O R)) → calls (tells i os ++ called i k o ∷ es) ≡ 1 + calls es
unfolding calls
calls_asked i k o os es = calls_tells i os (called i k o ∷ es)

-- no more calls than steps
pub calls_most : {M O R : Type 0} {h : Hand M O R} {all n : ℕ} {es : List (Seen O R)} {s : Scene h.Mind M} → Goes h all n es s → calls es ≤ n
unfolding calls
calls_most first = omega arith
calls_most {h = h} (turns {es = es} i c m x lt g e k) = let r = calls_most g in let t = calls_tells i (h.turns x m).does es in omega (arith, r, t)
calls_most {h = h} (asked {es = es} i c k o m lt lt' g e new) = let r = calls_most g in let t = calls_asked i k o (h.turns (Ask k o) m).does es in omega (arith, r, t)
calls_most (shows_box i c k b g w) = let r = calls_most g in omega (arith, r)
calls_most (fills i c k b e bs g w t) = let r = calls_most g in omega (arith, r)
calls_most (doesnt_fill i c k b e bs g w t) = let r = calls_most g in omega (arith, r)
calls_most (goes i c m lt g e) = let r = calls_most g in omega (arith, r)
calls_most (comes i x lt lt' new g e) = let r = calls_most g in omega (arith, r)

-- a hand alone is asked nothing
pub calls_alone : {M O R : Type 0} {h : Hand M O R} {i : ℕ} {s t : Scene h.Mind M} {fs : List (Seen O R)} (es : List (Seen O R)) → Alone h i s fs t → calls (fs ++ es) ≡ calls es
calls_alone es stay = refl
calls_alone {h = h} {i = i} es (turn {es = fs} c m x new a e w k) = ap calls (append_assoc (tells i (h.turns x m).does) fs es) ∙ (calls_tells i (h.turns x m).does (fs ++ es) ∙ calls_alone es a)
calls_alone es (shown c k b new a w m) = calls_alone es a
calls_alone es (filled c k b e bs new a w m t) = calls_alone es a
calls_alone es (not_filled c k b e bs new a w m t) = calls_alone es a
