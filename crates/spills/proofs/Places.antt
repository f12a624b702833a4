-- Segments by their places: one put in place of another, two in place of one, and the i-th one spilled.
-- Assumes nothing.
use Rattle.std.proofs.Common.{◌≡◌, ℕ, zero, suc, ◌+◌, ◌<◌, List, [], ◌∷◌, ◌++◌, length, get_or, take, drop, set, sym, refl, ap, ◌∙◌, add-one, arith}
use Rattle.std.proofs.lemmas.List.{length-map, map-set, map-append, take-map, drop-map, set_split, take-set, drop-set}
use Rattle.streams.specs.Meaning.{Sum}
use Rattle.book.specs.Rows.{Row}
use Rattle.book.specs.Queue.{Seg, Page, spill_by, spill_at}
use Rattle.segs.specs.Model.{seg_in, segs_of}

-- a segment's words set
pub set_one : (slots : List (List ℕ)) (i : ℕ) (w : List ℕ) (s : Seg) → i < length slots → seg_in w ≡ s → segs_of (set slots i w) ≡ take i (segs_of slots) ++ ((s ∷ []) ++ drop (suc i) (segs_of slots))
set_one slots i w s lt e =
    map-set seg_in slots i w ∙ ap (set (segs_of slots) i) e ∙ set_split (segs_of slots) i s (omega (arith, length-map slots seg_in))

-- set, and others put before
pub set_two : (slots : List (List ℕ)) (i : ℕ) (v w : List ℕ) (r s : Seg) → i < length slots → seg_in v ≡ r → seg_in w ≡ s
    → segs_of (take i (set slots i w) ++ ((v ∷ []) ++ drop i (set slots i w))) ≡ take i (segs_of slots) ++ ((r ∷ s ∷ []) ++ drop (suc i) (segs_of slots))
set_two slots i v w r s lt e f =
    let ss = segs_of slots in
    let all : segs_of (set slots i w) ≡ set ss i s = map-set seg_in slots i w ∙ ap (set ss i) f in
    map-append seg_in (take i (set slots i w)) (v ∷ drop i (set slots i w))
    ∙ ap (λ (xs : List Seg). xs ++ (seg_in v ∷ segs_of (drop i (set slots i w)))) (sym (take-map seg_in i (set slots i w)) ∙ ap (take i) all ∙ take-set ss i s)
    ∙ ap (λ (xs : List Seg). take i ss ++ (seg_in v ∷ xs)) (sym (drop-map seg_in i (set slots i w)) ∙ ap (drop i) all ∙ drop-set ss i s (omega (arith, length-map slots seg_in)))
    ∙ ap (λ (x : Seg). take i ss ++ (x ∷ s ∷ drop (i + 1) ss)) e
    ∙ rw add-one refl

-- the i-th segment spilled: the others stay
pub spilled_at : (how : ℕ → Sum) (size n : ℕ) (shown : Page) (slots : List (List ℕ)) (i : ℕ) (d : List ℕ) (s : Seg) (moved : List Row) → i < length slots → s ≡ seg_in (get_or slots i d)
    → ((spill_at how size n shown i (segs_of slots) moved).segs ≡ take i (segs_of slots) ++ ((spill_by how size n shown s.head s moved).segs ++ drop (suc i) (segs_of slots)))
    × ((spill_at how size n shown i (segs_of slots) moved).writes ≡ (spill_by how size n shown s.head s moved).writes)
unfolding spill_at
spilled_at how size n shown [] i d s moved h e = absurd (omega arith)
spilled_at how size n shown (w ∷ ws) zero d s moved h e = rw e (refl, refl)
spilled_at how size n shown (w ∷ ws) (suc i) d s moved h e = let r = spilled_at how size n shown ws i d s moved (omega arith) e in (ap (λ (z : List Seg). seg_in w ∷ z) r.0, r.1)
