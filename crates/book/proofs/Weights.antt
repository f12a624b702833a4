-- What a step makes longer and shorter.
use Rattle.std.proofs.Common.{◌≡◌, ℕ, zero, suc, ◌+◌, ◌*◌, ◌/◌, ◌≤◌, Bool, true, false, cond, ltb, leb, ◌⊎◌, List, [], ◌∷◌, length, take, drop, refl, inl, inr, arith, length-append}
use Rattle.std.proofs.lemmas.Bool.{ltb-true, ltb-false}
use Rattle.streams.specs.Meaning.{Sum}
use Rattle.book.specs.Rows.{Key, Row, Bef, Upto, ltk, onto, Each}
use Rattle.book.specs.Queue.{Link, nil, page, Seg, Page, Blank, RowPage, IndexPage, goes_up, below1, is_of, pick, split_by, one_page, too_full, merge_by, spill_by, spill_at}
use Rattle.book.specs.Held.{Segs, none, plain, packed, Held, heads, Over}
use Rattle.book.specs.Due.{count, fullest, Best}
use Rattle.book.proofs.Lists.{ltk_tells}
use Rattle.book.proofs.Steps.{put_to, place_h, places_h, length_add}

-- rows placed
abbrev pub weight : Held → ℕ
weight h = 4 * length h.front + 2 * length h.buffer

pub place_weight : (how : ℕ → Sum) (r : Row) (h : Held) → weight (place_h how r h) ≤ 4 + weight h
place_weight how r h = go (goes_up (heads h.segs) r.at)
  where
    go : (b : Bool) → weight (put_to how b r h) ≤ 4 + weight h
    go true = omega (arith, length_add how r h.buffer)
    go false = omega (arith, length_add how r h.front)

pub places_weight : (how : ℕ → Sum) (rs : List Row) (h : Held) → weight (places_h how rs h) ≤ 4 * length rs + weight h
unfolding places_h
places_weight how [] h = omega arith
places_weight how (r ∷ rs) h = omega (arith, places_weight how rs (place_h how r h), place_weight how r h)

-- rows picked
pub picks : (n : ℕ) (f : Key → Bool) (rs : List Row) → 1 ≤ count f rs → 1 ≤ length (pick (suc n) f rs)
unfolding pick count
picks n f [] h = absurd (omega arith)
picks n f (r ∷ rs) h = go (f r.at) (picks n f rs) h
  where
    go : (b : Bool) → (1 ≤ count f rs → 1 ≤ length (pick (suc n) f rs)) → 1 ≤ cond b (suc (count f rs)) (count f rs) → 1 ≤ length (cond b (r ∷ pick n f rs) (pick (suc n) f rs))
    go true i j = omega arith
    go false i j = i j

-- the fullest segment has something to spill
fullest_count : (ss : List Seg) (rs : List Row) → 1 ≤ (fullest ss rs).rows → (fullest ss rs).rows ≡ count (is_of (fullest ss rs).number ss) rs
unfolding fullest is_of
fullest_count [] rs h = absurd (omega arith)
fullest_count (s ∷ ss) rs h = go (ltb (count (is_of 0 (s ∷ ss)) rs) (fullest ss rs).rows) refl (fullest_count ss rs)
  where
    go : (b : Bool) → ltb (count (is_of 0 (s ∷ ss)) rs) (fullest ss rs).rows ≡ b → (1 ≤ (fullest ss rs).rows → (fullest ss rs).rows ≡ count (is_of (fullest ss rs).number ss) rs) →
        (cond {A = Best} b (record { number = suc (fullest ss rs).number; rows = (fullest ss rs).rows }) (record { number = 0; rows = count (is_of 0 (s ∷ ss)) rs })).rows ≡ count (is_of (cond {A = Best} b (record { number = suc (fullest ss rs).number; rows = (fullest ss rs).rows }) (record { number = 0; rows = count (is_of 0 (s ∷ ss)) rs })).number (s ∷ ss)) rs
    go true t i = i (omega (arith, ltb-true (count (is_of 0 (s ∷ ss)) rs) (fullest ss rs).rows t))
    go false t i = refl

none_of : (i : ℕ) (xs : List Row) → 1 ≤ count (is_of i []) xs → ⊥
unfolding count is_of
none_of zero [] l = omega arith
none_of (suc i) [] l = omega arith
none_of zero (x ∷ xs) l = none_of zero xs l
none_of (suc i) (x ∷ xs) l = none_of (suc i) xs l

fullest_most : (i : ℕ) (ss : List Seg) (rs : List Row) → 1 ≤ count (is_of i ss) rs → 1 ≤ (fullest ss rs).rows
unfolding fullest is_of
fullest_most zero [] rs h = absurd (none_of zero rs h)
fullest_most (suc i) [] rs h = absurd (none_of (suc i) rs h)
fullest_most zero (s ∷ ss) rs h = go (ltb (count (is_of 0 (s ∷ ss)) rs) (fullest ss rs).rows) refl
  where
    go : (b : Bool) → ltb (count (is_of 0 (s ∷ ss)) rs) (fullest ss rs).rows ≡ b → 1 ≤ (cond {A = Best} b (record { number = suc (fullest ss rs).number; rows = (fullest ss rs).rows }) (record { number = 0; rows = count (is_of 0 (s ∷ ss)) rs })).rows
    go true t = omega (arith, ltb-true (count (is_of 0 (s ∷ ss)) rs) (fullest ss rs).rows t)
    go false t = h
fullest_most (suc i) (s ∷ ss) rs h = go (ltb (count (is_of 0 (s ∷ ss)) rs) (fullest ss rs).rows) refl (fullest_most i ss rs h)
  where
    go : (b : Bool) → ltb (count (is_of 0 (s ∷ ss)) rs) (fullest ss rs).rows ≡ b → 1 ≤ (fullest ss rs).rows → 1 ≤ (cond {A = Best} b (record { number = suc (fullest ss rs).number; rows = (fullest ss rs).rows }) (record { number = 0; rows = count (is_of 0 (s ∷ ss)) rs })).rows
    go true t l = l
    go false t l = omega (arith, ltb-false (count (is_of 0 (s ∷ ss)) rs) (fullest ss rs).rows t)

-- a row at or above the first low is some segment's
below_or : (ss : Segs) (k : Key) → (below1 (heads ss) k ≡ true) ⊎ Over ss k
unfolding below1
below_or none k = inl refl
below_or (plain low c ss) k = go (ltk_tells k low)
  where
    go : ((ltk k low ≡ true) × Bef k low) ⊎ ((ltk k low ≡ false) × Upto low k) → (ltk k low ≡ true) ⊎ Upto low k
    go (inl p) = inl p.0
    go (inr p) = inr p.1
below_or (packed low n i c ss) k = go (ltk_tells k low)
  where
    go : ((ltk k low ≡ true) × Bef k low) ⊎ ((ltk k low ≡ false) × Upto low k) → (ltk k low ≡ true) ⊎ Upto low k
    go (inl p) = inl p.0
    go (inr p) = inr p.1

not_below : (k low : Key) → Upto low k → ltk k low ≡ false
not_below k low u = go (ltk_tells k low)
  where
    clash : Bef k low → ⊥
    clash b = grind arith

    go : ((ltk k low ≡ true) × Bef k low) ⊎ ((ltk k low ≡ false) × Upto low k) → ltk k low ≡ false
    go (inl p) = absurd (clash p.1)
    go (inr p) = p.0

some_segment : (ss : Segs) (k : Key) → Over ss k → (i : ℕ) × (is_of i (heads ss) k ≡ true)
unfolding is_of below1
some_segment none k o = absurd o
some_segment (plain low c ss) k o = go (below_or ss k) (some_segment ss k)
  where
    go : (below1 (heads ss) k ≡ true) ⊎ Over ss k → (Over ss k → (i : ℕ) × (is_of i (heads ss) k ≡ true)) → (i : ℕ) × (is_of i (heads (plain low c ss)) k ≡ true)
    go (inl b) f = (0, rw (not_below k low o) b)
    go (inr b) f = (suc (f b).0, (f b).1)
some_segment (packed low n j c ss) k o = go (below_or ss k) (some_segment ss k)
  where
    go : (below1 (heads ss) k ≡ true) ⊎ Over ss k → (Over ss k → (i : ℕ) × (is_of i (heads ss) k ≡ true)) → (i : ℕ) × (is_of i (heads (packed low n j c ss)) k ≡ true)
    go (inl b) f = (0, rw (not_below k low o) b)
    go (inr b) f = (suc (f b).0, (f b).1)

pub spills : (ss : Segs) (rs : List Row) → 1 ≤ length rs → Each (Over ss) rs → 1 ≤ count (is_of (fullest (heads ss) rs).number (heads ss)) rs
unfolding count
spills ss [] l o = absurd (omega arith)
spills ss (r ∷ rs) l o = omega (arith, least, fullest_count (heads ss) (r ∷ rs) least)
  where
    s : (i : ℕ) × (is_of i (heads ss) r.at ≡ true)
    s = some_segment ss r.at o.0

    here : 1 ≤ count (is_of s.0 (heads ss)) (r ∷ rs)
    here = rw s.1 (omega arith)

    least : 1 ≤ (fullest (heads ss) (r ∷ rs)).rows
    least = fullest_most s.0 (heads ss) (r ∷ rs) here

-- how many segments a spill leaves
split_two : (n : ℕ) (s : Seg) (xs ys : List Row) → length (split_by n s xs ys).segs ≤ 2
unfolding split_by
split_two n s xs [] = omega arith
split_two n s xs (y ∷ ys) = omega arith

full_two : (n : ℕ) (s : Seg) (i b : Link) (rows moved : List Row) → length (too_full n s i b rows moved).segs ≤ 2
unfolding too_full
full_two n s nil nil rows moved = split_two n s (take (length rows / 2) rows) (drop (length rows / 2) rows)
full_two n s (page i) nil rows moved = omega arith
full_two n s nil (page b) rows moved = omega arith
full_two n s (page i) (page b) rows moved = omega arith

merge_two : (size n : ℕ) (s : Seg) (b : Link) (rows moved : List Row) → length (merge_by size n s b rows moved).segs ≤ 2
unfolding merge_by
merge_two size n s b rows moved = elim (leb (length rows) size) as (λ t. length (cond t (one_page n s b rows) (too_full n s s.index b rows moved)).segs ≤ 2) [ true ↦ omega arith | false ↦ full_two n s s.index b rows moved ]

spilled_two : (how : ℕ → Sum) (size n : ℕ) (shown : Page) (head : Link) (s : Seg) (moved : List Row) → length (spill_by how size n shown head s moved).segs ≤ 2
unfolding spill_by
spilled_two how size n Blank nil s moved = omega arith
spilled_two how size n (RowPage b rs) nil s moved = omega arith
spilled_two how size n (IndexPage ss) nil s moved = omega arith
spilled_two how size n Blank (page h) s moved = omega arith
spilled_two how size n (IndexPage ss) (page h) s moved = omega arith
spilled_two how size n (RowPage b rs) (page h) s moved = merge_two size n s b (onto how moved rs) moved

pub spilled_more : (how : ℕ → Sum) (size n : ℕ) (shown : Page) (i : ℕ) (ss : List Seg) (moved : List Row) → length (spill_at how size n shown i ss moved).segs ≤ suc (length ss)
unfolding spill_at
spilled_more how size n shown zero [] moved = omega arith
spilled_more how size n shown (suc i) [] moved = omega arith
spilled_more how size n shown zero (s ∷ ss) moved = omega (arith, length-append (spill_by how size n shown s.head s moved).segs ss, spilled_two how size n shown s.head s moved)
spilled_more how size n shown (suc i) (s ∷ ss) moved = omega (arith, spilled_more how size n shown i ss moved)
