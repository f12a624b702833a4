-- What is due, case by case.
-- Assumes nothing.
use Rattle.std.proofs.Common.{◌≡◌, ℕ, zero, suc, inl, inr, ◌<◌, ◌≤◌, Bool, true, false, cond, nat_le, List, [], ◌∷◌, length, get_or, sym, refl, ap, ◌∙◌, arith}
use Rattle.std.specs.Bool.{then_some}
use Rattle.std.proofs.lemmas.Bool.{lt-ltb, le-ltb, cases_lt}
use Rattle.std.proofs.lemmas.List.{length-map}
use Rattle.book.specs.Rows.{Row}
use Rattle.book.specs.Queue.{Link, nil, page, Seg, Queue, head_at}
use Rattle.book.specs.Due.{Sizes, Due, Nothing, Do, Pack, Lower, Sift, Open, Unpack, Crowd, calm, crowded, crowd, fullest, index_of, at_level, due_first, due_segments, due_front, due_source, due_rows, due_crowd}
use Rattle.rows.specs.Model.{row_in, rows_of}
use Rattle.rows.proofs.Places.{as_long}
use Rattle.rows.specs.Segments.{IsRange}
use Rattle.rows.specs.declared.segments.KeyRange.{KeyRange}
use Rattle.segs.specs.Model.{seg_in, segs_of, page_link}
use Rattle.dues.specs.declared.Step.TheVariants.{Emit, Spill}
use Rattle.dues.specs.declared.Fullest.{Fullest}
use Rattle.dues.specs.Model.{as_due, Knows, Fills}

-- THE FRONT: its first row has ended or not; there is none, and no segment; there is none, but a first segment
pub front_row : (m : ℕ) (rows : List (List ℕ)) (ss : List Seg) (rs : List Row) (d : List ℕ) (r : Row) (b : Bool) → 1 ≤ length rows → rows_of rows ≡ rs → r ≡ row_in (get_or rows 0 d) → b ≡ nat_le r.at.end m → as_due (then_some b Emit) ≡ due_front m rs ss
unfolding due_front
front_row m [] ss rs d r b some e is h = absurd (omega arith)
front_row m (w ∷ ws) ss rs d r b some e is h = go b ∙ ap (λ (x : Bool). cond x (Do Rattle.book.specs.Due.Emit) Nothing) (h ∙ ap (λ (x : Row). nat_le x.at.end m) is) ∙ ap (λ (x : List Row). due_front m x ss) e
  where
    go : (b : Bool) → as_due (then_some b Emit) ≡ cond b (Do Rattle.book.specs.Due.Emit) Nothing
    go true = refl
    go false = refl

pub front_none : (m : ℕ) (rs : List Row) (slots was : List (List ℕ)) → length rs < 1 → was ≡ slots → length was < 1 → Nothing ≡ due_front m rs (segs_of slots)
unfolding due_front due_segments
front_none m [] [] was h e i = refl
front_none m [] (w ∷ ws) was h e i = absurd (omega (arith, i, ap length e))
front_none m (r ∷ rs) slots was h e i = absurd (omega arith)

pub front_first : (m : ℕ) (rs : List Row) (slots was : List (List ℕ)) (d : List ℕ) (s : Seg) (i : Link) → length rs < 1 → was ≡ slots → 1 ≤ length was → s ≡ seg_in (get_or was 0 d) → s.index ≡ i → due_first i ≡ due_front m rs (segs_of slots)
unfolding due_front due_segments
front_first m [] [] was d s i h e some is x = absurd (omega (arith, some, ap length e))
front_first m [] (w ∷ ws) was d s i h e some is x = ap due_first (sym x ∙ ap (λ (t : Seg). t.index) (is ∙ ap (λ (y : List (List ℕ)). seg_in (get_or y 0 d)) e))
front_first m (r ∷ rs) slots was d s i h e some is x = absurd (omega arith)

pub first_page : (n : ℕ) → Do Unpack ≡ due_first (page n)
unfolding due_first
first_page n = refl

pub first_none : Do Open ≡ due_first nil
unfolding due_first
first_none = refl

pub first_index : (slots was : List (List ℕ)) (d : List ℕ) (s : Seg) → was ≡ slots → 1 ≤ length was → s ≡ seg_in (get_or was 0 d) → s.index ≡ index_of (segs_of slots)
unfolding index_of
first_index [] was d s e some is = absurd (omega (arith, some, ap length e))
first_index (w ∷ ws) was d s e some is = ap (λ (t : Seg). t.index) (is ∙ ap (λ (y : List (List ℕ)). seg_in (get_or y 0 d)) e)

pub first_there : (slots was : List (List ℕ)) → was ≡ slots → 1 ≤ length was → 1 ≤ length (segs_of slots)
first_there slots was e some = omega (arith, some, ap length e, length-map slots seg_in)

-- THE REST. A level that is crowded has segments
pub many : (z : ℕ) (all ss : List Seg) (v : ℕ) → crowded v ≡ crowd z all ss → 1 ≤ at_level v all
unfolding crowd
many z all [] v e = absurd (cc)
many z all (s ∷ ss) v e = elim (cases_lt z (at_level s.level all)) [
  | inl lt ↦
      let c = rw (lt-ltb z (at_level s.level all) lt) at e in
      let w : v ≡ s.level = cc in
      rw w (omega (arith, lt))
  | inr le ↦
      let c = rw (le-ltb z (at_level s.level all) le) at e in
      many z all ss v c
]

range_in : (r : KeyRange) (i : ℕ) (ss : List Seg) → IsRange r i ss → i < length ss
range_in r i [] h = absurd h
range_in r zero (s ∷ ss) h = omega arith
range_in r (suc i) (s ∷ ss) h = let l = range_in r i ss h in omega arith

pub fullest_in : (q : Queue) (rs : List Row) (f : Fullest) → Fills 0 q.segments rs f → Knows q (Spill f)
fullest_in q rs f h =
    let z : f.number ≡ (fullest q.segments rs).number = omega (arith, h.number) in
    let range : IsRange f.range f.number q.segments = rw z h.range in
    let head : page_link f.head ≡ head_at f.number q.segments = rw z h.head in
    (range_in f.range f.number q.segments range, range, head)

pub packs : (z : Sizes) (m : ℕ) (q : Queue) (v : ℕ) → crowded v ≡ crowd z.segments q.segments q.segments → Do (Pack v) ≡ due_crowd z m (crowd z.segments q.segments q.segments) q
unfolding due_crowd
packs z m q v e = ap (λ (x : Crowd). due_crowd z m x q) e

pub spills : (z : Sizes) (m : ℕ) (q : Queue) → calm ≡ crowd z.segments q.segments q.segments → z.buffer < length q.buffer → Do (Rattle.book.specs.Due.Spill (fullest q.segments q.buffer).number) ≡ due_crowd z m (crowd z.segments q.segments q.segments) q
unfolding due_crowd due_rows
spills z m q e b = sym (rw (lt-ltb z.buffer (length q.buffer) b) refl) ∙ ap (λ (x : Crowd). due_crowd z m x q) e

-- no level is crowded, and the buffer is not too long
pub record Quiet (z : Sizes) (q : Queue) : Type 0 where
  pub levels : calm ≡ crowd z.segments q.segments q.segments
  pub buffer : length q.buffer ≤ z.buffer

pub quiet : (z : Sizes) (q : Queue) (slots was rows : List (List ℕ)) (rs : List Row) → q.segments ≡ segs_of slots → was ≡ slots → calm ≡ crowd z.segments (segs_of was) (segs_of was) → rows_of rows ≡ rs → rs ≡ q.buffer → length rows ≤ z.buffer → Quiet z q
quiet z q slots was rows rs h e levels is buffer le =
    record { levels = rw (h, ← e) levels; buffer = omega (arith, as_long rows (is ∙ buffer), le) }

pub lowers : (z : Sizes) (m : ℕ) (q : Queue) → Quiet z q → z.front < length q.front → Do Lower ≡ due_crowd z m (crowd z.segments q.segments q.segments) q
unfolding due_crowd due_rows
lowers z m q h f = sym (rw (le-ltb z.buffer (length q.buffer) h.buffer, lt-ltb z.front (length q.front) f) refl) ∙ ap (λ (x : Crowd). due_crowd z m x q) h.levels

pub goes_on : (z : Sizes) (m : ℕ) (q : Queue) (s : Link) → Quiet z q → length q.front ≤ z.front → q.source ≡ s → due_source m s q ≡ due_crowd z m (crowd z.segments q.segments q.segments) q
unfolding due_crowd due_rows
goes_on z m q s h f is = ap (λ (x : Link). due_source m x q) (sym is) ∙ sym (rw (le-ltb z.buffer (length q.buffer) h.buffer, le-ltb z.front (length q.front) f) refl) ∙ ap (λ (x : Crowd). due_crowd z m x q) h.levels

pub sifts : (m n : ℕ) (q : Queue) → Do Sift ≡ due_source m (page n) q
unfolding due_source
sifts m n q = refl

pub no_source : (m : ℕ) (q : Queue) → due_front m q.front q.segments ≡ due_source m nil q
unfolding due_source
no_source m q = refl
