-- The fullest of segments, with one more before them.
-- Assumes nothing.
use Rattle.std.proofs.Common.{◌≡◌, ℕ, suc, ◌+◌, ◌-◌, ◌<◌, ◌≤◌, List, [], ◌∷◌, length, get_or, drop, Some, None, Option, sym, refl, ap, ◌∙◌, arith}
use Rattle.std.proofs.lemmas.Bool.{lt-ltb, le-ltb}
use Rattle.std.proofs.lemmas.List.{drop_more}
use Rattle.book.specs.Rows.{Row}
use Rattle.book.specs.Queue.{Seg, is_of, head_at}
use Rattle.book.specs.Due.{Best, count, fullest}
use Rattle.rows.specs.Segments.{IsRange}
use Rattle.segs.specs.Model.{seg_in, segs_of, page_link}
use Rattle.dues.specs.declared.Fullest.{Fullest}
use Rattle.dues.specs.Model.{IsFullest}

-- the segments from the one before a place on
pub before : (slots : List (List ℕ)) (m : ℕ) (d : List ℕ) (s : Seg) → 0 < m → m ≤ length slots → s ≡ seg_in (get_or slots (m - 1) d) → segs_of (drop (m - 1) slots) ≡ s ∷ segs_of (drop m slots)
before slots m d s some le e =
    let k : (m - 1) + 1 ≡ m = omega arith in
    ap segs_of (drop_more slots (m - 1) d (omega arith)) ∙ ap (λ (x : Seg). x ∷ segs_of (drop ((m - 1) + 1) slots)) (sym e) ∙ ap (λ (j : ℕ). s ∷ segs_of (drop j slots)) k

behind : (s : Seg) (ss : List Seg) (rs : List Row) → count (is_of 0 (s ∷ ss)) rs < (fullest ss rs).rows → fullest (s ∷ ss) rs ≡ record { number = suc (fullest ss rs).number; rows = (fullest ss rs).rows }
unfolding fullest
behind s ss rs lt = rw (lt-ltb (count (is_of 0 (s ∷ ss)) rs) (fullest ss rs).rows lt) refl

here : (s : Seg) (ss : List Seg) (rs : List Row) → (fullest ss rs).rows ≤ count (is_of 0 (s ∷ ss)) rs → fullest (s ∷ ss) rs ≡ record { number = 0; rows = count (is_of 0 (s ∷ ss)) rs }
unfolding fullest
here s ss rs le = rw (le-ltb (count (is_of 0 (s ∷ ss)) rs) (fullest ss rs).rows le) refl

pub none_rows : (rs : List Row) → (fullest [] rs).rows ≡ 0
unfolding fullest
none_rows rs = refl

-- the best so far, and how many rows it has
pub record Sofar (i : ℕ) (ss : List Seg) (rs : List Row) (best : Option Fullest) (most : ℕ) : Type 0 where
  pub is : IsFullest i ss rs best
  pub rows : most ≡ (fullest ss rs).rows

-- it stays
pub kept : (i m n : ℕ) (s : Seg) (ss : List Seg) (rs : List Row) (best : Option Fullest) (most : ℕ) → m ≡ suc i → n ≡ count (is_of 0 (s ∷ ss)) rs → n < most → Sofar m ss rs best most → Sofar i (s ∷ ss) rs best most
unfolding head_at
kept i m n s ss rs None most e is lt b = absurd (omega (arith, lt, b.rows ∙ ap (λ (x : List Seg). (fullest x rs).rows) b.is ∙ none_rows rs))
kept i m n s ss rs (Some f) most e is lt b =
    let z : fullest (s ∷ ss) rs ≡ record { number = suc (fullest ss rs).number; rows = (fullest ss rs).rows } = behind s ss rs (omega (arith, lt, is, b.rows)) in
    record {
      is = record { number = rw z (omega (arith, b.is.number, e)); range = rw z b.is.range; head = rw z b.is.head };
      rows = b.rows ∙ ap (λ (x : Best). x.rows) (sym z);
    }

-- the one more is better
pub better : (i n : ℕ) (s : Seg) (ss : List Seg) (rs : List Row) (f : Fullest) (most : ℕ) → n ≡ count (is_of 0 (s ∷ ss)) rs → most ≤ n → most ≡ (fullest ss rs).rows → f.number ≡ i → IsRange f.range 0 (s ∷ ss) → page_link f.head ≡ s.head → Sofar i (s ∷ ss) rs (Some f) n
unfolding head_at
better i n s ss rs f most is le b number range head =
    let z : fullest (s ∷ ss) rs ≡ record { number = 0; rows = count (is_of 0 (s ∷ ss)) rs } = here s ss rs (omega (arith, le, is, b)) in
    record {
      is = record { number = rw z (omega (arith, number)); range = rw z range; head = rw z head };
      rows = is ∙ ap (λ (x : Best). x.rows) (sym z);
    }
