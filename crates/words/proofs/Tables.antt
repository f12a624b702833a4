-- What rows and segments words hold that were lent as such.
-- Assumes nothing.
use Rattle.std.proofs.Common.{◌≡◌, ℕ, ◌/◌, List, [], ◌∷◌, ◌++◌, length, take, refl, ap, ap₂, ◌∙◌}
use Rattle.std.proofs.lemmas.List.{take-map}
use Rattle.book.specs.Rows.{Row}
use Rattle.book.specs.Queue.{Seg}
use Rattle.rows.specs.Model.{row_in, rows_of}
use Rattle.segs.specs.Model.{seg_in, segs_of}
use Rattle.words.specs.Items.{items_of, words_in, whole, words_of}
use Rattle.words.specs.Tables.{rows_in, segs_in}
use Rattle.words.proofs.Chunks.{LentAs, items_kept, length-items_of}

-- a row is read of its four words, a segment of its six
row_kept : (w : List ℕ) → row_in (words_in 4 w) ≡ row_in w
row_kept [] = refl
row_kept (a ∷ []) = refl
row_kept (a ∷ b ∷ []) = refl
row_kept (a ∷ b ∷ c ∷ []) = refl
row_kept (a ∷ b ∷ c ∷ d ∷ ws) = refl

seg_kept : (w : List ℕ) → seg_in (words_in 6 w) ≡ seg_in w
seg_kept [] = refl
seg_kept (a ∷ []) = refl
seg_kept (a ∷ b ∷ []) = refl
seg_kept (a ∷ b ∷ c ∷ []) = refl
seg_kept (a ∷ b ∷ c ∷ d ∷ []) = refl
seg_kept (a ∷ b ∷ c ∷ d ∷ e ∷ []) = refl
seg_kept (a ∷ b ∷ c ∷ d ∷ e ∷ f ∷ ws) = refl

pub rows_whole : (items : List (List ℕ)) → rows_of (whole 4 items) ≡ rows_of items
rows_whole [] = refl
rows_whole (w ∷ ws) = ap₂ (λ (r : Row) (rs : List Row). r ∷ rs) (row_kept w) (rows_whole ws)

pub segs_whole : (items : List (List ℕ)) → segs_of (whole 6 items) ≡ segs_of items
segs_whole [] = refl
segs_whole (w ∷ ws) = ap₂ (λ (s : Seg) (ss : List Seg). s ∷ ss) (seg_kept w) (segs_whole ws)

pub rows_kept : {got : List (List ℕ)} {rest : List ℕ} (k : ℕ) (words : List ℕ) (rows : List (List ℕ)) → LentAs 4 words got rest → length rows ≡ length got
    → rows_in k (words_of 4 rows ++ rest) ≡ rows_of (take k rows)
rows_kept k words rows lent same =
    ap (λ (xs : List (List ℕ)). rows_of (take k xs)) (items_kept 4 words rows lent same) ∙ ap rows_of (take-map (words_in 4) k rows) ∙ rows_whole (take k rows)

pub segs_kept : {got : List (List ℕ)} {rest : List ℕ} (k : ℕ) (words : List ℕ) (segments : List (List ℕ)) → LentAs 6 words got rest → length segments ≡ length got
    → segs_in k (words_of 6 segments ++ rest) ≡ segs_of (take k segments)
segs_kept k words segments lent same =
    ap (λ (xs : List (List ℕ)). segs_of (take k xs)) (items_kept 6 words segments lent same) ∙ ap segs_of (take-map (words_in 6) k segments) ∙ segs_whole (take k segments)

-- so many items are lent
pub many_lent : {got : List (List ℕ)} (n : ℕ) (words : List ℕ) → got ≡ items_of n words → length got ≡ length words / n
many_lent n words is = ap length is ∙ length-items_of n words
