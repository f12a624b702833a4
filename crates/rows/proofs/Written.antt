-- The words of rows in memory are the rows as the book writes them, so that rows are written to a page and read from it as
-- they stand.
-- Assumes nothing.
use Rattle.std.proofs.Common.{◌≡◌, ◌++◌, ap, ℕ, suc, ◌<◌, List, [], ◌∷◌, length, get_or, refl, arith}
use Rattle.std.specs.List.{flat_map}
use Rattle.std.specs.Simd.{first_chunks}
use Rattle.book.specs.Rows.{Row}
use Rattle.book.specs.Words.{write_all, write_row}
use Rattle.rows.specs.Model.{row_in, rows_of}

row_written : (w : List ℕ) → length w ≡ 4 → w ≡ write_row (row_in w)
row_written (a ∷ b ∷ c ∷ d ∷ []) h = refl
row_written (a ∷ b ∷ c ∷ d ∷ e ∷ ws) h = absurd (omega arith)
row_written [] h = absurd (omega arith)
row_written (a ∷ []) h = absurd (omega arith)
row_written (a ∷ b ∷ []) h = absurd (omega arith)
row_written (a ∷ b ∷ c ∷ []) h = absurd (omega arith)

pub rows_written : (slots : List (List ℕ)) → ((i : ℕ) → i < length slots → length (get_or slots i []) ≡ 4) → flat_map (λ x. x) slots ≡ write_all write_row (rows_of slots)
unfolding write_all
rows_written [] h = refl
rows_written (w ∷ ws) h =
    rw (rows_written ws (λ i lt. h (suc i) (omega arith)), row_written w (h 0 (omega arith))) refl

pub rows_read : (rs : List Row) (more : List ℕ) → rows_of (first_chunks 4 (length rs) (write_all write_row rs ++ more)) ≡ rs
unfolding write_all
rows_read [] more = refl
rows_read (r ∷ rs) more = ap (λ (xs : List Row). r ∷ xs) (rows_read rs more)
