-- Rows at the front of memory: copied there, how many they are, and their halves.
-- Assumes nothing.
use Rattle.std.proofs.Common.{◌≡◌, ℕ, ◌/◌, ◌≤◌, List, ◌++◌, length, take, drop, sym, ap, ◌∙◌, arith}
use Rattle.std.proofs.lemmas.List.{length-map, length-take-le, take_at, take-map, drop-map, take-take}
use Rattle.book.specs.Rows.{Row}
use Rattle.rows.specs.Model.{row_in, rows_of}
use Rattle.spills.specs.Model.{Halves}

pub front_rows : (xs rest : List (List ℕ)) (n : ℕ) {rs : List Row} → length xs ≡ n → rows_of xs ≡ rs → rows_of (take n (xs ++ rest)) ≡ rs
front_rows xs rest n l e = ap rows_of (take_at xs rest n l) ∙ e

pub long_rows : (slots : List (List ℕ)) (n : ℕ) → n ≤ length slots → length (rows_of (take n slots)) ≡ n
long_rows slots n h = length-map (take n slots) row_in ∙ length-take-le n slots h

-- the halves of so many rows
pub half_rows : (slots : List (List ℕ)) (n : ℕ) {o u : List Row} → n ≤ length slots → o ≡ rows_of (take (n / 2) slots) → u ≡ rows_of (drop (n / 2) (take n slots)) → Halves (rows_of (take n slots)) o u
half_rows slots n {o} {u} h p q = (first, second)
  where
    long : length (rows_of (take n slots)) ≡ n
    long = long_rows slots n h

    first : o ≡ take (length (rows_of (take n slots)) / 2) (rows_of (take n slots))
    first = p ∙ ap rows_of (sym (take-take (n / 2) n slots (omega arith))) ∙ sym (take-map row_in (n / 2) (take n slots)) ∙ ap (λ (m : ℕ). take (m / 2) (rows_of (take n slots))) (sym long)

    second : u ≡ drop (length (rows_of (take n slots)) / 2) (rows_of (take n slots))
    second = q ∙ sym (drop-map row_in (n / 2) (take n slots)) ∙ ap (λ (m : ℕ). drop (m / 2) (rows_of (take n slots))) (sym long)
