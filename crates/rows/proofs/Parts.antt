-- Parts of sorted rows are sorted.
-- Assumes nothing.
use Rattle.std.proofs.Common.{◌≡◌, ℕ, zero, suc, ◌-◌, ◌≤◌, List, [], ◌∷◌, ◌++◌, take, drop, ap, ◌∙◌, arith}
use Rattle.std.proofs.lemmas.List.{take-map, drop-map}
use Rattle.std.proofs.lemmas.Slice.{between_is}
use Rattle.book.specs.Rows.{Key, Row, Bef, Each, Sorted}
use Rattle.rows.specs.Model.{rows_of}
use Rattle.rows.proofs.Places.{sorted_right}

pub each_left : (P : Key → Type 0) (n : ℕ) (rs : List Row) → Each P rs → Each P (take n rs)
each_left P zero rs h = tt
each_left P (suc n) [] h = tt
each_left P (suc n) (r ∷ rs) h = (h.0, each_left P n rs h.1)

pub each_right : (P : Key → Type 0) (n : ℕ) (rs : List Row) → Each P rs → Each P (drop n rs)
each_right P zero rs h = h
each_right P (suc n) [] h = tt
each_right P (suc n) (r ∷ rs) h = each_right P n rs h.1

each_both : (P : Key → Type 0) (rs ss : List Row) → Each P rs → Each P ss → Each P (rs ++ ss)
each_both P [] ss h i = i
each_both P (r ∷ rs) ss h i = (h.0, each_both P rs ss h.1 i)

pub sorted_left : (n : ℕ) (rs : List Row) → Sorted rs → Sorted (take n rs)
sorted_left zero rs h = tt
sorted_left (suc n) [] h = tt
sorted_left (suc n) (r ∷ rs) h = (each_left (Bef r.at) n rs h.0, sorted_left n rs h.1)

pub sorted_without : (a b : ℕ) (rs : List Row) → a ≤ b → Sorted rs → Sorted (take a rs ++ drop b rs)
sorted_without zero b rs le h = sorted_right b rs h
sorted_without (suc a) zero rs le h = absurd (omega arith)
sorted_without (suc a) (suc b) [] le h = tt
sorted_without (suc a) (suc b) (r ∷ rs) le h =
    (each_both (Bef r.at) (take a rs) (drop b rs) (each_left (Bef r.at) a rs h.0) (each_right (Bef r.at) b rs h.0), sorted_without a b rs (omega arith) h.1)

-- the rows of a part of memory
pub part_rows : (slots : List (List ℕ)) (a b : ℕ) → rows_of (take (b - a) (drop a slots)) ≡ drop a (take b (rows_of slots))
part_rows slots a b = ap rows_of (between_is slots a b) ∙ simp (drop-map, take-map)
