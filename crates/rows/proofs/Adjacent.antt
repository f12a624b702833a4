-- Sorted by neighbours: rows are sorted if each stands before the next.
-- Assumes nothing.
use Rattle.std.proofs.Common.{◌≡◌, ℕ, zero, suc, ◌<◌, Bool, true, false, List, [], ◌∷◌, length, get_or, sym, ◌∙◌, add-one, arith}
use Rattle.std.specs.List.{IsAllAdjacentAnswer}
use Rattle.std.proofs.lemmas.Bool.{false≢true}
use Rattle.book.specs.Rows.{Row, Bef, ltk, Sorted}
use Rattle.rows.specs.Model.{row_in, rows_of}
use Rattle.rows.proofs.Order.{bef_trans, bef_from, lt_yes, each_like}

abbrev pub before : List ℕ → List ℕ → Bool
before v w = ltk (row_in v).at (row_in w).at

sorted_cons : (r c : Row) (cs : List Row) → Bef r.at c.at → Sorted (c ∷ cs) → Sorted (r ∷ c ∷ cs)
sorted_cons r c cs b s = ((b, each_like (Bef c.at) (Bef r.at) (λ k. bef_trans r.at c.at k b) cs s.0), s)

sorted_from : (ws : List (List ℕ)) → ((k : ℕ) (d : List ℕ) → suc k < length ws → before (get_or ws k d) (get_or ws (suc k) d) ≡ true) → Sorted (rows_of ws)
sorted_from [] h = tt
sorted_from (w ∷ []) h = (tt, tt)
sorted_from (w ∷ v ∷ ws) h =
    sorted_cons (row_in w) (row_in v) (rows_of ws) (bef_from (row_in w).at (row_in v).at (h 0 [] (omega arith))) (sorted_from (v ∷ ws) (λ k d lt. h (suc k) d (omega arith)))

before_next : (ws : List (List ℕ)) (k : ℕ) (d : List ℕ) → suc k < length ws → Sorted (rows_of ws) → before (get_or ws k d) (get_or ws (suc k) d) ≡ true
before_next [] k d lt s = absurd (omega arith)
before_next (w ∷ []) k d lt s = absurd (omega arith)
before_next (w ∷ v ∷ ws) zero d lt s = lt_yes (row_in w).at (row_in v).at s.0.0
before_next (w ∷ v ∷ ws) (suc k) d lt s = before_next (v ∷ ws) k d (omega arith) s.1

module _ (ws : List (List ℕ)) where
  pub sorted_yes : IsAllAdjacentAnswer (λ x y b. b ≡ before x y) ws true → Sorted (rows_of ws)
  sorted_yes h = sorted_from ws (λ k d lt. let a : before (get_or ws k d) (get_or ws (suc k) d) ≡ true = rw add-one at (sym (h k d (omega arith))) in a)

  pub sorted_no : IsAllAdjacentAnswer (λ x y b. b ≡ before x y) ws false → Sorted (rows_of ws) → ⊥
  sorted_no h s = let a = before_next ws h.0 [] (omega (arith, h.1)) s in false≢true (rw add-one at (h.2 []) ∙ a)
