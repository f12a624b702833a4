-- Where a key stands among sorted rows: a step of the search, and the two ends of an addition.
-- Assumes nothing.
use Rattle.std.proofs.Common.{◌≡◌, ℕ, zero, suc, ◌+◌, ◌<◌, ◌≤◌, Bool, true, false, List, [], ◌∷◌, ◌++◌, length, get_or, take, drop, set, Some, None, sym, refl, ap, ◌∙◌, subst, add-one, arith}
use Rattle.std.specs.Bool.{then_some}
use Rattle.std.proofs.lemmas.List.{length-map, map-set, map-append, take-map, drop-map}
use Rattle.streams.specs.Meaning.{Sum, Count, Total, Least, Greatest}
use Rattle.streams.specs.Laws.{together}
use Rattle.book.specs.Rows.{Key, Row, Bef, Upto, ltk, eqk, put, join, add, Each, Sorted}
use Rattle.rows.specs.declared.row.Row.{Row as Code}
use Rattle.rows.specs.Model.{row_of, row_in, rows_of}
use Rattle.rows.specs.Search.{Between, Splits, HeldAt}
use Rattle.rows.proofs.Order.{bef_trans, upto_bef, upto_trans, bef_from, upto_from, same_from, after_from, each_like, add_before, add_at, add_behind}

-- there are as many words as rows
pub as_long : {all : List Row} (slots : List (List ℕ)) → rows_of slots ≡ all → length slots ≡ length all
as_long slots e = sym (length-map slots row_in) ∙ ap length e

-- the row at a place
pub row_there : (slots : List (List ℕ)) (i : ℕ) (d : List ℕ) → i < length slots → drop i (rows_of slots) ≡ row_in (get_or slots i d) ∷ drop (suc i) (rows_of slots)
row_there [] i d lt = absurd (omega arith)
row_there (w ∷ ws) zero d lt = refl
row_there (w ∷ ws) (suc i) d lt = row_there ws i d (omega arith)

each_at : (P : Key → Type 0) (rs : List Row) (i : ℕ) (r : Row) → i < length rs → drop i rs ≡ r ∷ drop (suc i) rs → Each P rs → P r.at
each_at P [] i r lt e h = absurd (omega arith)
each_at P (c ∷ cs) zero r lt e h = let z : c ≡ r = cc in rw (← z) h.0
each_at P (c ∷ cs) (suc i) r lt e h = each_at P cs i r (omega arith) e h.1

pub sorted_right : (n : ℕ) (rs : List Row) → Sorted rs → Sorted (drop n rs)
sorted_right zero rs h = h
sorted_right (suc n) [] h = tt
sorted_right (suc n) (r ∷ rs) h = sorted_right n rs h.1

-- up to a row before k all are, and from a row on that is not none is
all_before : (k : Key) (rs : List Row) (i : ℕ) (r : Row) → Sorted rs → i < length rs → drop i rs ≡ r ∷ drop (suc i) rs → Bef r.at k → Each (λ c. Bef c k) (take (suc i) rs)
all_before k [] i r s lt e b = absurd (omega arith)
all_before k (c ∷ cs) zero r s lt e b = let z : c ≡ r = cc in (rw z b, tt)
all_before k (c ∷ cs) (suc i) r s lt e b = (bef_trans c.at r.at k (each_at (Bef c.at) cs i r (omega arith) e s.0) b, all_before k cs i r s.1 (omega arith) e b)

none_before : (k : Key) (rs : List Row) (i : ℕ) (r : Row) → Sorted rs → drop i rs ≡ r ∷ drop (suc i) rs → Upto k r.at → Each (Upto k) (drop i rs)
none_before k rs i r s e u =
    let h : Sorted (r ∷ drop (suc i) rs) = subst Sorted e (sorted_right i rs s) in
    rw e (u, each_like (Bef r.at) (Upto k) (λ c b. upto_trans k r.at c u (upto_bef r.at c b)) (drop (suc i) rs) h.0)

-- a step of the search, at the row r in the middle
pub search_up : {k : Key} {lo hi i : ℕ} {r : Row} (slots : List (List ℕ)) (d : List ℕ) → Sorted (rows_of slots) → Between k (rows_of slots) lo hi → i < hi → lo ≤ i → r ≡ row_in (get_or slots i d) → ltk r.at k ≡ true → Between k (rows_of slots) (i + 1) hi
search_up {k} {lo} {hi} {i} {r} slots d s b lt le is h =
    let long : length (rows_of slots) ≡ length slots = length-map slots row_in in
    let e : drop i (rows_of slots) ≡ r ∷ drop (suc i) (rows_of slots) = row_there slots i d (omega (arith, b.within)) ∙ ap (λ (c : Row). c ∷ drop (suc i) (rows_of slots)) (sym is) in
    record {
      order = omega arith;
      within = b.within;
      low = rw add-one (all_before k (rows_of slots) i r s (omega (arith, b.within)) e (bef_from r.at k h));
      high = b.high;
    }

pub search_down : {k : Key} {lo hi i : ℕ} {r : Row} (slots : List (List ℕ)) (d : List ℕ) → Sorted (rows_of slots) → Between k (rows_of slots) lo hi → i < hi → lo ≤ i → r ≡ row_in (get_or slots i d) → ltk r.at k ≡ false → Between k (rows_of slots) lo i
search_down {k} {lo} {hi} {i} {r} slots d s b lt le is h =
    let long : length (rows_of slots) ≡ length slots = length-map slots row_in in
    let e : drop i (rows_of slots) ≡ r ∷ drop (suc i) (rows_of slots) = row_there slots i d (omega (arith, b.within)) ∙ ap (λ (c : Row). c ∷ drop (suc i) (rows_of slots)) (sym is) in
    record {
      order = le;
      within = omega (arith, b.within);
      low = b.low;
      high = none_before k (rows_of slots) i r s e (upto_from r.at k h);
    }

-- values are put together as those of cells are
pub put_is : (s : Sum) (a b : ℕ) → together s a b ≡ put s a b
unfolding together put
put_is Count a b = refl
put_is Total a b = refl
put_is Least a b = refl
put_is Greatest a b = refl

-- the two ends of an addition: a row put between, and one joined with the row of its key
pub add_new : (how : ℕ → Sum) (r : Row) (rs : List Row) (i : ℕ) → Each (λ c. Bef c r.at) (take i rs) → Each (Upto r.at) (drop i rs)
    → ((c : Row) → drop i rs ≡ c ∷ drop (suc i) rs → eqk r.at c.at ≡ false) → take i rs ++ (r ∷ drop i rs) ≡ add how r rs
unfolding add
add_new how r [] zero low high other = refl
add_new how r [] (suc i) low high other = refl
add_new how r (c ∷ cs) zero low high other = sym (add_before how r c cs (after_from r.at c.at high.0 (other c refl)))
add_new how r (c ∷ cs) (suc i) low high other = ap (λ (xs : List Row). c ∷ xs) (add_new how r cs i low.1 high other) ∙ sym (add_behind how r c cs low.0)

pub add_old : (how : ℕ → Sum) (r : Row) (rs : List Row) (i : ℕ) (c : Row) → Each (λ c. Bef c r.at) (take i rs) → i < length rs
    → drop i rs ≡ c ∷ drop (suc i) rs → r.at ≡ c.at → set rs i (join how c r) ≡ add how r rs
unfolding add
add_old how r [] i c low lt e same = absurd (omega arith)
add_old how r (d ∷ ds) zero c low lt e same = let z : d ≡ c = cc in rw z (sym (add_at how r c ds same))
add_old how r (d ∷ ds) (suc i) c low lt e same = ap (λ (xs : List Row). d ∷ xs) (add_old how r ds i c low.1 (omega arith) e same) ∙ sym (add_behind how r d ds low.0)

pub held : (k : Key) (slots : List (List ℕ)) (i : ℕ) (d : List ℕ) (r : Code) (b : Bool) → i < length slots → row_of r ≡ row_in (get_or slots i d) → b ≡ eqk k (row_of r).at → HeldAt k (rows_of slots) i (then_some b r)
held k slots i d r b lt is e = go b e
  where
    there : drop i (rows_of slots) ≡ row_of r ∷ drop (suc i) (rows_of slots)
    there = row_there slots i d lt ∙ ap (λ (c : Row). c ∷ drop (suc i) (rows_of slots)) (sym is)

    go : (b : Bool) → b ≡ eqk k (row_of r).at → HeldAt k (rows_of slots) i (then_some b r)
    go true e = (there, sym e)
    go false e = λ c q. let t = there in let z : row_of r ≡ c = cc in rw (← z) (sym e)

held_within : (rs : List Row) (i : ℕ) (r : Row) → drop i rs ≡ r ∷ drop (suc i) rs → i < length rs
held_within [] zero r e = absurd (cc)
held_within [] (suc i) r e = absurd (cc)
held_within (c ∷ cs) zero r e = omega arith
held_within (c ∷ cs) (suc i) r e = let l = held_within cs i r e in omega arith

-- an addition to rows in memory: a row's words put in at the place found, or set there
pub add_put : (how : ℕ → Sum) (r : Row) (slots : List (List ℕ)) (i : ℕ) (w : List ℕ) → Splits r.at (rows_of slots) i → HeldAt r.at (rows_of slots) i None → row_in w ≡ r
    → rows_of (take i slots ++ ((w ∷ []) ++ drop i slots)) ≡ add how r (rows_of slots)
add_put how r slots i w b n is =
    simp (map-append, ← take-map, ← drop-map)
    (ap (λ (c : Row). take i (rows_of slots) ++ (c ∷ drop i (rows_of slots))) is ∙ add_new how r (rows_of slots) i b.low b.high n)

pub add_set : (how : ℕ → Sum) (r : Row) (slots : List (List ℕ)) (i v : ℕ) (old : Code) (w : List ℕ) → Splits r.at (rows_of slots) i → HeldAt r.at (rows_of slots) i (Some old)
    → row_in w ≡ record { at = (row_of old).at; value = v } → v ≡ put (how (row_of old).at.stage) (row_of old).value r.value → rows_of (set slots i w) ≡ add how r (rows_of slots)
add_set how r slots i v old w b h is e =
    let long : length (rows_of slots) ≡ length slots = length-map slots row_in in
    let there : row_in w ≡ join how (row_of old) r = is ∙ ap (λ (n : ℕ). record { at = (row_of old).at; value = n }) e in
    map-set row_in slots i w ∙ ap (set (rows_of slots) i) there
    ∙ add_old how r (rows_of slots) i (row_of old) b.low (held_within (rows_of slots) i (row_of old) h.0) h.0 (same_from r.at (row_of old).at h.1)
