-- Cells as joined rows: joining is commutative and associative, and the cells of events in two places are joined.
-- Assumes nothing.
use Rattle.std.proofs.Common.{◌≡◌, ℕ, Bool, true, false, cond, eqb, List, [], ◌∷◌, ◌++◌, sym, refl, ap, ◌∙◌, arith}
use Rattle.std.proofs.lemmas.Bool.Decides.{nat_tests}
use Rattle.streams.specs.Meaning.{Event, Stage, Cell, Sum, Count, Total, Least, Greatest, first, joined, word, end_of, into, cells}
use Rattle.streams.specs.Order.{Bef, Above, Sorted}
use Rattle.streams.specs.Laws.{together, add_cell, join}
use Rattle.streams.proofs.Cells.{Tri, lo, eq, hi, tri}

-- values
together_swap : (s : Sum) (a b : ℕ) → together s a b ≡ together s b a
unfolding together
together_swap Count a b = omega arith
together_swap Total a b = omega arith
together_swap Least a b = grind (arith, nat_tests)
together_swap Greatest a b = grind (arith, nat_tests)

together_both : (s : Sum) (a b c : ℕ) → together s (together s a b) c ≡ together s (together s a c) b
unfolding together
together_both Count a b c = omega arith
together_both Total a b c = omega arith
together_both Least a b c = grind (arith, nat_tests)
together_both Greatest a b c = grind (arith, nat_tests)

together_group : (s : Sum) (a b c : ℕ) → together s (together s a b) c ≡ together s a (together s b c)
unfolding together
together_group Count a b c = omega arith
together_group Total a b c = omega arith
together_group Least a b c = grind (arith, nat_tests)
together_group Greatest a b c = grind (arith, nat_tests)

joined_together : (s : Sum) (a v : ℕ) → joined s a v ≡ together s a (first s v)
unfolding together joined first
joined_together Count a v = refl
joined_together Total a v = refl
joined_together Least a v = refl
joined_together Greatest a v = refl

abbrev at : ℕ → ℕ → ℕ → Cell
at n k v = record { end = n; key = k; value = v }

-- two cells of one end and key, in either order
same_none : (s : Sum) (n k v w : ℕ) → add_cell s (at n k v) (add_cell s (at n k w) []) ≡ add_cell s (at n k w) (add_cell s (at n k v) [])
unfolding add_cell
same_none s n k v w = grind (arith, nat_tests, together_swap)

same_step : (s : Sum) (n k v w : ℕ) (c : Cell) (cs : List Cell) → add_cell s (at n k v) (add_cell s (at n k w) cs) ≡ add_cell s (at n k w) (add_cell s (at n k v) cs) →
    add_cell s (at n k v) (add_cell s (at n k w) (c ∷ cs)) ≡ add_cell s (at n k w) (add_cell s (at n k v) (c ∷ cs))
unfolding add_cell
same_step s n k v w c cs ih = grind (arith, nat_tests, together_swap, together_both)

add_same : (s : Sum) (n k v w : ℕ) (cs : List Cell) → add_cell s (at n k v) (add_cell s (at n k w) cs) ≡ add_cell s (at n k w) (add_cell s (at n k v) cs)
add_same s n k v w [] = same_none s n k v w
add_same s n k v w (c ∷ cs) = same_step s n k v w c cs (add_same s n k v w cs)

-- and of two, the first before the second
apart_none : (s : Sum) (n k v m j w : ℕ) → Bef n k m j → add_cell s (at n k v) (add_cell s (at m j w) []) ≡ add_cell s (at m j w) (add_cell s (at n k v) [])
unfolding add_cell
apart_none s n k v m j w b = grind (arith, nat_tests)

apart_step : (s : Sum) (n k v m j w : ℕ) (c : Cell) (cs : List Cell) → Bef n k m j → add_cell s (at n k v) (add_cell s (at m j w) cs) ≡ add_cell s (at m j w) (add_cell s (at n k v) cs) →
    add_cell s (at n k v) (add_cell s (at m j w) (c ∷ cs)) ≡ add_cell s (at m j w) (add_cell s (at n k v) (c ∷ cs))
unfolding add_cell
apart_step s n k v m j w c cs b ih = grind (arith, nat_tests)

add_apart : (s : Sum) (n k v m j w : ℕ) (cs : List Cell) → Bef n k m j → add_cell s (at n k v) (add_cell s (at m j w) cs) ≡ add_cell s (at m j w) (add_cell s (at n k v) cs)
add_apart s n k v m j w [] b = apart_none s n k v m j w b
add_apart s n k v m j w (c ∷ cs) b = apart_step s n k v m j w c cs b (add_apart s n k v m j w cs b)

add_both : (s : Sum) (d e : Cell) (cs : List Cell) → add_cell s d (add_cell s e cs) ≡ add_cell s e (add_cell s d cs)
add_both s d e cs = go (tri d.end d.key e.end e.key)
  where
    go : Tri d.end d.key e.end e.key → add_cell s d (add_cell s e cs) ≡ add_cell s e (add_cell s d cs)
    go (lo h) = add_apart s d.end d.key d.value e.end e.key e.value cs h
    go (eq n k) = rw (ap (λ (x : ℕ). at x d.key d.value) n ∙ ap (λ (x : ℕ). at e.end x d.value) k) (add_same s e.end e.key d.value e.value cs)
    go (hi h) = sym (add_apart s e.end e.key e.value d.end d.key d.value cs h)

-- two cells of one end and key may be put together first
both_step : (s : Sum) (n k v w : ℕ) (c : Cell) (cs : List Cell) → add_cell s (at n k (together s w v)) cs ≡ add_cell s (at n k v) (add_cell s (at n k w) cs) →
    add_cell s (at n k (together s w v)) (c ∷ cs) ≡ add_cell s (at n k v) (add_cell s (at n k w) (c ∷ cs))
unfolding add_cell
both_step s n k v w c cs ih = grind (arith, nat_tests, together_group)

add_pair : (s : Sum) (n k v w : ℕ) (cs : List Cell) → add_cell s (at n k (together s w v)) cs ≡ add_cell s (at n k v) (add_cell s (at n k w) cs)
unfolding add_cell
add_pair s n k v w [] = grind (arith, nat_tests)
add_pair s n k v w (c ∷ cs) = both_step s n k v w c cs (add_pair s n k v w cs)

-- three equations of adding, by the order of two cells
add_lo : (s : Sum) (d c : Cell) (cs : List Cell) → Bef d.end d.key c.end c.key → add_cell s d (c ∷ cs) ≡ d ∷ c ∷ cs
unfolding add_cell
add_lo s d c cs h = grind (arith, nat_tests)

add_eq : (s : Sum) (d c : Cell) (cs : List Cell) → d.end ≡ c.end → d.key ≡ c.key → add_cell s d (c ∷ cs) ≡ at c.end c.key (together s c.value d.value) ∷ cs
unfolding add_cell
add_eq s d c cs n k = grind (arith, nat_tests)

add_hi : (s : Sum) (d c : Cell) (cs : List Cell) → Bef c.end c.key d.end d.key → add_cell s d (c ∷ cs) ≡ c ∷ add_cell s d cs
unfolding add_cell
add_hi s d c cs h = grind (arith, nat_tests)

-- joining
join_add : (s : Sum) (d : Cell) (xs ys : List Cell) → join s (add_cell s d xs) ys ≡ add_cell s d (join s xs ys)
unfolding join add_cell
join_add s d [] ys = refl
join_add s d (c ∷ xs) ys = go (tri d.end d.key c.end c.key) (join_add s d xs ys)
  where
    go : Tri d.end d.key c.end c.key → join s (add_cell s d xs) ys ≡ add_cell s d (join s xs ys) → join s (add_cell s d (c ∷ xs)) ys ≡ add_cell s d (add_cell s c (join s xs ys))
    go (lo h) ih = ap (λ (zs : List Cell). join s zs ys) (add_lo s d c xs h)
    go (eq n k) ih =
        ap (λ (zs : List Cell). join s zs ys) (add_eq s d c xs n k) ∙ add_pair s c.end c.key d.value c.value (join s xs ys)
        ∙ ap (λ (x : Cell). add_cell s x (add_cell s c (join s xs ys))) (ap (λ (x : ℕ). at x c.key d.value) (sym n) ∙ ap (λ (x : ℕ). at d.end x d.value) (sym k))
    go (hi h) ih = ap (λ (zs : List Cell). join s zs ys) (add_hi s d c xs h) ∙ ap (add_cell s c) ih ∙ add_both s c d (join s xs ys)

pub join_associates : (s : Sum) (xs ys zs : List Cell) → join s (join s xs ys) zs ≡ join s xs (join s ys zs)
unfolding join
join_associates s [] ys zs = refl
join_associates s (x ∷ xs) ys zs = join_add s x (join s xs ys) zs ∙ ap (add_cell s x) (join_associates s xs ys zs)

add_in : (s : Sum) (d : Cell) (xs ys : List Cell) → join s xs (add_cell s d ys) ≡ add_cell s d (join s xs ys)
unfolding join
add_in s d [] ys = refl
add_in s d (x ∷ xs) ys = ap (add_cell s x) (add_in s d xs ys) ∙ add_both s x d (join s xs ys)

join_swap : (s : Sum) (xs ys zs : List Cell) → join s xs (join s ys zs) ≡ join s ys (join s xs zs)
unfolding join
join_swap s [] ys zs = refl
join_swap s (x ∷ xs) ys zs = ap (add_cell s x) (join_swap s xs ys zs) ∙ sym (add_in s x ys (join s xs zs))

above_add : (s : Sum) (c : Cell) (cs : List Cell) → Above c.end c.key cs → add_cell s c cs ≡ c ∷ cs
unfolding add_cell
above_add s c [] h = refl
above_add s c (d ∷ cs) h = add_lo s c d cs h.0

join_none : (s : Sum) (cs : List Cell) → Sorted cs → join s cs [] ≡ cs
unfolding join
join_none s [] h = refl
join_none s (c ∷ cs) h = ap (add_cell s c) (join_none s cs h.1) ∙ above_add s c cs h.0

pub join_commutes : (s : Sum) (xs ys : List Cell) → Sorted xs → Sorted ys → join s xs ys ≡ join s ys xs
join_commutes s xs ys hx hy = ap (join s xs) (sym (join_none s ys hy)) ∙ join_swap s xs ys [] ∙ ap (join s ys) (join_none s xs hx)

-- an event's cell
into_add : (s : Sum) (n k v : ℕ) (cs : List Cell) → into s n k v cs ≡ add_cell s (at n k (first s v)) cs
unfolding into add_cell
into_add s n k v [] = refl
into_add s n k v (c ∷ cs) = let ih : into s n k v cs ≡ add_cell s (at n k (first s v)) cs = into_add s n k v cs in grind (arith, nat_tests, joined_together)

pub cells_join : (st : Stage) (es fs : List Event) → cells st (es ++ fs) ≡ join st.sum (cells st es) (cells st fs)
unfolding cells join
cells_join st [] fs = refl
cells_join st (e ∷ es) fs = go (eqb (word st.keep' e) 0) (cells_join st es fs)
  where
    n : ℕ
    n = end_of st.size e.time

    k : ℕ
    k = word st.key e

    v : ℕ
    v = word st.value e

    go : (b : Bool) → cells st (es ++ fs) ≡ join st.sum (cells st es) (cells st fs) →
        cond b (cells st (es ++ fs)) (into st.sum n k v (cells st (es ++ fs))) ≡ join st.sum (cond b (cells st es) (into st.sum n k v (cells st es))) (cells st fs)
    go true ih = ih
    go false ih =
        ap (into st.sum n k v) ih ∙ into_add st.sum n k v (join st.sum (cells st es) (cells st fs)) ∙ sym (join_add st.sum (at n k (first st.sum v)) (cells st es) (cells st fs))
        ∙ ap (λ (xs : List Cell). join st.sum xs (cells st fs)) (sym (into_add st.sum n k v (cells st es)))
