-- Two rows of sorted cells joined from the front: which cell comes first, and what is left of both.
-- Assumes nothing.
use Rattle.std.proofs.Common.{◌≡◌, ℕ, zero, suc, ◌+◌, ◌-◌, ◌<◌, ◌≤◌, true, false, ◌&&◌, ltb, List, [], ◌∷◌, ◌++◌, map, take, drop, length, inl, inr, sym, refl, ap, ◌∙◌, append_assoc, append-nil, add-one, arith}
use Rattle.std.proofs.lemmas.Bool.Decides.{nat_tests}
use Rattle.std.proofs.lemmas.Bool.{cases_lt}
use Rattle.std.proofs.lemmas.List.{drop_all, take_all, length-drop, map_push}
use Rattle.streams.specs.Meaning.{Event, Cell, Sum, first, joined, into, as_events}
use Rattle.streams.specs.Order.{Bef, before, Above, Sorted}
use Rattle.streams.specs.Laws.{together, add_cell, join}
use Rattle.streams.proofs.Sorted.{above_trans}
use Rattle.streams.proofs.Join.{join_associates, join_commutes}
use Rattle.plans.specs.declared.numbers.Value.{Value}
use Rattle.windows.specs.declared.cells.Slot.{Slot}
use Rattle.plans.specs.declared.entries.Event as code
use Rattle.plans.specs.Model.{as_event}
use Rattle.windows.specs.Model.{cell_of}
use Rattle.windows.specs.Table.{cell_at, is_of, event_of, Leaves}
use Rattle.windows.proofs.Table.{head_is}

add_lo : (s : Sum) (d c : Cell) (cs : List Cell) → Bef d.end d.key c.end c.key → add_cell s d (c ∷ cs) ≡ d ∷ c ∷ cs
unfolding add_cell
add_lo s d c cs h = grind (arith, nat_tests)

add_eq : (s : Sum) (d c : Cell) (cs : List Cell) → d.end ≡ c.end → d.key ≡ c.key → add_cell s d (c ∷ cs) ≡ record { end = c.end; key = c.key; value = together s c.value d.value } ∷ cs
unfolding add_cell
add_eq s d c cs n k = grind (arith, nat_tests)

add_hi : (s : Sum) (d c : Cell) (cs : List Cell) → Bef c.end c.key d.end d.key → add_cell s d (c ∷ cs) ≡ c ∷ add_cell s d cs
unfolding add_cell
add_hi s d c cs h = grind (arith, nat_tests)

above_add : (s : Sum) (d : Cell) (cs : List Cell) → Above d.end d.key cs → add_cell s d cs ≡ d ∷ cs
unfolding add_cell
above_add s d [] h = refl
above_add s d (c ∷ cs) h = add_lo s d c cs h.0

adds_above : (n k : ℕ) (s : Sum) (d : Cell) (cs : List Cell) → Bef n k d.end d.key → Above n k cs → Above n k (add_cell s d cs)
unfolding add_cell
adds_above n k s d [] b h = (b, tt)
adds_above n k s d (c ∷ cs) b h = let r : Above n k (add_cell s d cs) = adds_above n k s d cs b h.1 in grind (arith, nat_tests)

above_join : (n k : ℕ) (s : Sum) (xs ys : List Cell) → Above n k xs → Above n k ys → Above n k (join s xs ys)
unfolding join
above_join n k s [] ys h g = g
above_join n k s (x ∷ xs) ys h g = adds_above n k s x (join s xs ys) h.0 (above_join n k s xs ys h.1 g)

-- the first of the one row comes first
pub first_lo : (s : Sum) (x y : Cell) (xs ys : List Cell) → Sorted (x ∷ xs) → Sorted (y ∷ ys) → Bef x.end x.key y.end y.key → join s (x ∷ xs) (y ∷ ys) ≡ x ∷ join s xs (y ∷ ys)
unfolding join
first_lo s x y xs ys h g b = above_add s x (join s xs (y ∷ ys)) (above_join x.end x.key s xs (y ∷ ys) h.0 (b, above_trans x.end x.key y.end y.key ys b g.0))

-- .. or of the other
pub first_hi : (s : Sum) (y : Cell) (xs ys : List Cell) → Above y.end y.key xs → join s xs (y ∷ ys) ≡ y ∷ join s xs ys
unfolding join
first_hi s y [] ys h = refl
first_hi s y (x ∷ xs) ys h = ap (add_cell s x) (first_hi s y xs ys h.1) ∙ add_hi s x y (join s xs ys) h.0

-- .. or both at once
pub first_eq : (s : Sum) (x y : Cell) (xs ys : List Cell) → Sorted (x ∷ xs) → x.end ≡ y.end → x.key ≡ y.key → join s (x ∷ xs) (y ∷ ys) ≡ record { end = y.end; key = y.key; value = together s y.value x.value } ∷ join s xs ys
unfolding join
first_eq s x y xs ys h n k = ap (add_cell s x) (first_hi s y xs ys (rw (n, k) at h.0)) ∙ add_eq s x y (join s xs ys) n k

pub none_left : (s : Sum) (xs : List Cell) → Sorted xs → join s xs [] ≡ xs
unfolding join
none_left s xs h = join_commutes s xs [] h tt

-- a value into either row is one into both joined
joined_together : (s : Sum) (a v : ℕ) → joined s a v ≡ together s a (first s v)
unfolding together joined first
joined_together Sum.Count a v = refl
joined_together Sum.Total a v = refl
joined_together Sum.Least a v = refl
joined_together Sum.Greatest a v = refl

into_join : (s : Sum) (n k v : ℕ) (cs : List Cell) → into s n k v cs ≡ join s (record { end = n; key = k; value = first s v } ∷ []) cs
unfolding into join add_cell
into_join s n k v [] = refl
into_join s n k v (c ∷ cs) = let ih : into s n k v cs ≡ join s (record { end = n; key = k; value = first s v } ∷ []) cs = into_join s n k v cs in grind (arith, nat_tests, joined_together)

pub into_left : (s : Sum) (n k v : ℕ) (xs ys : List Cell) → join s (into s n k v xs) ys ≡ into s n k v (join s xs ys)
into_left s n k v xs ys =
    let d : List Cell = record { end = n; key = k; value = first s v } ∷ [] in
    ap (λ (zs : List Cell). join s zs ys) (into_join s n k v xs) ∙ join_associates s d xs ys ∙ sym (into_join s n k v (join s xs ys))

pub into_right : (s : Sum) (n k v : ℕ) (xs ys : List Cell) → Sorted xs → join s xs (into s n k v ys) ≡ into s n k v (join s xs ys)
into_right s n k v xs ys h =
    let d : List Cell = record { end = n; key = k; value = first s v } ∷ [] in
    ap (join s xs) (into_join s n k v ys) ∙ sym (join_associates s xs d ys) ∙ ap (λ (zs : List Cell). join s zs ys) (join_commutes s xs d h (tt, tt) ∙ sym (into_join s n k v xs)) ∙ into_left s n k v xs ys

pub run_took : (s : Sum) (n k v : ℕ) (was now ys : List Cell) → now ≡ into s n k v was → join s now ys ≡ into s n k v (join s was ys)
run_took s n k v was now ys e = rw e (into_left s n k v was ys)

pub stray_took : (s : Sum) (n k v : ℕ) (was now xs ys : List Cell) → now ≡ was → Sorted now → ys ≡ into s n k v xs → join s now ys ≡ into s n k v (join s was xs)
stray_took s n k v was now xs ys e h t = rw t (into_right s n k v now xs h ∙ ap (λ (cs : List Cell). into s n k v (join s cs xs)) e)

-- what is left of a run from a place on
sorted_drop : (cs : List (Slot × Value)) (i : ℕ) → Sorted (map cell_of cs) → Sorted (map cell_of (drop i cs))
sorted_drop cs zero h = h
sorted_drop [] (suc i) h = tt
sorted_drop (c ∷ cs) (suc i) h = sorted_drop cs i h.1

bef_from : (n k m j : ℕ) → before n k m j ≡ true → Bef n k m j
bef_from n k m j h = grind (arith, nat_tests)

bef_else : (n k : ℕ) (c : Cell) → before c.end c.key n k ≡ false → is_of n k c ≡ false → Bef n k c.end c.key
bef_else n k c h g = grind (arith, nat_tests)

next : (cs : List (Slot × Value)) (i : ℕ) → i < length cs → map cell_of (drop i cs) ≡ cell_at cs i ∷ map cell_of (drop (i + 1) cs)
next cs i lt = rw add-one (head_is cs i lt)

module _ (run : List (Slot × Value)) (sorted : Sorted (map cell_of run)) (i : ℕ) where
  next_sorted : i < length run → Sorted (cell_at run i ∷ map cell_of (drop (i + 1) run))
  next_sorted lt = rw (next run i lt) at (sorted_drop run i sorted)

  pub pass_more : (n k from : ℕ) (was now new : List Event) → i < length run → true ≡ before (cell_at run i).end (cell_at run i).key n k → Leaves n k run from i was now → new ≡ now ++ (event_of (cell_at run i) ∷ []) → Leaves n k run from (i + 1) was new
  unfolding as_events
  pass_more n k from was now new lt b h e s v ys g =
      let d : Cell = record { end = n; key = k; value = v } in
      h s v ys g
      ∙ ap (λ (xs : List Cell). now ++ as_events xs) (ap (λ (xs : List Cell). join s xs (d ∷ ys)) (next run i lt) ∙ first_lo s (cell_at run i) d (map cell_of (drop (i + 1) run)) ys (next_sorted lt) g (bef_from _ _ n k (sym b)))
      ∙ sym (append_assoc now (event_of (cell_at run i) ∷ []) (as_events (join s (map cell_of (drop (i + 1) run)) (d ∷ ys))))
      ∙ ap (λ (xs : List Event). xs ++ as_events (join s (map cell_of (drop (i + 1) run)) (d ∷ ys))) (sym e)

  above_rest : (n k : ℕ) → (i < length run → before (cell_at run i).end (cell_at run i).key n k ≡ false) → false ≡ ltb i (length run) && is_of n k (cell_at run i) → Above n k (map cell_of (drop i run))
  above_rest n k b h = elim (cases_lt i (length run)) [
    | inl lt ↦
        let t : ltb i (length run) ≡ true = grind (arith, nat_tests) in
        let e : is_of n k (cell_at run i) ≡ false = sym (rw t at h) in
        let f : Bef n k (cell_at run i).end (cell_at run i).key = bef_else n k (cell_at run i) (b lt) e in
        rw (next run i lt) (f, above_trans n k (cell_at run i).end (cell_at run i).key (map cell_of (drop (i + 1) run)) f (next_sorted lt).0)
    | inr le ↦ rw (drop_all i run le) tt
  ]

  -- a stray that stands alone
  pub stray_alone : (s : Sum) (d : Cell) (ys : List Cell) (was now : List Event) {all : List Event} → was ++ as_events (join s (map cell_of (drop i run)) (d ∷ ys)) ≡ all →
      (i < length run → before (cell_at run i).end (cell_at run i).key d.end d.key ≡ false) → false ≡ ltb i (length run) && is_of d.end d.key (cell_at run i) → now ≡ was ++ (event_of d ∷ []) → now ++ as_events (join s (map cell_of (drop i run)) ys) ≡ all
  unfolding as_events
  stray_alone s d ys was now inv b h e =
      rw e (append_assoc was (event_of d ∷ []) (as_events (join s (map cell_of (drop i run)) ys)) ∙ ap (λ (xs : List Cell). was ++ as_events xs) (sym (first_hi s d (map cell_of (drop i run)) ys (above_rest d.end d.key b h))) ∙ inv)

  -- .. or with the cell of the run
  pub stray_both : (s : Sum) (d : Cell) (ys : List Cell) (was now : List Event) {all : List Event} → was ++ as_events (join s (map cell_of (drop i run)) (d ∷ ys)) ≡ all →
      true ≡ ltb i (length run) && is_of d.end d.key (cell_at run i) → (w : ℕ) → w ≡ together s d.value (cell_at run i).value → now ≡ was ++ (event_of (record { end = d.end; key = d.key; value = w }) ∷ []) → now ++ as_events (join s (map cell_of (drop (i + 1) run)) ys) ≡ all
  unfolding as_events
  stray_both s d ys was now inv h w v e =
      let lt : i < length run = grind (arith, nat_tests) in
      let n : (cell_at run i).end ≡ d.end = grind (arith, nat_tests) in
      let k : (cell_at run i).key ≡ d.key = grind (arith, nat_tests) in
      let j = first_eq s (cell_at run i) d (map cell_of (drop (i + 1) run)) ys (next_sorted lt) n k in
      let f = rw v at e in
      rw f (append_assoc was (event_of (record { end = d.end; key = d.key; value = together s d.value (cell_at run i).value }) ∷ []) (as_events (join s (map cell_of (drop (i + 1) run)) ys)) ∙ ap (λ (xs : List Cell). was ++ as_events xs) (sym j ∙ ap (λ (xs : List Cell). join s xs (d ∷ ys)) (sym (next run i lt))) ∙ inv)

-- what is left of the run once no stray is
pub cell_more : (xs : List (Slot × Value)) (i : ℕ) (was now : List Event) {all : List Event} → was ++ as_events (map cell_of (drop i xs)) ≡ all → i < length xs → now ≡ was ++ (event_of (cell_at xs i) ∷ []) → now ++ as_events (map cell_of (drop (i + 1) xs)) ≡ all
unfolding as_events
cell_more xs i was now inv lt e =
    rw e (append_assoc was (event_of (cell_at xs i) ∷ []) (as_events (map cell_of (drop (i + 1) xs))) ∙ ap (λ (cs : List Cell). was ++ as_events cs) (sym (next xs i lt)) ∙ inv)

pub all_out : (s : Sum) (run : List (Slot × Value)) → Sorted (map cell_of run) → (at i : ℕ) (it : List (Slot × Value)) (was now : List Event) {all : List Event} → was ++ as_events (join s (map cell_of (drop at run)) (map cell_of it)) ≡ all → it ≡ [] →
    now ++ as_events (map cell_of (drop i (take (length run - at) (drop at run)))) ≡ was ++ as_events (map cell_of (take (length run - at) (drop at run))) → length (take (length run - at) (drop at run)) ≤ i → now ≡ all
unfolding as_events
all_out s run sorted at i it was now inv none end out =
    let le : length (drop at run) ≤ length run - at = omega (arith, length-drop at run) in
    let t : take (length run - at) (drop at run) ≡ drop at run = take_all (length run - at) (drop at run) le in
    let o : now ≡ was ++ as_events (map cell_of (take (length run - at) (drop at run))) = sym (append-nil now) ∙ (rw (drop_all i (take (length run - at) (drop at run)) out) at end) in
    let j = none_left s (map cell_of (drop at run)) (sorted_drop run at sorted) in
    o ∙ ap (λ (xs : List (Slot × Value)). was ++ as_events (map cell_of xs)) t ∙ ap (λ (cs : List Cell). was ++ as_events cs) (sym j) ∙ (rw none at inv)

-- an event pushed
pub pushed : (xs new : List code.Event) (e : code.Event) (d : Cell) → new ≡ xs ++ (e ∷ []) → as_event e ≡ event_of d → map as_event new ≡ map as_event xs ++ (event_of d ∷ [])
pushed xs new e d g h = rw g (map_push as_event xs e ∙ ap (λ (x : Event). map as_event xs ++ (x ∷ [])) h)
