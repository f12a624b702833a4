-- Letting go of the least row, and taking an event, keep the flow; with nothing left to end, what came out is what comes through all stages.
use Rattle.std.proofs.Common.{◌≡◌, ℕ, zero, suc, ◌+◌, ◌-◌, ◌<◌, ◌≤◌, Bool, true, false, cond, eqb, ◌⊎◌, List, [], ◌∷◌, ◌++◌, length, drop, sym, refl, ap, ◌∙◌, subst, inl, inr, append_assoc, append-nil, arith, length-drop}
use Rattle.std.proofs.lemmas.Bool.{eq-eqb, ne_eqb, cases_eq, le-leb, lt-leb}
use Rattle.std.proofs.lemmas.Bool.Decides.{nat_tests}
use Rattle.streams.specs.Meaning.{Event, Stage, Cell, Sum, Count, Total, Least, Greatest, first, joined, into, word, end_of, less_by, cells, ended, as_events, through_stages}
use Rattle.book.specs.Rows.{Key, Row, Bef, Upto, put, join, add, Each, Above, Sorted}
use Rattle.book.specs.Flow.{row_of, as_event, Onward, On, Gone, onward_by, onward, rest, outs, stage_cells, Gones, Flow, Flows}
use Rattle.book.proofs.Rows.{Tri, lo, eq, hi, tri, bef_trans, add_lo, add_eq, add_hi}
use Rattle.book.proofs.Lists.{each_like, each_add, upto_self, upto_bef, upto_trans}
use Rattle.streams.specs.Order as order
use Rattle.streams.specs.Laws as laws
use Rattle.streams.proofs.Cells as MC
use Rattle.streams.proofs.Sorted as MS

abbrev cell : Row → Cell
cell r = record { end = r.at.end; key = r.at.key; value = r.value }

of_yes : (s : ℕ) (r : Row) (rs : List Row) → r.at.stage ≡ s → stage_cells s (r ∷ rs) ≡ cell r ∷ stage_cells s rs
unfolding stage_cells
of_yes s r rs e = rw (eq-eqb r.at.stage s e)

of_no : (s : ℕ) (r : Row) (rs : List Row) → (r.at.stage ≡ s → ⊥) → stage_cells s (r ∷ rs) ≡ stage_cells s rs
unfolding stage_cells
of_no s r rs e = rw (ne_eqb r.at.stage s e)

-- a row of another stage is none of this one's
add_other : (how : ℕ → Sum) (s : ℕ) (r : Row) (x : List Row) → (r.at.stage ≡ s → ⊥) → stage_cells s (add how r x) ≡ stage_cells s x
unfolding add
add_other how s r [] e = of_no s r [] e
add_other how s r (c ∷ cs) e = go (tri r.at c.at) (add_other how s r cs e)
  where
    go : Tri r.at c.at → stage_cells s (add how r cs) ≡ stage_cells s cs → stage_cells s (add how r (c ∷ cs)) ≡ stage_cells s (c ∷ cs)
    go (lo p) i = rw (add_lo how r c cs p) (of_no s r (c ∷ cs) e)
    go (eq p) i = let n : c.at.stage ≡ s → ⊥ = λ (q : c.at.stage ≡ s). e (ap (λ (k : Key). k.stage) p ∙ q) in rw (add_eq how r c cs p) (of_no s (join how c r) cs n ∙ sym (of_no s c cs n))
    go (hi p) i = rw (add_hi how r c cs p) (both (cases_eq c.at.stage s))
      where
        both : (c.at.stage ≡ s) ⊎ (c.at.stage ≡ s → ⊥) → stage_cells s (c ∷ add how r cs) ≡ stage_cells s (c ∷ cs)
        both (inl y) = of_yes s c (add how r cs) y ∙ ap (λ (z : List Cell). cell c ∷ z) i ∙ sym (of_yes s c cs y)
        both (inr n) = of_no s c (add how r cs) n ∙ i ∙ sym (of_no s c cs n)

put_first : (z : Sum) (a v : ℕ) → put z a (first z v) ≡ joined z a v
unfolding put first joined
put_first Count a v = refl
put_first Total a v = refl
put_first Least a v = refl
put_first Greatest a v = refl

cells_above : (s : ℕ) (k : Key) (x : List Row) → k.stage ≡ s → Above k x → order.Above k.end k.key (stage_cells s x)
unfolding stage_cells
cells_above s k [] e a = tt
cells_above s k (c ∷ cs) e a = go (cases_eq c.at.stage s) (cells_above s k cs e a.1)
  where
    pair : c.at.stage ≡ s → order.Bef k.end k.key c.at.end c.at.key
    pair y = let b : Bef k c.at = a.0 in grind arith

    go : (c.at.stage ≡ s) ⊎ (c.at.stage ≡ s → ⊥) → order.Above k.end k.key (stage_cells s cs) → order.Above k.end k.key (stage_cells s (c ∷ cs))
    go (inl y) i = subst (order.Above k.end k.key) (sym (of_yes s c cs y)) (pair y, i)
    go (inr n) i = subst (order.Above k.end k.key) (sym (of_no s c cs n)) i

into_hi : (z : Sum) (n k v : ℕ) (c : Cell) (cs : List Cell) → order.Bef c.end c.key n k → into z n k v (c ∷ cs) ≡ c ∷ into z n k v cs
unfolding into
into_hi z n k v c cs b = grind (arith, nat_tests)

into_eq : (z : Sum) (n k v w : ℕ) (cs : List Cell) → into z n k v (record { end = n; key = k; value = w } ∷ cs) ≡ record { end = n; key = k; value = joined z w v } ∷ cs
unfolding into
into_eq z n k v w cs = grind (arith, nat_tests)

-- a row of this stage goes into its cells
add_into : (how : ℕ → Sum) (s n k v : ℕ) (x : List Row) → Sorted x → stage_cells s (add how (record { at = record { end = n; stage = s; key = k }; value = first (how s) v }) x) ≡ into (how s) n k v (stage_cells s x)
unfolding add into stage_cells
add_into how s n k v [] h = of_yes s (record { at = record { end = n; stage = s; key = k }; value = first (how s) v }) [] refl
add_into how s n k v (c ∷ cs) h = go (tri a c.at) (add_into how s n k v cs h.1)
  where
    a : Key
    a = record { end = n; stage = s; key = k }

    r : Row
    r = record { at = a; value = first (how s) v }

    go : Tri a c.at → stage_cells s (add how r cs) ≡ into (how s) n k v (stage_cells s cs) → stage_cells s (add how r (c ∷ cs)) ≡ into (how s) n k v (stage_cells s (c ∷ cs))
    go (lo p) i = rw (add_lo how r c cs p) (of_yes s r (c ∷ cs) refl ∙ sym (MS.into_above (how s) n k v (stage_cells s (c ∷ cs)) (cells_above s a (c ∷ cs) refl (p, each_like (Bef c.at) (Bef a) (λ q. bef_trans a c.at q p) cs h.0))))
    go (eq p) i = rw (add_eq how r c cs p) (of_yes s (join how c r) cs (ap (λ (q : Key). q.stage) (sym p)) ∙ same ∙ sym (ap (into (how s) n k v) (of_yes s c cs (ap (λ (q : Key). q.stage) (sym p)))))
      where
        same : cell (join how c r) ∷ stage_cells s cs ≡ into (how s) n k v (cell c ∷ stage_cells s cs)
        same = subst (λ (q : Key). record { end = q.end; key = q.key; value = put (how q.stage) c.value (first (how s) v) } ∷ stage_cells s cs ≡ into (how s) n k v (record { end = q.end; key = q.key; value = c.value } ∷ stage_cells s cs)) p
            (ap (λ (y : ℕ). record { end = n; key = k; value = y } ∷ stage_cells s cs) (put_first (how s) c.value v) ∙ sym (into_eq (how s) n k v c.value (stage_cells s cs)))
    go (hi p) i = rw (add_hi how r c cs p) (both (cases_eq c.at.stage s))
      where
        pair : c.at.stage ≡ s → order.Bef c.at.end c.at.key n k
        pair y = let b : Bef c.at a = p in grind arith

        both : (c.at.stage ≡ s) ⊎ (c.at.stage ≡ s → ⊥) → stage_cells s (c ∷ add how r cs) ≡ into (how s) n k v (stage_cells s (c ∷ cs))
        both (inl y) = of_yes s c (add how r cs) y ∙ ap (λ (z : List Cell). cell c ∷ z) i ∙ sym (into_hi (how s) n k v (cell c) (stage_cells s cs) (pair y)) ∙ sym (ap (into (how s) n k v) (of_yes s c cs y))
        both (inr m) = of_no s c (add how r cs) m ∙ i ∙ sym (ap (into (how s) n k v) (of_no s c cs m))

-- into what comes after cells of earlier windows
abbrev Earlier : ℕ → List Cell → Type 0
Earlier n [] = Unit {0}
Earlier n (c ∷ cs) = (c.end < n) × Earlier n cs

into_behind : (z : Sum) (n k v : ℕ) (ps cs : List Cell) → Earlier n ps → into z n k v (ps ++ cs) ≡ ps ++ into z n k v cs
into_behind z n k v [] cs h = refl
into_behind z n k v (p ∷ ps) cs h = into_hi z n k v p (ps ++ cs) (inl h.0) ∙ ap (λ (y : List Cell). p ∷ y) (into_behind z n k v ps cs h.1)

-- stages with their ways and sizes
abbrev pub Fits : (ℕ → Sum) → ℕ → List Stage → Type 0
Fits how s [] = Unit {0}
Fits how s (st ∷ sts) = (how s ≡ st.sum) × (0 < st.size) × Fits how (suc s) sts

cells_mid : (st : Stage) (xs ys : List Event) (e : Event) → cells st (xs ++ (e ∷ ys)) ≡ laws.step st e (cells st (xs ++ ys))
unfolding cells
cells_mid st [] ys e = refl
cells_mid st (x ∷ xs) ys e = ap (laws.step st x) (cells_mid st xs ys e) ∙ MC.step_both st x e (cells st (xs ++ ys))

cells_end : (st : Stage) (xs : List Event) (e : Event) → cells st (xs ++ (e ∷ [])) ≡ laws.step st e (cells st xs)
cells_end st xs e = cells_mid st xs [] e ∙ ap (λ (z : List Event). laws.step st e (cells st z)) (append-nil xs)

gones_up : (s : ℕ) (b d : Key) (cs : List Cell) → Upto b d → Gones s b cs → Gones s d cs
gones_up s b d [] u g = tt
gones_up s b d (c ∷ cs) u g = (upto_trans (record { end = c.end; stage = s; key = c.key }) b d g.0 u, gones_up s b d cs u g.1)

gones_end : (s : ℕ) (b : Key) (cs : List Cell) (c : Cell) → Gones s b cs → Upto (record { end = c.end; stage = s; key = c.key }) b → Gones s b (cs ++ (c ∷ []))
gones_end s b [] c g u = (u, tt)
gones_end s b (x ∷ cs) c g u = (g.0, gones_end s b cs c g.1 u)

events_end : (cs : List Cell) (r : Row) → as_events (cs ++ (cell r ∷ [])) ≡ as_events cs ++ (as_event r ∷ [])
unfolding as_events
events_end [] r = refl
events_end (c ∷ cs) r = ap (λ (z : List Event). record { time = less_by 1 c.end; key = c.key; value = c.value } ∷ z) (events_end cs r)

-- other rows, of other stages
flow_same : (b d : Key) (s : ℕ) (sts : List Stage) (es : List Event) (x y : List Row) (os : List Event) → Upto b d → ((j : ℕ) → s ≤ j → stage_cells j y ≡ stage_cells j x) → Flow b s sts es x os → Flow d s sts es y os
flow_same b d s [] es x y os u q f = f
flow_same b d s (st ∷ sts) es x y os u q f = (f.0, ap (λ (z : List Cell). f.0 ++ z) (q s (omega arith)) ∙ f.1, gones_up s b d f.0 u f.2, flow_same b d (suc s) sts (as_events f.0) x y os u (λ j l. q j (omega arith)) f.3)

less_by_one : (n : ℕ) → less_by 1 n ≡ n - 1
unfolding less_by
less_by_one zero = omega arith
less_by_one (suc n) = omega arith

end_after : (z t : ℕ) → 0 < z → t < end_of z t
end_after z t h = omega arith

-- what was let go of the next stage is of earlier windows than a row that comes after the bound
gones_earlier : (s n : ℕ) (b r : Key) (cs : List Cell) → Bef b r → r.stage < s → r.end ≤ n → Gones s b cs → Earlier n cs
gones_earlier s n b r [] p l m g = tt
gones_earlier s n b r (c ∷ cs) p l m g = (one, gones_earlier s n b r cs p l m g.1)
  where
    one : c.end < n
    one = let u : Upto (record { end = c.end; stage = s; key = c.key }) b = g.0 in grind arith

gones_before : (s n : ℕ) (b : Key) (cs : List Cell) → b.end < n → Gones s b cs → Earlier n cs
gones_before s n b [] p g = tt
gones_before s n b (c ∷ cs) p g = (one, gones_before s n b cs p g.1)
  where
    one : c.end < n
    one = let u : Upto (record { end = c.end; stage = s; key = c.key }) b = g.0 in grind arith

-- an event into what was let go and what is left, where what was let go is of earlier windows
step_behind : (how : ℕ → Sum) (s : ℕ) (st : Stage) (e : Event) (gone : List Cell) (x : List Row) → how s ≡ st.sum → Earlier (end_of st.size e.time) gone → Sorted x → eqb (word st.keep' e) 0 ≡ false →
    gone ++ stage_cells s (add how (row_of st s e) x) ≡ laws.step st e (gone ++ stage_cells s x)
step_behind how s st e gone x q h sx t =
    rw t (ap (λ (z : List Cell). gone ++ z) (subst (λ (z : Sum). stage_cells s (add how (record { at = record { end = end_of st.size e.time; stage = s; key = word st.key e }; value = first z (word st.value e) }) x) ≡ into z (end_of st.size e.time) (word st.key e) (word st.value e) (stage_cells s x)) q (add_into how s (end_of st.size e.time) (word st.key e) (word st.value e) x sx))
    ∙ sym (into_behind st.sum (end_of st.size e.time) (word st.key e) (word st.value e) gone (stage_cells s x) h))

-- LETTING GO OF THE LEAST ROW: it is an event of the next stage
next_stage : (how : ℕ → Sum) (s : ℕ) (sts : List Stage) → Fits how (suc s) sts → (b : Key) (r : Row) (x : List Row) (es os : List Event) → Bef b r.at → Sorted x → r.at.stage ≡ s → Flow b (suc s) sts es (r ∷ x) os →
    Flow r.at (suc s) sts (es ++ (as_event r ∷ [])) (rest how (onward_by sts (suc s) (as_event r)) x) (outs (onward_by sts (suc s) (as_event r)) os)
unfolding onward_by
next_stage how s [] fit b r x es os p sx t f = ap (λ (z : List Event). z ++ (as_event r ∷ [])) f
next_stage how s (st ∷ sts) fit b r x es os p sx t f = go (eqb (word st.keep' (as_event r)) 0) refl
  where
    without : (j : ℕ) → suc s ≤ j → stage_cells j x ≡ stage_cells j (r ∷ x)
    without j l = sym (of_no j r x (λ (q : r.at.stage ≡ j). omega arith))

    was : f.0 ++ stage_cells (suc s) x ≡ cells st es
    was = ap (λ (z : List Cell). f.0 ++ z) (without (suc s) (omega arith)) ∙ f.1

    later : Earlier (end_of st.size (less_by 1 r.at.end)) f.0
    later = gones_earlier (suc s) (end_of st.size (less_by 1 r.at.end)) b r.at f.0 p (omega arith) (omega (arith, less_by_one r.at.end, end_after st.size (less_by 1 r.at.end) fit.1)) f.2

    go : (k : Bool) → eqb (word st.keep' (as_event r)) 0 ≡ k → Flow r.at (suc s) (st ∷ sts) (es ++ (as_event r ∷ [])) (rest how (cond k Gone (On (row_of st (suc s) (as_event r)))) x) (outs (cond k Gone (On (row_of st (suc s) (as_event r)))) os)
    go true q = (
      f.0,
      was ∙ sym (cells_end st es (as_event r) ∙ ap (λ (z : Bool). cond z (cells st es) (into st.sum (end_of st.size (less_by 1 r.at.end)) (word st.key (as_event r)) (word st.value (as_event r)) (cells st es))) q),
      gones_up (suc s) b r.at f.0 (upto_bef b r.at p) f.2,
      flow_same b r.at (suc (suc s)) sts (as_events f.0) (r ∷ x) x os (upto_bef b r.at p) (λ j l. without j (omega arith)) f.3,
    )
    go false q = (
      f.0,
      step_behind how (suc s) st (as_event r) f.0 x fit.0 later sx q ∙ ap (laws.step st (as_event r)) was ∙ sym (cells_end st es (as_event r)),
      gones_up (suc s) b r.at f.0 (upto_bef b r.at p) f.2,
      flow_same b r.at (suc (suc s)) sts (as_events f.0) (r ∷ x) (add how (row_of st (suc s) (as_event r)) x) os (upto_bef b r.at p) (λ j l. add_other how j (row_of st (suc s) (as_event r)) x (λ (q : suc s ≡ j). omega arith) ∙ without j (omega arith)) f.3,
    )

drop_tail : (s : ℕ) (xs : List Stage) (st : Stage) (sts : List Stage) → drop s xs ≡ st ∷ sts → drop (suc s) xs ≡ sts
drop_tail zero [] st sts e = cc
drop_tail zero (x ∷ xs) st sts e = cc
drop_tail (suc s) [] st sts e = cc
drop_tail (suc s) (x ∷ xs) st sts e = drop_tail s xs st sts e

-- what goes on is of the next stage
rest_other : (how : ℕ → Sum) (s n : ℕ) (sts : List Stage) (e : Event) (x : List Row) → (n ≡ s → ⊥) → stage_cells s (rest how (onward_by sts n e) x) ≡ stage_cells s x
unfolding onward_by
rest_other how s n [] e x h = refl
rest_other how s n (st ∷ sts) e x h = go (eqb (word st.keep' e) 0)
  where
    go : (k : Bool) → stage_cells s (rest how (cond k Gone (On (row_of st n e))) x) ≡ stage_cells s x
    go true = refl
    go false = add_other how s (row_of st n e) x h

pop_from : (how : ℕ → Sum) (all : List Stage) (s : ℕ) (sts : List Stage) → drop s all ≡ sts → Fits how s sts → (b : Key) (r : Row) (x : List Row) (es os : List Event) → Bef b r.at → Sorted x → s ≤ r.at.stage → r.at.stage < s + length sts →
    Flow b s sts es (r ∷ x) os → Flow r.at s sts es (rest how (onward all r) x) (outs (onward all r) os)
pop_from how all s [] d fit b r x es os p sx l m f = absurd (omega arith)
pop_from how all s (st ∷ sts) d fit b r x es os p sx l m f = go (cases_eq r.at.stage s) (λ (low : suc s ≤ r.at.stage). pop_from how all (suc s) sts (drop_tail s all st sts d) fit.2 b r x (as_events f.0) os p sx low (omega arith) f.3)
  where
    onw : List Stage → Onward
    onw ys = onward_by ys (suc r.at.stage) (as_event r)

    go : (r.at.stage ≡ s) ⊎ (r.at.stage ≡ s → ⊥) → (suc s ≤ r.at.stage → Flow r.at (suc s) sts (as_events f.0) (rest how (onward all r) x) (outs (onward all r) os)) → Flow r.at s (st ∷ sts) es (rest how (onward all r) x) (outs (onward all r) os)
    go (inl t) more = (
      f.0 ++ (cell r ∷ []),
      append_assoc f.0 (cell r ∷ []) (stage_cells s (rest how (onward all r) x)) ∙ ap (λ (z : List Cell). f.0 ++ (cell r ∷ z)) (rest_other how s (suc r.at.stage) (drop (suc r.at.stage) all) (as_event r) x (λ (q : suc r.at.stage ≡ s). omega arith)) ∙ ap (λ (z : List Cell). f.0 ++ z) (sym (of_yes s r x t)) ∙ f.1,
      gones_end s r.at f.0 (cell r) (gones_up s b r.at f.0 (upto_bef b r.at p) f.2) (subst (λ (z : ℕ). Upto (record { end = r.at.end; stage = z; key = r.at.key }) r.at) t (upto_self r.at)),
      subst (λ (es' : List Event). Flow r.at (suc s) sts es' (rest how (onward all r) x) (outs (onward all r) os)) (sym (events_end f.0 r))
          (subst (λ (o : Onward). Flow r.at (suc s) sts (as_events f.0 ++ (as_event r ∷ [])) (rest how o x) (outs o os)) (sym same) (next_stage how s sts fit.2 b r x (as_events f.0) os p sx t f.3)),
    )
      where
        same : onward all r ≡ onward_by sts (suc s) (as_event r)
        same = ap (λ (z : ℕ). onward_by (drop (suc z) all) (suc z) (as_event r)) t ∙ ap (λ (z : List Stage). onward_by z (suc s) (as_event r)) (drop_tail s all st sts d)
    go (inr t) more = (
      f.0,
      ap (λ (z : List Cell). f.0 ++ z) (rest_other how s (suc r.at.stage) (drop (suc r.at.stage) all) (as_event r) x (λ (q : suc r.at.stage ≡ s). omega arith) ∙ sym (of_no s r x t)) ∙ f.1,
      gones_up s b r.at f.0 (upto_bef b r.at p) f.2,
      more (low t),
    )
      where
        low : (r.at.stage ≡ s → ⊥) → suc s ≤ r.at.stage
        low n = omega arith

-- what holds of what is left, and of the row that goes on
abbrev Head : (Row → Type 0) → ℕ → Event → List Stage → Type 0
Head P n e [] = Unit {0}
Head P n e (st ∷ sts) = P (row_of st n e)

rest_each : (P : Key → Type 0) (how : ℕ → Sum) (n : ℕ) (sts : List Stage) (e : Event) (x : List Row) → Head (λ r. P r.at) n e sts → Each P x → Each P (rest how (onward_by sts n e) x)
unfolding onward_by
rest_each P how n [] e x h p = p
rest_each P how n (st ∷ sts) e x h p = go (eqb (word st.keep' e) 0)
  where
    go : (k : Bool) → Each P (rest how (cond k Gone (On (row_of st n e))) x)
    go true = p
    go false = each_add P how (row_of st n e) x h p

after_head : (how : ℕ → Sum) (s j : ℕ) (all : List Stage) (r : Row) → Fits how s all → Head (λ q. Bef r.at q.at) (suc r.at.stage) (as_event r) (drop j all)
after_head how s zero [] r f = tt
after_head how s (suc j) [] r f = tt
after_head how s zero (st ∷ sts) r f = let l : less_by 1 r.at.end < end_of st.size (less_by 1 r.at.end) = end_after st.size (less_by 1 r.at.end) f.1 in let o : less_by 1 r.at.end ≡ r.at.end - 1 = less_by_one r.at.end in after (end_of st.size (less_by 1 r.at.end)) (word st.key (as_event r)) (omega arith)
  where
    after : (n k : ℕ) → r.at.end ≤ n → Bef r.at (record { end = n; stage = suc r.at.stage; key = k })
    after n k l = grind arith
after_head how s (suc j) (st ∷ sts) r f = after_head how (suc s) j sts r f.2

stage_head : (n m : ℕ) (sts : List Stage) (e : Event) → (1 ≤ length sts → n < m) → Head (λ q. q.at.stage < m) n e sts
stage_head n m [] e h = tt
stage_head n m (st ∷ sts) e h = h (omega arith)

pub flows_pop : (how : ℕ → Sum) (sts : List Stage) (m : ℕ) (es : List Event) (r : Row) (x : List Row) (os : List Event) → Fits how 0 sts → Sorted (r ∷ x) → r.at.end ≤ m → Flows sts m es (r ∷ x) os → Flows sts m es (rest how (onward sts r) x) (outs (onward sts r) os)
flows_pop how sts m es r x os fit sx l f =
    record {
      bound = r.at;
      under = l;
      above = rest_each (Bef r.at) how (suc r.at.stage) (drop (suc r.at.stage) sts) (as_event r) x (after_head how 0 (suc r.at.stage) sts r fit) sx.0;
      stages = rest_each (λ k. k.stage < length sts) how (suc r.at.stage) (drop (suc r.at.stage) sts) (as_event r) x (stage_head (suc r.at.stage) (length sts) (drop (suc r.at.stage) sts) (as_event r) (λ (h : 1 ≤ length (drop (suc r.at.stage) sts)). omega (arith, length-drop (suc r.at.stage) sts))) f.stages.1;
      flow = pop_from how sts 0 sts refl fit f.bound r x es os f.above.0 sx.1 (omega arith) (omega (arith, f.stages.0)) f.flow;
    }

-- TAKING AN EVENT that is at the mark or after
abbrev pub take_row : (ℕ → Sum) → Stage → Event → List Row → List Row
take_row how st e x = cond (eqb (word st.keep' e) 0) x (add how (row_of st 0 e) x)

pub flows_take : (how : ℕ → Sum) (st : Stage) (sts : List Stage) (m : ℕ) (es : List Event) (e : Event) (x : List Row) (os : List Event) → Fits how 0 (st ∷ sts) → Sorted x → m ≤ e.time → Flows (st ∷ sts) m es x os → Flows (st ∷ sts) m (e ∷ es) (take_row how st e x) os
unfolding cells
flows_take how st sts m es e x os fit sx l f = go (eqb (word st.keep' e) 0) refl
  where
    far : f.bound.end < end_of st.size e.time
    far = omega (arith, f.under, end_after st.size e.time fit.1)

    go : (k : Bool) → eqb (word st.keep' e) 0 ≡ k → Flows (st ∷ sts) m (e ∷ es) (cond k x (add how (row_of st 0 e) x)) os
    go true q = record {
      bound = f.bound;
      under = f.under;
      above = f.above;
      stages = f.stages;
      flow = (f.flow.0, f.flow.1 ∙ ap (λ (z : Bool). cond z (cells st es) (into st.sum (end_of st.size e.time) (word st.key e) (word st.value e) (cells st es))) (sym q), f.flow.2, f.flow.3);
    }
    go false q = record {
      bound = f.bound;
      under = f.under;
      above = each_add (Bef f.bound) how (row_of st 0 e) x (inl far) f.above;
      stages = each_add (λ k. k.stage < suc (length sts)) how (row_of st 0 e) x (omega arith) f.stages;
      flow = (
        f.flow.0,
        step_behind how 0 st e f.flow.0 x fit.0 (gones_before 0 (end_of st.size e.time) f.bound f.flow.0 far f.flow.2) sx q ∙ ap (laws.step st e) f.flow.1,
        f.flow.2,
        flow_same f.bound f.bound 1 sts (as_events f.flow.0) x (add how (row_of st 0 e) x) os (upto_self f.bound) (λ j l. add_other how j (row_of st 0 e) x (λ (z : 0 ≡ j). omega arith)) f.flow.3,
      );
    }

-- WHEN NOTHING LEFT HAS ENDED
ended_gone : (m s : ℕ) (b : Key) (gone cs : List Cell) → b.end ≤ m → Gones s b gone → ended m (gone ++ cs) ≡ gone ++ ended m cs
unfolding ended
ended_gone m s b [] cs h g = refl
ended_gone m s b (c ∷ gone) cs h g = rw (le-leb c.end m one) (ap (λ (z : List Cell). c ∷ z) (ended_gone m s b gone cs h g.1))
  where
    one : c.end ≤ m
    one = let u : Upto (record { end = c.end; stage = s; key = c.key }) b = g.0 in grind arith

ended_none : (m s : ℕ) (x : List Row) → Each (λ k. m < k.end) x → ended m (stage_cells s x) ≡ []
unfolding ended stage_cells
ended_none m s [] h = refl
ended_none m s (c ∷ cs) h = go (eqb c.at.stage s) (ended_none m s cs h.1)
  where
    go : (k : Bool) → ended m (stage_cells s cs) ≡ [] → ended m (cond k (cell c ∷ stage_cells s cs) (stage_cells s cs)) ≡ []
    go true i = rw (lt-leb c.at.end m h.0) i
    go false i = i

flow_done : (m : ℕ) (b : Key) (s : ℕ) (sts : List Stage) (es : List Event) (x : List Row) (os : List Event) → b.end ≤ m → Each (λ k. m < k.end) x → Flow b s sts es x os → os ≡ through_stages sts m es
unfolding through_stages
flow_done m b s [] es x os u h f = f
flow_done m b s (st ∷ sts) es x os u h f =
    flow_done m b (suc s) sts (as_events f.0) x os u h f.3
    ∙ ap (λ (z : List Cell). through_stages sts m (as_events z)) (sym (append-nil f.0) ∙ ap (λ (z : List Cell). f.0 ++ z) (sym (ended_none m s x h)) ∙ sym (ended_gone m s b f.0 (stage_cells s x) u f.2) ∙ ap (ended m) f.1)

pub flows_done : (sts : List Stage) (m : ℕ) (es : List Event) (x : List Row) (os : List Event) → Each (λ k. m < k.end) x → Flows sts m es x os → os ≡ through_stages sts m es
flows_done sts m es x os h f = flow_done m f.bound 0 sts es x os f.under h f.flow

-- AT FIRST, and when the mark rises
flow_first : (b : Key) (s : ℕ) (sts : List Stage) → Flow b s sts [] [] []
unfolding cells stage_cells as_events
flow_first b s [] = refl
flow_first b s (st ∷ sts) = ([], refl, tt, flow_first b (suc s) sts)

pub flows_first : (sts : List Stage) (m : ℕ) → Flows sts m [] [] []
flows_first sts m = record { bound = record { end = 0; stage = 0; key = 0 }; under = omega arith; above = tt; stages = tt; flow = flow_first (record { end = 0; stage = 0; key = 0 }) 0 sts }

pub flows_later : (sts : List Stage) (m n : ℕ) (es : List Event) (x : List Row) (os : List Event) → m ≤ n → Flows sts m es x os → Flows sts n es x os
flows_later sts m n es x os l f = record { bound = f.bound; under = omega (arith, f.under); above = f.above; stages = f.stages; flow = f.flow }
