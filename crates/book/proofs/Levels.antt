-- Levels never fall, at most one has one segment too many, and a segment of a level has twice as many rows below it as one of the level below: so the ledger is short.
use Rattle.std.proofs.Common.{◌≡◌, ℕ, zero, suc, ◌+◌, ◌-◌, ◌*◌, ◌/◌, ◌<◌, ◌≤◌, Bool, true, false, cond, eqb, ltb, leb, ◌⊎◌, List, [], ◌∷◌, ◌++◌, length, take, drop, sym, refl, ap, ◌∙◌, subst, inl, inr, arith, length-append, length-drop, length-take}
use Rattle.std.proofs.lemmas.Bool.{eq-eqb, ne_eqb, ltb-true, ltb-false, lt-ltb, le-ltb, cases_eq}
use Rattle.streams.specs.Meaning.{Event, Entry, Plan, Stage, Sum, less_by, word}
use Rattle.streams.proofs.Logs.{less_by_is}
use Rattle.book.specs.Rows.{Row, onto}
use Rattle.book.specs.Queue.{Link, nil, page, Seg, Page, Blank, RowPage, IndexPage, Pages, Write, written, Queue, place, places, lower_by, pack_by, sift_by, unpack_by, open_by, is_of, pick, Spilled, split_by, one_page, too_full, merge_by, spill_by, spill_at, page_of, head_at}
use Rattle.book.specs.Held.{Segs, none, plain, packed, Held, heads, level_of, queue_of, SegsIn, LeanSegs, Free}
use Rattle.book.specs.Flow.{how_of, row_of, Onward, Out, On, Gone, onward}
use Rattle.book.specs.Due.{Sizes, SizesOk, Emitted, go_on, popped, then', emit_by, emit, Step, Spill, Lower, Pack, Sift, Emit, Unpack, Open, Due, Nothing, Do, Crowd, calm, crowded, crowd, due_crowd, due, shows, index_of, do', pack_many, take', at_level, below_level}
use Rattle.book.specs.Ledger.{Taken, taken_of, Ledger, watermark, has_room, take_events, new_events, Task, Publish, Tidy, Want, wanted_by, wanted}
use Rattle.book.specs.Book.{Book, taken_events, SoundBook, turn_of, after_turn}
use Rattle.book.specs.Small.{PageFit, total, Fits}
use Rattle.book.specs.Interface.{horizon}
use Rattle.book.specs.Real.{sizes}
use Rattle.book.specs.Words.{write_all, write_list, write_taken, write_event, write_row, write_seg, write_queue, write_ledger}
use Rattle.book.specs.Levels.{Climb, Flat, FlatPage, OneOver, Levels, LevelsKept, LedgerShort}
use Rattle.book.proofs.Due.{crowd_tells, ready, Ready, levels_apart}
use Rattle.book.proofs.Book.{logs_long}
use Rattle.book.proofs.Deep.{lows, lows_few}
use Rattle.book.proofs.Limits.{rows_long, segs_long, events_long, taken_total}
use Rattle.book.proofs.Real.{bytes_long, bytes_most}

-- COUNTING
at_append : (v : ℕ) (ss ts : List Seg) → at_level v (ss ++ ts) ≡ at_level v ss + at_level v ts
unfolding at_level
at_append v [] ts = omega arith
at_append v (s ∷ ss) ts = go (eqb s.level v) (at_append v ss ts)
  where
    go : (b : Bool) → at_level v (ss ++ ts) ≡ at_level v ss + at_level v ts → cond b (suc (at_level v (ss ++ ts))) (at_level v (ss ++ ts)) ≡ cond b (suc (at_level v ss)) (at_level v ss) + at_level v ts
    go true i = omega arith
    go false i = i

at_most_one : (v : ℕ) (s : Seg) (ss : List Seg) → at_level v (s ∷ ss) ≤ suc (at_level v ss)
unfolding at_level
at_most_one v s ss = elim (eqb s.level v) as (λ b. cond b (suc (at_level v ss)) (at_level v ss) ≤ suc (at_level v ss)) [ true ↦ omega arith | false ↦ omega arith ]

at_skip : (v : ℕ) (s : Seg) (ss : List Seg) → (s.level ≡ v → ⊥) → at_level v (s ∷ ss) ≡ at_level v ss
unfolding at_level
at_skip v s ss h = rw (ne_eqb s.level v h)

at_here : (v : ℕ) (s : Seg) (ss : List Seg) → s.level ≡ v → at_level v (s ∷ ss) ≡ suc (at_level v ss)
unfolding at_level
at_here v s ss h = rw (eq-eqb s.level v h)

at_rest : (v : ℕ) (s : Seg) (ss : List Seg) → at_level v ss ≤ at_level v (s ∷ ss)
unfolding at_level
at_rest v s ss = elim (eqb s.level v) as (λ b. at_level v ss ≤ cond b (suc (at_level v ss)) (at_level v ss)) [ true ↦ omega arith | false ↦ omega arith ]

flat_all : (v : ℕ) (ss : List Seg) → Flat v ss → at_level v ss ≡ length ss
unfolding at_level
flat_all v [] f = refl
flat_all v (s ∷ ss) f = rw (eq-eqb s.level v f.0) (ap suc (flat_all v ss f.1))

flat_none : (u v : ℕ) (ss : List Seg) → (v ≡ u → ⊥) → Flat v ss → at_level u ss ≡ 0
unfolding at_level
flat_none u v [] h f = refl
flat_none u v (s ∷ ss) h f = rw (ne_eqb s.level u (λ (e : s.level ≡ u). h (sym f.0 ∙ e))) (flat_none u v ss h f.1)

-- CLIMBING
climb_down : (u v : ℕ) (ss : List Seg) → u ≤ v → Climb v ss → Climb u ss
climb_down u v [] h c = tt
climb_down u v (s ∷ ss) h c = (omega (arith, h, c.0), c.1)

climb_none : (u v : ℕ) (ss : List Seg) → u < v → Climb v ss → at_level u ss ≡ 0
unfolding at_level
climb_none u v [] h c = refl
climb_none u v (s ∷ ss) h c = rw (ne_eqb s.level u (λ (e : s.level ≡ u). omega (arith, h, c.0, e))) (climb_none u s.level ss (omega (arith, h, c.0)) c.1)

climb_below : (v : ℕ) (ss : List Seg) → Climb v ss → below_level v ss ≡ 0
unfolding below_level
climb_below v [] c = refl
climb_below v (s ∷ ss) c = rw (le-ltb s.level v c.0) (climb_below v ss (climb_down v s.level ss c.0 c.1))

flat_climb : (v : ℕ) (ss ts : List Seg) → Flat v ss → Climb v ts → Climb v (ss ++ ts)
flat_climb v [] ts f c = c
flat_climb v (s ∷ ss) ts f c = (omega (arith, f.0), subst (λ (u : ℕ). Climb u (ss ++ ts)) (sym f.0) (flat_climb v ss ts f.1 c))

-- WHERE A LEVEL LIES: so many of it from there on, and behind them only higher ones
level_run : (v k : ℕ) (ss : List Seg) → Climb v ss → k ≡ at_level v ss → Flat v (take k ss) × Climb (suc v) (drop k ss)
unfolding at_level
level_run v zero [] c e = (tt, tt)
level_run v (suc k) [] c e = absurd (omega arith)
level_run v k (s ∷ ss) c e = go (cases_eq s.level v) k e (λ (j : ℕ) (q : s.level ≡ v). level_run v j ss (subst (λ (u : ℕ). Climb u ss) q c.1))
  where
    go : (s.level ≡ v) ⊎ (s.level ≡ v → ⊥) → (i : ℕ) → i ≡ cond (eqb s.level v) (suc (at_level v ss)) (at_level v ss) → ((j : ℕ) → s.level ≡ v → j ≡ at_level v ss → Flat v (take j ss) × Climb (suc v) (drop j ss)) → Flat v (take i (s ∷ ss)) × Climb (suc v) (drop i (s ∷ ss))
    go (inl q) zero d ih = absurd (omega (arith, d ∙ ap (λ (b : Bool). cond b (suc (at_level v ss)) (at_level v ss)) (eq-eqb s.level v q)))
    go (inl q) (suc j) d ih = let r : Flat v (take j ss) × Climb (suc v) (drop j ss) = ih j q (omega (arith, d ∙ ap (λ (b : Bool). cond b (suc (at_level v ss)) (at_level v ss)) (eq-eqb s.level v q))) in ((q, r.0), r.1)
    go (inr q) zero d ih = (tt, (omega (arith, c.0, λ (i : s.level ≡ v). q i), c.1))
    go (inr q) (suc j) d ih = absurd (omega (arith, d ∙ ap (λ (b : Bool). cond b (suc (at_level v ss)) (at_level v ss)) (ne_eqb s.level v q), climb_none v s.level ss (omega (arith, c.0, λ (i : s.level ≡ v). q i)) c.1))

-- PACK: the upper part of a level
record Packs (u v i k : ℕ) (ss : List Seg) : Type 0 where
  flat : Flat v (take k (drop i ss))
  all : (new : Seg) → new.level ≡ suc v → Climb u (take i ss ++ (new ∷ drop k (drop i ss)))

pack_run : (u v i j k : ℕ) (ss : List Seg) → Climb u ss → i ≡ below_level v ss + j → j + k ≡ at_level v ss → 1 ≤ k → Packs u v i k ss
unfolding at_level below_level
pack_run u v i j k [] c e d h = absurd (omega arith)
pack_run u v i j k (s ∷ ss) c e d h = go (Rattle.std.proofs.lemmas.Bool.cases_order s.level v) i j e d (λ (i' j' : ℕ). pack_run s.level v i' j' k ss c.1)
  where
    go : (s.level ≡ v) ⊎ ((s.level < v) ⊎ (v < s.level)) → (a b : ℕ) → a ≡ cond (ltb s.level v) (suc (below_level v ss)) (below_level v ss) + b → b + k ≡ cond (eqb s.level v) (suc (at_level v ss)) (at_level v ss) →
        ((i' j' : ℕ) → i' ≡ below_level v ss + j' → j' + k ≡ at_level v ss → 1 ≤ k → Packs s.level v i' k ss) → Packs u v a k (s ∷ ss)
    go (inr (inl q)) zero b x y ih = absurd (omega (arith, x ∙ ap (λ (t : Bool). cond t (suc (below_level v ss)) (below_level v ss) + b) (lt-ltb s.level v q)))
    go (inr (inl q)) (suc a) b x y ih = on (ih a b (omega (arith, x ∙ ap (λ (t : Bool). cond t (suc (below_level v ss)) (below_level v ss) + b) (lt-ltb s.level v q))) (y ∙ ap (λ (t : Bool). cond t (suc (at_level v ss)) (at_level v ss)) (ne_eqb s.level v (λ (w : s.level ≡ v). omega arith))) h)
      where
        on : Packs s.level v a k ss → Packs u v (suc a) k (s ∷ ss)
        on r = record { flat = r.flat; all = λ new n. (c.0, r.all new n) }
    go (inr (inr q)) a b x y ih = absurd (omega (arith, h, y ∙ ap (λ (t : Bool). cond t (suc (at_level v ss)) (at_level v ss)) (ne_eqb s.level v (λ (w : s.level ≡ v). omega arith)), climb_none v s.level ss q c.1))
    go (inl q) zero b x y ih = here
      where
        none_below : below_level v ss ≡ 0
        none_below = climb_below v ss (subst (λ (w : ℕ). Climb w ss) q c.1)

        b_zero : b ≡ 0
        b_zero = omega (arith, x ∙ ap (λ (t : Bool). cond t (suc (below_level v ss)) (below_level v ss) + b) (le-ltb s.level v (omega (arith, q))))

        run : Flat v (take k (s ∷ ss)) × Climb (suc v) (drop k (s ∷ ss))
        run = level_run v k (s ∷ ss) (omega (arith, q), c.1) (omega (arith, y, b_zero))

        here : Packs u v 0 k (s ∷ ss)
        here = record { flat = run.0; all = λ new n. (omega (arith, n, c.0, q), subst (λ (w : ℕ). Climb w (drop k (s ∷ ss))) (sym n) run.1) }
    go (inl q) (suc a) b x y ih = by b x y
      where
        none_below : below_level v ss ≡ 0
        none_below = climb_below v ss (subst (λ (w : ℕ). Climb w ss) q c.1)

        by : (b' : ℕ) → suc a ≡ cond (ltb s.level v) (suc (below_level v ss)) (below_level v ss) + b' → b' + k ≡ cond (eqb s.level v) (suc (at_level v ss)) (at_level v ss) → Packs u v (suc a) k (s ∷ ss)
        by zero x' y' = absurd (omega (arith, none_below, x' ∙ ap (λ (t : Bool). cond t (suc (below_level v ss)) (below_level v ss) + 0) (le-ltb s.level v (omega (arith, q)))))
        by (suc b') x' y' = on (ih a b' (omega (arith, x' ∙ ap (λ (t : Bool). cond t (suc (below_level v ss)) (below_level v ss) + suc b') (le-ltb s.level v (omega (arith, q))))) (omega (arith, y' ∙ ap (λ (t : Bool). cond t (suc (at_level v ss)) (at_level v ss)) (eq-eqb s.level v q))) h)
          where
            on : Packs s.level v a k ss → Packs u v (suc a) k (s ∷ ss)
            on r = record { flat = r.flat; all = λ new n. (c.0, r.all new n) }

parts_count : (w i k : ℕ) (ss : List Seg) → at_level w ss ≡ at_level w (take i ss) + (at_level w (take k (drop i ss)) + at_level w (drop k (drop i ss)))
parts_count w i k ss = ap (at_level w) (sym (lib.ListN.take-append-drop i ss)) ∙ at_append w (take i ss) (drop i ss) ∙ ap (λ (n : ℕ). at_level w (take i ss) + n) (ap (at_level w) (sym (lib.ListN.take-append-drop k (drop i ss))) ∙ at_append w (take k (drop i ss)) (drop k (drop i ss)))

pack_over : (z v i j k : ℕ) (ss : List Seg) (new : Seg) → ((w : ℕ) → (w ≡ v → ⊥) → at_level w ss ≤ z) → j ≤ z → j + k ≡ at_level v ss → length (take k (drop i ss)) ≡ k → Flat v (take k (drop i ss)) → new.level ≡ suc v → OneOver z (take i ss ++ (new ∷ drop k (drop i ss)))
pack_over z v i j k ss new o hj e len fl n = (suc v, others, one)
  where
    rest : List Seg
    rest = drop k (drop i ss)

    whole : (w : ℕ) → at_level w (take i ss ++ (new ∷ rest)) ≡ at_level w (take i ss) + at_level w (new ∷ rest)
    whole w = at_append w (take i ss) (new ∷ rest)

    others : (w : ℕ) → (w ≡ suc v → ⊥) → at_level w (take i ss ++ (new ∷ rest)) ≤ z
    others w h = go (cases_eq w v)
      where
        skip : at_level w (new ∷ rest) ≡ at_level w rest
        skip = at_skip w new rest (λ (q : new.level ≡ w). h (sym q ∙ n))

        go : (w ≡ v) ⊎ (w ≡ v → ⊥) → at_level w (take i ss ++ (new ∷ rest)) ≤ z
        go (inl q) = subst (λ (x : ℕ). at_level x (take i ss ++ (new ∷ rest)) ≤ z) (sym q) (omega (arith, at_append v (take i ss) (new ∷ rest), at_skip v new rest (λ (r : new.level ≡ v). omega (arith, r, n)), parts_count v i k ss, flat_all v (take k (drop i ss)) fl, len, e, hj))
        go (inr q) = omega (arith, whole w, skip, parts_count w i k ss, o w q)

    one : at_level (suc v) (take i ss ++ (new ∷ rest)) ≤ suc z
    one = omega (arith, whole (suc v), at_most_one (suc v) new rest, parts_count (suc v) i k ss, o (suc v) (λ (r : suc v ≡ v). omega (arith, r)))

-- CALM: no level has too many
crowd_none : (z : ℕ) (all ss : List Seg) → crowd z all ss ≡ calm → (v : ℕ) → 1 ≤ at_level v ss → at_level v all ≤ z
unfolding crowd at_level
crowd_none z all [] e v h = absurd (omega arith)
crowd_none z all (s ∷ ss) e v h = go (ltb z (at_level s.level all)) refl e (crowd_none z all ss) (cases_eq s.level v)
  where
    go : (b : Bool) → ltb z (at_level s.level all) ≡ b → cond b (crowded s.level) (crowd z all ss) ≡ calm → (crowd z all ss ≡ calm → (w : ℕ) → 1 ≤ at_level w ss → at_level w all ≤ z) → (s.level ≡ v) ⊎ (s.level ≡ v → ⊥) → at_level v all ≤ z
    go true t d ih q = absurd (let k : ◌≡◌ {A = ℕ} 0 1 = cc in omega arith)
    go false t d ih (inl q) = subst (λ (w : ℕ). at_level w all ≤ z) q (ltb-false z (at_level s.level all) t)
    go false t d ih (inr q) = ih d v (omega (arith, h, ap (λ (b : Bool). cond b (suc (at_level v ss)) (at_level v ss)) (ne_eqb s.level v q)))

abbrev Calm : ℕ → List Seg → Type 0
Calm z ss = (v : ℕ) → at_level v ss ≤ z

is_calm : (z : ℕ) (ss : List Seg) → crowd z ss ss ≡ calm → Calm z ss
is_calm z ss e v = go (at_level v ss) refl
  where
    go : (n : ℕ) → at_level v ss ≡ n → at_level v ss ≤ z
    go zero q = omega arith
    go (suc n) q = crowd_none z ss ss e v (omega arith)

calm_over : (z : ℕ) (ss : List Seg) → Calm z ss → OneOver z ss
calm_over z ss c = (0, (λ v h. c v), omega (arith, c 0))

-- SPILL
abbrev Zero : Seg → Type 0
Zero s = s.index ≡ nil → s.level ≡ 0

abbrev Zeros : List Seg → Type 0
Zeros [] = Unit {0}
Zeros (s ∷ ss) = Zero s × Zeros ss

heads_zeros : (ss : Segs) → Zeros (heads ss)
heads_zeros none = tt
heads_zeros (plain low c ss) = ((λ (e : nil ≡ nil). refl), heads_zeros ss)
heads_zeros (packed low n inner c ss) = ((λ (e : page n ≡ nil). absurd (let k : ◌≡◌ {A = ℕ} 0 1 = cc in omega arith)), heads_zeros ss)

data Like (s : Seg) : List Seg → Type 0 where
  one : (t : Seg) → t.level ≡ s.level → Like s (t ∷ [])
  two : (t u : Seg) → t.level ≡ 0 → u.level ≡ 0 → s.level ≡ 0 → Like s (t ∷ u ∷ [])

split_like : (n : ℕ) (s : Seg) (xs ys : List Row) → s.level ≡ 0 → Like s (split_by n s xs ys).segs
unfolding split_by
split_like n s xs [] e = one (record { low = s.low; index = nil; head = page n; level = 0 }) (sym e)
split_like n s xs (y ∷ ys) e = two (record { low = s.low; index = nil; head = page n; level = 0 }) (record { low = y.at; index = nil; head = page (suc n); level = 0 }) refl refl e

one_like : (n : ℕ) (s : Seg) (b : Link) (rows : List Row) → Like s (one_page n s b rows).segs
one_like n s b rows = one (record { low = s.low; index = s.index; head = page n; level = s.level }) refl

full_like : (n : ℕ) (s : Seg) (i b : Link) (rows moved : List Row) → s.index ≡ i → Zero s → Like s (too_full n s i b rows moved).segs
unfolding too_full
full_like n s nil nil rows moved e z = split_like n s (take (length rows / 2) rows) (drop (length rows / 2) rows) (z e)
full_like n s (page i) nil rows moved e z = one_like n s s.head moved
full_like n s nil (page b) rows moved e z = one_like n s s.head moved
full_like n s (page i) (page b) rows moved e z = one_like n s s.head moved

merge_like : (size n : ℕ) (s : Seg) (b : Link) (rows moved : List Row) → Zero s → Like s (merge_by size n s b rows moved).segs
unfolding merge_by
merge_like size n s b rows moved z = go (leb (length rows) size)
  where
    go : (c : Bool) → Like s (cond {A = Spilled} c (one_page n s b rows) (too_full n s s.index b rows moved)).segs
    go true = one_like n s b rows
    go false = full_like n s s.index b rows moved refl z

spill_like : (how : ℕ → Sum) (size n : ℕ) (shown : Page) (head : Link) (s : Seg) (moved : List Row) → Zero s → Like s (spill_by how size n shown head s moved).segs
unfolding spill_by
spill_like how size n Blank nil s moved z = one_like n s nil moved
spill_like how size n (RowPage b rs) nil s moved z = one_like n s nil moved
spill_like how size n (IndexPage ss) nil s moved z = one_like n s nil moved
spill_like how size n Blank (page h) s moved z = one_like n s nil moved
spill_like how size n (IndexPage ss) (page h) s moved z = one_like n s nil moved
spill_like how size n (RowPage b rs) (page h) s moved z = merge_like size n s b (onto how moved rs) moved z

like_climb : (u : ℕ) (s : Seg) (ts ss : List Seg) → Like s ts → Climb u (s ∷ ss) → Climb u (ts ++ ss)
like_climb u s ts ss (one t e) c = (omega (arith, e, c.0), subst (λ (v : ℕ). Climb v ss) (sym e) c.1)
like_climb u s ts ss (two t w e g h) c = (omega (arith, e, h, c.0), (omega (arith, e, g), subst (λ (v : ℕ). Climb v ss) (h ∙ sym g) c.1))

like_count : (v : ℕ) (s : Seg) (ts ss : List Seg) → Like s ts → ((v ≡ 0 → ⊥) → at_level v (ts ++ ss) ≤ at_level v (s ∷ ss)) × (at_level v (ts ++ ss) ≤ suc (at_level v (s ∷ ss)))
unfolding at_level
like_count v s ts ss (one t e) = ((λ (h : v ≡ 0 → ⊥). omega (arith, same)), omega (arith, same))
  where
    same : cond (eqb t.level v) (suc (at_level v ss)) (at_level v ss) ≡ cond (eqb s.level v) (suc (at_level v ss)) (at_level v ss)
    same = ap (λ (x : ℕ). cond (eqb x v) (suc (at_level v ss)) (at_level v ss)) e
like_count v s ts ss (two t w e g h) = ((λ (q : v ≡ 0 → ⊥). omega (arith, at_skip v t (w ∷ ss) (λ (r : t.level ≡ v). q (sym r ∙ e)), at_skip v w ss (λ (r : w.level ≡ v). q (sym r ∙ g)), at_rest v s ss)), over (cases_eq v 0))
  where
    over : (v ≡ 0) ⊎ (v ≡ 0 → ⊥) → at_level v (t ∷ w ∷ ss) ≤ suc (at_level v (s ∷ ss))
    over (inl q) = omega (arith, at_most_one v t (w ∷ ss), at_most_one v w ss, at_here v s ss (h ∙ sym q))
    over (inr q) = omega (arith, at_skip v t (w ∷ ss) (λ (r : t.level ≡ v). q (sym r ∙ e)), at_skip v w ss (λ (r : w.level ≡ v). q (sym r ∙ g)), at_rest v s ss)

grow_by : (v k : ℕ) (s : Seg) (ts ss : List Seg) → at_level v ts ≤ k + at_level v ss → at_level v (s ∷ ts) ≤ k + at_level v (s ∷ ss)
unfolding at_level
grow_by v k s ts ss h = elim (eqb s.level v) as (λ b. cond b (suc (at_level v ts)) (at_level v ts) ≤ k + cond b (suc (at_level v ss)) (at_level v ss)) [ true ↦ omega arith | false ↦ h ]

record Spills (u : ℕ) (ss ts : List Seg) : Type 0 where
  climb : Climb u ts
  others : (v : ℕ) → (v ≡ 0 → ⊥) → at_level v ts ≤ at_level v ss
  most : (v : ℕ) → at_level v ts ≤ suc (at_level v ss)

spill_levels : (how : ℕ → Sum) (size n : ℕ) (shown : Page) (u i : ℕ) (ss : List Seg) (moved : List Row) → Zeros ss → Climb u ss → Spills u ss (spill_at how size n shown i ss moved).segs
unfolding spill_at
spill_levels how size n shown u zero [] moved z c = record { climb = tt; others = λ v h. omega arith; most = λ v. omega arith }
spill_levels how size n shown u (suc i) [] moved z c = record { climb = tt; others = λ v h. omega arith; most = λ v. omega arith }
spill_levels how size n shown u zero (s ∷ ss) moved z c =
    let l : Like s (spill_by how size n shown s.head s moved).segs = spill_like how size n shown s.head s moved z.0 in
    record { climb = like_climb u s (spill_by how size n shown s.head s moved).segs ss l c; others = λ v h. (like_count v s (spill_by how size n shown s.head s moved).segs ss l).0 h; most = λ v. (like_count v s (spill_by how size n shown s.head s moved).segs ss l).1 }
spill_levels how size n shown u (suc i) (s ∷ ss) moved z c = on (spill_levels how size n shown s.level i ss moved z.1 c.1)
  where
    ts : List Seg
    ts = (spill_at how size n shown i ss moved).segs

    on : Spills s.level ss ts → Spills u (s ∷ ss) (s ∷ ts)
    on r = record { climb = (c.0, r.climb); others = λ v h. omega (arith, grow_by v 0 s ts ss (omega (arith, r.others v h))); most = λ v. omega (arith, grow_by v 1 s ts ss (omega (arith, r.most v))) }

-- SEGMENTS THAT STAY
place_segments : (how : ℕ → Sum) (r : Row) (q : Queue) → (place how r q).segments ≡ q.segments
unfolding place
place_segments how r q = go (Rattle.book.specs.Queue.goes_up q.segments r.at)
  where
    go : (b : Bool) → (cond {A = Queue} b (record { front = q.front; buffer = Rattle.book.specs.Rows.add how r q.buffer; segments = q.segments; source = q.source; next = q.next }) (record { front = Rattle.book.specs.Rows.add how r q.front; buffer = q.buffer; segments = q.segments; source = q.source; next = q.next })).segments ≡ q.segments
    go true = refl
    go false = refl

places_segments : (how : ℕ → Sum) (rs : List Row) (q : Queue) → (places how rs q).segments ≡ q.segments
unfolding places
places_segments how [] q = refl
places_segments how (r ∷ rs) q = places_segments how rs (place how r q) ∙ place_segments how r q

on_segments : (how : ℕ → Sum) (o : Onward) (q : Queue) → (go_on how o q).queue.segments ≡ q.segments
on_segments how (Out e) q = refl
on_segments how (On r) q = place_segments how r q
on_segments how Gone q = refl

emit_by_segments : (sts : List Stage) (m : ℕ) (more : Queue → Emitted) → ((q : Queue) → (more q).queue.segments ≡ q.segments) → (rs : List Row) (q : Queue) → (emit_by sts m more rs q).queue.segments ≡ q.segments
unfolding emit_by
emit_by_segments sts m more ih [] q = refl
emit_by_segments sts m more ih (r ∷ rs) q = go (leb r.at.end m)
  where
    e : Emitted
    e = go_on (how_of sts) (onward sts r) (popped rs q)

    go : (c : Bool) → (cond c (then' e.outs (more e.queue)) (record { queue = q; outs = [] })).queue.segments ≡ q.segments
    go true = ih e.queue ∙ on_segments (how_of sts) (onward sts r) (popped rs q)
    go false = refl

emit_segments : (sts : List Stage) (m k : ℕ) (q : Queue) → (emit sts m k q).queue.segments ≡ q.segments
unfolding emit
emit_segments sts m zero q = refl
emit_segments sts m (suc k) q = emit_by_segments sts m (emit sts m k) (emit_segments sts m k) q.front q

take_segments : (sts : List Stage) (e : Event) (q : Queue) → (take' sts e q).segments ≡ q.segments
unfolding take'
take_segments [] e q = refl
take_segments (st ∷ sts) e q = go (eqb (word st.keep' e) 0)
  where
    go : (c : Bool) → (cond c q (place (how_of (st ∷ sts)) (row_of st 0 e) q)).segments ≡ q.segments
    go true = refl
    go false = place_segments (how_of (st ∷ sts)) (row_of st 0 e) q

takes_segments : (z : Sizes) (sts : List Stage) (es : List Event) (i : ℕ) (q : Queue) → (take_events z sts es i q).queue.segments ≡ q.segments
unfolding take_events
takes_segments z sts [] i q = refl
takes_segments z sts (e ∷ es) i q = go (has_room z q) (takes_segments z sts es (suc i) (take' sts e q))
  where
    go : (c : Bool) → (take_events z sts es (suc i) (take' sts e q)).queue.segments ≡ (take' sts e q).segments → (cond c (take_events z sts es (suc i) (take' sts e q)) (record { taken = i; queue = q })).queue.segments ≡ q.segments
    go true h = h ∙ take_segments sts e q
    go false h = refl

sift_segments : (how : ℕ → Sum) (shown : Page) (q : Queue) → (sift_by how shown q).segments ≡ q.segments
unfolding sift_by
sift_segments how Blank q = refl
sift_segments how (IndexPage ss) q = refl
sift_segments how (RowPage below rows) q = places_segments how rows (record { front = q.front; buffer = q.buffer; segments = q.segments; source = below; next = q.next })

-- EACH STEP
abbrev FlatWrites : List Write → Type 0
FlatWrites [] = Unit {0}
FlatWrites (w ∷ ws) = FlatPage w.content × FlatWrites ws

abbrev Steps : ℕ → List Seg → List Write → Type 0
Steps z ss ws = Climb 0 ss × OneOver z ss × FlatWrites ws

same_levels : (z : ℕ) (ss ts : List Seg) → ts ≡ ss → Climb 0 ss → OneOver z ss → Steps z ts []
same_levels z ss ts e c o = (subst (Climb 0) (sym e) c, subst (OneOver z) (sym e) o, tt)

many_is : (z : Sizes) (n : ℕ) → n ≤ suc z.segments → 3 ≤ n → 2 ≤ z.segments → pack_many z n ≡ n - n / 2
many_is z n h k s = ap (λ (b : Bool). cond b z.segments (less_by (n / 2) n)) (le-ltb z.segments (less_by (n / 2) n) (omega (arith, h, k, s, less_by_is (n / 2) n))) ∙ less_by_is (n / 2) n

flat_first : (v : ℕ) (t : Seg) (ts : List Seg) → Flat v (t ∷ ts) → Flat t.level ts
flat_first v t ts f = subst (λ (u : ℕ). Flat u ts) (sym f.0) f.1

pack_by_is : (z v i j k : ℕ) (q : Queue) (ys : List Seg) → take k (drop i q.segments) ≡ ys → 2 ≤ k → length ys ≡ k → Packs 0 v i k q.segments → ((w : ℕ) → (w ≡ v → ⊥) → at_level w q.segments ≤ z) → j ≤ z → j + k ≡ at_level v q.segments →
    Steps z (pack_by (take i q.segments) ys (drop k (drop i q.segments)) q).queue.segments (pack_by (take i q.segments) ys (drop k (drop i q.segments)) q).writes
unfolding pack_by
pack_by_is z v i j k q [] e h l p o hj c = absurd (omega (arith, h, l))
pack_by_is z v i j k q (t ∷ ts) e h l p o hj c =
    let fl : Flat v (t ∷ ts) = subst (Flat v) e p.flat in
    let new : Seg = record { low = t.low; index = page q.next; head = nil; level = suc t.level } in
    (p.all new (ap suc fl.0), pack_over z v i j k q.segments new o hj c (ap length e ∙ l) p.flat (ap suc fl.0), (flat_first v t ts fl, tt))

step_pack : (z : Sizes) → SizesOk z → (v : ℕ) (q : Queue) → Climb 0 q.segments → 3 ≤ at_level v q.segments → at_level v q.segments ≤ suc z.segments → ((w : ℕ) → (w ≡ v → ⊥) → at_level w q.segments ≤ z.segments) → (k : ℕ) → k ≡ pack_many z (at_level v q.segments) →
    Steps z.segments (pack_by (take (below_level v q.segments + at_level v q.segments / 2) q.segments) (take k (drop (below_level v q.segments + at_level v q.segments / 2) q.segments)) (drop k (drop (below_level v q.segments + at_level v q.segments / 2) q.segments)) q).queue.segments
    (pack_by (take (below_level v q.segments + at_level v q.segments / 2) q.segments) (take k (drop (below_level v q.segments + at_level v q.segments / 2) q.segments)) (drop k (drop (below_level v q.segments + at_level v q.segments / 2) q.segments)) q).writes
step_pack z zo v q c h l o k e =
    pack_by_is z.segments v i j k q (take k (drop i ss)) refl (omega (arith, is, h)) (omega (arith, length-take k (drop i ss), length-drop i ss, levels_apart v ss, is)) (pack_run 0 v i j k ss c refl both (omega (arith, is, h))) o (omega (arith, l, zo.2)) both
  where
    ss : List Seg
    ss = q.segments

    j : ℕ
    j = at_level v ss / 2

    i : ℕ
    i = below_level v ss + j

    is : k ≡ at_level v ss - at_level v ss / 2
    is = e ∙ many_is z (at_level v ss) l h zo.2

    both : j + k ≡ at_level v ss
    both = omega (arith, is)

-- why a step is due, by levels
abbrev Why : Sizes → Step → Queue → Type 0
Why z step q = Calm z.segments q.segments ⊎ ((v : ℕ) × (step ≡ Pack v) × (z.segments < at_level v q.segments))

why : (z : Sizes) (m : ℕ) (c : Crowd) (q : Queue) (step : Step) → crowd z.segments q.segments q.segments ≡ c → due_crowd z m c q ≡ Do step → Why z step q
unfolding due_crowd
why z m calm q step e d = inl (is_calm z.segments q.segments e)
why z m (crowded v) q step e d = inr (v, (let k : Pack v ≡ step = cc in sym k), crowd_tells z.segments q.segments q.segments v e)

pack_why : (z : Sizes) (v : ℕ) (q : Queue) → OneOver z.segments q.segments → Why z (Pack v) q → (at_level v q.segments ≤ suc z.segments) × ((w : ℕ) → (w ≡ v → ⊥) → at_level w q.segments ≤ z.segments)
pack_why z v q o (inl c) = (omega (arith, c v), λ w h. c w)
pack_why z v q o (inr (u, e, h)) = go (cases_eq v o.0)
  where
    same : u ≡ v
    same = let k : Pack v ≡ Pack u = e in let i : v ≡ u = cc in sym i

    over : z.segments < at_level v q.segments
    over = subst (λ (x : ℕ). z.segments < at_level x q.segments) same h

    go : (v ≡ o.0) ⊎ (v ≡ o.0 → ⊥) → (at_level v q.segments ≤ suc z.segments) × ((w : ℕ) → (w ≡ v → ⊥) → at_level w q.segments ≤ z.segments)
    go (inl s) = (subst (λ (x : ℕ). at_level x q.segments ≤ suc z.segments) (sym s) o.2, λ w n. o.1 w (λ (r : w ≡ o.0). n (r ∙ sym s)))
    go (inr s) = absurd (omega (arith, over, o.1 v s))

calm_why : (z : Sizes) (step : Step) (q : Queue) → ((v : ℕ) → step ≡ Pack v → ⊥) → Why z step q → Calm z.segments q.segments
calm_why z step q n (inl c) = c
calm_why z step q n (inr (v, e, h)) = absurd (n v e)

-- the first segment and its index page
first_level : (ss : Segs) (t : Seg) (ts : List Seg) → heads ss ≡ t ∷ ts → t.level ≡ level_of ss
first_level none t ts e = absurd (let k : ◌≡◌ {A = ℕ} 0 1 = cc in omega arith)
first_level (plain low c ss) t ts e = let k : record { low = low; index = nil; head = Rattle.book.specs.Held.head_of c; level = 0 } ≡ t = cc in ap (λ (x : Seg). x.level) (sym k)
first_level (packed low n i c ss) t ts e = let k : record { low = low; index = page n; head = Rattle.book.specs.Held.head_of c; level = suc (level_of i) } ≡ t = cc in ap (λ (x : Seg). x.level) (sym k)

inner_flat : (ss : Segs) (ts : List Seg) → heads ss ≡ ts → FlatPage (IndexPage ts) → Flat (level_of ss) ts
inner_flat ss [] e f = tt
inner_flat ss (t ∷ ts) e f = (first_level ss t ts e, subst (λ (u : ℕ). Flat u ts) (first_level ss t ts e) f)

unpack_levels : (z c : ℕ) (f : Pages) (n k : ℕ) (ss : Segs) (q : Queue) → SegsIn f n ss → ((i : ℕ) → FlatPage (f i)) → ((i : ℕ) (ts : List Seg) → f i ≡ IndexPage ts → length ts ≤ z) → q.segments ≡ heads ss → index_of (heads ss) ≡ page k → Climb 0 (heads ss) → Calm z (heads ss) → Steps z (unpack_by (f k) (heads ss) q).segments []
unfolding unpack_by index_of
unpack_levels z c f n k none q h fl len e i cl ca = absurd (let x : ◌≡◌ {A = ℕ} 0 1 = cc in omega arith)
unpack_levels z c f n k (plain low ch ss) q h fl len e i cl ca = absurd (let x : ◌≡◌ {A = ℕ} 0 1 = cc in omega arith)
unpack_levels z c f n k (packed low m inner ch ss) q h fl len e i cl ca =
    subst (λ (g : Page). Steps z (unpack_by g (heads (packed low m inner ch ss)) q).segments []) (sym (ap f (let x : m ≡ k = cc in sym x) ∙ h.1)) ((climb_down 0 u (heads inner ++ heads ss) (omega arith) (flat_climb u (heads inner) (heads ss) flat (climb_down u (suc u) (heads ss) (omega arith) cl.1))), calm_over z (heads inner ++ heads ss) counts, tt)
  where
    u : ℕ
    u = level_of inner

    flat : Flat u (heads inner)
    flat = inner_flat inner (heads inner) refl (subst FlatPage h.1 (fl m))

    counts : Calm z (heads inner ++ heads ss)
    counts v = go (cases_eq u v)
      where
        first : Seg
        first = record { low = low; index = page m; head = Rattle.book.specs.Held.head_of ch; level = suc u }

        go : (u ≡ v) ⊎ (u ≡ v → ⊥) → at_level v (heads inner ++ heads ss) ≤ z
        go (inl q') = subst (λ (x : ℕ). at_level x (heads inner ++ heads ss) ≤ z) q' (omega (arith, at_append u (heads inner) (heads ss), flat_all u (heads inner) flat, len m (heads inner) h.1, climb_none u (suc u) (heads ss) (omega arith) cl.1))
        go (inr q') = omega (arith, at_append v (heads inner) (heads ss), flat_none v u (heads inner) q' flat, ca v, at_rest v first (heads ss))

open_levels : (how : ℕ → Sum) (z : ℕ) (ss : List Seg) (q : Queue) → q.segments ≡ ss → Climb 0 ss → Calm z ss → Steps z (open_by how ss q).segments []
unfolding open_by
open_levels how z [] q e c a = same_levels z [] q.segments e c (calm_over z [] a)
open_levels how z (s ∷ ss) q e c a = same_levels z ss (places how q.buffer (record { front = q.front; buffer = []; segments = ss; source = s.head; next = q.next })).segments (places_segments how q.buffer (record { front = q.front; buffer = []; segments = ss; source = s.head; next = q.next })) (climb_down 0 s.level ss (omega arith) c.1) (calm_over z ss (λ v. omega (arith, a v, at_rest v s ss)))

lower_levels : (how : ℕ → Sum) (z : ℕ) (xs ys : List Row) (q : Queue) → Climb 0 q.segments → Calm z q.segments → Steps z (lower_by how xs ys q).segments []
unfolding lower_by
lower_levels how z xs [] q c a = (c, calm_over z q.segments a, tt)
lower_levels how z xs (y ∷ ys) q c a = ((omega arith, c), (0, (λ v h. omega (arith, a v, at_skip v (record { low = y.at; index = nil; head = nil; level = 0 }) q.segments (λ (e : 0 ≡ v). h (sym e)))), omega (arith, a 0, at_most_one 0 (record { low = y.at; index = nil; head = nil; level = 0 }) q.segments)), tt)

rows_flat : (how : ℕ → Sum) (size n : ℕ) (shown : Page) (i : ℕ) (ss : List Seg) (moved : List Row) → FlatWrites (spill_at how size n shown i ss moved).writes
unfolding spill_at spill_by merge_by too_full split_by
rows_flat how size n shown zero [] moved = tt
rows_flat how size n shown (suc i) [] moved = tt
rows_flat how size n shown (suc i) (s ∷ ss) moved = rows_flat how size n shown i ss moved
rows_flat how size n shown zero (s ∷ ss) moved = by shown s.head
  where
    split : (xs ys : List Row) → FlatWrites (split_by n s xs ys).writes
    split xs [] = (tt, tt)
    split xs (y ∷ ys) = (tt, (tt, tt))

    full : (i b : Link) (rows : List Row) → FlatWrites (too_full n s i b rows moved).writes
    full nil nil rows = split (take (length rows / 2) rows) (drop (length rows / 2) rows)
    full (page i) nil rows = (tt, tt)
    full nil (page b) rows = (tt, tt)
    full (page i) (page b) rows = (tt, tt)

    merge : (b : Link) (rows : List Row) (t : Bool) → FlatWrites (cond {A = Spilled} t (one_page n s b rows) (too_full n s s.index b rows moved)).writes
    merge b rows true = (tt, tt)
    merge b rows false = full s.index b rows

    by : (g : Page) (h : Link) → FlatWrites (spill_by how size n g h s moved).writes
    by Blank nil = (tt, tt)
    by (RowPage b rs) nil = (tt, tt)
    by (IndexPage ts) nil = (tt, tt)
    by Blank (page h) = (tt, tt)
    by (IndexPage ts) (page h) = (tt, tt)
    by (RowPage b rs) (page h) = merge b (onto how moved rs) (leb (length (onto how moved rs)) size)

step_levels : (z : Sizes) → SizesOk z → (sts : List Stage) (m c : ℕ) (es : List Event) (f : Pages) (h : Held) (os : List Event) (step : Step) → SegsIn f h.next h.segs → Ready m step (queue_of h) → ((i : ℕ) → FlatPage (f i)) → ((i : ℕ) → PageFit z c (f i)) → Climb 0 (heads h.segs) → OneOver z.segments (heads h.segs) → Why z step (queue_of h) →
    Steps z.segments (do' z sts m step (page_of f (shows step (queue_of h))) (queue_of h)).queue.segments (do' z sts m step (page_of f (shows step (queue_of h))) (queue_of h)).writes
step_levels z zo sts m c es f h os (Spill i) si r fl pf cl ov w =
    let ca : Calm z.segments (heads h.segs) = calm_why z (Spill i) (queue_of h) (λ v e. absurd (let x : ◌≡◌ {A = ℕ} 0 1 = cc in omega arith)) w in
    let s : Spills 0 (heads h.segs) (spill_at (how_of sts) z.rows h.next (page_of f (head_at i (heads h.segs))) i (heads h.segs) (pick z.rows (is_of i (heads h.segs)) h.buffer)).segs = spill_levels (how_of sts) z.rows h.next (page_of f (head_at i (heads h.segs))) 0 i (heads h.segs) (pick z.rows (is_of i (heads h.segs)) h.buffer) (heads_zeros h.segs) cl in
    (s.climb, (0, (λ v n. omega (arith, s.others v n, ca v)), omega (arith, s.most 0, ca 0)), rows_flat (how_of sts) z.rows h.next (page_of f (head_at i (heads h.segs))) i (heads h.segs) (pick z.rows (is_of i (heads h.segs)) h.buffer))
step_levels z zo sts m c es f h os (Pack v) si r fl pf cl ov w = let y : (at_level v (heads h.segs) ≤ suc z.segments) × ((u : ℕ) → (u ≡ v → ⊥) → at_level u (heads h.segs) ≤ z.segments) = pack_why z v (queue_of h) ov w in step_pack z zo v (queue_of h) cl r y.0 y.1 (pack_many z (at_level v (heads h.segs))) refl
step_levels z zo sts m c es f h os Lower si r fl pf cl ov w = lower_levels (how_of sts) z.segments (take (length h.front / 2) h.front) (drop (length h.front / 2) h.front) (queue_of h) cl (calm_why z Lower (queue_of h) (λ v e. absurd (let x : ◌≡◌ {A = ℕ} 0 1 = cc in omega arith)) w)
step_levels z zo sts m c es f h os Sift si r fl pf cl ov w = same_levels z.segments (heads h.segs) (sift_by (how_of sts) (page_of f (shows Sift (queue_of h))) (queue_of h)).segments (sift_segments (how_of sts) (page_of f (shows Sift (queue_of h))) (queue_of h)) cl ov
step_levels z zo sts m c es f h os Emit si r fl pf cl ov w = same_levels z.segments (heads h.segs) (emit sts m z.emits (queue_of h)).queue.segments (emit_segments sts m z.emits (queue_of h)) cl ov
step_levels z zo sts m c es f h os Unpack si r fl pf cl ov w =
    subst (λ (l : Link). Steps z.segments (unpack_by (page_of f l) (heads h.segs) (queue_of h)).segments []) (sym r.3) (unpack_levels z.segments c f h.next r.2 h.segs (queue_of h) si fl (λ i ts e. (subst (PageFit z c) e (pf i)).1) refl r.3 cl (calm_why z Unpack (queue_of h) (λ v e. absurd (let x : ◌≡◌ {A = ℕ} 0 1 = cc in omega arith)) w))
step_levels z zo sts m c es f h os Open si r fl pf cl ov w = open_levels (how_of sts) z.segments (heads h.segs) (queue_of h) refl cl (calm_why z Open (queue_of h) (λ v e. absurd (let x : ◌≡◌ {A = ℕ} 0 1 = cc in omega arith)) w)

-- A STEP OF THE BOOK
written_flat : (ws : List Write) (f : Pages) (k : ℕ) → FlatWrites ws → FlatPage (f k) → FlatPage (written ws f k)
unfolding written
written_flat [] f k h p = p
written_flat (w ∷ ws) f k h p = go (eqb k w.number) (written_flat ws f k h.1 p)
  where
    go : (b : Bool) → FlatPage (written ws f k) → FlatPage (cond b w.content (written ws f k))
    go true i = h.0
    go false i = i

levels_tidy : (z : Sizes) → SizesOk z → (p : Plan) (n : ℕ) (ls : List (List Entry)) (x : Book) (step : Step) → SoundBook z p ls x → Fits z n ls x → Levels z x → due z (watermark p.late x.ledger.logs) x.ledger.queue ≡ Do step → Levels z (after_turn (turn_of z p (Tidy step) x) x)
levels_tidy z zo p n ls x step s f l e = done (subst G (sym s.queue.is) (step_levels z zo p.stages m (4 * n + 4) (taken_events p.late ls x.ledger.logs) x.row h (Rattle.book.specs.Book.came_out x) step s.queue.pages.0 (ready z zo m (queue_of h) step e') l.flat f.pages (subst (λ (q : Queue). Climb 0 q.segments) s.queue.is l.climb) (subst (λ (q : Queue). OneOver z.segments q.segments) s.queue.is l.over) (why z m (crowd z.segments (heads h.segs) (heads h.segs)) (queue_of h) step refl e')))
  where
    m : ℕ
    m = watermark p.late x.ledger.logs

    h : Held
    h = s.queue.held

    e' : due z m (queue_of h) ≡ Do step
    e' = subst (λ (q : Queue). due z m q ≡ Do step) s.queue.is e

    G : Queue → Type 0
    G q = Steps z.segments (do' z p.stages m step (page_of x.row (shows step q)) q).queue.segments (do' z p.stages m step (page_of x.row (shows step q)) q).writes

    done : G x.ledger.queue → Levels z (after_turn (turn_of z p (Tidy step) x) x)
    done g = record { climb = g.0; over = g.1; flat = λ k. written_flat (do' z p.stages m step (page_of x.row (shows step x.ledger.queue)) x.ledger.queue).writes x.row k g.2 (l.flat k) }

levels_turn : (z : Sizes) → SizesOk z → (p : Plan) (n : ℕ) (ls : List (List Entry)) (x : Book) (k : Task) → SoundBook z p ls x → Fits z n ls x → Levels z x → wanted z p.late x.ledger ≡ Want k → Levels z (after_turn (turn_of z p k x) x)
unfolding wanted_by written
levels_turn z zo p n ls x k s f l w = go (leb z.outs (length x.ledger.tail)) refl w
  where
    d : Due
    d = due z (watermark p.late x.ledger.logs) x.ledger.queue

    publish : Levels z (after_turn (turn_of z p Publish x) x)
    publish = record { climb = l.climb; over = l.over; flat = l.flat }

    tidy : (b : Due) → d ≡ b → wanted_by b ≡ Want k → Levels z (after_turn (turn_of z p k x) x)
    tidy Nothing q u = absurd (let i : ◌≡◌ {A = ℕ} 0 1 = cc in omega arith)
    tidy (Do step) q u = let i : Tidy step ≡ k = cc in subst (λ (b : Task). Levels z (after_turn (turn_of z p b x) x)) i (levels_tidy z zo p n ls x step s f l q)

    go : (b : Bool) → leb z.outs (length x.ledger.tail) ≡ b → cond b (Want Publish) (wanted_by d) ≡ Want k → Levels z (after_turn (turn_of z p k x) x)
    go true t u = let i : Publish ≡ k = cc in subst (λ (b : Task). Levels z (after_turn (turn_of z p b x) x)) i publish
    go false t u = tidy d refl u

pub levels_kept : LevelsKept
unfolding at_level
levels_kept z zo p = (
  (λ logs. record { climb = tt; over = (0, (λ v h. omega arith), omega arith); flat = λ k. tt }),
  (λ x l floor i s es h. record { climb = h.climb; over = h.over; flat = h.flat }),
  (λ x l b h. let e : (take_events z p.stages (new_events b (taken_of l x.ledger.logs)) (taken_of l x.ledger.logs).taken x.ledger.queue).queue.segments ≡ x.ledger.queue.segments = takes_segments z p.stages (new_events b (taken_of l x.ledger.logs)) (taken_of l x.ledger.logs).taken x.ledger.queue in record { climb = subst (Climb 0) (sym e) h.climb; over = subst (OneOver z.segments) (sym e) h.over; flat = h.flat }),
  (λ n ls x k s f l w. levels_turn z zo p n ls x k s f l w),
)

-- HOW DEEP: a segment of a level has twice as many lows in it as one of the level below
unfoldable pow : ℕ → ℕ
pow zero = 1
pow (suc n) = 2 * pow n

abbrev powers : List Seg → ℕ
powers [] = 0
powers (s ∷ ss) = pow s.level + powers ss

flat_powers : (v : ℕ) (ss : List Seg) → Flat v ss → 2 ≤ length ss → 2 * pow v ≤ powers ss
flat_powers v [] f h = absurd (omega arith)
flat_powers v (s ∷ []) f h = absurd (omega arith)
flat_powers v (s ∷ t ∷ ss) f h = omega (arith, ap pow f.0, ap pow f.1.0)

powers_few : (P : Rattle.book.specs.Rows.Key → Type 0) (f : Pages) (n : ℕ) (ss : Segs) → ((i : ℕ) → FlatPage (f i)) → SegsIn f n ss → LeanSegs ss → powers (heads ss) ≤ length (lows ss)
unfolding pow
powers_few P f n none fl h l = omega arith
powers_few P f n (plain low c ss) fl h l = omega (arith, powers_few P f n ss fl h.1 l.1)
powers_few P f n (packed low m inner c ss) fl h l =
    omega (arith, powers_few P f n inner fl h.3 l.3, powers_few P f n ss fl h.4 l.1, length-append (lows inner) (lows ss), flat_powers (level_of inner) (heads inner) (inner_flat inner (heads inner) refl (subst FlatPage h.1 (fl m))) l.2)

pow_far : (k : ℕ) → 1152921504606846976 ≤ pow (k + 60)
unfolding pow
pow_far zero = far_base
  where
    far_base : 1152921504606846976 ≤ pow (0 + 60)
    far_base = omega arith
pow_far (suc k) = let e : suc k + 60 ≡ suc (k + 60) = omega arith in subst (λ (n : ℕ). 1152921504606846976 ≤ pow n) (sym e) (omega (arith, pow_far k))

shallow : (u : ℕ) → pow u < 1152921504606846976 → u < 60
shallow u h = go (ltb u 60) refl
  where
    go : (b : Bool) → ltb u 60 ≡ b → u < 60
    go true t = ltb-true u 60 t
    go false t = absurd (omega (arith, h, subst (λ (n : ℕ). 1152921504606846976 ≤ pow n) (back (ltb-false u 60 t)) (pow_far (u - 60))))
      where
        back : 60 ≤ u → (u - 60) + 60 ≡ u
        back q = omega arith

abbrev Beneath : ℕ → List Seg → Type 0
Beneath d [] = Unit {0}
Beneath d (s ∷ ss) = (s.level < d) × Beneath d ss

powers_beneath : (ss : List Seg) → powers ss < 1152921504606846976 → Beneath 60 ss
powers_beneath [] h = tt
powers_beneath (s ∷ ss) h = (shallow s.level (omega (arith, h)), powers_beneath ss (omega (arith, h)))

-- so many of each level
abbrev sums : ℕ → List Seg → ℕ
sums zero ss = 0
sums (suc d) ss = at_level d ss + sums d ss

sums_rest : (d : ℕ) (s : Seg) (ss : List Seg) → sums d ss ≤ sums d (s ∷ ss)
sums_rest zero s ss = omega arith
sums_rest (suc d) s ss = omega (arith, at_rest d s ss, sums_rest d s ss)

sums_more : (d : ℕ) (s : Seg) (ss : List Seg) → s.level < d → suc (sums d ss) ≤ sums d (s ∷ ss)
sums_more zero s ss h = absurd (omega arith)
sums_more (suc d) s ss h = go (cases_eq s.level d) (sums_more d s ss)
  where
    go : (s.level ≡ d) ⊎ (s.level ≡ d → ⊥) → (s.level < d → suc (sums d ss) ≤ sums d (s ∷ ss)) → suc (at_level d ss + sums d ss) ≤ at_level d (s ∷ ss) + sums d (s ∷ ss)
    go (inl e) ih = omega (arith, at_here d s ss e, sums_rest d s ss)
    go (inr e) ih = omega (arith, at_rest d s ss, ih (omega (arith, h, e)))

beneath_sums : (d : ℕ) (ss : List Seg) → Beneath d ss → length ss ≤ sums d ss
beneath_sums d [] b = omega arith
beneath_sums d (s ∷ ss) b = omega (arith, beneath_sums d ss b.1, sums_more d s ss b.0)

-- all but one level have no more than they should
over_sums : (d z : ℕ) (ss : List Seg) → (o : OneOver z ss) → sums d ss ≤ cond (ltb o.0 d) (suc (d * z)) (d * z)
over_sums zero z ss o = rw (le-ltb o.0 0 (omega arith)) (omega arith)
over_sums (suc d) z ss o = go (Rattle.std.proofs.lemmas.Bool.cases_order d o.0) (over_sums d z ss o)
  where
    go : (d ≡ o.0) ⊎ ((d < o.0) ⊎ (o.0 < d)) → sums d ss ≤ cond (ltb o.0 d) (suc (d * z)) (d * z) → at_level d ss + sums d ss ≤ cond (ltb o.0 (suc d)) (suc (suc d * z)) (suc d * z)
    go (inl e) i = rw (lt-ltb o.0 (suc d) (omega (arith, e))) (omega (arith, here, below, native.Mathlib.Nat.suc-mul d z))
      where
        here : at_level d ss ≤ suc z
        here = subst (λ (v : ℕ). at_level v ss ≤ suc z) (sym e) o.2

        below : sums d ss ≤ d * z
        below = subst (λ (b : Bool). sums d ss ≤ cond b (suc (d * z)) (d * z)) (le-ltb o.0 d (omega (arith, e))) i
    go (inr (inl h)) i = rw (le-ltb o.0 (suc d) (omega (arith, h))) (omega (arith, o.1 d (λ (e : d ≡ o.0). omega (arith, e, h)), below, native.Mathlib.Nat.suc-mul d z))
      where
        below : sums d ss ≤ d * z
        below = subst (λ (b : Bool). sums d ss ≤ cond b (suc (d * z)) (d * z)) (le-ltb o.0 d (omega (arith, h))) i
    go (inr (inr h)) i = rw (lt-ltb o.0 (suc d) (omega (arith, h))) (omega (arith, o.1 d (λ (e : d ≡ o.0). omega (arith, e, h)), below, native.Mathlib.Nat.suc-mul d z))
      where
        below : sums d ss ≤ suc (d * z)
        below = subst (λ (b : Bool). sums d ss ≤ cond b (suc (d * z)) (d * z)) (lt-ltb o.0 d h) i

pub segments_few : (z : Sizes) (p : Plan) (n : ℕ) (ls : List (List Entry)) (x : Book) → total ls ≤ 8 * horizon → SoundBook z p ls x → Fits z n ls x → Levels z x → length x.ledger.queue.segments ≤ 60 * z.segments + 1
segments_few z p n ls x h s f l = omega (arith, beneath_sums 60 ss (powers_beneath ss (omega (arith, few, h))), most (ltb l.over.0 60) (over_sums 60 z.segments ss l.over))
  where
    ss : List Seg
    ss = x.ledger.queue.segments

    g : Held
    g = s.queue.held

    most : (b : Bool) → sums 60 ss ≤ cond b (suc (60 * z.segments)) (60 * z.segments) → sums 60 ss ≤ 60 * z.segments + 1
    most true i = omega (arith, i)
    most false i = omega (arith, i)

    few : powers ss ≤ total ls
    few = omega (arith, ap (λ (q : Queue). powers q.segments) s.queue.is, powers_few Free x.row g.next g.segs l.flat s.queue.pages.0 s.queue.lean.segs, lows_few (how_of p.stages) g s.queue.order s.queue.alive, s.queue.few, taken_total p.late ls x.ledger.logs f.entries)

takens_long : (ts : List Taken) → length (write_all write_taken ts) ≡ 2 * length ts
unfolding write_all
takens_long [] = refl
takens_long (t ∷ ts) = omega (arith, takens_long ts)

pub ledger_short : LedgerShort
ledger_short p n ls x h s f r l = (omega (arith, many, bytes_most (write_ledger y)), λ w. omega (arith, many, bytes_long (write_ledger y) w))
  where
    y : Ledger
    y = x.ledger

    q : Queue
    q = x.ledger.queue

    many : length (write_ledger y) ≤ 21400
    many = omega (
      arith,
      length-append (write_list write_taken y.logs) (write_list write_event y.tail ++ write_queue q),
      length-append (write_list write_event y.tail) (write_queue q),
      length-append (write_list write_row q.front) (write_list write_row q.buffer ++ write_list write_seg q.segments),
      length-append (write_list write_row q.buffer) (write_list write_seg q.segments),
      takens_long y.logs,
      events_long y.tail,
      rows_long q.front,
      rows_long q.buffer,
      segs_long q.segments,
      f.count,
      logs_long p.late x.log 0 ls y.logs s.logs,
      r.front,
      r.buffer,
      r.tail,
      segments_few sizes p n ls x h s f l,
    )
