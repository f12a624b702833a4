-- The least row of all; what is due keeps all sound; nothing due, all came out.
use Rattle.std.proofs.Common.{◌≡◌, ℕ, zero, suc, ◌+◌, ◌-◌, ◌*◌, ◌/◌, ◌<◌, ◌≤◌, Bool, true, false, cond, eqb, ltb, leb, ◌⊎◌, List, [], ◌∷◌, ◌++◌, length, take, drop, sym, refl, ap, ◌∙◌, subst, inl, inr, append_assoc, append-nil, arith, length-append, length-drop, take-append-drop, length-take}
use Rattle.std.proofs.lemmas.Bool.{leb-true, leb-false, ltb-true}
use Rattle.std.proofs.lemmas.Bool.Decides.{nat_tests}
use Rattle.streams.proofs.Logs.{less_by_is}
use Rattle.streams.specs.Meaning.{Event, Stage, Cell, Sum, word, less_by, ended, as_events, through_stages}
use Rattle.book.specs.Rows.{Key, Row, Bef, add, onto, Each, Above, Sorted}
use Rattle.book.specs.Queue.{Link, nil, page, Seg, Page, Blank, RowPage, Pages, written, Queue, After, place, lower_by, pack_by, sift_by, is_of, pick, spill, lower, pack, sift, unpack, open', page_of, head_at}
use Rattle.book.specs.Held.{Paged, Segs, none, plain, packed, Held, head_of, heads, queue_of, ChainIn, HeldIn, chain_rows, under, contents, Under, Over, Within, ChainOk, FirstIs, SegsOk, Order, Fresh, Kept, Alive, Till, Free, level_of, Lean, rows_of}
use Rattle.book.specs.Flow.{row_of, how_of, as_event, Onward, Out, On, Gone, onward_by, onward, rest, outs, Flows}
use Rattle.book.specs.Due.{Sizes, Emitted, go_on, then', emit_by, emit, Step, Spill, Lower, Pack, Sift, Emit, Unpack, Open, Due, Nothing, Do, fullest, at_level, below_level, Crowd, calm, crowded, crowd, due_first, due_segments, due_front, due_source, due_rows, due_crowd, due, index_of, shows, Done, quiet, pack_many, do', take', Sound, Sized, SoundAtFirst, SoundTaken, SoundLater, SoundDone, AllCameOut, Has, SizesOk, count, Runs, rests, goes, ComesOut, SameCells, LeastIsFirst, AnyPlace}
use Rattle.book.proofs.Rows.{Tri, lo, eq, hi, tri, onto_none, add_lo, add_eq, add_hi, onto_both, onto_append, onto_onto}
use Rattle.book.proofs.Lists.{each_like, each_onto, each_append, sorted_onto, add_first, bef_upto_trans, sorted_mid, each_left, length_pick}
use Rattle.book.proofs.Steps.{place_h, place_is, place_contents, place_order, lower_keeps, sift_keeps, open_keeps, unpack_keeps, pack_keeps, below_of, places_is, places_segs, under_down, append_s, place_few, length_onto}
use Rattle.book.proofs.Spill.{spill_keeps}
use Rattle.book.proofs.Weights.{places_weight, picks, spills, spilled_more}
use Rattle.book.proofs.Flow.{Fits, flows_pop, flows_take, flows_done, flows_first, flows_later}

-- ALL THAT IS NOT IN THE FRONT is after what is below the first low
over_after : (ss : Segs) (a k : Key) → Under ss a → Over ss k → Bef a k
over_after none a k u v = absurd v
over_after (plain low c ss) a k u v = bef_upto_trans a low k u v
over_after (packed low n i c ss) a k u v = bef_upto_trans a low k u v

chain_after : (P : Key → Type 0) (a : Key) → ((k : Key) → P k → Bef a k) → (c : List Paged) → ChainOk P c → Each (Bef a) (chain_rows c)
chain_after P a f [] o = tt
chain_after P a f (p ∷ ps) o = each_append (Bef a) p.rows (chain_rows ps) (each_like P (Bef a) f p.rows o.1) (chain_after P a f ps o.2)

pub first_under : (ss : Segs) (a low : Key) → FirstIs ss low → Bef a low → Under ss a
first_under none a low e p = tt
first_under (plain l c ss) a low e p = rw e p
first_under (packed l n i c ss) a low e p = rw e p

pub segs_after : (P : Key → Type 0) (ss : Segs) (a : Key) → SegsOk P ss → Under ss a → Each (Bef a) (under ss)
segs_after P none a o u = tt
segs_after P (plain low c ss) a o u = each_append (Bef a) (chain_rows c) (under ss) (chain_after (Within P low ss) a (λ k p. bef_upto_trans a low k u p.0) c o.0) (segs_after P ss a o.2 (under_down P ss a low u o.1))
segs_after P (packed low n inner c ss) a o u =
    each_append (Bef a) (chain_rows c) (under inner ++ under ss) (chain_after (Within P low ss) a (λ k p. bef_upto_trans a low k u p.0) c o.0)
    (each_append (Bef a) (under inner) (under ss) (segs_after (Till P ss) inner a o.4 (first_under inner a low o.3 u)) (segs_after P ss a o.2 (under_down P ss a low u o.1)))

-- THE LEAST OF ALL is the front's first, when the source is none
abbrev pub pop_h : List Row → Held → Held
pop_h rs h = record { front = rs; buffer = h.buffer; segs = h.segs; source = h.source; next = h.next }

pub least : (how : ℕ → Sum) (h : Held) (r : Row) (rs : List Row) → h.front ≡ r ∷ rs → h.source ≡ [] → Order h → Above r.at (contents how (pop_h rs h))
least how h r rs e n o = each_onto (Bef r.at) how rs others srt.0 (each_onto (Bef r.at) how h.buffer (onto how (under h.segs) (onto how (chain_rows h.source) [])) (each_like (Over h.segs) (Bef r.at) (λ k. over_after h.segs r.at k bel.0) h.buffer o.above)
    (each_onto (Bef r.at) how (under h.segs) (onto how (chain_rows h.source) []) (segs_after Free h.segs r.at o.segs bel.0) (subst (λ (c : List Paged). Each (Bef r.at) (onto how (chain_rows c) [])) (sym n) (subst (Each (Bef r.at)) (sym (onto_none how [])) tt))))
  where
    others : List Row
    others = onto how h.buffer (onto how (under h.segs) (onto how (chain_rows h.source) []))

    srt : Sorted (r ∷ rs)
    srt = subst Sorted e o.front

    bel : Each (Under h.segs) (r ∷ rs)
    bel = subst (Each (Under h.segs)) e o.below

pub pop_contents : (how : ℕ → Sum) (h : Held) (r : Row) (rs : List Row) → h.front ≡ r ∷ rs → h.source ≡ [] → Order h → contents how h ≡ r ∷ contents how (pop_h rs h)
unfolding onto
pop_contents how h r rs e n o = ap (λ (x : List Row). onto how x (onto how h.buffer (onto how (under h.segs) (onto how (chain_rows h.source) [])))) e ∙ add_first how r (contents how (pop_h rs h)) (least how h r rs e n o)

pub pop_order : (h : Held) (r : Row) (rs : List Row) → h.front ≡ r ∷ rs → Order h → Order (pop_h rs h)
pop_order h r rs e o = record { front = (subst Sorted e o.front).1; buffer = o.buffer; below = (subst (Each (Under h.segs)) e o.below).1; above = o.above; segs = o.segs }

pub sorted_contents : (how : ℕ → Sum) (h : Held) → Sorted (contents how h)
sorted_contents how h = sorted_onto how h.front (onto how h.buffer (onto how (under h.segs) (onto how (chain_rows h.source) []))) (sorted_onto how h.buffer (onto how (under h.segs) (onto how (chain_rows h.source) [])) (sorted_onto how (under h.segs) (onto how (chain_rows h.source) []) (sorted_onto how (chain_rows h.source) [] tt)))

-- the ways of the stages
fits_more : (st : Stage) (all : List Stage) (s : ℕ) (sts : List Stage) → Fits (how_of all) s sts → Fits (how_of (st ∷ all)) (suc s) sts
unfolding how_of
fits_more st all s [] f = tt
fits_more st all s (x ∷ sts) f = (f.0, f.1, fits_more st all (suc s) sts f.2)

pub fits : (sts : List Stage) → Sized sts → Fits (how_of sts) 0 sts
unfolding how_of
fits [] z = tt
fits (st ∷ sts) z = (refl, z.0, fits_more st sts 0 sts (fits sts z.1))

-- LIVE
pub has_add : (how : ℕ → Sum) (r : Row) (x : List Row) (k : Key) → Has x k → Has (add how r x) k
has_add how r [] k h = absurd h
has_add how r (c ∷ cs) k h = go (tri r.at c.at) (has_add how r cs k) h
  where
    go : Tri r.at c.at → (Has cs k → Has (add how r cs) k) → (c.at ≡ k) ⊎ Has cs k → Has (add how r (c ∷ cs)) k
    go (lo p) i j = subst (λ (z : List Row). Has z k) (sym (add_lo how r c cs p)) (inr j)
    go (eq p) i j = subst (λ (z : List Row). Has z k) (sym (add_eq how r c cs p)) j
    go (hi p) i (inl j) = subst (λ (z : List Row). Has z k) (sym (add_hi how r c cs p)) (inl j)
    go (hi p) i (inr j) = subst (λ (z : List Row). Has z k) (sym (add_hi how r c cs p)) (inr (i j))

has_each : (P : Key → Type 0) (x : List Row) (k : Key) → Has x k → Each P x → P k
has_each P [] k h e = absurd h
has_each P (r ∷ rs) k (inl p) e = subst P p e.0
has_each P (r ∷ rs) k (inr p) e = has_each P rs k p e.1

each_has : (x : List Row) → Each (Has x) x
each_has [] = tt
each_has (r ∷ rs) = (inl refl, each_like (Has rs) (Has (r ∷ rs)) (λ k h. inr h) rs (each_has rs))

alive_like : (P Q : Key → Type 0) → ((k : Key) → P k → Q k) → (ss : Segs) → Alive P ss → Alive Q ss
alive_like P Q f none a = tt
alive_like P Q f (plain low c ss) a = (f low a.0, alive_like P Q f ss a.1)
alive_like P Q f (packed low n i c ss) a = (alive_like P Q f i a.0, alive_like P Q f ss a.1)

alive_above : (P Q : Key → Type 0) (b : Key) → ((k : Key) → Bef b k → P k → Q k) → (L : Key → Type 0) (ss : Segs) → SegsOk L ss → Under ss b → Alive P ss → Alive Q ss
alive_above P Q b f L none o u a = tt
alive_above P Q b f L (plain low c ss) o u a = (f low u a.0, alive_above P Q b f L ss o.2 (under_down L ss b low u o.1) a.1)
alive_above P Q b f L (packed low n i c ss) o u a = (alive_above P Q b f (Till L ss) i o.4 (first_under i b low o.3 u) a.0, alive_above P Q b f L ss o.2 (under_down L ss b low u o.1) a.1)

bef_self : (k : Key) → Bef k k → ⊥
bef_self k b = grind arith

pub has_later : (r : Row) (x : List Row) (k : Key) → Bef r.at k → Has (r ∷ x) k → Has x k
has_later r x k b (inl e) = absurd (bef_self k (subst (λ (z : Key). Bef z k) e b))
has_later r x k b (inr h) = h

-- HOW MUCH IS LEFT TO LET GO
abbrev pub load : ℕ → List Row → ℕ
load n [] = 0
load n (r ∷ rs) = (n - r.at.stage) + load n rs

load_add : (how : ℕ → Sum) (n : ℕ) (r : Row) (x : List Row) → load n (add how r x) ≤ (n - r.at.stage) + load n x
unfolding add
load_add how n r [] = omega arith
load_add how n r (c ∷ cs) = go (tri r.at c.at) (load_add how n r cs)
  where
    go : Tri r.at c.at → load n (add how r cs) ≤ (n - r.at.stage) + load n cs → load n (add how r (c ∷ cs)) ≤ (n - r.at.stage) + ((n - c.at.stage) + load n cs)
    go (lo p) i = rw (add_lo how r c cs p) (omega arith)
    go (eq p) i = rw (add_eq how r c cs p) (omega arith)
    go (hi p) i = rw (add_hi how r c cs p) (omega arith)

load_rest : (how : ℕ → Sum) (n t : ℕ) (sts : List Stage) (e : Event) (x : List Row) → t < n → load n (rest how (onward_by sts (suc t) e) x) < (n - t) + load n x
unfolding onward_by
load_rest how n t [] e x l = omega arith
load_rest how n t (st ∷ sts) e x l = go (eqb (word st.keep' e) 0)
  where
    go : (b : Bool) → load n (rest how (cond b Gone (On (row_of st (suc t) e))) x) < (n - t) + load n x
    go true = omega arith
    go false = omega (arith, load_add how n (row_of st (suc t) e) x)

-- EMITTING
abbrev pub Ended : ℕ → List Row → Type 0
Ended m [] = ⊥
Ended m (r ∷ rs) = r.at.end ≤ m

pub record Emits (sts : List Stage) (m : ℕ) (es : List Event) (f : Pages) (k : ℕ) (h : Held) (os : List Event) (e : Emitted) : Type 0 where
  pub held : Held
  pub is : e.queue ≡ queue_of held
  pub pages : HeldIn f held
  pub order : Order held
  pub none : held.source ≡ []
  pub alive : Alive (Has (contents (how_of sts) held)) held.segs
  pub flows : Flows sts m es (contents (how_of sts) held) (os ++ e.outs)
  pub lean : Lean held
  pub few : rows_of held ≤ rows_of h
  pub next : held.next ≡ h.next
  pub most : load (length sts) (contents (how_of sts) held) ≤ load (length sts) (contents (how_of sts) h)
  pub outs : load (length sts) (contents (how_of sts) held) + length e.outs ≤ load (length sts) (contents (how_of sts) h)
  pub less : Ended m h.front → 1 ≤ k → load (length sts) (contents (how_of sts) held) < load (length sts) (contents (how_of sts) h)

-- one row went on
record Went (sts : List Stage) (m : ℕ) (es : List Event) (f : Pages) (h : Held) (o : Onward) (os : List Event) (e : Emitted) : Type 0 where
  held : Held
  is : e.queue ≡ queue_of held
  pages : HeldIn f held
  order : Order held
  none : held.source ≡ []
  alive : Alive (Has (contents (how_of sts) held)) held.segs
  flows : Flows sts m es (contents (how_of sts) held) (os ++ e.outs)
  lean : Lean held
  few : rows_of held ≤ suc (rows_of h)
  next : held.next ≡ h.next
  same : contents (how_of sts) held ≡ rest (how_of sts) o (contents (how_of sts) h)

go_on_is : (sts : List Stage) (m : ℕ) (es : List Event) (f : Pages) (h : Held) (os : List Event) (o : Onward) → HeldIn f h → Order h → h.source ≡ [] → Lean h → Alive (Has (contents (how_of sts) h)) h.segs → Flows sts m es (rest (how_of sts) o (contents (how_of sts) h)) (outs o os) → Went sts m es f h o os (go_on (how_of sts) o (queue_of h))
go_on_is sts m es f h os (Out e) i o n l a w = record { held = h; is = refl; pages = i; order = o; none = n; lean = l; few = omega arith; alive = a; flows = w; next = refl; same = refl }
go_on_is sts m es f h os (On r) i o n l a w =
    record {
      held = place_h (how_of sts) r h;
      is = place_is (how_of sts) r h;
      pages = i;
      order = place_order (how_of sts) r h o;
      none = n;
      lean = record { segs = l.segs; source = l.source };
      few = place_few (how_of sts) r h;
      alive = subst (λ (x : List Row). Alive (Has x) h.segs) (sym (place_contents (how_of sts) r h)) (alive_like (Has (contents (how_of sts) h)) (Has (add (how_of sts) r (contents (how_of sts) h))) (has_add (how_of sts) r (contents (how_of sts) h)) h.segs a);
      flows = subst (λ (x : List Row). Flows sts m es x (os ++ [])) (sym (place_contents (how_of sts) r h)) (subst (Flows sts m es (add (how_of sts) r (contents (how_of sts) h))) (sym (append-nil os)) w);
      next = refl;
      same = place_contents (how_of sts) r h;
    }
go_on_is sts m es f h os Gone i o n l a w = record { held = h; is = refl; pages = i; order = o; none = n; lean = l; few = omega arith; alive = a; flows = subst (Flows sts m es (contents (how_of sts) h)) (sym (append-nil os)) w; next = refl; same = refl }

stop : (sts : List Stage) (m : ℕ) (es : List Event) (f : Pages) (k : ℕ) (h : Held) (os : List Event) → HeldIn f h → Order h → h.source ≡ [] → Lean h → Alive (Has (contents (how_of sts) h)) h.segs → Flows sts m es (contents (how_of sts) h) os → (Ended m h.front → 1 ≤ k → ⊥) → Emits sts m es f k h os (record { queue = queue_of h; outs = [] })
stop sts m es f k h os i o n ln a w nay = record { held = h; is = refl; pages = i; order = o; none = n; lean = ln; few = omega arith; alive = a; flows = subst (Flows sts m es (contents (how_of sts) h)) (sym (append-nil os)) w; next = refl; most = omega arith; outs = omega arith; less = λ x y. absurd (nay x y) }

abbrev Emitting : List Stage → ℕ → List Event → Pages → ℕ → (Queue → Emitted) → Type 0
Emitting sts m es f k more = (h : Held) (os : List Event) → HeldIn f h → Order h → h.source ≡ [] → Lean h → Alive (Has (contents (how_of sts) h)) h.segs → Flows sts m es (contents (how_of sts) h) os → Emits sts m es f k h os (more (queue_of h))

one_out : (how : ℕ → Sum) (o : Onward) (q : Queue) → length (go_on how o q).outs ≤ 1
one_out how (Out e) q = omega arith
one_out how (On r) q = omega arith
one_out how Gone q = omega arith

emits_by : (sts : List Stage) (m : ℕ) (es : List Event) (f : Pages) (k : ℕ) (more : Queue → Emitted) → Sized sts → Emitting sts m es f k more → (h : Held) (os : List Event) (rs : List Row) → h.front ≡ rs → HeldIn f h → Order h → h.source ≡ [] → Lean h → Alive (Has (contents (how_of sts) h)) h.segs → Flows sts m es (contents (how_of sts) h) os → Emits sts m es f (suc k) h os (emit_by sts m more rs (queue_of h))
unfolding emit_by
emits_by sts m es f k more z ih h os [] e i o n ln a w = stop sts m es f (suc k) h os i o n ln a w (λ x y. subst (Ended m) e x)
emits_by sts m es f k more z ih h os (r ∷ rs) e i o n ln a w = go (leb r.at.end m) refl
  where
    how : ℕ → Sum
    how = how_of sts

    ems : Emitted
    ems = go_on (how_of sts) (onward sts r) (queue_of (pop_h rs h))

    p : contents (how_of sts) h ≡ r ∷ contents (how_of sts) (pop_h rs h)
    p = pop_contents (how_of sts) h r rs e n o

    fl : Flows sts m es (r ∷ contents (how_of sts) (pop_h rs h)) os
    fl = subst (λ (x : List Row). Flows sts m es x os) p w

    alv : Alive (Has (contents (how_of sts) (pop_h rs h))) h.segs
    alv = alive_above (Has (r ∷ contents (how_of sts) (pop_h rs h))) (Has (contents (how_of sts) (pop_h rs h))) r.at (has_later r (contents (how_of sts) (pop_h rs h))) Free h.segs o.segs (subst (Each (Under h.segs)) e o.below).0 (subst (λ (x : List Row). Alive (Has x) h.segs) p a)

    joined : (t : Went sts m es f (pop_h rs h) (onward sts r) os ems) → Emits sts m es f k t.held (os ++ ems.outs) (more (queue_of t.held)) → Emits sts m es f (suc k) h os (then' ems.outs (more ems.queue))
    joined t b =
        subst (λ (q : Queue). Emits sts m es f (suc k) h os (then' ems.outs (more q))) (sym t.is)
        (record {
          held = b.held;
          is = b.is;
          pages = b.pages;
          order = b.order;
          none = b.none;
          lean = b.lean;
          few = omega (arith, b.few, t.few, ap length e);
          alive = b.alive;
          flows = subst (Flows sts m es (contents (how_of sts) b.held)) (append_assoc os ems.outs (more (queue_of t.held)).outs) b.flows;
          next = b.next ∙ t.next;
          most = le;
          outs = paid;
          less = λ x y. lt;
        })
      where
        lt : load (length sts) (contents (how_of sts) b.held) < load (length sts) (contents (how_of sts) h)
        lt = omega (arith, b.most, ap (load (length sts)) t.same, ap (load (length sts)) p, load_rest (how_of sts) (length sts) r.at.stage (drop (suc r.at.stage) sts) (as_event r) (contents (how_of sts) (pop_h rs h)) fl.stages.0)

        le : load (length sts) (contents (how_of sts) b.held) ≤ load (length sts) (contents (how_of sts) h)
        le = omega (arith, lt)

        paid : load (length sts) (contents (how_of sts) b.held) + length (ems.outs ++ (more (queue_of t.held)).outs) ≤ load (length sts) (contents (how_of sts) h)
        paid = omega (arith, b.outs, one_out (how_of sts) (onward sts r) (queue_of (pop_h rs h)), length-append ems.outs (more (queue_of t.held)).outs, ap (load (length sts)) t.same, ap (load (length sts)) p, load_rest (how_of sts) (length sts) r.at.stage (drop (suc r.at.stage) sts) (as_event r) (contents (how_of sts) (pop_h rs h)) fl.stages.0)

    go : (b : Bool) → leb r.at.end m ≡ b → Emits sts m es f (suc k) h os (cond b (then' ems.outs (more ems.queue)) (record { queue = queue_of h; outs = [] }))
    go true l =
        let t : Went sts m es f (pop_h rs h) (onward sts r) os ems = go_on_is sts m es f (pop_h rs h) os (onward sts r) i (pop_order h r rs e o) n (record { segs = ln.segs; source = ln.source }) alv (flows_pop (how_of sts) sts m es r (contents (how_of sts) (pop_h rs h)) os (fits sts z) (subst Sorted p (sorted_contents (how_of sts) h)) (leb-true r.at.end m l) fl) in
        joined t (ih t.held (os ++ ems.outs) t.pages t.order t.none t.lean t.alive t.flows)
    go false l = stop sts m es f (suc k) h os i o n ln a w (λ x y. not_yet (subst (Ended m) e x))
      where
        not_yet : r.at.end ≤ m → ⊥
        not_yet x = omega (arith, leb-false r.at.end m l)

pub emits : (sts : List Stage) (m : ℕ) (es : List Event) (f : Pages) (k : ℕ) → Sized sts → Emitting sts m es f k (emit sts m k)
unfolding emit
emits sts m es f zero z h os i o n ln a w = stop sts m es f zero h os i o n ln a w (λ x y. omega arith)
emits sts m es f (suc k) z h os i o n ln a w = emits_by sts m es f k (emit sts m k) z (emits sts m es f k z) h os h.front refl i o n ln a w

-- WHAT A STEP THAT IS DUE MAY COUNT ON
abbrev pub Ready : ℕ → Step → Queue → Type 0
Ready m (Spill i) q = (1 ≤ length q.buffer) × (i ≡ (fullest q.segments q.buffer).number)
Ready m Lower q = 2 ≤ length q.front
Ready m (Pack v) q = 3 ≤ at_level v q.segments
Ready m Sift q = (n : ℕ) × (q.source ≡ page n)
Ready m Emit q = (q.source ≡ nil) × Ended m q.front
Ready m Unpack q = (q.source ≡ nil) × (q.front ≡ []) × (n : ℕ) × (index_of q.segments ≡ page n)
Ready m Open q = (q.source ≡ nil) × (q.front ≡ []) × (s : Seg) × (ss : List Seg) × (q.segments ≡ s ∷ ss) × (s.index ≡ nil)

same_step : (m : ℕ) (x step : Step) (q : Queue) → Ready m x q → Do x ≡ Do step → Ready m step q
same_step m x step q r e = let k : x ≡ step = cc in subst (λ (s : Step). Ready m s q) k r

never : (step : Step) (A : Type 0) → Nothing ≡ Do step → A
never step A e = absurd (let z : ◌≡◌ {A = ℕ} 0 1 = cc in omega arith)

one_of : (m : ℕ) (b : Bool) (x step : Step) (d : Due) (q : Queue) → (b ≡ true → Ready m x q) → (d ≡ Do step → Ready m step q) → cond b (Do x) d ≡ Do step → Ready m step q
one_of m true x step d q r f e = same_step m x step q (r refl) e
one_of m false x step d q r f e = f e

ready_first : (m : ℕ) (l : Link) (s : Seg) (ss : List Seg) (q : Queue) (step : Step) → q.source ≡ nil → q.front ≡ [] → q.segments ≡ s ∷ ss → s.index ≡ l → due_first l ≡ Do step → Ready m step q
unfolding due_first index_of
ready_first m nil s ss q step n v t i e = same_step m Open step q (n, v, s, ss, t, i) e
ready_first m (page k) s ss q step n v t i e = same_step m Unpack step q (n, v, k, ap index_of t ∙ i) e

ready_segments : (m : ℕ) (ts : List Seg) (q : Queue) (step : Step) → q.source ≡ nil → q.front ≡ [] → q.segments ≡ ts → due_segments ts ≡ Do step → Ready m step q
unfolding due_segments
ready_segments m [] q step n v t e = never step (Ready m step q) e
ready_segments m (s ∷ ss) q step n v t e = ready_first m s.index s ss q step n v t refl e

ready_front : (m : ℕ) (rs : List Row) (q : Queue) (step : Step) → q.source ≡ nil → q.front ≡ rs → due_front m rs q.segments ≡ Do step → Ready m step q
unfolding due_front
ready_front m [] q step n v e = ready_segments m q.segments q step n v refl e
ready_front m (r ∷ rs) q step n v e = one_of m (leb r.at.end m) Emit step Nothing q (λ (t : leb r.at.end m ≡ true). (n, subst (Ended m) (sym v) (leb-true r.at.end m t))) (never step (Ready m step q)) e

ready_source : (m : ℕ) (l : Link) (q : Queue) (step : Step) → q.source ≡ l → due_source m l q ≡ Do step → Ready m step q
unfolding due_source
ready_source m nil q step n e = ready_front m q.front q step n refl e
ready_source m (page k) q step n e = same_step m Sift step q (k, n) e

ready_rows : (z : Sizes) → SizesOk z → (m : ℕ) (q : Queue) (step : Step) → due_rows z m q ≡ Do step → Ready m step q
unfolding due_rows
ready_rows z zo m q step e =
    one_of m (ltb z.buffer (length q.buffer)) (Spill (fullest q.segments q.buffer).number) step (cond (ltb z.front (length q.front)) (Do Lower) (due_source m q.source q)) q
    (λ (t : ltb z.buffer (length q.buffer) ≡ true). (omega (arith, ltb-true z.buffer (length q.buffer) t), refl))
    (one_of m (ltb z.front (length q.front)) Lower step (due_source m q.source q) q
    (λ (t : ltb z.front (length q.front) ≡ true). omega (arith, ltb-true z.front (length q.front) t)) (ready_source m q.source q step refl)) e

-- a crowded level has more segments than there should be
pub crowd_tells : (most : ℕ) (all ss : List Seg) (v : ℕ) → crowd most all ss ≡ crowded v → most < at_level v all
unfolding crowd
crowd_tells z all [] v e = absurd (let k : ◌≡◌ {A = ℕ} 0 1 = cc in omega arith)
crowd_tells z all (s ∷ ss) v e = go (ltb z (at_level s.level all)) refl (crowd_tells z all ss v) e
  where
    go : (b : Bool) → ltb z (at_level s.level all) ≡ b → (crowd z all ss ≡ crowded v → z < at_level v all) → cond b (crowded s.level) (crowd z all ss) ≡ crowded v → z < at_level v all
    go true t i d = let k : s.level ≡ v = cc in subst (λ (x : ℕ). z < at_level x all) k (ltb-true z (at_level s.level all) t)
    go false t i d = i d

ready_crowd : (z : Sizes) → SizesOk z → (m : ℕ) (c : Crowd) (q : Queue) (step : Step) → crowd z.segments q.segments q.segments ≡ c → due_crowd z m c q ≡ Do step → Ready m step q
unfolding due_crowd
ready_crowd z zo m calm q step t e = ready_rows z zo m q step e
ready_crowd z zo m (crowded v) q step t e = same_step m (Pack v) step q (omega (arith, crowd_tells z.segments q.segments q.segments v t, zo.2)) e

pub ready : (z : Sizes) → SizesOk z → (m : ℕ) (q : Queue) (step : Step) → due z m q ≡ Do step → Ready m step q
ready z zo m q step e = ready_crowd z zo m (crowd z.segments q.segments q.segments) q step refl e

-- WHAT FALLS. Below the first low there is a row; or else the level of the first segment
abbrev pub Low : (ℕ → Sum) → Held → Type 0
Low how h = (k : Key) × Has (contents how h) k × Under h.segs k

abbrev pub Rank : (ℕ → Sum) → ℕ → Held → Type 0
Rank how zero h = Low how h
Rank how (suc p) h = Low how h ⊎ (level_of h.segs ≤ p)

rank_low : (how : ℕ → Sum) (p : ℕ) (h : Held) → Low how h → Rank how p h
rank_low how zero h l = l
rank_low how (suc p) h l = inl l

abbrev pub chain_weight : List Paged → ℕ
chain_weight [] = 0
chain_weight (p ∷ ps) = 1 + 4 * length p.rows + chain_weight ps

abbrev pub weigh_q : Queue → List Paged → ℕ
weigh_q q src = 4 * length q.front + 2 * length q.buffer + length q.segments + chain_weight src

abbrev pub weigh : Held → ℕ
weigh h = weigh_q (queue_of h) h.source

abbrev pub Falls : (ℕ → Sum) → Held → Held → Type 0
Falls how h g = (p : ℕ) → Rank how p h → (Rank how p g × (weigh g < weigh h)) ⊎ ((q : ℕ) × (suc q ≡ p) × Rank how q g)

pub record Advance (sts : List Stage) (m : ℕ) (es : List Event) (f : Pages) (h : Held) (os : List Event) (d : Done) : Type 0 where
  pub held : Held
  pub is : d.queue ≡ queue_of held
  pub pages : HeldIn (written d.writes f) held
  pub order : Order held
  pub alive : Alive (Has (contents (how_of sts) held)) held.segs
  pub flows : Flows sts m es (contents (how_of sts) held) (os ++ d.outs)
  pub fresh : Fresh h.next held.next d.writes
  pub lean : Lean held
  pub few : rows_of held ≤ rows_of h
  pub outs : load (length sts) (contents (how_of sts) held) + length d.outs ≤ load (length sts) (contents (how_of sts) h)
  pub falls : (load (length sts) (contents (how_of sts) held) < load (length sts) (contents (how_of sts) h)) ⊎ ((load (length sts) (contents (how_of sts) held) ≤ load (length sts) (contents (how_of sts) h)) × Falls (how_of sts) h held)

kept_advance : (sts : List Stage) (m : ℕ) (es : List Event) (f : Pages) (h : Held) (os : List Event) (a : After) (src : List Paged) (below : Key → Type 0) (fst : ℕ) → Lean h → Alive (Has (contents (how_of sts) h)) h.segs → Flows sts m es (contents (how_of sts) h) os →
    (k : Kept (how_of sts) f h a src below fst) → Falls (how_of sts) h k.held → Advance sts m es f h os (quiet a)
kept_advance sts m es f h os a src below fst ln al w k fa =
    record {
      held = k.held;
      is = k.is;
      pages = k.pages;
      order = k.order;
      alive = subst (λ (x : List Row). Alive (Has x) k.held.segs) (sym k.same) (k.live (Has (contents (how_of sts) h)) (each_has (contents (how_of sts) h)) al);
      flows = subst (λ (x : List Row). Flows sts m es x (os ++ [])) (sym k.same) (subst (Flows sts m es (contents (how_of sts) h)) (sym (append-nil os)) w);
      fresh = k.fresh;
      lean = k.lean ln;
      few = k.few;
      outs = omega (arith, ap (load (length sts)) k.same);
      falls = inr (omega (arith, ap (load (length sts)) k.same), fa);
    }

kept_weigh : (how : ℕ → Sum) (f : Pages) (h : Held) (a : After) (src : List Paged) (below : Key → Type 0) (fst : ℕ) → (k : Kept how f h a src below fst) → weigh k.held ≡ weigh_q a.queue src
kept_weigh how f h a src below fst k = ap (λ (q : Queue). weigh_q q k.held.source) (sym k.is) ∙ ap (weigh_q a.queue) k.source

kept_rank : (how : ℕ → Sum) (f : Pages) (h : Held) (a : After) (src : List Paged) → (k : Kept how f h a src (Under h.segs) (level_of h.segs)) → (p : ℕ) → Rank how p h → Rank how p k.held
kept_rank how f h a src k zero x = (x.0, subst (λ (z : List Row). Has z x.0) (sym k.same) x.1, k.low x.0 x.2)
kept_rank how f h a src k (suc p) (inl x) = inl (x.0, subst (λ (z : List Row). Has z x.0) (sym k.same) x.1, k.low x.0 x.2)
kept_rank how f h a src k (suc p) (inr x) = inr (omega (arith, k.level))

-- a step that tidies
tidy : (sts : List Stage) (m : ℕ) (es : List Event) (f : Pages) (h : Held) (os : List Event) (a : After) (src : List Paged) → Lean h → Alive (Has (contents (how_of sts) h)) h.segs → Flows sts m es (contents (how_of sts) h) os →
    Kept (how_of sts) f h a src (Under h.segs) (level_of h.segs) → weigh_q a.queue src < weigh h → Advance sts m es f h os (quiet a)
tidy sts m es f h os a src ln al w k l =
    kept_advance sts m es f h os a src (Under h.segs) (level_of h.segs) ln al w k (λ p r. inl (kept_rank (how_of sts) f h a src k p r, omega (arith, l, kept_weigh (how_of sts) f h a src (Under h.segs) (level_of h.segs) k)))

-- SPILL
picks_some : (n : ℕ) (g : Key → Bool) (rs : List Row) → 1 ≤ n → 1 ≤ Rattle.book.specs.Due.count g rs → 1 ≤ length (pick n g rs)
picks_some zero g rs l c = absurd (omega arith)
picks_some (suc n) g rs l c = picks n g rs c

adv_spill : (z : Sizes) → SizesOk z → (sts : List Stage) (m : ℕ) (es : List Event) (f : Pages) (h : Held) (os : List Event) (i : ℕ) → Ready m (Spill i) (queue_of h) → HeldIn f h → Order h → Lean h → Alive (Has (contents (how_of sts) h)) h.segs → Flows sts m es (contents (how_of sts) h) os → Advance sts m es f h os (do' z sts m (Spill i) (page_of f (shows (Spill i) (queue_of h))) (queue_of h))
adv_spill z zo sts m es f h os i r hh o ln al w = tidy sts m es f h os (spill (how_of sts) z.rows i (page_of f (head_at i (heads h.segs))) (queue_of h)) h.source ln al w (spill_keeps (how_of sts) z.rows f i h some zo.1 hh o)
    (omega (arith, length_pick z.rows (is_of i (heads h.segs)) h.buffer, some, spilled_more (how_of sts) z.rows h.next (page_of f (head_at i (heads h.segs))) i (heads h.segs) (pick z.rows (is_of i (heads h.segs)) h.buffer)))
  where
    some : 1 ≤ length (pick z.rows (is_of i (heads h.segs)) h.buffer)
    some = subst (λ (j : ℕ). 1 ≤ length (pick z.rows (is_of j (heads h.segs)) h.buffer)) (sym r.1) (picks_some z.rows (is_of (fullest (heads h.segs) h.buffer).number (heads h.segs)) h.buffer zo.1 (spills h.segs h.buffer r.0 o.above))

-- LOWER
lower_weigh : (how : ℕ → Sum) (xs ys : List Row) (q : Queue) (src : List Paged) → 1 ≤ length ys → length xs + length ys ≡ length q.front → weigh_q (lower_by how xs ys q) src < weigh_q q src
unfolding lower_by
lower_weigh how xs [] q src l e = absurd (omega arith)
lower_weigh how xs (y ∷ ys) q src l e = omega (arith, length_onto how (y ∷ ys) q.buffer)

lower_low : (how : ℕ → Sum) (h : Held) (xs ys : List Row) → xs ++ ys ≡ h.front → Order h → 1 ≤ length xs → 1 ≤ length ys → (k : Key) × Has (contents how h) k × below_of ys h k
lower_low how h xs [] e o lx ly = absurd (omega arith)
lower_low how h [] (y ∷ ys) e o lx ly = absurd (omega arith)
lower_low how h (x ∷ xs) (y ∷ ys) e o lx ly = (
  x.at,
  (Rattle.book.proofs.Lists.each_left (Has (contents how h)) (x ∷ xs) (y ∷ ys) (subst (Each (Has (contents how h))) (sym e) (Rattle.book.proofs.Lists.each_onto_inv (Has (contents how h)) how h.front (onto how h.buffer (onto how (under h.segs) (onto how (chain_rows h.source) []))) (each_has (contents how h))).0)).0,
  (sorted_mid (x ∷ xs) y ys (subst Sorted (sym e) o.front)).0,
)

adv_lower : (z : Sizes) (sts : List Stage) (m : ℕ) (es : List Event) (f : Pages) (h : Held) (os : List Event) → Ready m Lower (queue_of h) → HeldIn f h → Order h → Lean h → Alive (Has (contents (how_of sts) h)) h.segs → Flows sts m es (contents (how_of sts) h) os → Advance sts m es f h os (do' z sts m Lower Blank (queue_of h))
adv_lower z sts m es f h os r hh o ln al w = done (lower_keeps (how_of sts) f n h hh o)
  where
    n : ℕ
    n = length h.front / 2

    xs : List Row
    xs = take n h.front

    ys : List Row
    ys = drop n h.front

    lx : 1 ≤ length xs
    lx = omega (arith, length-take n h.front)

    ly : 1 ≤ length ys
    ly = omega (arith, length-drop n h.front)

    both : length xs + length ys ≡ length h.front
    both = omega (arith, length-take n h.front, length-drop n h.front)

    done : Kept (how_of sts) f h (lower (how_of sts) n (queue_of h)) h.source (below_of ys h) (level_of h.segs) → Advance sts m es f h os (quiet (lower (how_of sts) n (queue_of h)))
    done k = kept_advance sts m es f h os (lower (how_of sts) n (queue_of h)) h.source (below_of ys h) (level_of h.segs) ln al w k (λ p x. inl (rank_low (how_of sts) p k.held low, omega (arith, lower_weigh (how_of sts) xs ys (queue_of h) h.source ly both, kept_weigh (how_of sts) f h (lower (how_of sts) n (queue_of h)) h.source (below_of ys h) (level_of h.segs) k)))
      where
        b : (x : Key) × Has (contents (how_of sts) h) x × below_of ys h x
        b = lower_low (how_of sts) h xs ys (take-append-drop n h.front) o lx ly

        low : Low (how_of sts) k.held
        low = (b.0, subst (λ (z : List Row). Has z b.0) (sym k.same) b.1, k.low b.0 b.2)

-- PACK
pub levels_apart : (v : ℕ) (ss : List Seg) → below_level v ss + at_level v ss ≤ length ss
unfolding at_level below_level
levels_apart v [] = omega arith
levels_apart v (s ∷ ss) = let ih : below_level v ss + at_level v ss ≤ length ss = levels_apart v ss in grind (arith, nat_tests)

pack_weigh : (xs ys us : List Seg) (q : Queue) (src : List Paged) → 2 ≤ length ys → length xs + (length ys + length us) ≡ length q.segments → weigh_q (pack_by xs ys us q).queue src < weigh_q q src
unfolding pack_by
pack_weigh xs [] us q src l e = absurd (omega arith)
pack_weigh xs (y ∷ ys) us q src l e = omega (arith, length-append xs (record { low = y.low; index = page q.next; head = nil; level = suc y.level } ∷ us))

many_fits : (z : Sizes) (n : ℕ) → 3 ≤ n → 2 ≤ z.segments → (2 ≤ pack_many z n) × (pack_many z n ≤ n - n / 2)
many_fits z n h k = elim (ltb z.segments (less_by (n / 2) n)) as (λ c. ltb z.segments (less_by (n / 2) n) ≡ c → (2 ≤ cond c z.segments (less_by (n / 2) n)) × (cond c z.segments (less_by (n / 2) n) ≤ n - n / 2)) [ true ↦ λ e. (k, omega (arith, less_by_is (n / 2) n, ltb-true z.segments (less_by (n / 2) n) e)) | false ↦ λ e. (omega (arith, h, less_by_is (n / 2) n), omega (arith, less_by_is (n / 2) n)) ] refl

adv_pack : (z : Sizes) → SizesOk z → (sts : List Stage) (m : ℕ) (es : List Event) (f : Pages) (h : Held) (os : List Event) (v : ℕ) → Ready m (Pack v) (queue_of h) → HeldIn f h → Order h → Lean h → Alive (Has (contents (how_of sts) h)) h.segs → Flows sts m es (contents (how_of sts) h) os → Advance sts m es f h os (do' z sts m (Pack v) Blank (queue_of h))
adv_pack z zo sts m es f h os v r hh o ln al w = go (below_level v ss + at_level v ss / 2) (pack_many z (at_level v ss)) (omega (arith, r)) (many_fits z (at_level v ss) r zo.2).0 (omega (arith, levels_apart v ss, (many_fits z (at_level v ss) r zo.2).1))
  where
    ss : List Seg
    ss = heads h.segs

    go : (i k : ℕ) → 1 ≤ i → 2 ≤ k → i + k ≤ length ss → Advance sts m es f h os (quiet (pack i k (queue_of h)))
    go zero k a b c = absurd (omega (arith, a))
    go (suc i) zero a b c = absurd (omega (arith, b))
    go (suc i) (suc zero) a b c = absurd (omega (arith, b))
    go (suc i) (suc (suc k)) a b c = tidy sts m es f h os (pack (suc i) (suc (suc k)) (queue_of h)) h.source ln al w (pack_keeps (how_of sts) f i k h (omega (arith, c)) hh o)
        (pack_weigh (take (suc i) ss) (take (suc (suc k)) (drop (suc i) ss)) (drop (suc (suc k)) (drop (suc i) ss)) (queue_of h) h.source
        (omega (arith, b, c, length-take (suc (suc k)) (drop (suc i) ss), length-drop (suc i) ss))
        (omega (arith, c, length-take (suc i) ss, length-take (suc (suc k)) (drop (suc i) ss), length-drop (suc (suc k)) (drop (suc i) ss), length-drop (suc i) ss)))

-- SIFT
no_source : (c : List Paged) → head_of c ≡ nil → c ≡ []
no_source [] e = refl
no_source (p ∷ ps) e = absurd (let z : ◌≡◌ {A = ℕ} 0 1 = cc in omega arith)

nil_page : (A : Type 0) (n : ℕ) → nil ≡ page n → A
nil_page A n e = absurd (let z : ◌≡◌ {A = ℕ} 0 1 = cc in omega arith)

sift_weigh : (how : ℕ → Sum) (f : Pages) (h : Held) (p : Paged) (ps : List Paged) → h.source ≡ p ∷ ps → f p.number ≡ RowPage (head_of ps) p.rows → weigh_q (sift_by how (f p.number) (queue_of h)) ps < weigh h
unfolding sift_by
sift_weigh how f h p ps e v = omega (arith, places_weight how p.rows g, ap length (ap heads (places_segs how p.rows g)), ap (λ (x : Page). weigh_q (sift_by how x (queue_of h)) ps) v ∙ ap (λ (x : Queue). weigh_q x ps) (places_is how p.rows g), ap chain_weight e)
  where
    g : Held
    g = record { front = h.front; buffer = h.buffer; segs = h.segs; source = ps; next = h.next }

abbrev pub Adv : Sizes → List Stage → ℕ → List Event → Pages → Held → List Event → Step → Type 0
Adv z sts m es f h os step = Advance sts m es f h os (do' z sts m step (page_of f (shows step (queue_of h))) (queue_of h))

adv_sift : (z : Sizes) (sts : List Stage) (m : ℕ) (es : List Event) (f : Pages) (h : Held) (os : List Event) (c : List Paged) → h.source ≡ c → Ready m Sift (queue_of h) → HeldIn f h → Order h → Lean h → Alive (Has (contents (how_of sts) h)) h.segs → Flows sts m es (contents (how_of sts) h) os → Adv z sts m es f h os Sift
adv_sift z sts m es f h os [] e r i o ln al w = nil_page (Adv z sts m es f h os Sift) r.0 (ap head_of (sym e) ∙ r.1)
adv_sift z sts m es f h os (p ∷ ps) e r i o ln al w =
    subst (λ (x : Link). Advance sts m es f h os (quiet (sift (how_of sts) (page_of f x) (queue_of h)))) (ap head_of (sym e))
    (tidy sts m es f h os (sift (how_of sts) (f p.number) (queue_of h)) ps ln al w (sift_keeps (how_of sts) f h p ps e i o) (sift_weigh (how_of sts) f h p ps e (subst (ChainIn f h.next) e i.1).1))

-- OPEN AND UNPACK are due only where no row is below the first low
no_low : (how : ℕ → Sum) (h : Held) → Order h → h.front ≡ [] → h.source ≡ [] → Low how h → ⊥
unfolding onto
no_low how h o e n l = bef_self l.0 (has_each (Bef l.0) (contents how h) l.0 l.1 (subst (λ (x : List Row). Each (Bef l.0) (onto how x others)) (sym e) after))
  where
    others : List Row
    others = onto how h.buffer (onto how (under h.segs) (onto how (chain_rows h.source) []))

    after : Each (Bef l.0) others
    after = each_onto (Bef l.0) how h.buffer (onto how (under h.segs) (onto how (chain_rows h.source) [])) (each_like (Over h.segs) (Bef l.0) (λ k. over_after h.segs l.0 k l.2) h.buffer o.above)
        (each_onto (Bef l.0) how (under h.segs) (onto how (chain_rows h.source) []) (segs_after Free h.segs l.0 o.segs l.2) (subst (λ (c : List Paged). Each (Bef l.0) (onto how (chain_rows c) [])) (sym n) tt))

adv_open : (z : Sizes) (sts : List Stage) (m : ℕ) (es : List Event) (f : Pages) (h : Held) (os : List Event) (ss : Segs) → h.segs ≡ ss → Ready m Open (queue_of h) → HeldIn f h → Order h → Lean h → Alive (Has (contents (how_of sts) h)) h.segs → Flows sts m es (contents (how_of sts) h) os → Adv z sts m es f h os Open
adv_open z sts m es f h os none e r i o ln al w = absurd (let q : heads none ≡ r.2 ∷ r.3 = ap heads (sym e) ∙ r.4 in let k : ◌≡◌ {A = ℕ} 0 1 = cc in omega arith)
adv_open z sts m es f h os (packed low n inner c ss) e r i o ln al w =
    nil_page (Adv z sts m es f h os Open) n (sym (let q : heads (packed low n inner c ss) ≡ r.2 ∷ r.3 = ap heads (sym e) ∙ r.4 in let j : record { low = low; index = page n; head = head_of c; level = suc (level_of inner) } ≡ r.2 = cc in ap (λ (x : Seg). x.index) j ∙ r.5))
adv_open z sts m es f h os (plain low c ss) e r i o ln al w = done (open_keeps (how_of sts) f h low c ss e (no_source h.source r.0) i o)
  where
    done : Kept (how_of sts) f h (open' (how_of sts) (queue_of h)) c (Under ss) (level_of ss) → Advance sts m es f h os (quiet (open' (how_of sts) (queue_of h)))
    done k = kept_advance sts m es f h os (open' (how_of sts) (queue_of h)) c (Under ss) (level_of ss) ln al w k fa
      where
        lowest : Low (how_of sts) k.held
        lowest = (low, subst (λ (x : List Row). Has x low) (sym k.same) (subst (Alive (Has (contents (how_of sts) h))) e al).0, k.low low (subst (SegsOk Free) e o.segs).1)

        fa : Falls (how_of sts) h k.held
        fa zero x = absurd (no_low (how_of sts) h o r.1 (no_source h.source r.0) x)
        fa (suc p) x = inr (p, refl, rank_low (how_of sts) p k.held lowest)

adv_unpack : (z : Sizes) (sts : List Stage) (m : ℕ) (es : List Event) (f : Pages) (h : Held) (os : List Event) (ss : Segs) → h.segs ≡ ss → Ready m Unpack (queue_of h) → HeldIn f h → Order h → Lean h → Alive (Has (contents (how_of sts) h)) h.segs → Flows sts m es (contents (how_of sts) h) os → Adv z sts m es f h os Unpack
unfolding index_of
adv_unpack z sts m es f h os none e r i o ln al w = nil_page (Adv z sts m es f h os Unpack) r.2 (ap (λ (x : Segs). index_of (heads x)) (sym e) ∙ r.3)
adv_unpack z sts m es f h os (plain low c ss) e r i o ln al w = nil_page (Adv z sts m es f h os Unpack) r.2 (ap (λ (x : Segs). index_of (heads x)) (sym e) ∙ r.3)
adv_unpack z sts m es f h os (packed low n inner c ss) e r i o ln al w =
    subst (λ (x : Link). Advance sts m es f h os (quiet (unpack (page_of f x) (queue_of h)))) (ap (λ (x : Segs). index_of (heads x)) (sym e)) (done (unpack_keeps (how_of sts) f h low n inner c ss e (no_source h.source r.0) i o))
  where
    done : Kept (how_of sts) f h (unpack (f n) (queue_of h)) c (Under (append_s inner ss)) (level_of inner) → Advance sts m es f h os (quiet (unpack (f n) (queue_of h)))
    done k = kept_advance sts m es f h os (unpack (f n) (queue_of h)) c (Under (append_s inner ss)) (level_of inner) ln al w k fa
      where
        fa : Falls (how_of sts) h k.held
        fa zero x = absurd (no_low (how_of sts) h o r.1 (no_source h.source r.0) x)
        fa (suc p) (inl x) = absurd (no_low (how_of sts) h o r.1 (no_source h.source r.0) x)
        fa (suc zero) (inr x) = absurd (omega (arith, subst (λ (y : Segs). level_of y ≤ 0) e x))
        fa (suc (suc p)) (inr x) = inr (suc p, refl, inr (omega (arith, k.level, subst (λ (y : Segs). level_of y ≤ suc p) e x)))

-- EMIT
adv_emit : (z : Sizes) → SizesOk z → (sts : List Stage) (m : ℕ) (es : List Event) (f : Pages) (h : Held) (os : List Event) → Ready m Emit (queue_of h) → Emits sts m es f z.emits h os (emit sts m z.emits (queue_of h)) → Adv z sts m es f h os Emit
unfolding written
adv_emit z zo sts m es f h os r k = record { held = k.held; is = k.is; pages = k.pages; order = k.order; alive = k.alive; flows = k.flows; fresh = omega (arith, k.next); lean = k.lean; few = k.few; outs = k.outs; falls = inl (k.less r.1 zo.3) }

pub advance : (z : Sizes) → SizesOk z → (sts : List Stage) → Sized sts → (m : ℕ) (es : List Event) (f : Pages) (h : Held) (os : List Event) (step : Step) → Ready m step (queue_of h) → HeldIn f h → Order h → Lean h → Alive (Has (contents (how_of sts) h)) h.segs → Flows sts m es (contents (how_of sts) h) os → Adv z sts m es f h os step
advance z zo sts sz m es f h os (Spill k) r i o ln al w = adv_spill z zo sts m es f h os k r i o ln al w
advance z zo sts sz m es f h os Lower r i o ln al w = adv_lower z sts m es f h os r i o ln al w
advance z zo sts sz m es f h os (Pack v) r i o ln al w = adv_pack z zo sts m es f h os v r i o ln al w
advance z zo sts sz m es f h os Sift r i o ln al w = adv_sift z sts m es f h os h.source refl r i o ln al w
advance z zo sts sz m es f h os Emit r i o ln al w = adv_emit z zo sts m es f h os r (emits sts m es f z.emits sz h os i o (no_source h.source r.0) ln al w)
advance z zo sts sz m es f h os Unpack r i o ln al w = adv_unpack z sts m es f h os h.segs refl r i o ln al w
advance z zo sts sz m es f h os Open r i o ln al w = adv_open z sts m es f h os h.segs refl r i o ln al w

-- DONE
abbrev Goal : Sizes → List Stage → ℕ → List Event → Pages → Queue → List Event → Step → Type 0
Goal z sts m es f q os step = (d : Done) × (d ≡ do' z sts m step (page_of f (shows step q)) q) × Sound sts m es (written d.writes f) d.queue (os ++ d.outs) × Fresh q.next d.queue.next d.writes

advanced : (z : Sizes) (sts : List Stage) (m : ℕ) (es : List Event) (f : Pages) (h : Held) (os : List Event) (step : Step) → rows_of h ≤ length es → Adv z sts m es f h os step → Goal z sts m es f (queue_of h) os step
advanced z sts m es f h os step few a = (
  do' z sts m step (page_of f (shows step (queue_of h))) (queue_of h),
  refl,
  record { held = a.held; is = a.is; pages = a.pages; order = a.order; alive = a.alive; lean = a.lean; few = omega (arith, few, a.few); flows = a.flows },
  subst (λ (n : ℕ). Fresh h.next n (do' z sts m step (page_of f (shows step (queue_of h))) (queue_of h)).writes) (ap (λ (q : Queue). q.next) (sym a.is)) a.fresh,
)

pub sound_done : SoundDone
sound_done z zo sts sz m es f q os step s e =
    subst (λ (x : Queue). Goal z sts m es f x os step) (sym s.is) (advanced z sts m es f s.held os step s.few (advance z zo sts sz m es f s.held os step (ready z zo m (queue_of s.held) step (subst (λ (x : Queue). due z m x ≡ Do step) s.is e)) s.pages s.order s.lean s.alive s.flows))

-- NOTHING DUE
abbrev Rests : ℕ → Queue → Type 0
Rests m q = (q.source ≡ nil) × (((q.front ≡ []) × (q.segments ≡ [])) ⊎ ((r : Row) × (rs : List Row) × (q.front ≡ r ∷ rs) × (m < r.at.end)))

not_due : (b : Bool) (x : Step) (d : Due) (A : Type 0) → (d ≡ Nothing → A) → cond b (Do x) d ≡ Nothing → A
not_due true x d A f e = absurd (let k : ◌≡◌ {A = ℕ} 0 1 = cc in omega arith)
not_due false x d A f e = f e

first_due : (l : Link) (A : Type 0) → due_first l ≡ Nothing → A
unfolding due_first
first_due nil A e = absurd (let k : ◌≡◌ {A = ℕ} 0 1 = cc in omega arith)
first_due (page n) A e = absurd (let k : ◌≡◌ {A = ℕ} 0 1 = cc in omega arith)

rests_segments : (m : ℕ) (ts : List Seg) (q : Queue) → q.source ≡ nil → q.front ≡ [] → q.segments ≡ ts → due_segments ts ≡ Nothing → Rests m q
unfolding due_segments
rests_segments m [] q n t u e = (n, inl (t, u))
rests_segments m (s ∷ ss) q n t u e = first_due s.index (Rests m q) e

rests_front : (m : ℕ) (rs : List Row) (q : Queue) → q.source ≡ nil → q.front ≡ rs → due_front m rs q.segments ≡ Nothing → Rests m q
unfolding due_front
rests_front m [] q n t e = rests_segments m q.segments q n t refl e
rests_front m (r ∷ rs) q n t e = go (leb r.at.end m) refl e
  where
    go : (b : Bool) → leb r.at.end m ≡ b → cond b (Do Emit) Nothing ≡ Nothing → Rests m q
    go true l k = absurd (let j : ◌≡◌ {A = ℕ} 0 1 = cc in omega arith)
    go false l k = (n, inr (r, rs, t, leb-false r.at.end m l))

rests_source : (m : ℕ) (l : Link) (q : Queue) → q.source ≡ l → due_source m l q ≡ Nothing → Rests m q
unfolding due_source
rests_source m nil q n e = rests_front m q.front q n refl e
rests_source m (page k) q n e = absurd (let j : ◌≡◌ {A = ℕ} 0 1 = cc in omega arith)

rests_rows : (z : Sizes) (m : ℕ) (q : Queue) → due_rows z m q ≡ Nothing → Rests m q
unfolding due_rows
rests_rows z m q e =
    not_due (ltb z.buffer (length q.buffer)) (Spill (fullest q.segments q.buffer).number) (cond (ltb z.front (length q.front)) (Do Lower) (due_source m q.source q)) (Rests m q)
    (not_due (ltb z.front (length q.front)) Lower (due_source m q.source q) (Rests m q) (rests_source m q.source q refl)) e

rests_crowd : (z : Sizes) (m : ℕ) (c : Crowd) (q : Queue) → due_crowd z m c q ≡ Nothing → Rests m q
unfolding due_crowd
rests_crowd z m calm q e = rests_rows z m q e
rests_crowd z m (crowded v) q e = absurd (let j : ◌≡◌ {A = ℕ} 0 1 = cc in omega arith)

pub at_rest : (z : Sizes) (m : ℕ) (q : Queue) → due z m q ≡ Nothing → Rests m q
at_rest z m q e = rests_crowd z m (crowd z.segments q.segments q.segments) q e

no_segs : (ss : Segs) → heads ss ≡ [] → ss ≡ none
no_segs none e = refl
no_segs (plain low c ss) e = absurd (let j : ◌≡◌ {A = ℕ} 0 1 = cc in omega arith)
no_segs (packed low n i c ss) e = absurd (let j : ◌≡◌ {A = ℕ} 0 1 = cc in omega arith)

all_none : (rs : List Row) → Each (λ k. ⊥) rs → rs ≡ []
all_none [] h = refl
all_none (r ∷ rs) h = absurd h.0

-- then nothing in it has ended
pub nothing_ended : (how : ℕ → Sum) (m : ℕ) (h : Held) → Order h → Rests m (queue_of h) → Each (λ k. m < k.end) (contents how h)
unfolding onto
nothing_ended how m h o r = go r.1
  where
    n : h.source ≡ []
    n = no_source h.source r.0

    go : ((h.front ≡ []) × (heads h.segs ≡ [])) ⊎ ((x : Row) × (rs : List Row) × (h.front ≡ x ∷ rs) × (m < x.at.end)) → Each (λ k. m < k.end) (contents how h)
    go (inl p) =
        let s : h.segs ≡ none = no_segs h.segs p.1 in
        let b : h.buffer ≡ [] = all_none h.buffer (subst (λ (x : Segs). Each (Over x) h.buffer) s o.above) in
        let e : contents how h ≡ [] = ap (λ (x : List Row). onto how x (onto how h.buffer (onto how (under h.segs) (onto how (chain_rows h.source) [])))) p.0 ∙ ap (λ (x : List Row). onto how x (onto how (under h.segs) (onto how (chain_rows h.source) []))) b ∙ ap (λ (x : Segs). onto how (under x) (onto how (chain_rows h.source) [])) s ∙ ap (λ (x : List Paged). onto how (chain_rows x) []) n in
        subst (Each (λ k. m < k.end)) (sym e) tt
    go (inr p) = subst (Each (λ k. m < k.end)) (sym (pop_contents how h p.0 p.1 p.2 n o)) (p.3, each_like (Bef p.0.at) (λ k. m < k.end) (λ k b. far k b) (contents how (pop_h p.1 h)) (least how h p.0 p.1 p.2 n o))
      where
        far : (k : Key) → Bef p.0.at k → m < k.end
        far k b = let l : m < p.0.at.end = p.3 in grind arith

pub all_came_out : AllCameOut
all_came_out z sts m es f q os s e = flows_done sts m es (contents (how_of sts) s.held) os (nothing_ended (how_of sts) m s.held s.order (at_rest z m (queue_of s.held) (subst (λ (x : Queue). due z m x ≡ Nothing) s.is e))) s.flows

pub sound_at_first : SoundAtFirst
unfolding onto
sound_at_first sts m f = record { held = record { front = []; buffer = []; segs = none; source = []; next = 0 }; is = refl; pages = (tt, tt); order = record { front = tt; buffer = tt; below = tt; above = tt; segs = tt }; alive = tt; lean = record { segs = tt; source = tt }; few = omega arith; flows = flows_first sts m }

pub sound_later : SoundLater
sound_later sts m n es f q os l s = record { held = s.held; is = s.is; pages = s.pages; order = s.order; alive = s.alive; lean = s.lean; few = s.few; flows = flows_later sts m n es (contents (how_of sts) s.held) os l s.flows }

pub sound_taken : SoundTaken
unfolding take'
sound_taken [] z l m es e f q os t s = absurd (omega arith)
sound_taken (st ∷ sts) z l m es e f q os t s = go (eqb (word st.keep' e) 0) (flows_take (how_of (st ∷ sts)) st sts m es e (contents (how_of (st ∷ sts)) s.held) os (fits (st ∷ sts) z) (sorted_contents (how_of (st ∷ sts)) s.held) t s.flows)
  where
    how : ℕ → Sum
    how = how_of (st ∷ sts)

    go : (b : Bool) → Flows (st ∷ sts) m (e ∷ es) (cond b (contents how s.held) (add how (row_of st 0 e) (contents how s.held))) os → Sound (st ∷ sts) m (e ∷ es) f (cond b q (place how (row_of st 0 e) q)) os
    go true w = record { held = s.held; is = s.is; pages = s.pages; order = s.order; alive = s.alive; lean = s.lean; few = omega (arith, s.few); flows = w }
    go false w = record { held = place_h how (row_of st 0 e) s.held; is = ap (place how (row_of st 0 e)) s.is ∙ place_is how (row_of st 0 e) s.held; pages = s.pages; order = place_order how (row_of st 0 e) s.held s.order; alive = subst (λ (x : List Row). Alive (Has x) s.held.segs) (sym (place_contents how (row_of st 0 e) s.held)) (alive_like (Has (contents how s.held)) (Has (add how (row_of st 0 e) (contents how s.held))) (has_add how (row_of st 0 e) (contents how s.held)) s.held.segs s.alive); lean = record { segs = s.lean.segs; source = s.lean.source }; few = omega (arith, s.few, place_few how (row_of st 0 e) s.held); flows = subst (λ (x : List Row). Flows (st ∷ sts) m (e ∷ es) x os) (sym (place_contents how (row_of st 0 e) s.held)) w }

-- IT COMES TO REST: by what is left to let go; then by the rank; then by the weight
abbrev Comes : Sizes → List Stage → ℕ → List Event → Pages → Queue → List Event → Type 0
Comes z sts m es f q os = (more : List Event) × Runs z sts m f q more × (os ++ more ≡ through_stages sts m es)

abbrev Ends : Sizes → List Stage → ℕ → List Event → (Held → Type 0) → Type 0
Ends z sts m es C = (f : Pages) (h : Held) (os : List Event) → HeldIn f h → Order h → Lean h → rows_of h ≤ length es → Alive (Has (contents (how_of sts) h)) h.segs → Flows sts m es (contents (how_of sts) h) os → C h → Comes z sts m es f (queue_of h) os

abbrev left_of : List Stage → Held → ℕ
left_of sts h = load (length sts) (contents (how_of sts) h)

step_on : (z : Sizes) → SizesOk z → (sts : List Stage) → Sized sts → (m : ℕ) (es : List Event) (l p v : ℕ) → Ends z sts m es (λ g. left_of sts g < l) → ((q : ℕ) → suc q ≡ p → Ends z sts m es (λ g. (left_of sts g ≤ l) × Rank (how_of sts) q g)) → Ends z sts m es (λ g. (left_of sts g ≤ l) × Rank (how_of sts) p g × (weigh g < v)) →
    Ends z sts m es (λ g. (left_of sts g ≤ l) × Rank (how_of sts) p g × (weigh g ≤ v))
step_on z zo sts sz m es l p v il ip iw f h os hh o ln fw al w c = go (due z m (queue_of h)) refl
  where
    go : (d : Due) → due z m (queue_of h) ≡ d → Comes z sts m es f (queue_of h) os
    go Nothing e = ([], rests e, append-nil os ∙ all_came_out z sts m es f (queue_of h) os (record { held = h; is = refl; pages = hh; order = o; alive = al; lean = ln; few = fw; flows = w }) e)
    go (Do step) e = on (advance z zo sts sz m es f h os step (ready z zo m (queue_of h) step e) hh o ln al w)
      where
        d : Done
        d = do' z sts m step (page_of f (shows step (queue_of h))) (queue_of h)

        back : (a : Adv z sts m es f h os step) → Comes z sts m es (written d.writes f) (queue_of a.held) (os ++ d.outs) → Comes z sts m es f (queue_of h) os
        back a r = (d.outs ++ r.0, goes step d e refl (subst (λ (q : Queue). Runs z sts m (written d.writes f) q r.0) (sym a.is) r.1), sym (append_assoc os d.outs r.0) ∙ r.2)

        on : Adv z sts m es f h os step → Comes z sts m es f (queue_of h) os
        on a = back a (by a.falls)
          where
            by2 : left_of sts a.held ≤ left_of sts h → (Rank (how_of sts) p a.held × (weigh a.held < weigh h)) ⊎ ((q : ℕ) × (suc q ≡ p) × Rank (how_of sts) q a.held) → Comes z sts m es (written d.writes f) (queue_of a.held) (os ++ d.outs)
            by2 t (inl x) = iw (written d.writes f) a.held (os ++ d.outs) a.pages a.order a.lean (omega (arith, fw, a.few)) a.alive a.flows (omega (arith, c.0, t), x.0, omega (arith, c.2, x.1))
            by2 t (inr x) = ip x.0 x.1 (written d.writes f) a.held (os ++ d.outs) a.pages a.order a.lean (omega (arith, fw, a.few)) a.alive a.flows (omega (arith, c.0, t), x.2)

            by : (left_of sts a.held < left_of sts h) ⊎ ((left_of sts a.held ≤ left_of sts h) × Falls (how_of sts) h a.held) → Comes z sts m es (written d.writes f) (queue_of a.held) (os ++ d.outs)
            by (inl t) = il (written d.writes f) a.held (os ++ d.outs) a.pages a.order a.lean (omega (arith, fw, a.few)) a.alive a.flows (omega (arith, c.0, t))
            by (inr t) = by2 t.0 (t.1 p c.1)

by_weight : (z : Sizes) → SizesOk z → (sts : List Stage) → Sized sts → (m : ℕ) (es : List Event) (l p : ℕ) → Ends z sts m es (λ g. left_of sts g < l) → ((q : ℕ) → suc q ≡ p → Ends z sts m es (λ g. (left_of sts g ≤ l) × Rank (how_of sts) q g)) → (v : ℕ) → Ends z sts m es (λ g. (left_of sts g ≤ l) × Rank (how_of sts) p g × (weigh g < v))
by_weight z zo sts sz m es l p il ip zero f h os hh o ln fw al w c = absurd (omega (arith, c.2))
by_weight z zo sts sz m es l p il ip (suc v) f h os hh o ln fw al w c = step_on z zo sts sz m es l p v il ip (by_weight z zo sts sz m es l p il ip v) f h os hh o ln fw al w (c.0, c.1, omega (arith, c.2))

by_rank : (z : Sizes) → SizesOk z → (sts : List Stage) → Sized sts → (m : ℕ) (es : List Event) (l : ℕ) → Ends z sts m es (λ g. left_of sts g < l) → (p : ℕ) → Ends z sts m es (λ g. (left_of sts g ≤ l) × Rank (how_of sts) p g)
by_rank z zo sts sz m es l il zero f h os hh o ln fw al w c = by_weight z zo sts sz m es l zero il (λ (q : ℕ) (e : suc q ≡ 0). absurd (omega arith)) (suc (weigh h)) f h os hh o ln fw al w (c.0, c.1, omega arith)
by_rank z zo sts sz m es l il (suc p) f h os hh o ln fw al w c =
    by_weight z zo sts sz m es l (suc p) il (λ (q : ℕ) (e : suc q ≡ suc p). let k : p ≡ q = omega arith in subst (λ (x : ℕ). Ends z sts m es (λ g. (left_of sts g ≤ l) × Rank (how_of sts) x g)) k (by_rank z zo sts sz m es l il p)) (suc (weigh h)) f h os hh o ln fw al w (c.0, c.1, omega arith)

by_load : (z : Sizes) → SizesOk z → (sts : List Stage) → Sized sts → (m : ℕ) (es : List Event) (l : ℕ) → Ends z sts m es (λ g. left_of sts g < l)
by_load z zo sts sz m es zero f h os hh o ln fw al w c = absurd (omega (arith, c))
by_load z zo sts sz m es (suc l) f h os hh o ln fw al w c = by_rank z zo sts sz m es l (by_load z zo sts sz m es l) (suc (level_of h.segs)) f h os hh o ln fw al w (omega (arith, c), inr (omega arith))

pub comes_out : ComesOut
comes_out z zo sts sz m es f q os s = subst (λ (x : Queue). Comes z sts m es f x os) (sym s.is) (by_load z zo sts sz m es (suc (left_of sts s.held)) f s.held os s.pages s.order s.lean s.few s.alive s.flows (omega arith))

-- OUT OF THE LOGS
pub same_out : (sts : List Stage) (m : ℕ) (es fs : List Event) → SameCells sts es fs → through_stages sts m es ≡ through_stages sts m fs
unfolding through_stages
same_out [] m es fs e = e
same_out (st ∷ sts) m es fs e = ap (λ (cs : List Cell). through_stages sts m (as_events (ended m cs))) e

pub least_is_first : LeastIsFirst
least_is_first = pop_contents

pub any_place : AnyPlace
any_place how rs ss acc = (onto_both how rs ss acc, onto_append how rs ss acc, onto_onto how rs ss acc)
