-- Each step keeps what the queue holds, and its order.
use Rattle.std.proofs.Common.{◌≡◌, ℕ, zero, suc, ◌+◌, ◌<◌, ◌≤◌, Bool, true, false, cond, not, eqb, ◌⊎◌, List, [], ◌∷◌, ◌++◌, length, take, drop, sym, refl, ap, ◌∙◌, subst, inl, inr, append_assoc, arith, length-append, take-append-drop, length-take}
use Rattle.std.proofs.lemmas.Bool.{eq-eqb, ne_eqb}
use Rattle.streams.specs.Meaning.{Sum}
use Rattle.book.specs.Rows.{Key, Row, Bef, Upto, ltk, add, onto, Each, Sorted}
use Rattle.book.specs.Queue.{nil, page, Seg, Page, IndexPage, Pages, Write, written, goes_up, place, places, lower_by, lower, pack_by, pack, sift_by, sift, unpack_by, unpack, open_by, open'}
use Rattle.book.specs.Held.{Paged, Segs, none, plain, packed, Held, head_of, heads, queue_of, ChainIn, SegsIn, HeldIn, chain_rows, under, contents, Under, Over, Within, ChainOk, FirstIs, SegsOk, Order, Fresh, Kept, Alive, Till, Free, level_of, Full, LeanSegs, Lean, rows_of}
use Rattle.book.proofs.Rows.{Tri, lo, eq, hi, tri, add_lo, add_eq, add_hi, bef_trans, onto_add, onto_both, onto_append, onto_added, onto_onto, onto_none}
use Rattle.book.proofs.Lists.{each_like, each_add, each_onto, each_right, sorted_add, sorted_onto, sorted_left, sorted_right, sorted_mid, upto_self, upto_bef, upto_trans, ltk_tells, each_onto_inv}

-- HOW MANY
pub length_add : (how : ℕ → Sum) (r : Row) (cs : List Row) → length (add how r cs) ≤ suc (length cs)
unfolding add
length_add how r [] = omega arith
length_add how r (c ∷ cs) = go (tri r.at c.at) (length_add how r cs)
  where
    go : Tri r.at c.at → length (add how r cs) ≤ suc (length cs) → length (add how r (c ∷ cs)) ≤ suc (suc (length cs))
    go (lo p) i = rw (add_lo how r c cs p) (omega arith)
    go (eq p) i = rw (add_eq how r c cs p) (omega arith)
    go (hi p) i = rw (add_hi how r c cs p) (omega arith)

pub length_onto : (how : ℕ → Sum) (rs cs : List Row) → length (onto how rs cs) ≤ length rs + length cs
unfolding onto
length_onto how [] cs = omega arith
length_onto how (r ∷ rs) cs = omega (arith, length_add how r (onto how rs cs), length_onto how rs cs)

-- PLACING
pub up_tells : (ss : Segs) (k : Key) → ((goes_up (heads ss) k ≡ true) × Over ss k) ⊎ ((goes_up (heads ss) k ≡ false) × Under ss k)
unfolding goes_up
up_tells none k = inr (refl, tt)
up_tells (plain low c ss) k = go (ltk_tells k low)
  where
    go : ((ltk k low ≡ true) × Bef k low) ⊎ ((ltk k low ≡ false) × Upto low k) → ((not (ltk k low) ≡ true) × Upto low k) ⊎ ((not (ltk k low) ≡ false) × Bef k low)
    go (inl p) = inr (ap not p.0, p.1)
    go (inr p) = inl (ap not p.0, p.1)
up_tells (packed low n i c ss) k = go (ltk_tells k low)
  where
    go : ((ltk k low ≡ true) × Bef k low) ⊎ ((ltk k low ≡ false) × Upto low k) → ((not (ltk k low) ≡ true) × Upto low k) ⊎ ((not (ltk k low) ≡ false) × Bef k low)
    go (inl p) = inr (ap not p.0, p.1)
    go (inr p) = inl (ap not p.0, p.1)

abbrev pub put_to : (ℕ → Sum) → Bool → Row → Held → Held
put_to how b r h = record { front = cond b h.front (add how r h.front); buffer = cond b (add how r h.buffer) h.buffer; segs = h.segs; source = h.source; next = h.next }

abbrev pub place_h : (ℕ → Sum) → Row → Held → Held
place_h how r h = put_to how (goes_up (heads h.segs) r.at) r h

pub place_is : (how : ℕ → Sum) (r : Row) (h : Held) → place how r (queue_of h) ≡ queue_of (place_h how r h)
unfolding place
place_is how r h = go (goes_up (heads h.segs) r.at)
  where
    go : (b : Bool) → cond b (record { front = h.front; buffer = add how r h.buffer; segments = heads h.segs; source = head_of h.source; next = h.next }) (record { front = add how r h.front; buffer = h.buffer; segments = heads h.segs; source = head_of h.source; next = h.next }) ≡ queue_of (put_to how b r h)
    go true = refl
    go false = refl

pub place_contents : (how : ℕ → Sum) (r : Row) (h : Held) → contents how (place_h how r h) ≡ add how r (contents how h)
place_contents how r h = go (goes_up (heads h.segs) r.at)
  where
    rest : List Row
    rest = onto how (under h.segs) (onto how (chain_rows h.source) [])

    go : (b : Bool) → contents how (put_to how b r h) ≡ add how r (contents how h)
    go true = ap (onto how h.front) (onto_added how r h.buffer (onto how (under h.segs) (onto how (chain_rows h.source) []))) ∙ onto_add how h.front r (onto how h.buffer (onto how (under h.segs) (onto how (chain_rows h.source) [])))
    go false = onto_added how r h.front (onto how h.buffer (onto how (under h.segs) (onto how (chain_rows h.source) [])))

pub place_order : (how : ℕ → Sum) (r : Row) (h : Held) → Order h → Order (place_h how r h)
place_order how r h o = go (up_tells h.segs r.at)
  where
    go : ((goes_up (heads h.segs) r.at ≡ true) × Over h.segs r.at) ⊎ ((goes_up (heads h.segs) r.at ≡ false) × Under h.segs r.at) → Order (place_h how r h)
    go (inl p) = subst (λ (b : Bool). Order (put_to how b r h)) (sym p.0) (record { front = o.front; buffer = sorted_add how r h.buffer o.buffer; below = o.below; above = each_add (Over h.segs) how r h.buffer p.1 o.above; segs = o.segs })
    go (inr p) = subst (λ (b : Bool). Order (put_to how b r h)) (sym p.0) (record { front = sorted_add how r h.front o.front; buffer = o.buffer; below = each_add (Under h.segs) how r h.front p.1 o.below; above = o.above; segs = o.segs })

unfoldable pub places_h : (ℕ → Sum) → List Row → Held → Held
places_h how [] h = h
places_h how (r ∷ rs) h = places_h how rs (place_h how r h)

pub places_is : (how : ℕ → Sum) (rs : List Row) (h : Held) → places how rs (queue_of h) ≡ queue_of (places_h how rs h)
unfolding places places_h
places_is how [] h = refl
places_is how (r ∷ rs) h = ap (places how rs) (place_is how r h) ∙ places_is how rs (place_h how r h)

pub places_contents : (how : ℕ → Sum) (rs : List Row) (h : Held) → contents how (places_h how rs h) ≡ onto how rs (contents how h)
unfolding places_h onto
places_contents how [] h = refl
places_contents how (r ∷ rs) h = places_contents how rs (place_h how r h) ∙ ap (onto how rs) (place_contents how r h) ∙ onto_add how rs r (contents how h)

pub places_order : (how : ℕ → Sum) (rs : List Row) (h : Held) → Order h → Order (places_h how rs h)
unfolding places_h
places_order how [] h o = o
places_order how (r ∷ rs) h o = places_order how rs (place_h how r h) (place_order how r h o)

pub places_in : (how : ℕ → Sum) (f : Pages) (rs : List Row) (h : Held) → HeldIn f h → HeldIn f (places_h how rs h)
unfolding places_h
places_in how f [] h i = i
places_in how f (r ∷ rs) h i = places_in how f rs (place_h how r h) i

pub places_next : (how : ℕ → Sum) (rs : List Row) (h : Held) → (places_h how rs h).next ≡ h.next
unfolding places_h
places_next how [] h = refl
places_next how (r ∷ rs) h = places_next how rs (place_h how r h)

pub places_segs : (how : ℕ → Sum) (rs : List Row) (h : Held) → (places_h how rs h).segs ≡ h.segs
unfolding places_h
places_segs how [] h = refl
places_segs how (r ∷ rs) h = places_segs how rs (place_h how r h)

pub places_source : (how : ℕ → Sum) (rs : List Row) (h : Held) → (places_h how rs h).source ≡ h.source
unfolding places_h
places_source how [] h = refl
places_source how (r ∷ rs) h = places_source how rs (place_h how r h)

pub place_few : (how : ℕ → Sum) (r : Row) (h : Held) → rows_of (place_h how r h) ≤ suc (rows_of h)
place_few how r h = go (goes_up (heads h.segs) r.at)
  where
    go : (b : Bool) → rows_of (put_to how b r h) ≤ suc (rows_of h)
    go true = omega (arith, length_add how r h.buffer)
    go false = omega (arith, length_add how r h.front)

pub places_few : (how : ℕ → Sum) (rs : List Row) (h : Held) → rows_of (places_h how rs h) ≤ length rs + rows_of h
unfolding places_h
places_few how [] h = omega arith
places_few how (r ∷ rs) h = omega (arith, places_few how rs (place_h how r h), place_few how r h)

places_lean : (how : ℕ → Sum) (rs : List Row) (h : Held) → LeanSegs h.segs → Full h.source → Lean (places_h how rs h)
places_lean how rs h a b = record { segs = subst LeanSegs (sym (places_segs how rs h)) a; source = subst Full (sym (places_source how rs h)) b }

-- PAGES WRITTEN leave those below as they are
pub written_below : (n to : ℕ) (ws : List Write) (f : Pages) (m : ℕ) → Fresh n to ws → m < n → written ws f m ≡ f m
unfolding written
written_below n to [] f m h u = refl
written_below n to (w ∷ ws) f m h u = go (ne_eqb m w.number (λ (e : m ≡ w.number). omega arith)) (written_below n to ws f m h.2 u)
  where
    go : eqb m w.number ≡ false → written ws f m ≡ f m → cond (eqb m w.number) w.content (written ws f m) ≡ f m
    go e i = rw e i

pub written_here : (w : Write) (ws : List Write) (f : Pages) → written (w ∷ ws) f w.number ≡ w.content
unfolding written
written_here w ws f = rw (eq-eqb w.number w.number refl)

pub chain_more : (f g : Pages) (n m : ℕ) → ((k : ℕ) → k < n → g k ≡ f k) → n ≤ m → (c : List Paged) → ChainIn f n c → ChainIn g m c
chain_more f g n m a l [] i = tt
chain_more f g n m a l (p ∷ ps) i = (omega arith, a p.number i.0 ∙ i.1, chain_more f g n m a l ps i.2)

pub segs_more : (f g : Pages) (n m : ℕ) → ((k : ℕ) → k < n → g k ≡ f k) → n ≤ m → (ss : Segs) → SegsIn f n ss → SegsIn g m ss
segs_more f g n m a l none i = tt
segs_more f g n m a l (plain low c ss) i = (chain_more f g n m a l c i.0, segs_more f g n m a l ss i.1)
segs_more f g n m a l (packed low k inner c ss) i = (omega arith, a k i.0 ∙ i.1, chain_more f g n m a l c i.2, segs_more f g n m a l inner i.3, segs_more f g n m a l ss i.4)

-- ORDER of chains
pub chain_like : (P Q : Key → Type 0) → ((k : Key) → P k → Q k) → (c : List Paged) → ChainOk P c → ChainOk Q c
chain_like P Q f [] h = tt
chain_like P Q f (p ∷ ps) h = (h.0, each_like P Q f p.rows h.1, chain_like P Q f ps h.2)

-- LOWER
over_lower : (ss : Segs) (a k : Key) → Under ss a → Over ss k → Upto a k
over_lower none a k u v = absurd v
over_lower (plain low c ss) a k u v = upto_trans a low k (upto_bef a low u) v
over_lower (packed low n i c ss) a k u v = upto_trans a low k (upto_bef a low u) v

abbrev pub below_of : List Row → Held → Key → Type 0
below_of [] h k = Under h.segs k
below_of (y ∷ ys) h k = Bef k y.at

lower_by_is : (how : ℕ → Sum) (f : Pages) (h : Held) (xs ys : List Row) → xs ++ ys ≡ h.front → HeldIn f h → Order h → Kept how f h (record { queue = lower_by how xs ys (queue_of h); writes = [] }) h.source (below_of ys h) (level_of h.segs)
unfolding lower_by written
lower_by_is how f h xs [] e i o = record { held = h; is = refl; pages = i; same = refl; order = o; fresh = omega arith; lean = λ l. l; few = omega arith; source = refl; low = λ k u. u; level = omega arith; live = λ P c a. a }
lower_by_is how f h xs (y ∷ ys) e i o =
    record {
      held = g;
      is = refl;
      pages = ((tt, i.0), i.1);
      same = s;
      order = p;
      fresh = omega arith;
      lean = λ l. record { segs = (tt, l.segs); source = l.source };
      few = omega (arith, length_onto how (y ∷ ys) h.buffer, ap length e, length-append xs (y ∷ ys));
      source = refl;
      low = λ k u. u;
      level = omega arith;
      live = λ P c a. ((each_right P xs (y ∷ ys) (subst (Each P) (sym e) (each_onto_inv P how h.front (onto how h.buffer (onto how (under h.segs) (onto how (chain_rows h.source) []))) c).0)).0, a);
    }
  where
    g : Held
    g = record { front = xs; buffer = onto how (y ∷ ys) h.buffer; segs = plain y.at [] h.segs; source = h.source; next = h.next }

    srt : Sorted (xs ++ (y ∷ ys))
    srt = subst Sorted (sym e) o.front

    bel : Each (Under h.segs) (xs ++ (y ∷ ys))
    bel = subst (Each (Under h.segs)) (sym e) o.below

    s : contents how g ≡ contents how h
    s = ap (onto how xs) (onto_onto how (y ∷ ys) h.buffer (onto how (under h.segs) (onto how (chain_rows h.source) [])))
        ∙ sym (onto_append how xs (y ∷ ys) (onto how h.buffer (onto how (under h.segs) (onto how (chain_rows h.source) []))))
        ∙ ap (λ (zs : List Row). onto how zs (onto how h.buffer (onto how (under h.segs) (onto how (chain_rows h.source) [])))) e

    low : Under h.segs y.at
    low = (each_right (Under h.segs) xs (y ∷ ys) bel).0

    p : Order g
    p = record {
      front = sorted_left xs (y ∷ ys) srt;
      buffer = sorted_onto how (y ∷ ys) h.buffer o.buffer;
      below = sorted_mid xs y ys srt;
      above = each_onto (Upto y.at) how (y ∷ ys) h.buffer (upto_self y.at, each_like (Bef y.at) (Upto y.at) (λ k. upto_bef y.at k) ys (sorted_right xs (y ∷ ys) srt).0) (each_like (Over h.segs) (Upto y.at) (λ k. over_lower h.segs y.at k low) h.buffer o.above);
      segs = (tt, low, o.segs);
    }

pub lower_keeps : (how : ℕ → Sum) (f : Pages) (n : ℕ) (h : Held) → HeldIn f h → Order h → Kept how f h (lower how n (queue_of h)) h.source (below_of (drop n h.front) h) (level_of h.segs)
lower_keeps how f n h i o = lower_by_is how f h (take n h.front) (drop n h.front) (take-append-drop n h.front) i o

-- SIFT
pub sift_keeps : (how : ℕ → Sum) (f : Pages) (h : Held) (p : Paged) (ps : List Paged) → h.source ≡ p ∷ ps → HeldIn f h → Order h → Kept how f h (sift how (f p.number) (queue_of h)) ps (Under h.segs) (level_of h.segs)
unfolding sift_by written
sift_keeps how f h p ps e i o =
    record {
      held = places_h how p.rows g;
      is = ap (λ (s : Page). sift_by how s (queue_of h)) c.1 ∙ places_is how p.rows g;
      pages = places_in how f p.rows g (i.0, c.2);
      same = places_contents how p.rows g ∙ s;
      order = places_order how p.rows g (record { front = o.front; buffer = o.buffer; below = o.below; above = o.above; segs = o.segs });
      fresh = omega (arith, places_next how p.rows g);
      lean = λ l. places_lean how p.rows g l.segs (subst Full e l.source).1;
      few = omega (arith, places_few how p.rows g, ap (λ (x : List Paged). length (chain_rows x)) e, length-append p.rows (chain_rows ps));
      source = places_source how p.rows g;
      low = λ k u. subst (λ (x : Segs). Under x k) (sym (places_segs how p.rows g)) u;
      level = omega (arith, ap level_of (places_segs how p.rows g));
      live = λ P d a. subst (Alive P) (sym (places_segs how p.rows g)) a;
    }
  where
    g : Held
    g = record { front = h.front; buffer = h.buffer; segs = h.segs; source = ps; next = h.next }

    c : ChainIn f h.next (p ∷ ps)
    c = subst (ChainIn f h.next) e i.1

    s : onto how p.rows (contents how g) ≡ contents how h
    s = onto_both how p.rows h.front (onto how h.buffer (onto how (under h.segs) (onto how (chain_rows ps) [])))
        ∙ ap (onto how h.front) (onto_both how p.rows h.buffer (onto how (under h.segs) (onto how (chain_rows ps) []))
        ∙ ap (onto how h.buffer) (onto_both how p.rows (under h.segs) (onto how (chain_rows ps) [])
        ∙ ap (onto how (under h.segs)) (sym (onto_append how p.rows (chain_rows ps) []) ∙ ap (λ (x : List Paged). onto how (chain_rows x) []) (sym e))))

-- OPEN. With nothing in the source
pub open_keeps : (how : ℕ → Sum) (f : Pages) (h : Held) (low : Key) (c : List Paged) (ss : Segs) → h.segs ≡ plain low c ss → h.source ≡ [] → HeldIn f h → Order h → Kept how f h (open' how (queue_of h)) c (Under ss) (level_of ss)
unfolding open_by written
open_keeps how f h low c ss e n i o =
    record {
      held = places_h how h.buffer g;
      is = ap (λ (x : Segs). open_by how (heads x) (queue_of h)) e ∙ places_is how h.buffer g;
      pages = places_in how f h.buffer g (j.1, j.0);
      same = places_contents how h.buffer g ∙ s;
      order = places_order how h.buffer g p;
      fresh = omega (arith, places_next how h.buffer g);
      lean = λ l. places_lean how h.buffer g (subst LeanSegs e l.segs).1 (subst LeanSegs e l.segs).0;
      few = omega (arith, places_few how h.buffer g, ap (λ (x : Segs). length (under x)) e, length-append (chain_rows c) (under ss));
      source = places_source how h.buffer g;
      low = λ k u. subst (λ (x : Segs). Under x k) (sym (places_segs how h.buffer g)) u;
      level = omega (arith, ap level_of (places_segs how h.buffer g));
      live = λ P d a. subst (Alive P) (sym (places_segs how h.buffer g)) (subst (Alive P) e a).1;
    }
  where
    g : Held
    g = record { front = h.front; buffer = []; segs = ss; source = c; next = h.next }

    j : SegsIn f h.next (plain low c ss)
    j = subst (SegsIn f h.next) e i.0

    k : SegsOk Free (plain low c ss)
    k = subst (SegsOk Free) e o.segs

    b : Each (λ x. Bef x low) h.front
    b = subst (λ (x : Segs). Each (Under x) h.front) e o.below

    lift : (xs : Segs) → Under xs low → (x : Key) → Bef x low → Under xs x
    lift none u x v = tt
    lift (plain a d ts) u x v = bef_trans x low a v u
    lift (packed a m q d ts) u x v = bef_trans x low a v u

    p : Order g
    p = record { front = o.front; buffer = tt; below = each_like (λ x. Bef x low) (Under ss) (lift ss k.1) h.front b; above = tt; segs = k.2 }

    s : onto how h.buffer (contents how g) ≡ contents how h
    s = onto_both how h.buffer h.front (onto how [] (onto how (under ss) (onto how (chain_rows c) [])))
        ∙ ap (onto how h.front) (ap (onto how h.buffer) (none_first ∙ onto_both how (under ss) (chain_rows c) [] ∙ sym (onto_append how (chain_rows c) (under ss) []) ∙ at ∙ none_last))
      where
        none_first : onto how [] (onto how (under ss) (onto how (chain_rows c) [])) ≡ onto how (under ss) (onto how (chain_rows c) [])
        none_first = onto_none how (onto how (under ss) (onto how (chain_rows c) []))

        at : onto how (chain_rows c ++ under ss) [] ≡ onto how (under h.segs) []
        at = ap (λ (x : Segs). onto how (under x) []) (sym e)

        none_last : onto how (under h.segs) [] ≡ onto how (under h.segs) (onto how (chain_rows h.source) [])
        none_last = ap (onto how (under h.segs)) (sym (onto_none how []) ∙ ap (λ (x : List Paged). onto how (chain_rows x) []) (sym n))

-- SEGMENTS one after the other, and parts of them
unfoldable pub append_s : Segs → Segs → Segs
append_s none ts = ts
append_s (plain low c ss) ts = plain low c (append_s ss ts)
append_s (packed low n i c ss) ts = packed low n i c (append_s ss ts)

pub heads_append : (ss ts : Segs) → heads (append_s ss ts) ≡ heads ss ++ heads ts
unfolding append_s
heads_append none ts = refl
heads_append (plain low c ss) ts = ap (λ (x : List Seg). record { low = low; index = nil; head = head_of c; level = 0 } ∷ x) (heads_append ss ts)
heads_append (packed low n i c ss) ts = ap (λ (x : List Seg). record { low = low; index = page n; head = head_of c; level = suc (level_of i) } ∷ x) (heads_append ss ts)

append_in : (f : Pages) (n : ℕ) (ss ts : Segs) → SegsIn f n ss → SegsIn f n ts → SegsIn f n (append_s ss ts)
unfolding append_s
append_in f n none ts i j = j
append_in f n (plain low c ss) ts i j = (i.0, append_in f n ss ts i.1 j)
append_in f n (packed low m inner c ss) ts i j = (i.0, i.1, i.2, i.3, append_in f n ss ts i.4 j)

append_under : (ss ts : Segs) → under (append_s ss ts) ≡ under ss ++ under ts
unfolding append_s
append_under none ts = refl
append_under (plain low c ss) ts = ap (λ (x : List Row). chain_rows c ++ x) (append_under ss ts) ∙ sym (append_assoc (chain_rows c) (under ss) (under ts))
append_under (packed low n i c ss) ts =
    ap (λ (x : List Row). chain_rows c ++ (under i ++ x)) (append_under ss ts) ∙ ap (λ (x : List Row). chain_rows c ++ x) (sym (append_assoc (under i) (under ss) (under ts))) ∙ sym (append_assoc (chain_rows c) (under i ++ under ss) (under ts))

till_append : (P : Key → Type 0) (ss ts : Segs) (k : Key) → Till (Till P ts) ss k → Till P (append_s ss ts) k
unfolding append_s
till_append P none ts k u = u
till_append P (plain low c ss) ts k u = u
till_append P (packed low n i c ss) ts k u = u

pub till_like : (P Q : Key → Type 0) → ((k : Key) → P k → Q k) → (ss : Segs) (k : Key) → Till P ss k → Till Q ss k
till_like P Q f none k u = f k u
till_like P Q f (plain low c ss) k u = u
till_like P Q f (packed low n i c ss) k u = u

-- another limit
pub ok_like : (P Q : Key → Type 0) → ((k : Key) → P k → Q k) → (ss : Segs) → SegsOk P ss → SegsOk Q ss
ok_like P Q f none o = tt
ok_like P Q f (plain low c ss) o = (chain_like (Within P low ss) (Within Q low ss) (λ k p. (p.0, till_like P Q f ss k p.1)) c o.0, till_like P Q f ss low o.1, ok_like P Q f ss o.2)
ok_like P Q f (packed low n i c ss) o =
    (chain_like (Within P low ss) (Within Q low ss) (λ k p. (p.0, till_like P Q f ss k p.1)) c o.0, till_like P Q f ss low o.1, ok_like P Q f ss o.2, o.3, ok_like (Till P ss) (Till Q ss) (till_like P Q f ss) i o.4)

append_ok : (P : Key → Type 0) (ss ts : Segs) → SegsOk (Till P ts) ss → SegsOk P ts → SegsOk P (append_s ss ts)
unfolding append_s
append_ok P none ts o q = q
append_ok P (plain low c ss) ts o q =
    (chain_like (Within (Till P ts) low ss) (Within P low (append_s ss ts)) (λ k p. (p.0, till_append P ss ts k p.1)) c o.0, till_append P ss ts low o.1, append_ok P ss ts o.2 q)
append_ok P (packed low n i c ss) ts o q =
    (chain_like (Within (Till P ts) low ss) (Within P low (append_s ss ts)) (λ k p. (p.0, till_append P ss ts k p.1)) c o.0, till_append P ss ts low o.1, append_ok P ss ts o.2 q, o.3, ok_like (Till (Till P ts) ss) (Till P (append_s ss ts)) (till_append P ss ts) i o.4)

append_live : (P : Key → Type 0) (ss ts : Segs) → Alive P ss → Alive P ts → Alive P (append_s ss ts)
unfolding append_s
append_live P none ts a b = b
append_live P (plain low c ss) ts a b = (a.0, append_live P ss ts a.1 b)
append_live P (packed low n i c ss) ts a b = (a.0, append_live P ss ts a.1 b)

append_lean : (ss ts : Segs) → LeanSegs ss → LeanSegs ts → LeanSegs (append_s ss ts)
unfolding append_s
append_lean none ts a b = b
append_lean (plain low c ss) ts a b = (a.0, append_lean ss ts a.1 b)
append_lean (packed low n i c ss) ts a b = (a.0, append_lean ss ts a.1 b, a.2, a.3)

append_level : (ss ts : Segs) (low : Key) → FirstIs ss low → level_of (append_s ss ts) ≡ level_of ss
unfolding append_s
append_level none ts low f = absurd f
append_level (plain l c ss) ts low f = refl
append_level (packed l n i c ss) ts low f = refl

-- UNPACK. With nothing in the source
pub unpack_keeps : (how : ℕ → Sum) (f : Pages) (h : Held) (low : Key) (m : ℕ) (inner : Segs) (c : List Paged) (ss : Segs) → h.segs ≡ packed low m inner c ss → h.source ≡ [] → HeldIn f h → Order h → Kept how f h (unpack (f m) (queue_of h)) c (Under (append_s inner ss)) (level_of inner)
unfolding unpack_by written append_s
unpack_keeps how f h low m inner c ss e n i o =
    record {
      held = g;
      is = ap (λ (x : Segs). unpack_by (f m) (heads x) (queue_of h)) e ∙ ap (λ (x : Page). unpack_by x (heads (packed low m inner c ss)) (queue_of h)) j.1
          ∙ ap (λ (x : List Seg). record { front = h.front; buffer = h.buffer; segments = x; source = head_of c; next = h.next }) (sym (heads_append inner ss));
      pages = (append_in f h.next inner ss j.3 j.4, j.2);
      same = s;
      order = p;
      fresh = omega arith;
      lean = λ l. let b : LeanSegs (packed low m inner c ss) = subst LeanSegs e l.segs in record { segs = append_lean inner ss b.3 b.1; source = b.0 };
      few = omega (arith, ap length (append_under inner ss), length-append (under inner) (under ss), ap (λ (x : Segs). length (under x)) e, length-append (chain_rows c) (under inner ++ under ss), ap (λ (x : List Paged). length (chain_rows x)) n);
      source = refl;
      low = λ k u. u;
      level = omega (arith, append_level inner ss low k.3);
      live = λ P d a. let b : Alive P (packed low m inner c ss) = subst (Alive P) e a in append_live P inner ss b.0 b.1;
    }
  where
    g : Held
    g = record { front = h.front; buffer = h.buffer; segs = append_s inner ss; source = c; next = h.next }

    j : SegsIn f h.next (packed low m inner c ss)
    j = subst (SegsIn f h.next) e i.0

    k : SegsOk Free (packed low m inner c ss)
    k = subst (SegsOk Free) e o.segs

    b : Each (λ x. Bef x low) h.front
    b = subst (λ (x : Segs). Each (Under x) h.front) e o.below

    d : Each (Upto low) h.buffer
    d = subst (λ (x : Segs). Each (Over x) h.buffer) e o.above

    lift : (xs ts : Segs) → FirstIs xs low → (x : Key) → Bef x low → Under (append_s xs ts) x
    lift none ts u x v = absurd u
    lift (plain a q xs) ts u x v = rw u v
    lift (packed a r is q xs) ts u x v = rw u v

    rise : (xs ts : Segs) → FirstIs xs low → (x : Key) → Upto low x → Over (append_s xs ts) x
    rise none ts u x v = absurd u
    rise (plain a q xs) ts u x v = rw u v
    rise (packed a r is q xs) ts u x v = rw u v

    p : Order g
    p = record { front = o.front; buffer = o.buffer; below = each_like (λ x. Bef x low) (Under (append_s inner ss)) (lift inner ss k.3) h.front b; above = each_like (Upto low) (Over (append_s inner ss)) (rise inner ss k.3) h.buffer d; segs = append_ok Free inner ss k.4 k.2 }

    s : contents how g ≡ contents how h
    s = ap (onto how h.front) (ap (onto how h.buffer) (ap (λ (x : List Row). onto how x (onto how (chain_rows c) [])) (append_under inner ss) ∙ onto_both how (under inner ++ under ss) (chain_rows c) [] ∙ sym (onto_append how (chain_rows c) (under inner ++ under ss) []) ∙ at ∙ none_last))
      where
        at : onto how (chain_rows c ++ (under inner ++ under ss)) [] ≡ onto how (under h.segs) []
        at = ap (λ (x : Segs). onto how (under x) []) (sym e)

        none_last : onto how (under h.segs) [] ≡ onto how (under h.segs) (onto how (chain_rows h.source) [])
        none_last = ap (onto how (under h.segs)) (sym (onto_none how []) ∙ ap (λ (x : List Paged). onto how (chain_rows x) []) (sym n))

-- PARTS
unfoldable pub take_s : ℕ → Segs → Segs
take_s zero ss = none
take_s (suc k) none = none
take_s (suc k) (plain low c ss) = plain low c (take_s k ss)
take_s (suc k) (packed low n i c ss) = packed low n i c (take_s k ss)

unfoldable pub drop_s : ℕ → Segs → Segs
drop_s zero ss = ss
drop_s (suc k) none = none
drop_s (suc k) (plain low c ss) = drop_s k ss
drop_s (suc k) (packed low n i c ss) = drop_s k ss

take_heads : (k : ℕ) (ss : Segs) → heads (take_s k ss) ≡ take k (heads ss)
unfolding take_s
take_heads zero none = refl
take_heads zero (plain low c ss) = refl
take_heads zero (packed low n i c ss) = refl
take_heads (suc k) none = refl
take_heads (suc k) (plain low c ss) = ap (λ (x : List Seg). record { low = low; index = nil; head = head_of c; level = 0 } ∷ x) (take_heads k ss)
take_heads (suc k) (packed low n i c ss) = ap (λ (x : List Seg). record { low = low; index = page n; head = head_of c; level = suc (level_of i) } ∷ x) (take_heads k ss)

drop_heads : (k : ℕ) (ss : Segs) → heads (drop_s k ss) ≡ drop k (heads ss)
unfolding drop_s
drop_heads zero none = refl
drop_heads zero (plain low c ss) = refl
drop_heads zero (packed low n i c ss) = refl
drop_heads (suc k) none = refl
drop_heads (suc k) (plain low c ss) = drop_heads k ss
drop_heads (suc k) (packed low n i c ss) = drop_heads k ss

parts_under : (k : ℕ) (ss : Segs) → under (take_s k ss) ++ under (drop_s k ss) ≡ under ss
unfolding take_s drop_s
parts_under zero none = refl
parts_under zero (plain low c ss) = refl
parts_under zero (packed low n i c ss) = refl
parts_under (suc k) none = refl
parts_under (suc k) (plain low c ss) = append_assoc (chain_rows c) (under (take_s k ss)) (under (drop_s k ss)) ∙ ap (λ (x : List Row). chain_rows c ++ x) (parts_under k ss)
parts_under (suc k) (packed low n i c ss) =
    append_assoc (chain_rows c) (under i ++ under (take_s k ss)) (under (drop_s k ss)) ∙ ap (λ (x : List Row). chain_rows c ++ x) (append_assoc (under i) (under (take_s k ss)) (under (drop_s k ss)) ∙ ap (λ (x : List Row). under i ++ x) (parts_under k ss))

take_in : (f : Pages) (n k : ℕ) (ss : Segs) → SegsIn f n ss → SegsIn f n (take_s k ss)
unfolding take_s
take_in f n zero ss i = tt
take_in f n (suc k) none i = tt
take_in f n (suc k) (plain low c ss) i = (i.0, take_in f n k ss i.1)
take_in f n (suc k) (packed low m inner c ss) i = (i.0, i.1, i.2, i.3, take_in f n k ss i.4)

drop_in : (f : Pages) (n k : ℕ) (ss : Segs) → SegsIn f n ss → SegsIn f n (drop_s k ss)
unfolding drop_s
drop_in f n zero ss i = i
drop_in f n (suc k) none i = tt
drop_in f n (suc k) (plain low c ss) i = drop_in f n k ss i.1
drop_in f n (suc k) (packed low m inner c ss) i = drop_in f n k ss i.4

take_live : (P : Key → Type 0) (k : ℕ) (ss : Segs) → Alive P ss → Alive P (take_s k ss)
unfolding take_s
take_live P zero ss a = tt
take_live P (suc k) none a = tt
take_live P (suc k) (plain low c ss) a = (a.0, take_live P k ss a.1)
take_live P (suc k) (packed low m inner c ss) a = (a.0, take_live P k ss a.1)

drop_live : (P : Key → Type 0) (k : ℕ) (ss : Segs) → Alive P ss → Alive P (drop_s k ss)
unfolding drop_s
drop_live P zero ss a = a
drop_live P (suc k) none a = tt
drop_live P (suc k) (plain low c ss) a = drop_live P k ss a.1
drop_live P (suc k) (packed low m inner c ss) a = drop_live P k ss a.1

till_parts : (k : ℕ) (ss : Segs) (x : Key) → Under ss x → Till (Under (drop_s k ss)) (take_s k ss) x
unfolding take_s drop_s
till_parts zero ss x u = u
till_parts (suc k) none x u = tt
till_parts (suc k) (plain low c ss) x u = u
till_parts (suc k) (packed low n i c ss) x u = u

-- below all lows
pub under_down : (P : Key → Type 0) (ss : Segs) (a low : Key) → Bef a low → Till P ss low → Under ss a
under_down P none a low p u = tt
under_down P (plain l c ss) a low p u = bef_trans a low l p u
under_down P (packed l n i c ss) a low p u = bef_trans a low l p u

drop_till : (k : ℕ) (ss : Segs) (x : Key) → SegsOk Free ss → Under ss x → Under (drop_s k ss) x
unfolding drop_s
drop_till zero ss x o u = u
drop_till (suc k) none x o u = tt
drop_till (suc k) (plain low c ss) x o u = drop_till k ss x o.2 (under_down Free ss x low u o.1)
drop_till (suc k) (packed low n i c ss) x o u = drop_till k ss x o.2 (under_down Free ss x low u o.1)

take_ok : (k : ℕ) (ss : Segs) → SegsOk Free ss → SegsOk (Under (drop_s k ss)) (take_s k ss)
unfolding take_s drop_s
take_ok zero ss o = tt
take_ok (suc k) none o = tt
take_ok (suc k) (plain low c ss) o =
    (chain_like (Within Free low ss) (Within (Under (drop_s k ss)) low (take_s k ss)) (λ x p. (p.0, till_parts k ss x p.1)) c o.0, till_parts k ss low o.1, take_ok k ss o.2)
take_ok (suc k) (packed low n i c ss) o =
    (chain_like (Within Free low ss) (Within (Under (drop_s k ss)) low (take_s k ss)) (λ x p. (p.0, till_parts k ss x p.1)) c o.0, till_parts k ss low o.1, take_ok k ss o.2, o.3, ok_like (Under ss) (Till (Under (drop_s k ss)) (take_s k ss)) (till_parts k ss) i o.4)

drop_ok : (k : ℕ) (ss : Segs) → SegsOk Free ss → SegsOk Free (drop_s k ss)
unfolding drop_s
drop_ok zero ss o = o
drop_ok (suc k) none o = tt
drop_ok (suc k) (plain low c ss) o = drop_ok k ss o.2
drop_ok (suc k) (packed low n i c ss) o = drop_ok k ss o.2

-- PACK: one and so many more, after some that stay
unfoldable pub pack_h : (skip more number : ℕ) → Segs → Segs
pack_h i k m none = none
pack_h zero k m (plain low c ss) = packed low m (plain low c (take_s k ss)) [] (drop_s k ss)
pack_h zero k m (packed low n inner c ss) = packed low m (packed low n inner c (take_s k ss)) [] (drop_s k ss)
pack_h (suc i) k m (plain low c ss) = plain low c (pack_h i k m ss)
pack_h (suc i) k m (packed low n inner c ss) = packed low n inner c (pack_h i k m ss)

pack_under : (i k m : ℕ) (ss : Segs) → under (pack_h i k m ss) ≡ under ss
unfolding pack_h
pack_under zero k m none = refl
pack_under (suc i) k m none = refl
pack_under zero k m (plain low c ss) = append_assoc (chain_rows c) (under (take_s k ss)) (under (drop_s k ss)) ∙ ap (λ (x : List Row). chain_rows c ++ x) (parts_under k ss)
pack_under zero k m (packed low n inner c ss) =
    append_assoc (chain_rows c) (under inner ++ under (take_s k ss)) (under (drop_s k ss)) ∙ ap (λ (x : List Row). chain_rows c ++ x) (append_assoc (under inner) (under (take_s k ss)) (under (drop_s k ss)) ∙ ap (λ (x : List Row). under inner ++ x) (parts_under k ss))
pack_under (suc i) k m (plain low c ss) = ap (λ (x : List Row). chain_rows c ++ x) (pack_under i k m ss)
pack_under (suc i) k m (packed low n inner c ss) = ap (λ (x : List Row). chain_rows c ++ (under inner ++ x)) (pack_under i k m ss)

pack_low : (i k m : ℕ) (ss : Segs) (x : Key) → Under ss x → Under (pack_h i k m ss) x
unfolding pack_h
pack_low zero k m none x u = tt
pack_low (suc i) k m none x u = tt
pack_low zero k m (plain low c ss) x u = u
pack_low zero k m (packed low n inner c ss) x u = u
pack_low (suc i) k m (plain low c ss) x u = u
pack_low (suc i) k m (packed low n inner c ss) x u = u

pack_high : (i k m : ℕ) (ss : Segs) (x : Key) → Over ss x → Over (pack_h i k m ss) x
unfolding pack_h
pack_high zero k m none x u = u
pack_high (suc i) k m none x u = u
pack_high zero k m (plain low c ss) x u = u
pack_high zero k m (packed low n inner c ss) x u = u
pack_high (suc i) k m (plain low c ss) x u = u
pack_high (suc i) k m (packed low n inner c ss) x u = u

pack_ok : (i k m : ℕ) (ss : Segs) → SegsOk Free ss → SegsOk Free (pack_h i k m ss)
unfolding pack_h
pack_ok zero k m none o = tt
pack_ok (suc i) k m none o = tt
pack_ok zero k m (plain low c ss) o =
    (tt, drop_till k ss low o.2 o.1, drop_ok k ss o.2, refl, (chain_like (Within Free low ss) (Within (Under (drop_s k ss)) low (take_s k ss)) (λ x p. (p.0, till_parts k ss x p.1)) c o.0, till_parts k ss low o.1, take_ok k ss o.2))
pack_ok zero k m (packed low n inner c ss) o = (
  tt,
  drop_till k ss low o.2 o.1,
  drop_ok k ss o.2,
  refl,
  (chain_like (Within Free low ss) (Within (Under (drop_s k ss)) low (take_s k ss)) (λ x p. (p.0, till_parts k ss x p.1)) c o.0, till_parts k ss low o.1, take_ok k ss o.2, o.3, ok_like (Under ss) (Till (Under (drop_s k ss)) (take_s k ss)) (till_parts k ss) inner o.4),
)
pack_ok (suc i) k m (plain low c ss) o = (chain_like (Within Free low ss) (Within Free low (pack_h i k m ss)) (λ x p. (p.0, pack_low i k m ss x p.1)) c o.0, pack_low i k m ss low o.1, pack_ok i k m ss o.2)
pack_ok (suc i) k m (packed low n inner c ss) o =
    (chain_like (Within Free low ss) (Within Free low (pack_h i k m ss)) (λ x p. (p.0, pack_low i k m ss x p.1)) c o.0, pack_low i k m ss low o.1, pack_ok i k m ss o.2, o.3, ok_like (Under ss) (Under (pack_h i k m ss)) (pack_low i k m ss) inner o.4)

pack_level : (i k m : ℕ) (ss : Segs) → level_of (pack_h (suc i) k m ss) ≡ level_of ss
unfolding pack_h
pack_level i k m none = refl
pack_level i k m (plain low c ss) = refl
pack_level i k m (packed low n inner c ss) = refl

pack_live : (P : Key → Type 0) (i k m : ℕ) (ss : Segs) → Alive P ss → Alive P (pack_h i k m ss)
unfolding pack_h
pack_live P zero k m none a = tt
pack_live P (suc i) k m none a = tt
pack_live P zero k m (plain low c ss) a = ((a.0, take_live P k ss a.1), drop_live P k ss a.1)
pack_live P zero k m (packed low n inner c ss) a = ((a.0, take_live P k ss a.1), drop_live P k ss a.1)
pack_live P (suc i) k m (plain low c ss) a = (a.0, pack_live P i k m ss a.1)
pack_live P (suc i) k m (packed low n inner c ss) a = (a.0, pack_live P i k m ss a.1)

take_lean : (k : ℕ) (ss : Segs) → LeanSegs ss → LeanSegs (take_s k ss)
unfolding take_s
take_lean zero ss a = tt
take_lean (suc k) none a = tt
take_lean (suc k) (plain low c ss) a = (a.0, take_lean k ss a.1)
take_lean (suc k) (packed low m inner c ss) a = (a.0, take_lean k ss a.1, a.2, a.3)

drop_lean : (k : ℕ) (ss : Segs) → LeanSegs ss → LeanSegs (drop_s k ss)
unfolding drop_s
drop_lean zero ss a = a
drop_lean (suc k) none a = tt
drop_lean (suc k) (plain low c ss) a = drop_lean k ss a.1
drop_lean (suc k) (packed low m inner c ss) a = drop_lean k ss a.1

pack_lean : (i k m : ℕ) (ss : Segs) → i + suc (suc k) ≤ length (heads ss) → LeanSegs ss → LeanSegs (pack_h i (suc k) m ss)
unfolding pack_h
pack_lean zero k m none h a = tt
pack_lean (suc i) k m none h a = tt
pack_lean zero k m (plain low c ss) h a = (tt, drop_lean (suc k) ss a.1, omega (arith, h, ap length (take_heads (suc k) ss), length-take (suc k) (heads ss)), (a.0, take_lean (suc k) ss a.1))
pack_lean zero k m (packed low n inner c ss) h a = (tt, drop_lean (suc k) ss a.1, omega (arith, h, ap length (take_heads (suc k) ss), length-take (suc k) (heads ss)), (a.0, take_lean (suc k) ss a.1, a.2, a.3))
pack_lean (suc i) k m (plain low c ss) h a = (a.0, pack_lean i k m ss (omega arith) a.1)
pack_lean (suc i) k m (packed low n inner c ss) h a = (a.0, pack_lean i k m ss (omega arith) a.1, a.2, a.3)

none_some : (j k : ℕ) (t : Seg) (ts : List Seg) → take {A = Seg} (suc k) (drop j []) ≡ t ∷ ts → ⊥
none_some zero k t ts q = let z : ◌≡◌ {A = ℕ} 0 1 = cc in omega arith
none_some (suc j) k t ts q = let z : ◌≡◌ {A = ℕ} 0 1 = cc in omega arith

abbrev indexed : ℕ → Seg → Seg
indexed m t = record { low = t.low; index = page m; head = nil; level = suc t.level }

pack_heads : (i k m : ℕ) (ss : Segs) (t : Seg) (ts : List Seg) → take (suc k) (drop i (heads ss)) ≡ t ∷ ts → take i (heads ss) ++ (indexed m t ∷ drop (suc k) (drop i (heads ss))) ≡ heads (pack_h i k m ss)
unfolding pack_h
pack_heads zero k m none t ts e = absurd (none_some zero k t ts e)
pack_heads (suc i) k m none t ts e = absurd (none_some (suc i) k t ts e)
pack_heads zero k m (plain low c ss) t ts e =
    let q : record { low = low; index = nil; head = head_of c; level = 0 } ≡ t = cc in ap (λ (s : Seg). indexed m s ∷ drop k (heads ss)) (sym q) ∙ ap (λ (x : List Seg). record { low = low; index = page m; head = nil; level = 1 } ∷ x) (sym (drop_heads k ss))
pack_heads zero k m (packed low n inner c ss) t ts e =
    let q : record { low = low; index = page n; head = head_of c; level = suc (level_of inner) } ≡ t = cc in
    ap (λ (s : Seg). indexed m s ∷ drop k (heads ss)) (sym q) ∙ ap (λ (x : List Seg). record { low = low; index = page m; head = nil; level = suc (suc (level_of inner)) } ∷ x) (sym (drop_heads k ss))
pack_heads (suc i) k m (plain low c ss) t ts e = ap (λ (x : List Seg). record { low = low; index = nil; head = head_of c; level = 0 } ∷ x) (pack_heads i k m ss t ts e)
pack_heads (suc i) k m (packed low n inner c ss) t ts e = ap (λ (x : List Seg). record { low = low; index = page n; head = head_of c; level = suc (level_of inner) } ∷ x) (pack_heads i k m ss t ts e)

pack_in : (g : Pages) (i k m : ℕ) (ss : Segs) (t : Seg) (ts : List Seg) → take (suc k) (drop i (heads ss)) ≡ t ∷ ts → g m ≡ IndexPage (t ∷ ts) → SegsIn g (suc m) ss → SegsIn g (suc m) (pack_h i k m ss)
unfolding pack_h
pack_in g zero k m none t ts e w h = tt
pack_in g (suc i) k m none t ts e w h = tt
pack_in g zero k m (plain low c ss) t ts e w h =
    (omega arith, w ∙ ap IndexPage (sym e ∙ ap (λ (x : List Seg). record { low = low; index = nil; head = head_of c; level = 0 } ∷ x) (sym (take_heads k ss))), tt, (h.0, take_in g (suc m) k ss h.1), drop_in g (suc m) k ss h.1)
pack_in g zero k m (packed low n inner c ss) t ts e w h =
    (omega arith, w ∙ ap IndexPage (sym e ∙ ap (λ (x : List Seg). record { low = low; index = page n; head = head_of c; level = suc (level_of inner) } ∷ x) (sym (take_heads k ss))), tt, (h.0, h.1, h.2, h.3, take_in g (suc m) k ss h.4), drop_in g (suc m) k ss h.4)
pack_in g (suc i) k m (plain low c ss) t ts e w h = (h.0, pack_in g i k m ss t ts e w h.1)
pack_in g (suc i) k m (packed low n inner c ss) t ts e w h = (h.0, h.1, h.2, h.3, pack_in g i k m ss t ts e w h.4)

pack_by_is : (how : ℕ → Sum) (f : Pages) (i k : ℕ) (h : Held) (xs : List Seg) → suc i + suc (suc k) ≤ length (heads h.segs) → take (suc (suc k)) (drop (suc i) (heads h.segs)) ≡ xs → HeldIn f h → Order h →
    Kept how f h (pack_by (take (suc i) (heads h.segs)) xs (drop (suc (suc k)) (drop (suc i) (heads h.segs))) (queue_of h)) h.source (Under h.segs) (level_of h.segs)
unfolding pack_by written
pack_by_is how f i k h [] n e hh o = record { held = h; is = refl; pages = hh; same = refl; order = o; fresh = omega arith; lean = λ l. l; few = omega arith; source = refl; low = λ x u. u; level = omega arith; live = λ P d a. a }
pack_by_is how f i k h (t ∷ ts) n e hh o =
    record {
      held = g;
      is = ap (λ (x : List Seg). record { front = h.front; buffer = h.buffer; segments = x; source = head_of h.source; next = suc h.next }) (pack_heads (suc i) (suc k) h.next h.segs t ts e);
      pages = (pack_in f' (suc i) (suc k) h.next h.segs t ts e (written_here w [] f) (segs_more f f' h.next (suc h.next) a (omega arith) h.segs hh.0), chain_more f f' h.next (suc h.next) a (omega arith) h.source hh.1);
      same = ap (λ (x : List Row). onto how h.front (onto how h.buffer (onto how x (onto how (chain_rows h.source) [])))) (pack_under (suc i) (suc k) h.next h.segs);
      order = record {
        front = o.front;
        buffer = o.buffer;
        below = each_like (Under h.segs) (Under (pack_h (suc i) (suc k) h.next h.segs)) (pack_low (suc i) (suc k) h.next h.segs) h.front o.below;
        above = each_like (Over h.segs) (Over (pack_h (suc i) (suc k) h.next h.segs)) (pack_high (suc i) (suc k) h.next h.segs) h.buffer o.above;
        segs = pack_ok (suc i) (suc k) h.next h.segs o.segs;
      };
      fresh = omega arith;
      lean = λ l. record { segs = pack_lean (suc i) k h.next h.segs n l.segs; source = l.source };
      few = omega (arith, ap length (pack_under (suc i) (suc k) h.next h.segs));
      source = refl;
      low = pack_low (suc i) (suc k) h.next h.segs;
      level = omega (arith, pack_level i (suc k) h.next h.segs);
      live = λ P d a'. pack_live P (suc i) (suc k) h.next h.segs a';
    }
  where
    g : Held
    g = record { front = h.front; buffer = h.buffer; segs = pack_h (suc i) (suc k) h.next h.segs; source = h.source; next = suc h.next }

    w : Write
    w = record { number = h.next; content = IndexPage (t ∷ ts) }

    f' : Pages
    f' = written (w ∷ []) f

    a : (x : ℕ) → x < h.next → f' x ≡ f x
    a x y = written_below h.next (suc h.next) (w ∷ []) f x (omega arith) y

pub pack_keeps : (how : ℕ → Sum) (f : Pages) (i k : ℕ) (h : Held) → suc i + suc (suc k) ≤ length (heads h.segs) → HeldIn f h → Order h → Kept how f h (pack (suc i) (suc (suc k)) (queue_of h)) h.source (Under h.segs) (level_of h.segs)
pack_keeps how f i k h n hh o = pack_by_is how f i k h (take (suc (suc k)) (drop (suc i) (heads h.segs))) n refl hh o
