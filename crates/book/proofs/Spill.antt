-- Spilling keeps what the queue holds, and its order.
use Rattle.std.proofs.Common.{◌≡◌, ℕ, zero, suc, ◌+◌, ◌/◌, ◌<◌, ◌≤◌, Bool, true, false, cond, not, leb, ◌⊎◌, List, [], ◌∷◌, ◌++◌, length, take, drop, sym, refl, ap, ◌∙◌, subst, inl, inr, append-nil, arith, length-append, take-append-drop, length-take}
use Rattle.std.proofs.lemmas.Bool.{ne_eqb, leb-false, and_parts, not-true, both_ways}
use Rattle.streams.specs.Meaning.{Sum}
use Rattle.book.specs.Rows.{Key, Row, Bef, Upto, ltk, add, onto, Each, Sorted}
use Rattle.book.specs.Queue.{Link, nil, page, Seg, Page, RowPage, Pages, Write, written, below1, is_of, pick, left, Spilled, split_by, one_page, too_full, merge_by, spill_by, spill_at, spill, page_of, head_at}
use Rattle.book.specs.Held.{Paged, Segs, none, plain, packed, Held, head_of, heads, queue_of, ChainIn, SegsIn, HeldIn, chain_rows, under, Under, Over, Within, ChainOk, SegsOk, Order, Fresh, Kept, Alive, Free, level_of, Full, LeanSegs}
use Rattle.book.proofs.Rows.{Tri, lo, eq, hi, tri, add_lo, add_eq, add_hi, onto_both, onto_append, onto_onto, onto_none}
use Rattle.book.proofs.Lists.{each_like, each_onto, each_left, each_right, sorted_onto, sorted_left, sorted_right, sorted_mid, onto_pick, each_pick, each_kept, picked, sorted_pick, sorted_kept, upto_self, upto_bef, upto_bef_trans, ltk_tells, each_onto_inv, length_pick}
use Rattle.book.proofs.Steps.{written_below, written_here, chain_more, segs_more, chain_like, ok_like, length_onto}

-- what comes of segments and rows moved into them
record Res (how : ℕ → Sum) (f : Pages) (n : ℕ) (ss : Segs) (moved : List Row) (sp : Spilled) : Type 1 where
  segs : Segs
  is : sp.segs ≡ heads segs
  pages : SegsIn (written sp.writes f) (n + length sp.writes) segs
  same : (acc : List Row) → onto how (under segs) acc ≡ onto how moved (onto how (under ss) acc)
  ok : SegsOk Free segs
  low : (k : Key) → Under ss k → Under segs k
  high : (k : Key) → Over ss k → Over segs k
  fresh : Fresh n (n + length sp.writes) sp.writes
  level : level_of segs ≡ level_of ss
  few : length (under segs) ≤ length moved + length (under ss)
  lean : LeanSegs ss → LeanSegs segs
  live : (P : Key → Type 0) → Each P moved → Each P (under ss) → Alive P ss → Alive P segs

-- the rows of the i-th segment
abbrev Goes : ℕ → Segs → Key → Type 0
Goes i none k = ⊥
Goes zero (plain low c ss) k = Within Free low ss k
Goes zero (packed low n inner c ss) k = Within Free low ss k
Goes (suc i) (plain low c ss) k = Goes i ss k
Goes (suc i) (packed low n inner c ss) k = Goes i ss k

not_before : (k low : Key) → not (ltk k low) ≡ true → Upto low k
not_before k low e = go (ltk_tells k low)
  where
    go : ((ltk k low ≡ true) × Bef k low) ⊎ ((ltk k low ≡ false) × Upto low k) → Upto low k
    go (inl p) = absurd (both_ways (ltk k low) (not-true (ltk k low) e) p.0)
    go (inr p) = p.1

is_before : (k low : Key) → ltk k low ≡ true → Bef k low
is_before k low e = go (ltk_tells k low)
  where
    go : ((ltk k low ≡ true) × Bef k low) ⊎ ((ltk k low ≡ false) × Upto low k) → Bef k low
    go (inl p) = p.1
    go (inr p) = absurd (both_ways (ltk k low) p.0 e)

below_first : (ss : Segs) (k : Key) → below1 (heads ss) k ≡ true → Under ss k
unfolding below1
below_first none k e = tt
below_first (plain low c ss) k e = is_before k low e
below_first (packed low n i c ss) k e = is_before k low e

goes_of : (i : ℕ) (ss : Segs) (k : Key) → is_of i (heads ss) k ≡ true → Goes i ss k
unfolding is_of
goes_of zero none k e = both_ways false refl e
goes_of (suc i) none k e = both_ways false refl e
goes_of zero (plain low c ss) k e =
    let p : (not (ltk k low) ≡ true) × (below1 (heads ss) k ≡ true) = and_parts (not (ltk k low)) (below1 (heads ss) k) e in
    (not_before k low p.0, below_first ss k p.1)
goes_of zero (packed low n inner c ss) k e =
    let p : (not (ltk k low) ≡ true) × (below1 (heads ss) k ≡ true) = and_parts (not (ltk k low)) (below1 (heads ss) k) e in
    (not_before k low p.0, below_first ss k p.1)
goes_of (suc i) (plain low c ss) k e = goes_of i ss k e
goes_of (suc i) (packed low n inner c ss) k e = goes_of i ss k e

-- ONE PAGE more on a chain, or in place of its first
one_plain : (how : ℕ → Sum) (f : Pages) (n : ℕ) (low : Key) (c : List Paged) (ss : Segs) (moved rows : List Row) (ps : List Paged) → ChainIn f n ps → SegsIn f n ss →
    ((acc : List Row) → onto how rows (onto how (chain_rows ps) acc) ≡ onto how moved (onto how (chain_rows c) acc)) → Sorted rows → Each (Within Free low ss) rows → ChainOk (Within Free low ss) ps → Under ss low → SegsOk Free ss →
    length rows + length (chain_rows ps) ≤ length moved + length (chain_rows c) → 1 ≤ length rows → (Full c → Full ps) →
    Res how f n (plain low c ss) moved (record { segs = record { low = low; index = nil; head = page n; level = 0 } ∷ heads ss; writes = record { number = n; content = RowPage (head_of ps) rows } ∷ [] })
one_plain how f n low c ss moved rows ps ci si q sr er co u so lf lr le =
    record {
      segs = plain low (record { number = n; rows = rows } ∷ ps) ss;
      is = refl;
      pages = ((omega arith, written_here w [] f, chain_more f g n (n + 1) a (omega arith) ps ci), segs_more f g n (n + 1) a (omega arith) ss si);
      same = λ acc. onto_append how (rows ++ chain_rows ps) (under ss) acc ∙ onto_append how rows (chain_rows ps) (onto how (under ss) acc) ∙ q (onto how (under ss) acc) ∙ ap (onto how moved) (sym (onto_append how (chain_rows c) (under ss) acc));
      ok = ((sr, er, co), u, so);
      low = λ k p. p;
      high = λ k p. p;
      fresh = omega arith;
      level = refl;
      few = omega (arith, length-append (rows ++ chain_rows ps) (under ss), length-append rows (chain_rows ps), length-append (chain_rows c) (under ss));
      lean = λ l. ((lr, le l.0), l.1);
      live = λ P x y z. z;
    }
  where
    w : Write
    w = record { number = n; content = RowPage (head_of ps) rows }

    g : Pages
    g = written (w ∷ []) f

    a : (x : ℕ) → x < n → g x ≡ f x
    a x l = written_below n (n + 1) (w ∷ []) f x (omega arith) l

one_packed : (how : ℕ → Sum) (f : Pages) (n : ℕ) (low : Key) (m : ℕ) (inner : Segs) (c : List Paged) (ss : Segs) (moved rows : List Row) (ps : List Paged) → ChainIn f n ps → SegsIn f n (packed low m inner c ss) →
    ((acc : List Row) → onto how rows (onto how (chain_rows ps) acc) ≡ onto how moved (onto how (chain_rows c) acc)) → Sorted rows → Each (Within Free low ss) rows → ChainOk (Within Free low ss) ps → SegsOk Free (packed low m inner c ss) →
    length rows + length (chain_rows ps) ≤ length moved + length (chain_rows c) → 1 ≤ length rows → (Full c → Full ps) →
    Res how f n (packed low m inner c ss) moved (record { segs = record { low = low; index = page m; head = page n; level = suc (level_of inner) } ∷ heads ss; writes = record { number = n; content = RowPage (head_of ps) rows } ∷ [] })
one_packed how f n low m inner c ss moved rows ps ci si q sr er co so lf lr le =
    record {
      segs = packed low m inner (record { number = n; rows = rows } ∷ ps) ss;
      is = refl;
      pages = (omega (arith, si.0), a m si.0 ∙ si.1, (omega arith, written_here w [] f, chain_more f g n (n + 1) a (omega arith) ps ci), segs_more f g n (n + 1) a (omega arith) inner si.3, segs_more f g n (n + 1) a (omega arith) ss si.4);
      same = λ acc. onto_append how (rows ++ chain_rows ps) rest acc ∙ onto_append how rows (chain_rows ps) (onto how rest acc) ∙ q (onto how rest acc) ∙ ap (onto how moved) (sym (onto_append how (chain_rows c) rest acc));
      ok = ((sr, er, co), so.1, so.2, so.3, so.4);
      low = λ k p. p;
      high = λ k p. p;
      fresh = omega arith;
      level = refl;
      few = omega (arith, length-append (rows ++ chain_rows ps) rest, length-append rows (chain_rows ps), length-append (chain_rows c) rest);
      lean = λ l. ((lr, le l.0), l.1, l.2, l.3);
      live = λ P x y z. z;
    }
  where
    rest : List Row
    rest = under inner ++ under ss

    w : Write
    w = record { number = n; content = RowPage (head_of ps) rows }

    g : Pages
    g = written (w ∷ []) f

    a : (x : ℕ) → x < n → g x ≡ f x
    a x l = written_below n (n + 1) (w ∷ []) f x (omega arith) l

-- moved rows, merged with those of a page
merged : (how : ℕ → Sum) (moved rows rest acc : List Row) → onto how (onto how moved rows) (onto how rest acc) ≡ onto how moved (onto how (rows ++ rest) acc)
merged how moved rows rest acc = onto_onto how moved rows (onto how rest acc) ∙ ap (onto how moved) (sym (onto_append how rows rest acc))

added_some : (how : ℕ → Sum) (r : Row) (cs : List Row) → 1 ≤ length (add how r cs)
unfolding add
added_some how r [] = omega arith
added_some how r (c ∷ cs) = go (tri r.at c.at)
  where
    go : Tri r.at c.at → 1 ≤ length (add how r (c ∷ cs))
    go (lo p) = rw (add_lo how r c cs p) (omega arith)
    go (eq p) = rw (add_eq how r c cs p) (omega arith)
    go (hi p) = rw (add_hi how r c cs p) (omega arith)

merged_some : (how : ℕ → Sum) (moved rows : List Row) → 1 ≤ length moved → 1 ≤ length (onto how moved rows)
unfolding onto
merged_some how [] rows h = absurd (omega arith)
merged_some how (r ∷ rs) rows h = added_some how r (onto how rs rows)

-- TWO PAGES
first_before : (low u : Key) (xs : List Row) → 1 ≤ length xs → Each (Upto low) xs → Each (λ k. Bef k u) xs → Bef low u
first_before low u [] l p q = absurd (omega arith)
first_before low u (x ∷ xs) l p q = upto_bef_trans low x.at u p.0 q.0

written_next : (v w : Write) (f : Pages) → (w.number ≡ v.number → ⊥) → written (v ∷ w ∷ []) f w.number ≡ w.content
unfolding written
written_next v w f h = rw (ne_eqb w.number v.number h) (written_here w [] f)

split_plain : (how : ℕ → Sum) (f : Pages) (n : ℕ) (low : Key) (p : Paged) (ss : Segs) (moved xs ys : List Row) → xs ++ ys ≡ onto how moved p.rows → 1 ≤ length xs → SegsIn f n ss →
    Sorted (onto how moved p.rows) → Each (Within Free low ss) (onto how moved p.rows) → Under ss low → SegsOk Free ss →
    Res how f n (plain low (p ∷ []) ss) moved (record { segs = (split_by n (record { low = low; index = nil; head = page p.number; level = 0 }) xs ys).segs ++ heads ss; writes = (split_by n (record { low = low; index = nil; head = page p.number; level = 0 }) xs ys).writes })
unfolding split_by
split_plain how f n low p ss moved xs [] e l si sr er u so =
    one_plain how f n low (p ∷ []) ss moved xs [] tt si (λ acc. ap (λ (z : List Row). onto how z (onto how [] acc)) (sym (append-nil xs) ∙ e) ∙ merged how moved p.rows [] acc) (subst Sorted (sym e ∙ append-nil xs) sr) (subst (Each (Within Free low ss)) (sym e ∙ append-nil xs) er) tt u so (omega (arith, ap length e, length-append xs [], length_onto how moved p.rows, length-append p.rows [])) l (λ x. tt)
split_plain how f n low p ss moved xs (y ∷ ys) e l si sr er u so =
    record {
      segs = plain low (record { number = n; rows = xs } ∷ []) (plain y.at (record { number = suc n; rows = y ∷ ys } ∷ []) ss);
      is = refl;
      pages = ((omega arith, written_here v (w ∷ []) f, tt), ((omega arith, second, tt), segs_more f g n (n + 2) a (omega arith) ss si));
      same = s;
      ok = (
        (sorted_left xs (y ∷ ys) srt, both xs (each_left (Within Free low ss) xs (y ∷ ys) ers) (sorted_mid xs y ys srt), tt),
        first_before low y.at xs l (each_like (Within Free low ss) (Upto low) (λ k h. h.0) xs (each_left (Within Free low ss) xs (y ∷ ys) ers)) (sorted_mid xs y ys srt),
        ((sorted_right xs (y ∷ ys) srt, over (y ∷ ys) (upto_self y.at, each_like (Bef y.at) (Upto y.at) (upto_bef y.at) ys (sorted_right xs (y ∷ ys) srt).0) (each_right (Within Free low ss) xs (y ∷ ys) ers), tt), (each_right (Within Free low ss) xs (y ∷ ys) ers).0.1, so),
      );
      low = λ k h. h;
      high = λ k h. h;
      fresh = omega arith;
      level = refl;
      few = omega (arith, fewer, length-append (xs ++ []) (((y ∷ ys) ++ []) ++ under ss), length-append xs [], length-append ((y ∷ ys) ++ []) (under ss), length-append (y ∷ ys) [], length-append (p.rows ++ []) (under ss), length-append p.rows []);
      lean = λ z. ((l, tt), ((omega arith, tt), z.1));
      live = λ P b d a. (a.0, ((each_right P xs (y ∷ ys) (subst (Each P) (sym e) (each_onto P how moved p.rows b (each_left P p.rows [] (each_left P (p.rows ++ []) (under ss) d))))).0, a.1));
    }
  where
    v : Write
    v = record { number = n; content = RowPage nil xs }

    w : Write
    w = record { number = suc n; content = RowPage nil (y ∷ ys) }

    g : Pages
    g = written (v ∷ w ∷ []) f

    a : (x : ℕ) → x < n → g x ≡ f x
    a x k = written_below n (n + 2) (v ∷ w ∷ []) f x (omega arith) k

    second : g (suc n) ≡ RowPage nil (y ∷ ys)
    second = written_next v w f (λ (q : suc n ≡ n). omega arith)

    fewer : length xs + suc (length ys) ≤ length moved + length p.rows
    fewer = omega (arith, ap length e, length-append xs (y ∷ ys), length_onto how moved p.rows)

    srt : Sorted (xs ++ (y ∷ ys))
    srt = subst Sorted (sym e) sr

    ers : Each (Within Free low ss) (xs ++ (y ∷ ys))
    ers = subst (Each (Within Free low ss)) (sym e) er

    both : (zs : List Row) → Each (Within Free low ss) zs → Each (λ k. Bef k y.at) zs → Each (λ k. Upto low k × Bef k y.at) zs
    both [] h k = tt
    both (z ∷ zs) h k = ((h.0.0, k.0), both zs h.1 k.1)

    over : (zs : List Row) → Each (Upto y.at) zs → Each (Within Free low ss) zs → Each (Within Free y.at ss) zs
    over [] h k = tt
    over (z ∷ zs) h k = ((h.0, k.0.1), over zs h.1 k.1)

    s : (acc : List Row) → onto how ((xs ++ []) ++ (((y ∷ ys) ++ []) ++ under ss)) acc ≡ onto how moved (onto how ((p.rows ++ []) ++ under ss) acc)
    s acc = rw (append-nil xs, append-nil p.rows, append-nil ys)
        (onto_append how xs ((y ∷ ys) ++ under ss) acc ∙ ap (onto how xs) (onto_append how (y ∷ ys) (under ss) acc) ∙ sym (onto_append how xs (y ∷ ys) (onto how (under ss) acc)) ∙ ap (λ (z : List Row). onto how z (onto how (under ss) acc)) e
        ∙ onto_onto how moved p.rows (onto how (under ss) acc) ∙ ap (onto how moved) (sym (onto_append how p.rows (under ss) acc)))

abbrev seg : Key → Link → ℕ → List Paged → Seg
seg low i v c = record { low = low; index = i; head = head_of c; level = v }

abbrev tail : Spilled → List Seg → Spilled
tail r ss = record { segs = r.segs ++ ss; writes = r.writes }

plain_case : (how : ℕ → Sum) (size : ℕ) (f : Pages) (n : ℕ) (low : Key) (c : List Paged) (ss : Segs) (moved : List Row) → 1 ≤ length moved → 1 ≤ size → SegsIn f n (plain low c ss) → SegsOk Free (plain low c ss) → Sorted moved → Each (Within Free low ss) moved →
    Res how f n (plain low c ss) moved (tail (spill_by how size n (page_of f (head_of c)) (head_of c) (seg low nil 0 c) moved) (heads ss))
unfolding spill_by merge_by too_full
plain_case how size f n low [] ss moved mm sz i o sm em = one_plain how f n low [] ss moved moved [] tt i.1 (λ acc. refl) sm em tt o.1 o.2 (omega arith) mm (λ x. tt)
plain_case how size f n low (p ∷ []) ss moved mm sz i o sm em =
    subst (λ (x : Page). Res how f n (plain low (p ∷ []) ss) moved (tail (spill_by how size n x (page p.number) (seg low nil 0 (p ∷ [])) moved) (heads ss))) (sym i.0.1) (go (leb (length rows) size) refl)
  where
    rows : List Row
    rows = onto how moved p.rows

    srt : Sorted rows
    srt = sorted_onto how moved p.rows o.0.0

    each : Each (Within Free low ss) rows
    each = each_onto (Within Free low ss) how moved p.rows em o.0.1

    go : (b : Bool) → leb (length rows) size ≡ b → Res how f n (plain low (p ∷ []) ss) moved (tail (cond b (one_page n (seg low nil 0 (p ∷ [])) nil rows) (split_by n (seg low nil 0 (p ∷ [])) (take (length rows / 2) rows) (drop (length rows / 2) rows))) (heads ss))
    go true e = one_plain how f n low (p ∷ []) ss moved rows [] tt i.1 (merged how moved p.rows []) srt each tt o.1 o.2 (omega (arith, length_onto how moved p.rows, length-append p.rows [])) (merged_some how moved p.rows mm) (λ x. tt)
    go false e = split_plain how f n low p ss moved (take (length rows / 2) rows) (drop (length rows / 2) rows) (take-append-drop (length rows / 2) rows) (omega (arith, leb-false (length rows) size e, length-take (length rows / 2) rows)) i.1 srt each o.1 o.2
plain_case how size f n low (p ∷ q ∷ qs) ss moved mm sz i o sm em =
    subst (λ (x : Page). Res how f n (plain low (p ∷ q ∷ qs) ss) moved (tail (spill_by how size n x (page p.number) (seg low nil 0 (p ∷ q ∷ qs)) moved) (heads ss))) (sym i.0.1) (go (leb (length rows) size))
  where
    rows : List Row
    rows = onto how moved p.rows

    go : (b : Bool) → Res how f n (plain low (p ∷ q ∷ qs) ss) moved (tail (cond b (one_page n (seg low nil 0 (p ∷ q ∷ qs)) (page q.number) rows) (one_page n (seg low nil 0 (p ∷ q ∷ qs)) (page p.number) moved)) (heads ss))
    go true = one_plain how f n low (p ∷ q ∷ qs) ss moved rows (q ∷ qs) i.0.2 i.1 (merged how moved p.rows (chain_rows (q ∷ qs))) (sorted_onto how moved p.rows o.0.0) (each_onto (Within Free low ss) how moved p.rows em o.0.1) o.0.2 o.1 o.2 (omega (arith, length_onto how moved p.rows, length-append p.rows (chain_rows (q ∷ qs)))) (merged_some how moved p.rows mm) (λ x. x.1)
    go false = one_plain how f n low (p ∷ q ∷ qs) ss moved moved (p ∷ q ∷ qs) i.0 i.1 (λ acc. refl) sm em o.0 o.1 o.2 (omega arith) mm (λ x. x)

packed_case : (how : ℕ → Sum) (size : ℕ) (f : Pages) (n : ℕ) (low : Key) (m : ℕ) (inner : Segs) (c : List Paged) (ss : Segs) (moved : List Row) → 1 ≤ length moved → SegsIn f n (packed low m inner c ss) → SegsOk Free (packed low m inner c ss) → Sorted moved → Each (Within Free low ss) moved →
    Res how f n (packed low m inner c ss) moved (tail (spill_by how size n (page_of f (head_of c)) (head_of c) (seg low (page m) (suc (level_of inner)) c) moved) (heads ss))
unfolding spill_by merge_by too_full
packed_case how size f n low m inner [] ss moved mm i o sm em = one_packed how f n low m inner [] ss moved moved [] tt i (λ acc. refl) sm em tt o (omega arith) mm (λ x. tt)
packed_case how size f n low m inner (p ∷ ps) ss moved mm i o sm em =
    subst (λ (x : Page). Res how f n (packed low m inner (p ∷ ps) ss) moved (tail (spill_by how size n x (page p.number) it moved) (heads ss))) (sym i.2.1) (go (leb (length rows) size))
  where
    it : Seg
    it = seg low (page m) (suc (level_of inner)) (p ∷ ps)

    rows : List Row
    rows = onto how moved p.rows

    full : (qs : List Paged) → too_full n it (page m) (head_of qs) rows moved ≡ one_page n it (page p.number) moved
    full [] = refl
    full (q ∷ qs) = refl

    go : (b : Bool) → Res how f n (packed low m inner (p ∷ ps) ss) moved (tail (cond b (one_page n it (head_of ps) rows) (too_full n it (page m) (head_of ps) rows moved)) (heads ss))
    go true = one_packed how f n low m inner (p ∷ ps) ss moved rows ps i.2.2 i (merged how moved p.rows (chain_rows ps)) (sorted_onto how moved p.rows o.0.0) (each_onto (Within Free low ss) how moved p.rows em o.0.1) o.0.2 o (omega (arith, length_onto how moved p.rows, length-append p.rows (chain_rows ps))) (merged_some how moved p.rows mm) (λ x. x.1)
    go false = subst (λ (x : Spilled). Res how f n (packed low m inner (p ∷ ps) ss) moved (tail x (heads ss))) (sym (full ps)) (one_packed how f n low m inner (p ∷ ps) ss moved moved (p ∷ ps) i.2 i (λ acc. refl) sm em o.0 o (omega arith) mm (λ x. x))

-- AT THE i-TH
no_rows : (rs : List Row) → Each (λ k. ⊥) rs → rs ≡ []
no_rows [] e = refl
no_rows (r ∷ rs) e = absurd e.0

stay : (how : ℕ → Sum) (f : Pages) (n : ℕ) (ss : Segs) (moved : List Row) → Each (λ k. ⊥) moved → SegsIn f n ss → SegsOk Free ss → Res how f n ss moved (record { segs = heads ss; writes = [] })
unfolding written
stay how f n ss moved e i o =
    record { segs = ss; is = refl; pages = segs_more f f n (n + 0) (λ k l. refl) (omega arith) ss i; same = λ acc. sym (onto_none how (onto how (under ss) acc)) ∙ ap (λ (z : List Row). onto how z (onto how (under ss) acc)) (sym (no_rows moved e)); ok = o; low = λ k h. h; high = λ k h. h; fresh = omega arith; level = refl; few = omega arith; lean = λ l. l; live = λ P x y z. z }

spill_res : (how : ℕ → Sum) (size : ℕ) (f : Pages) (n i : ℕ) (ss : Segs) (moved : List Row) → 1 ≤ length moved → 1 ≤ size → SegsIn f n ss → SegsOk Free ss → Sorted moved → Each (Goes i ss) moved → Res how f n ss moved (spill_at how size n (page_of f (head_at i (heads ss))) i (heads ss) moved)
unfolding spill_at head_at
spill_res how size f n zero none moved mm sz i o sm em = stay how f n none moved em i o
spill_res how size f n (suc k) none moved mm sz i o sm em = stay how f n none moved em i o
spill_res how size f n zero (plain low c ss) moved mm sz i o sm em = plain_case how size f n low c ss moved mm sz i o sm em
spill_res how size f n zero (packed low m inner c ss) moved mm sz i o sm em = packed_case how size f n low m inner c ss moved mm i o sm em
spill_res how size f n (suc k) (plain low c ss) moved mm sz i o sm em = up (spill_res how size f n k ss moved mm sz i.1 o.2 sm em)
  where
    sp : Spilled
    sp = spill_at how size n (page_of f (head_at k (heads ss))) k (heads ss) moved

    m : ℕ
    m = n + length sp.writes

    up : Res how f n ss moved sp → Res how f n (plain low c ss) moved (record { segs = seg low nil 0 c ∷ sp.segs; writes = sp.writes })
    up r =
        record {
          segs = plain low c r.segs;
          is = ap (λ (x : List Seg). seg low nil 0 c ∷ x) r.is;
          pages = (chain_more f (written sp.writes f) n m (λ x l. written_below n m sp.writes f x r.fresh l) (omega arith) c i.0, r.pages);
          same = λ acc. onto_append how (chain_rows c) (under r.segs) acc ∙ ap (onto how (chain_rows c)) (r.same acc) ∙ onto_both how (chain_rows c) moved (onto how (under ss) acc) ∙ ap (onto how moved) (sym (onto_append how (chain_rows c) (under ss) acc));
          ok = (chain_like (Within Free low ss) (Within Free low r.segs) (λ x p. (p.0, r.low x p.1)) c o.0, r.low low o.1, r.ok);
          low = λ x h. h;
          high = λ x h. h;
          fresh = r.fresh;
          level = refl;
          few = omega (arith, r.few, length-append (chain_rows c) (under r.segs), length-append (chain_rows c) (under ss));
          lean = λ l. (l.0, r.lean l.1);
          live = λ P x y z. (z.0, r.live P x (each_right P (chain_rows c) (under ss) y) z.1);
        }
spill_res how size f n (suc k) (packed low m inner c ss) moved mm sz i o sm em = up (spill_res how size f n k ss moved mm sz i.4 o.2 sm em)
  where
    sp : Spilled
    sp = spill_at how size n (page_of f (head_at k (heads ss))) k (heads ss) moved

    t : ℕ
    t = n + length sp.writes

    up : Res how f n ss moved sp → Res how f n (packed low m inner c ss) moved (record { segs = seg low (page m) (suc (level_of inner)) c ∷ sp.segs; writes = sp.writes })
    up r =
        record {
          segs = packed low m inner c r.segs;
          is = ap (λ (x : List Seg). seg low (page m) (suc (level_of inner)) c ∷ x) r.is;
          pages = (omega (arith, i.0), as_was m i.0 ∙ i.1, chain_more f (written sp.writes f) n t as_was (omega arith) c i.2, segs_more f (written sp.writes f) n t as_was (omega arith) inner i.3, r.pages);
          same = s;
          ok = (chain_like (Within Free low ss) (Within Free low r.segs) (λ x p. (p.0, r.low x p.1)) c o.0, r.low low o.1, r.ok, o.3, ok_like (Under ss) (Under r.segs) r.low inner o.4);
          low = λ x h. h;
          high = λ x h. h;
          fresh = r.fresh;
          level = refl;
          few = omega (arith, r.few, length-append (chain_rows c) (under inner ++ under r.segs), length-append (under inner) (under r.segs), length-append (chain_rows c) (under inner ++ under ss), length-append (under inner) (under ss));
          lean = λ l. (l.0, r.lean l.1, l.2, l.3);
          live = λ P x y z. (z.0, r.live P x (each_right P (under inner) (under ss) (each_right P (chain_rows c) (under inner ++ under ss) y)) z.1);
        }
      where
        as_was : (x : ℕ) → x < n → written sp.writes f x ≡ f x
        as_was x l = written_below n t sp.writes f x r.fresh l

        s : (acc : List Row) → onto how (chain_rows c ++ (under inner ++ under r.segs)) acc ≡ onto how moved (onto how (chain_rows c ++ (under inner ++ under ss)) acc)
        s acc = onto_append how (chain_rows c) (under inner ++ under r.segs) acc ∙ ap (onto how (chain_rows c)) (onto_append how (under inner) (under r.segs) acc ∙ ap (onto how (under inner)) (r.same acc) ∙ onto_both how (under inner) moved (onto how (under ss) acc) ∙ ap (onto how moved) (sym (onto_append how (under inner) (under ss) acc)))
            ∙ onto_both how (chain_rows c) moved (onto how (under inner ++ under ss) acc) ∙ ap (onto how moved) (sym (onto_append how (chain_rows c) (under inner ++ under ss) acc))

pub spill_keeps : (how : ℕ → Sum) (size : ℕ) (f : Pages) (i : ℕ) (h : Held) → 1 ≤ length (pick size (is_of i (heads h.segs)) h.buffer) → 1 ≤ size → HeldIn f h → Order h → Kept how f h (spill how size i (page_of f (head_at i (heads h.segs))) (queue_of h)) h.source (Under h.segs) (level_of h.segs)
spill_keeps how size f i h mm sz hh o = done (spill_res how size f h.next i h.segs moved mm sz hh.0 o.segs (sorted_pick size (is_of i (heads h.segs)) h.buffer o.buffer) (each_like (λ k. is_of i (heads h.segs) k ≡ true) (Goes i h.segs) (goes_of i h.segs) moved (picked size (is_of i (heads h.segs)) h.buffer)))
  where
    moved : List Row
    moved = pick size (is_of i (heads h.segs)) h.buffer

    rest : List Row
    rest = left size (is_of i (heads h.segs)) h.buffer

    sp : Spilled
    sp = spill_at how size h.next (page_of f (head_at i (heads h.segs))) i (heads h.segs) moved

    to : ℕ
    to = h.next + length sp.writes

    done : Res how f h.next h.segs moved sp → Kept how f h (spill how size i (page_of f (head_at i (heads h.segs))) (queue_of h)) h.source (Under h.segs) (level_of h.segs)
    done r =
        record {
          held = record { front = h.front; buffer = rest; segs = r.segs; source = h.source; next = to };
          is = ap (λ (x : List Seg). record { front = h.front; buffer = rest; segments = x; source = head_of h.source; next = to }) r.is;
          pages = (r.pages, chain_more f (written sp.writes f) h.next to (λ x l. written_below h.next to sp.writes f x r.fresh l) (omega arith) h.source hh.1);
          same = ap (onto how h.front) (ap (onto how rest) (r.same src) ∙ onto_both how rest moved (onto how (under h.segs) src) ∙ onto_pick how size (is_of i (heads h.segs)) h.buffer (onto how (under h.segs) src));
          order = record {
            front = o.front;
            buffer = sorted_kept size (is_of i (heads h.segs)) h.buffer o.buffer;
            below = each_like (Under h.segs) (Under r.segs) r.low h.front o.below;
            above = each_like (Over h.segs) (Over r.segs) r.high rest (each_kept (Over h.segs) size (is_of i (heads h.segs)) h.buffer o.above);
            segs = r.ok;
          };
          fresh = r.fresh;
          lean = λ l. record { segs = r.lean l.segs; source = l.source };
          few = omega (arith, r.few, length_pick size (is_of i (heads h.segs)) h.buffer);
          source = refl;
          low = r.low;
          level = omega (arith, r.level);
          live = λ P d a. let u : Each P (onto how h.buffer (onto how (under h.segs) src)) = (each_onto_inv P how h.front (onto how h.buffer (onto how (under h.segs) src)) d).1 in let v : Each P h.buffer × Each P (onto how (under h.segs) src) = each_onto_inv P how h.buffer (onto how (under h.segs) src) u in r.live P (each_pick P size (is_of i (heads h.segs)) h.buffer v.0) (each_onto_inv P how (under h.segs) src v.1).0 a;
        }
      where
        src : List Row
        src = onto how (chain_rows h.source) []
