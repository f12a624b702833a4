-- Rows placed one by one: those below the segments are added to the front, the others to the buffer. By them the steps.
-- Assumes nothing.
use Rattle.std.proofs.Common.{◌≡◌, ℕ, suc, ◌+◌, ◌-◌, ◌/◌, ◌<◌, ◌≤◌, true, false, not, List, [], ◌∷◌, ◌++◌, length, get_or, take, drop, sym, refl, ap, ◌∙◌, append-nil, arith}
use Rattle.std.proofs.lemmas.List.{drop_all, drop_more, drop-map, take_all, length-drop, take-append-drop}
use Rattle.streams.specs.Meaning.{Sum}
use Rattle.book.specs.Rows.{Row, Bef, Upto, Each, Sorted, ltk, add, onto}
use Rattle.book.specs.Queue.{nil, Seg, Queue, goes_up, place, places, lower_by, open_by}
use Rattle.book.proofs.Rows.{add_lo, onto_add}
use Rattle.rows.specs.Model.{row_in, rows_of}
use Rattle.rows.specs.Search.{Splits}
use Rattle.rows.proofs.Order.{lt_yes, lt_no, each_like}
use Rattle.rows.proofs.Places.{as_long, row_there, sorted_right}
use Rattle.rows.proofs.Shares.{each_all}
use Rattle.segs.specs.Model.{seg_in, segs_of}
use Rattle.moves.specs.Model.{Cut}

low_all : (how : ℕ → Sum) (rs : List Row) (q : Queue) → Each (λ k. goes_up q.segments k ≡ false) rs → places how rs q ≡ record q { front = onto how rs q.front }
unfolding places place onto
low_all how [] q h = refl
low_all how (r ∷ rs) q h = rw h.0 (low_all how rs (record q { front = add how r q.front }) h.1 ∙ ap (λ (x : List Row). record q { front = x }) (onto_add how rs r q.front))

up_all : (how : ℕ → Sum) (rs : List Row) (q : Queue) → Each (λ k. goes_up q.segments k ≡ true) rs → places how rs q ≡ record q { buffer = onto how rs q.buffer }
unfolding places place onto
up_all how [] q h = refl
up_all how (r ∷ rs) q h = rw h.0 (up_all how rs (record q { buffer = add how r q.buffer }) h.1 ∙ ap (λ (x : List Row). record q { buffer = x }) (onto_add how rs r q.buffer))

both : (how : ℕ → Sum) (xs ys : List Row) (q : Queue) → places how (xs ++ ys) q ≡ places how ys (places how xs q)
unfolding places
both how [] ys q = refl
both how (x ∷ xs) ys q = both how xs ys (place how x q)

-- sorted rows added to none are the same rows
same : (how : ℕ → Sum) (rs : List Row) → Sorted rs → onto how rs [] ≡ rs
unfolding onto add
same how [] h = refl
same how (r ∷ []) h = refl
same how (r ∷ c ∷ cs) h = ap (add how r) (same how (c ∷ cs) h.1) ∙ add_lo how r c cs h.0.0

-- OPEN: the first rows of the buffer go to the front, and the others stay
open_is : (how : ℕ → Sum) (s : Seg) (ss : List Seg) (q : Queue) (n : ℕ) → q.segments ≡ s ∷ ss → Sorted q.buffer → Cut ss q.buffer n
    → record { front = onto how (take n q.buffer) q.front; buffer = drop n q.buffer; segments = ss; source = s.head; next = q.next } ≡ open_by how q.segments q
unfolding open_by
open_is how s ss q n e h cut =
    let z : Queue = record { front = q.front; buffer = []; segments = ss; source = s.head; next = q.next } in
    let y : Queue = record z { front = onto how (take n q.buffer) q.front } in
    ap (λ (x : List Row). record y { buffer = x }) (sym (same how (drop n q.buffer) (sorted_right n q.buffer h)))
    ∙ sym (up_all how (drop n q.buffer) y cut.high)
    ∙ ap (places how (drop n q.buffer)) (sym (low_all how (take n q.buffer) z cut.low))
    ∙ sym (both how (take n q.buffer) (drop n q.buffer) z)
    ∙ ap (λ (x : List Row). places how x z) (take-append-drop n q.buffer)
    ∙ ap (λ (x : List Seg). open_by how x q) (sym e)

-- of segments in memory
pub open_rows : (how : ℕ → Sum) (slots was : List (List ℕ)) (q : Queue) (d : List ℕ) (s : Seg) (n : ℕ) → q.segments ≡ segs_of slots → was ≡ slots → 1 ≤ length was → s ≡ seg_in (get_or was 0 d) → Sorted q.buffer → Cut (segs_of (take (length was - 1) (drop 1 was))) q.buffer n
    → record { front = onto how (take n q.buffer) q.front; buffer = drop n q.buffer; segments = segs_of (drop 1 slots); source = s.head; next = q.next } ≡ open_by how q.segments q
open_rows how [] was q d s n e is some first h cut = absurd (omega (arith, some, ap length is))
open_rows how (w ∷ ws) was q d s n e is some first h cut =
    let all : take (suc (length ws) - 1) ws ≡ ws = take_all (suc (length ws) - 1) ws (omega arith) in
    let z : Cut (segs_of (take (suc (length ws) - 1) ws)) q.buffer n = rw is at cut in
    open_is how s (segs_of ws) q n (e ∙ ap (λ (x : Seg). x ∷ segs_of ws) (sym (first ∙ ap (λ (x : List (List ℕ)). seg_in (get_or x 0 d)) is))) h (rw all at z)

pub open_none : (how : ℕ → Sum) (slots was : List (List ℕ)) (q : Queue) → q.segments ≡ segs_of slots → was ≡ slots → length was < 1 → q ≡ open_by how q.segments q
unfolding open_by
open_none how [] was q e is none = ap (λ (x : List Seg). open_by how x q) (sym e)
open_none how (w ∷ ws) was q e is none = absurd (omega (arith, none, ap length is))

-- which rows are below segments in memory
pub cut_none : (slots : List (List ℕ)) (rs : List Row) (n : ℕ) → length slots < 1 → n ≡ length rs → Cut (segs_of slots) rs n
unfolding goes_up
cut_none [] rs n h e = record { within = omega (arith, e); low = each_all (λ k. refl) (take n rs); high = rw (drop_all n rs (omega (arith, e))) tt }
cut_none (w ∷ ws) rs n h e = absurd (omega arith)

pub cut_first : (slots : List (List ℕ)) (rs : List Row) (d : List ℕ) (s : Seg) (n : ℕ) → 1 ≤ length slots → s ≡ seg_in (get_or slots 0 d) → Splits s.low rs n → Cut (segs_of slots) rs n
unfolding goes_up
cut_first [] rs d s n some e b = absurd (omega arith)
cut_first (w ∷ ws) rs d s n some e b = rw (← e) (record {
  within = b.within;
  low = each_like (λ k. Bef k s.low) (λ k. not (ltk k s.low) ≡ false) (λ k h. ap not (lt_yes k s.low h)) (take n rs) b.low;
  high = each_like (Upto s.low) (λ k. not (ltk k s.low) ≡ true) (λ k h. ap not (lt_no k s.low h)) (drop n rs) b.high;
})

-- LOWER, of rows in memory
lower_some : (how : ℕ → Sum) (q : Queue) (n : ℕ) (r : Row) (rest : List Row) → drop n q.front ≡ r ∷ rest
    → record q { front = take n q.front; buffer = onto how (drop n q.front) q.buffer; segments = record { low = r.at; index = nil; head = nil; level = 0 } ∷ q.segments } ≡ lower_by how (take n q.front) (drop n q.front) q
unfolding lower_by
lower_some how q n r rest e = rw e refl

pub lower_is : (how : ℕ → Sum) (q : Queue) (rows : List (List ℕ)) (d : List ℕ) (r : Row) → rows_of rows ≡ q.front → length rows / 2 < length rows → r ≡ row_in (get_or rows (length rows / 2) d)
    → record q { front = take (length rows / 2) q.front ++ drop (length rows) q.front; buffer = onto how (rows_of (take (length rows - length rows / 2) (drop (length rows / 2) rows))) q.buffer; segments = record { low = r.at; index = nil; head = nil; level = 0 } ∷ q.segments }
    ≡ lower_by how (take (length q.front / 2) q.front) (drop (length q.front / 2) q.front) q
lower_is how q rows d r e lt is =
    let n = length rows / 2 in
    let long : length rows ≡ length q.front = as_long rows e in
    let first : drop n q.front ≡ r ∷ drop (suc n) (rows_of rows) = ap (drop n) (sym e) ∙ row_there rows n d lt ∙ ap (λ (x : Row). x ∷ drop (suc n) (rows_of rows)) (sym is) in
    let front : take n q.front ++ drop (length rows) q.front ≡ take n q.front = ap (λ (x : List Row). take n q.front ++ x) (drop_all (length rows) q.front (omega (arith, long))) ∙ append-nil (take n q.front) in
    let upper : rows_of (take (length rows - n) (drop n rows)) ≡ drop n q.front = ap rows_of (take_all (length rows - n) (drop n rows) (omega (arith, length-drop n rows))) ∙ sym (drop-map row_in n rows) ∙ ap (drop n) e in
    (λ j. record q { front = front j; buffer = onto how (upper j) q.buffer; segments = record { low = r.at; index = nil; head = nil; level = 0 } ∷ q.segments })
    ∙ lower_some how q n r (drop (suc n) (rows_of rows)) first
    ∙ ap (λ (m : ℕ). lower_by how (take (m / 2) q.front) (drop (m / 2) q.front) q) long

pub lower_none : (how : ℕ → Sum) (q : Queue) (rows : List (List ℕ)) → rows_of rows ≡ q.front → length rows ≤ length rows / 2 → q ≡ lower_by how (take (length q.front / 2) q.front) (drop (length q.front / 2) q.front) q
unfolding lower_by
lower_none how q rows e le =
    let long : length rows ≡ length q.front = as_long rows e in
    rw (drop_all (length q.front / 2) q.front (omega (arith, long, le))) refl

-- one row more is placed
pub place_more : (how : ℕ → Sum) (rows : List (List ℕ)) (i : ℕ) (d : List ℕ) (r : Row) (q : Queue) → i < length rows → r ≡ row_in (get_or rows i d) → places how (rows_of (drop i rows)) q ≡ places how (rows_of (drop (i + 1) rows)) (place how r q)
unfolding places
place_more how rows i d r q lt is =
    ap (λ (x : List (List ℕ)). places how (rows_of x) q) (drop_more rows i d lt) ∙ ap (λ (x : Row). places how (rows_of (drop (i + 1) rows)) (place how x q)) (sym is)

pub place_none : (how : ℕ → Sum) (rows : List (List ℕ)) (i : ℕ) (q : Queue) → length rows ≤ i → places how (rows_of (drop i rows)) q ≡ q
unfolding places
place_none how rows i q le = rw (drop_all i rows le) refl
