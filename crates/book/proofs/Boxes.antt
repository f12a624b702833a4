-- What holds of the boxes of pages and logs is kept: a row page is written with rows of the buffer, merged with those of a page; an out page with events of the tail; a batch with the tag of its worker.
use Rattle.std.proofs.Common.{ℕ, zero, suc, ◌+◌, ◌/◌, ◌<◌, ◌≤◌, Bool, true, false, cond, eqb, leb, List, [], ◌∷◌, length, take, drop, replicate, sym, refl, subst, inl, inr, arith}
use Rattle.streams.specs.Meaning.{top, Event, Entry, Plan, Stage, Sum}
use Rattle.book.specs.Rows.{Row, Sorted, onto}
use Rattle.book.specs.Queue.{Link, nil, page, Seg, Page, Blank, RowPage, IndexPage, Pages, Write, written, Queue, page_of, is_of, pick, Spilled, split_by, one_page, too_full, merge_by, spill_by, spill_at, pack_by}
use Rattle.book.specs.Flow.{how_of}
use Rattle.book.specs.Due.{Sizes, Step, Spill, Lower, Pack, Sift, Emit, Unpack, Open, at_level, below_level, pack_many, do', shows}
use Rattle.book.specs.Ledger.{Served, workers, nobody, batched, set_at, Task, Publish, Tidy, watermark, OutWrite, out_written}
use Rattle.book.specs.Book.{Book, empty_book, SoundBook, put_batch, turn_of, after_turn}
use Rattle.book.specs.Numbers.{Among}
use Rattle.book.specs.Small.{EventsFit, Fits}
use Rattle.book.specs.Boxes.{SortedPage, ServedFit, Boxes}
use Rattle.book.proofs.Lists.{sorted_onto, sorted_left, sorted_right, sorted_pick}
use Rattle.book.proofs.Real.{batch_served}
use Rattle.book.proofs.Limits.{events_take}

-- ROW PAGES
abbrev SortedWrites : List Write → Type 0
SortedWrites [] = Unit {0}
SortedWrites (w ∷ ws) = SortedPage w.content × SortedWrites ws

take_sorted : (n : ℕ) (rs : List Row) → Sorted rs → Sorted (take n rs)
take_sorted n rs h = sorted_left (take n rs) (drop n rs) (subst Sorted (sym (lib.ListN.take-append-drop n rs)) h)

drop_sorted : (n : ℕ) (rs : List Row) → Sorted rs → Sorted (drop n rs)
drop_sorted n rs h = sorted_right (take n rs) (drop n rs) (subst Sorted (sym (lib.ListN.take-append-drop n rs)) h)

split_sorted : (n : ℕ) (s : Seg) (xs ys : List Row) → Sorted xs → Sorted ys → SortedWrites (split_by n s xs ys).writes
unfolding split_by
split_sorted n s xs [] a b = (a, tt)
split_sorted n s xs (y ∷ ys) a b = (a, (b, tt))

full_sorted : (n : ℕ) (s : Seg) (i b : Link) (rows moved : List Row) → Sorted rows → Sorted moved → SortedWrites (too_full n s i b rows moved).writes
unfolding too_full
full_sorted n s nil nil rows moved a m = split_sorted n s (take (length rows / 2) rows) (drop (length rows / 2) rows) (take_sorted (length rows / 2) rows a) (drop_sorted (length rows / 2) rows a)
full_sorted n s (page i) nil rows moved a m = (m, tt)
full_sorted n s nil (page b) rows moved a m = (m, tt)
full_sorted n s (page i) (page b) rows moved a m = (m, tt)

merge_sorted : (size n : ℕ) (s : Seg) (b : Link) (rows moved : List Row) → Sorted rows → Sorted moved → SortedWrites (merge_by size n s b rows moved).writes
unfolding merge_by
merge_sorted size n s b rows moved a m = go (leb (length rows) size)
  where
    go : (t : Bool) → SortedWrites (cond {A = Spilled} t (one_page n s b rows) (too_full n s s.index b rows moved)).writes
    go true = (a, tt)
    go false = full_sorted n s s.index b rows moved a m

spill_sorted : (how : ℕ → Sum) (size n : ℕ) (shown : Page) (head : Link) (s : Seg) (moved : List Row) → SortedPage shown → Sorted moved → SortedWrites (spill_by how size n shown head s moved).writes
unfolding spill_by
spill_sorted how size n Blank nil s moved p m = (m, tt)
spill_sorted how size n (RowPage b rs) nil s moved p m = (m, tt)
spill_sorted how size n (IndexPage ss) nil s moved p m = (m, tt)
spill_sorted how size n Blank (page h) s moved p m = (m, tt)
spill_sorted how size n (IndexPage ss) (page h) s moved p m = (m, tt)
spill_sorted how size n (RowPage b rs) (page h) s moved p m = merge_sorted size n s b (onto how moved rs) moved (sorted_onto how moved rs p) m

spill_at_sorted : (how : ℕ → Sum) (size n : ℕ) (shown : Page) (i : ℕ) (ss : List Seg) (moved : List Row) → SortedPage shown → Sorted moved → SortedWrites (spill_at how size n shown i ss moved).writes
unfolding spill_at
spill_at_sorted how size n shown zero [] moved p m = tt
spill_at_sorted how size n shown (suc i) [] moved p m = tt
spill_at_sorted how size n shown zero (s ∷ ss) moved p m = spill_sorted how size n shown s.head s moved p m
spill_at_sorted how size n shown (suc i) (s ∷ ss) moved p m = spill_at_sorted how size n shown i ss moved p m

pack_sorted : (xs ys us : List Seg) (q : Queue) → SortedWrites (pack_by xs ys us q).writes
unfolding pack_by
pack_sorted xs [] us q = tt
pack_sorted xs (t ∷ ts) us q = (tt, tt)

step_sorted : (z : Sizes) (sts : List Stage) (m : ℕ) (step : Step) (shown : Page) (q : Queue) → SortedPage shown → Sorted q.buffer → SortedWrites (do' z sts m step shown q).writes
step_sorted z sts m (Spill i) shown q p b = spill_at_sorted (how_of sts) z.rows q.next shown i q.segments (pick z.rows (is_of i q.segments) q.buffer) p (sorted_pick z.rows (is_of i q.segments) q.buffer b)
step_sorted z sts m (Pack v) shown q p b =
    let i : ℕ = below_level v q.segments + at_level v q.segments / 2 in
    let k : ℕ = pack_many z (at_level v q.segments) in
    pack_sorted (take i q.segments) (take k (drop i q.segments)) (drop k (drop i q.segments)) q
step_sorted z sts m Lower shown q p b = tt
step_sorted z sts m Sift shown q p b = tt
step_sorted z sts m Emit shown q p b = tt
step_sorted z sts m Unpack shown q p b = tt
step_sorted z sts m Open shown q p b = tt

written_sorted : (ws : List Write) (f : Pages) (k : ℕ) → SortedWrites ws → SortedPage (f k) → SortedPage (written ws f k)
unfolding written
written_sorted [] f k h p = p
written_sorted (w ∷ ws) f k h p = go (eqb k w.number) (written_sorted ws f k h.1 p)
  where
    go : (b : Bool) → SortedPage (written ws f k) → SortedPage (cond b w.content (written ws f k))
    go true i = h.0
    go false i = i

shown_sorted : (f : Pages) (l : Link) → ((k : ℕ) → SortedPage (f k)) → SortedPage (page_of f l)
shown_sorted f nil h = tt
shown_sorted f (page n) h = h n

-- OUT PAGES
out_fits : (ws : List OutWrite) (f : ℕ → List Event) (t : ℕ) → ((w : OutWrite) → Among w ws → EventsFit 8 w.events) → EventsFit 8 (f t) → EventsFit 8 (out_written ws f t)
unfolding out_written
out_fits [] f t h e = e
out_fits (w ∷ ws) f t h e = go (eqb t w.number) (out_fits ws f t (λ v a. h v (inr a)) e)
  where
    go : (b : Bool) → EventsFit 8 (out_written ws f t) → EventsFit 8 (cond b w.events (out_written ws f t))
    go true i = h w (inl refl)
    go false i = i

-- WHO WAS SERVED
nobody_fits : (k : ℕ) → ServedFit 0 (replicate k nobody)
nobody_fits zero = tt
nobody_fits (suc k) = (omega arith, omega arith, nobody_fits k)

served_up : (n m : ℕ) (ss : List Served) → n ≤ m → ServedFit n ss → ServedFit m ss
served_up n m [] h f = tt
served_up n m (s ∷ ss) h f = (f.0, omega (arith, f.1, h), served_up n m ss h f.2)

set_fits : (n i : ℕ) (s : Served) (ss : List Served) → s.life < top → s.serial ≤ n → ServedFit n ss → ServedFit n (set_at i s ss)
unfolding set_at
set_fits n i s [] a b f = tt
set_fits n zero s (x ∷ ss) a b f = (a, b, f.2)
set_fits n (suc i) s (x ∷ ss) a b f = (f.0, f.1, set_fits n i s ss a b f.2)

-- THE BOXES
pub boxes_first : (logs : ℕ) → Boxes 0 (empty_book logs)
boxes_first logs = record { rows = λ k. tt; outs = λ t. tt; served = λ l. nobody_fits workers }

pub boxes_later : (n : ℕ) (x : Book) → Boxes n x → Boxes (suc n) x
boxes_later n x b = record { rows = b.rows; outs = b.outs; served = λ l. served_up n (suc n) (x.log l).served (omega arith) (b.served l) }

pub boxes_batch : (p : Plan) (n : ℕ) (x : Book) (l floor i : ℕ) (s : Served) (es : List Entry) → s.life < top → s.serial ≤ n → Boxes n x → Boxes (suc n) (put_batch p l floor i s es x)
boxes_batch p n x l floor i s es hl hs b = record { rows = b.rows; outs = b.outs; served = served }
  where
    served : (k : ℕ) → ServedFit (suc n) (cond (eqb k l) (batched p.late floor i s es (x.log l)) (x.log k)).served
    served k = go (eqb k l)
      where
        go : (c : Bool) → ServedFit (suc n) (cond c (batched p.late floor i s es (x.log l)) (x.log k)).served
        go true = subst (ServedFit (suc n)) (sym (batch_served p.late floor i s es (x.log l))) (set_fits (suc n) i s (x.log l).served hl (omega (arith, hs)) ((boxes_later n x b).served l))
        go false = (boxes_later n x b).served k

pub boxes_turn : (z : Sizes) (p : Plan) (n : ℕ) (ls : List (List Entry)) (x : Book) (k : Task) → SoundBook z p ls x → Fits z n ls x → Boxes n x → Boxes (suc n) (after_turn (turn_of z p k x) x)
unfolding written
boxes_turn z p n ls x Publish s f b = record { rows = b.rows; outs = λ t. out_fits (record { number = x.ledger.pages; events = take z.outs x.ledger.tail } ∷ []) x.out t one (b.outs t); served = (boxes_later n x b).served }
  where
    one : (w : OutWrite) → Among w (record { number = x.ledger.pages; events = take z.outs x.ledger.tail } ∷ []) → EventsFit 8 w.events
    one w (inl e) = subst (λ (v : OutWrite). EventsFit 8 v.events) (sym e) (events_take 8 z.outs x.ledger.tail f.tail)
    one w (inr h) = absurd h
boxes_turn z p n ls x (Tidy step) s f b = record { rows = rows; outs = λ t. out_fits [] x.out t (λ w a. absurd a) (b.outs t); served = (boxes_later n x b).served }
  where
    m : ℕ
    m = watermark p.late x.ledger.logs

    shown : Page
    shown = page_of x.row (shows step x.ledger.queue)

    rows : (j : ℕ) → SortedPage (written (do' z p.stages m step shown x.ledger.queue).writes x.row j)
    rows j = written_sorted (do' z p.stages m step shown x.ledger.queue).writes x.row j (step_sorted z p.stages m step shown x.ledger.queue (shown_sorted x.row (shows step x.ledger.queue) b.rows) (subst (λ (q : Queue). Sorted q.buffer) (sym s.queue.is) s.queue.order.buffer)) (b.rows j)
