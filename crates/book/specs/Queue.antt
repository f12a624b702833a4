-- The queue as the ledger has it, and its steps. A step is a function of the queue and of one page; it gives the queue after, and the pages to write.
-- Assumes nothing.
use Rattle.std.specs.Prelude.{ℕ, zero, suc, ◌+◌, ◌/◌, Bool, true, false, cond, not, ◌&&◌, List, [], ◌∷◌, ◌++◌, length, take, drop, ◌==◌, nat_le}
use Rattle.streams.specs.Meaning.{Sum}
use Rattle.book.specs.Rows.{Key, Row, ltk, add, onto}

-- the number of a page, or none
pub data Link : Type 0 where
  nil : Link
  page : ℕ → Link

-- part of the queue: no key below its low; its rows are in the row pages from its head on, and in the segments of its index page
pub record Seg : Type 0 where
  pub low : Key
  pub index : Link
  pub head : Link
  pub level : ℕ

pub data Page : Type 0 where
  Blank : Page
  RowPage : (below : Link) → List Row → Page
  IndexPage : List Seg → Page

abbrev pub Pages : Type 0
Pages = ℕ → Page

pub record Write : Type 0 where
  pub number : ℕ
  pub content : Page

unfoldable pub written : List Write → Pages → Pages
written [] f = f
written (w ∷ ws) f = λ n. cond (n == w.number) w.content (written ws f n)

pub record Queue : Type 0 where
  pub front : List Row
  pub buffer : List Row
  pub segments : List Seg
  pub source : Link
  pub next : ℕ

pub record After : Type 0 where
  pub queue : Queue
  pub writes : List Write

-- at or above the first segment
unfoldable pub goes_up : List Seg → Key → Bool
goes_up [] k = false
goes_up (s ∷ ss) k = not (ltk k s.low)

unfoldable pub place : (ℕ → Sum) → Row → Queue → Queue
place how r q =
    cond (goes_up q.segments r.at)
    (record { front = q.front; buffer = add how r q.buffer; segments = q.segments; source = q.source; next = q.next })
    (record { front = add how r q.front; buffer = q.buffer; segments = q.segments; source = q.source; next = q.next })

unfoldable pub places : (ℕ → Sum) → List Row → Queue → Queue
places how [] q = q
places how (r ∷ rs) q = places how rs (place how r q)

-- LOWER: the front's rows from the n-th on are a new first segment's
unfoldable pub lower_by : (ℕ → Sum) → (low high : List Row) → Queue → Queue
lower_by how xs [] q = q
lower_by how xs (y ∷ ys) q =
    record { front = xs; buffer = onto how (y ∷ ys) q.buffer; segments = record { low = y.at; index = nil; head = nil; level = 0 } ∷ q.segments; source = q.source; next = q.next }

abbrev pub lower : (ℕ → Sum) → ℕ → Queue → After
lower how n q = record { queue = lower_by how (take n q.front) (drop n q.front) q; writes = [] }

-- PACK: so many segments become an index page, one level up
unfoldable pub pack_by : (low mid high : List Seg) → Queue → After
pack_by ss [] us q = record { queue = q; writes = [] }
pack_by ss (t ∷ ts) us q =
    record {
      queue = record { front = q.front; buffer = q.buffer; segments = ss ++ (record { low = t.low; index = page q.next; head = nil; level = suc t.level } ∷ us); source = q.source; next = suc q.next };
      writes = record { number = q.next; content = IndexPage (t ∷ ts) } ∷ [];
    }

abbrev pub pack : (skip many : ℕ) → Queue → After
pack i k q = pack_by (take i q.segments) (take k (drop i q.segments)) (drop k (drop i q.segments)) q

-- SIFT: one page of the source
unfoldable pub sift_by : (ℕ → Sum) → Page → Queue → Queue
sift_by how Blank q = q
sift_by how (IndexPage ss) q = q
sift_by how (RowPage below rows) q = places how rows (record { front = q.front; buffer = q.buffer; segments = q.segments; source = below; next = q.next })

abbrev pub sift : (ℕ → Sum) → Page → Queue → After
sift how shown q = record { queue = sift_by how shown q; writes = [] }

-- UNPACK: the first segment is an index page
unfoldable pub unpack_by : Page → List Seg → Queue → Queue
unpack_by Blank ss q = q
unpack_by (RowPage b rs) ss q = q
unpack_by (IndexPage ts) [] q = q
unpack_by (IndexPage ts) (s ∷ ss) q = record { front = q.front; buffer = q.buffer; segments = ts ++ ss; source = s.head; next = q.next }

abbrev pub unpack : Page → Queue → After
unpack shown q = record { queue = unpack_by shown q.segments q; writes = [] }

-- OPEN: the first segment comes to the front
unfoldable pub open_by : (ℕ → Sum) → List Seg → Queue → Queue
open_by how [] q = q
open_by how (s ∷ ss) q = places how q.buffer (record { front = q.front; buffer = []; segments = ss; source = s.head; next = q.next })

abbrev pub open' : (ℕ → Sum) → Queue → After
open' how q = record { queue = open_by how q.segments q; writes = [] }

-- SPILL: rows of the buffer go into the pages of the n-th segment, as many as a page has at most
unfoldable pub below1 : List Seg → Key → Bool
below1 [] k = true
below1 (s ∷ ss) k = ltk k s.low

unfoldable pub is_of : ℕ → List Seg → Key → Bool
is_of i [] k = false
is_of zero (s ∷ ss) k = not (ltk k s.low) && below1 ss k
is_of (suc i) (s ∷ ss) k = is_of i ss k

-- the first few for which a test holds, and what is left
unfoldable pub pick : ℕ → (Key → Bool) → List Row → List Row
pick zero f rs = []
pick (suc n) f [] = []
pick (suc n) f (r ∷ rs) = cond (f r.at) (r ∷ pick n f rs) (pick (suc n) f rs)

unfoldable pub left : ℕ → (Key → Bool) → List Row → List Row
left zero f rs = rs
left (suc n) f [] = []
left (suc n) f (r ∷ rs) = cond (f r.at) (left n f rs) (r ∷ left (suc n) f rs)

pub record Spilled : Type 0 where
  pub segs : List Seg
  pub writes : List Write

-- two pages of a row page that is too full
unfoldable pub split_by : (n : ℕ) → Seg → (low high : List Row) → Spilled
split_by n s xs [] = record { segs = record { low = s.low; index = nil; head = page n; level = 0 } ∷ []; writes = record { number = n; content = RowPage nil xs } ∷ [] }
split_by n s xs (y ∷ ys) =
    record {
      segs = record { low = s.low; index = nil; head = page n; level = 0 } ∷ record { low = y.at; index = nil; head = page (suc n); level = 0 } ∷ [];
      writes = record { number = n; content = RowPage nil xs } ∷ record { number = suc n; content = RowPage nil (y ∷ ys) } ∷ [];
    }

abbrev pub one_page : (n : ℕ) → Seg → Link → List Row → Spilled
one_page n s below rows = record { segs = record { low = s.low; index = s.index; head = page n; level = s.level } ∷ []; writes = record { number = n; content = RowPage below rows } ∷ [] }

unfoldable pub too_full : (n : ℕ) → Seg → (index below : Link) → (rows moved : List Row) → Spilled
too_full n s nil nil rows moved = split_by n s (take (length rows / 2) rows) (drop (length rows / 2) rows)
too_full n s (page i) nil rows moved = one_page n s s.head moved
too_full n s i (page b) rows moved = one_page n s s.head moved

unfoldable pub merge_by : (size n : ℕ) → Seg → (below : Link) → (rows moved : List Row) → Spilled
merge_by size n s below rows moved = cond (nat_le (length rows) size) (one_page n s below rows) (too_full n s s.index below rows moved)

unfoldable pub spill_by : (ℕ → Sum) → (size n : ℕ) → Page → (head : Link) → Seg → List Row → Spilled
spill_by how size n shown nil s moved = one_page n s nil moved
spill_by how size n (RowPage below rows) (page h) s moved = merge_by size n s below (onto how moved rows) moved
spill_by how size n Blank (page h) s moved = one_page n s nil moved
spill_by how size n (IndexPage ss) (page h) s moved = one_page n s nil moved

unfoldable pub spill_at : (ℕ → Sum) → (size n : ℕ) → Page → ℕ → List Seg → List Row → Spilled
spill_at how size n shown i [] moved = record { segs = []; writes = [] }
spill_at how size n shown zero (s ∷ ss) moved = let r : Spilled = spill_by how size n shown s.head s moved in record { segs = r.segs ++ ss; writes = r.writes }
spill_at how size n shown (suc i) (s ∷ ss) moved = let r : Spilled = spill_at how size n shown i ss moved in record { segs = s ∷ r.segs; writes = r.writes }

abbrev pub spill : (ℕ → Sum) → (size i : ℕ) → Page → Queue → After
spill how size i shown q =
    let r : Spilled = spill_at how size q.next shown i q.segments (pick size (is_of i q.segments) q.buffer) in
    record { queue = record { front = q.front; buffer = left size (is_of i q.segments) q.buffer; segments = r.segs; source = q.source; next = q.next + length r.writes }; writes = r.writes }

-- what is shown: the page of a link, as the pages say
abbrev pub page_of : Pages → Link → Page
page_of f nil = Blank
page_of f (page n) = f n

unfoldable pub head_at : ℕ → List Seg → Link
head_at i [] = nil
head_at zero (s ∷ ss) = s.head
head_at (suc i) (s ∷ ss) = head_at i ss
