-- A spill, by a buffer and segments in memory before and after it, whatever front and source their queue has.
-- Assumes nothing.
use Rattle.std.specs.Prelude.{◌≡◌, ℕ, suc, ◌+◌, List, [], ◌++◌, length, take, drop, slice_index_or}
use Rattle.streams.specs.Meaning.{Sum}
use Rattle.book.specs.Rows.{Row}
use Rattle.book.specs.Queue as book
use Rattle.rows.specs.Model.{rows_of}
use Rattle.segs.specs.Model.{seg_in, segs_of}
use Rattle.spills.specs.declared.pages.Spilt.{Spilt}
use Rattle.spills.specs.Model.{spilt_of}

abbrev pub queue_with : (front : List Row) → (source : book.Link) → (next : ℕ) → (buffer slots : List (List ℕ)) → book.Queue
queue_with f s n b slots = record { front = f; buffer = rows_of b; segments = segs_of slots; source = s; next = n }

-- in place of the i-th segment, s, stand those that it became, and the next page's number is behind those of the pages
pub record LinksSlots (i : ℕ) (s : book.Seg) (r : Spilt) (upper : List Row) (n : ℕ) (old new : List (List ℕ)) (m : ℕ) : Type 0 where
  pub segments : (out : List Row) → segs_of new ≡ take i (segs_of old) ++ ((spilt_of n s out upper r).segs ++ drop (suc i) (segs_of old))
  pub next : (out : List Row) → m ≡ n + length (spilt_of n s out upper r).writes

pub record SpillsSlots (how : ℕ → Sum) (size i : ℕ) (shown : book.Page) (n : ℕ) (buffer slots : List (List ℕ)) (m : ℕ) (buffer' slots' : List (List ℕ)) (out upper : List Row) (r : Spilt) : Type 0 where
  pub queue : (f : List Row) (l : book.Link) → queue_with f l m buffer' slots' ≡ (book.spill how size i shown (queue_with f l n buffer slots)).queue
  pub writes : (f : List Row) (l : book.Link) → (book.spill how size i shown (queue_with f l n buffer slots)).writes ≡ (spilt_of n (seg_in (slice_index_or slots i [])) out upper r).writes
