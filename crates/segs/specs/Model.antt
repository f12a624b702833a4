-- What the values of the code, and the words of segments in memory, stand for in the definitions of the book.
-- Assumes nothing.
use Rattle.std.specs.Prelude.{◌≡◌, ℕ, List, suc, ◌<◌, map, slice_index, Option, Some, None}
use Rattle.streams.specs.Meaning.{top}
use Rattle.book.specs.Queue as book
use Rattle.book.specs.Words.{link_of}
use Rattle.rows.specs.Model.{key_of}
use Rattle.segs.specs.declared.segment.PageNumber.{PageNumber}
use Rattle.segs.specs.declared.segment.Segment.{Segment}

abbrev pub page_link : Option PageNumber → book.Link
page_link None = book.nil
page_link (Some n) = book.page n.0

-- a page's number, and one, is a word
abbrev pub LinkFits : Option PageNumber → Type 0
LinkFits None = Unit {0}
LinkFits (Some n) = suc n.0 < top

abbrev pub seg_of : Segment → book.Seg
seg_of s = record { low = key_of s.low; index = page_link s.index; head = page_link s.head; level = s.level.0 }

-- the segment in its words, and all segments in memory
abbrev pub seg_in : List ℕ → book.Seg
seg_in ws = record {
  low = record { end = slice_index ws 0; stage = slice_index ws 1; key = slice_index ws 2 };
  index = link_of (slice_index ws 3);
  head = link_of (slice_index ws 4);
  level = slice_index ws 5;
}

abbrev pub segs_of : List (List ℕ) → List book.Seg
segs_of slots = map seg_in slots

-- the segment is the one in the words, and fits words again
pub record IsIn (words : List ℕ) (s : Segment) : Type 0 where
  pub is : seg_of s ≡ seg_in words
  pub index : LinkFits s.index
  pub head : LinkFits s.head
