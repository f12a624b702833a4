-- A step done on a queue, with the page that is shown for it, if one is.
-- Assumes nothing.
use Rattle.std.specs.Prelude.{◌≡◌, ℕ, suc, ◌≤◌, ◌⊎◌, List, [], length, Option, Ok, Err, Result}
use Rattle.streams.specs.Meaning.{Sum, top}
use Rattle.book.specs.Rows.{Row, Sorted}
use Rattle.book.specs.Queue as book
use Rattle.book.specs.Words.{Maybe, nothing, just}
use Rattle.segs.specs.Model.{page_link}
use Rattle.spills.specs.declared.pages.Shown.{Shown as Page}
use Rattle.queue.specs.declared.Queue.{Queue}
use Rattle.queue.specs.Model.{queue_of}
use Rattle.contents.specs.declared.page.PageView.{PageView}
use Rattle.contents.specs.Model.{maybe_of, page_of}
use Rattle.turns.specs.declared.plates.Beyond.{Beyond}
use Rattle.turns.specs.declared.plates.Beyond.TheVariants.{Shown, Numbers}
use Rattle.turns.specs.declared.plates.Written.{Written}
use Rattle.turns.specs.declared.plates.Written.TheVariants.{Nothing}
use Rattle.turns.specs.Model.{HasRoom, NoOut, pages_written}

-- by the page that is shown; with none nothing is done
abbrev pub on_shown : {A : Type 0} → A → (book.Page → A) → Maybe book.Page → A
on_shown a f nothing = a
on_shown a f (just g) = f g

abbrev pub as_shown : Option PageView → Maybe book.Page
as_shown = maybe_of page_of

-- the page is one that a step on rows can be done with
abbrev pub RowsFit : (size : ℕ) → Maybe book.Page → Type 0
RowsFit z nothing = ⊥
RowsFit z (just book.Blank) = ⊥
RowsFit z (just (book.RowPage below rows)) = (length rows ≤ z) × Sorted rows
RowsFit z (just (book.IndexPage ss)) = ⊥

-- its rows are placed, if it is a row page of no more rows than a page should have
abbrev pub Sifted : (ℕ → Sum) → (size : ℕ) → Maybe book.Page → (old new : Queue) → Result Written Beyond → Type 0
Sifted how z shown old new (Ok w) = (w ≡ Nothing) × (queue_of new ≡ on_shown (queue_of old) (λ g. (book.sift how g (queue_of old)).queue) shown)
Sifted how z shown old new (Err b) = (b ≡ Shown) × (RowsFit z shown → ⊥) × (new ≡ old)

-- the segments of the page that is shown are there, if it is an index page; or there is no room for them, and the queue is as it was
abbrev pub segments_shown : Maybe book.Page → List book.Seg
segments_shown nothing = []
segments_shown (just book.Blank) = []
segments_shown (just (book.RowPage below rows)) = []
segments_shown (just (book.IndexPage ss)) = ss

abbrev pub UnpackedBy : Maybe book.Page → (old new : Queue) → Result Written Beyond → Type 0
UnpackedBy shown old new (Ok w) = (w ≡ Nothing) × (queue_of new ≡ on_shown (queue_of old) (λ g. (book.unpack g (queue_of old)).queue) shown)
UnpackedBy shown old new (Err b) = HasRoom (length (segments_shown shown)) old.segments (Err b) × (new ≡ old)

-- a page with sorted rows, no more than it should have
abbrev pub SortedPage : (size : ℕ) → book.Page → Result Page Beyond → Type 0
SortedPage z g (Ok s) = (g ≡ book.RowPage (page_link s.below) s.rows) × (length s.rows ≤ z)
SortedPage z g (Err b) = (b ≡ Shown) × (RowsFit z (just g) → ⊥)

abbrev pub IsPage : book.Link → Type 0
IsPage book.nil = ⊥
IsPage (book.page n) = Unit {0}

-- by the first page of the segment, if it has one
abbrev pub spilled_by : (ℕ → Sum) → (size i : ℕ) → (head : book.Link) → Maybe book.Page → book.Queue → book.After
spilled_by how z i book.nil shown q = book.spill how z i book.Blank q
spilled_by how z i (book.page n) shown q = on_shown (record { queue = q; writes = [] }) (λ g. book.spill how z i g q) shown

-- rows of the buffer are in the segment's pages; or the page is none that this can be done with, or there is no room for one segment more, or for page numbers, and the queue is as it was
abbrev pub SpilledBy : (ℕ → Sum) → (size i : ℕ) → (head : book.Link) → Maybe book.Page → (old new : Queue) → (out upper : List Row) → Result Written Beyond → Type 0
SpilledBy how z i head shown old new out upper (Ok w) = NoOut w × (queue_of new ≡ (spilled_by how z i head shown (queue_of old)).queue) × ((index : List book.Seg) → pages_written w out upper index ≡ (spilled_by how z i head shown (queue_of old)).writes)
SpilledBy how z i head shown old new out upper (Err b) = (((b ≡ Shown) × IsPage head × (RowsFit z shown → ⊥)) ⊎ HasRoom 1 old.segments (Err b) ⊎ ((b ≡ Numbers) × (top ≤ suc (suc old.next.0)))) × (new ≡ old)
