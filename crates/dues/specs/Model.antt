-- What the values of the code stand for in the definitions of the book.
-- Assumes nothing.
use Rattle.std.specs.Prelude.{◌≡◌, ℕ, ◌+◌, ◌<◌, ◌≤◌, List, [], length, Some, None, Option}
use Rattle.book.specs.Rows.{Row}
use Rattle.book.specs.Queue.{Seg, Queue, page, head_at}
use Rattle.book.specs.Due as book
use Rattle.rows.specs.Segments.{IsRange}
use Rattle.segs.specs.declared.segment.PageNumber.{PageNumber}
use Rattle.segs.specs.Model.{page_link}
use Rattle.dues.specs.declared.Fullest.{Fullest}
use Rattle.dues.specs.declared.Step.{Step}
use Rattle.dues.specs.declared.Step.TheVariants.{Pack, Spill, Lower, Sift, Emit, Unpack, Open}

abbrev pub step_of : Step → book.Step
step_of (Pack v) = book.Pack v.0
step_of (Spill f) = book.Spill f.number
step_of Lower = book.Lower
step_of (Sift n) = book.Sift
step_of Emit = book.Emit
step_of (Unpack n) = book.Unpack
step_of Open = book.Open

abbrev pub as_due : Option Step → book.Due
as_due None = book.Nothing
as_due (Some s) = book.Do (step_of s)

-- the fullest of segments, of which the first is the one with that number
pub record Fills (first : ℕ) (ss : List Seg) (rs : List Row) (f : Fullest) : Type 0 where
  pub number : f.number ≡ first + (book.fullest ss rs).number
  pub range : IsRange f.range (book.fullest ss rs).number ss
  pub head : page_link f.head ≡ head_at (book.fullest ss rs).number ss

abbrev pub IsFullest : (first : ℕ) → List Seg → List Row → Option Fullest → Type 0
IsFullest i ss rs None = ss ≡ []
IsFullest i ss rs (Some f) = Fills i ss rs f

-- what whoever does the step has to know: which segments there are, and the page that is shown
abbrev pub Knows : Queue → Step → Type 0
Knows q (Pack v) = 1 ≤ book.at_level v.0 q.segments
Knows q (Spill f) = (f.number < length q.segments) × IsRange f.range f.number q.segments × (page_link f.head ≡ book.shows (book.Spill f.number) q)
Knows q Lower = Unit {0}
Knows q (Sift n) = page n.0 ≡ book.shows book.Sift q
Knows q Emit = Unit {0}
Knows q (Unpack n) = (1 ≤ length q.segments) × (page n.0 ≡ book.shows book.Unpack q)
Knows q Open = 1 ≤ length q.segments

abbrev pub Carries : Queue → Option Step → Type 0
Carries q None = Unit {0}
Carries q (Some s) = Knows q s

-- the page that it shows, of a queue of which it knows so
abbrev pub Shows : Step → Option PageNumber → Type 0
Shows s n = (q : Queue) → Knows q s → page_link n ≡ book.shows (step_of s) q
