-- The limits of the book's numbers and pages: what fits, and for how many steps.
-- Assumes nothing.
use Rattle.std.specs.Prelude.{ℕ, suc, ◌+◌, ◌*◌, ◌<◌, ◌≤◌, T, List, [], ◌∷◌, length}
use Rattle.streams.specs.Meaning.{Event, Entry, Stage, Plan, top}
use Rattle.streams.specs.Calls.{entry_ok}
use Rattle.book.specs.Rows.{Key, Row}
use Rattle.book.specs.Queue.{Seg, Page, Blank, RowPage, IndexPage, Queue, Write}
use Rattle.book.specs.Due.{Sizes}
use Rattle.book.specs.Words.{link_word, Filled}
use Rattle.book.specs.Book.{Book}

-- times that are put in are below 2 to the 62; each stage adds a window of at most 2 to the 40
abbrev pub time_top : (stage : ℕ) → ℕ
time_top s = 4611686018427387904 + 1099511627776 * s

abbrev pub KeyFit : Key → Type 0
KeyFit k = (k.stage < 8) × (k.end ≤ time_top (suc k.stage)) × (k.key < top)

abbrev pub RowsFit : List Row → Type 0
RowsFit [] = Unit {0}
RowsFit (r ∷ rs) = KeyFit r.at × (r.value < top) × RowsFit rs

-- an event that comes to a stage
abbrev pub EventFit : (stage : ℕ) → Event → Type 0
EventFit s e = (e.time < time_top s) × (e.key < top) × (e.value < top)

abbrev pub EventsFit : (stage : ℕ) → List Event → Type 0
EventsFit s [] = Unit {0}
EventsFit s (e ∷ es) = EventFit s e × EventsFit s es

-- page numbers and levels up to so many
abbrev pub SegFit : ℕ → Seg → Type 0
SegFit c s = KeyFit s.low × (link_word s.index ≤ c) × (link_word s.head ≤ c) × (s.level ≤ c)

abbrev pub SegsFit : ℕ → List Seg → Type 0
SegsFit c [] = Unit {0}
SegsFit c (s ∷ ss) = SegFit c s × SegsFit c ss

abbrev pub PageFit : Sizes → ℕ → Page → Type 0
PageFit z c Blank = Unit {0}
PageFit z c (RowPage below rs) = (link_word below ≤ c) × RowsFit rs × (length rs ≤ z.rows)
PageFit z c (IndexPage ss) = SegsFit c ss × (length ss ≤ z.segments)

abbrev pub WritesFit : Sizes → ℕ → List Write → Type 0
WritesFit z c [] = Unit {0}
WritesFit z c (w ∷ ws) = PageFit z c w.content × Filled w.content × WritesFit z c ws

pub record QueueFit (c : ℕ) (q : Queue) : Type 0 where
  pub front : RowsFit q.front
  pub buffer : RowsFit q.buffer
  pub segments : SegsFit c q.segments
  pub source : link_word q.source ≤ c
  pub next : suc q.next ≤ c

abbrev pub StagesFit : List Stage → Type 0
StagesFit [] = Unit {0}
StagesFit (st ∷ sts) = (0 < st.size) × (st.size ≤ 1099511627776) × StagesFit sts

abbrev pub EntriesFit : List Entry → Type 0
EntriesFit [] = Unit {0}
EntriesFit (e ∷ es) = T (entry_ok e) × EntriesFit es

abbrev pub LogsFit : List (List Entry) → Type 0
LogsFit [] = Unit {0}
LogsFit (l ∷ ls) = EntriesFit l × LogsFit ls

abbrev pub total : List (List Entry) → ℕ
total [] = 0
total (l ∷ ls) = length l + total ls

-- AFTER AT MOST SO MANY STEPS
pub record Fits (z : Sizes) (n : ℕ) (ls : List (List Entry)) (x : Book) : Type 0 where
  pub entries : LogsFit ls
  pub count : length ls ≤ 256
  pub many : total ls ≤ 8 * n
  pub queue : QueueFit (4 * n + 4) x.ledger.queue
  pub pages : (k : ℕ) → PageFit z (4 * n + 4) (x.row k)
  pub outs : x.ledger.pages ≤ n
  pub tail : EventsFit 8 x.ledger.tail
  pub long : length x.ledger.tail ≤ z.emits * n

-- sizes and plans that will do
pub record SizesSmall (z : Sizes) : Type 0 where
  pub emits : z.emits ≤ 128
  pub rows : z.rows ≤ 4096
  pub segments : z.segments ≤ 4096
  pub outs : z.outs ≤ 4096

pub record PlanSmall (p : Plan) : Type 0 where
  pub few : length p.stages ≤ 8
  pub stages : StagesFit p.stages
