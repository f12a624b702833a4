-- What a queue holds: the same queue with the rows that lie in pages beside the pages' numbers. Steps of the queue are steps of this.
-- Assumes nothing.
use Rattle.std.specs.Prelude.{◌≡◌, ℕ, suc, ◌+◌, ◌<◌, ◌≤◌, List, [], ◌∷◌, ◌++◌, length}
use Rattle.streams.specs.Meaning.{Sum}
use Rattle.book.specs.Rows.{Key, Row, Bef, Upto, Each, Sorted, onto}
use Rattle.book.specs.Queue.{Link, nil, page, Seg, RowPage, IndexPage, Pages, Queue, Write, After, written}

pub record Paged : Type 0 where
  pub number : ℕ
  pub rows : List Row

-- segments by rising low: without an index page, or with one and the segments in it
pub data Segs : Type 0 where
  none : Segs
  plain : (low : Key) → (chain : List Paged) → (above : Segs) → Segs
  packed : (low : Key) → (number : ℕ) → (inner : Segs) → (chain : List Paged) → (above : Segs) → Segs

pub record Held : Type 0 where
  pub front : List Row
  pub buffer : List Row
  pub segs : Segs
  pub source : List Paged
  pub next : ℕ

-- THE QUEUE THAT IT IS
abbrev pub head_of : List Paged → Link
head_of [] = nil
head_of (p ∷ ps) = page p.number

-- the level of the first segment: how deep index pages are nested in it
abbrev pub level_of : Segs → ℕ
level_of none = 0
level_of (plain low c ss) = 0
level_of (packed low n inner c ss) = suc (level_of inner)

abbrev pub heads : Segs → List Seg
heads none = []
heads (plain low c ss) = record { low = low; index = nil; head = head_of c; level = 0 } ∷ heads ss
heads (packed low n inner c ss) = record { low = low; index = page n; head = head_of c; level = suc (level_of inner) } ∷ heads ss

abbrev pub queue_of : Held → Queue
queue_of h = record { front = h.front; buffer = h.buffer; segments = heads h.segs; source = head_of h.source; next = h.next }

-- THE PAGES SAY SO, and their numbers are below the next
abbrev pub ChainIn : Pages → (next : ℕ) → List Paged → Type 0
ChainIn f n [] = Unit {0}
ChainIn f n (p ∷ ps) = (p.number < n) × (f p.number ≡ RowPage (head_of ps) p.rows) × ChainIn f n ps

abbrev pub SegsIn : Pages → (next : ℕ) → Segs → Type 0
SegsIn f n none = Unit {0}
SegsIn f n (plain low c ss) = ChainIn f n c × SegsIn f n ss
SegsIn f n (packed low m inner c ss) = (m < n) × (f m ≡ IndexPage (heads inner)) × ChainIn f n c × SegsIn f n inner × SegsIn f n ss

abbrev pub HeldIn : Pages → Held → Type 0
HeldIn f h = SegsIn f h.next h.segs × ChainIn f h.next h.source

-- WHAT IS IN IT
abbrev pub chain_rows : List Paged → List Row
chain_rows [] = []
chain_rows (p ∷ ps) = p.rows ++ chain_rows ps

abbrev pub under : Segs → List Row
under none = []
under (plain low c ss) = chain_rows c ++ under ss
under (packed low n inner c ss) = chain_rows c ++ (under inner ++ under ss)

abbrev pub contents : (ℕ → Sum) → Held → List Row
contents how h = onto how h.front (onto how h.buffer (onto how (under h.segs) (onto how (chain_rows h.source) [])))

-- ITS ORDER. Below the first low, or what else is the limit; at the first low or above
abbrev pub Till : (Key → Type 0) → Segs → Key → Type 0
Till P none k = P k
Till P (plain low c ss) k = Bef k low
Till P (packed low n inner c ss) k = Bef k low

abbrev pub Free : Key → Type 0
Free k = Unit {0}

abbrev pub Under : Segs → Key → Type 0
Under ss k = Till Free ss k

abbrev pub Over : Segs → Key → Type 0
Over none k = ⊥
Over (plain low c ss) k = Upto low k
Over (packed low n inner c ss) k = Upto low k

abbrev pub ChainOk : (Key → Type 0) → List Paged → Type 0
ChainOk P [] = Unit {0}
ChainOk P (p ∷ ps) = Sorted p.rows × Each P p.rows × ChainOk P ps

abbrev pub FirstIs : Segs → Key → Type 0
FirstIs none k = ⊥
FirstIs (plain low c ss) k = low ≡ k
FirstIs (packed low n inner c ss) k = low ≡ k

-- rows of a segment: at its low or above, and below the next one's, or below the limit
abbrev pub Within : (Key → Type 0) → Key → Segs → Key → Type 0
Within P low ss k = Upto low k × Till P ss k

abbrev pub SegsOk : (Key → Type 0) → Segs → Type 0
SegsOk P none = Unit {0}
SegsOk P (plain low c ss) = ChainOk (Within P low ss) c × Till P ss low × SegsOk P ss
SegsOk P (packed low n inner c ss) = ChainOk (Within P low ss) c × Till P ss low × SegsOk P ss × FirstIs inner low × SegsOk (Till P ss) inner

pub record Order (h : Held) : Type 0 where
  pub front : Sorted h.front
  pub buffer : Sorted h.buffer
  pub below : Each (Under h.segs) h.front
  pub above : Each (Over h.segs) h.buffer
  pub segs : SegsOk Free h.segs

-- pages that are written have new numbers
abbrev pub Fresh : (from to : ℕ) → List Write → Type 0
Fresh n m [] = n ≤ m
Fresh n m (w ∷ ws) = (n ≤ w.number) × (w.number < m) × Fresh n m ws

-- LIVE: each low of a segment without an index page is of a kind, as the key of a row that is held
abbrev pub Alive : (Key → Type 0) → Segs → Type 0
Alive P none = Unit {0}
Alive P (plain low c ss) = P low × Alive P ss
Alive P (packed low n inner c ss) = Alive P inner × Alive P ss

-- LEAN: no page is without rows, and in an index page there are two segments or more
abbrev pub Full : List Paged → Type 0
Full [] = Unit {0}
Full (p ∷ ps) = (1 ≤ length p.rows) × Full ps

abbrev pub LeanSegs : Segs → Type 0
LeanSegs none = Unit {0}
LeanSegs (plain low c ss) = Full c × LeanSegs ss
LeanSegs (packed low n inner c ss) = Full c × LeanSegs ss × (2 ≤ length (heads inner)) × LeanSegs inner

pub record Lean (h : Held) : Type 0 where
  pub segs : LeanSegs h.segs
  pub source : Full h.source

-- how many rows lie in all places
abbrev pub rows_of : Held → ℕ
rows_of h = length h.front + length h.buffer + length (under h.segs) + length (chain_rows h.source)

-- A STEP KEEPS WHAT IS HELD
pub record Kept (how : ℕ → Sum) (f : Pages) (h : Held) (a : After) (src : List Paged) (below : Key → Type 0) (top : ℕ) : Type 1 where
  pub held : Held
  pub is : a.queue ≡ queue_of held
  pub pages : HeldIn (written a.writes f) held
  pub same : contents how held ≡ contents how h
  pub order : Order held
  pub fresh : Fresh h.next held.next a.writes
  pub lean : Lean h → Lean held
  pub few : rows_of held ≤ rows_of h
  -- for the end of it all
  pub source : held.source ≡ src
  pub low : (k : Key) → below k → Under held.segs k
  pub level : level_of held.segs ≤ top
  pub live : (P : Key → Type 0) → Each P (contents how h) → Alive P h.segs → Alive P held.segs
