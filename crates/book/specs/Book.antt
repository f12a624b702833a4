-- When all boxes together are right for the logs.
-- Assumes nothing.
use Rattle.std.specs.Prelude.{◌≡◌, ℕ, zero, suc, ◌<◌, ◌≤◌, false, cond, List, [], ◌∷◌, ◌++◌, length, take, drop, ◌==◌}
use Rattle.streams.specs.Meaning.{Event, Entry, Plan, in_time, latest, out}
use Rattle.streams.specs.Calls.{empties, put_in}
use Rattle.book.specs.Queue.{Blank, Pages, written, page_of}
use Rattle.book.specs.Due.{Sizes, SizesOk, Sized, Sound}
use Rattle.book.specs.Ledger.{Served, LogBox, empty_log, batched, Taken, taken_of, Ledger, empty_ledger, watermark, took, is_old, Task, Rest, Want, wanted, shows_of, out_written, Turn, does}

-- what all boxes hold
pub record Book : Type 0 where
  pub ledger : Ledger
  pub log : ℕ → LogBox
  pub row : Pages
  pub out : ℕ → List Event

abbrev pub empty_book : (logs : ℕ) → Book
empty_book n = record { ledger = empty_ledger n; log = λ l. empty_log; row = λ n. Blank; out = λ t. [] }

-- A LOG BOX holds what came of the entries that were put into its log
pub record Holds (late : ℕ) (es : List Entry) (b : LogBox) : Type 0 where
  pub latest : b.latest ≡ Rattle.streams.specs.Meaning.latest 0 es
  pub entries : b.entries ≡ length es
  pub base : b.base ≤ length (in_time late 0 es)
  pub events : b.events ≡ drop b.base (in_time late 0 es)

-- A LOG IS TAKEN so far: up to the latest time that the ledger has of it, every event in time is taken
pub record TakenOf (late : ℕ) (es : List Entry) (t : Taken) : Type 0 where
  pub seen : List Entry
  pub rest : List Entry
  pub is : es ≡ seen ++ rest
  pub latest : t.latest ≡ Rattle.streams.specs.Meaning.latest 0 seen
  pub all : length (in_time late 0 seen) ≤ t.taken
  pub some : t.taken ≤ length (in_time late 0 es)

pub record LogRight (late : ℕ) (es : List Entry) (t : Taken) (b : LogBox) : Type 0 where
  pub holds : Holds late es b
  pub taken : TakenOf late es t
  pub base : b.base ≤ t.taken

-- all logs, from a number on
abbrev pub LogsRight : (late : ℕ) → (ℕ → LogBox) → (from : ℕ) → List (List Entry) → List Taken → Type 0
LogsRight late f l [] [] = Unit {0}
LogsRight late f l [] (t ∷ ts) = ⊥
LogsRight late f l (es ∷ ls) [] = ⊥
LogsRight late f l (es ∷ ls) (t ∷ ts) = LogRight late es t (f l) × LogsRight late f (suc l) ls ts

-- the events that are taken
abbrev pub taken_events : (late : ℕ) → List (List Entry) → List Taken → List Event
taken_events late [] ts = []
taken_events late (es ∷ ls) [] = []
taken_events late (es ∷ ls) (t ∷ ts) = take t.taken (in_time late 0 es) ++ taken_events late ls ts

-- WHAT CAME OUT: out pages, then the tail
unfoldable pub outs_of : (ℕ → List Event) → (pages : ℕ) → List Event
outs_of f zero = []
outs_of f (suc n) = outs_of f n ++ f n

abbrev pub came_out : Book → List Event
came_out s = outs_of s.out s.ledger.pages ++ s.ledger.tail

-- SOUND: the boxes are right for the logs
pub record SoundBook (z : Sizes) (p : Plan) (ls : List (List Entry)) (s : Book) : Type 0 where
  -- each log box is right for its log, and taken as the ledger says
  pub logs : LogsRight p.late s.log 0 ls s.ledger.logs
  -- the rows that the queue and its pages hold, with what came out, are what comes of the events that are taken; in order, all pages filled
  pub queue : Sound p.stages (watermark p.late s.ledger.logs) (taken_events p.late ls s.ledger.logs) s.row s.ledger.queue (came_out s)
  -- out pages are full
  pub full : (t : ℕ) → t < s.ledger.pages → length (s.out t) ≡ z.outs

-- plans that will do: a stage or more, windows of some size
pub record PlanFine (p : Plan) : Type 0 where
  pub some : 1 ≤ length p.stages
  pub sized : Sized p.stages

-- THE STEPS ON A BOOK
abbrev pub set_log : ℕ → LogBox → (ℕ → LogBox) → ℕ → LogBox
set_log l b f k = cond (k == l) b (f k)

unfoldable pub put_all : (log : ℕ) → List Entry → List (List Entry) → List (List Entry)
put_all l [] ls = ls
put_all l (e ∷ es) ls = put_all l es (put_in l e ls)

abbrev pub put_batch : Plan → (log floor worker : ℕ) → Served → List Entry → Book → Book
put_batch p l floor i s es x = record { ledger = x.ledger; log = set_log l (batched p.late floor i s es (x.log l)) x.log; row = x.row; out = x.out }

abbrev pub take_into : Sizes → Plan → (log : ℕ) → LogBox → Book → Book
take_into z p l b x = record { ledger = took z p.stages l b x.ledger; log = x.log; row = x.row; out = x.out }

-- a step that is due, with the page that it shows as it is, and its pages filled
abbrev pub turn_of : Sizes → Plan → Task → Book → Turn
turn_of z p k x = does z p k (page_of x.row (shows_of k x.ledger)) x.ledger

abbrev pub after_turn : Turn → Book → Book
after_turn t x = record { ledger = t.ledger; log = x.log; row = written t.rows x.row; out = out_written t.outs x.out }

-- an old box of a log: what it held after some of the entries
pub record HeldOnce (late : ℕ) (es : List Entry) (b : LogBox) : Type 0 where
  pub seen : List Entry
  pub rest : List Entry
  pub is : es ≡ seen ++ rest
  pub holds : Holds late seen b

unfoldable pub log_of : {A : Type 0} → ℕ → List (List A) → List A
log_of l [] = []
log_of zero (es ∷ ls) = es
log_of (suc l) (es ∷ ls) = log_of l ls

-- THE THEOREMS
-- 1. empty boxes are right for empty logs
abbrev pub SoundFirst : Type 0
SoundFirst = (z : Sizes) (p : Plan) (logs : ℕ) → SoundBook z p (empties logs) (empty_book logs)

-- 2. a batch, with what is known to be taken let go: right for the logs with those entries, late ones too
abbrev pub SoundBatch : Type 0
SoundBatch = (z : Sizes) (p : Plan) (ls : List (List Entry)) (x : Book) (l floor i : ℕ) (s : Served) (es : List Entry) → SoundBook z p ls x → l < length ls → floor ≤ (taken_of l x.ledger.logs).taken → SoundBook z p (put_all l es ls) (put_batch p l floor i s es x)

-- 3. taking, from a log's box as it is or as it was; and what is due
abbrev pub SoundTake : Type 0
SoundTake = (z : Sizes) (p : Plan) (ls : List (List Entry)) (x : Book) (l : ℕ) (b : LogBox) → PlanFine p → SoundBook z p ls x → l < length ls → HeldOnce p.late (log_of l ls) b → is_old l b x.ledger ≡ false → SoundBook z p ls (take_into z p l b x)

abbrev pub SoundTurn : Type 0
SoundTurn = (z : Sizes) → SizesOk z → (p : Plan) → PlanFine p → (ls : List (List Entry)) (x : Book) (k : Task) → SoundBook z p ls x → wanted z p.late x.ledger ≡ Want k → SoundBook z p ls (after_turn (turn_of z p k x) x)

-- 4. what came out is a first part of what comes out of the logs; and all of it, when all logs are taken and nothing is due
abbrev pub FirstOfOut : Type 0
FirstOfOut = (z : Sizes) (p : Plan) → PlanFine p → (ls : List (List Entry)) (x : Book) → SoundBook z p ls x → (more : List Event) × (out p ls ≡ came_out x ++ more)

-- all that is in the logs is taken, with its latest time
abbrev pub AllTaken : (late : ℕ) → List (List Entry) → List Taken → Type 0
AllTaken late [] ts = Unit {0}
AllTaken late (es ∷ ls) [] = ⊥
AllTaken late (es ∷ ls) (t ∷ ts) = (t.taken ≡ length (in_time late 0 es)) × (t.latest ≡ latest 0 es) × AllTaken late ls ts

abbrev pub AllOut : Type 0
AllOut = (z : Sizes) (p : Plan) (ls : List (List Entry)) (x : Book) → SoundBook z p ls x → AllTaken p.late ls x.ledger.logs → wanted z p.late x.ledger ≡ Rest → came_out x ≡ out p ls
