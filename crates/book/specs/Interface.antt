-- What a worker needs of the book, and nothing else: operations on bytes, and laws about boxes as they are now. There is no history in it, no machine, and nothing of workers but their tags.
-- Assumes nothing.
use Rattle.std.specs.Prelude.{◌≡◌, ℕ, suc, ◌+◌, ◌<◌, ◌≤◌, Bool, true, ◌&&◌, T, List, [], length, ◌≢◌, nat_le}
use mathlib.Core.List.{Memᴰ}
use Rattle.streams.specs.Meaning.{Event, Entry, Plan, out}
use Rattle.streams.specs.Calls.{entry_ok, empties, drop_of, first_of}
use Rattle.streams.specs.Hands.{Box, at, all_bytes}
use Rattle.book.specs.Ledger.{log_box}
use Rattle.book.specs.Book.{put_all}

-- the steps of a run of which anything is promised
abbrev pub horizon : ℕ
horizon = 72057594037927936

-- THE OPERATIONS
pub data Gives : Type 0 where
  lacks : Gives
  gives : List ℕ → Gives

-- what a ledger calls for: nothing; a step; a step that shows a box first
pub data Calls : Type 0 where
  nothing : Calls
  alone : Calls
  with_page : ℕ → Calls

-- to answer, a page must be shown first; or this is the answer
pub data Next : Type 0 where
  page : ℕ → Next
  reply : List Event → Next

pub record Filling : Type 0 where
  pub box : ℕ
  pub bytes : List ℕ

pub record Ops : Type 0 where
  -- is the batch in, by what a log's box holds
  pub has : List ℕ → (me life serial : ℕ) → Bool
  -- a log's box with a batch added, if there is room; floor: what was seen taken of each log
  pub adds : (floor : List ℕ) → (me life serial log : ℕ) → List ℕ → List Entry → Gives
  pub raise : (ledger floor : List ℕ) → List ℕ
  pub due : (ledger : List ℕ) → Calls
  pub after : (ledger shown : List ℕ) → List ℕ
  pub pages : (ledger shown : List ℕ) → List Filling
  -- the ledger with what is new in a log's box; lacks: the ledger is an old one
  pub take : (ledger : List ℕ) → (log : ℕ) → (box : List ℕ) → Gives
  pub differs : List ℕ → List ℕ → Bool
  pub answer : (from most : ℕ) → (ledger : List ℕ) → List Event → Next
  pub more : (from most : ℕ) → (ledger : List ℕ) → List Event → (page : List ℕ) → List Event

-- a box that is neither the ledger nor a log's
abbrev pub IsPage : ℕ → Type 0
IsPage b = (b ≢ 0) × ((l : ℕ) → b ≢ log_box l)

-- the page that is called for, as it is
abbrev pub Now : (ℕ → Box) → Calls → (shown : List ℕ) → Type 0
Now f nothing x = ⊥
Now f alone x = x ≡ []
Now f (with_page b) x = (f b).bytes ≡ x

-- what was gathered for an answer, page by page
pub data Gathered (o : Ops) (Must : ℕ → List ℕ → Type 0) (from most : ℕ) (ledger : List ℕ) : List Event → Type 0 where
  no_page : Gathered o Must from most ledger []
  one_page : {got : List Event} (b : ℕ) (x : List ℕ) → Gathered o Must from most ledger got → o.answer from most ledger got ≡ page b → Must b x → Gathered o Must from most ledger (o.more from most ledger got x)

-- a worker, one of 64, in a life, with a batch, not before the first
pub record Tag (n i c s : ℕ) : Type 0 where
  pub worker : i < 64
  pub life : c < 18446744073709551616
  pub from : 1 ≤ s
  pub upto : s ≤ n

-- what stays true of old contents, and of pages, when a box is filled
pub record Stays (OldLedger : List (List Entry) → (ℕ → Box) → List ℕ → Type 0) (OldLog : List (List Entry) → (ℕ → Box) → ℕ → List ℕ → Type 0) (Floor : List (List Entry) → (ℕ → Box) → List ℕ → Type 0) (Spent : List ℕ → ℕ → Type 0)
    (ls : List (List Entry)) (f : ℕ → Box) (ls' : List (List Entry)) (f' : ℕ → Box) : Type 0 where
  pub ledger : (x : List ℕ) → OldLedger ls f x → OldLedger ls' f' x
  pub log : (l : ℕ) (x : List ℕ) → OldLog ls f l x → OldLog ls' f' l x
  pub floor : (x : List ℕ) → Floor ls f x → Floor ls' f' x
  pub spent : (b : ℕ) → Spent (f 0).bytes b → Spent (f' 0).bytes b

-- THE LAWS, of
--   Sound: the boxes are right for the logs, after at most so many steps, of which so many are right
--   OldLedger, OldLog, Floor: of the logs and boxes as they are, an old ledger, an old box of a log, a floor not above what is taken
--   Spent: the ledger is past the step that wrote that page
pub record Laws (o : Ops) (p : Plan) (logs bound : ℕ) (Sound : ℕ → List (List Entry) → (ℕ → Box) → Type 0) (OldLedger : List (List Entry) → (ℕ → Box) → List ℕ → Type 0) (OldLog : List (List Entry) → (ℕ → Box) → ℕ → List ℕ → Type 0) (Floor : List (List Entry) → (ℕ → Box) → List ℕ → Type 0)
    (Spent : List ℕ → ℕ → Type 0) : Type 0 where
  pub ledger_now : {n : ℕ} {ls : List (List Entry)} {f : ℕ → Box} → Sound n ls f → OldLedger ls f (f 0).bytes
  pub log_now : {n : ℕ} {ls : List (List Entry)} {f : ℕ → Box} → Sound n ls f → (l : ℕ) → OldLog ls f l (f (log_box l)).bytes
  pub floor_none : (ls : List (List Entry)) (f : ℕ → Box) → Floor ls f []
  pub floor_raise : (ls : List (List Entry)) (f : ℕ → Box) (fl x : List ℕ) → OldLedger ls f x → Floor ls f fl → Floor ls f (o.raise x fl)
  pub starts : Sound 0 (empties logs) (λ b. record { edition = 0; bytes = [] })
  pub later : {n : ℕ} {ls : List (List Entry)} {f : ℕ → Box} → Sound n ls f → Sound (suc n) ls f
  -- pages
  pub due_page : (x : List ℕ) (b : ℕ) → o.due x ≡ with_page b → IsPage b
  pub pages_page : (x y : List ℕ) (a : Filling) → Memᴰ a (o.pages x y) → IsPage a.box
  pub answer_page : (from most : ℕ) (x : List ℕ) (got : List Event) (b : ℕ) → o.answer from most x got ≡ page b → IsPage b
  pub pages_one : (x y : List ℕ) (a b : Filling) → Memᴰ a (o.pages x y) → Memᴰ b (o.pages x y) → a.box ≡ b.box → a.bytes ≡ b.bytes
  pub spent_filled : {n : ℕ} {ls : List (List Entry)} {f : ℕ → Box} → Sound n ls f → (b : ℕ) → Spent (f 0).bytes b → IsPage b × (1 ≤ (f b).edition)
  pub due_spent : {n : ℕ} {ls : List (List Entry)} {f : ℕ → Box} → Sound n ls f → (b : ℕ) → o.due (f 0).bytes ≡ with_page b → Spent (f 0).bytes b
  pub pages_new : {n : ℕ} {ls : List (List Entry)} {f : ℕ → Box} → Sound n ls f → (x : List ℕ) → Now f (o.due (f 0).bytes) x → (a : Filling) → Memᴰ a (o.pages (f 0).bytes x) → (Spent (f 0).bytes a.box → ⊥) × T (nat_le (length a.bytes) 1048576 && all_bytes a.bytes)
  pub answer_spent : {n : ℕ} {ls : List (List Entry)} {f : ℕ → Box} → Sound n ls f → (from most : ℕ) (x : List ℕ) (got : List Event) (b : ℕ) → OldLedger ls f x → o.answer from most x got ≡ page b → Spent (f 0).bytes b
  -- served
  pub has_none : (i c s : ℕ) → 1 ≤ s → o.has [] i c s ≢ true
  pub has_new : (ls : List (List Entry)) (f : ℕ → Box) (n i c s l : ℕ) (fl old bs : List ℕ) (es : List Entry) → n < bound → l < logs → OldLog ls f l old → Tag n i c s → o.adds fl i c s l old es ≡ gives bs → o.has bs i c s ≡ true
  pub has_mine : (ls : List (List Entry)) (f : ℕ → Box) (n i c s l : ℕ) (fl old bs : List ℕ) (es : List Entry) → n < bound → l < logs → OldLog ls f l old → Tag n i c s → o.adds fl i c s l old es ≡ gives bs → (d t : ℕ) → 1 ≤ t → o.has bs i d t ≡ true → (d ≡ c) × (t ≡ s)
  pub has_other : (ls : List (List Entry)) (f : ℕ → Box) (n i c s l : ℕ) (fl old bs : List ℕ) (es : List Entry) → n < bound → l < logs → OldLog ls f l old → Tag n i c s → o.adds fl i c s l old es ≡ gives bs → (j d t : ℕ) → (j ≢ i) → o.has bs j d t ≡ o.has old j d t
  -- the fillings
  pub put_ok : {n : ℕ} {ls : List (List Entry)} {f : ℕ → Box} (i c s l e : ℕ) (fl bs : List ℕ) (es : List Entry) → n < bound → Sound n ls f → l < logs → Floor ls f fl → Tag n i c s → ((x : Entry) → Memᴰ x es → T (entry_ok x)) → length es ≤ 8 → o.adds fl i c s l (f (log_box l)).bytes es ≡ gives bs →
      Sound (suc n) (put_all l es ls) (at (log_box l) (record { edition = e + 1; bytes = bs }) f) × Stays OldLedger OldLog Floor Spent ls f (put_all l es ls) (at (log_box l) (record { edition = e + 1; bytes = bs }) f)
  pub page_ok : {n : ℕ} {ls : List (List Entry)} {f : ℕ → Box} (x : List ℕ) (a : Filling) → n < bound → Sound n ls f → Now f (o.due (f 0).bytes) x → Memᴰ a (o.pages (f 0).bytes x) → (f a.box).edition ≡ 0 →
      Sound (suc n) ls (at a.box (record { edition = 1; bytes = a.bytes }) f) × Stays OldLedger OldLog Floor Spent ls f ls (at a.box (record { edition = 1; bytes = a.bytes }) f)
  pub step_ok : {n : ℕ} {ls : List (List Entry)} {f : ℕ → Box} (e : ℕ) (x : List ℕ) → n < bound → Sound n ls f → Now f (o.due (f 0).bytes) x → ((a : Filling) → Memᴰ a (o.pages (f 0).bytes x) → (1 ≤ (f a.box).edition) × ((f a.box).bytes ≡ a.bytes)) →
      Sound (suc n) ls (at 0 (record { edition = e + 1; bytes = o.after (f 0).bytes x }) f) × Stays OldLedger OldLog Floor Spent ls f ls (at 0 (record { edition = e + 1; bytes = o.after (f 0).bytes x }) f) × ((a : Filling) → Memᴰ a (o.pages (f 0).bytes x) → Spent (o.after (f 0).bytes x) a.box)
  pub same_ok : {n : ℕ} {ls : List (List Entry)} {f : ℕ → Box} (e : ℕ) → Sound n ls f → Sound n ls (at 0 (record { edition = e + 1; bytes = (f 0).bytes }) f) × Stays OldLedger OldLog Floor Spent ls f ls (at 0 (record { edition = e + 1; bytes = (f 0).bytes }) f)
  pub take_ok : {n : ℕ} {ls : List (List Entry)} {f : ℕ → Box} (e l : ℕ) (x y : List ℕ) → n < bound → Sound n ls f → o.due (f 0).bytes ≡ nothing → l < logs → OldLog ls f l x → o.take (f 0).bytes l x ≡ gives y →
      Sound n ls (at 0 (record { edition = e + 1; bytes = y }) f) × Stays OldLedger OldLog Floor Spent ls f ls (at 0 (record { edition = e + 1; bytes = y }) f)
  pub answer_ok : {n : ℕ} {ls : List (List Entry)} {f : ℕ → Box} (from most : ℕ) (x : List ℕ) (got es : List Event) → Sound n ls f → OldLedger ls f x → Gathered o (λ b y. Spent (f 0).bytes b × ((f b).bytes ≡ y)) from most x got → o.answer from most x got ≡ reply es →
      (j : ℕ) × (j ≤ most) × (es ≡ first_of j (drop_of from (out p ls)))

-- A BOOK that keeps them
pub record Safe (o : Ops) (p : Plan) (logs : ℕ) : Type 1 where
  pub bound : ℕ
  pub far : horizon ≤ bound
  pub Sound : ℕ → List (List Entry) → (ℕ → Box) → Type 0
  pub OldLedger : List (List Entry) → (ℕ → Box) → List ℕ → Type 0
  pub OldLog : List (List Entry) → (ℕ → Box) → ℕ → List ℕ → Type 0
  pub Floor : List (List Entry) → (ℕ → Box) → List ℕ → Type 0
  pub Spent : List ℕ → ℕ → Type 0
  pub laws : Laws o p logs bound Sound OldLedger OldLog Floor Spent
