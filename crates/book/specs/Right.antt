-- When the boxes, as bytes, are right; and what an old ledger, an old log box and a floor still tell.
-- Assumes nothing.
use Rattle.std.specs.Prelude.{◌≡◌, ℕ, ◌+◌, ◌<◌, ◌≤◌, ◌&&◌, T, ◌⊎◌, List, ◌++◌, length, ◌≢◌, nat_le}
use Rattle.streams.specs.Meaning.{Event, Entry, Plan, out}
use Rattle.streams.specs.Calls.{drop_of, first_of, plan_ok}
use Rattle.streams.specs.Hands.{Box, all_bytes}
use Rattle.book.specs.Due.{Sizes}
use Rattle.book.specs.Ledger.{LogBox, taken_of, Ledger, log_box, row_box, out_box}
use Rattle.book.specs.Words.{just, page_in, out_in, write_ledger, write_page, AreWords}
use Rattle.book.specs.Book.{Book, SoundBook, outs_of, HeldOnce, log_of, AllTaken}
use Rattle.book.specs.Small.{total}
use Rattle.book.specs.Limits.{longest}
use Rattle.book.specs.Levels.{Within}
use Rattle.book.specs.Interface.{horizon, lacks, nothing, reply, Gathered, Laws}
use Rattle.book.specs.Real.{sizes, log_or, ledger_or, or_none, floor_of, real}

-- THE BOXES ARE RIGHT: they hold a book that is right for the logs and within its limits, each content as its bytes; every page below the next is filled
pub record Right (z : Sizes) (p : Plan) (logs : ℕ) (Limit : ℕ → List (List Entry) → Book → Type 0) (n : ℕ) (ls : List (List Entry)) (f : ℕ → Box) : Type 0 where
  pub book : Book
  pub sound : SoundBook z p ls book
  pub within : Limit n ls book
  pub count : length ls ≡ logs
  pub ledger : ledger_or logs (f 0).bytes ≡ just book.ledger
  pub log : (l : ℕ) → l < logs → log_or (f (log_box l)).bytes ≡ just (book.log l)
  pub row : (k : ℕ) → k < book.ledger.queue.next → (1 ≤ (f (row_box k)).edition) × (page_in (f (row_box k)).bytes ≡ just (book.row k))
  pub out : (t : ℕ) → t < book.ledger.pages → (1 ≤ (f (out_box t)).edition) × (out_in (f (out_box t)).bytes ≡ just (book.out t))

-- what came out, by the boxes
abbrev pub out_in' : (ℕ → Box) → ℕ → List Event
out_in' f t = or_none (out_in (f (out_box t)).bytes)

abbrev pub came_in : (ℕ → Box) → Ledger → List Event
came_in f x = outs_of (out_in' f) x.pages ++ x.tail

-- AN OLD LEDGER: no more was taken, and what had come out is a first part
pub record Old (logs : ℕ) (f : ℕ → Box) (x : List ℕ) : Type 0 where
  pub old : Ledger
  pub now : Ledger
  pub reads : ledger_or logs x ≡ just old
  pub is : ledger_or logs (f 0).bytes ≡ just now
  pub taken : (l : ℕ) → (taken_of l old.logs).taken ≤ (taken_of l now.logs).taken
  pub pages : old.pages ≤ now.pages
  pub more : (es : List Event) × (came_in f now ≡ came_in f old ++ es)

abbrev pub OldLedger : (logs : ℕ) → List (List Entry) → (ℕ → Box) → List ℕ → Type 0
OldLedger logs ls f x = Old logs f x

-- AN OLD BOX OF A LOG: what it held after some of the entries
pub record OldBox (late : ℕ) (ls : List (List Entry)) (l : ℕ) (x : List ℕ) : Type 0 where
  pub box : LogBox
  pub reads : log_or x ≡ just box
  pub once : HeldOnce late (log_of l ls) box

abbrev pub OldLog : (late logs : ℕ) → List (List Entry) → (ℕ → Box) → ℕ → List ℕ → Type 0
OldLog late logs ls f l x = l < logs → OldBox late ls l x

abbrev pub Floor : (logs : ℕ) → List (List Entry) → (ℕ → Box) → List ℕ → Type 0
Floor logs ls f fl = (y : Ledger) → ledger_or logs (f 0).bytes ≡ just y → (l : ℕ) → floor_of l fl ≤ (taken_of l y.logs).taken

-- ALL OF A LOG'S BOX IS TAKEN, with its latest time
pub record TookAll (logs : ℕ) (x : List ℕ) (l : ℕ) (bs : List ℕ) : Type 0 where
  pub ledger : Ledger
  pub box : LogBox
  pub reads : ledger_or logs x ≡ just ledger
  pub holds : log_or bs ≡ just box
  pub taken : box.base + length box.events ≤ (taken_of l ledger.logs).taken
  pub last : box.latest ≤ (taken_of l ledger.logs).latest

-- a page that the ledger is past
abbrev pub Page' : Ledger → ℕ → Type 0
Page' y b = ((k : ℕ) × (k < y.queue.next) × (b ≡ row_box k)) ⊎ ((t : ℕ) × (t < y.pages) × (b ≡ out_box t))

abbrev pub Spent : (logs : ℕ) → List ℕ → ℕ → Type 0
Spent logs x b = (y : Ledger) × (ledger_or logs x ≡ just y) × Page' y b

-- THE THEOREM: of any plan and up to 256 logs, the book on bytes keeps the laws that a worker needs
abbrev pub BookLaws : Type 0
BookLaws =
    (p : Plan) → T (plan_ok p) → (logs : ℕ) → logs ≤ 256 → Laws (real sizes p logs) p logs longest (Right sizes p logs (Within sizes)) (OldLedger logs) (OldLog p.late logs) (Floor logs) (Spent logs)

-- in 2 to the 56 steps every number of the ledger and of its pages is a word
abbrev pub BookWords : Type 0
BookWords =
    (p : Plan) (logs n : ℕ) (ls : List (List Entry)) (f : ℕ → Box) → n ≤ horizon → (r : Right sizes p logs (Within sizes) n ls f) → AreWords (write_ledger r.book.ledger) × ((k : ℕ) → AreWords (write_page (r.book.row k)))

-- so long the ledger and the log boxes are below 256 KiB; and below 1 MiB however long, with so many entries in the logs as are put in that time
abbrev pub BookFits : Type 0
BookFits =
    (p : Plan) (logs n : ℕ) (ls : List (List Entry)) (f : ℕ → Box) → Right sizes p logs (Within sizes) n ls f → (b : ℕ) → ((b ≡ 0) ⊎ ((l : ℕ) × (l < logs) × (b ≡ log_box l))) →
    (n ≤ horizon → T (nat_le (length (f b).bytes) 262144 && all_bytes (f b).bytes)) × (total ls ≤ horizon → T (nat_le (length (f b).bytes) 1048576 && all_bytes (f b).bytes))

-- and once nothing is due and all logs are taken, an answer is all there is, up to as many as were asked for
abbrev pub BookAnswersAll : Type 0
BookAnswersAll =
    (p : Plan) → T (plan_ok p) → (logs : ℕ) → logs ≤ 256 → (n : ℕ) (ls : List (List Entry)) (f : ℕ → Box) (r : Right sizes p logs (Within sizes) n ls f) → (real sizes p logs).due (f 0).bytes ≡ nothing → AllTaken p.late ls r.book.ledger.logs → (from most : ℕ) (got es : List Event) →
    Gathered (real sizes p logs) (λ b y. Spent logs (f 0).bytes b × ((f b).bytes ≡ y)) from most (f 0).bytes got → (real sizes p logs).answer from most (f 0).bytes got ≡ reply es → es ≡ first_of most (drop_of from (out p ls))

-- and with nothing due, what is new in a log's box can be taken; and a step fills two pages at most
abbrev pub BookTakes : Type 0
BookTakes =
    (p : Plan) → T (plan_ok p) → (logs : ℕ) → logs ≤ 256 →
    ((n : ℕ) (ls : List (List Entry)) (f : ℕ → Box) → n < longest → Right sizes p logs (Within sizes) n ls f → (real sizes p logs).due (f 0).bytes ≡ nothing → (l : ℕ) → l < logs → (real sizes p logs).take (f 0).bytes l (f (log_box l)).bytes ≢ lacks) ×
    ((x shown : List ℕ) → length ((real sizes p logs).pages x shown) ≤ 2)
