-- Pages have numbers that are used once: what follows a ledger never calls for another content of a page. What only rises.
-- Assumes nothing.
use Rattle.std.specs.Prelude.{◌≡◌, ℕ, suc, ◌+◌, ◌<◌, ◌≤◌, ◌⊎◌, List, [], ◌∷◌, ◌++◌, length}
use Rattle.streams.specs.Meaning.{Event, Entry, Plan}
use Rattle.book.specs.Queue.{Page, Write}
use Rattle.book.specs.Due.{Sizes}
use Rattle.book.specs.Ledger.{Served, LogBox, taken_of, Ledger, Task, Rest, Want, wanted, OutWrite, Turn, does}
use Rattle.book.specs.Book.{Book, came_out, put_batch, take_into, turn_of, after_turn, put_all, HeldOnce, log_of}

-- writes are numbered one after the other
abbrev pub Numbered : ℕ → List Write → Type 0
Numbered n [] = Unit {0}
Numbered n (w ∷ ws) = (w.number ≡ n) × Numbered (suc n) ws

abbrev pub OutNumbered : ℕ → List OutWrite → Type 0
OutNumbered n [] = Unit {0}
OutNumbered n (w ∷ ws) = (w.number ≡ n) × OutNumbered (suc n) ws

-- a step takes the next numbers, and moves on by as many
pub record Moves (x : Ledger) (t : Turn) : Type 0 where
  pub rows : Numbered x.queue.next t.rows
  pub next : t.ledger.queue.next ≡ x.queue.next + length t.rows
  pub outs : OutNumbered x.pages t.outs
  pub pages : t.ledger.pages ≡ x.pages + length t.outs

abbrev pub StepsMove : Type 0
StepsMove = (z : Sizes) (p : Plan) (k : Task) (shown : Page) (x : Ledger) → Moves x (does z p k shown x)

-- WHAT FOLLOWS: batches at any time, taking only where nothing is due, and what is due
pub data Follows (z : Sizes) (p : Plan) (x : Book) : Book → Type 0 where
  itself : Follows z p x x
  batch : {y : Book} (l floor i : ℕ) (s : Served) (es : List Entry) → Follows z p x y → Follows z p x (put_batch p l floor i s es y)
  takes : {y : Book} (l : ℕ) (b : LogBox) → Follows z p x y → wanted z p.late y.ledger ≡ Rest → Follows z p x (take_into z p l b y)
  turn : {y : Book} (k : Task) → Follows z p x y → wanted z p.late y.ledger ≡ Want k → Follows z p x (after_turn (turn_of z p k y) y)

abbrev pub Among : {A : Type 0} → A → List A → Type 0
Among x [] = ⊥
Among x (y ∷ ys) = (x ≡ y) ⊎ Among x ys

-- ONE CONTENT of a page
abbrev pub OneContent : Type 0
OneContent =
    (z : Sizes) (p : Plan) (x y : Book) → Follows z p x y → (j k : Task) → wanted z p.late x.ledger ≡ Want j → wanted z p.late y.ledger ≡ Want k →
    ((w v : Write) → Among w (turn_of z p j x).rows → Among v (turn_of z p k y).rows → w.number ≡ v.number → w ≡ v) ×
    ((w v : OutWrite) → Among w (turn_of z p j x).outs → Among v (turn_of z p k y).outs → w.number ≡ v.number → w ≡ v)

-- WHAT ONLY RISES: how much of each log is taken, its latest time, out pages, page numbers; pages that were written and what came out stand
pub record Grows (x y : Book) : Type 0 where
  pub taken : (l : ℕ) → (taken_of l x.ledger.logs).taken ≤ (taken_of l y.ledger.logs).taken
  pub latest : (l : ℕ) → (taken_of l x.ledger.logs).latest ≤ (taken_of l y.ledger.logs).latest
  pub next : x.ledger.queue.next ≤ y.ledger.queue.next
  pub pages : x.ledger.pages ≤ y.ledger.pages
  pub row : (n : ℕ) → n < x.ledger.queue.next → y.row n ≡ x.row n
  pub out : (t : ℕ) → t < x.ledger.pages → y.out t ≡ x.out t
  pub more : (more : List Event) × (came_out y ≡ came_out x ++ more)

abbrev pub AlwaysGrows : Type 0
AlwaysGrows = (z : Sizes) (p : Plan) (x y : Book) → Follows z p x y → Grows x y

-- an old box of a log stays one
abbrev pub OldStays : Type 0
OldStays = (late k l : ℕ) (ls : List (List Entry)) (es : List Entry) (b : LogBox) → HeldOnce late (log_of l ls) b → HeldOnce late (log_of l (put_all k es ls)) b
