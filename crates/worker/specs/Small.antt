-- A small book that keeps who was served, in bytes, and writes one page and a copy of it: enough to keep Safe and Live together, which shows
-- that the interface asks for nothing that cannot be had. It keeps no events, so it answers none.
-- Assumes nothing.
use Rattle.std.specs.Prelude.{◌≡◌, ℕ, zero, suc, ◌+◌, ◌*◌, ◌/◌, ◌%◌, ◌<◌, ◌≤◌, Bool, true, false, not, ◌&&◌, ◌||◌, T, List, [], ◌∷◌, ◌++◌, ◌==◌, nat_lt}
use Rattle.streams.specs.Meaning.{Entry, Plan, out}
use Rattle.streams.specs.Calls.{Call, Reply, core, plan_ok}
use Rattle.streams.specs.Hands.{OneBook, BusyAtNine, OneIsEnough, Seen, Scene, here, Goes, Alone, count_at}
use Rattle.streams.specs.Promise.{streams, Plans, Whole}
use Rattle.book.specs.Interface.{gives, Calls, nothing, alone, with_page, reply, Filling, Ops}
use Rattle.worker.specs.Worker.{Mind, workers}

unfoldable pub get : ℕ → List ℕ → ℕ
get k [] = 0
get zero (a ∷ x) = a
get (suc k) (a ∷ x) = get k x

unfoldable pub set : ℕ → ℕ → List ℕ → List ℕ
set zero v [] = v ∷ []
set zero v (a ∷ x) = v ∷ x
set (suc k) v [] = 0 ∷ set k v []
set (suc k) v (a ∷ x) = a ∷ set k v x

-- so many bytes from a place on, low byte first
unfoldable pub reads : (many place : ℕ) → List ℕ → ℕ
reads zero k x = 0
reads (suc c) k x = get k x + 256 * reads c (k + 1) x

unfoldable pub puts : (many place value : ℕ) → List ℕ → List ℕ
puts zero k v x = x
puts (suc c) k v x = set k (v % 256) (puts c (k + 1) (v / 256) x)

unfoldable pub small_has : List ℕ → (me chance serial : ℕ) → Bool
small_has x i c s = nat_lt 0 s && (reads 8 (16 * i) x == c && reads 8 (16 * i + 8) x == s)

unfoldable pub small_adds : List ℕ → (me chance serial : ℕ) → List ℕ
small_adds x i c s = puts 8 (16 * i) c (puts 8 (16 * i + 8) s x)

unfoldable pub small_due : List ℕ → Calls
small_due [] = nothing
small_due (zero ∷ l) = nothing
small_due (suc zero ∷ l) = alone
small_due (suc (suc zero) ∷ l) = with_page 5
small_due (suc (suc (suc n)) ∷ l) = nothing

unfoldable pub small_after : List ℕ → List ℕ
small_after [] = []
small_after (zero ∷ l) = zero ∷ l
small_after (suc zero ∷ l) = 2 ∷ []
small_after (suc (suc zero) ∷ l) = 3 ∷ []
small_after (suc (suc (suc n)) ∷ l) = suc (suc (suc n)) ∷ l

unfoldable pub small_pages : List ℕ → (shown : List ℕ) → List Filling
small_pages [] x = []
small_pages (zero ∷ l) x = []
small_pages (suc zero ∷ l) x = record { box = 5; bytes = 7 ∷ [] } ∷ []
small_pages (suc (suc zero) ∷ l) x = record { box = 6; bytes = x } ∷ []
small_pages (suc (suc (suc n)) ∷ l) x = []

unfoldable pub small_take : List ℕ → List ℕ → List ℕ
small_take [] [] = []
small_take [] (a ∷ b) = 1 ∷ []
small_take (z ∷ y) b = z ∷ y

unfoldable pub small_differs : List ℕ → List ℕ → Bool
small_differs [] [] = false
small_differs [] (b ∷ y) = true
small_differs (a ∷ x) [] = true
small_differs (a ∷ x) (b ∷ y) = not (a == b) || small_differs x y

abbrev pub small : Ops
small = record {
  has = small_has;
  adds = λ fl i c s l x es. gives (small_adds x i c s);
  raise = λ x fl. fl;
  due = small_due;
  after = λ l x. small_after l;
  pages = small_pages;
  take = λ y l x. gives (small_take y x);
  differs = small_differs;
  answer = λ f n l got. reply [];
  more = λ f n l got x. got;
}

abbrev pub smalls : Plan → (logs : ℕ) → Ops
smalls p logs = small

-- what the worker promises with this book: all but that all comes out, for all plans
abbrev pub SmallOneBook : Type 0
SmallOneBook = (p : Plan) (logs : ℕ) → logs ≤ 256 → OneBook (streams p logs core) (workers smalls p logs)

abbrev pub SmallBusyAtNine : Type 0
SmallBusyAtNine = (p : Plan) (logs : ℕ) → logs ≤ 256 → BusyAtNine (streams p logs core) (workers smalls p logs)

abbrev pub SmallOneIsEnough : Type 0
SmallOneIsEnough = (p : Plan) (logs : ℕ) → 1 ≤ logs → logs ≤ 256 → OneIsEnough (workers smalls p logs)

-- and how soon that is: within so many turns and answers of the store
abbrev pub SmallWithin : Type 0
SmallWithin =
    (p : Plan) (logs : ℕ) → 1 ≤ logs → logs ≤ 256 → (all n : ℕ) → all ≤ 64 → n < 72057594037927936 → (es : List (Seen Call Reply)) (s : Scene Mind ℕ) → Goes (workers smalls p logs) all n es s → (i c : ℕ) (m : Mind) → i < all → s.hand i ≡ here c m →
    (fs : List (Seen Call Reply)) × (t : Scene Mind ℕ) × (k : ℕ) × Alone (workers smalls p logs) i s fs t × Goes (workers smalls p logs) all k (fs ++ es) t × (k ≤ n + 24 * logs + 838) × (count_at i t.waits ≡ 0)

-- Plans of which nothing comes out: the small book, which keeps no events, has nothing to answer. There are such plans.
abbrev pub Silent : Plans
Silent p = (ls : List (List Entry)) → out p ls ≡ []

abbrev pub SmallWhole : Type 0
SmallWhole = Whole Silent core (workers smalls) × ((p : Plan) × T (plan_ok p) × Silent p)
