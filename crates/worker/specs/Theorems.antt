-- What is proved of the worker, over any book that keeps the interface. Statements that speak of all books are of Type 1 and
-- stand on no contract: they are the types of public lemmas, and contracts cite them at a book.
-- Assumes nothing.
use Rattle.std.specs.Prelude.{◌≡◌, ℕ, ◌+◌, ◌*◌, ◌<◌, ◌≤◌, T, List, ◌++◌}
use Rattle.streams.specs.Meaning.{Plan}
use Rattle.streams.specs.Calls.{Call, Reply, core, plan_ok}
use Rattle.streams.specs.Hands.{OneBook, BusyAtNine, OneIsEnough, Seen, Scene, here, Goes, Alone, count_at}
use Rattle.streams.specs.Promise.{streams, Plans, AllPlans, ComesOut, Whole, CoreWhole}
use Rattle.book.specs.Ledger.{log_box}
use Rattle.book.specs.Interface.{Ops, nothing, Safe}
use Rattle.book.specs.Live.{Live, AnswersAll}
use Rattle.shelf.specs.Moments.{calls}
use Rattle.worker.specs.Worker.{Mind, worker, workers}

-- customers see one book-keeper, and only a ninth call is handed back
abbrev pub WorkerKeeps : Type 1
WorkerKeeps = (o : Ops) (p : Plan) (logs : ℕ) → Safe o p logs → OneBook (streams p logs core) (worker o logs) × BusyAtNine (streams p logs core) (worker o logs)

-- one worker is enough
abbrev pub WorkerEnds : Type 1
WorkerEnds = (o : Ops) (p : Plan) (logs : ℕ) (P : Safe o p logs) → Live o p logs P → 1 ≤ logs → OneIsEnough (worker o logs)

-- how soon: alone, any one worker comes to where nothing waits at it, nothing is due and all logs are taken, within so many steps. A step is a
-- turn of the worker or an answer of the store, and `heavy` is the most that the book says can be left to do with as many entries as calls were made.
abbrev pub WorkerWithin : Type 1
WorkerWithin =
    (o : Ops) (p : Plan) (logs : ℕ) (P : Safe o p logs) (V : Live o p logs P) → 1 ≤ logs → (all n : ℕ) → all ≤ 64 → n < 72057594037927936 → (es : List (Seen Call Reply)) (s : Scene Mind ℕ) → Goes (worker o logs) all n es s → (i c : ℕ) (m : Mind) → i < all → s.hand i ≡ here c m →
    (fs : List (Seen Call Reply)) × (t : Scene Mind ℕ) × (k : ℕ) × Alone (worker o logs) i s fs t × Goes (worker o logs) all k (fs ++ es) t × (k ≤ n + 132 * V.heavy (calls es) + 20 * V.long + 24 * logs + 442) × (count_at i t.waits ≡ 0) ×
    (o.due (t.box 0).bytes ≡ nothing) × ((l : ℕ) → l < logs → V.Took (t.box 0).bytes l (t.box (log_box l)).bytes)

-- a book for each plan and number of logs, that keeps the interface
abbrev pub KeepsInterface : Plans → (Plan → (logs : ℕ) → Ops) → Type 1
KeepsInterface plans o = (p : Plan) → plans p → T (plan_ok p) → (logs : ℕ) → 1 ≤ logs → logs ≤ 256 → (P : Safe (o p logs) p logs) × (V : Live (o p logs) p logs P) × AnswersAll (o p logs) p logs P V

-- all comes out
abbrev pub WorkerOut : Type 1
WorkerOut = (o : Plan → (logs : ℕ) → Ops) (plans : Plans) → KeepsInterface plans o → ComesOut plans core (workers o)

-- all of it: with a book for all plans this is the main promise of this worker
abbrev pub WorkerWhole : Type 1
WorkerWhole = (o : Plan → (logs : ℕ) → Ops) (plans : Plans) → KeepsInterface plans o → Whole plans core (workers o)

-- for a book that keeps the interface for all plans: the main promise for all of them, and so for those of one stage
abbrev pub WorkerCoreWhole : Type 1
WorkerCoreWhole = (o : Plan → (logs : ℕ) → Ops) → KeepsInterface AllPlans o → Whole AllPlans core (workers o) × CoreWhole (workers o)
