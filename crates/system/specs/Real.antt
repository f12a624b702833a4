-- The worker over the real book, and what is promised of it.
-- Assumes nothing.
use Rattle.std.specs.Prelude.{◌≡◌, ℕ, ◌+◌, ◌*◌, ◌<◌, ◌≤◌, T, List, ◌++◌}
use Rattle.streams.specs.Meaning.{Plan}
use Rattle.streams.specs.Calls.{Call, Reply, core, plan_ok}
use Rattle.streams.specs.Hands.{OneBook, BusyAtNine, OneIsEnough, Seen, Scene, here, Goes, Alone, count_at}
use Rattle.streams.specs.Promise.{streams, Code, AllPlans, ComesOut, Whole, CoreWhole}
use Rattle.shelf.specs.Moments.{calls}
use Rattle.book.specs.Interface.{horizon, nothing}
use Rattle.book.specs.Real.{real, sizes}
use Rattle.book.specs.Ledger.{log_box}
use Rattle.book.specs.Right.{TookAll}
use Rattle.book.specs.Work.{most_work}
use Rattle.worker.specs.Worker.{Mind, workers}

-- a worker for each plan and number of logs
abbrev pub hands : Code ℕ
hands = workers (real sizes)

abbrev pub RealOneBook : Type 0
RealOneBook = (p : Plan) → T (plan_ok p) → (logs : ℕ) → 1 ≤ logs → logs ≤ 256 → OneBook (streams p logs core) (hands p logs)

abbrev pub RealBusyAtNine : Type 0
RealBusyAtNine = (p : Plan) → T (plan_ok p) → (logs : ℕ) → 1 ≤ logs → logs ≤ 256 → BusyAtNine (streams p logs core) (hands p logs)

abbrev pub RealOneIsEnough : Type 0
RealOneIsEnough = (p : Plan) → T (plan_ok p) → (logs : ℕ) → 1 ≤ logs → logs ≤ 256 → OneIsEnough (hands p logs)

abbrev pub RealComesOut : Type 0
RealComesOut = ComesOut AllPlans core hands

-- THE MAIN PROMISE, for all plans and the calls put, still and out; and so for plans of one stage
abbrev pub RealWhole : Type 0
RealWhole = Whole AllPlans core hands × CoreWhole hands

-- HOW SOON: alone, any one worker comes to where nothing waits at it, nothing is due and all that the logs hold is taken, so that all is out, within so many turns and answers of the store. `calls` is how many calls were made.
abbrev pub RealWithin : Type 0
RealWithin =
    (p : Plan) → T (plan_ok p) → (logs : ℕ) → 1 ≤ logs → logs ≤ 256 → (all n : ℕ) → all ≤ 64 → n < horizon → (es : List (Seen Call Reply)) (s : Scene Mind ℕ) → Goes (hands p logs) all n es s → (i c : ℕ) (m : Mind) → i < all → s.hand i ≡ here c m →
    (fs : List (Seen Call Reply)) × (t : Scene Mind ℕ) × (k : ℕ) × Alone (hands p logs) i s fs t × Goes (hands p logs) all k (fs ++ es) t × (k ≤ n + 132 * most_work logs (calls es) + 24 * logs + 20922) × (count_at i t.waits ≡ 0) ×
    ((real sizes p logs).due (t.box 0).bytes ≡ nothing) × ((l : ℕ) → l < logs → TookAll logs (t.box 0).bytes l (t.box (log_box l)).bytes)
