-- What is done on a ledger with the sizes that all workers share, by the definitions of the book.
-- Assumes nothing.
use Rattle.std.specs.Prelude.{◌≡◌, ℕ, Some, None, Option}
use Rattle.book.specs.Queue.{Page}
use Rattle.book.specs.Ledger as book
use Rattle.book.specs.Real.{sizes, turn_by}
use Rattle.book.specs.Words.{Maybe}
use Rattle.plans.specs.declared.stages.Plan.{Plan}
use Rattle.plans.specs.Model.{plan_of, events_of}
use Rattle.rows.specs.Model.{rows_of}
use Rattle.segs.specs.Model.{segs_of}
use Rattle.ledgers.specs.declared.Ledger.{Ledger}
use Rattle.ledgers.specs.Model.{ledger_of}
use Rattle.turns.specs.declared.plates.Plates.{Plates}
use Rattle.turns.specs.declared.plates.Written.{Written}
use Rattle.turns.specs.Model.{pages_written, outs_written}

abbrev pub due_turn : Plan → Maybe Page → Ledger → book.Turn
due_turn p shown x = turn_by sizes (plan_of p) (book.wanted sizes p.late.0 (ledger_of x)) shown (ledger_of x)

-- the turn that is due, and the pages that it writes; or nothing is done
abbrev pub Stepped : Plan → Maybe Page → (old new : Ledger) → Plates → Option Written → Type 0
Stepped p shown old new q (Some w) =
    (ledger_of new ≡ (due_turn p shown old).ledger) × (pages_written w (rows_of q.rows.out.items) q.rows.upper.items (segs_of q.index.items) ≡ (due_turn p shown old).rows) × (outs_written w (events_of q.events.items) ≡ (due_turn p shown old).outs)
Stepped p shown old new q None = new ≡ old

-- new events of a log are taken, or nothing is done
abbrev pub Took : Plan → (log : ℕ) → book.LogBox → (old new : Ledger) → Option (Unit {0}) → Type 0
Took p l b old new (Some u) = ledger_of new ≡ book.took sizes (plan_of p).stages l b (ledger_of old)
Took p l b old new None = new ≡ old
