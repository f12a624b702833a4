-- Boxes whose bytes are not what the book writes there: the worker does nothing by them but ask again.
-- Assumes nothing.
use Rattle.std.specs.Prelude.{◌≡◌, ℕ, []}
use Rattle.streams.specs.Meaning.{Plan}
use Rattle.streams.specs.Hands.{Box, Shown}
use Rattle.book.specs.Interface.{with_page, page}
use Rattle.book.specs.Ledger.{Ledger}
use Rattle.book.specs.Words.{nothing, just, bytes_of, write_ledger, page_in, out_in}
use Rattle.book.specs.Real.{real, sizes, log_or, ledger_or}
use Rattle.worker.specs.Worker.{Phase, rest, log, put, ledger, page', written, kept, look, answer', gather, Mind, Asks, none', show, fill, Step, acts}

-- what is awaited cannot be read from these bytes: a log's box; the ledger; the page that a due step of a written ledger calls for;
-- an out page that an answer calls for
abbrev pub Strange : Plan → (logs : ℕ) → Phase → Box → Type 0
Strange p n rest x = ⊥
Strange p n (log l) x = log_or x.bytes ≡ nothing
Strange p n put x = ⊥
Strange p n ledger x = ledger_or n x.bytes ≡ nothing
Strange p n (page' e l b) x = (y : Ledger) × (ledger_or n l ≡ just y) × (l ≡ bytes_of (write_ledger y)) × ((real sizes p n).due l ≡ with_page b) × (page_in x.bytes ≡ nothing)
Strange p n (written e t ts l) x = ⊥
Strange p n kept x = ⊥
Strange p n (look e l c k) x = log_or x.bytes ≡ nothing
Strange p n (answer' k f m) x = ledger_or n x.bytes ≡ nothing
Strange p n (gather k f m l got b) x = ((real sizes p n).answer f m l got ≡ page b) × (out_in x.bytes ≡ nothing)

abbrev pub OnlyAsks : Asks → Type 0
OnlyAsks none' = Unit {0}
OnlyAsks (show b) = Unit {0}
OnlyAsks (fill b e bs) = ⊥

-- nothing is told or filled, and what may not be lost and what was seen taken are as they were
pub record Waits (m : Mind) (r : Step) : Type 0 where
  pub tells : r.tell ≡ []
  pub asks : OnlyAsks r.ask
  pub keep : r.mind.keep ≡ m.keep
  pub floor : r.mind.floor ≡ m.floor

abbrev pub StrangeBytes : Type 0
StrangeBytes = (p : Plan) (n : ℕ) (m : Mind) (x : Box) → Strange p n m.phase x → Waits m (acts (real sizes p n) n (Shown m.asked x) m)
