-- How much room the memory of a worker has.
-- Assumes nothing.
use Rattle.std.specs.Prelude.{◌≡◌}
use Rattle.ledgers.specs.declared.Ledger.{Ledger}
use Rattle.turns.specs.declared.plates.Plates.{Plates}

abbrev pub LedgerRoom : Ledger → Type 0
LedgerRoom x = (x.logs.room ≡ 256) × (x.tail.room ≡ 640) × (x.queue.front.room ≡ 1280) × (x.queue.buffer.room ≡ 1920) × (x.queue.segments.room ≡ 1000)

abbrev pub PlatesRoom : Plates → Type 0
PlatesRoom p = (p.rows.out.room ≡ 512) × (p.rows.upper.room ≡ 1024) × (p.index.room ≡ 16) × (p.events.room ≡ 512)
