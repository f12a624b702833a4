-- What a step that is due may count on.
-- Assumes nothing.
use Rattle.std.proofs.Common.{ℕ, ◌+◌, ◌≤◌, length, ap, arith}
use Rattle.book.specs.Due.{Sizes, SizesOk, crowd}
use Rattle.book.specs.Ledger.{watermark}
use Rattle.book.proofs.Due.{Ready, ready}
use Rattle.book.proofs.Room.{Calm, calm_crowd}
use Rattle.dues.specs.declared.Step.{Step}
use Rattle.dues.specs.declared.Step.TheVariants.{Lower, Sift, Emit, Open}
use Rattle.dues.specs.Model.{step_of}
use Rattle.ledgers.specs.declared.Ledger.{Ledger as Code}
use Rattle.ledgers.specs.Model.{ledger_of}
use Rattle.segs.specs.declared.segment.PageNumber.{PageNumber}
use Rattle.turns.specs.declared.plates.Plates.{Plates}
use Rattle.turns.specs.Tidy.{IsDue, Roomy}

module _ (z : Sizes) (late : ℕ) (x : Code) (ok : SizesOk z) where
  is_ready : (s : Step) → IsDue z late (ledger_of x) s → Ready (watermark late (ledger_of x).logs) (step_of s) (ledger_of x).queue
  is_ready s d = ready z ok (watermark late (ledger_of x).logs) (ledger_of x).queue (step_of s) d.0

  is_calm : (s : Step) → IsDue z late (ledger_of x) s → Calm z (step_of s) (ledger_of x).queue
  is_calm s d = calm_crowd z (watermark late (ledger_of x).logs) (crowd z.segments (ledger_of x).queue.segments (ledger_of x).queue.segments) (ledger_of x).queue (step_of s) d.0

  module _ (p : Plates) (room : Roomy z x p) where
    pub lower_fits : IsDue z late (ledger_of x) Lower → length x.queue.buffer.items + x.queue.front.room ≤ x.queue.buffer.room
    lower_fits d = omega (arith, is_calm Lower d, room.lowered)

    pub sift_front : (n : PageNumber) → IsDue z late (ledger_of x) (Sift n) → length x.queue.front.items + z.rows ≤ x.queue.front.room
    sift_front n d = omega (arith, (is_calm (Sift n) d).1, room.sifted)

    pub sift_buffer : (n : PageNumber) → IsDue z late (ledger_of x) (Sift n) → length x.queue.buffer.items + z.rows ≤ x.queue.buffer.room
    sift_buffer n d = omega (arith, (is_calm (Sift n) d).0, room.placed)

    pub emit_buffer : IsDue z late (ledger_of x) Emit → length x.queue.buffer.items + z.emits ≤ x.queue.buffer.room
    emit_buffer d = omega (arith, (is_calm Emit d).0, room.emitted)

    pub open_front : IsDue z late (ledger_of x) Open → length x.queue.front.items + length x.queue.buffer.items ≤ x.queue.front.room
    open_front d = omega (arith, (is_calm Open d).0, ap length (is_ready Open d).1, room.opened)
