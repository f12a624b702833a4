-- A step on the queue, done on the ledger: by the definitions of the book, or why not.
-- Assumes nothing.
use Rattle.std.specs.Prelude.{◌≡◌, ℕ, suc, ◌+◌, ◌*◌, ◌^◌, ◌<◌, ◌≤◌, ◌⊎◌, List, [], length, map, Ok, Err, Result}
use Rattle.streams.specs.Meaning.{Stage, top}
use Rattle.book.specs.Queue as book
use Rattle.book.specs.Due.{Sizes, Do, Done, due, shows, do'}
use Rattle.book.specs.Due as due
use Rattle.book.specs.Ledger.{Ledger, watermark, turned}
use Rattle.book.specs.Words.{Maybe}
use Rattle.plans.specs.Model.{stage_of}
use Rattle.segs.specs.Model.{segs_of}
use Rattle.packs.specs.Model.{LevelsFit}
use Rattle.sizes.specs.Model.{sizes_of}
use Rattle.dues.specs.declared.Step.{Step}
use Rattle.dues.specs.Model.{step_of, Knows}
use Rattle.rows.specs.Model.{rows_of}
use Rattle.spills.specs.Model.{SamePages}
use Rattle.ledgers.specs.declared.Ledger.{Ledger as Code}
use Rattle.ledgers.specs.Model.{ledger_of}
use Rattle.turns.specs.declared.plates.Plates.{Plates}
use Rattle.turns.specs.declared.plates.Beyond.{Beyond}
use Rattle.turns.specs.declared.plates.Beyond.TheVariants.{Shown, Numbers}
use Rattle.turns.specs.declared.plates.Written.{Written}
use Rattle.turns.specs.declared.rules.Rules.{Rules}
use Rattle.turns.specs.Model.{HasRoom, NoOut, pages_written}
use Rattle.turns.specs.Turn.{on_shown, IsPage, RowsFit, segments_shown}

-- the step is due on the ledger's queue, and carries what is to be known for it
abbrev pub IsDue : Sizes → (late : ℕ) → Ledger → Step → Type 0
IsDue z late x s = (due z (watermark late x.logs) x.queue ≡ Do (step_of s)) × Knows x.queue s

-- windows that end at the watermark end within 64 bits
abbrev pub MarkFits : (late : ℕ) → Ledger → Type 0
MarkFits late x = watermark late x.logs < 2 ^ 62

-- there is room for any step
pub record Roomy (z : Sizes) (x : Code) (p : Plates) : Type 0 where
  pub sifted : z.front + z.rows ≤ x.queue.front.room
  pub opened : z.buffer ≤ x.queue.front.room
  pub lowered : z.buffer + x.queue.front.room ≤ x.queue.buffer.room
  pub placed : z.buffer + z.rows ≤ x.queue.buffer.room
  pub emitted : z.buffer + z.emits ≤ x.queue.buffer.room
  pub tail : length x.tail.items + z.emits ≤ x.tail.room
  pub out : z.rows ≤ p.rows.out.room
  pub upper : 2 * z.rows ≤ p.rows.upper.room
  pub index : z.segments ≤ p.index.room

-- by the page that it needs, if it needs one
abbrev pub done_by : Sizes → List Stage → (mark : ℕ) → due.Step → (needs : book.Link) → Maybe book.Page → book.Queue → Done
done_by z sts m s book.nil shown q = do' z sts m s book.Blank q
done_by z sts m s (book.page n) shown q = on_shown (record { queue = q; writes = []; outs = [] }) (λ g. do' z sts m s g q) shown

abbrev pub done : Rules → Step → Maybe book.Page → Ledger → Done
done r s shown x = done_by (sizes_of r.sizes) (map stage_of r.stages.now) (watermark r.late.0 x.logs) (step_of s) (shows (step_of s) x.queue) shown x.queue

-- how many segments a step may add
abbrev pub more_segments : due.Step → Maybe book.Page → ℕ
more_segments (due.Spill i) shown = 1
more_segments (due.Pack v) shown = 0
more_segments due.Lower shown = 1
more_segments due.Sift shown = 0
more_segments due.Emit shown = 0
more_segments due.Unpack shown = length (segments_shown shown)
more_segments due.Open shown = 0

-- a step that takes the rows of the page that it shows
abbrev pub TakesRows : due.Step → (needs : book.Link) → Type 0
TakesRows (due.Spill i) l = IsPage l
TakesRows (due.Pack v) l = ⊥
TakesRows due.Lower l = ⊥
TakesRows due.Sift l = Unit {0}
TakesRows due.Emit l = ⊥
TakesRows due.Unpack l = ⊥
TakesRows due.Open l = ⊥

-- why a step is not done
abbrev pub Stopped : Rules → Step → Maybe book.Page → Code → Beyond → Type 0
Stopped r s shown x b =
    ((b ≡ Shown) × TakesRows (step_of s) (shows (step_of s) (ledger_of x).queue) × (RowsFit r.sizes.rows shown → ⊥)) ⊎ HasRoom (more_segments (step_of s) shown) x.queue.segments (Err b) ⊎ ((b ≡ Numbers) × ((top ≤ suc (suc x.queue.next.0)) ⊎ (LevelsFit (segs_of x.queue.segments.items) → ⊥)))

-- what the step came to; or why it is not done, and the ledger is as it was
abbrev pub Tidied : Rules → Step → Maybe book.Page → (old new : Code) → Plates → Result Written Beyond → Type 0
Tidied r s shown old new p (Ok w) =
    NoOut w × (ledger_of new ≡ (turned (ledger_of old) (done r s shown (ledger_of old))).ledger) × (pages_written w (rows_of p.rows.out.items) p.rows.upper.items (segs_of p.index.items) ≡ (done r s shown (ledger_of old)).writes)
Tidied r s shown old new p (Err b) = Stopped r s shown old b × (new ≡ old)

abbrev pub SamePlates : (old new : Plates) → Type 0
SamePlates p q = SamePages p.rows q.rows × (q.index.room ≡ p.index.room) × (q.events.room ≡ p.events.room)
