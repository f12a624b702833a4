use Rattle.turns.proofs.Due.{lower_fits, sift_front, sift_buffer, emit_buffer, open_front}
use Rattle.turns.proofs.Tidied.{spilled_tidied}
use Rattle.turns.proofs.tidy.tidy.Goals as goal

pub lower_front-requires : goal.lower_front-requires
lower_front-requires c = record { buffer = lower_fits _ _ c.args.ledger.now c.requires.sizes c.args.plates.now c.requires.room (rw c.in-Lower.is at c.requires.due) }

pub sift_page-requires-clause-front : goal.sift_page-requires-clause-front
sift_page-requires-clause-front c = sift_front _ _ c.args.ledger.now c.requires.sizes c.args.plates.now c.requires.room _ (rw c.in-Sift.is at c.requires.due)

pub sift_page-requires-clause-buffer : goal.sift_page-requires-clause-buffer
sift_page-requires-clause-buffer c = sift_buffer _ _ c.args.ledger.now c.requires.sizes c.args.plates.now c.requires.room _ (rw c.in-Sift.is at c.requires.due)

pub emit-requires-clause-buffer : goal.emit-requires-clause-buffer
emit-requires-clause-buffer c = emit_buffer _ _ c.args.ledger.now c.requires.sizes c.args.plates.now c.requires.room (rw c.in-Emit.is at c.requires.due)

pub open-requires : goal.open-requires
open-requires c = open_front _ _ c.args.ledger.now c.requires.sizes c.args.plates.now c.requires.room (rw c.in-Open.is at c.requires.due)

pub returns-in-Spill-clause-tidied : goal.returns-in-Spill-clause-tidied
returns-in-Spill-clause-tidied c = rw c.in-Spill.is (spilled_tidied c.args.rules.now c.in-Spill.fullest _ c.args.ledger.now (rw c.in-Spill.is at c.requires.due).1.2 c.spill_shown.new.queue (record { rows = c.spill_shown.new.pages; index = c.args.plates.now.index; events = c.args.plates.now.events }) c.spill_shown.result c.spill_shown.ensures.spilled)
