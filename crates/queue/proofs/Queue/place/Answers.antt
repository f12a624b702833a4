use Rattle.rows.specs.Model.{row_of, aggregates_of}
use Rattle.queue.specs.Model.{queue_of}
use Rattle.queue.proofs.Places.{place_up, place_low}
use Rattle.queue.proofs.Queue.place.Goals as goal

pub returns-then-is_up-clause-queue : goal.returns-then-is_up-clause-queue
returns-then-is_up-clause-queue c = rw c.add.ensures.rows (place_up (aggregates_of c.args.stages.now) (row_of c.args.row) (queue_of c.args.self.now) (rw c.as_slice.ensures.items at c.if-is_up.ensures))

pub returns-else-is_up-clause-queue : goal.returns-else-is_up-clause-queue
returns-else-is_up-clause-queue c = rw c.add-else-is_up.ensures.rows (place_low (aggregates_of c.args.stages.now) (row_of c.args.row) (queue_of c.args.self.now) (rw c.as_slice.ensures.items at c.if-is_up.ensures))
