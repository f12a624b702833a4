use Rattle.std.proofs.Common.{take}
use Rattle.rows.specs.Model.{row_of, aggregates_of}
use Rattle.segs.specs.Model.{segs_of}
use Rattle.queue.specs.Placed.{queue_with}
use Rattle.queue.proofs.Places.{place_up, place_low}
use Rattle.queue.proofs.lent.place.Goals as goal

pub returns-then-is_up-clause-placed : goal.returns-then-is_up-clause-placed
returns-then-is_up-clause-placed c source next =
    let q = queue_with (segs_of c.args.segments.now) (take c.args.counts.front c.args.front.now) (take c.args.counts.buffer c.args.buffer.now) source next in
    rw c.add.ensures.rows (place_up (aggregates_of c.args.stages.now) (row_of c.args.row) q c.if-is_up.ensures)

pub returns-else-is_up-clause-placed : goal.returns-else-is_up-clause-placed
returns-else-is_up-clause-placed c source next =
    let q = queue_with (segs_of c.args.segments.now) (take c.args.counts.front c.args.front.now) (take c.args.counts.buffer c.args.buffer.now) source next in
    rw c.add-else-is_up.ensures.rows (place_low (aggregates_of c.args.stages.now) (row_of c.args.row) q c.if-is_up.ensures)
