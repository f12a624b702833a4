use Rattle.queue.specs.Model.{queue_of}
use Rattle.sizes.specs.Model.{sizes_of}
use Rattle.emits.proofs.Steps.{room_buffer, room_front}
use Rattle.emits.proofs.take.has_room.Goals as goal

pub returns-then-as_slice-sizes : goal.returns-then-as_slice-sizes
returns-then-as_slice-sizes c =
    let rows = c.as_slice-then-as_slice-sizes in
    room_buffer (sizes_of c.args.sizes.now) (queue_of c.args.queue.now) c.as_slice.result.now rows.result.now c.as_slice.ensures.rows c.if-as_slice-sizes.true rows.ensures.rows

pub returns-else-as_slice-sizes : goal.returns-else-as_slice-sizes
returns-else-as_slice-sizes c = room_front (sizes_of c.args.sizes.now) (queue_of c.args.queue.now) c.as_slice.result.now c.as_slice.ensures.rows c.if-as_slice-sizes.false
