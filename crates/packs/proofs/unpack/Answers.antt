use Rattle.std.proofs.Common.{take, drop, ◌++◌, refl, ap, ◌∙◌}
use Rattle.segs.specs.Model.{seg_of}
use Rattle.queue.specs.Model.{queue_of}
use Rattle.packs.proofs.Packing.{unpack_is}
use Rattle.packs.proofs.unpack.Goals as goal

pub returns-clause-queue : goal.returns-clause-queue
returns-clause-queue c =
    let old = c.args.queue.now.segments.items in
    let whole = rw c.as_slice.ensures.items at c.from-first.ensures.is in
    let items = c.insert_from_slice.ensures.items ∙ ap (λ xs. take 0 xs ++ (c.args.page.now ++ drop 0 xs)) c.remove_range.ensures.items in
    unpack_is old c.args.page.now (queue_of c.args.queue.now) c.insert_from_slice.new.self.items (seg_of c.from-first.result) _ c.requires.some refl whole items
