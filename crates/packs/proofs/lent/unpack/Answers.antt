use Rattle.std.proofs.Common.{take, drop, ◌++◌, refl, ap, ◌∙◌, arith}
use Rattle.std.proofs.lemmas.List.{length-take-le}
use Rattle.segs.specs.Model.{seg_of}
use Rattle.packs.specs.Slots.{queue_with}
use Rattle.packs.proofs.Packing.{unpack_is}
use Rattle.packs.proofs.lent.unpack.Goals as goal

pub returns-clause-unpacks : goal.returns-clause-unpacks
returns-clause-unpacks c f b s n =
    let old = take c.args.count c.args.segments.now in
    let items = c.insert_from_slice.ensures.items ∙ ap (λ xs. take 0 xs ++ (c.args.page.now ++ drop 0 xs)) c.remove_range-left.ensures.items in
    unpack_is old c.args.page.now (queue_with f b s n old) (take c.insert_from_slice.result c.insert_from_slice.new.slots) (seg_of c.from-first.result) _ (omega (arith, length-take-le c.args.count c.args.segments.now (omega (arith, c.requires.room)), c.requires.some)) refl c.from-first.ensures.is items
