use Rattle.std.proofs.Common.{arith}
use Rattle.words.proofs.Tables.{segs_kept, many_lent}
use Rattle.words.proofs.packing.unpack.Goals as goal

pub unpack-requires-clause-room : goal.unpack-requires-clause-room
unpack-requires-clause-room c = omega (arith, c.requires.room, many_lent 6 c.args.segments.now c.as_items_mut-segments.ensures.value.0)

pub returns-clause-unpacks : goal.returns-clause-unpacks
returns-clause-unpacks c = λ f b s n.
    let segments = segs_kept c.unpack.result.segments c.args.segments.now c.unpack.new.segments c.as_items_mut-segments.ensures.value c.unpack.auto.segments in
    rw (segments, ← c.as_items_mut-segments.ensures.value.0) (c.unpack.ensures.unpacks f b s n)
