use Rattle.std.proofs.Common.{arith}
use Rattle.words.proofs.Tables.{segs_kept, many_lent}
use Rattle.words.proofs.packing.pack.Goals as goal

pub pack-requires-clause-whole : goal.pack-requires-clause-whole
pack-requires-clause-whole c = omega (arith, c.requires.whole, many_lent 6 c.args.segments.now c.as_items_mut-segments.ensures.value.0)

pub pack-requires-clause-room : goal.pack-requires-clause-room
pack-requires-clause-room c = omega (arith, c.requires.room, many_lent 6 c.args.page.now c.as_items_mut-page.ensures.value.0)

pub returns-clause-packs : goal.returns-clause-packs
returns-clause-packs c =
    let segments = segs_kept c.pack.result.segments c.args.segments.now c.pack.new.segments c.as_items_mut-segments.ensures.value c.pack.auto.segments in
    let page = segs_kept c.pack.result.page c.args.page.now c.pack.new.page c.as_items_mut-page.ensures.value c.pack.auto.page in
    record {
      queue = λ z e f b s. rw (segments, ← c.as_items_mut-segments.ensures.value.0) (c.pack.ensures.packs.queue z e f b s);
      writes = λ z e f b s. rw (page, ← c.as_items_mut-segments.ensures.value.0) (c.pack.ensures.packs.writes z e f b s);
    }
