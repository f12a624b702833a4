use Rattle.std.proofs.Common.{sym, subst, arith}
use Rattle.book.specs.Rows.{Sorted}
use Rattle.words.proofs.Tables.{rows_kept, many_lent}
use Rattle.words.proofs.adding.take_share.Goals as goal

pub take_share-requires-clause-whole : goal.take_share-requires-clause-whole
take_share-requires-clause-whole c = omega (arith, c.requires.whole, many_lent 4 c.args.words.now c.as_items_mut-rows.ensures.value.0)

pub take_share-requires-clause-room : goal.take_share-requires-clause-room
take_share-requires-clause-room c = omega (arith, c.requires.room, many_lent 4 c.args.to.now c.as_items_mut-share.ensures.value.0)

pub returns-clause-shared : goal.returns-clause-shared
returns-clause-shared c =
    let moved = rows_kept c.take_share.result.moved c.args.to.now c.take_share.new.to c.as_items_mut-share.ensures.value c.take_share.auto.to in
    let left = rows_kept c.take_share.result.left c.args.words.now c.take_share.new.slots c.as_items_mut-rows.ensures.value c.take_share.auto.slots in
    rw (moved, left, ← c.as_items_mut-rows.ensures.value.0) c.take_share.ensures.shared

pub returns-clause-sorted : goal.returns-clause-sorted
returns-clause-sorted c =
    let moved = rows_kept c.take_share.result.moved c.args.to.now c.take_share.new.to c.as_items_mut-share.ensures.value c.take_share.auto.to in
    let left = rows_kept c.take_share.result.left c.args.words.now c.take_share.new.slots c.as_items_mut-rows.ensures.value c.take_share.auto.slots in
    (subst Sorted (sym moved) c.take_share.ensures.sorted.0, subst Sorted (sym left) c.take_share.ensures.sorted.1)
