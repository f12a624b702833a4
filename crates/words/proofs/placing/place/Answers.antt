use Rattle.std.proofs.Common.{sym, subst, arith}
use Rattle.book.specs.Rows.{Sorted}
use Rattle.words.proofs.Tables.{rows_kept, many_lent}
use Rattle.words.proofs.placing.place.Goals as goal

pub place-requires-clause-front : goal.place-requires-clause-front
place-requires-clause-front c = omega (arith, c.requires.front, many_lent 4 c.args.front.now c.as_items_mut-front.ensures.value.0)

pub place-requires-clause-buffer : goal.place-requires-clause-buffer
place-requires-clause-buffer c = omega (arith, c.requires.buffer, many_lent 4 c.args.buffer.now c.as_items_mut-buffer.ensures.value.0)

pub returns-clause-placed : goal.returns-clause-placed
returns-clause-placed c = λ source next.
    let front = rows_kept c.place.result.front c.args.front.now c.place.new.front c.as_items_mut-front.ensures.value c.place.auto.front in
    let buffer = rows_kept c.place.result.buffer c.args.buffer.now c.place.new.buffer c.as_items_mut-buffer.ensures.value c.place.auto.buffer in
    rw (front, buffer, ← c.as_items_mut-front.ensures.value.0, ← c.as_items_mut-buffer.ensures.value.0) (c.place.ensures.placed source next)

pub returns-clause-sorted : goal.returns-clause-sorted
returns-clause-sorted c =
    let front = rows_kept c.place.result.front c.args.front.now c.place.new.front c.as_items_mut-front.ensures.value c.place.auto.front in
    let buffer = rows_kept c.place.result.buffer c.args.buffer.now c.place.new.buffer c.as_items_mut-buffer.ensures.value c.place.auto.buffer in
    (subst Sorted (sym front) c.place.ensures.sorted.0, subst Sorted (sym buffer) c.place.ensures.sorted.1)
