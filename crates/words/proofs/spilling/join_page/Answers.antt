use Rattle.std.proofs.Common.{arith}
use Rattle.words.proofs.Chunks.{length_kept}
use Rattle.words.proofs.Tables.{rows_kept, many_lent}
use Rattle.words.proofs.spilling.join_page.Goals as goal

pub join_page-requires-clause-out : goal.join_page-requires-clause-out
join_page-requires-clause-out c = omega (arith, c.requires.out, many_lent 4 c.args.out.now c.as_items_mut-out.ensures.value.0)

pub join_page-requires-clause-upper : goal.join_page-requires-clause-upper
join_page-requires-clause-upper c = omega (arith, c.requires.upper, many_lent 4 c.args.upper.now c.as_items_mut-upper.ensures.value.0)

pub returns-clause-is : goal.returns-clause-is
returns-clause-is c = λ n.
    let out = rows_kept c.join_page.result.out c.args.out.now c.join_page.new.out c.as_items_mut-out.ensures.value c.join_page.auto.out in
    let upper = rows_kept c.join_page.result.upper c.args.upper.now c.join_page.new.upper c.as_items_mut-upper.ensures.value c.join_page.auto.upper in
    rw (out, upper, ← c.as_items_mut-out.ensures.value.0) (c.join_page.ensures.is n)

pub returns-clause-few : goal.returns-clause-few
returns-clause-few c =
    let out = rows_kept c.join_page.result.out c.args.out.now c.join_page.new.out c.as_items_mut-out.ensures.value c.join_page.auto.out in
    let upper = rows_kept c.join_page.result.upper c.args.upper.now c.join_page.new.upper c.as_items_mut-upper.ensures.value c.join_page.auto.upper in
    rw (out, upper) c.join_page.ensures.few

pub returns-clause-fits : goal.returns-clause-fits
returns-clause-fits c =
    let room = many_lent 4 c.args.upper.now c.as_items_mut-upper.ensures.value.0 in
    omega (arith, c.join_page.ensures.fits, c.join_page.auto.upper, room, length_kept 4 c.args.upper.now c.join_page.new.upper c.as_items_mut-upper.ensures.value c.join_page.auto.upper)
