use Rattle.std.proofs.Common.{List, ℕ, set, length-set, ap, ◌∙◌, arith}
use Rattle.words.specs.Items.{whole}
use Rattle.words.proofs.Chunks.{items_kept, rest_kept}
use Rattle.words.proofs.Tables.{many_lent}
use Rattle.words.proofs.items.set_item.Goals as goal

pub bounds-items-i : goal.bounds-items-i
bounds-items-i g c = omega (arith, c.requires.within, many_lent g.row.N c.args.words.now c.as_items_mut-items.ensures.value.0)

pub returns-clause-items : goal.returns-clause-items
returns-clause-items g c =
    let got = c.as_items_mut-items.result.0.now in
    items_kept g.row.N c.args.words.now (set got c.args.i c.args.item) c.as_items_mut-items.ensures.value (length-set got c.args.i c.args.item)
    ∙ ap (λ (xs : List (List ℕ)). whole g.row.N (set xs c.args.i c.args.item)) c.as_items_mut-items.ensures.value.0

pub returns-clause-rest : goal.returns-clause-rest
returns-clause-rest g c =
    let got = c.as_items_mut-items.result.0.now in
    rest_kept g.row.N c.args.words.now (set got c.args.i c.args.item) c.as_items_mut-items.ensures.value (length-set got c.args.i c.args.item)
