use Rattle.std.proofs.Common.{List, ℕ, ◌++◌, take, drop, ap, ◌∙◌, arith}
use Rattle.std.proofs.lemmas.List.{take-map}
use Rattle.words.specs.Items.{words_in, whole}
use Rattle.words.proofs.Chunks.{items_kept, parts_whole}
use Rattle.words.proofs.Tables.{many_lent}
use Rattle.words.proofs.items.remove_range.Goals as goal

pub remove_range-requires-clause-whole : goal.remove_range-requires-clause-whole
remove_range-requires-clause-whole g c = omega (arith, c.requires.whole, many_lent g.row.N c.args.words.now c.as_items_mut-items.ensures.value.0)

pub returns-clause-items : goal.returns-clause-items
returns-clause-items g c =
    let r = c.remove_range in
    ap (take r.result) (items_kept g.row.N c.args.words.now r.new.slots c.as_items_mut-items.ensures.value r.auto.slots)
    ∙ take-map (words_in g.row.N) r.result r.new.slots ∙ ap (whole g.row.N) r.ensures.items
    ∙ ap (λ (xs : List (List ℕ)). whole g.row.N (take c.args.range.start (take c.args.count xs) ++ drop c.args.range.end (take c.args.count xs))) c.as_items_mut-items.ensures.value.0
    ∙ parts_whole g.row.N c.args.words.now c.args.range.start c.args.range.end c.args.count
