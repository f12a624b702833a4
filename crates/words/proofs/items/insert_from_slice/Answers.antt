use Rattle.std.proofs.Common.{List, ℕ, ◌++◌, take, drop, ap, ◌∙◌, arith}
use Rattle.std.proofs.lemmas.List.{take-map}
use Rattle.words.specs.Items.{words_in, whole}
use Rattle.words.proofs.Chunks.{items_kept}
use Rattle.words.proofs.Tables.{many_lent}
use Rattle.words.proofs.items.insert_from_slice.Goals as goal

pub insert_from_slice-requires-clause-room : goal.insert_from_slice-requires-clause-room
insert_from_slice-requires-clause-room g c = omega (arith, c.requires.room, many_lent g.row.N c.args.words.now c.as_items_mut-items.ensures.value.0)

pub returns-clause-items : goal.returns-clause-items
returns-clause-items g c =
    let i = c.insert_from_slice in
    ap (take i.result) (items_kept g.row.N c.args.words.now i.new.slots c.as_items_mut-items.ensures.value i.auto.slots)
    ∙ take-map (words_in g.row.N) i.result i.new.slots ∙ ap (whole g.row.N) i.ensures.items
    ∙ ap (λ (xs : List (List ℕ)). whole g.row.N (take c.args.i (take c.args.count xs) ++ (c.args.from.now ++ drop c.args.i (take c.args.count xs)))) c.as_items_mut-items.ensures.value.0
