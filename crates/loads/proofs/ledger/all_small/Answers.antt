use Rattle.std.proofs.Common.{List, ℕ, ◌∙◌, rules, tests}
use Rattle.std.proofs.lemmas.Iterator.{YieldsList-from_slice}
use Rattle.std.proofs.lemmas.Iterator.Search.{all_from_yields_List}
use Rattle.streams.specs.Calls.{small}
use Rattle.book.specs.Ledger.{Taken}
use Rattle.marks.specs.Model.{taken_in}
use Rattle.rows.proofs.Every.{every_is}
use Rattle.loads.proofs.ledger.all_small.Goals as goal

pub returns : goal.returns
returns c =
    all_from_yields_List (λ (w : List ℕ). small (taken_in w).latest) _ _ _ c.all.ensures.ran (YieldsList-from_slice c.args.logs.now cc) (λ x b q k. search (rules, tests))
    ∙ every_is (λ (t : Taken). small t.latest) taken_in c.args.logs.now
