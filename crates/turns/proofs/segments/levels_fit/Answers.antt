use Rattle.std.proofs.Common.{suc, ◌<◌, ◌≤◌, slice_index, rules, tests}
use Rattle.std.proofs.lemmas.Iterator.{cases_from_all, YieldsList-from_slice}
use Rattle.streams.specs.Meaning.{top}
use Rattle.turns.proofs.Levels.{fit_by_cases}
use Rattle.turns.proofs.segments.levels_fit.Goals as goal

pub returns : goal.returns
returns c =
    fit_by_cases c.args.segments.now _
    (cases_from_all _ _ _ (λ x. suc (slice_index x 5) < top) (λ x. top ≤ suc (slice_index x 5)) c.all.ensures.ran (YieldsList-from_slice c.args.segments.now cc) (λ x q k. search (rules, tests)) (λ x q k. search (rules, tests)))
