use Rattle.std.proofs.Common.{◌≡◌, true, false, rules}
use Rattle.std.proofs.lemmas.Iterator.{cases_from_all, YieldsList-from_slice}
use Rattle.streams.specs.Calls.{stage_ok}
use Rattle.plans.specs.Model.{stage_of}
use Rattle.plans.proofs.Every.{every_by_cases}
use Rattle.plans.proofs.stages.all_valid.Goals as goal

pub returns : goal.returns
returns c =
    every_by_cases stage_ok stage_of c.args.stages.now _
    (cases_from_all _ _ _ (λ x. stage_ok (stage_of x) ≡ true) (λ x. stage_ok (stage_of x) ≡ false) c.all.ensures.ran (YieldsList-from_slice c.args.stages.now cc) (λ x q k. search rules) (λ x q k. search rules))
