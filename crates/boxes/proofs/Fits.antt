-- What a plan within its limits, and events whose times were looked at, give.
-- Assumes nothing.
use Rattle.std.proofs.Common.{◌≡◌, refl, ℕ, ◌^◌, ◌<◌, Bool, true, false, ◌&&◌, T, List, [], ◌∷◌, map, All, sym, subst, arith, ◌∙◌}
use Rattle.std.proofs.lemmas.List.Elements.{All-nil, All-cons}
use Rattle.std.proofs.lemmas.Bool.{ltb-true}
use Rattle.streams.specs.Meaning.{Event}
use Rattle.streams.specs.Calls.{every, small, plan_ok}
use Rattle.book.specs.Small.{StagesFit}
use Rattle.book.proofs.Laws.{plan_small}
use Rattle.plans.specs.declared.stages.Plan.{Plan}
use Rattle.plans.specs.declared.stages.Stage.{Stage}
use Rattle.plans.specs.Model.{plan_of, stage_of}

pub stages_fit : (p : Plan) (stages : List Stage) (b : Bool) → b ≡ plan_ok (plan_of p) → b ≡ true → map stage_of stages ≡ (plan_of p).stages → StagesFit (map stage_of stages)
stages_fit p stages b e t s = subst StagesFit (sym s) (plan_small (plan_of p) (subst T (sym (sym e ∙ t)) tt)).stages

pub all_times : (es : List Event) (b : Bool) → b ≡ every (λ e. small e.time) es → b ≡ true → All (λ e. e.time < 2 ^ 62) es
unfolding every
all_times [] b e t = All-nil (λ (e : Event). e.time < 2 ^ 62)
all_times (x ∷ xs) b e t = go (small x.time) refl (sym e ∙ t) (λ r. all_times xs true (sym r) refl)
  where
    go : (c : Bool) → small x.time ≡ c → c && every (λ e. small e.time) xs ≡ true → (every (λ e. small e.time) xs ≡ true → All (λ e. e.time < 2 ^ 62) xs) → All (λ e. e.time < 2 ^ 62) (x ∷ xs)
    go true s r more = All-cons (λ (e : Event). e.time < 2 ^ 62) x xs (omega (arith, ltb-true x.time 4611686018427387904 s)) (more r)
    go false s r more = absurd (let z : ◌≡◌ {A = ℕ} 0 1 = cc in omega arith)
