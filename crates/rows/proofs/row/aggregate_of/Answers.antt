use Rattle.std.proofs.Common.{◌≡◌, ℕ, zero, suc, ◌<◌, ◌≤◌, List, [], ◌∷◌, length, get_or, refl, ap, ◌∙◌, arith}
use Rattle.streams.specs.Meaning as spec
use Rattle.book.specs.Flow.{how_of}
use Rattle.plans.specs.declared.stages.Stage.{Stage}
use Rattle.plans.specs.Model.{as_sum}
use Rattle.rows.specs.Model.{aggregates_of}
use Rattle.rows.proofs.row.aggregate_of.Goals as goal

at : (sts : List Stage) (i : ℕ) (d : Stage) → i < length sts → as_sum (get_or sts i d).aggregate ≡ aggregates_of sts i
unfolding how_of
at [] i d h = absurd (omega arith)
at (st ∷ sts) zero d h = refl
at (st ∷ sts) (suc i) d h = at sts i d (omega arith)

past : (sts : List Stage) (i : ℕ) → length sts ≤ i → spec.Count ≡ aggregates_of sts i
unfolding how_of
past [] i h = refl
past (st ∷ sts) zero h = absurd (omega arith)
past (st ∷ sts) (suc i) h = past sts i (omega arith)

pub returns-in-Some : goal.returns-in-Some
returns-in-Some c =
    let e = c.in-Some.ensures.lookup.3 in
    ap (λ (st : Stage). as_sum st.aggregate) (e.1 c.in-Some.stage.now) ∙ at c.args.stages.now c.args.stage.0 c.in-Some.stage.now e.0

pub returns-in-None : goal.returns-in-None
returns-in-None c = past c.args.stages.now c.args.stage.0 c.in-None.ensures.lookup.3
