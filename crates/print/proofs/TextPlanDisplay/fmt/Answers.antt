use Rattle.std.proofs.Common.{◌++◌, codes, decimal, map, refl, sym, ap, ◌∙◌, append-nil, take_all}
use Rattle.std.proofs.Output.{has_written_append, has_written_of_eq}
use Rattle.plans.specs.Model.{stage_of}
use Rattle.grammar.specs.Printing.{text_of_stages, printed}
use Rattle.print.proofs.Stages.{stage_more}
use Rattle.print.proofs.TextPlanDisplay.fmt.Goals as goal

pub loop-stage-init : goal.loop-stage-init
unfolding text_of_stages
loop-stage-init g c =
    λ p. has_written_of_eq _ _ _ _ _ (ap (λ l. codes "late " ++ l) (sym (append-nil (decimal c.args.self.now.0.now.late.0)))) (c.in_ok-write.ensures.writes p refl)

pub loop-stage-preserved : goal.loop-stage-preserved
loop-stage-preserved g c =
    λ p. has_written_of_eq _ _ _ _ _ (stage_more (codes "late ") (decimal c.args.self.now.0.now.late.0) c.deref-stage-items.result.now c.loop-stage.stage-index c.stage-item.result c.loop-stage-test.true c.stage-item.is)
    (has_written_append _ _ _ _ _ _ (c.loop-stage.invariant p) (c.in_ok-write-2.ensures.writes (c.loop-stage.invariant p).plain refl))

pub returns-clause-writes : goal.returns-clause-writes
unfolding printed
returns-clause-writes g c =
    λ p ok. has_written_of_eq _ _ _ _ _
    (ap (λ xs. codes "late " ++ (decimal c.args.self.now.0.now.late.0 ++ text_of_stages (map stage_of xs))) (take_all c.loop-stage.stage-index c.deref-stage-items.result.now c.loop-stage-test.false ∙ c.deref-stage-items.ensures.value))
    (c.loop-stage.invariant p)
