use Rattle.plans.proofs.exprs.Expr.TheLaws.{the_size}
use Rattle.plans.proofs.exprs.Expr.+eval.Given as goal

abbrev pub decreases-eval : goal.decreases-eval
decreases-eval l = the_size l.self.now
