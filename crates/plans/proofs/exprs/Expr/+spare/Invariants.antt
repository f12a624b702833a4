use Rattle.plans.proofs.exprs.Expr.+spare.Given as goal

abbrev pub decreases-spare : goal.decreases-spare
decreases-spare l = l.most
