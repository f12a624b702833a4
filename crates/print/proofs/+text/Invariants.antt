use Rattle.std.proofs.Common.{◌+◌, ◌*◌, max}
use Rattle.plans.proofs.exprs.Expr.TheLaws.{the_size}
use Rattle.print.proofs.+text.Given as goal

abbrev pub decreases-TextExprDisplay::fmt : goal.decreases-TextExprDisplay::fmt
decreases-TextExprDisplay::fmt g l = 3 * the_size l.self.now.0.now

abbrev pub decreases-WithinDisplay::fmt : goal.decreases-WithinDisplay::fmt
decreases-WithinDisplay::fmt g l = 3 * the_size l.self.now.1.now + 1

abbrev pub decreases-PairDisplay::fmt : goal.decreases-PairDisplay::fmt
decreases-PairDisplay::fmt g l = 3 * max (the_size l.self.now.0.1.now) (the_size l.self.now.2.1.now) + 2
