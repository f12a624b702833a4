use Rattle.std.proofs.Common.{ap, ◌∙◌, rules}
use Rattle.plans.specs.Model.{expr_of}
use Rattle.plans.proofs.Steps.{at_num, at_time, at_key, at_value, at_plus, at_minus, at_times, at_quotient_0, at_quotient, at_rest_0, at_rest, at_less, at_same, at_not}
use Rattle.plans.proofs.exprs.Expr.+eval.Goals as goal

pub returns-in-Num : goal.returns-in-Num
returns-in-Num t c = at_num _ (ap expr_of c.in-Num.is) (search rules)

pub returns-in-Time : goal.returns-in-Time
returns-in-Time t c = at_time _ (ap expr_of c.in-Time.is)

pub returns-in-Key : goal.returns-in-Key
returns-in-Key t c = at_key _ (ap expr_of c.in-Key.is)

pub returns-in-Value : goal.returns-in-Value
returns-in-Value t c = at_value _ (ap expr_of c.in-Value.is)

pub returns-in-Plus : goal.returns-in-Plus
returns-in-Plus t c = at_plus _ (rw c.deref.ensures at c.eval.ensures) (rw c.deref-in-Plus.ensures at c.eval-in-Plus.ensures) (ap expr_of c.in-Plus.is)

pub returns-in-Minus : goal.returns-in-Minus
returns-in-Minus t c =
    at_minus _ (rw c.deref-in-Minus.ensures at c.eval-in-Minus.ensures) (rw c.deref-in-Minus-2.ensures at c.eval-in-Minus-2.ensures) (ap expr_of c.in-Minus.is)

pub returns-in-Times : goal.returns-in-Times
returns-in-Times t c =
    at_times _ (rw c.deref-in-Times.ensures at c.eval-in-Times.ensures) (rw c.deref-in-Times-2.ensures at c.eval-in-Times-2.ensures) (ap expr_of c.in-Times.is)

pub returns-then-by-eq0 : goal.returns-then-by-eq0
returns-then-by-eq0 t c = at_quotient_0 _ (rw c.deref-in-Quotient.ensures at c.eval-by.ensures) (ap expr_of c.in-Quotient.is) c.if-by-eq0.true

pub returns-else-by-eq0 : goal.returns-else-by-eq0
returns-else-by-eq0 t c =
    at_quotient _ (rw c.deref-else-by-eq0.ensures at c.eval-else-by-eq0.ensures) (rw c.deref-in-Quotient.ensures at c.eval-by.ensures) (ap expr_of c.in-Quotient.is) c.if-by-eq0.false

pub returns-then-by-eq0-2 : goal.returns-then-by-eq0-2
returns-then-by-eq0-2 t c = at_rest_0 _ (rw c.deref-in-Rest.ensures at c.eval-by-in-Rest.ensures) (ap expr_of c.in-Rest.is) c.if-by-eq0-2.true

pub returns-else-by-eq0-2 : goal.returns-else-by-eq0-2
returns-else-by-eq0-2 t c =
    at_rest _ (rw c.deref-else-by-eq0-2.ensures at c.eval-else-by-eq0-2.ensures) (rw c.deref-in-Rest.ensures at c.eval-by-in-Rest.ensures) (ap expr_of c.in-Rest.is) c.if-by-eq0-2.false

pub returns-in-Less : goal.returns-in-Less
returns-in-Less t c =
    c.from.ensures ∙ at_less _ (rw c.deref-in-Less.ensures at c.eval-in-Less.ensures) (rw c.deref-in-Less-2.ensures at c.eval-in-Less-2.ensures) (ap expr_of c.in-Less.is)

pub returns-in-Same : goal.returns-in-Same
returns-in-Same t c =
    c.from-in-Same.ensures ∙ at_same _ (rw c.deref-in-Same.ensures at c.eval-in-Same.ensures) (rw c.deref-in-Same-2.ensures at c.eval-in-Same-2.ensures) (ap expr_of c.in-Same.is)

pub returns-in-Not : goal.returns-in-Not
returns-in-Not t c = c.from-in-Not.ensures ∙ at_not _ (rw c.deref-in-Not.ensures at c.eval-in-Not.ensures) (ap expr_of c.in-Not.is)
