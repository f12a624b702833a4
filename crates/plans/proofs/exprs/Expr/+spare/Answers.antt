use Rattle.std.proofs.Common.{rules}
use Rattle.plans.proofs.Parts.{spare_num, spare_field, spare_none, spare_not, spare_left, spare_both}
use Rattle.plans.proofs.exprs.Expr.+spare.Goals as goal

pub returns-in_err-left : goal.returns-in_err-left
returns-in_err-left t c = rw c.from_residual.ensures (spare_none _ c.in_err-left.ensures)

pub returns-in_err-spare-in-Plus : goal.returns-in_err-spare-in-Plus
returns-in_err-spare-in-Plus t c =
    rw c.from_residual-in_err-spare-in-Plus.ensures
    (spare_left _ c.in-Plus.a c.in-Plus.b c.in-Plus.is c.in_ok-left.ensures (rw c.deref-in-Plus-2.ensures at c.in_err-spare-in-Plus.ensures))

pub returns-in-Not : goal.returns-in-Not
returns-in-Not t c = spare_not _ c.in-Not.a c.in-Not.is c.in_ok-left.ensures _ (rw c.deref.ensures at c.spare.ensures)

pub returns-in-Num : goal.returns-in-Num
returns-in-Num t c = spare_num _ _ c.in-Num.is (search rules) c.in_ok-left.ensures

pub returns-in-Time : goal.returns-in-Time
returns-in-Time t c = spare_field _ c.in-Time.is c.in_ok-left.ensures

pub returns-in_ok-spare-in-Plus : goal.returns-in_ok-spare-in-Plus
returns-in_ok-spare-in-Plus t c =
    spare_both _ c.in-Plus.a c.in-Plus.b c.in-Plus.is c.in_ok-left.ensures _ (rw c.deref-in-Plus-2.ensures at c.in_ok-spare-in-Plus.ensures) _ (rw c.deref-in-Plus.ensures at c.spare-in-Plus-2.ensures)

pub returns-in-Time-2 : goal.returns-in-Time-2
returns-in-Time-2 t c = spare_field _ c.in-Time.is c.in_ok-left.ensures

pub returns-in-Time-3 : goal.returns-in-Time-3
returns-in-Time-3 t c = spare_field _ c.in-Time.is c.in_ok-left.ensures
