use Rattle.std.proofs.lemmas.Grind.{common_steps}
use Rattle.std.proofs.Common.{◌≡◌, ◌+◌, ◌-◌, sym, ◌∙◌, arith}
use Rattle.std.proofs.lemmas.Result.{err_from_is_err_and}
use Rattle.plans.specs.Model.{expr_of}
use Rattle.grammar.specs.Reading.{bracket}
use Rattle.grammar.proofs.Readers.{parts_some, after_got, chained_got, single_ok, single_bad, expression_two}
use Rattle.tokens.proofs.Hands.{after_stop, stop_as}
use Rattle.formulas.proofs.Chains.{chain_ends, join_parts, turn, factor_fewer}
use Rattle.formulas.proofs.reader.+bracket_chain_compared_factor_operand.Goals as goal

pub chain-loop-op-init : goal.chain-loop-op-init
chain-loop-op-init t c =
    record {
      turns = 64;
      enough = omega (arith, parts_some (expr_of c.in_ok-left.left.expr));
      is = chained_got c.args.level (bracket c.args.deep) c.args.b.now c.in_ok-left.ensures;
    }

pub chain-returns-in_default : goal.chain-returns-in_default
chain-returns-in_default t c = chain_ends c.args.level (bracket c.args.deep) c.args.b.now (expr_of c.loop-op.left.expr) c.loop-op.rest.now c.skip-sign.result.now c.loop-op.invariant (omega arith) c.skip-sign.ensures.is c.in_default.ensures

pub chain-returns-in_err-right : goal.chain-returns-in_err-right
chain-returns-in_err-right t c =
    let p = err_from_is_err_and c.from_residual-in_err-right.result c.from_residual-in_err-right.ensures.1 in
    rw (p.1, p.2) (stop_as c.in_err-right.field-0.0
    (turn c.args.level (bracket c.args.deep) c.args.b.now (expr_of c.loop-op.left.expr) c.loop-op.rest.now c.skip-sign.result.now c.in-Some.behind.now c.in-Some.op c.loop-op.invariant (omega arith) c.skip-sign.ensures.is c.in-Some.ensures.0 c.in-Some.ensures.1)
    (after_stop _ _ c.in_err-right.field-0.0 c.in_err-right.ensures))

pub chain-returns-in_err-left-2 : goal.chain-returns-in_err-left-2
chain-returns-in_err-left-2 t c =
    let p = err_from_is_err_and c.from_residual-in_err-left-2.result c.from_residual-in_err-left-2.ensures.1 in
    rw (p.1, p.2) (stop_as c.in_err-left-2.field-0.0
    (turn c.args.level (bracket c.args.deep) c.args.b.now (expr_of c.loop-op.left.expr) c.loop-op.rest.now c.skip-sign.result.now c.in-Some.behind.now c.in-Some.op c.loop-op.invariant (omega arith) c.skip-sign.ensures.is c.in-Some.ensures.0 c.in-Some.ensures.1 ∙ after_got _ _ c.in_ok-right.ensures)
    (after_stop _ _ c.in_err-left-2.field-0.0 (c.in_err-left-2.ensures c.in_ok-right.end.now)))

pub chain-loop-op-smaller : goal.chain-loop-op-smaller
chain-loop-op-smaller t c =
    let more = join_parts c.in-Some.op c.skip-sign.result.now (expr_of c.loop-op.left.expr) (expr_of c.in_ok-right.right.expr) c.in_ok-right.end.now c.in_ok-right.end.now (c.in_ok-left-2.ensures c.in_ok-right.end.now) in
    omega arith

pub chain-loop-op-preserved : goal.chain-loop-op-preserved
chain-loop-op-preserved t c =
    let going = c.loop-op.invariant in
    let end = c.in_ok-right.end.now in
    let made = c.in_ok-left-2.ensures end in
    let more = join_parts c.in-Some.op c.skip-sign.result.now (expr_of c.loop-op.left.expr) (expr_of c.in_ok-right.right.expr) end end made in
    record {
      turns = going.turns - 1;
      enough = omega arith;
      is =
          turn c.args.level (bracket c.args.deep) c.args.b.now (expr_of c.loop-op.left.expr) c.loop-op.rest.now c.skip-sign.result.now c.in-Some.behind.now c.in-Some.op c.loop-op.invariant (omega arith) c.skip-sign.ensures.is c.in-Some.ensures.0 c.in-Some.ensures.1
          ∙ after_got _ _ c.in_ok-right.ensures
          ∙ after_got _ _ made;
    }

pub compared-returns-in_err-right : goal.compared-returns-in_err-right
compared-returns-in_err-right t c =
    let p = err_from_is_err_and c.from_residual-in_err-right.result c.from_residual-in_err-right.ensures.1 in
    rw (p.1, p.2) (stop_as c.in_err-right.field-0.0
    (expression_two c.args.deep c.args.b.now c.skip-sign.result.now c.in-Some.behind.now c.in_ok-left.ensures c.skip-sign.ensures.is (sym c.in-Some.ensures.1) c.in-Some.ensures.0)
    (after_stop _ _ c.in_err-right.field-0.0 c.in_err-right.ensures))

pub compared-returns-in_err-both : goal.compared-returns-in_err-both
compared-returns-in_err-both t c =
    let p = err_from_is_err_and c.from_residual-in_err-both.result c.from_residual-in_err-both.ensures.1 in
    rw (p.1, p.2) (stop_as c.in_err-both.field-0.0
    (expression_two c.args.deep c.args.b.now c.skip-sign.result.now c.in-Some.behind.now c.in_ok-left.ensures c.skip-sign.ensures.is (sym c.in-Some.ensures.1) c.in-Some.ensures.0 ∙ after_got _ _ c.in_ok-right.ensures)
    (after_stop _ _ c.in_err-both.field-0.0 (c.in_err-both.ensures c.in_ok-right.rest.now)))

pub compared-returns-in-None : goal.compared-returns-in-None
compared-returns-in-None t c =
    expression_two c.args.deep c.args.b.now c.skip-sign.result.now c.in-Some.behind.now c.in_ok-left.ensures c.skip-sign.ensures.is (sym c.in-Some.ensures.1) c.in-Some.ensures.0
    ∙ after_got _ _ c.in_ok-right.ensures
    ∙ after_got _ _ (c.in_ok-both.ensures c.in_ok-right.rest.now)
    ∙ single_ok _ _ c.skip-end.result.now c.skip-end.result.now c.skip-end.ensures.is c.in-None.ensures

pub compared-returns-in-Some-operator : goal.compared-returns-in-Some-operator
compared-returns-in-Some-operator t c =
    rw c.into.ensures
    (expression_two c.args.deep c.args.b.now c.skip-sign.result.now c.in-Some.behind.now c.in_ok-left.ensures c.skip-sign.ensures.is (sym c.in-Some.ensures.1) c.in-Some.ensures.0
    ∙ after_got _ _ c.in_ok-right.ensures
    ∙ after_got _ _ (c.in_ok-both.ensures c.in_ok-right.rest.now)
    ∙ single_bad _ _ c.skip-end.result.now c.skip-end.result.now c.skip-end.ensures.is c.in-Some-operator.ensures.0)

pub factor-returns-in_err-inner : goal.factor-returns-in_err-inner
factor-returns-in_err-inner t c =
    let p = err_from_is_err_and c.from_residual-in_err-inner.result c.from_residual-in_err-inner.ensures.1 in
    let fewer : c.args.nots ≡ c.in_ok-fewer.fewer + 1 = grind (arith, common_steps, c.in_ok-fewer.was, c.ok_or.ensures, c.checked_sub.ensures) in
    rw (p.1, p.2) (stop_as c.in_err-inner.field-0.0
    (factor_fewer (bracket c.args.deep) c.args.nots c.in_ok-fewer.fewer c.args.b.now c.skip-sign.result.now c.in-Some.behind.now c.skip-sign.ensures.is (sym c.in-Some.ensures.here.1) fewer c.in-Some.ensures.here.0)
    (after_stop _ _ c.in_err-inner.field-0.0 c.in_err-inner.ensures))

pub factor-returns-in_err-negated : goal.factor-returns-in_err-negated
factor-returns-in_err-negated t c =
    let p = err_from_is_err_and c.from_residual-in_err-negated.result c.from_residual-in_err-negated.ensures.1 in
    let fewer : c.args.nots ≡ c.in_ok-fewer.fewer + 1 = grind (arith, common_steps, c.in_ok-fewer.was, c.ok_or.ensures, c.checked_sub.ensures) in
    rw (p.1, p.2) (stop_as c.in_err-negated.field-0.0
    (factor_fewer (bracket c.args.deep) c.args.nots c.in_ok-fewer.fewer c.args.b.now c.skip-sign.result.now c.in-Some.behind.now c.skip-sign.ensures.is (sym c.in-Some.ensures.here.1) fewer c.in-Some.ensures.here.0 ∙ after_got _ _ c.in_ok-inner.ensures)
    (c.in_err-negated.ensures c.in_ok-inner.rest.now))

pub factor-returns-in-Some : goal.factor-returns-in-Some
factor-returns-in-Some t c =
    let fewer : c.args.nots ≡ c.in_ok-fewer.fewer + 1 = grind (arith, common_steps, c.in_ok-fewer.was, c.ok_or.ensures, c.checked_sub.ensures) in
    factor_fewer (bracket c.args.deep) c.args.nots c.in_ok-fewer.fewer c.args.b.now c.skip-sign.result.now c.in-Some.behind.now c.skip-sign.ensures.is (sym c.in-Some.ensures.here.1) fewer c.in-Some.ensures.here.0
    ∙ after_got _ _ c.in_ok-inner.ensures
    ∙ c.in_ok-negated.ensures c.in_ok-inner.rest.now
