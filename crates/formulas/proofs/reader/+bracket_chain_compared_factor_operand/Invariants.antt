use Rattle.std.proofs.Common.{ℕ, ◌+◌, ◌-◌, ◌*◌}
use Rattle.plans.specs.Model.{expr_of}
use Rattle.grammar.specs.declared.operators.Level.{Level}
use Rattle.grammar.specs.declared.operators.Level.TheVariants.{Sum, Product}
use Rattle.grammar.specs.Reading.{bracket}
use Rattle.formulas.proofs.Chains.{Going}
use Rattle.formulas.proofs.reader.+bracket_chain_compared_factor_operand.Given as goal

-- a sum is read before its operands, which are products
abbrev rank : Level → ℕ
rank Sum = 700
rank Product = 500

abbrev pub decreases-bracket : goal.decreases-bracket
decreases-bracket l = 1000 * l.deep + 950

abbrev pub decreases-chain : goal.decreases-chain
decreases-chain l = 1000 * l.deep + rank l.level + 100

abbrev pub decreases-compared : goal.decreases-compared
decreases-compared l = 1000 * l.deep + 900

abbrev pub decreases-factor : goal.decreases-factor
decreases-factor l = 1000 * l.deep + 100 + l.nots

abbrev pub decreases-operand : goal.decreases-operand
decreases-operand l = 1000 * l.deep + rank l.level

abbrev pub invariant-chain-loop-op : goal.invariant-chain-loop-op
invariant-chain-loop-op l = Going l.level (bracket l.deep) l.b (expr_of l.left.expr) l.rest

abbrev pub decreases-chain-loop-op : goal.decreases-chain-loop-op
decreases-chain-loop-op l = 64 - l.left.parts
