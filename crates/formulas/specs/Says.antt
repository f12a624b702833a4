-- What the answers of the readers of expressions say. Assumes nothing.
use Rattle.std.specs.Prelude.{◌≡◌, ℕ, cond, List, codes, Some, None, Ok, Err, Option, Result}
use Rattle.std.specs.Str.{bytes_eq}
use Rattle.streams.specs.Meaning as spec
use Rattle.plans.specs.Model.{expr_of}
use Rattle.grammar.specs.declared.operators.Operator.{Operator}
use Rattle.grammar.specs.declared.operators.Level.{Level}
use Rattle.grammar.specs.Reading.{Got, got, operator, comparison}
use Rattle.tokens.specs.declared.faults.Fault.{Fault}
use Rattle.tokens.specs.declared.faults.Unexpected.{Unexpected}
use Rattle.tokens.specs.Says.{Stops}
use Rattle.formulas.specs.declared.formula.Formula.{Formula}

abbrev pub formula_of : Formula → spec.Expr
formula_of f = expr_of f.expr

-- what a reading comes to whatever stands behind; memory may fail
abbrev pub Makes : (List ℕ → Got spec.Expr) → Result Formula (Fault Unexpected) → Type 0
Makes read (Ok f) = (rest : List ℕ) → read rest ≡ got (formula_of f) rest
Makes read (Err e) = (rest : List ℕ) → Stops (read rest) e

-- the operator that stands here between operands of a level, or else the comparison
abbrev pub between : Option Level → List ℕ → Option Operator
between (Some l) bs = operator l bs
between None bs = comparison bs

-- what a word stands for
abbrev pub field_of : List ℕ → Option spec.Expr
field_of w = cond (bytes_eq w (codes "time")) (Some spec.Time) (cond (bytes_eq w (codes "key")) (Some spec.Key) (cond (bytes_eq w (codes "value")) (Some spec.Value) None))
