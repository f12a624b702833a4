use Rattle.std.proofs.Common.{arith}
use Rattle.contents.proofs.Forms.{form_empty, form_one, form_other}
use Rattle.contents.proofs.form.numbers.Goals as goal

pub returns-in_default : goal.returns-in_default
returns-in_default c = form_empty c.args.words.now c.in_default.ensures.cases

pub returns-in-0 : goal.returns-in-0
returns-in-0 c = form_one _ _ _ c.in-Some.ensures.cases.0 c.in-0.is

pub returns-in_default-form : goal.returns-in_default-form
returns-in_default-form c = form_other _ _ _ c.in-Some.ensures.cases.0 (λ e. omega arith) (λ e. omega arith)
