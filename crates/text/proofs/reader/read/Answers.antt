use Rattle.std.proofs.Common.{[], sym, ap, ◌∙◌, arith}
use Rattle.grammar.specs.Reading.{bad}
use Rattle.grammar.proofs.Valid.{reads_valid}
use Rattle.plans.specs.Model.{plan_of}
use Rattle.text.proofs.Steps.{offset_of, got_again, never_refused}
use Rattle.text.proofs.reader.read.Goals as goal

pub overflow_sub-at : goal.overflow_sub-at
overflow_sub-at c =
    let refused = rw c.in-Err-Refused.field-0-is at c.in-Err-Refused.ensures in
    (offset_of c.args.text.now c.in-Err-Refused.field-0-0.1.now refused).inside

pub returns-in-Ok-clause-valid : goal.returns-in-Ok-clause-valid
returns-in-Ok-clause-valid c = reads_valid c.args.text.now (plan_of c.in-Ok.plan) [] c.in-Ok.ensures

pub returns-in-Ok-clause-again : goal.returns-in-Ok-clause-again
returns-in-Ok-clause-again c = λ q ok e. got_again c.args.text.now (plan_of c.in-Ok.plan) q c.in-Ok.ensures ok e

pub returns-in-Err-Refused-clause-whole : goal.returns-in-Err-Refused-clause-whole
returns-in-Err-Refused-clause-whole c =
    let refused = rw c.in-Err-Refused.field-0-is at c.in-Err-Refused.ensures in
    let offset = offset_of c.args.text.now c.in-Err-Refused.field-0-0.1.now refused in
    (refused ∙ ap (bad c.in-Err-Refused.field-0-0.0) (sym offset.is), omega arith)

pub returns-in-Err-Refused-clause-again : goal.returns-in-Err-Refused-clause-again
returns-in-Err-Refused-clause-again c =
    let refused = rw c.in-Err-Refused.field-0-is at c.in-Err-Refused.ensures in
    λ q ok e. never_refused c.args.text.now q refused ok e
