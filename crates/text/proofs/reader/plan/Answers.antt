use Rattle.std.proofs.lemmas.Grind.{common_steps}
use Rattle.std.proofs.Common.{sym, ap, ◌∙◌, arith}
use Rattle.std.proofs.lemmas.List.{take_rest}
use Rattle.grammar.proofs.Readers.{after_got}
use Rattle.grammar.specs.Reading.{bad}
use Rattle.grammar.specs.declared.refusals.Why.TheVariants.{Long}
use Rattle.text.proofs.Steps.{too_long, late_is}
use Rattle.text.proofs.reader.plan.Goals as goal

pub returns-then-text-gt-LONGEST : goal.returns-then-text-gt-LONGEST
returns-then-text-gt-LONGEST c = rw c.into.ensures (too_long c.args.text.now c.if-text-gt-LONGEST.true ∙ ap (bad Long) (sym (take_rest c.args.text.now 65536)))

pub returns : goal.returns
returns c =
    late_is c.args.text.now c.skip-place.result.now c.if-text-gt-LONGEST.false c.skip-place.ensures.is c.in_ok-rest.rest.now (grind (arith, common_steps, c.in_ok-rest.was, c.ok_or.ensures, c.strip_word.ensures)) (grind (arith, common_steps, c.in_ok-rest.was, c.ok_or.ensures, c.strip_word.ensures)) ∙ after_got _ _ c.in_ok-late.ensures.reads ∙ after_got _ _ c.in_ok-stages.ensures
