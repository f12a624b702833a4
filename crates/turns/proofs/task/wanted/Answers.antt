use Rattle.std.proofs.Common.{◌∙◌, ap, rules}
use Rattle.book.specs.Ledger.{watermark}
use Rattle.marks.specs.Model.{all_taken}
use Rattle.turns.proofs.Tasks.{wanted_none, wanted_step}
use Rattle.turns.proofs.task.wanted.Goals as goal

pub returns-in_default : goal.returns-in_default
returns-in_default c =
    (wanted_none _ c.args.late.0 _ c.args.ledger.now (search rules) (c.watermark-mark.ensures ∙ ap (λ ts. watermark c.args.late.0 (all_taken ts)) c.as_slice-3.ensures.items) c.in_default.ensures.due, tt)

pub returns : goal.returns
returns c =
    (wanted_step _ c.args.late.0 _ c.args.ledger.now (search rules) (c.watermark-mark.ensures ∙ ap (λ ts. watermark c.args.late.0 (all_taken ts)) c.as_slice-3.ensures.items) _ c.in-Some.ensures.due, c.in-Some.ensures.carries)
