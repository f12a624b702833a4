use Rattle.std.proofs.Common.{sym, ap, ◌∙◌, rules}
use Rattle.streams.specs.Calls.{entry_ok}
use Rattle.plans.specs.Model.{as_event, entry_of}
use Rattle.calls.proofs.Alone.{happened, still}
use Rattle.calls.proofs.refusals.in_range.Goals as goal

pub returns-in-Happened : goal.returns-in-Happened
returns-in-Happened c = sym (ap (λ e. entry_ok (entry_of e)) c.in-Happened.is ∙ happened (as_event c.in-Happened.event) (search rules) (search rules))

pub returns-in-Still : goal.returns-in-Still
returns-in-Still c = sym (ap (λ e. entry_ok (entry_of e)) c.in-Still.is ∙ still c.in-Still.time.0)
