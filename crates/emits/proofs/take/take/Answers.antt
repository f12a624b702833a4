use Rattle.std.proofs.Common.{◌∙◌}
use Rattle.plans.specs.Model.{as_event}
use Rattle.rows.specs.Model.{row_of}
use Rattle.queue.specs.Model.{queue_of}
use Rattle.emits.proofs.Steps.{take_none, take_kept, take_left}
use Rattle.emits.proofs.take.take.Goals as goal

pub returns-in_default-clause-queue : goal.returns-in_default-clause-queue
returns-in_default-clause-queue c = take_none c.args.stages.now (as_event c.args.event) (queue_of c.args.queue.now) c.in_default.len_below

pub returns-in-Some-clause-queue : goal.returns-in-Some-clause-queue
returns-in-Some-clause-queue c =
    let e = c.in-Some.ensures in
    c.place.ensures.queue ∙ take_kept c.args.stages.now c.stage-item.result (as_event c.args.event) (row_of c.in-Some.row) (queue_of c.args.queue.now) c.in-len1-up.len_at_least c.stage-item.is e.0 e.1

pub returns-in_default-row_of-clause-queue : goal.returns-in_default-row_of-clause-queue
returns-in_default-row_of-clause-queue c =
    take_left c.args.stages.now c.stage-item.result (as_event c.args.event) (queue_of c.args.queue.now) c.in-len1-up.len_at_least c.stage-item.is c.requires.stages c.requires.time c.in_default-row_of.ensures
