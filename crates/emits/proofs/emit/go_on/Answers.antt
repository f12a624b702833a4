use Rattle.std.proofs.Common.{map, sym}
use Rattle.book.proofs.Laws.{sized}
use Rattle.book.specs.Flow.{onward}
use Rattle.plans.specs.Model.{stage_of}
use Rattle.rows.specs.Model.{row_of, aggregates_of}
use Rattle.queue.specs.Model.{queue_of}
use Rattle.emits.proofs.Windows.{ends, gone_is}
use Rattle.emits.proofs.emit.go_on.Goals as goal

pub pass_on-requires : goal.pass_on-requires
pass_on-requires c = sized (map stage_of c.args.stages.now) c.requires.stages

pub returns-in-Gone-clause-queue : goal.returns-in-Gone-clause-queue
returns-in-Gone-clause-queue c =
    let sts = map stage_of c.args.stages.now in
    let r = row_of c.args.row in
    sym (gone_is (aggregates_of c.args.stages.now) (onward sts r) (queue_of c.args.queue.now) (λ q. ends sts r q c.requires.stages c.requires.ended) c.in-Gone.ensures)
