use Rattle.rows.proofs.Shares.{run_shared}
use Rattle.rows.proofs.sorted.SortedRows.share.Goals as goal

pub returns-clause-shared : goal.returns-clause-shared
returns-clause-shared c =
    let all = c.rows_within-all.result in
    run_shared c.args.range c.args.self.now all.start all.end c.args.most c.min-count.result c.rows_within-all.ensures.run c.min-count.ensures
