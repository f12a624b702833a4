use Rattle.rows.proofs.Shares.{run_within, run_counted}
use Rattle.rows.proofs.sorted.SortedRows.rows_within.Goals as goal

pub returns : goal.returns
returns c =
    let r = run_within c.args.range c.end_of-end.result c.max.result c.find-start.ensures.place c.end_of-end.ensures c.max.ensures in
    record { run = r; many = run_counted c.args.range r }
