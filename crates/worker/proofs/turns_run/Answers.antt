use Rattle.worker.proofs.turns_run.Goals as goal
use Rattle.worker.proofs.Table.{turns_table}

pub returns : goal.returns
returns c = turns_table
