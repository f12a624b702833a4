use Rattle.std.proofs.Common.{◌∙◌}
use Rattle.rows.proofs.Written.{rows_written}
use Rattle.rows.proofs.table.words_of.Goals as goal

pub returns : goal.returns
returns c = c.as_flattened.ensures.value ∙ rows_written c.args.rows.now c.told-rows
