use Rattle.grammar.proofs.Valid.{reads_valid}
use Rattle.grammar.proofs.reads_valid.Goals as goal

pub returns : goal.returns
returns c = reads_valid
