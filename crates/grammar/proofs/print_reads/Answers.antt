use Rattle.grammar.proofs.Wholes.{print_reads}
use Rattle.grammar.proofs.print_reads.Goals as goal

pub returns : goal.returns
returns c = print_reads
