use Rattle.grammar.proofs.Sizes.{print_fits}
use Rattle.grammar.proofs.print_fits.Goals as goal

pub returns : goal.returns
returns c = print_fits
