use Rattle.grammar.proofs.Fewest.{fewest_brackets}
use Rattle.grammar.proofs.fewest_brackets.Goals as goal

pub returns : goal.returns
returns c = fewest_brackets
