use Rattle.grammar.specs.Reading.{expression}
use Rattle.tokens.proofs.Ends.{end_all, ends_or_stops}
use Rattle.formulas.specs.Says.{formula_of}
use Rattle.formulas.proofs.Ends.{expression_leaves}
use Rattle.formulas.proofs.reader.expression.Goals as goal

pub returns-clause-end : goal.returns-clause-end
returns-clause-end c = ends_or_stops formula_of (expression c.args.deep c.args.b.now) c.args.b.now c.compared.result (expression_leaves c.args.deep c.args.b.now c.args.b.now (end_all c.args.b.now)) c.compared.ensures
