use Rattle.std.proofs.Common.{◌-◌, [], vec_len}
use Rattle.grammar.specs.Reading.{stages}
use Rattle.text.specs.Says.{stages_in}
use Rattle.text.proofs.Steps.{Staging}
use Rattle.text.proofs.stages.stages.Given as goal

abbrev pub invariant-loop-rest : goal.invariant-loop-rest
invariant-loop-rest l = Staging (stages 8 [] l.b) l.place (stages_in l.all)

abbrev pub decreases-loop-rest : goal.decreases-loop-rest
decreases-loop-rest l = 8 - vec_len l.all
