use Rattle.std.proofs.Common.{◌++◌, codes, decimal, map, take}
use Rattle.std.specs.Fmt.{HasWritten, IsPlainFormatter}
use Rattle.plans.specs.Model.{stage_of}
use Rattle.grammar.specs.Printing.{text_of_stages}
use Rattle.print.proofs.TextPlanDisplay.fmt.Given as goal

abbrev pub invariant-loop-stage : goal.invariant-loop-stage
invariant-loop-stage g l =
    IsPlainFormatter l.fn.f → HasWritten g.W.Write.write_str_gives l.fn.f (codes "late " ++ (decimal l.fn.self.0.now.late.0 ++ text_of_stages (map stage_of (take l.stage-index l.stage-items)))) l.f
