use Rattle.std.proofs.Common.{◌≡◌, map, drop}
use Rattle.streams.specs.Meaning.{through_stages}
use Rattle.plans.specs.Model.{stage_of}
use Rattle.windows.specs.Results.{events}
use Rattle.windows.proofs.stages.through_all.Given as goal

-- what is left of the stages makes the same of it
abbrev pub invariant-loop-stage : goal.invariant-loop-stage
invariant-loop-stage l = through_stages (map stage_of (drop l.stage-index l.stages)) l.mark.0 (events l.so_far) ≡ through_stages (map stage_of l.stages) l.mark.0 (events l.initial.so_far)
