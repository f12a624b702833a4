use Rattle.std.proofs.Common.{◌≡◌, ◌++◌, drop}
use Rattle.streams.specs.Meaning.{all_in_time}
use Rattle.windows.specs.Model.{logs_of}
use Rattle.windows.specs.Results.{events}
use Rattle.windows.proofs.stages.gather.Given as goal

abbrev pub invariant-loop-log : goal.invariant-loop-log
invariant-loop-log l = events l.events ++ all_in_time l.late.0 (logs_of (drop l.log-index l.logs)) ≡ all_in_time l.late.0 (logs_of l.logs)
