-- A fault of working out as the reason why a call was not done. Assumes nothing.
use Rattle.windows.specs.declared.stages.Fault.{Fault}
use Rattle.windows.specs.declared.stages.Fault.TheVariants as fault
use Rattle.keeper.specs.declared.undone.Undone.{Undone}
use Rattle.keeper.specs.declared.undone.Undone.TheVariants.{BadPlan, Memory}

abbrev pub unworked : Fault → Undone
unworked fault.BadPlan = BadPlan
unworked fault.Memory = Memory
