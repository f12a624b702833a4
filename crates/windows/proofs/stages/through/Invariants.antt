use Rattle.std.proofs.Common.{◌≡◌, map, take}
use Rattle.streams.specs.Meaning.{cells, ended}
use Rattle.plans.specs.Model.{as_event, as_sum, stage_of}
use Rattle.windows.specs.Table.{cells_of}
use Rattle.windows.proofs.stages.through.Given as goal

-- the cells that have ended, of the events so far
abbrev pub invariant-loop-event : goal.invariant-loop-event
invariant-loop-event l = cells_of (as_sum l.stage.aggregate) l.cells ≡ ended l.mark.0 (cells (stage_of l.stage) (map as_event (take l.event-index l.events)))
