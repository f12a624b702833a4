use Rattle.std.proofs.Common.{arith}
use Rattle.std.proofs.lemmas.List.{length-map, length-take-le}
use Rattle.rows.specs.Model.{row_in}
use Rattle.rows.proofs.table.Rows.merge.Goals as goal

pub invariant_of-self : goal.invariant_of-self
invariant_of-self c =
    let s = c.self.inside in
    let room = rw (← c.self.view_is, length-map _ row_in) at c.requires in
    let long = length-take-le s.count s.slots.now c.self.invariant.0 in
    (omega (arith, c.merge-self-inside.ensures.few, c.merge-self-inside.auto.slots, room, long), c.merge-self-inside.ensures.sorted)

pub returns-clause-rows : goal.returns-clause-rows
returns-clause-rows c = rw (← c.self.view_is) c.merge-self-inside.ensures.rows
