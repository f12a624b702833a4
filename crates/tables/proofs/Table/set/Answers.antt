use Rattle.std.proofs.Common.{arith}
use Rattle.std.proofs.Math.Seq.{take-set-lt}
use Rattle.std.proofs.lemmas.List.{length-take-le}
use Rattle.tables.proofs.Table.set.Goals as goal

pub returns-clause-items : goal.returns-clause-items
returns-clause-items g c =
    let s = c.self.inside in
    let long = length-take-le s.count s.slots.now c.self.invariant in
    let within = rw (← c.self.view_is) at c.requires in
    rw (← c.self.view_is) (take-set-lt s.count s.slots.now c.args.i c.args.item (omega (arith, within, long)))
