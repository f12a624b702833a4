use Rattle.std.proofs.Common.{◌≡◌, ◌≤◌, take, ap, ◌∙◌, subst, sym, arith}
use Rattle.std.proofs.lemmas.List.{take-map, take-take, length-map, length-take-le}
use Rattle.book.specs.Rows.{Sorted}
use Rattle.rows.specs.Model.{row_in, rows_of}
use Rattle.rows.proofs.Parts.{sorted_left}
use Rattle.rows.proofs.table.Rows.split_off.Goals as goal

within : (c : goal.After-self-1) → c.args.at ≤ c.self.inside.count
within c =
    let s = c.self.inside in
    let at = rw (← c.self.view_is, length-map _ row_in) at c.requires.within in
    omega (arith, at, length-take-le s.count s.slots.now c.self.invariant.0)

lower : (c : goal.After-self-1) → rows_of (take c.args.at c.self.inside.slots.now) ≡ take c.args.at (rows_of (take c.self.inside.count c.self.inside.slots.now))
lower c =
    let s = c.self.inside in
    sym (take-map row_in c.args.at (take s.count s.slots.now) ∙ ap rows_of (take-take c.args.at s.count s.slots.now (within c)))

pub invariant_of-self : goal.invariant_of-self
invariant_of-self c = (omega (arith, within c, c.self.invariant.0), subst Sorted (sym (lower c)) (sorted_left c.args.at _ c.self.invariant.1))

pub returns-clause-lower : goal.returns-clause-lower
returns-clause-lower c = rw (← c.self.view_is) (lower c)
