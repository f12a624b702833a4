use Rattle.std.proofs.Common.{rules, sym, ◌∙◌}
use Rattle.plans.specs.Model.{as_sum}
use Rattle.windows.proofs.Slots.{grown_into}
use Rattle.windows.proofs.cells.add_stray.Goals as goal

pub returns-in-Occupied : goal.returns-in-Occupied
returns-in-Occupied c =
    let k = sym (rw c.in-Occupied.is at c.in_ok-cell.ensures.value) ∙ c.get-so_far.ensures in
    search (rules, grown_into (as_sum c.args.how) c.args.slot c.args.value.0 c.joined.result _ c.in_ok-cell.ensures.ordered (rw k c.joined.ensures))

pub returns-in-Vacant : goal.returns-in-Vacant
returns-in-Vacant c = search (rules, grown_into)
