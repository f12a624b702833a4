use Rattle.std.proofs.Common.{vec_items}
use Rattle.plans.specs.Model.{as_sum}
use Rattle.windows.proofs.Table.{add_new, add_same, sorted_new}
use Rattle.windows.proofs.cells.Run.add.Goals as goal

pub invariant_of-self : goal.invariant_of-self
invariant_of-self c =
    sorted_new (as_sum c.args.how) _ _ _ (vec_items c.self.inside.cells) _ (add_same (as_sum c.args.how) c.args.value.0 (vec_items c.self.inside.cells) (c.args.slot, c.joined.result) _ (rw c.deref.ensures.value at c.find-at.ensures) _ c.index.ensures c.joined.ensures (rw c.deref-2.ensures.value at c.if-holds.ensures)) c.self.invariant

pub returns-then-holds-clause-cells : goal.returns-then-holds-clause-cells
returns-then-holds-clause-cells c =
    rw (← c.self.view_is) (add_same (as_sum c.args.how) c.args.value.0 (vec_items c.self.inside.cells) (c.args.slot, c.joined.result) _ (rw c.deref.ensures.value at c.find-at.ensures) _ c.index.ensures c.joined.ensures (rw c.deref-2.ensures.value at c.if-holds.ensures))

pub returns-then-holds-clause-sorted : goal.returns-then-holds-clause-sorted
returns-then-holds-clause-sorted c = invariant_of-self c

pub invariant_of-self-2 : goal.invariant_of-self-2
invariant_of-self-2 c =
    let e = add_new (as_sum c.args.how) c.args.value.0 (vec_items c.self.inside.cells) (c.args.slot, c.first-first.result) _ (rw c.deref.ensures.value at c.find-at.ensures) c.first-first.ensures (rw c.deref-2.ensures.value at c.if-holds.ensures) in
    rw c.in_ok-insert.ensures.items (sorted_new (as_sum c.args.how) _ _ _ (vec_items c.self.inside.cells) _ e c.self.invariant)

pub returns-clause-cells : goal.returns-clause-cells
returns-clause-cells c =
    rw (← c.self.view_is, c.in_ok-insert.ensures.items) (add_new (as_sum c.args.how) c.args.value.0 (vec_items c.self.inside.cells) (c.args.slot, c.first-first.result) _ (rw c.deref.ensures.value at c.find-at.ensures) c.first-first.ensures (rw c.deref-2.ensures.value at c.if-holds.ensures))

pub returns-clause-sorted : goal.returns-clause-sorted
returns-clause-sorted c = invariant_of-self-2 c
