use Rattle.std.proofs.Common.{refl, sym, ◌∙◌, map, arith}
use Rattle.std.proofs.lemmas.Bool.Decides.{nat_tests}
use Rattle.std.specs.Map.Iter.{deref_pair}
use Rattle.std.proofs.lemmas.Map.Iter.{rest_more, rest_all}
use Rattle.plans.specs.Model.{as_sum}
use Rattle.windows.specs.Model.{cell_of}
use Rattle.windows.proofs.Slots.{sorted_keys}
use Rattle.windows.proofs.Merge.{stray_alone, stray_both, cell_more, all_out, pushed}
use Rattle.windows.proofs.stages.events_of.Goals as goal

pub loop-slot-init : goal.loop-slot-init
loop-slot-init c =
    let e = c.into_iter-slot-iterator.ensures.into_iter_gives ∙ c.iter-slot-items.ensures.rest in
    (omega arith, rw e (sorted_keys _ c.iter-slot-items.ensures.ordered), rw (c.new-events.ensures.items, e, c.as_slice-run.ensures.cells) refl)

pub loop-slot-preserved-then-holds : goal.loop-slot-preserved-then-holds
loop-slot-preserved-then-holds c =
    let e = rest_more deref_pair _ _ _ _ c.in-Some.is c.next.ensures.steps in
    let so = rw e at c.loop-slot.invariant.1 in
    let left = sym (c.in_ok-at.ensures.2 (as_sum c.args.how) c.in-Some.value.now.0 (map cell_of c.next.new.self) so) ∙ (rw e at c.loop-slot.invariant.2) in
    (grind (arith, nat_tests, c.if-holds.ensures), so.1, stray_both c.as_slice-run.result.now (rw (← c.as_slice-run.ensures.cells) at c.as_slice-run.ensures.sorted) _ (as_sum c.args.how) (cell_of (c.in-Some.slot.now, c.in-Some.value.now)) (map cell_of c.next.new.self) _ _ left c.if-holds.ensures _ c.together-both.ensures (pushed _ _ _ _ c.in_ok-push.ensures.items c.event_of.ensures))

pub loop-slot-preserved : goal.loop-slot-preserved
loop-slot-preserved c =
    let e = rest_more deref_pair _ _ _ _ c.in-Some.is c.next.ensures.steps in
    let so = rw e at c.loop-slot.invariant.1 in
    let left = sym (c.in_ok-at.ensures.2 (as_sum c.args.how) c.in-Some.value.now.0 (map cell_of c.next.new.self) so) ∙ (rw e at c.loop-slot.invariant.2) in
    (c.in_ok-at.ensures.0, so.1, stray_alone c.as_slice-run.result.now (rw (← c.as_slice-run.ensures.cells) at c.as_slice-run.ensures.sorted) _ (as_sum c.args.how) (cell_of (c.in-Some.slot.now, c.in-Some.value.now)) (map cell_of c.next.new.self) _ _ left c.in_ok-at.ensures.1 c.if-holds.ensures (pushed _ _ _ _ c.in_ok-push-2.ensures.items c.event_of-else-holds.ensures))

pub loop-cell-preserved : goal.loop-cell-preserved
loop-cell-preserved c = cell_more _ _ _ _ c.loop-cell.invariant c.loop-cell-test.true (pushed _ _ _ _ c.in_ok-push-3.ensures.items c.event_of-in-loop-cell.ensures)

pub returns : goal.returns
returns c =
    all_out (as_sum c.args.how) c.as_slice-run.result.now (rw (← c.as_slice-run.ensures.cells) at c.as_slice-run.ensures.sorted) c.loop-slot.at c.loop-cell.cell-index _ _ _ c.loop-slot.invariant.2 (rest_all deref_pair _ _ _ c.in-None.is c.next.ensures.steps) c.loop-cell.invariant c.loop-cell-test.false
