use Rattle.std.proofs.Common.{◌≡◌, nat_le, sym, ap, ◌∙◌, arith}
use Rattle.std.proofs.lemmas.Bool.Decides.{nat_tests}
use Rattle.rows.specs.Model.{row_of}
use Rattle.segs.specs.Model.{page_link, seg_of}
use Rattle.dues.specs.Model.{as_due}
use Rattle.rows.proofs.Places.{as_long}
use Rattle.dues.proofs.Cases.{front_row, front_none, front_first, first_page, first_none, first_index, first_there}
use Rattle.dues.proofs.due_front.Goals as goal

ended : (c : goal.After-then_some) → c.le.result ≡ nat_le (row_of c.from.result).at.end c.args.mark.0
ended c = grind (arith, nat_tests)

pub returns-in-len1-up-clause-due : goal.returns-in-len1-up-clause-due
returns-in-len1-up-clause-due c = ap as_due c.then_some.ensures ∙ front_row c.args.mark.0 c.as_slice.result.now _ c.args.queue.now.front.items _ (row_of c.from.result) c.le.result (omega arith) c.as_slice.ensures.rows c.from.ensures (ended c)

pub returns-in_default-as_slice-clause-due : goal.returns-in_default-as_slice-clause-due
returns-in_default-as_slice-clause-due c = front_none c.args.mark.0 c.args.queue.now.front.items c.args.queue.now.segments.items c.as_slice-2.result.now (omega (arith, as_long c.as_slice.result.now c.as_slice.ensures.rows)) c.as_slice-2.ensures.items (omega arith)

pub returns-in-Some-clause-due : goal.returns-in-Some-clause-due
returns-in-Some-clause-due c = first_page c.in-Some.page.0 ∙ front_first c.args.mark.0 c.args.queue.now.front.items c.args.queue.now.segments.items c.as_slice-2.result.now _ (seg_of c.from-2.result) _ (omega (arith, as_long c.as_slice.result.now c.as_slice.ensures.rows)) c.as_slice-2.ensures.items (omega arith) c.from-2.ensures.is (ap page_link c.in-Some.is)

pub returns-in-Some-clause-carries : goal.returns-in-Some-clause-carries
returns-in-Some-clause-carries c =
    (first_there c.args.queue.now.segments.items c.as_slice-2.result.now c.as_slice-2.ensures.items (omega arith), sym (ap page_link c.in-Some.is) ∙ first_index c.args.queue.now.segments.items c.as_slice-2.result.now _ (seg_of c.from-2.result) c.as_slice-2.ensures.items (omega arith) c.from-2.ensures.is)

pub returns-in-None-clause-due : goal.returns-in-None-clause-due
returns-in-None-clause-due c = first_none ∙ front_first c.args.mark.0 c.args.queue.now.front.items c.args.queue.now.segments.items c.as_slice-2.result.now _ (seg_of c.from-2.result) _ (omega (arith, as_long c.as_slice.result.now c.as_slice.ensures.rows)) c.as_slice-2.ensures.items (omega arith) c.from-2.ensures.is (ap page_link c.in-None.is)

pub returns-in-None-clause-carries : goal.returns-in-None-clause-carries
returns-in-None-clause-carries c = first_there c.args.queue.now.segments.items c.as_slice-2.result.now c.as_slice-2.ensures.items (omega arith)
