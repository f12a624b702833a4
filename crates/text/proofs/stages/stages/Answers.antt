use Rattle.std.proofs.Common.{◌≡◌, [], ◌∷◌, ◌++◌, map, length, vec_items, vec_len, sym, ap, ◌∙◌, subst, inl, inr, arith}
use Rattle.std.proofs.lemmas.Bool.{eqb-true, eqb-false}
use Rattle.std.proofs.lemmas.List.{length-map, map-append}
use Rattle.std.proofs.lemmas.Result.{err_from_is_err_and}
use Rattle.plans.specs.Model.{stage_of}
use Rattle.grammar.specs.Reading.{stages}
use Rattle.tokens.proofs.Hands.{after_stop, stop_as}
use Rattle.text.specs.Says.{stages_in}
use Rattle.text.proofs.Steps.{Staging, too_many, staged, one_more, stages_done, no_semicolon}
use Rattle.text.proofs.stages.stages.Goals as goal
use Rattle.text.proofs.stages.stages.Goals.{else-is_empty-via-then-is_empty+else-not-is_empty, else-is_empty-via-else-is_empty}

pub returns-then-len-ge-MOST_STAGES : goal.returns-then-len-ge-MOST_STAGES
returns-then-len-ge-MOST_STAGES c =
    let before = stages_in c.loop-rest.all in
    let many : length before ≡ vec_len c.loop-rest.all = length-map (vec_items c.loop-rest.all) stage_of ∙ sym c.loop-rest.all.ok.0 in
    rw c.into.ensures (too_many (stages 8 [] c.args.b.now) c.loop-rest.place.now before c.loop-rest.invariant (omega arith) c.in-Some.ensures.here.0)

pub returns-in_err-next : goal.returns-in_err-next
returns-in_err-next c =
    let p = err_from_is_err_and c.from_residual.result c.from_residual.ensures.1 in
    let before = stages_in c.loop-rest.all in
    let many : length before ≡ vec_len c.loop-rest.all = length-map (vec_items c.loop-rest.all) stage_of ∙ sym c.loop-rest.all.ok.0 in
    rw (p.1, p.2) (stop_as c.in_err-next.field-0.0
    (staged (stages 8 [] c.args.b.now) c.loop-rest.place.now before c.loop-rest.invariant c.in-Some.rest.now (omega arith) c.in-Some.ensures.here.0 c.in-Some.ensures.here.1)
    (after_stop _ _ c.in_err-next.field-0.0 c.in_err-next.ensures))

pub loop-rest-preserved : goal.loop-rest-preserved
loop-rest-preserved c =
    let before = stages_in c.loop-rest.all in
    let many : length before ≡ vec_len c.loop-rest.all = length-map (vec_items c.loop-rest.all) stage_of ∙ sym c.loop-rest.all.ok.0 in
    let next = stage_of c.in_ok-next.next in
    let more : before ++ (next ∷ []) ≡ stages_in c.push.new.self = sym (ap (map stage_of) c.in_ok-push.ensures.items ∙ map-append stage_of (vec_items c.loop-rest.all) _) in
    subst (Staging (stages 8 [] c.args.b.now) c.skip-place-in-Some.result.now) more
    (one_more (stages 8 [] c.args.b.now) c.loop-rest.place.now before c.loop-rest.invariant c.in-Some.rest.now next c.in_ok-next.rest.now c.skip-place-in-Some.result.now (omega arith) c.in-Some.ensures.here.0 c.in-Some.ensures.here.1 c.in_ok-next.ensures c.skip-place-in-Some.ensures.is)

pub returns-then-not-is_empty : goal.returns-then-not-is_empty
returns-then-not-is_empty c =
    let before = stages_in c.loop-rest.all in
    let many : length before ≡ vec_len c.loop-rest.all = length-map (vec_items c.loop-rest.all) stage_of ∙ sym c.loop-rest.all.ok.0 in
    let some = eqb-false (vec_len c.loop-rest.all) 0 (sym c.is_empty-then-is_empty.ensures ∙ c.if-not-is_empty.true) in
    stages_done (stages 8 [] c.args.b.now) c.loop-rest.place.now before c.loop-rest.invariant c.in_default.ensures.here (eqb-true (length c.loop-rest.place.now) 0 (sym c.is_empty.ensures ∙ c.if-is_empty.true)) (omega arith)

pub returns : goal.returns
returns c =
    let before = stages_in c.loop-rest.all in
    let many : length before ≡ vec_len c.loop-rest.all = length-map (vec_items c.loop-rest.all) stage_of ∙ sym c.loop-rest.all.ok.0 in
    rw c.into-else-is_empty.ensures
    (no_semicolon (stages 8 [] c.args.b.now) c.loop-rest.place.now before c.loop-rest.invariant c.in_default.ensures.here
    (elim c.else-is_empty.branch [
      | else-is_empty-via-then-is_empty+else-not-is_empty w ↦ let none = eqb-true (vec_len c.loop-rest.all) 0 (sym w.is_empty-then-is_empty.ensures ∙ w.if-not-is_empty.false) in inr (omega arith)
      | else-is_empty-via-else-is_empty w ↦ let some = eqb-false (length c.loop-rest.place.now) 0 (sym c.is_empty.ensures ∙ w.if-is_empty.false) in inl (omega arith)
    ]))
