use Rattle.std.proofs.Common.{ap, ◌∙◌, rules}
use Rattle.std.specs.Option.{ok_or}
use Rattle.calls.specs.declared.kinds.Kind.TheVariants.{Put, Still, Out}
use Rattle.calls.specs.declared.kinds.Refusal.TheVariants.{Invalid}
use Rattle.calls.proofs.Same.{read_as, again, unbuilt}
use Rattle.calls.proofs.coding.decode.Goals.{in-Put, in-Still, in-Out}
use Rattle.calls.proofs.coding.decode.Goals as goal

pub returns-in-Drop-clause-reads : goal.returns-in-Drop-clause-reads
returns-in-Drop-clause-reads c = unbuilt _ c.in_ok-kind.rest.now (search rules)

pub returns-in-Drop-clause-again : goal.returns-in-Drop-clause-again
returns-in-Drop-clause-again c = again _ _ (unbuilt _ c.in_ok-kind.rest.now (search rules))

pub returns-clause-reads : goal.returns-clause-reads
returns-clause-reads c =
    let rest = c.in_ok-kind.rest.now in
    elim c.match-branch-3.branch [
      | in-Put w ↦ read_as Put _ rest w.put_from-call.result _ (λ e. search rules) (search rules) w.put_from-call.ensures (c.ok_or-2.ensures.value ∙ ap (λ o. ok_or o Invalid) w.call-is)
      | in-Still w ↦ read_as Still _ rest w.still_from-call.result _ (λ e. search rules) (search rules) w.still_from-call.ensures (c.ok_or-2.ensures.value ∙ ap (λ o. ok_or o Invalid) w.call-is)
      | in-Out w ↦ read_as Out _ rest w.out_from-call.result _ (λ e. search rules) (search rules) w.out_from-call.ensures (c.ok_or-2.ensures.value ∙ ap (λ o. ok_or o Invalid) w.call-is)
    ]
