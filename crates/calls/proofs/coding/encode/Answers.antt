use Rattle.std.proofs.Common.{◌≡◌, [], ◌∷◌, ◌++◌, take, sym, ap, ◌∙◌, subst, rules, arith}
use Rattle.octets.specs.Form.{two, eight}
use Rattle.octets.proofs.Front.{later}
use Rattle.plans.specs.declared.entries.Entry.TheVariants.{Happened}
use Rattle.calls.specs.declared.kinds.Call.TheVariants.{Put}
use Rattle.calls.specs.Form.{event_bytes, encoded, Fit}
use Rattle.calls.proofs.coding.encode.Goals as goal

pub returns-in_ok-at-in-Put-default-Happened : goal.returns-in_ok-at-in-Put-default-Happened
returns-in_ok-at-in-Put-default-Happened c =
    let e = c.in-Put-default-Happened.event in
    let l = c.in-Put-default-Happened.log in
    let is : c.args.call ≡ Put l (Happened e) = search rules in
    let kind = c.in_ok-at-in-Put-default-Happened.ensures in
    let log = c.write_bytes-at.ensures in
    let event = c.write_event.ensures in
    let n = c.write_event.result in
    let first = ap (λ k. take k c.write_kind.new.out) kind.0 ∙ kind.3 in
    record {
      within = search rules;
      bytes = event.wrote ∙ ap (λ bs. bs ++ event_bytes e) (log.wrote ∙ ap (λ bs. bs ++ l.0 ∷ []) first) ∙ sym (ap encoded is);
      kept = event.kept ∙ later c.write_bytes-at.result n c.write_bytes-at.new.out c.write_kind.new.out (omega arith) log.kept ∙ later 1 n c.write_kind.new.out c.args.out.now (omega arith) kind.4;
      fit = subst Fit (sym is) (search rules, event.fit.0, event.fit.1, event.fit.2);
    }

pub returns-in_ok-at-in-Out : goal.returns-in_ok-at-in-Out
returns-in_ok-at-in-Out c =
    let kind = c.in_ok-at-in-Out.ensures in
    let from = c.write_number-at.ensures in
    let most = c.write_number-in-Out.ensures in
    let n = c.write_number-in-Out.result in
    let first = ap (λ k. take k c.write_kind-in-Out.new.out) kind.0 ∙ kind.3 in
    record {
      within = search rules;
      bytes = most.wrote ∙ ap (λ bs. bs ++ two c.in-Out.most) (from.wrote ∙ ap (λ bs. bs ++ eight c.in-Out.from.0) first) ∙ sym (ap encoded c.in-Out.is);
      kept = most.kept ∙ later c.write_number-at.result n c.write_number-at.new.out c.write_kind-in-Out.new.out (omega arith) from.kept ∙ later 1 n c.write_kind-in-Out.new.out c.args.out.now (omega arith) kind.4;
      fit = search rules;
    }
