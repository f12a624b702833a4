use Rattle.std.proofs.Common.{◌≡◌, rules, sym, ap, subst, ◌∙◌}
use Rattle.std.proofs.lemmas.List.{take_rest}
use Rattle.grammar.specs.Reading.{skip}
use Rattle.tokens.specs.Says.{EndOf}
use Rattle.tokens.proofs.Ends.{end_all, end_skip}
use Rattle.tokens.proofs.Front.{skip_goes, fronts}
use Rattle.tokens.proofs.skip.Goals as goal

pub loop-rest-preserved : goal.loop-rest-preserved
loop-rest-preserved c = c.loop-rest.invariant ∙ skip_goes c.loop-rest.rest.now c.in-len1-up.len_at_least (sym c.is_blank.ensures ∙ c.if-is_blank.true) ∙ sym (ap skip (take_rest c.loop-rest.rest.now 1))

pub returns-then-rest-lt1-clause-end : goal.returns-then-rest-lt1-clause-end
returns-then-rest-lt1-clause-end c = let is : c.loop-rest.rest.now ≡ skip c.args.b.now = search (rules, fronts) in subst (EndOf c.args.b.now) (sym is) (end_skip c.args.b.now c.args.b.now (end_all c.args.b.now))

pub returns-else-is_blank-clause-end : goal.returns-else-is_blank-clause-end
returns-else-is_blank-clause-end c = let is : c.loop-rest.rest.now ≡ skip c.args.b.now = search (rules, fronts) in subst (EndOf c.args.b.now) (sym is) (end_skip c.args.b.now c.args.b.now (end_all c.args.b.now))
