use Rattle.std.proofs.Common.{◌≡◌, rules, subst}
use Rattle.grammar.specs.Reading.{got, after, limited}
use Rattle.tokens.specs.Says.{Reads}
use Rattle.tokens.proofs.Ends.{Leaves, end_all, limited_leaves, ends}
use Rattle.tokens.proofs.Front.{in_range, fronts}
use Rattle.tokens.proofs.limited.Goals as goal

pub returns-in_err-n-clause-end : goal.returns-in_err-n-clause-end
unfolding limited after
returns-in_err-n-clause-end c =
    let b = c.args.b.now in
    let read : Reads (λ n. n) (limited c.args.why c.args.low b) c.from_residual.result = search (rules, in_range, fronts) in
    ends (λ n. n) (limited c.args.why c.args.low b) b c.from_residual.result (limited_leaves c.args.why c.args.low b b (end_all b)) read

pub returns-then-contains-clause-end : goal.returns-then-contains-clause-end
unfolding limited after
returns-then-contains-clause-end c =
    let b = c.args.b.now in
    let read : limited c.args.why c.args.low b ≡ got c.in_ok-n.n c.in_ok-n.rest.now = search (rules, in_range, fronts) in
    subst (Leaves b) read (limited_leaves c.args.why c.args.low b b (end_all b))
