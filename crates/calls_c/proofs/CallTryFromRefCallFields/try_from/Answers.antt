use Rattle.std.proofs.Common.{◌≡◌, Err, sym, rules}
use Rattle.std.proofs.lemmas.Bool.{ne_eqb}
use Rattle.calls.specs.declared.kinds.Refusal.TheVariants.{Invalid}
use Rattle.calls.specs.declared.kinds.Kind.TheVariants.{Put, Still, Out, Drop}
use Rattle.calls_c.proofs.CallTryFromRefCallFields.try_from.Goals as goal

pub returns-in_err-try_from : goal.returns-in_err-try_from
returns-in_err-try_from c =
    let k = c.args.fields.now.kind in
    let no_kind = c.in_err-try_from.ensures.1 in
    let invalid : c.from_residual.result ≡ Err Invalid = search rules in
    rw (ne_eqb k 1 (λ e. no_kind Put (sym e)), ne_eqb k 2 (λ e. no_kind Still (sym e)), ne_eqb k 3 (λ e. no_kind Out (sym e)), ne_eqb k 4 (λ e. no_kind Drop (sym e))) invalid
