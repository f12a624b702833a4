use Rattle.std.proofs.Common.{sym, refl}
use Rattle.std.proofs.lemmas.Bool.{ne_eqb}
use Rattle.calls.specs.declared.kinds.Kind.TheVariants as call
use Rattle.replies.specs.declared.kinds.Kind.TheVariants as reply
use Rattle.frames.proofs.reading.least.Goals as goal

pub returns-in-Err : goal.returns-in-Err
returns-in-Err c =
    let no_kind = c.in-Err.ensures.1 in
    rw (c.in-Calls.is, ne_eqb c.args.kind 1 (λ e. no_kind call.Put (sym e)), ne_eqb c.args.kind 2 (λ e. no_kind call.Still (sym e)), ne_eqb c.args.kind 3 (λ e. no_kind call.Out (sym e))) refl

pub returns-in-Err-try_from : goal.returns-in-Err-try_from
returns-in-Err-try_from c =
    let no_kind = c.in-Err-try_from.ensures.1 in
    rw (c.in-Replies.is, ne_eqb c.args.kind 0 (λ e. no_kind reply.Refused (sym e)), ne_eqb c.args.kind 2 (λ e. no_kind reply.Out (sym e))) refl
