use Rattle.std.proofs.Common.{◌≡◌, sym, refl, rules}
use Rattle.std.proofs.lemmas.Bool.{ne_eqb}
use Rattle.replies.specs.declared.kinds.Kind.{Kind}
use Rattle.replies.specs.declared.kinds.Kind.TheVariants.{Refused, Yes, Out, Full}
use Rattle.replies.specs.Kinds.{byte_of}
use Rattle.calls_c.proofs.reply_in.Goals as goal

pub returns-in_err-ok : goal.returns-in_err-ok
returns-in_err-ok c =
    let k = c.args.kind in
    let no_kind : (j : Kind) → byte_of j ≡ k → ⊥ = λ j. search rules in
    rw (c.from_residual.ensures, ne_eqb k 0 (λ e. no_kind Refused (sym e)), ne_eqb k 1 (λ e. no_kind Yes (sym e)), ne_eqb k 2 (λ e. no_kind Out (sym e)), ne_eqb k 3 (λ e. no_kind Full (sym e))) refl
