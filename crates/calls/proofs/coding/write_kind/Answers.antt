use Rattle.std.proofs.Common.{◌<◌, ◌∷◌, [], length, refl, ap, ◌∙◌, rules, arith}
use Rattle.std.proofs.lemmas.List.{length-set, drop-set-lt}
use Rattle.std.proofs.Math.Seq.{take-suc-set}
use Rattle.calls.proofs.coding.write_kind.Goals as goal

pub returns : goal.returns
returns c =
    let out = c.args.out.now in
    let room : 0 < length out = search rules in
    (refl, omega (arith, c.if-out-size.false, c.size.ensures), length-set out 0 c.from.result, take-suc-set out 0 c.from.result room ∙ ap (λ b. b ∷ []) c.from.ensures, drop-set-lt 1 out 0 c.from.result (omega arith))
