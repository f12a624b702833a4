use Rattle.std.proofs.Common.{◌≡◌, ◌∷◌, None, rules}
use Rattle.replies.proofs.Same.{no_kind, with_kind}
use Rattle.replies.proofs.coding.decode.Goals as goal

pub returns-in_err-ok : goal.returns-in_err-ok
returns-in_err-ok c = let e : c.args.bytes.now ≡ c.in_ok-kind.kind.now ∷ c.in_ok-kind.rest.now = search rules in rw c.from_residual-in_err-ok.ensures (with_kind _ _ None e (no_kind c.in_ok-kind.kind.now c.in_ok-kind.rest.now (λ k. search rules)))
