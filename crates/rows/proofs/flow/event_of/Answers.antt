use Rattle.std.proofs.Common.{◌≡◌, ℕ, zero, suc, ◌-◌, refl, ap, ◌∙◌, arith}
use Rattle.streams.specs.Meaning.{less_by}
use Rattle.rows.proofs.flow.event_of.Goals as goal

less_one_is : (n : ℕ) → n - 1 ≡ less_by 1 n
unfolding less_by
less_one_is zero = refl
less_one_is (suc n) = omega arith

pub returns : goal.returns
returns c =
    let row = c.args.row in
    ap (λ (t : ℕ). record { time = t; key = row.at.key.0; value = row.value.0 }) (c.saturating_sub.ensures ∙ less_one_is row.at.end.0)
