use Rattle.std.proofs.Common.{subst, ◌≡◌, ◌+◌, ◌-◌, ◌*◌, ◌<◌, List, ℕ, false, get_or, sym, ◌∙◌, arith}
use Rattle.std.proofs.lemmas.Grind.{common_steps}
use Rattle.std.proofs.lemmas.List.{take_rest}
use Rattle.grammar.specs.Reading.{Got, starts_digit, digits}
use Rattle.tokens.proofs.Ends.{Leaves, end_all, digits_leave}
use Rattle.tokens.proofs.Front.{fronts, digits_goes, digits_joined}
use Rattle.grammar.proofs.Places.{digits_done}
use Rattle.tokens.proofs.digits.Goals as goal
use Rattle.tokens.proofs.digits.Goals.{in_default, in_default-2, in_default-3}

pub loop-rest-preserved : goal.loop-rest-preserved
loop-rest-preserved c =
    let rest = c.loop-rest.rest.now in
    let more : (c.in_ok-n.n ≡ c.loop-rest.n * 10 + (get_or rest 0 0 - 48)) × (c.in_ok-n.n < 18446744073709551616) = grind (arith, common_steps) in
    c.loop-rest.invariant
    ∙ digits_goes rest c.in-48-to-57.len_at_least c.args.b.now c.loop-rest.n (omega arith) (omega arith) (omega (arith, more.0, more.1))
    ∙ (λ i. digits c.args.b.now (sym more.0 i) (sym (take_rest rest 1) i))

-- what is left of a text in which digits begin
left : (b : List ℕ) (g : Got ℕ) → digits b 0 b ≡ g → Leaves b g
left b g e = subst (Leaves b) e (digits_leave b 0 b b (end_all b) (end_all b))

pub returns-then-is_letter : goal.returns-then-is_letter
returns-then-is_letter c =
    let none : starts_digit c.loop-rest.rest.now ≡ false = elim c.if-rest-lt1.branch [ in_default w ↦ grind (arith, fronts) | in_default-2 w ↦ grind (arith, fronts) | in_default-3 w ↦ grind (arith, fronts) ] in
    let read = c.loop-rest.invariant ∙ digits_joined c.args.b.now c.loop-rest.n c.loop-rest.rest.now none (sym c.is_letter.ensures ∙ c.if-is_letter.true) in
    record { reads = read; end = left c.args.b.now _ read }

pub returns : goal.returns
returns c =
    let none : starts_digit c.loop-rest.rest.now ≡ false = elim c.if-rest-lt1.branch [ in_default w ↦ grind (arith, fronts) | in_default-2 w ↦ grind (arith, fronts) | in_default-3 w ↦ grind (arith, fronts) ] in
    let read = c.loop-rest.invariant ∙ digits_done c.args.b.now c.loop-rest.n c.loop-rest.rest.now none (sym c.is_letter.ensures ∙ c.if-is_letter.false) in
    record { reads = read; end = left c.args.b.now _ read }
