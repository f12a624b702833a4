use Rattle.std.proofs.Common.{◌≡◌, ◌<◌, ◌≤◌, length, get_or, sym, ap, ◌∙◌, arith, rules}
use Rattle.std.specs.Option.{option_transpose}
use Rattle.frames.specs.Lines.{seen_of, Whole, least}
use Rattle.frames.proofs.Fronts.{at_short, long_seen, small_seen, head_seen, kind_seen, wait_seen, whole_seen}
use Rattle.frames.proofs.reading.front.Goals as goal

pub returns-in_err-length : goal.returns-in_err-length
returns-in_err-length c = ap (λ r. seen_of (option_transpose r)) c.from_residual.ensures ∙ sym (at_short c.args.traffic c.args.bytes.now (search rules))

pub returns-then-length-gt-LONGEST : goal.returns-then-length-gt-LONGEST
returns-then-length-gt-LONGEST c = sym (long_seen c.args.traffic c.in_ok-length.length c.args.bytes.now c.in_ok-length.rest.now (search rules) c.in_ok-length.ensures c.if-length-gt-LONGEST.true)

pub returns-then-length-lt9 : goal.returns-then-length-lt9
returns-then-length-lt9 c = sym (small_seen c.args.traffic c.in_ok-length.length c.args.bytes.now c.in_ok-length.rest.now (search rules) c.in_ok-length.ensures c.if-length-gt-LONGEST.false c.if-length-lt9.true)

pub returns-in_err-number : goal.returns-in_err-number
returns-in_err-number c =
    let few : length c.in_ok-length.rest.now < 8 = search rules in
    ap (λ r. seen_of (option_transpose r)) c.from_residual-in_err-number.ensures
    ∙ sym (head_seen c.args.traffic c.in_ok-length.length c.args.bytes.now c.in_ok-length.rest.now (search rules) c.in_ok-length.ensures c.if-length-gt-LONGEST.false c.if-length-lt9.false (omega arith))

pub returns-in_err-first : goal.returns-in_err-first
returns-in_err-first c =
    let none : length c.in_ok-number.rest.now < 1 = search rules in
    let few = ap length c.in_ok-number.ensures in
    ap (λ r. seen_of (option_transpose r)) c.from_residual-in_err-first.ensures
    ∙ sym (head_seen c.args.traffic c.in_ok-length.length c.args.bytes.now c.in_ok-length.rest.now (search rules) c.in_ok-length.ensures c.if-length-gt-LONGEST.false c.if-length-lt9.false (omega arith))

pub returns-then-least : goal.returns-then-least
returns-then-least c =
    let kind-is : c.in_ok-first.field-0.now ≡ get_or c.in_ok-number.rest.now 0 0 = search rules in
    let some : 1 ≤ length c.in_ok-number.rest.now = search rules in
    let least_is = c.least.ensures ∙ ap (least c.args.traffic) kind-is in
    sym (kind_seen c.args.traffic c.in_ok-length.length c.args.bytes.now c.in_ok-length.rest.now (search rules) c.in_ok-length.ensures c.in_ok-number.number c.in_ok-number.rest.now c.in_ok-number.ensures c.if-length-gt-LONGEST.false c.if-length-lt9.false some (omega arith))

pub returns-in_err-body : goal.returns-in_err-body
returns-in_err-body c =
    let kind-is : c.in_ok-first.field-0.now ≡ get_or c.in_ok-number.rest.now 0 0 = search rules in
    let some : 1 ≤ length c.in_ok-number.rest.now = search rules in
    let least_is = c.least.ensures ∙ ap (least c.args.traffic) kind-is in
    ap (λ r. seen_of (option_transpose r)) c.from_residual-in_err-body.ensures
    ∙ sym (wait_seen c.args.traffic c.in_ok-length.length c.args.bytes.now c.in_ok-length.rest.now (search rules) c.in_ok-length.ensures c.in_ok-number.number c.in_ok-number.rest.now c.in_ok-number.ensures c.if-length-gt-LONGEST.false c.if-length-lt9.false some (omega arith) (search rules))

pub returns : goal.returns
returns c =
    let kind-is : c.in_ok-first.field-0.now ≡ get_or c.in_ok-number.rest.now 0 0 = search rules in
    let some : 1 ≤ length c.in_ok-number.rest.now = search rules in
    let least_is = c.least.ensures ∙ ap (least c.args.traffic) kind-is in
    let parts = c.in_ok-body.ensures.cases in
    sym (whole_seen c.args.traffic c.in_ok-length.length c.args.bytes.now c.in_ok-length.rest.now (search rules) c.in_ok-length.ensures c.in_ok-number.number c.in_ok-number.rest.now c.in_ok-number.ensures c.if-length-gt-LONGEST.false c.if-length-lt9.false some (search rules) (omega arith) (search rules)
    ∙ (λ i. Whole c.in_ok-number.number (sym parts.1 i) (sym parts.2 i)))
