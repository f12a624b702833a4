use Rattle.std.proofs.Common.{◌≡◌, ◌≤◌, ◌/◌, ◌*◌, ◌++◌, length, take, set, refl, sym, ap, ◌∙◌, arith, rules, length-take-le}
use Rattle.octets.specs.Form.{two}
use Rattle.replies.proofs.Listed.{length_listed}
use Rattle.replies.proofs.Same.{out_long, wrote_out}
use Rattle.replies.proofs.coding.write_out.Goals as goal

pub returns-in_err-count : goal.returns-in_err-count
returns-in_err-count c =
    let B = c.args.bytes.now in
    let many : 65536 ≤ length B / 24 = search rules in
    rw c.from_residual.ensures (λ f. absurd (omega (arith, f.0, length_listed (length B / 24) B)), refl)

pub slice_bounds-events-end : goal.slice_bounds-events-end
slice_bounds-events-end c =
    let B = c.args.bytes.now in
    let m : c.in_ok-count.count ≡ length B / 24 = search rules in
    omega (arith, length-take-le (24 * c.from.result) B (omega arith))

pub returns-then-out-events : goal.returns-then-out-events
returns-then-out-events c =
    let B = c.args.bytes.now in
    let m : c.in_ok-count.count ≡ length B / 24 = search rules in
    (λ f. omega (arith, length-take-le (24 * c.from.result) B (omega arith), out_long B (length B / 24) refl), refl)

pub returns : goal.returns
returns c =
    let B = c.args.bytes.now in
    let m : c.in_ok-count.count ≡ length B / 24 = search rules in
    let is : length B / 24 ≡ c.from.result = omega arith in
    let long = length-take-le (24 * c.from.result) B (omega arith) in
    let one = c.write_number-at.ensures in
    let last = c.write_bytes.ensures in
    let count = ap (λ n. take 1 (set c.args.out.now 0 c.from-2.result) ++ two n) (sym c.from.ensures) in
    wrote_out B c.args.out.now c.write_number-at.new.out c.write_bytes.new.out c.from-2.result c.write_number-at.result c.write_bytes.result c.from.result (λ i. omega (arith, c.type_inv.bytes i)) is
    c.from-2.ensures one.ends (omega arith) (omega arith) (search rules) (one.wrote ∙ count) one.kept last.wrote last.kept
