use Rattle.std.proofs.Common.{◌*◌, nat_eq, length, ap, ◌∙◌, arith, rules}
use Rattle.std.specs.Bool.{then_some}
use Rattle.replies.specs.declared.events.Events.{Events}
use Rattle.replies.specs.declared.kinds.Reply.TheVariants.{Out}
use Rattle.replies.proofs.Same.{out_read}
use Rattle.replies.proofs.coding.out_from.Goals as goal

pub returns : goal.returns
returns c =
    let es : Events = record { bytes = c.in_ok-count.bytes } in
    let read = c.then_some.ensures ∙ ap (λ n. then_some (nat_eq (length c.in_ok-count.bytes.now) (24 * n)) (Out es)) c.from.ensures in
    out_read c.args.bytes.now es c.in_ok-count.count c.then_some.result (λ i. omega (arith, c.type_inv.bytes i)) (search rules) (search rules) read
