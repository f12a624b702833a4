use Rattle.std.proofs.Common.{◌∙◌, arith}
use Rattle.octets.proofs.Front.{later}
use Rattle.calls.proofs.coding.write_event.Goals as goal

pub returns-clause-kept : goal.returns-clause-kept
returns-clause-kept c =
    let n = c.write_number.result in
    let time = c.write_number-at.ensures in
    let key = c.write_number-at-2.ensures in
    c.write_number.ensures.kept ∙ later c.write_number-at-2.result n c.write_number-at-2.new.out c.write_number-at.new.out (omega arith) key.kept ∙ later c.write_number-at.result n c.write_number-at.new.out c.args.out.now (omega arith) time.kept
