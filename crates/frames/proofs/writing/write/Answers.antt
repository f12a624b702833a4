use Rattle.std.proofs.Common.{◌≡◌, ◌+◌, ◌++◌, length, ap, ◌∙◌, arith, rules}
use Rattle.octets.specs.Form.{four, eight}
use Rattle.octets.proofs.Front.{later}
use Rattle.frames.proofs.writing.write.Goals as goal

pub returns : goal.returns
returns c =
    let one = c.write_number-at.ensures in
    let two = c.write_number-at-2.ensures in
    let last = c.write_bytes.ensures in
    let n_is : c.in_ok-length.length ≡ 8 + length c.args.body.now = search rules in
    record {
      within = search rules;
      bytes = last.wrote ∙ ap (λ l. l ++ c.args.body.now) (two.wrote ∙ ap (λ l. l ++ eight c.args.number.0) (one.wrote ∙ ap four n_is));
      kept = last.kept ∙ later c.write_number-at-2.result c.write_bytes.result c.write_number-at-2.new.out c.write_number-at.new.out (omega arith) two.kept ∙ later c.write_number-at.result c.write_bytes.result c.write_number-at.new.out c.args.out.now (omega arith) one.kept;
    }
