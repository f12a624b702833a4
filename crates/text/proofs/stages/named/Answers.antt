use Rattle.std.proofs.Common.{◌≡◌, codes, arith}
use Rattle.std.proofs.lemmas.Slice.Eq.{text_from_reads}
use Rattle.text.proofs.stages.named.Goals as goal

pub returns-in-greatest : goal.returns-in-greatest
returns-in-greatest c =
    let name : c.args.word.now ≡ codes "greatest" = text_from_reads c.args.word.now (codes "greatest") (omega arith) (omega arith, (omega arith, (omega arith, (omega arith, (omega arith, (omega arith, (omega arith, (omega arith, tt)))))))) in
    rw name
