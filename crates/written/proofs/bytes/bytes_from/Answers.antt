use Rattle.std.proofs.Common.{◌++◌, length, sym, refl, append-nil, arith, ap, ◌∙◌}
use Rattle.std.proofs.lemmas.List.{length-append}
use Rattle.book.specs.Words.{words_bytes}
use Rattle.written.proofs.Chunks.{bytes_written}
use Rattle.written.proofs.bytes.bytes_from.Goals as goal

pub loop-word-init : goal.loop-word-init
unfolding words_bytes
loop-word-init c = record { items = sym (append-nil c.args.to.now.items); long = omega arith; room = refl }

pub loop-word-preserved : goal.loop-word-preserved
loop-word-preserved c =
    let i = c.loop-word.invariant in
    let e = c.extend_from_slice.ensures in
    record {
      items = bytes_written c.args.words.now c.loop-word.word-index _ _ _ _ c.loop-word-test.true refl i.items (e.items ∙ ap (λ bs. c.loop-word.to.items ++ bs) c.to_be_bytes.ensures);
      long = omega (arith, ap length e.items, length-append c.loop-word.to.items c.to_be_bytes.result, ap length c.to_be_bytes.ensures, i.long);
      room = e.room ∙ i.room;
    }
