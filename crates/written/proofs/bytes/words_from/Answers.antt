use Rattle.std.proofs.Common.{◌≡◌, ◌/◌, ◌<◌, length, map, sym, refl, ap, ◌∙◌, arith}
use Rattle.std.proofs.lemmas.Bool.Decides.{nat_tests}
use Rattle.std.proofs.lemmas.List.{take_all, length-map}
use Rattle.book.specs.Words.{just}
use Rattle.written.proofs.Chunks.{word_in, chunked, ragged}
use Rattle.written.proofs.bytes.words_from.Goals as goal

pub returns-then-not-is_empty-clause-words : goal.returns-then-not-is_empty-clause-words
returns-then-not-is_empty-clause-words c =
    let more : 0 < length c.as_chunks.result.1.now = grind (arith, nat_tests) in
    (ragged (length c.args.bytes.now / 8) c.args.bytes.now (omega (arith, more, c.as_chunks.ensures.back_len)) (omega arith), refl)

pub returns-then-chunks-room-clause-words : goal.returns-then-chunks-room-clause-words
returns-then-chunks-room-clause-words c =
    let chunks = c.as_chunks.result.0.now in
    let none : length c.as_chunks.result.1.now ≡ 0 = grind (arith, nat_tests) in
    let words = chunked c.args.bytes.now chunks (sym c.as_chunks.ensures.back_len ∙ none) c.type_inv.bytes c.as_chunks.ensures.front in
    ((map word_in chunks, words, omega (arith, length-map chunks word_in, c.room.ensures)), refl)

pub returns-clause-words : goal.returns-clause-words
returns-clause-words c =
    let chunks = c.as_chunks.result.0.now in
    let none : length c.as_chunks.result.1.now ≡ 0 = grind (arith, nat_tests) in
    chunked c.args.bytes.now chunks (sym c.as_chunks.ensures.back_len ∙ none) c.type_inv.bytes c.as_chunks.ensures.front
    ∙ ap just (sym (c.loop-chunk.invariant.items ∙ ap (map word_in) (take_all _ chunks c.loop-chunk-test.false)))
