use Rattle.std.proofs.Common.{◌≡◌, take, map}
use Rattle.written.proofs.Chunks.{word_in}
use Rattle.written.proofs.bytes.words_from.Given as goal

-- the chunks so far are words
abbrev pub invariant-loop-chunk : goal.invariant-loop-chunk
invariant-loop-chunk l = record {
  items : l.to.items ≡ map word_in (take l.chunk-index l.chunks);
  room : l.to.room ≡ l.fn.to.room;
}
