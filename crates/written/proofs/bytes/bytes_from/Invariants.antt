use Rattle.std.proofs.Common.{◌≡◌, ◌+◌, ◌*◌, ◌++◌, length, take}
use Rattle.book.specs.Words.{words_bytes}
use Rattle.written.proofs.bytes.bytes_from.Given as goal

-- the words so far are written
abbrev pub invariant-loop-word : goal.invariant-loop-word
invariant-loop-word l = record {
  items : l.to.items ≡ l.initial.to.items ++ words_bytes (take l.word-index l.words);
  long : length l.to.items ≡ length l.initial.to.items + 8 * l.word-index;
  room : l.to.room ≡ l.initial.to.room;
}
