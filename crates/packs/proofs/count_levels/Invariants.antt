use Rattle.std.proofs.Common.{◌≡◌, ◌+◌, ◌≤◌, drop}
use Rattle.book.specs.Due.{at_level, below_level}
use Rattle.segs.specs.Model.{segs_of}
use Rattle.packs.proofs.count_levels.Given as goal

abbrev pub invariant-loop-words : goal.invariant-loop-words
invariant-loop-words l = record {
  below : l.counts.below + below_level l.level.0 (segs_of (drop l.words-index l.segments)) ≡ below_level l.level.0 (segs_of l.segments);
  at : l.counts.at + at_level l.level.0 (segs_of (drop l.words-index l.segments)) ≡ at_level l.level.0 (segs_of l.segments);
  few : l.counts.below + l.counts.at ≤ l.words-index;
}
