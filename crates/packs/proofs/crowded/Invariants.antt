use Rattle.std.proofs.Common.{◌≡◌, drop}
use Rattle.book.specs.Due.{crowd}
use Rattle.segs.specs.Model.{segs_of}
use Rattle.packs.proofs.crowded.Given as goal

-- no level of the segments so far is crowded
abbrev pub invariant-loop-words : goal.invariant-loop-words
invariant-loop-words l = crowd l.most (segs_of l.segments) (segs_of (drop l.words-index l.segments)) ≡ crowd l.most (segs_of l.segments) (segs_of l.segments)
