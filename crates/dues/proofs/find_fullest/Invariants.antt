use Rattle.std.proofs.Common.{◌≡◌, drop}
use Rattle.book.specs.Due.{fullest}
use Rattle.rows.specs.Segments.{IsHigh}
use Rattle.segs.specs.Model.{segs_of}
use Rattle.dues.specs.Model.{IsFullest}
use Rattle.dues.proofs.find_fullest.Given as goal

-- the fullest of the segments so far, which are the last ones
abbrev pub invariant-loop-number : goal.invariant-loop-number
invariant-loop-number l = record {
  best : IsFullest l.number (segs_of (drop l.number l.segments)) l.rows l.best;
  most : l.most ≡ (fullest (segs_of (drop l.number l.segments)) l.rows).rows;
  high : IsHigh l.high (segs_of (drop l.number l.segments));
}
