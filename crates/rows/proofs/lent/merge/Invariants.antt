use Rattle.std.proofs.Common.{◌≡◌, ℕ, ◌+◌, ◌≤◌, List, ◌++◌, length, take}
use Rattle.book.specs.Rows.{Sorted, onto}
use Rattle.rows.specs.Model.{rows_of, aggregates_of}
use Rattle.rows.proofs.lent.merge.Given as goal

-- the rows behind those that are left are merged
abbrev pub invariant-loop-words : goal.invariant-loop-words
invariant-loop-words l = record {
  done : List (List ℕ);
  all : l.from ≡ l.words-iterator.iter.rest.now ++ done;
  rows : rows_of (take l.so_far l.slots) ≡ onto (aggregates_of l.stages) (rows_of done) (rows_of (take l.count l.initial.slots));
  few : l.so_far + length l.words-iterator.iter.rest.now ≤ l.count + length l.from;
  sorted : Sorted (rows_of (take l.so_far l.slots));
}
