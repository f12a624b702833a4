use Rattle.std.proofs.Common.{◌≡◌, ◌+◌, ◌≤◌, drop}
use Rattle.text.specs.Position.{behind}
use Rattle.text.proofs.places.locate.Given as goal

abbrev pub invariant-loop-c : goal.invariant-loop-c
invariant-loop-c l = (behind 1 1 l.c-items ≡ behind l.line l.column (drop l.c-index l.c-items)) × (l.line ≤ l.c-index + 1) × (l.column ≤ l.c-index + 1)
