use Rattle.std.proofs.Common.{◌≡◌, ◌++◌, take, drop, subst, sym, arith}
use Rattle.std.proofs.lemmas.List.{map-append, take-map, drop-map}
use Rattle.book.specs.Rows.{Sorted}
use Rattle.rows.specs.Model.{rows_of}
use Rattle.rows.proofs.Parts.{sorted_without}
use Rattle.rows.proofs.table.Rows.remove_range.Goals as goal

without : (c : goal.After-self-1) → rows_of (take c.remove_range-self-inside.result c.remove_range-self-inside.new.slots) ≡ take c.args.range.start (rows_of (take c.self.inside.count c.self.inside.slots.now)) ++ drop c.args.range.end (rows_of (take c.self.inside.count c.self.inside.slots.now))
without c = rw c.remove_range-self-inside.ensures.items (simp (map-append, take-map, drop-map))

pub invariant_of-self : goal.invariant_of-self
invariant_of-self c =
    let r = c.remove_range-self-inside in
    (omega (arith, r.ensures.count, r.auto.slots, c.requires.order, c.self.invariant.0), subst Sorted (sym (without c)) (sorted_without c.args.range.start c.args.range.end _ c.requires.order c.self.invariant.1))

pub returns-clause-rows : goal.returns-clause-rows
returns-clause-rows c = rw (← c.self.view_is) (without c)
