use Rattle.std.proofs.Common.{◌≡◌, ℕ, ◌+◌, List, take, drop, sym, ap, ◌∙◌, arith}
use Rattle.text.specs.Position.{behind}
use Rattle.text.proofs.Steps.{new_line, same_line, behind_all, taken}
use Rattle.text.proofs.places.locate.Goals as goal
use Rattle.text.proofs.places.locate.Goals.{then-c-eq10, else-c-eq10}

same : {l l' k k' : ℕ} (xs : List ℕ) → l ≡ l' → k ≡ k' → behind l k xs ≡ behind l' k' xs
same xs e f = rw (e, f)

pub loop-c-preserved : goal.loop-c-preserved
loop-c-preserved c =
    let xs = take c.min.result c.args.text.now in
    let so_far = c.loop-c.invariant.0 in
    elim c.if-c-eq10.branch [
      | then-c-eq10 w ↦ (
        so_far ∙ new_line xs c.loop-c.c-index c.loop-c.line c.loop-c.column c.loop-c-test.true w.if-c-eq10.true ∙ same (drop (c.loop-c.c-index + 1) xs) (sym w.line-is) (sym w.column-is),
        omega (arith, w.line-is),
        omega (arith, w.column-is),
      )
      | else-c-eq10 w ↦ (
        so_far ∙ same_line xs c.loop-c.c-index c.loop-c.line c.loop-c.column c.loop-c-test.true w.if-c-eq10.false ∙ same (drop (c.loop-c.c-index + 1) xs) (sym w.line-is) (sym w.column-is),
        omega (arith, w.line-is),
        omega (arith, w.column-is),
      )
    ]

pub returns : goal.returns
returns c =
    let xs = take c.min.result c.args.text.now in
    sym (ap (behind 1 1) (sym (taken c.args.text.now c.args.at c.min.result c.min.ensures)) ∙ c.loop-c.invariant.0 ∙ behind_all xs c.loop-c.c-index c.loop-c.line c.loop-c.column c.loop-c-test.false)
