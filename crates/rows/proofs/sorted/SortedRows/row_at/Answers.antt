use Rattle.book.specs.Rows.{eqk}
use Rattle.std.proofs.Common.{ap, ◌∙◌}
use Rattle.rows.specs.Model.{key_of, row_in}
use Rattle.rows.proofs.Places.{held}
use Rattle.rows.proofs.sorted.SortedRows.row_at.Goals as goal

pub returns : goal.returns
unfolding eqk
returns c =
    let e = c.in_ok-get.ensures.lookup.3 in
    rw (← c.self.view_is, c.then_some.ensures) (held (key_of c.args.key) c.self.inside.rows.now c.args.i c.in_ok-get.field-0.now c.from-row.result c.eq.result e.0 (c.from-row.ensures ∙ ap row_in (e.1 c.in_ok-get.field-0.now)) c.eq.ensures)
