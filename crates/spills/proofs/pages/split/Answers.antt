use Rattle.std.proofs.Common.{◌/◌, take, drop, length, sym, ap, ◌∙◌}
use Rattle.std.proofs.lemmas.List.{take-map}
use Rattle.rows.specs.Model.{row_in, rows_of}
use Rattle.rows.proofs.Places.{as_long}
use Rattle.spills.proofs.pages.split.Goals as goal

pub returns-clause-halves : goal.returns-clause-halves
returns-clause-halves c =
    let rows = c.as_slice-rows.result.now in
    let all = c.as_slice-rows.ensures.rows in
    let long = as_long rows all in (
      ap rows_of c.assign.ensures.items ∙ sym (take-map row_in (length rows / 2) rows) ∙ ap (take (length rows / 2)) all ∙ ap (λ n. take (n / 2) c.args.pages.now.upper.items) long,
      c.remove_range.ensures.rows ∙ ap (λ n. drop (n / 2) c.args.pages.now.upper.items) long,
    )
