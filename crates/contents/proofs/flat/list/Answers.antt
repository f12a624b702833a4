use Rattle.std.proofs.Common.{sym, ap, ◌∙◌}
use Rattle.std.proofs.lemmas.List.{nil_from_length}
use Rattle.book.specs.Words.{read_many, read_list}
use Rattle.contents.specs.Flat.{read_word, got_of}
use Rattle.contents.proofs.flat.list.Goals as goal

pub returns-in_err-count : goal.returns-in_err-count
unfolding read_list
returns-in_err-count g c = ap (read_list (read_many read_word g.row.N)) (nil_from_length c.args.words.now c.in_err-count.ensures.cases) ∙ ap got_of (sym c.from_residual.ensures)

pub returns : goal.returns
unfolding read_list
returns g c = ap (read_list (read_many read_word g.row.N)) c.in_ok-count.ensures.cases.0 ∙ c.many.ensures.items
