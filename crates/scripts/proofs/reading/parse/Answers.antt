use Rattle.std.proofs.Common.{length, sym, refl, ap, ◌∙◌, arith, length-drop}
use Rattle.std.specs.Char.{is_ascii_alphanumeric}
use Rattle.std.specs.List.{prefix_len}
use Rattle.scripts.specs.Lines.{word_line, command}
use Rattle.scripts.proofs.Words.{skip_shorter, words_line}
use Rattle.scripts.proofs.reading.parse.Goals as goal

pub returns-then-is_silent : goal.returns-then-is_silent
unfolding command word_line
returns-then-is_silent c = rw (← c.skip-start.ensures.is, ← c.if-is_silent.ensures)

pub named-requires : goal.named-requires
named-requires c =
    let start = c.skip-start.result.now in
    omega (arith, skip_shorter c.args.line.now, ap length c.skip-start.ensures.is, ap length c.split_word.ensures.behind, length-drop (prefix_len is_ascii_alphanumeric start) start)

pub returns : goal.returns
unfolding command
returns c =
    let start = c.skip-start.result.now in
    c.named.ensures
    ∙ rw (c.split_word.ensures.front, c.split_word.ensures.behind, ← c.skip-start.ensures.is)
    (sym (words_line (length c.args.line.now) _ start refl (omega (arith, skip_shorter c.args.line.now, ap length c.skip-start.ensures.is)) (sym c.if-is_silent.ensures)))
