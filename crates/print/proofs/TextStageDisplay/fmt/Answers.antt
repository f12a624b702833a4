use Rattle.std.proofs.Common.{◌≡◌, ◌∷◌, ◌++◌, codes, decimal, rules}
use Rattle.std.proofs.Output.{has_written_of_eq}
use Rattle.plans.specs.Model.{expr_of}
use Rattle.grammar.specs.Printing.{is_number_one, is_just_key, is_value, said, text_of_stage}
use Rattle.print.proofs.Defaults.{no_one, no_key, no_value}
use Rattle.print.proofs.TextStageDisplay.fmt.Goals.{in-Num, in_default, in_default-2, in-Key, in_default-matches, in-Value, in_default-matches-2}
use Rattle.print.proofs.TextStageDisplay.fmt.Goals as goal

pub returns-clause-writes : goal.returns-clause-writes
unfolding text_of_stage is_number_one is_just_key is_value
returns-clause-writes g c =
    let stage = c.args.self.now.0.now in
    let keep : c.match-matches.matches ≡ is_number_one (expr_of stage.keep) = elim c.match-matches.branch [ in-Num w ↦ search rules | in_default w ↦ search rules | in_default-2 w ↦ search (rules, no_one) ] in
    let key : c.match-matches-2.matches ≡ is_just_key (expr_of stage.key) = elim c.match-matches-2.branch [ in-Key w ↦ search rules | in_default-matches w ↦ search (rules, no_key) ] in
    let value : c.match-matches-3.matches ≡ is_value (expr_of stage.value) = elim c.match-matches-3.branch [ in-Value w ↦ search rules | in_default-matches-2 w ↦ search (rules, no_value) ] in
    λ p ok. has_written_of_eq _ _ _ _ _
    (λ i. said (codes "keep") (keep i) (expr_of stage.keep) ++ (said (codes "key") (key i) (expr_of stage.key) ++ (said (codes "value") (value i) (expr_of stage.value) ++ (codes "in " ++ (decimal stage.size.0 ++ (32 ∷ c.named.ensures i))))))
    (c.write.ensures.writes p ok)
