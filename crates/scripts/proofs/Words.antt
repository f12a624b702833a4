-- What the first word makes of a line. Assumes nothing.
use Rattle.std.proofs.Common.{◌≡◌, ℕ, ◌+◌, ◌-◌, ◌≤◌, Bool, true, false, cond, not, ◌&&◌, ◌||◌, eqb, List, [], ◌∷◌, length, take, drop, Ok, Err, codes, refl, sym, ap, ◌∙◌, arith, length-drop}
use Rattle.std.proofs.lemmas.Bool.{eqb-true, and_right}
use Rattle.std.specs.Char.{is_ascii_alphanumeric}
use Rattle.std.specs.List.{prefix_len, take_while}
use Rattle.std.specs.Str.{bytes_eq}
use Rattle.grammar.specs.Reading.{skip, blank, is, is_end, starts_letter, starts_digit, is_the_word}
use Rattle.scripts.specs.declared.commands.Command.{Command}
use Rattle.scripts.specs.declared.commands.Command.TheVariants.{Plan, PlanFile}
use Rattle.scripts.specs.declared.commands.Complaint.TheVariants.{Unknown}
use Rattle.scripts.specs.Lines.{Says, plan_at, by_word, put_line, still_line, out_line, logs_line, drop_line, rarer_line, word_line}
use Rattle.tokens.proofs.Words.{and_regroup, word_prefix, word_case, word_parts, word_fits}

abbrev ok_of : Command → Says
ok_of c = Ok c

-- what a line begins with is no longer than the line
pub skip_shorter : (bs : List ℕ) → length (skip bs) ≤ length bs
unfolding skip
skip_shorter [] = omega arith
skip_shorter (c ∷ cs) = let more : length (skip cs) ≤ length cs = skip_shorter cs in elim (blank c) as (λ t. length (cond t (skip cs) (c ∷ cs)) ≤ length (c ∷ cs)) [ true ↦ omega arith | false ↦ omega arith ]

-- a dash is neither a letter nor a digit
dash : (d : List ℕ) → is_the_word (codes "-file") d ≡ not (starts_letter d || starts_digit d) && is_the_word (codes "-file") d
unfolding is_the_word starts_letter starts_digit
dash [] = refl
dash (c ∷ cs) = go (eqb c 45) refl
  where
    go : (t : Bool) → eqb c 45 ≡ t → is_the_word (codes "-file") (c ∷ cs) ≡ not (starts_letter (c ∷ cs) || starts_digit (c ∷ cs)) && is_the_word (codes "-file") (c ∷ cs)
    go true e = let at : c ≡ 45 = eqb-true c 45 e in rw at
    go false e = rw e (sym (and_right (not (starts_letter (c ∷ cs) || starts_digit (c ∷ cs))) false refl))

-- `plan-file` begins with the word `plan`
plan_file : (bs : List ℕ) → is_the_word (codes "plan-file") bs ≡ is_the_word (codes "plan") bs && is_the_word (codes "-file") (drop 4 bs)
plan_file bs =
    let d = drop 4 bs in
    let file = is_the_word (codes "-file") d in
    let plan = bytes_eq (take 4 bs) (codes "plan") in
    word_parts (codes "plan") (codes "-file") bs ∙ ap (λ t. plan && t) (dash d) ∙ and_regroup plan (not (starts_letter d || starts_digit d)) file ∙ ap (λ t. t && file) (sym (word_prefix (codes "plan") bs))

module _ (long at : ℕ) (bs : List ℕ) (begins : at ≡ long - length bs) (inside : length bs ≤ long) where
  plan_case : (others : Says) → cond (is_the_word (codes "plan-file") bs) (Ok (PlanFile (at + 9))) (cond (is_the_word (codes "plan") bs) (Ok (Plan (at + 4))) others)
      ≡ cond (bytes_eq (take_while is_ascii_alphanumeric bs) (codes "plan")) (Ok (plan_at long (drop (prefix_len is_ascii_alphanumeric bs) bs))) others
  unfolding plan_at
  plan_case others = go (is_the_word (codes "plan") bs) refl ∙ word_case (codes "plan") bs (λ rest. Ok (plan_at long rest)) others refl
    where
      named : (t : Bool) → is_the_word (codes "plan") bs ≡ true → is_the_word (codes "-file") (drop 4 bs) ≡ t → cond t (ok_of (PlanFile (at + 9))) (Ok (Plan (at + 4))) ≡ Ok (cond t (PlanFile (long - length (drop 5 (drop 4 bs)))) (Plan (long - length (drop 4 bs))))
      named true w f =
          let nine : 9 ≤ length bs = word_fits (codes "plan-file") bs (plan_file bs ∙ rw (w, f)) in
          let place : at + 9 ≡ long - length (drop 5 (drop 4 bs)) = omega (arith, length-drop 5 (drop 4 bs), length-drop 4 bs) in
          ap (λ n. ok_of (PlanFile n)) place
      named false w f =
          let four : 4 ≤ length bs = word_fits (codes "plan") bs w in
          let place : at + 4 ≡ long - length (drop 4 bs) = omega (arith, length-drop 4 bs) in
          ap (λ n. ok_of (Plan n)) place

      go : (t : Bool) → is_the_word (codes "plan") bs ≡ t → cond (is_the_word (codes "plan-file") bs) (Ok (PlanFile (at + 9))) (cond (is_the_word (codes "plan") bs) (Ok (Plan (at + 4))) others) ≡ cond (is_the_word (codes "plan") bs) (Ok (plan_at long (drop 4 bs))) others
      go true w = rw (plan_file bs, w) (named (is_the_word (codes "-file") (drop 4 bs)) w refl)
      go false w = rw (plan_file bs, w)

  -- a line that says something
  pub words_line : is_end bs || is 35 bs ≡ false → word_line at bs ≡ by_word long (take_while is_ascii_alphanumeric bs) (drop (prefix_len is_ascii_alphanumeric bs) bs)
  unfolding word_line rarer_line
  words_line h =
      let w = take_while is_ascii_alphanumeric bs in
      let rest = drop (prefix_len is_ascii_alphanumeric bs) bs in
      rw h
      (word_case (codes "put") bs put_line _ refl
      ∙ ap (cond (bytes_eq w (codes "put")) (put_line rest))
      (word_case (codes "still") bs still_line _ refl
      ∙ ap (cond (bytes_eq w (codes "still")) (still_line rest))
      (word_case (codes "out") bs out_line _ refl
      ∙ ap (cond (bytes_eq w (codes "out")) (out_line rest))
      (plan_case _
      ∙ ap (cond (bytes_eq w (codes "plan")) (Ok (plan_at long rest)))
      (word_case (codes "logs") bs logs_line _ refl ∙ ap (cond (bytes_eq w (codes "logs")) (logs_line rest)) (word_case (codes "drop") bs drop_line (Err Unknown) refl))))))
