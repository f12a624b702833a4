-- Steps of the readers of stages and plans, from what each call answered. Assumes nothing.
use Rattle.std.proofs.Common.{◌≡◌, ℕ, zero, suc, ◌+◌, ◌-◌, ◌<◌, ◌≤◌, min, Bool, true, false, cond, ◌&&◌, ltb, ◌⊎◌, inl, inr, ◌≢◌, List, [], ◌∷◌, ◌++◌, length, get_or, take, drop, Some, None, codes, refl, ap, subst, ◌∙◌, arith, add-one, length-append, drop-cons}
use Rattle.std.proofs.lemmas.Grind.{common_steps}
use Rattle.std.proofs.lemmas.List.{drop_all}
use Rattle.std.proofs.lemmas.Bool.{lt-ltb, le-ltb, eq-eqb, ne_eqb}
use Rattle.std.proofs.Math.Seq.{drop-append_seam}
use Rattle.std.specs.Char.{is_ascii_alphanumeric}
use Rattle.std.specs.List.{prefix_len, take_while}
use Rattle.std.specs.Str.{bytes_eq}
use Rattle.streams.specs.Meaning as spec
use Rattle.streams.specs.Meaning.{Stage, Plan}
use Rattle.streams.specs.Calls.{plan_ok}
use Rattle.grammar.specs.Printing.{printed}
use Rattle.grammar.specs.declared.refusals.Why.{Why}
use Rattle.grammar.specs.declared.refusals.Why.TheVariants.{Aggregate, Semicolon, Stages, Lateness, Long}
use Rattle.grammar.specs.Reading.{Got, got, bad, after, or_else, skip, next, is, is_the_word, is_end, aggregate, stage, stages, limited, plan, reading}
use Rattle.grammar.proofs.Wholes.{print_reads}
use Rattle.tokens.proofs.Words.{word_case}
use Rattle.text.specs.Position.{behind}
use Rattle.text.specs.Says.{named_of}
use Rattle.tokens.specs.Says.{EndOf}
use Rattle.tokens.proofs.Ends.{Leaves}
use Rattle.text.proofs.Ends.{reading_leaves}

-- ---- the name of an aggregate
pub aggregate_word : (bs s : List ℕ) → s ≡ skip bs → aggregate bs ≡ or_else (named_of (take_while is_ascii_alphanumeric s)) (bad Aggregate s) (λ a. got a (drop (prefix_len is_ascii_alphanumeric s) s))
unfolding aggregate
aggregate_word bs s e =
    let w = take_while is_ascii_alphanumeric s in
    let rest = drop (prefix_len is_ascii_alphanumeric s) s in
    rw (← e)
    (word_case (codes "count") s (got spec.Count) _ refl
    ∙ ap (cond (bytes_eq w (codes "count")) (got spec.Count rest))
    (word_case (codes "total") s (got spec.Total) _ refl
    ∙ ap (cond (bytes_eq w (codes "total")) (got spec.Total rest))
    (word_case (codes "least") s (got spec.Least) _ refl ∙ ap (cond (bytes_eq w (codes "least")) (got spec.Least rest)) (word_case (codes "greatest") s (got spec.Greatest) _ refl)))
    ∙ go rest (bytes_eq w (codes "count")) (bytes_eq w (codes "total")) (bytes_eq w (codes "least")) (bytes_eq w (codes "greatest")))
  where
    go : (rest : List ℕ) (c t l g : Bool) → cond c (got spec.Count rest) (cond t (got spec.Total rest) (cond l (got spec.Least rest) (cond g (got spec.Greatest rest) (bad Aggregate s)))) ≡ or_else (cond c (Some spec.Count) (cond t (Some spec.Total) (cond l (Some spec.Least) (cond g (Some spec.Greatest) None)))) (bad Aggregate s) (λ a. got a rest)
    go rest true t l g = refl
    go rest false true l g = refl
    go rest false false true g = refl
    go rest false false false true = refl
    go rest false false false false = refl

-- ---- stage after stage: those in `before` were read up to `place`
pub record Staging (all : Got (List Stage)) (place : List ℕ) (before : List Stage) : Type 0 where
  pub from : List ℕ
  pub is : all ≡ stages (8 - length before) before from
  pub skipped : place ≡ skip from
  pub few : length before ≤ 8

stages_many : (room : ℕ) (before : List Stage) (from s : List ℕ) → s ≡ skip from → room ≡ 0 → is 59 s ≡ true → stages room before from ≡ bad Stages s
unfolding stages
stages_many room before from s e z h = rw (z, ← e, h)

stages_next : (room : ℕ) (before : List Stage) (from s n : List ℕ) → s ≡ skip from → n ≡ next s → room ≢ 0 → is 59 s ≡ true → stages room before from ≡ after (stage n) (λ st rest. stages (room - 1) (before ++ (st ∷ [])) rest)
unfolding stages
stages_next zero before from s n e f z h = absurd (z refl)
stages_next (suc room) before from s n e f z h = let less : suc room - 1 ≡ room = omega arith in rw (← e, h, ← f, less)

stages_ends : (room : ℕ) (before : List Stage) (from s : List ℕ) → s ≡ skip from → is 59 s ≡ false → stages room before from ≡ cond (is_end s && ltb 0 (length before)) (got before s) (bad Semicolon s)
unfolding stages
stages_ends zero before from s e h = rw (← e, h)
stages_ends (suc room) before from s e h = rw (← e, h)

ends_got : (s : List ℕ) (before : List Stage) → length s ≡ 0 → 0 < length before → cond (is_end s && ltb 0 (length before)) (got before s) (bad Semicolon s) ≡ got before []
unfolding is_end
ends_got [] before h k = rw (lt-ltb 0 (length before) k)
ends_got (x ∷ xs) before h k = absurd (omega arith)

ends_bad : (s : List ℕ) (before : List Stage) → (0 < length s) ⊎ (length before ≡ 0) → cond (is_end s && ltb 0 (length before)) (got before s) (bad Semicolon s) ≡ bad Semicolon s
unfolding is_end
ends_bad [] before (inl h) = absurd (omega arith)
ends_bad [] before (inr h) = rw (le-ltb 0 (length before) (omega arith))
ends_bad (x ∷ xs) before h = refl

module _ (all : Got (List Stage)) (place : List ℕ) (before : List Stage) (so : Staging all place before) where
  pub too_many : 8 ≤ length before → is 59 place ≡ true → all ≡ bad Stages place
  too_many h e = so.is ∙ stages_many (8 - length before) before so.from place so.skipped (omega arith) e

  pub staged : (n : List ℕ) → length before < 8 → is 59 place ≡ true → n ≡ next place → all ≡ after (stage n) (λ st rest. stages (8 - length before - 1) (before ++ (st ∷ [])) rest)
  staged n h e f = so.is ∙ stages_next (8 - length before) before so.from place n so.skipped f (omega arith) e

  pub one_more : (n : List ℕ) (st : Stage) (end to : List ℕ) → length before < 8 → is 59 place ≡ true → n ≡ next place → stage n ≡ got st end → to ≡ skip end → Staging all to (before ++ (st ∷ []))
  unfolding after
  one_more n st end to h e f i k =
      let many : length (before ++ (st ∷ [])) ≡ length before + 1 = length-append before (st ∷ []) in
      let room : 8 - length before - 1 ≡ 8 - length (before ++ (st ∷ [])) = omega arith in
      record { from = end; is = staged n h e f ∙ rw i (ap (λ n. stages n (before ++ (st ∷ [])) end) room); skipped = k; few = omega arith }

  pub stages_done : is 59 place ≡ false → length place ≡ 0 → 0 < length before → all ≡ got before []
  stages_done e h k = so.is ∙ stages_ends (8 - length before) before so.from place so.skipped e ∙ ends_got place before h k

  pub no_semicolon : is 59 place ≡ false → (0 < length place) ⊎ (length before ≡ 0) → all ≡ bad Semicolon place
  no_semicolon e h = so.is ∙ stages_ends (8 - length before) before so.from place so.skipped e ∙ ends_bad place before h

-- ---- a plan
pub too_long : (bs : List ℕ) → 65536 < length bs → reading bs ≡ bad Long (drop 65536 bs)
unfolding reading
too_long bs h = rw (lt-ltb 65536 (length bs) h)

module _ (bs s : List ℕ) (short : length bs ≤ 65536) (e : s ≡ skip bs) where
  pub late_is : (n : List ℕ) → n ≡ drop 4 s → is_the_word (codes "late") s ≡ true → reading bs ≡ after (limited Lateness 0 n) (λ late rest. after (stages 8 [] rest) (λ sts end. got (record { late = late; stages = sts }) end))
  unfolding reading plan
  late_is n f h = rw (le-ltb 65536 (length bs) short, ← e, h, ← f)

-- ---- lines and columns
module _ (xs : List ℕ) (i line column : ℕ) where
  front : i < length xs → drop i xs ≡ get_or xs i 0 ∷ drop (i + 1) xs
  front h = rw (add-one, drop-cons xs i 0)

  pub new_line : i < length xs → get_or xs i 0 ≡ 10 → behind line column (drop i xs) ≡ behind (line + 1) 1 (drop (i + 1) xs)
  unfolding behind
  new_line h e = rw (front h, eq-eqb _ _ e)

  pub same_line : i < length xs → (get_or xs i 0 ≡ 10 → ⊥) → behind line column (drop i xs) ≡ behind line (column + 1) (drop (i + 1) xs)
  unfolding behind
  same_line h e = rw (front h, ne_eqb _ _ e)

  pub behind_all : length xs ≤ i → behind line column (drop i xs) ≡ record { line = line; column = column }
  unfolding behind
  behind_all h = rw (drop_all i xs h)

-- what stands before a place, also beyond the end
pub taken : (text : List ℕ) (at n : ℕ) → n ≡ min at (length text) → take n text ≡ take at text
taken text at n h = grind (arith, common_steps)

-- ---- an offset, from what is left there
pub record Offset (text : List ℕ) (rest : List ℕ) : Type 0 where
  pub inside : length rest ≤ length text
  pub is : drop (length text - length rest) text ≡ rest

pub offset_of : {why : Why} (text rest : List ℕ) → reading text ≡ bad why rest → Offset text rest
offset_of {why} text rest e =
    let end : EndOf text rest = subst (Leaves text) e (reading_leaves text) in
    let long : length text ≡ length end.front + length rest = ap length end.is ∙ length-append end.front rest in
    let at : length text - length rest ≡ length end.front = omega arith in
    record { inside = omega arith; is = rw at (ap (drop (length end.front)) end.is ∙ drop-append_seam end.front rest) }

-- ---- what the laws of the grammar say of an answer
module _ (text : List ℕ) where
  pub got_again : (p q : Plan) → reading text ≡ got p [] → plan_ok q ≡ true → text ≡ printed q → p ≡ q
  got_again p q h ok e = let read : reading text ≡ got q [] = ap reading e ∙ print_reads q ok in cc

  pub never_refused : {A : Type 0} {x y : A} {why : Why} {rest : List ℕ} (q : Plan) → reading text ≡ bad why rest → plan_ok q ≡ true → text ≡ printed q → x ≡ y
  never_refused q h ok e = let read : reading text ≡ got q [] = ap reading e ∙ print_reads q ok in absurd cc
