-- The text of stages, one after the other. Assumes nothing.
use Rattle.std.proofs.Common.{◌≡◌, ℕ, ◌+◌, ◌<◌, List, [], ◌∷◌, ◌++◌, map, length, get_or, take, sym, refl, ap, ◌∙◌, append_assoc, append-nil}
use Rattle.std.proofs.lemmas.List.{take_more, map-append}
use Rattle.streams.specs.Meaning as spec
use Rattle.plans.specs.declared.stages.Stage.{Stage}
use Rattle.plans.specs.Model.{stage_of}
use Rattle.grammar.specs.Printing.{text_of_stage, text_of_stages}

both : (ss ts : List spec.Stage) → text_of_stages (ss ++ ts) ≡ text_of_stages ss ++ text_of_stages ts
unfolding text_of_stages
both [] ts = refl
both (s ∷ ss) ts = ap (λ l. 59 ∷ 32 ∷ (text_of_stage s ++ l)) (both ss ts) ∙ ap (λ l. 59 ∷ 32 ∷ l) (sym (append_assoc (text_of_stage s) (text_of_stages ss) (text_of_stages ts)))

-- one stage more, behind what was written before
pub stage_more : (late n : List ℕ) (xs : List Stage) (i : ℕ) (x : Stage) → i < length xs → x ≡ get_or xs i x →
    (late ++ (n ++ text_of_stages (map stage_of (take i xs)))) ++ (59 ∷ 32 ∷ text_of_stage (stage_of x)) ≡ late ++ (n ++ text_of_stages (map stage_of (take (i + 1) xs)))
unfolding text_of_stages
stage_more late n xs i x h is =
    let before = text_of_stages (map stage_of (take i xs)) in
    let one = 59 ∷ 32 ∷ text_of_stage (stage_of x) in
    let more : map stage_of (take (i + 1) xs) ≡ map stage_of (take i xs) ++ (stage_of x ∷ []) =
    ap (map stage_of) (take_more xs i x h ∙ ap (λ y. take i xs ++ (y ∷ [])) (sym is)) ∙ map-append stage_of (take i xs) (x ∷ []) in
    let last : text_of_stages (stage_of x ∷ []) ≡ one = ap (λ l. 59 ∷ 32 ∷ l) (append-nil (text_of_stage (stage_of x))) in
    let all : text_of_stages (map stage_of (take (i + 1) xs)) ≡ before ++ one = ap text_of_stages more ∙ both (map stage_of (take i xs)) (stage_of x ∷ []) ∙ ap (λ l. before ++ l) last in
    append_assoc late (n ++ before) one ∙ ap (λ l. late ++ l) (append_assoc n before one ∙ ap (λ l. n ++ l) (sym all))
