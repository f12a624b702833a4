-- What a reading of a text leaves is an end of it. Assumes nothing.
use Rattle.std.proofs.Common.{ℕ, zero, suc, ◌&&◌, ltb, List, [], ◌∷◌, ◌++◌, length, drop, codes}
use Rattle.streams.specs.Meaning.{Expr, Num, Key, Value, Stage}
use Rattle.grammar.specs.declared.refusals.Why.TheVariants as why
use Rattle.grammar.specs.Reading.{skip, next, is, is_end, is_the_word, limited, part, window, aggregate, stage, stages, plan, reading}
use Rattle.tokens.proofs.Ends.{Leaves, Tail, end_all, end_drop, end_skip, after_leaves, cond_leaves, limited_leaves}
use Rattle.formulas.proofs.Ends.{expression_leaves}

part_leaves : (word : List ℕ) (out : Expr) → Tail (part word out)
unfolding part
part_leaves word out text bs e = cond_leaves text (is_the_word word (skip bs)) _ _ (expression_leaves 64 text (drop (length word) (skip bs)) (end_drop (length word) text (skip bs) (end_skip text bs e))) e

window_leaves : Tail window
unfolding window
window_leaves text bs e = let s = end_skip text bs e in cond_leaves text (is_the_word (codes "in") (skip bs)) _ _ (limited_leaves why.Size 1 text (drop 2 (skip bs)) (end_drop 2 text (skip bs) s)) s

aggregate_leaves : Tail aggregate
unfolding aggregate
aggregate_leaves text bs e =
    let s = end_skip text bs e in
    cond_leaves text (is_the_word (codes "count") (skip bs)) _ _ (end_drop 5 text (skip bs) s)
    (cond_leaves text (is_the_word (codes "total") (skip bs)) _ _ (end_drop 5 text (skip bs) s)
    (cond_leaves text (is_the_word (codes "least") (skip bs)) _ _ (end_drop 5 text (skip bs) s) (cond_leaves text (is_the_word (codes "greatest") (skip bs)) _ _ (end_drop 8 text (skip bs) s) s)))

stage_leaves : Tail stage
unfolding stage
stage_leaves text bs e =
    after_leaves text (part (codes "keep") (Num 1) bs) _ (part_leaves (codes "keep") (Num 1) text bs e)
    (λ k r f. after_leaves text (part (codes "key") Key r) _ (part_leaves (codes "key") Key text r f)
    (λ y s g. after_leaves text (part (codes "value") Value s) _ (part_leaves (codes "value") Value text s g)
    (λ v t h. after_leaves text (window t) _ (window_leaves text t h) (λ z u i. after_leaves text (aggregate u) _ (aggregate_leaves text u i) (λ a rest j. j)))))

stages_leave : (room : ℕ) (before : List Stage) → Tail (stages room before)
unfolding stages
stages_leave zero before text bs e =
    let s = end_skip text bs e in
    cond_leaves text (is 59 (skip bs)) _ _ s (cond_leaves text (is_end (skip bs) && ltb 0 (length before)) _ _ s s)
stages_leave (suc room) before text bs e =
    let s = end_skip text bs e in
    cond_leaves text (is 59 (skip bs)) _ _
    (after_leaves text (stage (next (skip bs))) _ (stage_leaves text (next (skip bs)) (end_drop 1 text (skip bs) s)) (λ st rest r. stages_leave room (before ++ (st ∷ [])) text rest r))
    (cond_leaves text (is_end (skip bs) && ltb 0 (length before)) _ _ s s)

-- WHAT THE READING OF A TEXT LEAVES IS AN END OF IT
pub reading_leaves : (text : List ℕ) → Leaves text (reading text)
unfolding reading plan
reading_leaves text =
    let e = end_all text in
    let s = end_skip text text e in
    cond_leaves text (ltb 65536 (length text)) _ _ (end_drop 65536 text text e)
    (cond_leaves text (is_the_word (codes "late") (skip text)) _ _
    (after_leaves text (limited why.Lateness 0 (drop 4 (skip text))) _ (limited_leaves why.Lateness 0 text (drop 4 (skip text)) (end_drop 4 text (skip text) s))
    (λ n rest r. after_leaves text (stages 8 [] rest) _ (stages_leave 8 [] text rest r) (λ sts end f. f)))
    s)
