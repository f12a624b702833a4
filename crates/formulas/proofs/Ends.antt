-- What the reading of an expression leaves is an end of the text. Assumes nothing.
use Rattle.std.proofs.Common.{ℕ, zero, suc, ◌+◌, leb, List, codes}
use Rattle.streams.specs.Meaning.{Expr}
use Rattle.streams.specs.Calls.{parts}
use Rattle.grammar.specs.declared.operators.Operator.{Operator}
use Rattle.grammar.specs.declared.operators.Level.{Level}
use Rattle.grammar.specs.declared.operators.Level.TheVariants as level
use Rattle.grammar.specs.declared.refusals.Why.TheVariants as why
use Rattle.grammar.specs.Reading.{bad, Reader, skip, next, is, starts_digit, is_the_word, digits, operator, comparison, join, negate, more, chain, chained, operand, factor, leaf, compared, single, closed, in_brackets, expression}
use Rattle.tokens.specs.Says.{EndOf}
use Rattle.tokens.proofs.Ends.{Leaves, Tail, end_drop, end_skip, after_leaves, cond_leaves, option_leaves, digits_leave}

join_leaves : (o : Operator) (place : List ℕ) (a b : Expr) (text rest : List ℕ) → EndOf text place → EndOf text rest → Leaves text (join o place a b rest)
unfolding join
join_leaves o place a b text rest p r = cond_leaves text (leb (1 + (parts a + parts b)) 64) _ _ r p

negate_leaves : (place : List ℕ) (a : Expr) (text rest : List ℕ) → EndOf text place → EndOf text rest → Leaves text (negate place a rest)
unfolding negate
negate_leaves place a text rest p r = cond_leaves text (leb (1 + parts a) 64) _ _ r p

leaf_leaves : Tail leaf
unfolding leaf
leaf_leaves text bs e =
    cond_leaves text (starts_digit bs) _ _ (after_leaves text (digits bs 0 bs) _ (digits_leave bs 0 text bs e e) (λ n rest r. r))
    (cond_leaves text (is_the_word (codes "time") bs) _ _ (end_drop 4 text bs e)
    (cond_leaves text (is_the_word (codes "key") bs) _ _ (end_drop 3 text bs e) (cond_leaves text (is_the_word (codes "value") bs) _ _ (end_drop 5 text bs e) e)))

more_leaves : (l : Level) (sub : Reader Expr) → Tail sub → (turns : ℕ) (a : Expr) → Tail (more l sub turns a)
unfolding more
more_leaves l sub t zero a text bs e = e
more_leaves l sub t (suc turns) a text bs e =
    let s = end_skip text bs e in
    option_leaves text (operator l (skip bs)) _ _ e
    (λ o. after_leaves text (sub (next (skip bs))) _ (t text (next (skip bs)) (end_drop 1 text (skip bs) s))
    (λ b rest r. after_leaves text (join o (skip bs) a b rest) _ (join_leaves o (skip bs) a b text rest s r) (λ c end f. more_leaves l sub t turns c text end f)))

chain_leaves : (l : Level) (sub : Reader Expr) → Tail sub → Tail (chain l sub)
unfolding chain
chain_leaves l sub t text bs e = after_leaves text (sub bs) _ (t text bs e) (λ a rest r. more_leaves l sub t 64 a text rest r)

factor_leaves : (inner : Reader Expr) → Tail inner → (nots : ℕ) → Tail (factor inner nots)
unfolding factor
factor_leaves inner t zero text bs e =
    let s = end_skip text bs e in
    cond_leaves text (is 33 (skip bs)) _ _ s (cond_leaves text (is 40 (skip bs)) _ _ (t text (skip bs) s) (leaf_leaves text (skip bs) s))
factor_leaves inner t (suc nots) text bs e =
    let s = end_skip text bs e in
    cond_leaves text (is 33 (skip bs)) _ _
    (after_leaves text (factor inner nots (next (skip bs))) _ (factor_leaves inner t nots text (next (skip bs)) (end_drop 1 text (skip bs) s)) (λ a rest r. negate_leaves (skip bs) a text rest s r))
    (cond_leaves text (is 40 (skip bs)) _ _ (t text (skip bs) s) (leaf_leaves text (skip bs) s))

sums_leave : (inner : Reader Expr) → Tail inner → Tail (chained level.Sum inner)
unfolding chained operand
sums_leave inner t = chain_leaves level.Sum (operand level.Sum inner) (chain_leaves level.Product (factor inner 64) (factor_leaves inner t 64))

single_leaves : (a : Expr) → Tail (single a)
unfolding single
single_leaves a text rest e = option_leaves text (comparison (skip rest)) _ _ e (λ o. end_skip text rest e)

compared_leaves : (sum : Reader Expr) → Tail sum → Tail (compared sum)
unfolding compared
compared_leaves sum t text bs e =
    after_leaves text (sum bs) _ (t text bs e)
    (λ a rest r.
    let s = end_skip text rest r in
    option_leaves text (comparison (skip rest)) _ _ r
    (λ o. after_leaves text (sum (next (skip rest))) _ (t text (next (skip rest)) (end_drop 1 text (skip rest) s))
    (λ b end f. after_leaves text (join o (skip rest) a b end) single (join_leaves o (skip rest) a b text end s f) (λ c last g. single_leaves c text last g))))

closed_leaves : (a : Expr) → Tail (closed a)
unfolding closed
closed_leaves a text rest e = let s = end_skip text rest e in cond_leaves text (is 41 (skip rest)) _ _ (end_drop 1 text (skip rest) s) s

pub expression_leaves : (deep : ℕ) → Tail (expression deep)
unfolding expression in_brackets
expression_leaves zero text bs e = compared_leaves _ (sums_leave (bad why.Deep) (λ t b f. f)) text bs e
expression_leaves (suc deep) text bs e =
    compared_leaves _
    (sums_leave (in_brackets (expression deep)) (λ t place f. after_leaves t (expression deep (next place)) closed (expression_leaves deep t (next place) (end_drop 1 t place f)) (λ a rest r. closed_leaves a t rest r)))
    text
    bs
    e
