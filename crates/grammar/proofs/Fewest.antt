-- No text that is read as a plan opens fewer brackets than what is printed of that plan. Assumes nothing.
use Rattle.std.proofs.Common.{◌≡◌, ℕ, zero, suc, ◌+◌, ◌-◌, ◌*◌, ◌%◌, ◌^◌, ◌<◌, ◌≤◌, Bool, true, false, cond, ◌&&◌, eqb, ltb, leb, List, [], ◌∷◌, ◌++◌, length, drop, Some, None, codes, decimal, Option, refl, subst, arith}
use Rattle.std.proofs.lemmas.Fmt.{decimal_by_steps}
use Rattle.std.proofs.lemmas.Bool.{cond_both, ne_eqb, ltb-true, and_parts}
use Rattle.std.proofs.lemmas.Bool.Decides.{nat_tests}
use Rattle.std.specs.Char.{is_ascii_digit}
use Rattle.streams.specs.Meaning.{Expr, Num, Time, Key, Value, Plus, Minus, Times, Quotient, Rest, Less, Same, Not, Sum, Count, Total, Least, Greatest, Stage, top}
use Rattle.streams.specs.Calls.{parts, stage_ok, every}
use Rattle.grammar.specs.declared.operators.Operator.{Operator}
use Rattle.grammar.specs.declared.operators.Operator.TheVariants as op
use Rattle.grammar.specs.declared.operators.Level.TheVariants as level
use Rattle.grammar.specs.declared.refusals.Why.{Why}
use Rattle.grammar.specs.declared.refusals.Why.TheVariants.{Chained, Size, Lateness}
use Rattle.grammar.specs.Reading.{Got, got, bad, Reader, after, blank, letter, skip, next, is, starts_digit, is_end, is_the_word, digits, number, limited, joined, operator, comparison, or_else, join, negate, more, chain, chained, operand, factor, leaf, compared, single, closed, in_brackets, expression, part, window, aggregate, stage, stages, plan, reading}
use Rattle.grammar.specs.Printing.{bond, within, pair, shown, is_number_one, is_just_key, is_value, said, named, text_of_stage, text_of_stages, printed}
use Rattle.grammar.specs.Laws.{opens, FewestBrackets}
use Rattle.grammar.proofs.Sizes.{stage_fine, plan_fine}
use Rattle.grammar.proofs.Valid.{Holds, digits_hold, reads_valid}

-- ---- brackets in bytes
opens_append : (xs ys : List ℕ) → opens (xs ++ ys) ≡ opens xs + opens ys
unfolding opens
opens_append [] ys = omega arith
opens_append (x ∷ xs) ys =
    let ih : opens (xs ++ ys) ≡ opens xs + opens ys = opens_append xs ys in
    step (eqb x 40) (opens (xs ++ ys)) (opens xs) (opens ys) ih
  where
    step : (b : Bool) (m n k : ℕ) → m ≡ n + k → cond b (1 + m) m ≡ cond b (1 + n) n + k
    step true m n k e = omega arith
    step false m n k e = omega arith

opens_rest : (x : ℕ) (xs : List ℕ) → opens xs ≤ opens (x ∷ xs)
unfolding opens
opens_rest x xs = cond_both (eqb x 40) _ _ (λ n. opens xs ≤ n) (λ _. omega arith) (λ _. omega arith)

opens_drop : (k : ℕ) (xs : List ℕ) → opens (drop k xs) ≤ opens xs
opens_drop zero xs = omega arith
opens_drop (suc k) [] = omega arith
opens_drop (suc k) (x ∷ xs) = let ih : opens (drop k xs) ≤ opens xs = opens_drop k xs in omega (arith, opens_rest x xs)

opens_skip : (xs : List ℕ) → opens (skip xs) ≤ opens xs
unfolding skip
opens_skip [] = omega arith
opens_skip (x ∷ xs) =
    let ih : opens (skip xs) ≤ opens xs = opens_skip xs in
    cond_both (blank x) _ _ (λ t. opens t ≤ opens (x ∷ xs)) (λ _. omega (arith, opens_rest x xs)) (λ _. omega arith)

opens_here : (xs : List ℕ) → is 40 xs ≡ true → opens xs ≡ 1 + opens (next xs)
unfolding is opens
opens_here [] h = let z : ◌≡◌ {A = ℕ} 0 1 = cc in absurd (omega arith)
opens_here (x ∷ xs) h = rw h

opens_digit : (d : ℕ) → d < 10 → opens ((48 + d) ∷ []) ≡ 0
unfolding opens
opens_digit d h = rw (ne_eqb (48 + d) 40 (omega arith))

opens_decimal : (n : ℕ) → n < 2 ^ 64 → opens (decimal n) ≡ 0
opens_decimal =
    decimal_by_steps (λ n ds. opens ds ≡ 0)
    (λ n h. opens_digit n h)
    (λ n ds h e. omega (arith, opens_append ds ((48 + n % 10) ∷ []), opens_digit (n % 10) (omega arith)))

-- ---- brackets that an expression needs where one of bond `least` or more must stand
abbrev need : ℕ → Expr → ℕ
need least e = opens (within least (bond e) (shown e))

need_bare : (least : ℕ) (e : Expr) → opens (shown e) ≤ need least e
unfolding opens
need_bare least e = cond_both (ltb (bond e) least) _ _ (λ t. opens (shown e) ≤ opens t) (λ _. omega (arith, opens_append (shown e) (41 ∷ []))) (λ _. omega arith)

need_one : (least : ℕ) (e : Expr) → need least e ≤ 1 + opens (shown e)
unfolding opens
need_one least e = cond_both (ltb (bond e) least) _ _ (λ t. opens t ≤ 1 + opens (shown e)) (λ _. omega (arith, opens_append (shown e) (41 ∷ []))) (λ _. omega arith)

need_less : (m n : ℕ) (e : Expr) → m ≤ n → need m e ≤ need n e
unfolding opens
need_less m n e h =
    cond_both (ltb (bond e) m) _ _ (λ t. opens t ≤ need n e)
    (λ k. let l : ltb (bond e) n ≡ true = grind (arith, nat_tests, ltb-true (bond e) m k) in rw l (omega arith))
    (λ _. need_bare n e)

need_high : (least : ℕ) (e : Expr) → least ≤ bond e → need least e ≤ opens (shown e)
need_high least e h = cond_both (ltb (bond e) least) _ _ (λ t. opens t ≤ opens (shown e)) (λ k. absurd (omega (arith, ltb-true _ _ k))) (λ _. omega arith)

pair_opens : (sign : ℕ) (a b : List ℕ) → eqb sign 40 ≡ false → opens (pair sign a b) ≡ opens a + opens b
unfolding opens
pair_opens sign a b h = let all = opens_append a (32 ∷ sign ∷ 32 ∷ b) in rw h at (all)

-- ---- what is paid: brackets of what was read, and of what is left
abbrev Paid : {A : Type 0} → (A → List ℕ → Type 0) → Got A → Type 0
Paid P (got a rest) = P a rest
Paid P (bad why rest) = Unit {0}

after_paid : {A B : Type 0} (P : A → List ℕ → Type 0) (Q : B → List ℕ → Type 0) (g : Got A) (f : A → List ℕ → Got B) → Paid P g → ((a : A) (rest : List ℕ) → P a rest → Paid Q (f a rest)) → Paid Q (after g f)
unfolding after
after_paid P Q (got a rest) f h k = k a rest h
after_paid P Q (bad why rest) f h k = tt

cond_paid : {A : Type 0} (P : A → List ℕ → Type 0) (b : Bool) (x y : Got A) → (b ≡ true → Paid P x) → (b ≡ false → Paid P y) → Paid P (cond b x y)
cond_paid P b x y h k = cond_both b x y (Paid P) h k

-- out of `all` brackets, those that `e` needs and those that are left
abbrev Pays : (least all : ℕ) → Expr → List ℕ → Type 0
Pays least all e rest = opens rest + need least e ≤ all

abbrev Reads : ℕ → Reader Expr → Type 0
Reads least r = (bs : List ℕ) → Paid (Pays least (opens bs)) (r bs)

digits_pay : (start : List ℕ) (n : ℕ) (bs : List ℕ) → Paid (λ m rest. opens rest ≤ opens bs) (digits start n bs)
unfolding digits
digits_pay start n [] = omega arith
digits_pay start n (c ∷ cs) =
    cond_paid (λ m rest. opens rest ≤ opens (c ∷ cs)) (is_ascii_digit c) _ _
    (λ _. cond_paid (λ m rest. opens rest ≤ opens (c ∷ cs)) (ltb (n * 10 + (c - 48)) top) _ _ (λ _. weaker (digits start (n * 10 + (c - 48)) cs) (digits_pay start (n * 10 + (c - 48)) cs)) (λ _. tt))
    (λ _. cond_paid (λ m rest. opens rest ≤ opens (c ∷ cs)) (letter c) _ _ (λ _. tt) (λ _. omega arith))
  where
    weaker : (g : Got ℕ) → Paid (λ m rest. opens rest ≤ opens cs) g → Paid (λ m rest. opens rest ≤ opens (c ∷ cs)) g
    weaker (got m rest) h = omega (arith, opens_rest c cs)
    weaker (bad w rest) h = tt

paid_more : (least m n : ℕ) (g : Got Expr) → m ≤ n → Paid (Pays least m) g → Paid (Pays least n) g
paid_more least m n (got e rest) h k = omega arith
paid_more least m n (bad w rest) h k = tt

-- ---- expressions
join_pays : (l m n all : ℕ) (o : Operator) (place : List ℕ) (a b : Expr) (rest : List ℕ) → need l (joined o a b) ≤ need m a + need n b → opens rest + (need m a + need n b) ≤ all → Paid (Pays l all) (join o place a b rest)
unfolding join
join_pays l m n all o place a b rest h k = cond_paid (Pays l all) (leb (1 + (parts a + parts b)) 64) _ _ (λ _. omega arith) (λ _. tt)

need_joined : (l m n sign : ℕ) (e a b : Expr) → l ≤ bond e → eqb sign 40 ≡ false → shown e ≡ pair sign (within m (bond a) (shown a)) (within n (bond b) (shown b)) → need l e ≤ need m a + need n b
need_joined l m n sign e a b h s is =
    let high : need l e ≤ opens (shown e) = need_high l e h in
    let both : opens (shown e) ≡ need m a + need n b = rw is (pair_opens sign (within m (bond a) (shown a)) (within n (bond b) (shown b)) s) in
    omega arith

-- the operators of a level, and of comparisons, need just what their sides need
sum_needs : (P : Option Operator → Type 0) (s : List ℕ) → P None → P (Some op.Plus) → P (Some op.Minus) → P (operator level.Sum s)
unfolding operator
sum_needs P s x y z = cond_both (is 43 s) _ _ P (λ _. y) (λ _. cond_both (is 45 s) _ _ P (λ _. z) (λ _. x))

product_needs : (P : Option Operator → Type 0) (s : List ℕ) → P None → P (Some op.Times) → P (Some op.Quotient) → P (Some op.Rest) → P (operator level.Product s)
unfolding operator
product_needs P s x y z w = cond_both (is 42 s) _ _ P (λ _. y) (λ _. cond_both (is 47 s) _ _ P (λ _. z) (λ _. cond_both (is 37 s) _ _ P (λ _. w) (λ _. x)))

compare_needs : (P : Option Operator → Type 0) (s : List ℕ) → P None → P (Some op.Less) → P (Some op.Same) → P (comparison s)
unfolding comparison
compare_needs P s x y z = cond_both (is 60 s) _ _ P (λ _. y) (λ _. cond_both (is 61 s) _ _ P (λ _. z) (λ _. x))

negate_pays : (all : ℕ) (place : List ℕ) (a : Expr) (rest : List ℕ) → opens rest + need 4 a ≤ all → Paid (Pays 4 all) (negate place a rest)
unfolding negate shown bond opens
negate_pays all place a rest h = cond_paid (Pays 4 all) (leb (1 + parts a) 64) _ _ (λ _. h) (λ _. tt)

both : (bs : List ℕ) (g : Got ℕ) → Paid (λ m rest. opens rest ≤ opens bs) g → Holds (λ m. m < top) g → Paid (λ m rest. (opens rest ≤ opens bs) × (m < top)) g
both bs (got m rest) h k = (h, k)
both bs (bad w rest) h k = tt

leaf_reads : Reads 4 leaf
unfolding leaf shown bond opens
leaf_reads bs =
    cond_paid (Pays 4 (opens bs)) (starts_digit bs) _ _ (λ _. after_paid (λ m rest. (opens rest ≤ opens bs) × (m < top)) (Pays 4 (opens bs)) (digits bs 0 bs) _ (both bs (digits bs 0 bs) (digits_pay bs 0 bs) (digits_hold bs 0 bs (omega arith))) (λ n rest h. omega (arith, h.0, opens_decimal n h.1)))
    (λ _. cond_paid (Pays 4 (opens bs)) (is_the_word (codes "time") bs) _ _ (λ _. omega (arith, opens_drop 4 bs))
    (λ _. cond_paid (Pays 4 (opens bs)) (is_the_word (codes "key") bs) _ _ (λ _. omega (arith, opens_drop 3 bs)) (λ _. cond_paid (Pays 4 (opens bs)) (is_the_word (codes "value") bs) _ _ (λ _. omega (arith, opens_drop 5 bs)) (λ _. tt))))

-- behind no `!`: brackets, or a leaf
rest_reads : (inner : Reader Expr) → ((s : List ℕ) → is 40 s ≡ true → Paid (Pays 4 (opens s)) (inner s)) → (bs : List ℕ) → Paid (Pays 4 (opens bs)) (cond (is 40 (skip bs)) (inner (skip bs)) (leaf (skip bs)))
rest_reads inner h bs = cond_paid (Pays 4 (opens bs)) (is 40 (skip bs)) _ _ (λ e. paid_more 4 (opens (skip bs)) (opens bs) (inner (skip bs)) (opens_skip bs) (h (skip bs) e)) (λ _. paid_more 4 (opens (skip bs)) (opens bs) (leaf (skip bs)) (opens_skip bs) (leaf_reads (skip bs)))

factor_reads : (inner : Reader Expr) → ((s : List ℕ) → is 40 s ≡ true → Paid (Pays 4 (opens s)) (inner s)) → (nots : ℕ) → Reads 4 (factor inner nots)
unfolding factor
factor_reads inner h zero bs = cond_paid (Pays 4 (opens bs)) (is 33 (skip bs)) _ _ (λ _. tt) (λ _. rest_reads inner h bs)
factor_reads inner h (suc nots) bs =
    cond_paid (Pays 4 (opens bs)) (is 33 (skip bs)) _ _
    (λ _. after_paid (Pays 4 (opens (next (skip bs)))) (Pays 4 (opens bs)) (factor inner nots (next (skip bs))) _ (factor_reads inner h nots (next (skip bs))) (λ a rest k. negate_pays (opens bs) (skip bs) a rest (omega (arith, k, opens_skip bs, opens_drop 1 (skip bs)))))
    (λ _. rest_reads inner h bs)

-- one turn of a chain: the right side was read behind the operator at the front of `s`
turn_reads : (l least n all : ℕ) (o : Operator) (s : List ℕ) (a : Expr) (sub : Reader Expr) (f : Expr → Reader Expr) → ((b : Expr) → need l (joined o a b) ≤ need least a + need n b) → Reads n sub → opens s + need least a ≤ all → ((c : Expr) (end : List ℕ) → Pays l all c end → Paid (Pays l all) (f c end)) → Paid (Pays l all) (after (sub (next s)) (λ b rest. after (join o s a b rest) f))
turn_reads l least n all o s a sub f costs reads before goes =
    after_paid (Pays n (opens (next s))) (Pays l all) (sub (next s)) _ (reads (next s))
    (λ b rest h. after_paid (Pays l all) (Pays l all) (join o s a b rest) f (join_pays l least n all o s a b rest (costs b) (omega (arith, h, before, opens_drop 1 s))) goes)

-- what each operator needs
plus_needs : (a b : Expr) → need 2 (joined op.Plus a b) ≤ need 2 a + need 3 b
unfolding joined shown bond
plus_needs a b = need_joined 2 2 3 43 (joined op.Plus a b) a b (omega arith) refl refl

minus_needs : (a b : Expr) → need 2 (joined op.Minus a b) ≤ need 2 a + need 3 b
unfolding joined shown bond
minus_needs a b = need_joined 2 2 3 45 (joined op.Minus a b) a b (omega arith) refl refl

times_needs : (a b : Expr) → need 3 (joined op.Times a b) ≤ need 3 a + need 4 b
unfolding joined shown bond
times_needs a b = need_joined 3 3 4 42 (joined op.Times a b) a b (omega arith) refl refl

quotient_needs : (a b : Expr) → need 3 (joined op.Quotient a b) ≤ need 3 a + need 4 b
unfolding joined shown bond
quotient_needs a b = need_joined 3 3 4 47 (joined op.Quotient a b) a b (omega arith) refl refl

rest_needs : (a b : Expr) → need 3 (joined op.Rest a b) ≤ need 3 a + need 4 b
unfolding joined shown bond
rest_needs a b = need_joined 3 3 4 37 (joined op.Rest a b) a b (omega arith) refl refl

less_needs : (a b : Expr) → need 1 (joined op.Less a b) ≤ need 2 a + need 2 b
unfolding joined shown bond
less_needs a b = need_joined 1 2 2 60 (joined op.Less a b) a b (omega arith) refl refl

same_needs : (a b : Expr) → need 1 (joined op.Same a b) ≤ need 2 a + need 2 b
unfolding joined shown bond
same_needs a b = need_joined 1 2 2 61 (joined op.Same a b) a b (omega arith) refl refl

products_more : (sub : Reader Expr) → Reads 4 sub → (turns all : ℕ) (a : Expr) (bs : List ℕ) → Pays 3 all a bs → Paid (Pays 3 all) (more level.Product sub turns a bs)
unfolding more
products_more sub reads zero all a bs h = tt
products_more sub reads (suc turns) all a bs h =
    let before : opens (skip bs) + need 3 a ≤ all = omega (arith, opens_skip bs) in
    let goes : (c : Expr) (end : List ℕ) → Pays 3 all c end → Paid (Pays 3 all) (more level.Product sub turns c end) = λ c end k. products_more sub reads turns all c end k in
    product_needs (λ o. Paid (Pays 3 all) (or_else o (got a bs) (λ o. after (sub (next (skip bs))) (λ b rest. after (join o (skip bs) a b rest) (λ c end. more level.Product sub turns c end))))) (skip bs) h
    (turn_reads 3 3 4 all op.Times (skip bs) a sub _ (times_needs a) reads before goes)
    (turn_reads 3 3 4 all op.Quotient (skip bs) a sub _ (quotient_needs a) reads before goes)
    (turn_reads 3 3 4 all op.Rest (skip bs) a sub _ (rest_needs a) reads before goes)

sums_more : (sub : Reader Expr) → Reads 3 sub → (turns all : ℕ) (a : Expr) (bs : List ℕ) → Pays 2 all a bs → Paid (Pays 2 all) (more level.Sum sub turns a bs)
unfolding more
sums_more sub reads zero all a bs h = tt
sums_more sub reads (suc turns) all a bs h =
    let before : opens (skip bs) + need 2 a ≤ all = omega (arith, opens_skip bs) in
    let goes : (c : Expr) (end : List ℕ) → Pays 2 all c end → Paid (Pays 2 all) (more level.Sum sub turns c end) = λ c end k. sums_more sub reads turns all c end k in
    sum_needs (λ o. Paid (Pays 2 all) (or_else o (got a bs) (λ o. after (sub (next (skip bs))) (λ b rest. after (join o (skip bs) a b rest) (λ c end. more level.Sum sub turns c end))))) (skip bs) h
    (turn_reads 2 2 3 all op.Plus (skip bs) a sub _ (plus_needs a) reads before goes)
    (turn_reads 2 2 3 all op.Minus (skip bs) a sub _ (minus_needs a) reads before goes)

products_read : (sub : Reader Expr) → Reads 4 sub → Reads 3 (chain level.Product sub)
unfolding chain
products_read sub reads bs = after_paid (Pays 4 (opens bs)) (Pays 3 (opens bs)) (sub bs) _ (reads bs) (λ a rest h. products_more sub reads 64 (opens bs) a rest (omega (arith, need_less 3 4 a (omega arith))))

sums_read : (inner : Reader Expr) → ((s : List ℕ) → is 40 s ≡ true → Paid (Pays 4 (opens s)) (inner s)) → Reads 2 (chained level.Sum inner)
unfolding chained chain operand
sums_read inner h bs =
    let products : Reads 3 (operand level.Sum inner) = products_read (factor inner 64) (factor_reads inner h 64) in
    after_paid (Pays 3 (opens bs)) (Pays 2 (opens bs)) (operand level.Sum inner bs) _ (products bs) (λ a rest k. sums_more (operand level.Sum inner) products 64 (opens bs) a rest (omega (arith, need_less 2 3 a (omega arith))))

compared_reads : (sum : Reader Expr) → Reads 2 sum → Reads 1 (compared sum)
unfolding compared single
compared_reads sum reads bs =
    after_paid (Pays 2 (opens bs)) (Pays 1 (opens bs)) (sum bs) _ (reads bs)
    (λ a rest h.
    let before : opens (skip rest) + need 2 a ≤ opens bs = omega (arith, opens_skip rest) in
    let ends : (c : Expr) (end : List ℕ) → Pays 1 (opens bs) c end → Paid (Pays 1 (opens bs)) (single c end) = λ c end k. compare_needs (λ o. Paid (Pays 1 (opens bs)) (or_else o (got c end) (λ _. bad Chained (skip end)))) (skip end) k tt tt in
    compare_needs (λ o. Paid (Pays 1 (opens bs)) (or_else o (got a rest) (λ o. after (sum (next (skip rest))) (λ b end. after (join o (skip rest) a b end) single)))) (skip rest) (omega (arith, need_less 1 2 a (omega arith)))
    (turn_reads 1 2 2 (opens bs) op.Less (skip rest) a sum single (less_needs a) reads before ends)
    (turn_reads 1 2 2 (opens bs) op.Same (skip rest) a sum single (same_needs a) reads before ends))

need_bond : (e : Expr) → need 1 e ≡ opens (shown e)
unfolding bond
need_bond e = elim e as (λ e. need 1 e ≡ opens (shown e)) [ Num n ↦ refl | Time ↦ refl | Key ↦ refl | Value ↦ refl | Plus a b ↦ refl | Minus a b ↦ refl | Times a b ↦ refl | Quotient a b ↦ refl | Rest a b ↦ refl | Less a b ↦ refl | Same a b ↦ refl | Not a ↦ refl ]

expression_reads : (deep : ℕ) → Reads 1 (expression deep)
unfolding expression in_brackets closed
expression_reads zero bs = compared_reads _ (sums_read _ (λ _ _. tt)) bs
expression_reads (suc deep) bs =
    compared_reads _
    (sums_read (in_brackets (expression deep))
    (λ s e. after_paid (Pays 1 (opens (next s))) (Pays 4 (opens s)) (expression deep (next s)) closed (expression_reads deep (next s))
    (λ a rest h. cond_paid (Pays 4 (opens s)) (is 41 (skip rest)) _ _ (λ _. omega (arith, h, opens_here s e, need_one 4 a, need_bond a, opens_skip rest, opens_drop 1 (skip rest))) (λ _. tt))))
    bs

-- ---- stages
-- what was read, and the brackets that are left
abbrev Left : {A : Type 0} → (A → ℕ) → (all : ℕ) → A → List ℕ → Type 0
Left cost all a rest = opens rest + cost a ≤ all

said_opens : (word : List ℕ) (out : Bool) (e : Expr) → opens word ≡ 0 → opens (said word out e) ≤ opens (shown e)
unfolding opens
said_opens word out e w = cond_both out _ _ (λ t. opens t ≤ opens (shown e)) (λ _. omega arith) (λ _. omega (arith, opens_append word (32 ∷ (shown e ++ (32 ∷ []))), opens_append (shown e) (32 ∷ [])))

part_pays : (word : List ℕ) (out : Expr) → opens (shown out) ≡ 0 → (bs : List ℕ) → Paid (Left (λ e. opens (shown e)) (opens bs)) (part word out bs)
unfolding part
part_pays word out z bs =
    cond_paid (Left (λ e. opens (shown e)) (opens bs)) (is_the_word word (skip bs)) _ _
    (λ _. bare (expression 64 (drop (length word) (skip bs))) (expression_reads 64 (drop (length word) (skip bs))))
    (λ _. omega arith)
  where
    bare : (g : Got Expr) → Paid (Pays 1 (opens (drop (length word) (skip bs)))) g → Paid (Left (λ e. opens (shown e)) (opens bs)) g
    bare (got e rest) h = omega (arith, need_bond e, opens_skip bs, opens_drop (length word) (skip bs))
    bare (bad w rest) h = tt

abbrev Free : {A : Type 0} → (all : ℕ) → A → List ℕ → Type 0
Free all a rest = opens rest ≤ all

number_pays : (bs : List ℕ) → Paid (Free (opens bs)) (number bs)
unfolding number
number_pays bs = cond_paid (Free (opens bs)) (starts_digit (skip bs)) _ _ (λ _. less (digits (skip bs) 0 (skip bs)) (digits_pay (skip bs) 0 (skip bs))) (λ _. tt)
  where
    less : (g : Got ℕ) → Paid (Free (opens (skip bs))) g → Paid (Free (opens bs)) g
    less (got n rest) h = omega (arith, opens_skip bs)
    less (bad w rest) h = tt

limited_pays : (why : Why) (low : ℕ) (bs : List ℕ) → Paid (Free (opens bs)) (limited why low bs)
unfolding limited
limited_pays why low bs = after_paid (Free (opens bs)) (Free (opens bs)) (number bs) _ (number_pays bs) (λ n rest h. cond_paid (Free (opens bs)) (leb low n && leb n 1099511627776) _ _ (λ _. h) (λ _. tt))

window_pays : (bs : List ℕ) → Paid (Free (opens bs)) (window bs)
unfolding window
window_pays bs = cond_paid (Free (opens bs)) (is_the_word (codes "in") (skip bs)) _ _ (λ _. less (limited Size 1 (drop 2 (skip bs))) (limited_pays Size 1 (drop 2 (skip bs)))) (λ _. tt)
  where
    less : (g : Got ℕ) → Paid (Free (opens (drop 2 (skip bs)))) g → Paid (Free (opens bs)) g
    less (got n rest) h = omega (arith, opens_skip bs, opens_drop 2 (skip bs))
    less (bad w rest) h = tt

aggregate_pays : (bs : List ℕ) → Paid (Free (opens bs)) (aggregate bs)
unfolding aggregate
aggregate_pays bs =
    cond_paid (Free (opens bs)) (is_the_word (codes "count") (skip bs)) _ _ (λ _. omega (arith, opens_skip bs, opens_drop 5 (skip bs)))
    (λ _. cond_paid (Free (opens bs)) (is_the_word (codes "total") (skip bs)) _ _ (λ _. omega (arith, opens_skip bs, opens_drop 5 (skip bs)))
    (λ _. cond_paid (Free (opens bs)) (is_the_word (codes "least") (skip bs)) _ _ (λ _. omega (arith, opens_skip bs, opens_drop 5 (skip bs)))
    (λ _. cond_paid (Free (opens bs)) (is_the_word (codes "greatest") (skip bs)) _ _ (λ _. omega (arith, opens_skip bs, opens_drop 8 (skip bs))) (λ _. tt))))

abbrev cost : Stage → ℕ
cost s = opens (shown s.keep') + (opens (shown s.key) + opens (shown s.value))

stage_pays : (bs : List ℕ) → Paid (Left cost (opens bs)) (stage bs)
unfolding stage shown opens
stage_pays bs =
    after_paid (Left (λ e. opens (shown e)) (opens bs)) (Left cost (opens bs)) (part (codes "keep") (Num 1) bs) _ (part_pays (codes "keep") (Num 1) (opens_decimal 1 (omega arith)) bs)
    (λ k r hk. after_paid (Left (λ e. opens (shown e)) (opens r)) (Left cost (opens bs)) (part (codes "key") Key r) _ (part_pays (codes "key") Key refl r)
    (λ y s hy. after_paid (Left (λ e. opens (shown e)) (opens s)) (Left cost (opens bs)) (part (codes "value") Value s) _ (part_pays (codes "value") Value refl s)
    (λ v t hv. after_paid (Free (opens t)) (Left cost (opens bs)) (window t) _ (window_pays t)
    (λ z u hz. after_paid (Free (opens u)) (Left cost (opens bs)) (aggregate u) _ (aggregate_pays u) (λ a rest ha. omega (arith, hk, hy, hv, hz, ha))))))

named_opens : (s : Sum) → opens (named s) ≡ 0
unfolding named opens
named_opens Count = refl
named_opens Total = refl
named_opens Least = refl
named_opens Greatest = refl

stage_opens : (s : Stage) → stage_ok s ≡ true → opens (text_of_stage s) ≤ cost s
unfolding text_of_stage opens
stage_opens s ok =
    let f = stage_fine s ok in
    let size = decimal s.size in
    let last = 32 ∷ named s.sum in
    let sized = codes "in " ++ (size ++ last) in
    let value = said (codes "value") (is_value s.value) s.value in
    let key = said (codes "key") (is_just_key s.key) s.key in
    let keep = said (codes "keep") (is_number_one s.keep') s.keep' in
    omega (arith, said_opens (codes "keep") (is_number_one s.keep') s.keep' refl, said_opens (codes "key") (is_just_key s.key) s.key refl, said_opens (codes "value") (is_value s.value) s.value refl, opens_append keep (key ++ (value ++ sized)), opens_append key (value ++ sized), opens_append value sized, opens_append size last, opens_decimal s.size (omega (arith, f.high)), named_opens s.sum)

costs : List Stage → ℕ
costs [] = 0
costs (s ∷ ss) = cost s + costs ss

costs_more : (ss : List Stage) (s : Stage) → costs (ss ++ (s ∷ [])) ≡ costs ss + cost s
unfolding costs
costs_more [] s = omega arith
costs_more (x ∷ xs) s = let ih : costs (xs ++ (s ∷ [])) ≡ costs xs + cost s = costs_more xs s in omega arith

stages_pay : (room all : ℕ) (before : List Stage) (bs : List ℕ) → opens bs + costs before ≤ all → Paid (Left costs all) (stages room before bs)
unfolding stages
stages_pay zero all before bs h = cond_paid (Left costs all) (is 59 (skip bs)) _ _ (λ _. tt) (λ _. cond_paid (Left costs all) (is_end (skip bs) && ltb 0 (length before)) _ _ (λ _. omega (arith, opens_skip bs)) (λ _. tt))
stages_pay (suc room) all before bs h =
    cond_paid (Left costs all) (is 59 (skip bs)) _ _
    (λ _. after_paid (Left cost (opens (next (skip bs)))) (Left costs all) (stage (next (skip bs))) _ (stage_pays (next (skip bs)))
    (λ s rest k. stages_pay room all (before ++ (s ∷ [])) rest (omega (arith, costs_more before s, opens_skip bs, opens_drop 1 (skip bs), k))))
    (λ _. cond_paid (Left costs all) (is_end (skip bs) && ltb 0 (length before)) _ _ (λ _. omega (arith, opens_skip bs)) (λ _. tt))

stages_opens : (ss : List Stage) → every stage_ok ss ≡ true → opens (text_of_stages ss) ≤ costs ss
unfolding text_of_stages every costs opens
stages_opens [] ok = omega arith
stages_opens (s ∷ ss) ok =
    let o = and_parts (stage_ok s) (every stage_ok ss) ok in
    let ih : opens (text_of_stages ss) ≤ costs ss = stages_opens ss o.1 in
    omega (arith, opens_append (text_of_stage s) (text_of_stages ss), stage_opens s o.0)

reading_pays : (bs : List ℕ) → Paid (λ p rest. costs p.stages ≤ opens bs) (reading bs)
unfolding reading plan costs
reading_pays bs =
    cond_paid (λ p rest. costs p.stages ≤ opens bs) (ltb 65536 (length bs)) _ _ (λ _. tt)
    (λ _. cond_paid (λ p rest. costs p.stages ≤ opens bs) (is_the_word (codes "late") (skip bs)) _ _
    (λ _. after_paid (Free (opens (drop 4 (skip bs)))) (λ p rest. costs p.stages ≤ opens bs) (limited Lateness 0 (drop 4 (skip bs))) _ (limited_pays Lateness 0 (drop 4 (skip bs)))
    (λ n rest h. after_paid (Left costs (opens bs)) (λ p rest. costs p.stages ≤ opens bs) (stages 8 [] rest) _ (stages_pay 8 (opens bs) [] rest (omega (arith, h, opens_skip bs, opens_drop 4 (skip bs)))) (λ ss end k. omega (arith, k))))
    (λ _. tt))

pub fewest_brackets : FewestBrackets
unfolding printed opens
fewest_brackets text p rest e =
    let f = plan_fine p (reads_valid text p rest e) in
    let paid : costs p.stages ≤ opens text = subst (Paid (λ p rest. costs p.stages ≤ opens text)) e (reading_pays text) in
    omega (arith, paid, stages_opens p.stages f.stages, opens_append (decimal p.late) (text_of_stages p.stages), opens_decimal p.late (omega (arith, f.late)))
