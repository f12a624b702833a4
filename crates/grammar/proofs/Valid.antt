-- What is read is within the limits. Assumes nothing.
use Rattle.std.proofs.Common.{◌≡◌, ℕ, zero, suc, ◌+◌, ◌-◌, ◌*◌, ◌<◌, ◌≤◌, Bool, true, false, cond, ◌&&◌, ltb, leb, List, [], ◌∷◌, ◌++◌, length, drop, Some, None, codes, Option, refl, subst, arith, length-append}
use Rattle.std.proofs.lemmas.Bool.{cond_both, ltb-true, lt-ltb, leb-true, le-leb, and_parts, and_from}
use Rattle.std.specs.Char.{is_ascii_digit}
use Rattle.streams.specs.Meaning.{Expr, Num, Key, Value, Sum, Stage, top}
use Rattle.streams.specs.Calls.{parts, expr_ok, fine, stage_ok, every, plan_ok}
use Rattle.grammar.specs.declared.operators.Operator.{Operator}
use Rattle.grammar.specs.declared.operators.Operator.TheVariants as op
use Rattle.grammar.specs.declared.operators.Level.{Level}
use Rattle.grammar.specs.declared.operators.Level.TheVariants as level
use Rattle.grammar.specs.declared.refusals.Why.{Why}
use Rattle.grammar.specs.Reading.{Got, got, bad, Reader, after, letter, skip, next, is, starts_digit, is_end, is_the_word, digits, number, limited, joined, operator, comparison, or_else, join, negate, more, chain, chained, operand, factor, leaf, compared, single, closed, in_brackets, expression, part, window, aggregate, stage, stages, plan, reading}
use Rattle.grammar.specs.Laws.{ReadsValid}
use Rattle.grammar.proofs.Readers.{joined_parts}

-- P holds of what was read, if anything was
abbrev pub Holds : {A : Type 0} → (A → Type 0) → Got A → Type 0
Holds P (got a rest) = P a
Holds P (bad why rest) = Unit {0}

after_holds : {A B : Type 0} (P : A → Type 0) (Q : B → Type 0) (g : Got A) (f : A → List ℕ → Got B) → Holds P g → ((a : A) (rest : List ℕ) → P a → Holds Q (f a rest)) → Holds Q (after g f)
unfolding after
after_holds P Q (got a rest) f h k = k a rest h
after_holds P Q (bad why rest) f h k = tt

cond_holds : {A : Type 0} (P : A → Type 0) (b : Bool) (x y : Got A) → (b ≡ true → Holds P x) → (b ≡ false → Holds P y) → Holds P (cond b x y)
cond_holds P b x y h k = cond_both b x y (Holds P) h k

option_holds : {A B : Type 0} (P : A → Type 0) (o : Option B) (x : Got A) (f : B → Got A) → Holds P x → ((b : B) → Holds P (f b)) → Holds P (or_else o x f)
option_holds P None x f h k = h
option_holds P (Some b) x f h k = k b

-- ---- numbers
pub digits_hold : (start : List ℕ) (n : ℕ) (bs : List ℕ) → n < top → Holds (λ m. m < top) (digits start n bs)
unfolding digits
digits_hold start n [] h = h
digits_hold start n (c ∷ cs) h =
    cond_holds (λ m. m < top) (is_ascii_digit c) _ _
    (λ _. cond_holds (λ m. m < top) (ltb (n * 10 + (c - 48)) top) _ _ (λ e. digits_hold start (n * 10 + (c - 48)) cs (ltb-true _ _ e)) (λ _. tt))
    (λ _. cond_holds (λ m. m < top) (letter c) _ _ (λ _. tt) (λ _. h))

limited_holds : (why : Why) (low : ℕ) (bs : List ℕ) → Holds (λ n. (low ≤ n) × (n ≤ 1099511627776)) (limited why low bs)
unfolding limited
limited_holds why low bs =
    after_holds (λ _. Unit {0}) _ (number bs) _ (any (number bs))
    (λ n rest _. cond_holds (λ n. (low ≤ n) × (n ≤ 1099511627776)) (leb low n && leb n 1099511627776) _ _ (λ e. let p = and_parts (leb low n) (leb n 1099511627776) e in (leb-true _ _ p.0, leb-true _ _ p.1)) (λ _. tt))
  where
    any : (g : Got ℕ) → Holds (λ _. Unit {0}) g
    any (got a rest) = tt
    any (bad w rest) = tt

-- ---- expressions
abbrev Fine : Expr → Type 0
Fine e = (parts e ≤ 64) × (expr_ok e ≡ true)

joined_ok : (o : Operator) (a b : Expr) → expr_ok a ≡ true → expr_ok b ≡ true → expr_ok (joined o a b) ≡ true
unfolding joined expr_ok
joined_ok o a b h k =
    let both = and_from (expr_ok a) (expr_ok b) h k in
    elim o as (λ o. expr_ok (joined o a b) ≡ true) [ op.Plus ↦ both | op.Minus ↦ both | op.Times ↦ both | op.Quotient ↦ both | op.Rest ↦ both | op.Less ↦ both | op.Same ↦ both ]

join_holds : (o : Operator) (place : List ℕ) (a b : Expr) (rest : List ℕ) → Fine a → Fine b → Holds Fine (join o place a b rest)
unfolding join
join_holds o place a b rest h k =
    cond_holds Fine (leb (1 + (parts a + parts b)) 64) _ _ (λ e. (omega (arith, joined_parts o a b, leb-true _ _ e), joined_ok o a b h.1 k.1)) (λ _. tt)

negate_holds : (place : List ℕ) (a : Expr) (rest : List ℕ) → Fine a → Holds Fine (negate place a rest)
unfolding negate parts expr_ok
negate_holds place a rest h = cond_holds Fine (leb (1 + parts a) 64) _ _ (λ e. (leb-true _ _ e, h.1)) (λ _. tt)

abbrev AllFine : Reader Expr → Type 0
AllFine r = (bs : List ℕ) → Holds Fine (r bs)

leaf_holds : AllFine leaf
unfolding leaf parts expr_ok
leaf_holds bs =
    cond_holds Fine (starts_digit bs) _ _ (λ _. after_holds (λ n. n < top) Fine (digits bs 0 bs) _ (digits_hold bs 0 bs (omega arith)) (λ n rest h. (omega arith, lt-ltb n top h)))
    (λ _. cond_holds Fine (is_the_word (codes "time") bs) _ _ (λ _. (omega arith, refl))
    (λ _. cond_holds Fine (is_the_word (codes "key") bs) _ _ (λ _. (omega arith, refl)) (λ _. cond_holds Fine (is_the_word (codes "value") bs) _ _ (λ _. (omega arith, refl)) (λ _. tt))))

more_holds : (l : Level) (sub : Reader Expr) → AllFine sub → (turns : ℕ) (a : Expr) → Fine a → AllFine (more l sub turns a)
unfolding more
more_holds l sub s zero a h bs = tt
more_holds l sub s (suc turns) a h bs =
    option_holds Fine (operator l (skip bs)) _ _ h
    (λ o. after_holds Fine Fine (sub (next (skip bs))) _ (s (next (skip bs)))
    (λ b rest k. after_holds Fine Fine (join o (skip bs) a b rest) _ (join_holds o (skip bs) a b rest h k) (λ c end m. more_holds l sub s turns c m end)))

chain_holds : (l : Level) (sub : Reader Expr) → AllFine sub → AllFine (chain l sub)
unfolding chain
chain_holds l sub s bs = after_holds Fine Fine (sub bs) _ (s bs) (λ a rest h. more_holds l sub s 64 a h rest)

factor_holds : (inner : Reader Expr) → AllFine inner → (nots : ℕ) → AllFine (factor inner nots)
unfolding factor
factor_holds inner s zero bs = cond_holds Fine (is 33 (skip bs)) _ _ (λ _. tt) (λ _. cond_holds Fine (is 40 (skip bs)) _ _ (λ _. s (skip bs)) (λ _. leaf_holds (skip bs)))
factor_holds inner s (suc nots) bs =
    cond_holds Fine (is 33 (skip bs)) _ _ (λ _. after_holds Fine Fine (factor inner nots (next (skip bs))) _ (factor_holds inner s nots (next (skip bs))) (λ a rest h. negate_holds (skip bs) a rest h))
    (λ _. cond_holds Fine (is 40 (skip bs)) _ _ (λ _. s (skip bs)) (λ _. leaf_holds (skip bs)))

sums_hold : (inner : Reader Expr) → AllFine inner → AllFine (chained level.Sum inner)
unfolding chained operand
sums_hold inner s = chain_holds level.Sum (operand level.Sum inner) (chain_holds level.Product (factor inner 64) (factor_holds inner s 64))

compared_holds : (sum : Reader Expr) → AllFine sum → AllFine (compared sum)
unfolding compared single
compared_holds sum s bs =
    after_holds Fine Fine (sum bs) _ (s bs)
    (λ a rest h.
    option_holds Fine (comparison (skip rest)) _ _ h
    (λ o. after_holds Fine Fine (sum (next (skip rest))) _ (s (next (skip rest)))
    (λ b end k. after_holds Fine Fine (join o (skip rest) a b end) single (join_holds o (skip rest) a b end h k) (λ c last m. option_holds Fine (comparison (skip last)) _ _ m (λ _. tt)))))

closed_holds : (a : Expr) (rest : List ℕ) → Fine a → Holds Fine (closed a rest)
unfolding closed
closed_holds a rest h = cond_holds Fine (is 41 (skip rest)) _ _ (λ _. h) (λ _. tt)

expression_holds : (deep : ℕ) → AllFine (expression deep)
unfolding expression in_brackets
expression_holds zero bs = compared_holds _ (sums_hold _ (λ _. tt)) bs
expression_holds (suc deep) bs =
    compared_holds _ (sums_hold (in_brackets (expression deep)) (λ place. after_holds Fine Fine (expression deep (next place)) closed (expression_holds deep (next place)) closed_holds)) bs

-- ---- stages
part_holds : (word : List ℕ) (out : Expr) → Fine out → AllFine (part word out)
unfolding part
part_holds word out h bs = cond_holds Fine (is_the_word word (skip bs)) _ _ (λ _. expression_holds 64 (drop (length word) (skip bs))) (λ _. h)

window_holds : (bs : List ℕ) → Holds (λ n. (1 ≤ n) × (n ≤ 1099511627776)) (window bs)
unfolding window
window_holds bs = cond_holds _ (is_the_word (codes "in") (skip bs)) _ _ (λ _. limited_holds _ 1 _) (λ _. tt)

fine_is : (e : Expr) → Fine e → fine e ≡ true
fine_is e h = and_from (leb (parts e) 64) (expr_ok e) (le-leb _ _ h.0) h.1

stage_is : (s : Stage) → Fine s.keep' → Fine s.key → Fine s.value → 1 ≤ s.size → s.size ≤ 1099511627776 → stage_ok s ≡ true
stage_is s k y v l h =
    let a = and_from _ _ (fine_is s.keep' k) (fine_is s.key y) in
    let b = and_from _ _ a (fine_is s.value v) in
    let c = and_from _ _ b (lt-ltb 0 s.size l) in
    and_from _ _ c (le-leb _ _ h)

stage_holds : (bs : List ℕ) → Holds (λ s. stage_ok s ≡ true) (stage bs)
unfolding stage parts expr_ok
stage_holds bs =
    after_holds Fine _ (part (codes "keep") (Num 1) bs) _ (part_holds (codes "keep") (Num 1) (omega arith, refl) bs)
    (λ k r hk. after_holds Fine _ (part (codes "key") Key r) _ (part_holds (codes "key") Key (omega arith, refl) r)
    (λ y s hy. after_holds Fine _ (part (codes "value") Value s) _ (part_holds (codes "value") Value (omega arith, refl) s)
    (λ v t hv. after_holds (λ n. (1 ≤ n) × (n ≤ 1099511627776)) _ (window t) _ (window_holds t)
    (λ z u hz. after_holds (λ _. Unit {0}) _ (aggregate u) _ (any (aggregate u)) (λ a rest _. stage_is (record { keep' = k; key = y; value = v; size = z; sum = a }) hk hy hv hz.0 hz.1)))))
  where
    any : (g : Got Sum) → Holds (λ _. Unit {0}) g
    any (got a rest) = tt
    any (bad w rest) = tt

record SomeStages (sts : List Stage) : Type 0 where
  few : length sts ≤ 8
  some : 0 < length sts
  ok : every stage_ok sts ≡ true

every_more : (sts : List Stage) (s : Stage) → every stage_ok sts ≡ true → stage_ok s ≡ true → every stage_ok (sts ++ (s ∷ [])) ≡ true
unfolding every
every_more [] s h k = and_from _ _ k refl
every_more (x ∷ xs) s h k = let p = and_parts (stage_ok x) (every stage_ok xs) h in and_from _ _ p.0 (every_more xs s p.1 k)

stages_end : (before : List Stage) (s : List ℕ) (why : Why) → length before ≤ 8 → every stage_ok before ≡ true → Holds SomeStages (cond (is_end s && ltb 0 (length before)) (got before s) (bad why s))
stages_end before s why h k = cond_holds SomeStages (is_end s && ltb 0 (length before)) _ _ (λ e. record { few = h; some = ltb-true _ _ (and_parts (is_end s) (ltb 0 (length before)) e).1; ok = k }) (λ _. tt)

stages_hold : (room : ℕ) (before : List Stage) (bs : List ℕ) → room + length before ≤ 8 → every stage_ok before ≡ true → Holds SomeStages (stages room before bs)
unfolding stages
stages_hold zero before bs h k = cond_holds SomeStages (is 59 (skip bs)) _ _ (λ _. tt) (λ _. stages_end before (skip bs) _ (omega arith) k)
stages_hold (suc room) before bs h k =
    cond_holds SomeStages (is 59 (skip bs)) _ _
    (λ _. after_holds (λ s. stage_ok s ≡ true) SomeStages (stage (next (skip bs))) _ (stage_holds (next (skip bs)))
    (λ s rest m. stages_hold room (before ++ (s ∷ [])) rest (let n : length (before ++ (s ∷ [])) ≡ length before + 1 = length-append before (s ∷ []) in omega arith) (every_more before s k m)))
    (λ _. stages_end before (skip bs) _ (omega arith) k)

plan_holds : (bs : List ℕ) → Holds (λ p. plan_ok p ≡ true) (reading bs)
unfolding reading plan every
plan_holds bs =
    cond_holds (λ p. plan_ok p ≡ true) (ltb 65536 (length bs)) _ _ (λ _. tt)
    (λ _. cond_holds (λ p. plan_ok p ≡ true) (is_the_word (codes "late") (skip bs)) _ _
    (λ _. after_holds (λ n. (0 ≤ n) × (n ≤ 1099511627776)) _ (limited _ 0 (drop 4 (skip bs))) _ (limited_holds _ 0 _)
    (λ n rest h. after_holds SomeStages _ (stages 8 [] rest) _ (stages_hold 8 [] rest (omega arith) refl)
    (λ sts end k. and_from _ _ (and_from _ _ (and_from _ _ (le-leb _ _ h.1) (lt-ltb _ _ k.some)) (le-leb _ _ k.few)) k.ok)))
    (λ _. tt))

pub reads_valid : ReadsValid
reads_valid text p rest e = subst (Holds (λ p. plan_ok p ≡ true)) e (plan_holds text)
