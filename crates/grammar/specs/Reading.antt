-- Which plan a text is, or where and why it is none: docs/PLANS.md as a function on bytes.
-- A reader takes the bytes from its place to the end of the text. It gives what it read with the bytes behind that, or
-- the reason for a refusal with the bytes from the refused place on. Assumes nothing.
use Rattle.std.specs.Prelude.{ℕ, zero, suc, ◌+◌, ◌-◌, ◌*◌, Bool, true, false, cond, not, ◌&&◌, ◌||◌, List, [], ◌∷◌, ◌++◌, length, drop, Some, None, codes, Option, ◌==◌, nat_le, nat_lt}
use Rattle.std.specs.Char.{is_ascii_digit}
use Rattle.streams.specs.Meaning.{Expr, Num, Time, Key, Value, Plus, Minus, Times, Quotient, Rest, Less, Same, Not, Sum, Count, Total, Least, Greatest, Stage, Plan, top}
use Rattle.streams.specs.Calls.{parts}
use Rattle.grammar.specs.declared.operators.Operator.{Operator}
use Rattle.grammar.specs.declared.operators.Operator.TheVariants as op
use Rattle.grammar.specs.declared.operators.Level.{Level}
use Rattle.grammar.specs.declared.operators.Level.TheVariants as level
use Rattle.grammar.specs.declared.refusals.Why.{Why}
use Rattle.grammar.specs.declared.refusals.Why.TheVariants.{Long, Late, Number, Large, Joined, Lateness, Semicolon, Stages, Window, Size, Aggregate, Operand, Close, Deep, Parts, Chained}

pub data Got (A : Type 0) : Type 0 where
  got : A → List ℕ → Got A
  bad : Why → List ℕ → Got A

-- the first, then what is made of it and of the bytes behind it
unfoldable pub after : {A B : Type 0} → Got A → (A → List ℕ → Got B) → Got B
after (got a rest) f = f a rest
after (bad why rest) f = bad why rest

abbrev pub Reader : Type 0 → Type 0
Reader A = List ℕ → Got A

-- BYTES
abbrev pub blank : ℕ → Bool
blank c = c == 32 || c == 9 || c == 10 || c == 13

abbrev pub letter : ℕ → Bool
letter c = (nat_le 97 c && nat_le c 122) || (nat_le 65 c && nat_le c 90)

unfoldable pub skip : List ℕ → List ℕ
skip [] = []
skip (c ∷ cs) = cond (blank c) (skip cs) (c ∷ cs)

-- the first byte is this one
unfoldable pub is : ℕ → List ℕ → Bool
is c [] = false
is c (x ∷ xs) = x == c

unfoldable pub starts_digit : List ℕ → Bool
starts_digit [] = false
starts_digit (x ∷ xs) = is_ascii_digit x

unfoldable pub starts_letter : List ℕ → Bool
starts_letter [] = false
starts_letter (x ∷ xs) = letter x

unfoldable pub is_end : List ℕ → Bool
is_end [] = true
is_end (x ∷ xs) = false

abbrev pub next : List ℕ → List ℕ
next bs = drop 1 bs

-- the word stands here: its bytes do, and neither a letter nor a digit comes right behind them
unfoldable pub is_the_word : List ℕ → List ℕ → Bool
is_the_word [] bs = not (starts_letter bs || starts_digit bs)
is_the_word (w ∷ ws) [] = false
is_the_word (w ∷ ws) (c ∷ cs) = c == w && is_the_word ws cs

-- NUMBERS. `start` is where the number begins, `n` what its digits so far come to.
unfoldable pub digits : (start : List ℕ) (n : ℕ) → List ℕ → Got ℕ
digits start n [] = got n []
digits start n (c ∷ cs) =
    cond (is_ascii_digit c) (cond (nat_lt (n * 10 + (c - 48)) top) (digits start (n * 10 + (c - 48)) cs) (bad Large start))
    (cond (letter c) (bad Joined (c ∷ cs)) (got n (c ∷ cs)))

unfoldable pub number : Reader ℕ
number bs = cond (starts_digit (skip bs)) (digits (skip bs) 0 (skip bs)) (bad Number (skip bs))

-- a number from `low` to 2 to the 40
unfoldable pub limited : Why → (low : ℕ) → Reader ℕ
limited why low bs = after (number bs) (λ n rest. cond (nat_le low n && nat_le n 1099511627776) (got n rest) (bad why (skip bs)))

-- EXPRESSIONS
unfoldable pub joined : Operator → Expr → Expr → Expr
joined op.Plus a b = Plus a b
joined op.Minus a b = Minus a b
joined op.Times a b = Times a b
joined op.Quotient a b = Quotient a b
joined op.Rest a b = Rest a b
joined op.Less a b = Less a b
joined op.Same a b = Same a b

-- the operator of a sum or of a product that stands here
unfoldable pub operator : Level → List ℕ → Option Operator
operator level.Sum bs = cond (is 43 bs) (Some op.Plus) (cond (is 45 bs) (Some op.Minus) None)
operator level.Product bs = cond (is 42 bs) (Some op.Times) (cond (is 47 bs) (Some op.Quotient) (cond (is 37 bs) (Some op.Rest) None))

unfoldable pub comparison : List ℕ → Option Operator
comparison bs = cond (is 60 bs) (Some op.Less) (cond (is 61 bs) (Some op.Same) None)

abbrev pub or_else : {A B : Type 0} → Option A → B → (A → B) → B
or_else None b f = b
or_else (Some a) b f = f a

-- two expressions and the operator that stands at `place`, if they are not too many parts
unfoldable pub join : Operator → (place : List ℕ) → Expr → Expr → Reader Expr
join o place a b rest = cond (nat_le (1 + (parts a + parts b)) 64) (got (joined o a b) rest) (bad Parts place)

unfoldable pub negate : (place : List ℕ) → Expr → Reader Expr
negate place a rest = cond (nat_le (1 + parts a) 64) (got (Not a) rest) (bad Parts place)

-- operands with operators of a level between them, from left to right. No more than 64 turns are ever needed, since
-- each adds two parts or more.
unfoldable pub more : Level → Reader Expr → (turns : ℕ) → Expr → Reader Expr
more l operand zero a bs = bad Parts bs
more l operand (suc turns) a bs =
    or_else (operator l (skip bs)) (got a bs)
    (λ o. after (operand (next (skip bs))) (λ b rest. after (join o (skip bs) a b rest) (λ c end. more l operand turns c end)))

unfoldable pub chain : Level → Reader Expr → Reader Expr
chain l operand bs = after (operand bs) (λ a rest. more l operand 64 a rest)

-- what needs no other expression
unfoldable pub leaf : Reader Expr
leaf bs =
    cond (starts_digit bs) (after (digits bs 0 bs) (λ n rest. got (Num n) rest))
    (cond (is_the_word (codes "time") bs) (got Time (drop 4 bs))
    (cond (is_the_word (codes "key") bs) (got Key (drop 3 bs)) (cond (is_the_word (codes "value") bs) (got Value (drop 5 bs)) (bad Operand bs))))

-- `inner` reads from an opening bracket to the closing one
unfoldable pub factor : (inner : Reader Expr) → (nots : ℕ) → Reader Expr
factor inner zero bs = cond (is 33 (skip bs)) (bad Parts (skip bs)) (cond (is 40 (skip bs)) (inner (skip bs)) (leaf (skip bs)))
factor inner (suc nots) bs =
    cond (is 33 (skip bs)) (after (factor inner nots (next (skip bs))) (λ a rest. negate (skip bs) a rest))
    (cond (is 40 (skip bs)) (inner (skip bs)) (leaf (skip bs)))

-- the operands of a sum are products, those of a product are factors
unfoldable pub operand : Level → (inner : Reader Expr) → Reader Expr
operand level.Sum inner bs = chain level.Product (factor inner 64) bs
operand level.Product inner bs = factor inner 64 bs

unfoldable pub chained : Level → (inner : Reader Expr) → Reader Expr
chained l inner bs = chain l (operand l inner) bs

-- comparisons do not chain
unfoldable pub single : Expr → Reader Expr
single a rest = or_else (comparison (skip rest)) (got a rest) (λ o. bad Chained (skip rest))

unfoldable pub compared : (sum : Reader Expr) → Reader Expr
compared sum bs =
    after (sum bs)
    (λ a rest.
    or_else (comparison (skip rest)) (got a rest) (λ o. after (sum (next (skip rest))) (λ b end. after (join o (skip rest) a b end) single)))

unfoldable pub closed : Expr → Reader Expr
closed a rest = cond (is 41 (skip rest)) (got a (next (skip rest))) (bad Close (skip rest))

unfoldable pub in_brackets : Reader Expr → Reader Expr
in_brackets inner place = after (inner (next place)) closed

-- in which brackets stand at most `deep` deep in each other
unfoldable pub expression : (deep : ℕ) → Reader Expr
expression zero bs = compared (chained level.Sum (bad Deep)) bs
expression (suc deep) bs = compared (chained level.Sum (in_brackets (expression deep))) bs

-- from an opening bracket to the closing one, where so many more may stand in each other
unfoldable pub bracket : (deep : ℕ) → Reader Expr
bracket zero place = bad Deep place
bracket (suc deep) place = in_brackets (expression deep) place

-- STAGES
-- a part of a stage that may be left out
unfoldable pub part : (word : List ℕ) → (left_out : Expr) → Reader Expr
part word left_out bs = cond (is_the_word word (skip bs)) (expression 64 (drop (length word) (skip bs))) (got left_out bs)

unfoldable pub window : Reader ℕ
window bs = cond (is_the_word (codes "in") (skip bs)) (limited Size 1 (drop 2 (skip bs))) (bad Window (skip bs))

unfoldable pub aggregate : Reader Sum
aggregate bs =
    cond (is_the_word (codes "count") (skip bs)) (got Count (drop 5 (skip bs)))
    (cond (is_the_word (codes "total") (skip bs)) (got Total (drop 5 (skip bs)))
    (cond (is_the_word (codes "least") (skip bs)) (got Least (drop 5 (skip bs)))
    (cond (is_the_word (codes "greatest") (skip bs)) (got Greatest (drop 8 (skip bs))) (bad Aggregate (skip bs)))))

unfoldable pub stage : Reader Stage
stage bs =
    after (part (codes "keep") (Num 1) bs)
    (λ k r. after (part (codes "key") Key r) (λ y s. after (part (codes "value") Value s) (λ v t. after (window t) (λ z u. after (aggregate u) (λ a rest. got (record { keep' = k; key = y; value = v; size = z; sum = a }) rest)))))

-- the stages that follow those in `before`, of which there may be `room` more
unfoldable pub stages : (room : ℕ) (before : List Stage) → Reader (List Stage)
stages zero before bs = cond (is 59 (skip bs)) (bad Stages (skip bs)) (cond (is_end (skip bs) && nat_lt 0 (length before)) (got before (skip bs)) (bad Semicolon (skip bs)))
stages (suc room) before bs =
    cond (is 59 (skip bs)) (after (stage (next (skip bs))) (λ s rest. stages room (before ++ (s ∷ [])) rest))
    (cond (is_end (skip bs) && nat_lt 0 (length before)) (got before (skip bs)) (bad Semicolon (skip bs)))

-- THE READING of a text
unfoldable pub plan : Reader Plan
plan bs =
    cond (is_the_word (codes "late") (skip bs)) (after (limited Lateness 0 (drop 4 (skip bs))) (λ n rest. after (stages 8 [] rest) (λ sts end. got (record { late = n; stages = sts }) end)))
    (bad Late (skip bs))

unfoldable pub reading : Reader Plan
reading bs = cond (nat_lt 65536 (length bs)) (bad Long (drop 65536 bs)) (plan bs)
