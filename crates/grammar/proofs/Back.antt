-- What is printed of an expression is read as that expression. Assumes nothing.
use Rattle.std.proofs.Common.{◌≡◌, ℕ, zero, suc, ◌+◌, ◌-◌, ◌*◌, ◌/◌, ◌%◌, ◌^◌, ◌<◌, ◌≤◌, true, false, ltb, leb, ◌≢◌, List, [], ◌∷◌, ◌++◌, Some, None, codes, decimal, refl, ap, ◌∙◌, append_assoc, arith}
use Rattle.std.proofs.lemmas.Fmt.{decimal_by_steps}
use Rattle.std.proofs.lemmas.Bool.{cond_both, ltb-true, ltb-false, lt-ltb, le-leb, and_parts}
use Rattle.std.proofs.lemmas.Bool.Decides.{nat_tests}
use Rattle.std.specs.Char.{is_ascii_digit}
use Rattle.streams.specs.Meaning.{Expr, Num, Time, Key, Value, Plus, Minus, Times, Quotient, Rest, Less, Same, Not, top}
use Rattle.streams.specs.Calls.{parts, expr_ok}
use Rattle.grammar.specs.declared.operators.Operator.{Operator}
use Rattle.grammar.specs.declared.operators.Operator.TheVariants as op
use Rattle.grammar.specs.declared.operators.Level.{Level}
use Rattle.grammar.specs.declared.operators.Level.TheVariants as level
use Rattle.grammar.specs.Reading.{got, Reader, after, blank, skip, is, starts_digit, starts_letter, is_the_word, digits, joined, operator, comparison, join, negate, more, chain, chained, operand, factor, leaf, compared, single, closed, bracket, expression}
use Rattle.grammar.specs.Printing.{bond, within, pair, shown}
use Rattle.grammar.proofs.Places.{digits_done}
use Rattle.grammar.proofs.Readers.{after_got, parts_some, joined_parts, more_none, more_turn, chained_got, operand_sum, operand_product, factor_not, factor_bracket, bracket_in, expression_one, expression_two}

-- ---- what may follow
-- no letter and no digit comes right behind
pub record Ends (rest : List ℕ) : Type 0 where
  pub letter : starts_letter rest ≡ false
  pub digit : starts_digit rest ≡ false

-- no operator that binds closer than those of the level
abbrev pub Stops : Level → List ℕ → Type 0
Stops level.Sum rest = operator level.Product (skip rest) ≡ None
Stops level.Product rest = Unit {0}

-- no operator at all
pub record Closed (rest : List ℕ) : Type 0 where
  pub ends : Ends rest
  pub sum : operator level.Sum (skip rest) ≡ None
  pub product : operator level.Product (skip rest) ≡ None
  pub compared : comparison (skip rest) ≡ None

-- ---- how a text is read at each level
abbrev FactorReads : Reader Expr → List ℕ → Expr → Type 0
FactorReads inner t e = (n : ℕ) (rest : List ℕ) → parts e ≤ n → Ends rest → factor inner n (t ++ rest) ≡ got e rest

abbrev OperandReads : Level → Reader Expr → List ℕ → Expr → Type 0
OperandReads l inner t e = (rest : List ℕ) → Ends rest → Stops l rest → operand l inner (t ++ rest) ≡ got e rest

-- a chain has read `e` so far, and goes on behind it
record Onward (l : Level) (inner : Reader Expr) (bs : List ℕ) (e : Expr) (rest : List ℕ) : Type 0 where
  turns : ℕ
  enough : 64 < turns + parts e
  is : chained l inner bs ≡ more l (operand l inner) turns e rest

abbrev ChainReads : Level → Reader Expr → List ℕ → Expr → Type 0
ChainReads l inner t e = (rest : List ℕ) → Ends rest → Stops l rest → Onward l inner (t ++ rest) e rest

-- ---- white space in front changes nothing
factor_blank : (inner : Reader Expr) (n : ℕ) (bs : List ℕ) → factor inner n (32 ∷ bs) ≡ factor inner n bs
unfolding factor skip
factor_blank inner zero bs = refl
factor_blank inner (suc n) bs = refl

operand_blank : (l : Level) (inner : Reader Expr) (bs : List ℕ) → operand l inner (32 ∷ bs) ≡ operand l inner bs
unfolding operand chain
operand_blank level.Product inner bs = factor_blank inner 64 bs
operand_blank level.Sum inner bs = ap (λ g. after g (λ a rest. more level.Product (factor inner 64) 64 a rest)) (factor_blank inner 64 bs)

chained_blank : (l : Level) (inner : Reader Expr) (bs : List ℕ) → chained l inner (32 ∷ bs) ≡ chained l inner bs
unfolding chained chain
chained_blank l inner bs = ap (λ g. after g (λ a rest. more l (operand l inner) 64 a rest)) (operand_blank l inner bs)

pub expression_blank : (deep : ℕ) (bs : List ℕ) → expression deep (32 ∷ bs) ≡ expression deep bs
unfolding expression compared
expression_blank zero bs = rw (chained_blank level.Sum _ bs)
expression_blank (suc deep) bs = rw (chained_blank level.Sum _ bs)

-- ---- chains
module _ (l : Level) (inner : Reader Expr) where
  chain_first : (t : List ℕ) (e : Expr) → OperandReads l inner t e → ChainReads l inner t e
  chain_first t e h rest ends stops = record { turns = 64; enough = omega (arith, parts_some e); is = chained_got l inner (t ++ rest) (h rest ends stops) }

  chain_next : (ta tb : List ℕ) (a b : Expr) (o : Operator) (sign : ℕ) → ((bs : List ℕ) → operator l (sign ∷ bs) ≡ Some o) → ((bs : List ℕ) → Stops l (32 ∷ sign ∷ bs)) → blank sign ≡ false → parts (joined o a b) ≤ 64 → ChainReads l inner ta a → OperandReads l inner tb b → ChainReads l inner (pair sign ta tb) (joined o a b)
  unfolding skip starts_letter starts_digit join
  chain_next ta tb a b o sign found stop solid few left right rest ends stops =
      let behind = 32 ∷ sign ∷ 32 ∷ (tb ++ rest) in
      let first = left behind (record { letter = refl; digit = refl }) (stop (32 ∷ (tb ++ rest))) in
      let many = joined_parts o a b in
      let some : first.turns ≢ 0 = omega (arith, first.enough, many) in
      let skipped : sign ∷ 32 ∷ (tb ++ rest) ≡ skip behind = rw solid in
      let fits : leb (1 + (parts a + parts b)) 64 ≡ true = le-leb _ _ (omega arith) in
      record {
        turns = first.turns - 1;
        enough = omega (arith, first.enough, many);
        is =
            ap (chained l inner) (append_assoc ta (32 ∷ sign ∷ 32 ∷ tb) rest)
            ∙ first.is
            ∙ more_turn l (operand l inner) first.turns a behind (sign ∷ 32 ∷ (tb ++ rest)) skipped o some (found (32 ∷ (tb ++ rest)))
            ∙ after_got _ _ (operand_blank l inner (tb ++ rest) ∙ right rest ends stops)
            ∙ after_got _ _ (rw fits);
      }

  chain_whole : (t : List ℕ) (e : Expr) (rest : List ℕ) → parts e ≤ 64 → ChainReads l inner t e → Ends rest → Stops l rest → operator l (skip rest) ≡ None → chained l inner (t ++ rest) ≡ got e rest
  chain_whole t e rest few h ends stops none =
      let on = h rest ends stops in
      on.is ∙ more_none l (operand l inner) on.turns e rest (skip rest) refl (omega (arith, on.enough)) none

-- the operands of a product are factors, those of a sum are products
factors_product : (inner : Reader Expr) (t : List ℕ) (e : Expr) → parts e ≤ 64 → FactorReads inner t e → OperandReads level.Product inner t e
factors_product inner t e few h rest ends stops = operand_product inner (t ++ rest) ∙ h 64 rest few ends

products_sum : (inner : Reader Expr) (t : List ℕ) (e : Expr) → parts e ≤ 64 → ChainReads level.Product inner t e → OperandReads level.Sum inner t e
products_sum inner t e few h rest ends stops = operand_sum inner (t ++ rest) ∙ chain_whole level.Product inner t e rest few h ends tt stops

-- ---- factors
time_reads : (inner : Reader Expr) → FactorReads inner (codes "time") Time
unfolding factor skip is leaf starts_digit is_the_word
time_reads inner zero rest h ends = rw (ends.letter, ends.digit)
time_reads inner (suc n) rest h ends = rw (ends.letter, ends.digit)

key_reads : (inner : Reader Expr) → FactorReads inner (codes "key") Key
unfolding factor skip is leaf starts_digit is_the_word
key_reads inner zero rest h ends = rw (ends.letter, ends.digit)
key_reads inner (suc n) rest h ends = rw (ends.letter, ends.digit)

value_reads : (inner : Reader Expr) → FactorReads inner (codes "value") Value
unfolding factor skip is leaf starts_digit is_the_word
value_reads inner zero rest h ends = rw (ends.letter, ends.digit)
value_reads inner (suc n) rest h ends = rw (ends.letter, ends.digit)

not_reads : (inner : Reader Expr) (t : List ℕ) (a : Expr) → parts (Not a) ≤ 64 → FactorReads inner t a → FactorReads inner (33 ∷ t) (Not a)
unfolding skip is negate parts
not_reads inner t a few h n rest m ends =
    let fits : leb (1 + parts a) 64 ≡ true = le-leb _ _ few in
    let some : n ≢ 0 = omega arith in
    factor_not inner n (33 ∷ (t ++ rest)) (33 ∷ (t ++ rest)) (t ++ rest) refl refl some refl ∙ after_got _ _ (h (n - 1) rest (omega arith) ends) ∙ rw fits

-- in brackets, where one more may stand
bracketed_reads : (d : ℕ) (t : List ℕ) (e : Expr) → d ≢ 0 → ((rest : List ℕ) → Closed rest → expression (d - 1) (t ++ rest) ≡ got e rest) → FactorReads (bracket d) (40 ∷ (t ++ (41 ∷ []))) e
unfolding skip is closed starts_letter starts_digit operator comparison
bracketed_reads d t e some h n rest m ends =
    factor_bracket (bracket d) n (40 ∷ ((t ++ (41 ∷ [])) ++ rest)) (40 ∷ ((t ++ (41 ∷ [])) ++ rest)) _ refl refl refl refl
    ∙ bracket_in d (40 ∷ ((t ++ (41 ∷ [])) ++ rest)) (t ++ (41 ∷ rest)) (append_assoc t (41 ∷ []) rest) some
    ∙ after_got _ closed (h (41 ∷ rest) (record { ends = record { letter = refl; digit = refl }; sum = refl; product = refl; compared = refl }))

-- ---- numbers
digit_true : (c : ℕ) → 48 ≤ c → c ≤ 57 → is_ascii_digit c ≡ true
digit_true c h k = grind (arith, nat_tests)

abbrev ReadAs : ℕ → List ℕ → Type 0
ReadAs n ds = n < top → (start rest : List ℕ) → digits start 0 (ds ++ rest) ≡ digits start n rest

digit_read : (start : List ℕ) (m n d : ℕ) (rest : List ℕ) → d < 10 → m * 10 + d ≡ n → n < top → digits start m ((48 + d) ∷ rest) ≡ digits start n rest
unfolding digits
digit_read start m n d rest h e l =
    let value : m * 10 + (48 + d - 48) ≡ n = omega arith in
    rw (digit_true (48 + d) (omega arith) (omega arith), value, lt-ltb n top l)

decimal_read : (n : ℕ) → n < 2 ^ 64 → ReadAs n (decimal n)
decimal_read =
    decimal_by_steps ReadAs
    (λ n h l start rest. digit_read start 0 n n rest h (omega arith) l)
    (λ n ds h before l start rest. ap (digits start 0) (append_assoc ds ((48 + n % 10) ∷ []) rest) ∙ before (omega arith) start ((48 + n % 10) ∷ rest) ∙ digit_read start (n / 10) n (n % 10) rest (omega arith) (omega arith) l)

pub record Headed (ds : List ℕ) : Type 0 where
  pub first : ℕ
  pub others : List ℕ
  pub is : ds ≡ first ∷ others
  pub low : 48 ≤ first
  pub high : first ≤ 57

pub decimal_headed : (n : ℕ) → n < 2 ^ 64 → Headed (decimal n)
decimal_headed =
    decimal_by_steps (λ n ds. Headed ds)
    (λ n h. record { first = 48 + n; others = []; is = refl; low = omega arith; high = omega arith })
    (λ n ds h b. record { first = b.first; others = b.others ++ ((48 + n % 10) ∷ []); is = ap (λ l. l ++ ((48 + n % 10) ∷ [])) b.is; low = b.low; high = b.high })

solid_digit : (c : ℕ) → 48 ≤ c → c ≤ 57 → blank c ≡ false
solid_digit c h k = grind (arith, nat_tests)

-- a number is all that is read of its digits
pub digits_read : (n : ℕ) (rest : List ℕ) → n < top → Ends rest → (skip (decimal n ++ rest) ≡ decimal n ++ rest) × (starts_digit (decimal n ++ rest) ≡ true) × (digits (decimal n ++ rest) 0 (decimal n ++ rest) ≡ got n rest)
unfolding skip starts_digit
digits_read n rest h ends =
    let b = decimal_headed n h in
    let front : decimal n ++ rest ≡ b.first ∷ (b.others ++ rest) = ap (λ l. l ++ rest) b.is in (
      rw (front, solid_digit b.first b.low b.high),
      rw (front) (digit_true b.first b.low b.high),
      decimal_read n h h (decimal n ++ rest) rest ∙ digits_done (decimal n ++ rest) n rest ends.digit ends.letter,
    )

other_is : (sign c : ℕ) (cs : List ℕ) → sign < 48 → 48 ≤ c → is sign (c ∷ cs) ≡ false
unfolding is
other_is sign c cs h k = grind (arith, nat_tests)

number_reads : (inner : Reader Expr) (n : ℕ) → n < top → FactorReads inner (decimal n) (Num n)
unfolding factor leaf after
number_reads inner n h m rest few ends =
    let b = decimal_headed n h in
    let front : decimal n ++ rest ≡ b.first ∷ (b.others ++ rest) = ap (λ l. l ++ rest) b.is in
    let read = digits_read n rest h ends in
    let not_not : is 33 (decimal n ++ rest) ≡ false = ap (is 33) front ∙ other_is 33 b.first (b.others ++ rest) (omega arith) b.low in
    let not_open : is 40 (decimal n ++ rest) ≡ false = ap (is 40) front ∙ other_is 40 b.first (b.others ++ rest) (omega arith) b.low in
    go m read.0 read.1 read.2 not_not not_open
  where
    go : (k : ℕ) → skip (decimal n ++ rest) ≡ decimal n ++ rest → starts_digit (decimal n ++ rest) ≡ true → digits (decimal n ++ rest) 0 (decimal n ++ rest) ≡ got n rest → is 33 (decimal n ++ rest) ≡ false → is 40 (decimal n ++ rest) ≡ false → factor inner k (decimal n ++ rest) ≡ got (Num n) rest
    go zero s d r x y = rw (s, x, y, d, r)
    go (suc k) s d r x y = rw (s, x, y, d, r)

-- ---- an expression at each level at which it may stand without brackets
record Back (d : ℕ) (e : Expr) : Type 0 where
  factors : bond e ≡ 4 → FactorReads (bracket d) (shown e) e
  products : 3 ≤ bond e → ChainReads level.Product (bracket d) (shown e) e
  sums : 2 ≤ bond e → ChainReads level.Sum (bracket d) (shown e) e
  exprs : (rest : List ℕ) → Closed rest → expression d (shown e ++ rest) ≡ got e rest

abbrev Exprs : ℕ → Expr → Type 0
Exprs d e = (rest : List ℕ) → Closed rest → expression d (shown e ++ rest) ≡ got e rest

sums_expr : (d : ℕ) (e : Expr) → parts e ≤ 64 → ChainReads level.Sum (bracket d) (shown e) e → Exprs d e
sums_expr d e few h rest c = expression_one d (shown e ++ rest) (skip rest) [] (chain_whole level.Sum (bracket d) (shown e) e rest few h c.ends c.product c.sum) refl c.compared

from_sum : (d : ℕ) (e : Expr) → parts e ≤ 64 → bond e ≡ 2 → ChainReads level.Sum (bracket d) (shown e) e → Back d e
from_sum d e few is h = record { factors = λ k. absurd (omega arith); products = λ k. absurd (omega arith); sums = λ _. h; exprs = sums_expr d e few h }

from_product : (d : ℕ) (e : Expr) → parts e ≤ 64 → bond e ≡ 3 → ChainReads level.Product (bracket d) (shown e) e → Back d e
from_product d e few is h =
    let s = chain_first level.Sum (bracket d) (shown e) e (products_sum (bracket d) (shown e) e few h) in
    record { factors = λ k. absurd (omega arith); products = λ _. h; sums = λ _. s; exprs = sums_expr d e few s }

from_compare : (d : ℕ) (e : Expr) → bond e ≡ 1 → Exprs d e → Back d e
from_compare d e is h = record { factors = λ k. absurd (omega arith); products = λ k. absurd (omega arith); sums = λ k. absurd (omega arith); exprs = h }

from_factor : (d : ℕ) (e : Expr) → parts e ≤ 64 → FactorReads (bracket d) (shown e) e → Back d e
from_factor d e few h =
    let p = chain_first level.Product (bracket d) (shown e) e (factors_product (bracket d) (shown e) e few h) in
    let s = chain_first level.Sum (bracket d) (shown e) e (products_sum (bracket d) (shown e) e few p) in
    record { factors = λ _. h; products = λ _. p; sums = λ _. s; exprs = sums_expr d e few s }

bond_most : (x : Expr) → 4 ≤ bond x → bond x ≡ 4
unfolding bond
bond_most (Num n) h = refl
bond_most Time h = refl
bond_most Key h = refl
bond_most Value h = refl
bond_most (Plus a b) h = absurd (omega arith)
bond_most (Minus a b) h = absurd (omega arith)
bond_most (Times a b) h = absurd (omega arith)
bond_most (Quotient a b) h = absurd (omega arith)
bond_most (Rest a b) h = absurd (omega arith)
bond_most (Less a b) h = absurd (omega arith)
bond_most (Same a b) h = absurd (omega arith)
bond_most (Not a) h = refl

-- ---- the same where another may stand only in brackets
module _ (d : ℕ) (e : Expr) (some : d ≢ 0) (few : parts e ≤ 64) (here : Back d e) (inside : Exprs (d - 1) e) where
  bracketed : FactorReads (bracket d) (40 ∷ (shown e ++ (41 ∷ []))) e
  bracketed = bracketed_reads d (shown e) e some inside

  within_factor : FactorReads (bracket d) (within 4 (bond e) (shown e)) e
  within_factor = cond_both (ltb (bond e) 4) _ _ (λ t. FactorReads (bracket d) t e) (λ _. bracketed) (λ h. here.factors (bond_most e (ltb-false _ _ h)))

  within_product : ChainReads level.Product (bracket d) (within 3 (bond e) (shown e)) e
  within_product =
      cond_both (ltb (bond e) 3) _ _ (λ t. ChainReads level.Product (bracket d) t e)
      (λ _. chain_first level.Product (bracket d) (40 ∷ (shown e ++ (41 ∷ []))) e (factors_product (bracket d) (40 ∷ (shown e ++ (41 ∷ []))) e few bracketed))
      (λ h. here.products (ltb-false _ _ h))

  within_sum : ChainReads level.Sum (bracket d) (within 2 (bond e) (shown e)) e
  within_sum =
      cond_both (ltb (bond e) 2) _ _ (λ t. ChainReads level.Sum (bracket d) t e)
      (λ _. chain_first level.Sum (bracket d) (40 ∷ (shown e ++ (41 ∷ []))) e (products_sum (bracket d) (40 ∷ (shown e ++ (41 ∷ []))) e few (chain_first level.Product (bracket d) (40 ∷ (shown e ++ (41 ∷ []))) e (factors_product (bracket d) (40 ∷ (shown e ++ (41 ∷ []))) e few bracketed))))
      (λ h. here.sums (ltb-false _ _ h))

-- ---- pairs
-- a side of a pair: how it stands there, at this depth and at one less
record Side (d : ℕ) (e : Expr) : Type 0 where
  few : parts e ≤ 64
  here : Back d e
  inside : Exprs (d - 1) e

module _ (d : ℕ) (a b : Expr) (some : d ≢ 0) (l : Side d a) (r : Side d b) where
  sum_reads : (o : Operator) (sign : ℕ) → ((bs : List ℕ) → operator level.Sum (sign ∷ bs) ≡ Some o) → ((bs : List ℕ) → Stops level.Sum (32 ∷ sign ∷ bs)) → blank sign ≡ false → parts (joined o a b) ≤ 64 → ChainReads level.Sum (bracket d) (pair sign (within 2 (bond a) (shown a)) (within 3 (bond b) (shown b))) (joined o a b)
  sum_reads o sign found stops solid few =
      chain_next level.Sum (bracket d) (within 2 (bond a) (shown a)) (within 3 (bond b) (shown b)) a b o sign found stops solid few (within_sum d a some l.few l.here l.inside) (products_sum (bracket d) (within 3 (bond b) (shown b)) b r.few (within_product d b some r.few r.here r.inside))

  product_reads : (o : Operator) (sign : ℕ) → ((bs : List ℕ) → operator level.Product (sign ∷ bs) ≡ Some o) → blank sign ≡ false → parts (joined o a b) ≤ 64 → ChainReads level.Product (bracket d) (pair sign (within 3 (bond a) (shown a)) (within 4 (bond b) (shown b))) (joined o a b)
  product_reads o sign found solid few =
      chain_next level.Product (bracket d) (within 3 (bond a) (shown a)) (within 4 (bond b) (shown b)) a b o sign found (λ _. tt) solid few (within_product d a some l.few l.here l.inside) (factors_product (bracket d) (within 4 (bond b) (shown b)) b r.few (within_factor d b some r.few r.here r.inside))

  compare_reads : (o : Operator) (sign : ℕ) → ((bs : List ℕ) → comparison (sign ∷ bs) ≡ Some o) → ((bs : List ℕ) → operator level.Sum (sign ∷ bs) ≡ None) → ((bs : List ℕ) → operator level.Product (sign ∷ bs) ≡ None) → blank sign ≡ false → parts (joined o a b) ≤ 64 → (rest : List ℕ) → Closed rest → expression d (pair sign (within 2 (bond a) (shown a)) (within 2 (bond b) (shown b)) ++ rest) ≡ got (joined o a b) rest
  unfolding skip starts_letter starts_digit join single
  compare_reads o sign found no-sum no-product solid few rest c =
      let ta = within 2 (bond a) (shown a) in
      let tb = within 2 (bond b) (shown b) in
      let behind = 32 ∷ sign ∷ 32 ∷ (tb ++ rest) in
      let skipped : sign ∷ 32 ∷ (tb ++ rest) ≡ skip behind = rw solid in
      let left = chain_whole level.Sum (bracket d) ta a behind l.few (within_sum d a some l.few l.here l.inside) (record { letter = refl; digit = refl }) (rw solid (no-product _)) (rw solid (no-sum _)) in
      let right = chain_whole level.Sum (bracket d) tb b rest r.few (within_sum d b some r.few r.here r.inside) c.ends c.product c.sum in
      let fits : leb (1 + (parts a + parts b)) 64 ≡ true = le-leb _ _ (omega (arith, joined_parts o a b)) in
      let whole : join o (sign ∷ 32 ∷ (tb ++ rest)) a b rest ≡ got (joined o a b) rest = rw fits in
      ap (expression d) (append_assoc ta (32 ∷ sign ∷ 32 ∷ tb) rest)
      ∙ expression_two d (ta ++ behind) (sign ∷ 32 ∷ (tb ++ rest)) (32 ∷ (tb ++ rest)) left skipped refl (found _)
      ∙ after_got _ _ (chained_blank level.Sum (bracket d) (tb ++ rest) ∙ right)
      ∙ after_got (join o (sign ∷ 32 ∷ (tb ++ rest)) a b rest) single whole
      ∙ rw c.compared

-- ---- WHAT IS PRINTED OF AN EXPRESSION IS READ AS IT, where its parts are few and its numbers fit
back : (e : Expr) (d : ℕ) → parts e ≤ d → parts e ≤ 64 → expr_ok e ≡ true → Back d e
unfolding parts expr_ok bond shown joined operator comparison is skip
back (Num n) d h few ok = from_factor d (Num n) few (number_reads (bracket d) n (ltb-true n top ok))
back Time d h few ok = from_factor d Time few (time_reads (bracket d))
back Key d h few ok = from_factor d Key few (key_reads (bracket d))
back Value d h few ok = from_factor d Value few (value_reads (bracket d))
back (Plus a b) d h few ok =
    let oks = and_parts (expr_ok a) (expr_ok b) ok in
    let l : Side d a = record { few = omega arith; here = back a d (omega arith) (omega arith) oks.0; inside = (back a (d - 1) (omega arith) (omega arith) oks.0).exprs } in
    let r : Side d b = record { few = omega arith; here = back b d (omega arith) (omega arith) oks.1; inside = (back b (d - 1) (omega arith) (omega arith) oks.1).exprs } in
    from_sum d (Plus a b) few refl (sum_reads d a b (omega arith) l r op.Plus 43 (λ _. refl) (λ _. refl) refl few)
back (Minus a b) d h few ok =
    let oks = and_parts (expr_ok a) (expr_ok b) ok in
    let l : Side d a = record { few = omega arith; here = back a d (omega arith) (omega arith) oks.0; inside = (back a (d - 1) (omega arith) (omega arith) oks.0).exprs } in
    let r : Side d b = record { few = omega arith; here = back b d (omega arith) (omega arith) oks.1; inside = (back b (d - 1) (omega arith) (omega arith) oks.1).exprs } in
    from_sum d (Minus a b) few refl (sum_reads d a b (omega arith) l r op.Minus 45 (λ _. refl) (λ _. refl) refl few)
back (Times a b) d h few ok =
    let oks = and_parts (expr_ok a) (expr_ok b) ok in
    let l : Side d a = record { few = omega arith; here = back a d (omega arith) (omega arith) oks.0; inside = (back a (d - 1) (omega arith) (omega arith) oks.0).exprs } in
    let r : Side d b = record { few = omega arith; here = back b d (omega arith) (omega arith) oks.1; inside = (back b (d - 1) (omega arith) (omega arith) oks.1).exprs } in
    from_product d (Times a b) few refl (product_reads d a b (omega arith) l r op.Times 42 (λ _. refl) refl few)
back (Quotient a b) d h few ok =
    let oks = and_parts (expr_ok a) (expr_ok b) ok in
    let l : Side d a = record { few = omega arith; here = back a d (omega arith) (omega arith) oks.0; inside = (back a (d - 1) (omega arith) (omega arith) oks.0).exprs } in
    let r : Side d b = record { few = omega arith; here = back b d (omega arith) (omega arith) oks.1; inside = (back b (d - 1) (omega arith) (omega arith) oks.1).exprs } in
    from_product d (Quotient a b) few refl (product_reads d a b (omega arith) l r op.Quotient 47 (λ _. refl) refl few)
back (Rest a b) d h few ok =
    let oks = and_parts (expr_ok a) (expr_ok b) ok in
    let l : Side d a = record { few = omega arith; here = back a d (omega arith) (omega arith) oks.0; inside = (back a (d - 1) (omega arith) (omega arith) oks.0).exprs } in
    let r : Side d b = record { few = omega arith; here = back b d (omega arith) (omega arith) oks.1; inside = (back b (d - 1) (omega arith) (omega arith) oks.1).exprs } in
    from_product d (Rest a b) few refl (product_reads d a b (omega arith) l r op.Rest 37 (λ _. refl) refl few)
back (Less a b) d h few ok =
    let oks = and_parts (expr_ok a) (expr_ok b) ok in
    let l : Side d a = record { few = omega arith; here = back a d (omega arith) (omega arith) oks.0; inside = (back a (d - 1) (omega arith) (omega arith) oks.0).exprs } in
    let r : Side d b = record { few = omega arith; here = back b d (omega arith) (omega arith) oks.1; inside = (back b (d - 1) (omega arith) (omega arith) oks.1).exprs } in
    from_compare d (Less a b) refl (compare_reads d a b (omega arith) l r op.Less 60 (λ _. refl) (λ _. refl) (λ _. refl) refl few)
back (Same a b) d h few ok =
    let oks = and_parts (expr_ok a) (expr_ok b) ok in
    let l : Side d a = record { few = omega arith; here = back a d (omega arith) (omega arith) oks.0; inside = (back a (d - 1) (omega arith) (omega arith) oks.0).exprs } in
    let r : Side d b = record { few = omega arith; here = back b d (omega arith) (omega arith) oks.1; inside = (back b (d - 1) (omega arith) (omega arith) oks.1).exprs } in
    from_compare d (Same a b) refl (compare_reads d a b (omega arith) l r op.Same 61 (λ _. refl) (λ _. refl) (λ _. refl) refl few)
back (Not a) d h few ok = from_factor d (Not a) few (not_reads (bracket d) (within 4 (bond a) (shown a)) a few (within_factor d a (omega arith) (omega arith) (back a d (omega arith) (omega arith) ok) (back a (d - 1) (omega arith) (omega arith) ok).exprs))

pub expression_back : (e : Expr) (rest : List ℕ) → parts e ≤ 64 → expr_ok e ≡ true → Closed rest → expression 64 (shown e ++ rest) ≡ got e rest
expression_back e rest few ok c = (back e 64 few few ok).exprs rest c
