-- Steps of the readers of expressions, from what each part comes to. Assumes nothing.
use Rattle.std.proofs.Common.{◌≡◌, ℕ, zero, suc, ◌+◌, ◌-◌, ◌<◌, true, false, ◌≢◌, List, Some, None, refl, ◌∙◌, arith}
use Rattle.streams.specs.Meaning as spec
use Rattle.streams.specs.Calls.{parts}
use Rattle.grammar.specs.declared.operators.Operator.{Operator}
use Rattle.grammar.specs.declared.operators.Operator.TheVariants as op
use Rattle.grammar.specs.declared.operators.Level.{Level}
use Rattle.grammar.specs.declared.operators.Level.TheVariants as level
use Rattle.grammar.specs.declared.refusals.Why.{Why}
use Rattle.grammar.specs.declared.refusals.Why.TheVariants.{Parts, Chained, Deep}
use Rattle.grammar.specs.Reading.{Got, got, bad, Reader, after, skip, next, is, joined, operator, comparison, join, negate, more, chain, chained, operand, factor, leaf, compared, single, closed, in_brackets, bracket, expression}

pub after_got : {A B : Type 0} (g : Got A) (f : A → List ℕ → Got B) {a : A} {rest : List ℕ} → g ≡ got a rest → after g f ≡ f a rest
unfolding after
after_got g f e = rw e

pub after_bad : {A B : Type 0} (g : Got A) (f : A → List ℕ → Got B) {why : Why} {rest : List ℕ} → g ≡ bad why rest → after g f ≡ bad why rest
unfolding after
after_bad g f e = rw e

pub parts_some : (e : spec.Expr) → 0 < parts e
unfolding parts
parts_some e =
    elim e as (λ e. 0 < parts e) [
      | spec.Num n ↦ omega arith
      | spec.Time ↦ omega arith
      | spec.Key ↦ omega arith
      | spec.Value ↦ omega arith
      | spec.Plus a b ↦ omega arith
      | spec.Minus a b ↦ omega arith
      | spec.Times a b ↦ omega arith
      | spec.Quotient a b ↦ omega arith
      | spec.Rest a b ↦ omega arith
      | spec.Less a b ↦ omega arith
      | spec.Same a b ↦ omega arith
      | spec.Not a ↦ omega arith
    ]

-- the parts of what was joined
pub joined_parts : (o : Operator) (a b : spec.Expr) → parts (joined o a b) ≡ 1 + (parts a + parts b)
unfolding joined parts
joined_parts o a b = elim o as (λ o. parts (joined o a b) ≡ 1 + (parts a + parts b)) [ op.Plus ↦ refl | op.Minus ↦ refl | op.Times ↦ refl | op.Quotient ↦ refl | op.Rest ↦ refl | op.Less ↦ refl | op.Same ↦ refl ]

-- ---- the turns of a chain
module _ (l : Level) (sub : Reader spec.Expr) (turns : ℕ) (a : spec.Expr) (bs s : List ℕ) (e : s ≡ skip bs) where
  pub more_none : turns ≢ 0 → operator l s ≡ None → more l sub turns a bs ≡ got a bs
  unfolding more
  more_none h o = go turns h
    where
      go : (t : ℕ) → t ≢ 0 → more l sub t a bs ≡ got a bs
      go zero h = absurd (h refl)
      go (suc t) h = rw (← e, o)

  pub more_turn : (o : Operator) → turns ≢ 0 → operator l s ≡ Some o → more l sub turns a bs ≡ after (sub (next s)) (λ b rest. after (join o s a b rest) (λ c end. more l sub (turns - 1) c end))
  unfolding more
  more_turn o h is = go turns h
    where
      go : (t : ℕ) → t ≢ 0 → more l sub t a bs ≡ after (sub (next s)) (λ b rest. after (join o s a b rest) (λ c end. more l sub (t - 1) c end))
      go zero h = absurd (h refl)
      go (suc t) h = let n : suc t - 1 ≡ t = omega arith in rw (← e, is, n)

-- ---- a chain, once its first operand was read
pub chained_bad : (l : Level) (inner : Reader spec.Expr) (bs : List ℕ) {why : Why} {rest : List ℕ} → operand l inner bs ≡ bad why rest → chained l inner bs ≡ bad why rest
unfolding chained chain after
chained_bad l inner bs e = rw e

pub chained_got : (l : Level) (inner : Reader spec.Expr) (bs : List ℕ) {a : spec.Expr} {rest : List ℕ} → operand l inner bs ≡ got a rest → chained l inner bs ≡ more l (operand l inner) 64 a rest
unfolding chained chain after
chained_got l inner bs e = rw e

-- ---- operands
pub operand_sum : (inner : Reader spec.Expr) (bs : List ℕ) → operand level.Sum inner bs ≡ chained level.Product inner bs
unfolding operand chained chain
operand_sum inner bs = refl

pub operand_product : (inner : Reader spec.Expr) (bs : List ℕ) → operand level.Product inner bs ≡ factor inner 64 bs
unfolding operand
operand_product inner bs = refl

-- ---- factors; `s` is what follows the white space, `n` what follows its first byte
module _ (inner : Reader spec.Expr) (nots : ℕ) (bs s n : List ℕ) (e : s ≡ skip bs) (f : next s ≡ n) where
  pub factor_many : nots ≡ 0 → is 33 s ≡ true → factor inner nots bs ≡ bad Parts s
  unfolding factor
  factor_many z h = rw (z, ← e, h)

  pub factor_not : nots ≢ 0 → is 33 s ≡ true → factor inner nots bs ≡ after (factor inner (nots - 1) n) (λ a rest. negate s a rest)
  unfolding factor
  factor_not z h = go nots z
    where
      go : (t : ℕ) → t ≢ 0 → factor inner t bs ≡ after (factor inner (t - 1) n) (λ a rest. negate s a rest)
      go zero z = absurd (z refl)
      go (suc t) z = let less : suc t - 1 ≡ t = omega arith in rw (← e, h, less, f)

  pub factor_bracket : is 33 s ≡ false → is 40 s ≡ true → factor inner nots bs ≡ inner s
  unfolding factor
  factor_bracket h k = go nots
    where
      go : (t : ℕ) → factor inner t bs ≡ inner s
      go zero = rw (← e, h, k)
      go (suc t) = rw (← e, h, k)

  pub factor_leaf : is 33 s ≡ false → is 40 s ≡ false → factor inner nots bs ≡ leaf s
  unfolding factor
  factor_leaf h k = go nots
    where
      go : (t : ℕ) → factor inner t bs ≡ leaf s
      go zero = rw (← e, h, k)
      go (suc t) = rw (← e, h, k)

-- ---- brackets
pub bracket_deep : (deep : ℕ) (s : List ℕ) → deep ≡ 0 → bracket deep s ≡ bad Deep s
unfolding bracket
bracket_deep deep s z = rw z

pub bracket_in : (deep : ℕ) (s n : List ℕ) → next s ≡ n → deep ≢ 0 → bracket deep s ≡ after (expression (deep - 1) n) closed
unfolding bracket in_brackets
bracket_in zero s n f z = absurd (z refl)
bracket_in (suc deep) s n f z = let less : suc deep - 1 ≡ deep = omega arith in rw (f, less)

module _ (a : spec.Expr) (rest s n : List ℕ) (e : s ≡ skip rest) where
  pub single_ok : comparison s ≡ None → single a rest ≡ got a rest
  unfolding single
  single_ok h = rw (← e, h)

  pub single_bad : {o : Operator} → comparison s ≡ Some o → single a rest ≡ bad Chained s
  unfolding single
  single_bad h = rw (← e, h)

-- ---- comparisons
expression_is : (deep : ℕ) (bs : List ℕ) → expression deep bs ≡ compared (chained level.Sum (bracket deep)) bs
unfolding expression bracket
expression_is zero bs = refl
expression_is (suc deep) bs = refl

module _ (deep : ℕ) (bs : List ℕ) where
  pub expression_bad : {why : Why} {rest : List ℕ} → chained level.Sum (bracket deep) bs ≡ bad why rest → expression deep bs ≡ bad why rest
  unfolding compared after
  expression_bad e = expression_is deep bs ∙ rw e

  module _ {a : spec.Expr} {rest : List ℕ} (s n : List ℕ) (l : chained level.Sum (bracket deep) bs ≡ got a rest) (e : s ≡ skip rest) where
    pub expression_one : comparison s ≡ None → expression deep bs ≡ got a rest
    unfolding compared after
    expression_one h = expression_is deep bs ∙ rw (l, ← e, h)

    pub expression_two : {o : Operator} → next s ≡ n → comparison s ≡ Some o → expression deep bs ≡ after (chained level.Sum (bracket deep) n) (λ b end. after (join o s a b end) single)
    unfolding compared after
    expression_two f h = expression_is deep bs ∙ rw (l, ← e, h, f)
