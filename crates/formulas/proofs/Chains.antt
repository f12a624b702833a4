-- Steps of the readers of expressions, from what each call answered. Assumes nothing.
use Rattle.std.proofs.Common.{◌≡◌, ℕ, ◌+◌, ◌-◌, ◌<◌, ◌≤◌, ◌≢◌, Bool, true, false, cond, leb, List, Some, None, sym, refl, ap, ◌∙◌, arith}
use Rattle.streams.specs.Meaning as spec
use Rattle.streams.specs.Calls.{parts}
use Rattle.grammar.specs.declared.operators.Operator.{Operator}
use Rattle.grammar.specs.declared.operators.Level.{Level}
use Rattle.grammar.specs.declared.refusals.Why.TheVariants.{Parts, Deep}
use Rattle.grammar.specs.declared.operators.Level.TheVariants as level
use Rattle.grammar.proofs.Readers.{joined_parts, more_turn, factor_many, factor_not, factor_bracket, factor_leaf, bracket_deep, bracket_in, more_none, chained_bad, expression_bad, expression_one, expression_two}
use Rattle.grammar.specs.Reading.{got, bad, Reader, after, skip, next, operator, comparison, single, join, joined, negate, more, chained, operand, factor, leaf, bracket, expression, closed}
use Rattle.grammar.specs.Reading.{is as is_here}
use Rattle.tokens.specs.declared.faults.Fault.{Fault}
use Rattle.tokens.specs.declared.faults.Fault.TheVariants.{Memory, Refused}
use Rattle.tokens.specs.declared.faults.Unexpected.{Unexpected}
use Rattle.tokens.specs.Says.{Stops}

-- ---- the parts of what was joined
module _ (o : Operator) (place : List ℕ) (a b : spec.Expr) where
  pub join_parts : {c : spec.Expr} (rest end : List ℕ) → join o place a b rest ≡ got c end → parts c ≡ 1 + (parts a + parts b)
  unfolding join
  join_parts {c} rest end e = go (leb (1 + (parts a + parts b)) 64) e
    where
      go : (t : Bool) → cond t (got (joined o a b) rest) (bad Parts place) ≡ got c end → parts c ≡ 1 + (parts a + parts b)
      go true h = let s : joined o a b ≡ c = cc in ap parts (sym s) ∙ joined_parts o a b
      go false h = absurd cc

-- ---- a chain in which `a` was read so far, up to `rest`: as many turns are left as parts may come
pub record Going (l : Level) (inner : Reader spec.Expr) (bs : List ℕ) (a : spec.Expr) (rest : List ℕ) : Type 0 where
  pub turns : ℕ
  pub enough : 64 < turns + parts a
  pub is : chained l inner bs ≡ more l (operand l inner) turns a rest

pub chain_ends : (l : Level) (inner : Reader spec.Expr) (bs : List ℕ) (a : spec.Expr) (rest sign : List ℕ) (going : Going l inner bs a rest) → parts a ≤ 64 → sign ≡ skip rest → operator l sign ≡ None → chained l inner bs ≡ got a rest
chain_ends l inner bs a rest sign going few skipped none = going.is ∙ more_none l (operand l inner) going.turns a rest sign skipped (omega (arith, going.enough)) none

-- one more turn: there is an operator at `sign`
module _ (l : Level) (inner : Reader spec.Expr) (bs : List ℕ) (a : spec.Expr) (rest sign behind : List ℕ) (o : Operator) (going : Going l inner bs a rest) (few : parts a ≤ 64) (skipped : sign ≡ skip rest) (found : operator l sign ≡ Some o) (stripped : behind ≡ next sign) where
  pub turn : chained l inner bs ≡ after (operand l inner behind) (λ b end. after (join o sign a b end) (λ c last. more l (operand l inner) (going.turns - 1) c last))
  turn =
      let left_over : going.turns ≢ 0 = omega (arith, going.enough) in
      going.is
      ∙ more_turn l (operand l inner) going.turns a rest sign skipped o left_over found
      ∙ ap (λ n. after (operand l inner n) (λ b end. after (join o sign a b end) (λ c last. more l (operand l inner) (going.turns - 1) c last))) (sym stripped)

-- ---- factors: `s` is what follows the white space, `n` what follows its first byte
-- behind a `!`
pub factor_fewer : (inner : Reader spec.Expr) (nots fewer : ℕ) (bs s n : List ℕ) → s ≡ skip bs → next s ≡ n → nots ≡ fewer + 1 → is_here 33 s ≡ true → factor inner nots bs ≡ after (factor inner fewer n) (λ a rest. negate s a rest)
factor_fewer inner nots fewer bs s n e f h k =
    let less : nots - 1 ≡ fewer = omega arith in
    factor_not inner nots bs s n e f (omega arith) k ∙ ap (λ m. after (factor inner m n) (λ a rest. negate s a rest)) less

-- behind an opening bracket
pub factor_inside : (nots deep deeper : ℕ) (bs s n : List ℕ) → s ≡ skip bs → next s ≡ n → deep ≡ deeper + 1 → is_here 33 s ≡ false → is_here 40 s ≡ true → factor (bracket deep) nots bs ≡ after (expression deeper n) closed
factor_inside nots deep deeper bs s n e f h k m =
    let less : deep - 1 ≡ deeper = omega arith in
    factor_bracket (bracket deep) nots bs s n e f k m ∙ bracket_in deep s n f (omega arith) ∙ ap (λ d. after (expression d n) closed) less

module _ (nots : ℕ) (bs s : List ℕ) (e : s ≡ skip bs) where
  pub factor_ends : (inner : Reader spec.Expr) → nots ≡ 0 → is_here 33 s ≡ true → factor inner nots bs ≡ bad Parts s
  factor_ends inner z h = factor_many inner nots bs s _ e refl z h

  pub factor_deep : (deep : ℕ) → deep ≡ 0 → is_here 33 s ≡ false → is_here 40 s ≡ true → factor (bracket deep) nots bs ≡ bad Deep s
  factor_deep deep z h k = factor_bracket (bracket deep) nots bs s _ e refl h k ∙ bracket_deep deep s z

  pub factor_plain : (inner : Reader spec.Expr) → is_here 33 s ≡ false → is_here 40 s ≡ false → factor inner nots bs ≡ leaf s
  factor_plain inner h k = factor_leaf inner nots bs s _ e refl h k

-- ---- what is handed on
pub chain_stop : (l : Level) (inner : Reader spec.Expr) (bs : List ℕ) (e : Fault Unexpected) → Stops (operand l inner bs) e → Stops (chained l inner bs) e
chain_stop l inner bs Memory s = tt
chain_stop l inner bs (Refused u) s = chained_bad l inner bs s

pub expression_stop : (deep : ℕ) (bs : List ℕ) (e : Fault Unexpected) → Stops (chained level.Sum (bracket deep) bs) e → Stops (expression deep bs) e
expression_stop deep bs Memory s = tt
expression_stop deep bs (Refused u) s = expression_bad deep bs s

-- an expression, once its first chain was read
module _ (deep : ℕ) (bs : List ℕ) {a : spec.Expr} {rest : List ℕ} (s : List ℕ) (l : chained level.Sum (bracket deep) bs ≡ got a rest) (e : s ≡ skip rest) where
  pub alone : comparison s ≡ None → expression deep bs ≡ got a rest
  alone h = expression_one deep bs s (next s) l e h

  pub compares : {o : Operator} (n : List ℕ) → n ≡ next s → comparison s ≡ Some o → expression deep bs ≡ after (chained level.Sum (bracket deep) n) (λ b end. after (join o s a b end) single)
  compares n f h = expression_two deep bs s n l e (sym f) h

-- what expressions and factors come to
pub ruleset expressions = (expression_stop, alone, compares)

pub ruleset factors = (factor_fewer, factor_inside, factor_ends, factor_deep, factor_plain)
