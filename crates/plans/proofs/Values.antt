-- What an aggregate makes of values, by its case. Assumes nothing.
use Rattle.std.proofs.Common.{◌≡◌, ℕ, ◌+◌, ◌%◌, ◌⊎◌, refl, inl, inr, arith}
use Rattle.std.proofs.lemmas.Bool.Decides.{nat_tests}
use Rattle.std.specs.Ordering.{ord_min, ord_max}
use Rattle.streams.specs.Meaning as spec
use Rattle.streams.specs.Laws.{together}
use Rattle.plans.specs.declared.numbers.Value.{Value}
use Rattle.plans.specs.declared.stages.Aggregate.{Aggregate}
use Rattle.plans.specs.declared.stages.Aggregate.TheVariants.{Count, Total, Least, Greatest}
use Rattle.plans.specs.Model.{as_sum}
use Rattle.plans.specs.contracts.numbers.ValueOrd.TheImpl as order

module _ {h : Aggregate} where
  pub first_count : (v : ℕ) → h ≡ Count → 1 ≡ spec.first (as_sum h) v
  unfolding spec.first
  first_count v is = rw is

  pub first_value : (v : ℕ) → (h ≡ Total) ⊎ ((h ≡ Least) ⊎ (h ≡ Greatest)) → v ≡ spec.first (as_sum h) v
  unfolding spec.first
  first_value v (inl is) = rw is
  first_value v (inr (inl is)) = rw is
  first_value v (inr (inr is)) = rw is

  pub together_sum : (a b : ℕ) → (h ≡ Count) ⊎ (h ≡ Total) → (a + b) % spec.top ≡ together (as_sum h) a b
  unfolding together
  together_sum a b (inl is) = rw is
  together_sum a b (inr is) = rw is

  pub together_least : (a b r : Value) → h ≡ Least → r ≡ ord_min order.cmp-value.it a b → r.0 ≡ together (as_sum h) a.0 b.0
  unfolding together
  together_least a b r is e = rw (is, e) (grind (arith, nat_tests))

  pub together_greatest : (a b r : Value) → h ≡ Greatest → r ≡ ord_max order.cmp-value.it a b → r.0 ≡ together (as_sum h) a.0 b.0
  unfolding together
  together_greatest a b r is e = rw (is, e) (grind (arith, nat_tests))

-- one value more is its own first value, put together with the others
pub joined_is : (h : Aggregate) (a v : ℕ) → together (as_sum h) a (spec.first (as_sum h) v) ≡ spec.joined (as_sum h) a v
unfolding spec.joined spec.first together
joined_is Count a v = refl
joined_is Total a v = refl
joined_is Least a v = refl
joined_is Greatest a v = refl
