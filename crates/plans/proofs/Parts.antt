-- How many parts an expression leaves over of a number, from what its own parts leave.
-- Assumes nothing.
use Rattle.std.proofs.Common.{◌≡◌, ℕ, ◌+◌, ◌-◌, ◌<◌, ◌≤◌, true, ◌&&◌, ◌⊎◌, Some, None, Option, Box, refl, ◌∙◌, inl, inr, arith}
use Rattle.std.proofs.lemmas.Bool.Decides.{nat_tests}
use Rattle.std.specs.declared.alloc.Global.{Global}
use Rattle.streams.specs.Meaning as spec
use Rattle.streams.specs.Calls.{parts, expr_ok}
use Rattle.plans.specs.declared.exprs.Expr.{Expr, Plus, Minus, Times, Quotient, Rest, Less, Same, Not}
use Rattle.plans.specs.declared.exprs.Expr.TheVariants.{Num, Time, Key, Value}
use Rattle.plans.specs.Model.{expr_of}
use Rattle.plans.specs.Limits.{Spare}

-- one part
pub spare_num : (e : Expr) (n : ℕ) → e ≡ Num n → n < spec.top → {most left : ℕ} → (1 ≤ most) × (left ≡ most - 1) → Spare (expr_of e) most (Some left)
unfolding parts expr_ok
spare_num e n is h {most} {left} l = rw is (omega arith, grind (arith, nat_tests))

pub spare_field : (e : Expr) → (e ≡ Time) ⊎ ((e ≡ Key) ⊎ (e ≡ Value)) → {most left : ℕ} → (1 ≤ most) × (left ≡ most - 1) → Spare (expr_of e) most (Some left)
unfolding parts expr_ok
spare_field e (inl is) l = rw is (omega arith, refl)
spare_field e (inr (inl is)) l = rw is (omega arith, refl)
spare_field e (inr (inr is)) l = rw is (omega arith, refl)

-- none at all
positive : (e : spec.Expr) → 0 < parts e
unfolding parts
positive (spec.Num n) = omega arith
positive spec.Time = omega arith
positive spec.Key = omega arith
positive spec.Value = omega arith
positive (spec.Plus a b) = omega arith
positive (spec.Minus a b) = omega arith
positive (spec.Times a b) = omega arith
positive (spec.Quotient a b) = omega arith
positive (spec.Rest a b) = omega arith
positive (spec.Less a b) = omega arith
positive (spec.Same a b) = omega arith
positive (spec.Not a) = omega arith

pub spare_none : (e : spec.Expr) {most : ℕ} → (1 ≤ most → ⊥) → Spare e most None
spare_none e h = omega (arith, positive e)

-- one operand
pub spare_not : (e : Expr) (a : Box Expr Global) → e ≡ Not a → {most left : ℕ} → (1 ≤ most) × (left ≡ most - 1) → (r : Option ℕ) → Spare (expr_of a.value) left r → Spare (expr_of e) most r
unfolding parts expr_ok
spare_not e a is l None s = rw is (omega arith)
spare_not e a is l (Some k) s = rw is (omega arith, s.1)

-- two operands, whatever the operator
abbrev Two : spec.Expr → spec.Expr → spec.Expr → Type 0
Two e a b = (parts e ≡ 1 + (parts a + parts b)) × (expr_ok e ≡ expr_ok a && expr_ok b)

abbrev pub Pair : Expr → Box Expr Global → Box Expr Global → Type 0
Pair e a b = (e ≡ Plus a b) ⊎ ((e ≡ Minus a b) ⊎ ((e ≡ Times a b) ⊎ ((e ≡ Quotient a b) ⊎ ((e ≡ Rest a b) ⊎ ((e ≡ Less a b) ⊎ (e ≡ Same a b))))))

two : (e : Expr) (a b : Box Expr Global) → Pair e a b → Two (expr_of e) (expr_of a.value) (expr_of b.value)
unfolding parts expr_ok
two e a b (inl is) = rw is (refl, refl)
two e a b (inr (inl is)) = rw is (refl, refl)
two e a b (inr (inr (inl is))) = rw is (refl, refl)
two e a b (inr (inr (inr (inl is)))) = rw is (refl, refl)
two e a b (inr (inr (inr (inr (inl is))))) = rw is (refl, refl)
two e a b (inr (inr (inr (inr (inr (inl is)))))) = rw is (refl, refl)
two e a b (inr (inr (inr (inr (inr (inr is)))))) = rw is (refl, refl)

module _ (e : Expr) (a b : Box Expr Global) (is : Pair e a b) {most left : ℕ} (l : (1 ≤ most) × (left ≡ most - 1)) where
  pub spare_left : left < parts (expr_of a.value) → Spare (expr_of e) most None
  spare_left h = omega (arith, (two e a b is).0)

  pub spare_both : (mid : ℕ) → (mid + parts (expr_of a.value) ≡ left) × (expr_ok (expr_of a.value) ≡ true) → (r : Option ℕ) → Spare (expr_of b.value) mid r → Spare (expr_of e) most r
  spare_both mid m None s = omega (arith, (two e a b is).0)
  spare_both mid m (Some k) s = (omega (arith, (two e a b is).0), (two e a b is).1 ∙ rw (m.1, s.1))
