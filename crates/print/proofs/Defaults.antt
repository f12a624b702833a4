-- Which expressions are what stands for a part that is left out. Assumes nothing.
use Rattle.std.proofs.Common.{◌≡◌, ℕ, false, refl}
use Rattle.plans.specs.declared.exprs.Expr.{Expr}
use Rattle.plans.specs.declared.exprs.Expr.TheVariants.{Num, Time, Key, Value, Plus', Minus', Times', Quotient', Rest', Less', Same', Not'}
use Rattle.plans.specs.Model.{expr_of}
use Rattle.grammar.specs.Printing.{is_number_one, is_just_key, is_value}

pub no_one : (e : Expr) → ((n : ℕ) → e ≡ Num n → ⊥) → is_number_one (expr_of e) ≡ false
unfolding is_number_one
no_one (Num n) h = absurd (h n refl)
no_one Time h = refl
no_one Key h = refl
no_one Value h = refl
no_one (Plus' p a q b) h = refl
no_one (Minus' p a q b) h = refl
no_one (Times' p a q b) h = refl
no_one (Quotient' p a q b) h = refl
no_one (Rest' p a q b) h = refl
no_one (Less' p a q b) h = refl
no_one (Same' p a q b) h = refl
no_one (Not' p a) h = refl

pub no_key : (e : Expr) → (e ≡ Key → ⊥) → is_just_key (expr_of e) ≡ false
unfolding is_just_key
no_key (Num n) h = refl
no_key Time h = refl
no_key Key h = absurd (h refl)
no_key Value h = refl
no_key (Plus' p a q b) h = refl
no_key (Minus' p a q b) h = refl
no_key (Times' p a q b) h = refl
no_key (Quotient' p a q b) h = refl
no_key (Rest' p a q b) h = refl
no_key (Less' p a q b) h = refl
no_key (Same' p a q b) h = refl
no_key (Not' p a) h = refl

pub no_value : (e : Expr) → (e ≡ Value → ⊥) → is_value (expr_of e) ≡ false
unfolding is_value
no_value (Num n) h = refl
no_value Time h = refl
no_value Key h = refl
no_value Value h = absurd (h refl)
no_value (Plus' p a q b) h = refl
no_value (Minus' p a q b) h = refl
no_value (Times' p a q b) h = refl
no_value (Quotient' p a q b) h = refl
no_value (Rest' p a q b) h = refl
no_value (Less' p a q b) h = refl
no_value (Same' p a q b) h = refl
no_value (Not' p a) h = refl
