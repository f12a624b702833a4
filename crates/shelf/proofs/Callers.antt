-- Who made the call with a number: known from the moment it is made, and for ever, since numbers are used once.
use Rattle.std.proofs.Common.{◌≡◌, ℕ, true, false, cond, ◌||◌, eqb, List, [], ◌∷◌, refl, arith}
use Rattle.std.proofs.lemmas.Bool.{eqb-true, eq-eqb, cond-true, cond_both, or_left, or_right}
use Rattle.streams.specs.Hands.{Seen, called, told, is_used}

-- who made a call
pub data Who (O : Type 0) : Type 0 where
  nobody : Who O
  by : (hand : ℕ) → O → Who O

unfoldable pub caller : {O R : Type 0} → ℕ → List (Seen O R) → Who O
caller k [] = nobody
caller k (called i n o ∷ es) = cond (eqb k n) (by i o) (caller k es)
caller k (told i n r ∷ es) = caller k es

pub caller_used : {O R : Type 0} (k i : ℕ) (o : O) (es : List (Seen O R)) → caller k es ≡ by i o → is_used k es ≡ true
unfolding caller is_used
caller_used {O} k i o [] e = absurd (let z : ◌≡◌ {A = ℕ} 0 1 = cc in omega arith)
caller_used {O} {R} k i o (called j n p ∷ es) e =
    cond_both (eqb k n) (by j p) (caller k es) (λ z. z ≡ by i o → (eqb k n || is_used k es) ≡ true) (λ t _. or_left (eqb k n) (is_used k es) t) (λ _ h. or_right (eqb k n) (is_used k es) (caller_used k i o es h)) e
caller_used k i o (told j n r ∷ es) e = caller_used k i o es e

pub caller_stays : {O R : Type 0} (k i j n : ℕ) (o p : O) (es : List (Seen O R)) → is_used n es ≡ false → caller k es ≡ by i o → caller k (called j n p ∷ es) ≡ by i o
unfolding caller
caller_stays k i j n o p es new e = cond_both (eqb k n) (by j p) (caller k es) (λ z. z ≡ by i o)
    (λ t. absurd (let same : k ≡ n = eqb-true k n t in let used : is_used k es ≡ true = caller_used k i o es e in let z : ◌≡◌ {A = ℕ} 0 1 = cc in omega arith)) (λ _. e)

pub caller_new : {O R : Type 0} (i n : ℕ) (p : O) (es : List (Seen O R)) → caller n (called i n p ∷ es) ≡ by i p
unfolding caller
caller_new i n p es = cond-true (eqb n n) (by i p) (caller n es) (eq-eqb n n refl)
