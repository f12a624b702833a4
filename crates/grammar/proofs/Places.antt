-- A number that is read to its end, and one within its limits. Assumes nothing.
use Rattle.std.proofs.Common.{◌≡◌, ℕ, ◌≤◌, true, false, List, [], ◌∷◌, refl}
use Rattle.std.proofs.lemmas.Bool.{le-leb}
use Rattle.grammar.specs.declared.refusals.Why.{Why}
use Rattle.grammar.specs.Reading.{got, skip, starts_digit, starts_letter, after, digits, number, limited}

pub digits_done : (start : List ℕ) (n : ℕ) (ys : List ℕ) → starts_digit ys ≡ false → starts_letter ys ≡ false → digits start n ys ≡ got n ys
unfolding digits starts_digit starts_letter
digits_done start n [] d l = refl
digits_done start n (c ∷ cs) d l = rw (d, l)

module _ (why : Why) (low : ℕ) (bs s : List ℕ) (e : s ≡ skip bs) where
  pub limited_in : {n : ℕ} {r : List ℕ} → starts_digit s ≡ true → digits s 0 s ≡ got n r → low ≤ n → n ≤ 1099511627776 → limited why low bs ≡ got n r
  unfolding limited number after
  limited_in {n} d is l h = rw (← e, d, is, le-leb low n l, le-leb n 1099511627776 h)
