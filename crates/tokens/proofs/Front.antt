-- What the readings say of the first byte of a text. Assumes nothing.
use Rattle.std.proofs.Common.{◌≡◌, ◌&&◌, ℕ, ◌+◌, ◌-◌, ◌*◌, ◌<◌, ◌≤◌, true, false, leb, List, [], ◌∷◌, length, get_or, drop, refl, sym, ap, ◌∙◌, arith}
use Rattle.std.proofs.lemmas.Bool.{lt-ltb, le-ltb, le-leb}
use Rattle.std.proofs.lemmas.Bool.Decides.{nat_tests}
use Rattle.std.specs.Ordering.{is_le, nat_cmp}
use Rattle.std.specs.Char.{is_ascii_digit}
use Rattle.streams.specs.Meaning.{top}
use Rattle.grammar.specs.declared.refusals.Why.TheVariants.{Large, Joined}
use Rattle.grammar.specs.Reading.{bad, is, letter, skip, blank, starts_digit, starts_letter, digits}

-- where there is no first byte
module _ (bs : List ℕ) (none : length bs < 1) where
  is_nil : bs ≡ []
  is_nil = elim bs as (λ bs. length bs < 1 → bs ≡ []) [ [] ↦ λ h. refl | x ∷ xs ↦ λ h. absurd (omega arith) ] none

  pub no_digit : starts_digit bs ≡ false
  unfolding starts_digit
  no_digit = ap starts_digit is_nil

  pub no_sign : (c : ℕ) → is c bs ≡ false
  unfolding is
  no_sign c = ap (is c) is_nil

  pub no_letter : starts_letter bs ≡ false
  unfolding starts_letter
  no_letter = ap starts_letter is_nil

  pub skip_none : bs ≡ skip bs
  unfolding skip
  skip_none = is_nil ∙ sym (ap skip is_nil)

-- where there is one
module _ (bs : List ℕ) (some : 1 ≤ length bs) where
  is_cons : bs ≡ get_or bs 0 0 ∷ drop 1 bs
  is_cons = elim bs as (λ bs. 1 ≤ length bs → bs ≡ get_or bs 0 0 ∷ drop 1 bs) [ [] ↦ λ h. absurd (omega arith) | x ∷ xs ↦ λ h. refl ] some

  pub digit_first : starts_digit bs ≡ is_ascii_digit (get_or bs 0 0)
  unfolding starts_digit
  digit_first = ap starts_digit is_cons

  pub letter_first : starts_letter bs ≡ letter (get_or bs 0 0)
  unfolding starts_letter
  letter_first = ap starts_letter is_cons

  pub skip_goes : blank (get_or bs 0 0) ≡ true → skip bs ≡ skip (drop 1 bs)
  unfolding skip
  skip_goes h = ap skip is_cons ∙ rw h

  pub skip_stops : blank (get_or bs 0 0) ≡ false → bs ≡ skip bs
  unfolding skip
  skip_stops h = is_cons ∙ sym (ap skip is_cons ∙ rw h)

  module _ (start : List ℕ) (n : ℕ) (low : 48 ≤ get_or bs 0 0) (high : get_or bs 0 0 ≤ 57) where
    digit : is_ascii_digit (get_or bs 0 0) ≡ true
    digit = rw (le-leb 48 (get_or bs 0 0) low, le-leb (get_or bs 0 0) 57 high)

    pub digits_goes : n * 10 + (get_or bs 0 0 - 48) < top → digits start n bs ≡ digits start (n * 10 + (get_or bs 0 0 - 48)) (drop 1 bs)
    unfolding digits
    digits_goes h = ap (digits start n) is_cons ∙ rw (digit, lt-ltb _ _ h)

    pub digits_large : top ≤ n * 10 + (get_or bs 0 0 - 48) → digits start n bs ≡ bad Large start
    unfolding digits
    digits_large h = ap (digits start n) is_cons ∙ rw (digit, le-ltb _ _ h)

-- behind the last digit
pub digits_joined : (start : List ℕ) (n : ℕ) (bs : List ℕ) → starts_digit bs ≡ false → starts_letter bs ≡ true → digits start n bs ≡ bad Joined bs
unfolding digits starts_digit starts_letter
digits_joined start n [] d l = let z : ◌≡◌ {A = ℕ} 0 1 = cc in absurd (omega arith)
digits_joined start n (c ∷ cs) d l = rw (d, l)

-- the test of a range, by numbers
cmp_le : (a b : ℕ) → is_le (nat_cmp a b) ≡ leb a b
cmp_le a b = grind (arith, nat_tests)

pub in_range : (low n high : ℕ) → is_le (nat_cmp low n) && is_le (nat_cmp n high) ≡ leb low n && leb n high
in_range low n high = rw (cmp_le low n, cmp_le n high)

-- what is known of the front of a text
pub ruleset fronts = (nat_tests, no_digit, no_letter, digit_first, letter_first, skip_none, skip_goes, skip_stops, digits_large)
