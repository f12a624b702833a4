-- Numbers and their bytes, high byte first. Assumes nothing.
use Rattle.std.proofs.Common.{◌≡◌, ℕ, ◌+◌, ◌-◌, ◌*◌, ◌/◌, ◌%◌, ◌<◌, ◌≤◌, List, [], ◌∷◌, ◌++◌, length, get_or, take, drop, sym, ap, arith, take_all}
use Rattle.octets.specs.Form.{two, eight}

-- what two lists are equal by, element by element
pub same2 : {a b a' b' : ℕ} {l l' : List ℕ} → a ≡ a' → b ≡ b' → l ≡ l' → a ∷ b ∷ l ≡ a' ∷ b' ∷ l'
same2 p q r = cc

pub eight_of : (xs : List ℕ) (n : ℕ) → ((i : ℕ) → get_or xs i 0 < 256) → 8 ≤ length xs →
    n ≡ get_or xs 0 0 * 72057594037927936 + get_or xs 1 0 * 281474976710656 + get_or xs 2 0 * 1099511627776 + get_or xs 3 0 * 4294967296 + get_or xs 4 0 * 16777216 + get_or xs 5 0 * 65536 + get_or xs 6 0 * 256 + get_or xs 7 0 →
    xs ≡ eight n ++ take (length xs - 8) (drop 8 xs)
eight_of [] n f h e = absurd (omega arith)
eight_of (a ∷ []) n f h e = absurd (omega arith)
eight_of (a ∷ b ∷ []) n f h e = absurd (omega arith)
eight_of (a ∷ b ∷ c ∷ []) n f h e = absurd (omega arith)
eight_of (a ∷ b ∷ c ∷ d ∷ []) n f h e = absurd (omega arith)
eight_of (a ∷ b ∷ c ∷ d ∷ x ∷ []) n f h e = absurd (omega arith)
eight_of (a ∷ b ∷ c ∷ d ∷ x ∷ y ∷ []) n f h e = absurd (omega arith)
eight_of (a ∷ b ∷ c ∷ d ∷ x ∷ y ∷ z ∷ []) n f h e = absurd (omega arith)
eight_of (a ∷ b ∷ c ∷ d ∷ x ∷ y ∷ z ∷ w ∷ l) n f h e =
    let f0 : a < 256 = f 0 in
    let f1 : b < 256 = f 1 in
    let f2 : c < 256 = f 2 in
    let f3 : d < 256 = f 3 in
    let f4 : x < 256 = f 4 in
    let f5 : y < 256 = f 5 in
    let f6 : z < 256 = f 6 in
    let f7 : w < 256 = f 7 in
    same2 (omega arith) (omega arith) (same2 (omega arith) (omega arith) (same2 (omega arith) (omega arith) (same2 (omega arith) (omega arith) (sym (take_all _ l (omega arith))))))

pub two_value : (n : ℕ) → n < 65536 → n ≡ n / 256 % 256 * 256 + n % 256
two_value n h = omega arith

pub eight_value : (n : ℕ) → n < 18446744073709551616 →
    n ≡ n / 72057594037927936 % 256 * 72057594037927936 + n / 281474976710656 % 256 * 281474976710656 + n / 1099511627776 % 256 * 1099511627776 + n / 4294967296 % 256 * 4294967296 + n / 16777216 % 256 * 16777216 + n / 65536 % 256 * 65536 + n / 256 % 256 * 256 + n % 256
eight_value n h = omega arith

pub four_value : (n : ℕ) → n < 4294967296 → n ≡ n / 16777216 % 256 * 16777216 + n / 65536 % 256 * 65536 + n / 256 % 256 * 256 + n % 256
four_value n h = omega (arith, eight_value n (omega arith))

pub two_same : (m n : ℕ) (xs ys : List ℕ) → m < 65536 → n < 65536 → two m ++ xs ≡ two n ++ ys → (m ≡ n) × (xs ≡ ys)
two_same m n xs ys hm hn e = (omega (arith, two_value m hm, two_value n hn, ap (λ l. get_or l 0 0) e, ap (λ l. get_or l 1 0) e), ap (drop 2) e)
