-- The front of memory after items were moved up and others written before them, and after items were moved down.
-- Assumes nothing.
use Rattle.std.proofs.Common.{◌≡◌, ℕ, ◌+◌, ◌-◌, ◌≤◌, List, ◌++◌, length, take, drop, sym, ap, ◌∙◌, append_assoc, arith, length-append}
use Rattle.std.proofs.lemmas.List.{take_at, drop_at, take-take, take-append-le, drop-take, drop-drop, length-take-le, length-drop}
use Rattle.std.specs.List.{copy_within}
use borrow.Rule.Slice.PartMut.{put_mid}

-- three parts, and what lies behind them
front : {X : Type 0} (n : ℕ) (a f m r : List X) → length a + (length f + length m) ≡ n → take n (a ++ (f ++ (m ++ r))) ≡ a ++ (f ++ m)
front n a f m r e = rw (← append_assoc f m r, ← append_assoc a (f ++ m) r) (take_at (a ++ (f ++ m)) r n (omega (arith, length-append a (f ++ m), length-append f m)))

-- those of n items from i on
middle : {X : Type 0} (xs : List X) (i n : ℕ) → i ≤ n → take (n - i) (drop i xs) ≡ drop i (take n xs)
middle xs i n le = let e : i + (n - i) ≡ n = omega arith in sym (drop-take i (n - i) xs) ∙ ap (λ (k : ℕ). drop i (take k xs)) e

pub inserted : {X : Type 0} (xs ys : List X) (i n : ℕ) → i ≤ n → n + length ys ≤ length xs
    → take (n + length ys) (put_mid i (i + length ys - i) (copy_within xs i n (i + length ys)) ys) ≡ take i (take n xs) ++ (ys ++ drop i (take n xs))
inserted {X} xs ys i n le fits =
    let k = i + length ys in
    let m = take (n - i) (drop i xs) in
    let r = drop (k + (n - i)) xs in
    let p = take k xs ++ m ++ r in
    let parts : p ≡ take k xs ++ (m ++ r) = append_assoc (take k xs) m r in
    let full : length (take k xs) ≡ k = length-take-le k xs (omega arith) in
    let low : take i p ≡ take i xs = ap (take i) parts ∙ take-append-le i (take k xs) (m ++ r) (omega arith) ∙ take-take i k xs (omega arith) in
    let k_is : i + (k - i) ≡ k = omega arith in
    let high : drop (k - i) (drop i p) ≡ m ++ r = drop-drop (k - i) i p ∙ ap (λ (j : ℕ). drop j p) k_is ∙ ap (drop k) parts ∙ drop_at (take k xs) (m ++ r) k full in
    let mid : m ≡ drop i (take n xs) = middle xs i n le in
    let long : length (take i xs) + (length ys + length m) ≡ n + length ys = omega (arith, length-take-le i xs (omega arith), length-take-le (n - i) (drop i xs) (omega (arith, length-drop i xs))) in
    let start : take i (take n xs) ≡ take i xs = take-take i n xs le in
    ap (λ (l : List X). take (n + length ys) (l ++ (ys ++ drop (k - i) (drop i p)))) low
    ∙ ap (λ (l : List X). take (n + length ys) (take i xs ++ (ys ++ l))) high
    ∙ front (n + length ys) (take i xs) ys m r long
    ∙ ap (λ (l : List X). take i xs ++ (ys ++ l)) mid
    ∙ ap (λ (l : List X). l ++ (ys ++ drop i (take n xs))) (sym start)

pub removed : {X : Type 0} (xs : List X) (i j n : ℕ) → i ≤ j → j ≤ n → n ≤ length xs
    → take (n - (j - i)) (copy_within xs j n i) ≡ take i (take n xs) ++ drop j (take n xs)
removed {X} xs i j n le fits all =
    let m = take (n - j) (drop j xs) in
    let long : length (take i xs ++ m) ≡ n - (j - i) = omega (arith, length-append (take i xs) m, length-take-le i xs (omega arith), length-take-le (n - j) (drop j xs) (omega (arith, length-drop j xs))) in
    take_at (take i xs ++ m) (drop (i + (n - j)) xs) (n - (j - i)) long
    ∙ ap (λ (l : List X). take i xs ++ l) (middle xs j n fits)
    ∙ ap (λ (l : List X). l ++ drop j (take n xs)) (sym (take-take i n xs (omega arith)))
