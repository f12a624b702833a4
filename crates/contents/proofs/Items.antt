-- Items of so many words each: where there are enough words they are the chunks of their front, and else there are none.
-- Assumes nothing.
use Rattle.std.proofs.Common.{◌≡◌, ℕ, zero, suc, ◌*◌, ◌<◌, ◌≤◌, List, [], ◌∷◌, length, take, drop, inl, inr, refl, ap, ◌∙◌, arith}
use Rattle.std.proofs.lemmas.Bool.{cases_lt}
use Rattle.std.proofs.lemmas.List.{drop-drop, length-drop}
use Rattle.std.specs.Simd.{first_chunks}
use Rattle.book.specs.Words.{Got, none, got, next, read_many}
use Rattle.contents.specs.Flat.{read_word}

-- one item
item_got : (n : ℕ) (ws : List ℕ) → n ≤ length ws → read_many read_word n ws ≡ got (take n ws) (drop n ws)
unfolding read_many next read_word
item_got zero ws h = refl
item_got (suc n) [] h = absurd (omega arith)
item_got (suc n) (w ∷ ws) h = ap (λ (g : Got (List ℕ)). next g (λ xs s. got (w ∷ xs) s)) (item_got n ws (omega arith))

item_none : (n : ℕ) (ws : List ℕ) → length ws < n → read_many read_word n ws ≡ none
unfolding read_many next read_word
item_none zero ws h = absurd (omega arith)
item_none (suc n) [] h = refl
item_none (suc n) (w ∷ ws) h = ap (λ (g : Got (List ℕ)). next g (λ xs s. got (w ∷ xs) s)) (item_none n ws (omega arith))

-- so many of them
pub many_got : (n k : ℕ) (ws : List ℕ) → k * n ≤ length ws → read_many (read_many read_word n) k ws ≡ got (first_chunks n k ws) (drop (k * n) ws)
unfolding read_many next
many_got n zero ws h = let z : 0 * n ≡ 0 = omega arith in rw z refl
many_got n (suc k) ws h =
    let e = item_got n ws (omega arith) in
    let i = many_got n k (drop n ws) (omega (arith, length-drop n ws)) in
    let d : drop (k * n) (drop n ws) ≡ drop (suc k * n) ws = drop-drop (k * n) n ws ∙ ap (λ (m : ℕ). drop m ws) (omega arith) in
    ap (λ (g : Got (List ℕ)). next g (λ x r. next (read_many (read_many read_word n) k r) (λ xs s. got (x ∷ xs) s))) e
    ∙ ap (λ (g : Got (List (List ℕ))). next g (λ xs s. got (take n ws ∷ xs) s)) i
    ∙ ap (got (take n ws ∷ first_chunks n k (drop n ws))) d

pub many_none : (n k : ℕ) (ws : List ℕ) → length ws < k * n → read_many (read_many read_word n) k ws ≡ none
unfolding read_many next
many_none n zero ws h = absurd (omega arith)
many_none n (suc k) ws h = elim (cases_lt (length ws) n) [
  | inl lt ↦ ap (λ (g : Got (List ℕ)). next g (λ x r. next (read_many (read_many read_word n) k r) (λ xs s. got (x ∷ xs) s))) (item_none n ws lt)
  | inr le ↦
      let i = many_none n k (drop n ws) (omega (arith, length-drop n ws)) in
      ap (λ (g : Got (List ℕ)). next g (λ x r. next (read_many (read_many read_word n) k r) (λ xs s. got (x ∷ xs) s))) (item_got n ws le)
      ∙ ap (λ (g : Got (List (List ℕ))). next g (λ xs s. got (take n ws ∷ xs) s)) i
]

-- fewer of the chunks
pub first_of : (n k m : ℕ) (ws : List ℕ) → k ≤ m → take k (first_chunks n m ws) ≡ first_chunks n k ws
first_of n zero m ws h = refl
first_of n (suc k) zero ws h = absurd (omega arith)
first_of n (suc k) (suc m) ws h = ap (λ (xs : List (List ℕ)). take n ws ∷ xs) (first_of n k m (drop n ws) (omega arith))
