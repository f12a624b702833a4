-- Items that are read of the words that they were written as.
-- Assumes nothing.
use Rattle.std.proofs.Common.{◌≡◌, ℕ, zero, suc, ◌-◌, ◌*◌, ◌/◌, ◌≤◌, List, [], ◌∷◌, ◌++◌, length, take, drop, refl, sym, ap, ap₂, ◌∙◌, append_assoc, length-append, arith}
use Rattle.std.proofs.lemmas.List.{take_at, drop_at, take_all, length-drop, length-take-le, map-append, take-map, drop-map}
use Rattle.std.proofs.Math.Nat.{div-mul-le_self, suc-mul, zero-mul}
use Rattle.std.proofs.slice.Relends.{length-first_chunks}
use Rattle.std.specs.Simd.{first_chunks}
use Rattle.words.specs.Items.{items_of, words_in, whole, words_of}

pub length-words_in : (n : ℕ) (item : List ℕ) → length (words_in n item) ≡ n
length-words_in zero item = refl
length-words_in (suc n) [] = ap (λ (k : ℕ). suc k) (length-words_in n [])
length-words_in (suc n) (w ∷ ws) = ap (λ (k : ℕ). suc k) (length-words_in n ws)

-- an item that has its words is them
pub words_all : (n : ℕ) (item : List ℕ) → length item ≡ n → words_in n item ≡ item
words_all zero [] e = refl
words_all zero (w ∷ ws) e = absurd (omega arith)
words_all (suc n) [] e = absurd (omega arith)
words_all (suc n) (w ∷ ws) e = ap (λ (xs : List ℕ). w ∷ xs) (words_all n ws (omega arith))

-- items are read back as they were written, whatever lies behind them
pub read_back : (n k : ℕ) (items : List (List ℕ)) (more : List ℕ) → k ≤ length items → first_chunks n k (words_of n items ++ more) ≡ whole n (take k items)
read_back n zero items more le = refl
read_back n (suc k) [] more le = absurd (omega arith)
read_back n (suc k) (x ∷ xs) more le =
    let parts : words_of n (x ∷ xs) ++ more ≡ words_in n x ++ (words_of n xs ++ more) = append_assoc (words_in n x) (words_of n xs) more in
    rw parts (ap₂ (λ (c : List ℕ) (cs : List (List ℕ)). c ∷ cs)
    (take_at (words_in n x) (words_of n xs ++ more) n (length-words_in n x))
    (ap (first_chunks n k) (drop_at (words_in n x) (words_of n xs ++ more) n (length-words_in n x)) ∙ read_back n k xs more (omega arith)))

pub length-items_of : (n : ℕ) (words : List ℕ) → length (items_of n words) ≡ length words / n
length-items_of n words = length-first_chunks n (length words / n) words

length-words_of : (n : ℕ) (items : List (List ℕ)) → length (words_of n items) ≡ length items * n
length-words_of n [] = sym (zero-mul n)
length-words_of n (x ∷ xs) = let step = suc-mul (length xs) n in omega (arith, length-append (words_in n x) (words_of n xs), length-words_in n x, length-words_of n xs)

-- what is lent of words as items, and the words behind them
abbrev pub LentAs : ℕ → (words : List ℕ) → (got : List (List ℕ)) → (rest : List ℕ) → Type 0
LentAs n words got rest = (got ≡ items_of n words) × (rest ≡ drop (length words / n * n) words)

-- words that were lent as items: how many words the items are, and all are as many as they were
written : {got : List (List ℕ)} (n : ℕ) (words : List ℕ) (items : List (List ℕ)) → got ≡ items_of n words → length items ≡ length got → length (words_of n items) ≡ length words / n * n
written n words items is same = length-words_of n items ∙ ap (λ (k : ℕ). k * n) (same ∙ ap length is ∙ length-items_of n words)

pub length_kept : {got : List (List ℕ)} {rest : List ℕ} (n : ℕ) (words : List ℕ) (items : List (List ℕ)) → LentAs n words got rest → length items ≡ length got
    → length (words_of n items ++ rest) ≡ length words
length_kept {got} {rest} n words items lent same =
    let behind : length rest ≡ length words - length words / n * n = ap length lent.1 ∙ length-drop (length words / n * n) words in
    omega (arith, length-append (words_of n items) rest, written n words items lent.0 same, div-mul-le_self (length words) n)

-- as items they are what these ended as, and the words behind them stay
pub items_kept : {got : List (List ℕ)} {rest : List ℕ} (n : ℕ) (words : List ℕ) (items : List (List ℕ)) → LentAs n words got rest → length items ≡ length got
    → items_of n (words_of n items ++ rest) ≡ whole n items
items_kept {got} {rest} n words items lent same =
    let many : length items ≡ length words / n = same ∙ ap length lent.0 ∙ length-items_of n words in
    let k : length (words_of n items ++ rest) / n ≡ length items = ap (λ (j : ℕ). j / n) (length_kept n words items lent same) ∙ sym many in
    rw k (read_back n (length items) items rest (omega arith) ∙ ap (whole n) (take_all (length items) items (omega arith)))

pub rest_kept : {got : List (List ℕ)} {rest : List ℕ} (n : ℕ) (words : List ℕ) (items : List (List ℕ)) → LentAs n words got rest → length items ≡ length got
    → drop (length words / n * n) (words_of n items ++ rest) ≡ drop (length words / n * n) words
rest_kept {got} {rest} n words items lent same = drop_at (words_of n items) rest (length words / n * n) (written n words items lent.0 same) ∙ lent.1

-- items that are read of words have all theirs, and so have some of them
chunks_whole : (n k : ℕ) (words : List ℕ) → k * n ≤ length words → whole n (first_chunks n k words) ≡ first_chunks n k words
chunks_whole n zero words le = refl
chunks_whole n (suc k) words le =
    let step = suc-mul k n in
    ap₂ (λ (c : List ℕ) (cs : List (List ℕ)). c ∷ cs) (words_all n (take n words) (length-take-le n words (omega arith))) (chunks_whole n k (drop n words) (omega (arith, length-drop n words)))

pub items_whole : (n : ℕ) (words : List ℕ) → whole n (items_of n words) ≡ items_of n words
items_whole n words = chunks_whole n (length words / n) words (div-mul-le_self (length words) n)

pub parts_whole : (n : ℕ) (words : List ℕ) (i j k : ℕ) → whole n (take i (take k (items_of n words)) ++ drop j (take k (items_of n words))) ≡ take i (take k (items_of n words)) ++ drop j (take k (items_of n words))
parts_whole n words i j k = simp (map-append, ← take-map, ← drop-map) (ap (λ (xs : List (List ℕ)). take i (take k xs) ++ drop j (take k xs)) (items_whole n words))
