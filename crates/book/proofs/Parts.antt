-- Parts of what came out, page by page.
use Rattle.std.proofs.Common.{◌≡◌, ℕ, zero, suc, ◌+◌, ◌-◌, ◌*◌, ◌/◌, ◌%◌, ◌<◌, ◌≤◌, ◌⊎◌, List, [], ◌∷◌, ◌++◌, length, sym, refl, ap, ◌∙◌, inl, inr, append_assoc, append-nil, mod-lt, suc-mul, div-add-mod', arith, length-append}
use Rattle.streams.specs.Meaning.{Event}
use Rattle.streams.specs.Calls.{drop_of, first_of}
use Rattle.book.specs.Book.{outs_of}

pub drop_past : (xs ys : List Event) (n : ℕ) → drop_of (length xs + n) (xs ++ ys) ≡ drop_of n ys
unfolding drop_of
drop_past [] ys n = ap (λ (k : ℕ). drop_of k ys) (omega arith)
drop_past (x ∷ xs) ys n = let e : suc (length xs) + n ≡ suc (length xs + n) = omega arith in ap (λ (k : ℕ). drop_of k (x ∷ (xs ++ ys))) e ∙ drop_past xs ys n

pub drop_append : (n : ℕ) (xs ys : List Event) → drop_of n (xs ++ ys) ≡ drop_of n xs ++ drop_of (n - length xs) ys
unfolding drop_of
drop_append zero xs ys = let e : 0 ≡ 0 - length xs = omega arith in ap (λ (k : ℕ). xs ++ drop_of k ys) e
drop_append (suc n) [] ys = let e : suc n ≡ suc n - 0 = omega arith in ap (λ (k : ℕ). drop_of k ys) e
drop_append (suc n) (x ∷ xs) ys = drop_append n xs ys ∙ ap (λ (k : ℕ). drop_of n xs ++ drop_of k ys) (omega arith)

pub length_drop_of : (n : ℕ) (xs : List Event) → length (drop_of n xs) ≡ length xs - n
unfolding drop_of
length_drop_of zero xs = omega arith
length_drop_of (suc n) [] = omega arith
length_drop_of (suc n) (x ∷ xs) = length_drop_of n xs ∙ omega arith

drop_zero : (xs : List Event) → drop_of 0 xs ≡ xs
unfolding drop_of
drop_zero xs = refl

pub first_append : (n : ℕ) (xs ys : List Event) → n ≤ length xs → first_of n (xs ++ ys) ≡ first_of n xs
unfolding first_of
first_append zero xs ys h = refl
first_append (suc n) [] ys h = absurd (omega arith)
first_append (suc n) (x ∷ xs) ys h = ap (λ (zs : List Event). x ∷ zs) (first_append n xs ys (omega arith))

-- a first part of more is the same first part
pub first_of_more : (n : ℕ) (xs ys : List Event) → (length (first_of n xs) ≤ n) × (first_of n xs ≡ first_of (length (first_of n xs)) (xs ++ ys))
unfolding first_of
first_of_more zero xs ys = (omega arith, refl)
first_of_more (suc n) [] ys = (omega arith, refl)
first_of_more (suc n) (x ∷ xs) ys = let r : (length (first_of n xs) ≤ n) × (first_of n xs ≡ first_of (length (first_of n xs)) (xs ++ ys)) = first_of_more n xs ys in (omega (arith, r.0), ap (λ (zs : List Event). x ∷ zs) r.1)

-- PAGES of one length
pub outs_long : (g : ℕ → List Event) (k n : ℕ) → ((t : ℕ) → t < n → length (g t) ≡ k) → length (outs_of g n) ≡ n * k
unfolding outs_of
outs_long g k zero h = omega arith
outs_long g k (suc n) h = omega (arith, length-append (outs_of g n) (g n), outs_long g k n (λ t i. h t (omega arith)), h n (omega arith), suc-mul n k)

outs_split : (g : ℕ → List Event) (t n : ℕ) → t < n → (more : List Event) × (outs_of g n ≡ outs_of g t ++ (g t ++ more))
unfolding outs_of
outs_split g t zero h = absurd (omega arith)
outs_split g t (suc n) h = go (Rattle.std.proofs.lemmas.Bool.cases_eq t n) (outs_split g t n)
  where
    go : (t ≡ n) ⊎ (t ≡ n → ⊥) → (t < n → (more : List Event) × (outs_of g n ≡ outs_of g t ++ (g t ++ more))) → (more : List Event) × (outs_of g n ++ g n ≡ outs_of g t ++ (g t ++ more))
    go (inl e) ih = ([], ap (λ (k : ℕ). outs_of g k ++ g k) (sym e) ∙ ap (λ (xs : List Event). outs_of g t ++ xs) (sym (append-nil (g t))))
    go (inr e) ih =
        let r : (more : List Event) × (outs_of g n ≡ outs_of g t ++ (g t ++ more)) = ih (omega arith) in
        (r.0 ++ g n, ap (λ (xs : List Event). xs ++ g n) r.1 ∙ append_assoc (outs_of g t) (g t ++ r.0) (g n) ∙ ap (λ (xs : List Event). outs_of g t ++ xs) (append_assoc (g t) r.0 (g n)))

-- from a place on: what is left of its page, and what comes after
pub page_part : (g : ℕ → List Event) (k n pos : ℕ) (tail : List Event) → 1 ≤ k → ((t : ℕ) → t < n → length (g t) ≡ k) → pos / k < n →
    drop_of pos (outs_of g n ++ tail) ≡ drop_of (pos % k) (g (pos / k)) ++ drop_of (pos + length (drop_of (pos % k) (g (pos / k)))) (outs_of g n ++ tail)
page_part g k n pos tail h f l = go (outs_split g t n l)
  where
    t : ℕ
    t = pos / k

    q : ℕ
    q = pos % k

    at : t * k + q ≡ pos
    at = div-add-mod' pos k

    less : q < k
    less = mod-lt pos h

    long : length (outs_of g t) ≡ t * k
    long = outs_long g k t (λ i j. f i (omega (arith, j, l)))

    page : length (g t) ≡ k
    page = f t l

    rest : length (drop_of q (g t)) ≡ k - q
    rest = length_drop_of q (g t) ∙ ap (λ (m : ℕ). m - q) page

    go : (more : List Event) × (outs_of g n ≡ outs_of g t ++ (g t ++ more)) → drop_of pos (outs_of g n ++ tail) ≡ drop_of q (g t) ++ drop_of (pos + length (drop_of q (g t))) (outs_of g n ++ tail)
    go (more, e) = ap (drop_of pos) whole ∙ ap (λ (m : ℕ). drop_of m (outs_of g t ++ (g t ++ after))) (omega (arith, at, long)) ∙ drop_past (outs_of g t) (g t ++ after) q ∙ drop_append q (g t) after ∙ ap (λ (xs : List Event). drop_of q (g t) ++ xs) (ap (λ (m : ℕ). drop_of m after) (omega (arith, less, page)) ∙ drop_zero after ∙ sym later)
      where
        after : List Event
        after = more ++ tail

        whole : outs_of g n ++ tail ≡ outs_of g t ++ (g t ++ after)
        whole = ap (λ (xs : List Event). xs ++ tail) e ∙ append_assoc (outs_of g t) (g t ++ more) tail ∙ ap (λ (xs : List Event). outs_of g t ++ xs) (append_assoc (g t) more tail)

        later : drop_of (pos + length (drop_of q (g t))) (outs_of g n ++ tail) ≡ after
        later = ap (drop_of (pos + length (drop_of q (g t)))) whole ∙ ap (λ (m : ℕ). drop_of m (outs_of g t ++ (g t ++ after))) (omega (arith, at, long, rest, less, page)) ∙ drop_past (outs_of g t) (g t ++ after) (length (g t) + 0) ∙ drop_past (g t) after 0 ∙ drop_zero after
