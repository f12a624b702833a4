-- A word at the front of a text, as the code looks for it and as the grammar does. Assumes nothing.
use Rattle.std.proofs.Common.{◌≡◌, cond, ℕ, suc, ◌+◌, ◌≤◌, leb, Bool, true, false, not, ◌&&◌, ◌||◌, eqb, List, [], ◌∷◌, ◌++◌, length, take, drop, refl, sym, ap, ◌∙◌, arith}
use Rattle.std.proofs.lemmas.Bool.{and_parts, eqb-true}
use Rattle.std.specs.Cmp.Lexicographic.{pointwise}
use Rattle.std.specs.Char.{is_ascii_digit, is_ascii_alphanumeric}
use Rattle.std.specs.List.{list_all, prefix_len, take_while}
use Rattle.std.specs.Str.{bytes_eq}
use Rattle.std.proofs.lemmas.Slice.Eq.{bytes_eq-Decides}
use Rattle.std.proofs.lemmas.List.Folds.{length-prefix_len}
use Rattle.grammar.specs.Reading.{letter, starts_letter, starts_digit, is_the_word}

pub and_regroup : (x y z : Bool) → x && (y && z) ≡ x && y && z
and_regroup true y z = refl
and_regroup false y z = refl

-- its bytes, and no letter or digit right behind them
pub word_prefix : (ws bs : List ℕ) → is_the_word ws bs ≡ (pointwise eqb (take (length ws) bs) ws && not (starts_letter (drop (length ws) bs) || starts_digit (drop (length ws) bs)))
unfolding is_the_word
word_prefix [] bs = refl
word_prefix (w ∷ ws) [] = refl
word_prefix (w ∷ ws) (c ∷ cs) = ap (λ t. eqb c w && t) (word_prefix ws cs) ∙ and_regroup (eqb c w) _ _

alphanumeric : (c : ℕ) → is_ascii_alphanumeric c ≡ letter c || is_ascii_digit c
alphanumeric c = swapped (leb 48 c && leb c 57) (leb 65 c && leb c 90) (leb 97 c && leb c 122)
  where
    swapped : (d u l : Bool) → ((d || u) || l) ≡ ((l || u) || d)
    swapped true true true = refl
    swapped true true false = refl
    swapped true false true = refl
    swapped true false false = refl
    swapped false true true = refl
    swapped false true false = refl
    swapped false false true = refl
    swapped false false false = refl

-- the first byte goes on with the run, or ends it
run_goes : (c : ℕ) (cs : List ℕ) → is_ascii_alphanumeric c ≡ true → take_while is_ascii_alphanumeric (c ∷ cs) ≡ c ∷ take_while is_ascii_alphanumeric cs
run_goes c cs h = let one : 1 + prefix_len is_ascii_alphanumeric cs ≡ suc (prefix_len is_ascii_alphanumeric cs) = omega arith in rw (h, one)

run_ends : (c : ℕ) (cs : List ℕ) → is_ascii_alphanumeric c ≡ false → take_while is_ascii_alphanumeric (c ∷ cs) ≡ []
run_ends c cs h = rw h

-- A WORD OF LETTERS AND DIGITS STANDS HERE IF IT IS ALL OF THE LETTERS AND DIGITS THAT DO
pub word_run : (ws bs : List ℕ) → list_all is_ascii_alphanumeric ws ≡ true → is_the_word ws bs ≡ pointwise eqb (take_while is_ascii_alphanumeric bs) ws
unfolding is_the_word starts_letter starts_digit
word_run [] [] h = refl
word_run [] (c ∷ cs) h = go (is_ascii_alphanumeric c) refl
  where
    go : (t : Bool) → is_ascii_alphanumeric c ≡ t → not (letter c || is_ascii_digit c) ≡ pointwise eqb (take_while is_ascii_alphanumeric (c ∷ cs)) []
    go true e = rw (run_goes c cs e, sym (alphanumeric c) ∙ e)
    go false e = rw (run_ends c cs e, sym (alphanumeric c) ∙ e)
word_run (w ∷ ws) [] h = refl
word_run (w ∷ ws) (c ∷ cs) h = go (word_run ws cs here.1) (is_ascii_alphanumeric c) refl
  where
    here : (is_ascii_alphanumeric w ≡ true) × (list_all is_ascii_alphanumeric ws ≡ true)
    here = and_parts (is_ascii_alphanumeric w) (list_all is_ascii_alphanumeric ws) h

    other : is_ascii_alphanumeric c ≡ false → (t : Bool) → eqb c w ≡ t → t && is_the_word ws cs ≡ false
    other e true s = let same : c ≡ w = eqb-true c w s in let z : true ≡ false = sym here.0 ∙ ap is_ascii_alphanumeric (sym same) ∙ e in absurd cc
    other e false s = refl

    go : is_the_word ws cs ≡ pointwise eqb (take_while is_ascii_alphanumeric cs) ws → (t : Bool) → is_ascii_alphanumeric c ≡ t → eqb c w && is_the_word ws cs ≡ pointwise eqb (take_while is_ascii_alphanumeric (c ∷ cs)) (w ∷ ws)
    go more true e = rw (run_goes c cs e) (ap (λ t. eqb c w && t) more)
    go more false e = rw (run_ends c cs e) (other e (eqb c w) refl)

-- one of several words, by the run: what it makes of what is behind it, or what comes of the others
pub word_case : {X : Type 0} (ws bs : List ℕ) (f : List ℕ → X) (others : X) → list_all is_ascii_alphanumeric ws ≡ true
    → cond (is_the_word ws bs) (f (drop (length ws) bs)) others ≡ cond (bytes_eq (take_while is_ascii_alphanumeric bs) ws) (f (drop (prefix_len is_ascii_alphanumeric bs) bs)) others
word_case ws bs f others h = rw (word_run ws bs h) (go (bytes_eq (take_while is_ascii_alphanumeric bs) ws) refl)
  where
    go : (t : Bool) → bytes_eq (take_while is_ascii_alphanumeric bs) ws ≡ t → cond t (f (drop (length ws) bs)) others ≡ cond t (f (drop (prefix_len is_ascii_alphanumeric bs) bs)) others
    go false e = refl
    go true e =
        let same : take_while is_ascii_alphanumeric bs ≡ ws = (bytes_eq-Decides (take_while is_ascii_alphanumeric bs) ws).0 e in
        let long : length ws ≡ prefix_len is_ascii_alphanumeric bs = sym (ap length same) ∙ length-prefix_len is_ascii_alphanumeric bs in
        ap (λ n. f (drop n bs)) long

-- a word in two parts
pub word_parts : (ws vs bs : List ℕ) → is_the_word (ws ++ vs) bs ≡ pointwise eqb (take (length ws) bs) ws && is_the_word vs (drop (length ws) bs)
unfolding is_the_word
word_parts [] vs bs = refl
word_parts (w ∷ ws) vs [] = refl
word_parts (w ∷ ws) vs (c ∷ cs) = ap (λ t. eqb c w && t) (word_parts ws vs cs) ∙ and_regroup (eqb c w) _ _

-- a word is no longer than the text
pub word_fits : (ws bs : List ℕ) → is_the_word ws bs ≡ true → length ws ≤ length bs
unfolding is_the_word
word_fits [] bs h = omega arith
word_fits (w ∷ ws) [] h = absurd cc
word_fits (w ∷ ws) (c ∷ cs) h = let more : length ws ≤ length cs = word_fits ws cs (and_parts (eqb c w) (is_the_word ws cs) h).1 in omega arith
