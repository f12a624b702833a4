-- Bytes as chunks of eight, each a word.
-- Assumes nothing.
use Rattle.std.proofs.Common.{◌≡◌, ℕ, zero, suc, ◌+◌, ◌*◌, ◌/◌, ◌%◌, ◌<◌, Bool, true, false, cond, ◌&&◌, ltb, List, [], ◌∷◌, ◌++◌, length, map, get_or, Fits, w8, take, append_assoc, refl, sym, ap, ◌∙◌, arith}
use Rattle.std.proofs.lemmas.Bool.{lt-ltb, and_from}
use Rattle.std.proofs.lemmas.List.{take_more}
use Rattle.std.specs.Simd.{first_chunks}
use Rattle.book.specs.Words.{Maybe, nothing, just, word_of, eight_bytes, with_word, words_of, words_bytes, word_bytes}

-- the word of eight bytes
abbrev pub word_in : List ℕ → ℕ
word_in bs = word_of (get_or bs 0 0) (get_or bs 1 0) (get_or bs 2 0) (get_or bs 3 0) (get_or bs 4 0) (get_or bs 5 0) (get_or bs 6 0) (get_or bs 7 0)

eight : (a b c d e f g h : ℕ) → a < 256 → b < 256 → c < 256 → d < 256 → e < 256 → f < 256 → g < 256 → h < 256 → eight_bytes a b c d e f g h ≡ true
eight a b c d e f g h ha hb hc hd he hf hg hh = both a _ ha (both b _ hb (both c _ hc (both d _ hd (both e _ he (both f _ hf (both g _ hg (lt-ltb h 256 hh)))))))
  where
    both : (n : ℕ) (t : Bool) → n < 256 → t ≡ true → ltb n 256 && t ≡ true
    both n t lt is = and_from (ltb n 256) t (lt-ltb n 256 lt) is

words_in : (k : ℕ) (bs : List ℕ) → length bs ≡ k * 8 → ((i : ℕ) → get_or bs i 0 < 256) → words_of bs ≡ just (map word_in (first_chunks 8 k bs))
unfolding words_of with_word
words_in zero [] h fit = refl
words_in zero (a ∷ bs) h fit = absurd (omega arith)
words_in (suc k) [] h fit = absurd (omega arith)
words_in (suc k) (a ∷ []) h fit = absurd (omega arith)
words_in (suc k) (a ∷ b ∷ []) h fit = absurd (omega arith)
words_in (suc k) (a ∷ b ∷ c ∷ []) h fit = absurd (omega arith)
words_in (suc k) (a ∷ b ∷ c ∷ d ∷ []) h fit = absurd (omega arith)
words_in (suc k) (a ∷ b ∷ c ∷ d ∷ e ∷ []) h fit = absurd (omega arith)
words_in (suc k) (a ∷ b ∷ c ∷ d ∷ e ∷ f ∷ []) h fit = absurd (omega arith)
words_in (suc k) (a ∷ b ∷ c ∷ d ∷ e ∷ f ∷ g ∷ []) h fit = absurd (omega arith)
words_in (suc k) (a ∷ b ∷ c ∷ d ∷ e ∷ p ∷ q ∷ r ∷ bs) h fit =
    rw (eight a b c d e p q r (fit 0) (fit 1) (fit 2) (fit 3) (fit 4) (fit 5) (fit 6) (fit 7), words_in k bs (omega arith) (λ i. fit (suc (suc (suc (suc (suc (suc (suc (suc i)))))))))) refl

-- whole chunks are the words of all the bytes
pub chunked : (bs : List ℕ) (cs : List (List ℕ)) → length bs % 8 ≡ 0 → ((i : ℕ) → Fits w8 (get_or bs i 0)) → cs ≡ first_chunks 8 (length bs / 8) bs → words_of bs ≡ just (map word_in cs)
chunked bs cs h fit is = words_in (length bs / 8) bs (omega (arith, h)) (λ i. (fit i).fits) ∙ ap (λ (xs : List (List ℕ)). just (map word_in xs)) (sym is)

-- bytes that are no whole words
pub ragged : (k : ℕ) (bs : List ℕ) → k * 8 < length bs → length bs < k * 8 + 8 → words_of bs ≡ nothing
unfolding words_of with_word
ragged zero [] h l = absurd (omega arith)
ragged zero (a ∷ []) h l = refl
ragged zero (a ∷ b ∷ []) h l = refl
ragged zero (a ∷ b ∷ c ∷ []) h l = refl
ragged zero (a ∷ b ∷ c ∷ d ∷ []) h l = refl
ragged zero (a ∷ b ∷ c ∷ d ∷ e ∷ []) h l = refl
ragged zero (a ∷ b ∷ c ∷ d ∷ e ∷ f ∷ []) h l = refl
ragged zero (a ∷ b ∷ c ∷ d ∷ e ∷ f ∷ g ∷ []) h l = refl
ragged zero (a ∷ b ∷ c ∷ d ∷ e ∷ f ∷ g ∷ h ∷ r) p l = absurd (omega arith)
ragged (suc k) [] h l = absurd (omega arith)
ragged (suc k) (a ∷ []) h l = absurd (omega arith)
ragged (suc k) (a ∷ b ∷ []) h l = absurd (omega arith)
ragged (suc k) (a ∷ b ∷ c ∷ []) h l = absurd (omega arith)
ragged (suc k) (a ∷ b ∷ c ∷ d ∷ []) h l = absurd (omega arith)
ragged (suc k) (a ∷ b ∷ c ∷ d ∷ e ∷ []) h l = absurd (omega arith)
ragged (suc k) (a ∷ b ∷ c ∷ d ∷ e ∷ f ∷ []) h l = absurd (omega arith)
ragged (suc k) (a ∷ b ∷ c ∷ d ∷ e ∷ f ∷ g ∷ []) h l = absurd (omega arith)
ragged (suc k) (a ∷ b ∷ c ∷ d ∷ e ∷ f ∷ g ∷ h ∷ r) p l = rw (ragged k r (omega arith) (omega arith)) (either (eight_bytes a b c d e f g h))
  where
    either : (t : Bool) → cond {A = Maybe (List ℕ)} t nothing nothing ≡ nothing
    either true = refl
    either false = refl

-- a word more
bytes_more : (ws : List ℕ) (w : ℕ) → words_bytes (ws ++ (w ∷ [])) ≡ words_bytes ws ++ word_bytes w
unfolding words_bytes
bytes_more [] w = refl
bytes_more (v ∷ ws) w = ap (λ (bs : List ℕ). word_bytes v ++ bs) (bytes_more ws w)

pub bytes_written : (ws : List ℕ) (i w : ℕ) (old new now : List ℕ) → i < length ws → w ≡ get_or ws i 0 → old ≡ now ++ words_bytes (take i ws) → new ≡ old ++ word_bytes w → new ≡ now ++ words_bytes (take (i + 1) ws)
bytes_written ws i w old new now lt is e h =
    h ∙ ap (λ (bs : List ℕ). bs ++ word_bytes w) e ∙ append_assoc now (words_bytes (take i ws)) (word_bytes w)
    ∙ ap (λ (bs : List ℕ). now ++ bs) (sym (ap (λ (vs : List ℕ). words_bytes vs) (take_more ws i 0 lt ∙ ap (λ (v : ℕ). take i ws ++ (v ∷ [])) (sym is)) ∙ bytes_more (take i ws) w))
