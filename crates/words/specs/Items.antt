-- Items of several words each, and the words that they are in memory, one item after the other.
-- Assumes nothing.
use Rattle.std.specs.Prelude.{ℕ, zero, suc, ◌/◌, List, [], ◌∷◌, length, map}
use Rattle.std.specs.List.{flat_map}
use Rattle.std.specs.Simd.{first_chunks}

-- words as items of n words each, as many as there are
abbrev pub items_of : ℕ → List ℕ → List (List ℕ)
items_of n words = first_chunks n (length words / n) words

-- the n words of an item. Each item in memory has n, which the type of a list does not say: of a list that has fewer, the words that it lacks count as 0
abbrev pub words_in : ℕ → List ℕ → List ℕ
words_in zero item = []
words_in (suc n) [] = 0 ∷ words_in n []
words_in (suc n) (w ∷ ws) = w ∷ words_in n ws

-- items of n words each
abbrev pub whole : ℕ → List (List ℕ) → List (List ℕ)
whole n items = map (words_in n) items

-- their words
abbrev pub words_of : ℕ → List (List ℕ) → List ℕ
words_of n items = flat_map (words_in n) items
