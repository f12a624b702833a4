-- The numbers of a box by its words' form.
-- Assumes nothing.
use Rattle.std.specs.Prelude.{◌≡◌, ◌≢◌, ℕ, List, ◌∷◌}
use Rattle.book.specs.Words.{nothing, just, unpacked}
use Rattle.contents.specs.declared.form.NoNumbers.{NoNumbers}
use Rattle.contents.specs.declared.form.NoNumbers.TheVariants.{Wide, Other}

-- each in one word
abbrev pub IsNumbers : (words numbers : List ℕ) → Type 0
IsNumbers ws ns = (ws ≡ 0 ∷ ns) × (unpacked (just ws) ≡ just ns)

-- not in one word each: maybe in four, or no numbers at all
abbrev pub IsNone : (words : List ℕ) → NoNumbers → Type 0
IsNone ws Wide = (more : List ℕ) × (ws ≡ 1 ∷ more)
IsNone ws Other = (unpacked (just ws) ≡ nothing) × ((more : List ℕ) → ws ≢ 1 ∷ more)
