-- Bytes that are not taken as words.
-- Assumes nothing.
use Rattle.std.specs.Prelude.{◌≡◌, ℕ, ◌<◌, List, length}
use Rattle.book.specs.Words.{nothing, just, words_of}
use Rattle.tables.specs.Lent.{Lent}
use Rattle.written.specs.declared.bytes.NoWords.{NoWords}
use Rattle.written.specs.declared.bytes.NoWords.TheVariants.{Ragged, TooMany}

-- the reason, and what there was stays
abbrev pub IsRefused : (bytes : List ℕ) → (old new : Lent ℕ) → NoWords → Type 0
IsRefused bs old new Ragged = (words_of bs ≡ nothing) × (new ≡ old)
IsRefused bs old new TooMany = ((ws : List ℕ) × (words_of bs ≡ just ws) × (old.room < length ws)) × (new ≡ old)
