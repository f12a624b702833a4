-- What is read off the front of words, as the code has it.
-- Assumes nothing.
use Rattle.std.specs.Prelude.{ℕ, List, [], ◌∷◌, Option, Some, None}
use Rattle.std.specs.Borrow.{Bor}
use Rattle.book.specs.Words.{Got, none, got}

-- one word
unfoldable pub read_word : List ℕ → Got ℕ
read_word [] = none
read_word (w ∷ ws) = got w ws

-- what a view stands for, and the words that are left
abbrev pub got_as : {V A : Type 0} → (V → A) → Option (V × Bor (List ℕ)) → Got A
got_as f None = none
got_as f (Some p) = got (f p.0) p.1.now

-- items, and the words that are left
abbrev pub got_of : {A : Type 0} → Option (Bor A × Bor (List ℕ)) → Got A
got_of o = got_as (λ items. items.now) o
