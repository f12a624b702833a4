-- The kinds of answers as bytes. Assumes nothing.
use Rattle.std.specs.Prelude.{ℕ}
use Rattle.replies.specs.declared.kinds.Kind.{Kind}
use Rattle.replies.specs.declared.kinds.Kind.TheVariants.{Refused, Yes, Out, Full}

-- the byte that a kind goes by
abbrev pub byte_of : Kind → ℕ
byte_of Refused = 0
byte_of Yes = 1
byte_of Out = 2
byte_of Full = 3

-- the fewest bytes that an answer of a kind has
abbrev pub least_of : Kind → ℕ
least_of Refused = 2
least_of Yes = 1
least_of Out = 3
least_of Full = 1
