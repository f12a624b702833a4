-- What holds of the reading and the printing of plans. Assumes nothing.
use Rattle.std.specs.Prelude.{◌≡◌, ℕ, ◌+◌, ◌≤◌, true, cond, List, [], ◌∷◌, length, ◌==◌}
use Rattle.streams.specs.Meaning.{Plan}
use Rattle.streams.specs.Calls.{plan_ok}
use Rattle.grammar.specs.Reading.{got, reading}
use Rattle.grammar.specs.Printing.{printed}

-- WHAT IS READ IS A PLAN WITHIN THE LIMITS
abbrev pub ReadsValid : Type 0
ReadsValid = (text : List ℕ) (p : Plan) (rest : List ℕ) → reading text ≡ got p rest → plan_ok p ≡ true

-- WHAT IS PRINTED OF A PLAN WITHIN THE LIMITS FITS INTO A TEXT
abbrev pub PrintFits : Type 0
PrintFits = (p : Plan) → plan_ok p ≡ true → length (printed p) ≤ 65536

-- WHAT IS PRINTED OF A PLAN WITHIN THE LIMITS IS READ AS THAT PLAN
abbrev pub PrintReads : Type 0
PrintReads = (p : Plan) → plan_ok p ≡ true → reading (printed p) ≡ got p []

-- how many brackets are opened
unfoldable pub opens : List ℕ → ℕ
opens [] = 0
opens (c ∷ cs) = cond (c == 40) (1 + opens cs) (opens cs)

-- NO TEXT THAT IS READ AS A PLAN OPENS FEWER BRACKETS THAN WHAT IS PRINTED OF THAT PLAN
abbrev pub FewestBrackets : Type 0
FewestBrackets = (text : List ℕ) (p : Plan) (rest : List ℕ) → reading text ≡ got p rest → opens (printed p) ≤ opens text
