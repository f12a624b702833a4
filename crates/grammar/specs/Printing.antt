-- How a plan is printed: docs/PLANS.md, "Printing", as a function. Assumes nothing.
use Rattle.std.specs.Prelude.{ℕ, Bool, true, false, cond, List, [], ◌∷◌, ◌++◌, codes, decimal, ◌==◌, nat_lt}
use Rattle.streams.specs.Meaning.{Expr, Num, Time, Key, Value, Plus, Minus, Times, Quotient, Rest, Less, Same, Not, Sum, Count, Total, Least, Greatest, Stage, Plan}

-- how close an expression binds: a comparison 1, a sum 2, a product 3, what needs no brackets anywhere 4
unfoldable pub bond : Expr → ℕ
bond (Num n) = 4
bond Time = 4
bond Key = 4
bond Value = 4
bond (Plus a b) = 2
bond (Minus a b) = 2
bond (Times a b) = 3
bond (Quotient a b) = 3
bond (Rest a b) = 3
bond (Less a b) = 1
bond (Same a b) = 1
bond (Not a) = 4

-- a text of bond `own` where one of bond `least` or more must stand
abbrev pub within : (least own : ℕ) → List ℕ → List ℕ
within least own t = cond (nat_lt own least) (40 ∷ (t ++ (41 ∷ []))) t

-- two sides with the byte of an operator between them
abbrev pub pair : (sign : ℕ) → List ℕ → List ℕ → List ℕ
pair sign a b = a ++ (32 ∷ sign ∷ 32 ∷ b)

unfoldable pub shown : Expr → List ℕ
shown (Num n) = decimal n
shown Time = codes "time"
shown Key = codes "key"
shown Value = codes "value"
shown (Plus a b) = pair 43 (within 2 (bond a) (shown a)) (within 3 (bond b) (shown b))
shown (Minus a b) = pair 45 (within 2 (bond a) (shown a)) (within 3 (bond b) (shown b))
shown (Times a b) = pair 42 (within 3 (bond a) (shown a)) (within 4 (bond b) (shown b))
shown (Quotient a b) = pair 47 (within 3 (bond a) (shown a)) (within 4 (bond b) (shown b))
shown (Rest a b) = pair 37 (within 3 (bond a) (shown a)) (within 4 (bond b) (shown b))
shown (Less a b) = pair 60 (within 2 (bond a) (shown a)) (within 2 (bond b) (shown b))
shown (Same a b) = pair 61 (within 2 (bond a) (shown a)) (within 2 (bond b) (shown b))
shown (Not a) = 33 ∷ within 4 (bond a) (shown a)

-- what stands for a part that is left out
unfoldable pub is_number_one : Expr → Bool
is_number_one (Num n) = n == 1
is_number_one Time = false
is_number_one Key = false
is_number_one Value = false
is_number_one (Plus a b) = false
is_number_one (Minus a b) = false
is_number_one (Times a b) = false
is_number_one (Quotient a b) = false
is_number_one (Rest a b) = false
is_number_one (Less a b) = false
is_number_one (Same a b) = false
is_number_one (Not a) = false

unfoldable pub is_just_key : Expr → Bool
is_just_key (Num n) = false
is_just_key Time = false
is_just_key Key = true
is_just_key Value = false
is_just_key (Plus a b) = false
is_just_key (Minus a b) = false
is_just_key (Times a b) = false
is_just_key (Quotient a b) = false
is_just_key (Rest a b) = false
is_just_key (Less a b) = false
is_just_key (Same a b) = false
is_just_key (Not a) = false

unfoldable pub is_value : Expr → Bool
is_value (Num n) = false
is_value Time = false
is_value Key = false
is_value Value = true
is_value (Plus a b) = false
is_value (Minus a b) = false
is_value (Times a b) = false
is_value (Quotient a b) = false
is_value (Rest a b) = false
is_value (Less a b) = false
is_value (Same a b) = false
is_value (Not a) = false

-- a part of a stage, unless it equals what stands for it when it is left out
abbrev pub said : (word : List ℕ) (left_out : Bool) → Expr → List ℕ
said word left_out e = cond left_out [] (word ++ (32 ∷ (shown e ++ (32 ∷ []))))

unfoldable pub named : Sum → List ℕ
named Count = codes "count"
named Total = codes "total"
named Least = codes "least"
named Greatest = codes "greatest"

unfoldable pub text_of_stage : Stage → List ℕ
text_of_stage s =
    said (codes "keep") (is_number_one s.keep') s.keep'
    ++ (said (codes "key") (is_just_key s.key) s.key ++ (said (codes "value") (is_value s.value) s.value ++ (codes "in " ++ (decimal s.size ++ (32 ∷ named s.sum)))))

unfoldable pub text_of_stages : List Stage → List ℕ
text_of_stages [] = []
text_of_stages (s ∷ ss) = 59 ∷ 32 ∷ (text_of_stage s ++ text_of_stages ss)

-- THE PRINTING of a plan
unfoldable pub printed : Plan → List ℕ
printed p = codes "late " ++ (decimal p.late ++ text_of_stages p.stages)
