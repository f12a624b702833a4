-- The operator that a sign is, and the field that a word is. Assumes nothing.
use Rattle.std.proofs.Common.{◌≡◌, ℕ, cond, Bool, true, false, List, [], ◌∷◌, length, drop, Some, None, codes, Option, refl, ap, ◌∙◌, arith}
use Rattle.std.specs.Char.{is_ascii_alphanumeric}
use Rattle.std.specs.List.{prefix_len, take_while}
use Rattle.std.specs.Str.{bytes_eq}
use Rattle.streams.specs.Meaning as spec
use Rattle.streams.specs.Calls.{parts}
use Rattle.grammar.specs.declared.operators.Level.{Level}
use Rattle.grammar.specs.declared.operators.Level.TheVariants.{Sum, Product}
use Rattle.grammar.specs.declared.refusals.Why.TheVariants.{Operand}
use Rattle.grammar.specs.Reading.{got, bad, or_else, is, operator, comparison, starts_digit, leaf}
use Rattle.tokens.proofs.Words.{word_case}
use Rattle.formulas.specs.Says.{between, field_of}

pub between_none : (l : Option Level) (bs : List ℕ) → length bs ≡ 0 → between l bs ≡ None
unfolding operator comparison is
between_none (Some Sum) [] h = refl
between_none (Some Product) [] h = refl
between_none None [] h = refl
between_none l (x ∷ xs) h = absurd (omega arith)

-- what stands behind a sign does not matter
pub between_first : (l : Option Level) (x : ℕ) (xs : List ℕ) → between l (x ∷ xs) ≡ between l (x ∷ [])
unfolding operator comparison is
between_first (Some Sum) x xs = refl
between_first (Some Product) x xs = refl
between_first None x xs = refl

-- a word that stands for something is one part
pub one_part : (w : List ℕ) (e : spec.Expr) → field_of w ≡ Some e → parts e ≡ 1
unfolding parts
one_part w e h = go (bytes_eq w (codes "time")) (bytes_eq w (codes "key")) (bytes_eq w (codes "value")) h
  where
    go : (t k v : Bool) → cond t (Some spec.Time) (cond k (Some spec.Key) (cond v (Some spec.Value) None)) ≡ Some e → parts e ≡ 1
    go true k v h = let s : e ≡ spec.Time = cc in rw s
    go false true v h = let s : e ≡ spec.Key = cc in rw s
    go false false true h = let s : e ≡ spec.Value = cc in rw s
    go false false false h = absurd cc

-- a leaf that is no number
pub leaf_word : (bs : List ℕ) → starts_digit bs ≡ false → leaf bs ≡ or_else (field_of (take_while is_ascii_alphanumeric bs)) (bad Operand bs) (λ e. got e (drop (prefix_len is_ascii_alphanumeric bs) bs))
unfolding leaf
leaf_word bs h =
    let w = take_while is_ascii_alphanumeric bs in
    let rest = drop (prefix_len is_ascii_alphanumeric bs) bs in
    rw h
    (word_case (codes "time") bs (got spec.Time) _ refl
    ∙ ap (cond (bytes_eq w (codes "time")) (got spec.Time rest)) (word_case (codes "key") bs (got spec.Key) _ refl ∙ ap (cond (bytes_eq w (codes "key")) (got spec.Key rest)) (word_case (codes "value") bs (got spec.Value) _ refl))
    ∙ go rest (bytes_eq w (codes "time")) (bytes_eq w (codes "key")) (bytes_eq w (codes "value")))
  where
    go : (rest : List ℕ) (t k v : Bool) → cond t (got spec.Time rest) (cond k (got spec.Key rest) (cond v (got spec.Value rest) (bad Operand bs))) ≡ or_else (cond t (Some spec.Time) (cond k (Some spec.Key) (cond v (Some spec.Value) None))) (bad Operand bs) (λ e. got e rest)
    go rest true k v = refl
    go rest false true v = refl
    go rest false false true = refl
    go rest false false false = refl
