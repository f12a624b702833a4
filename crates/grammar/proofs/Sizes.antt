-- How long what is printed is. Assumes nothing.
use Rattle.std.proofs.Common.{◌≡◌, ℕ, ◌+◌, ◌*◌, ◌<◌, ◌≤◌, Bool, true, ltb, leb, List, [], ◌∷◌, ◌++◌, length, codes, decimal, arith, length-append}
use Rattle.std.proofs.lemmas.Fmt.{length-decimal-le}
use Rattle.std.proofs.lemmas.Bool.{cond_both, ltb-true, leb-true, and_parts}
use Rattle.streams.specs.Meaning.{Expr, Num, Time, Key, Value, Plus, Minus, Times, Quotient, Rest, Less, Same, Not, Sum, Count, Total, Least, Greatest, Stage, Plan, top}
use Rattle.streams.specs.Calls.{parts, expr_ok, fine, stage_ok, every, plan_ok}
use Rattle.grammar.specs.Printing.{bond, within, pair, shown, is_number_one, is_just_key, is_value, said, named, text_of_stage, text_of_stages, printed}
use Rattle.grammar.specs.Laws.{PrintFits}

-- ---- what a plan within the limits says of its parts
pub record FineStage (s : Stage) : Type 0 where
  pub keep_few : parts s.keep' ≤ 64
  pub keep_ok : expr_ok s.keep' ≡ true
  pub key_few : parts s.key ≤ 64
  pub key_ok : expr_ok s.key ≡ true
  pub value_few : parts s.value ≤ 64
  pub value_ok : expr_ok s.value ≡ true
  pub low : 0 < s.size
  pub high : s.size ≤ 1099511627776

pub stage_fine : (s : Stage) → stage_ok s ≡ true → FineStage s
stage_fine s h =
    let a = and_parts _ (leb s.size 1099511627776) h in
    let b = and_parts _ (ltb 0 s.size) a.0 in
    let c = and_parts _ (fine s.value) b.0 in
    let d = and_parts (fine s.keep') (fine s.key) c.0 in
    let k = and_parts (leb (parts s.keep') 64) (expr_ok s.keep') d.0 in
    let y = and_parts (leb (parts s.key) 64) (expr_ok s.key) d.1 in
    let v = and_parts (leb (parts s.value) 64) (expr_ok s.value) c.1 in
    record { keep_few = leb-true _ _ k.0; keep_ok = k.1; key_few = leb-true _ _ y.0; key_ok = y.1; value_few = leb-true _ _ v.0; value_ok = v.1; low = ltb-true _ _ b.1; high = leb-true _ _ a.1 }

pub record FinePlan (p : Plan) : Type 0 where
  pub late : p.late ≤ 1099511627776
  pub some : 0 < length p.stages
  pub few : length p.stages ≤ 8
  pub stages : every stage_ok p.stages ≡ true

pub plan_fine : (p : Plan) → plan_ok p ≡ true → FinePlan p
plan_fine p h =
    let a = and_parts _ (every stage_ok p.stages) h in
    let b = and_parts _ (leb (length p.stages) 8) a.0 in
    let c = and_parts (leb p.late 1099511627776) (ltb 0 (length p.stages)) b.0 in
    record { late = leb-true _ _ c.0; some = ltb-true _ _ c.1; few = leb-true _ _ b.1; stages = a.1 }

-- ---- expressions: at most 22 bytes for each part
within_size : (least own : ℕ) (t : List ℕ) → length (within least own t) ≤ length t + 2
within_size least own t = cond_both (ltb own least) _ _ (λ x. length x ≤ length t + 2) (λ _. omega (arith, length-append t (41 ∷ []))) (λ _. omega arith)

pair_size : (sign m n : ℕ) (a b : Expr) → length (shown a) ≤ 22 * parts a → length (shown b) ≤ 22 * parts b → length (pair sign (within m (bond a) (shown a)) (within n (bond b) (shown b))) ≤ 22 * (1 + (parts a + parts b))
pair_size sign m n a b h k =
    omega (arith, length-append (within m (bond a) (shown a)) (32 ∷ sign ∷ 32 ∷ within n (bond b) (shown b)), within_size m (bond a) (shown a), within_size n (bond b) (shown b))

shown_size : (e : Expr) → expr_ok e ≡ true → length (shown e) ≤ 22 * parts e
unfolding shown parts expr_ok
shown_size (Num n) ok = let h : n < top = ltb-true _ _ ok in omega (arith, length-decimal-le 20 n (omega arith) (omega arith) h)
shown_size Time ok = omega arith
shown_size Key ok = omega arith
shown_size Value ok = omega arith
shown_size (Plus a b) ok = let o = and_parts (expr_ok a) (expr_ok b) ok in pair_size 43 2 3 a b (shown_size a o.0) (shown_size b o.1)
shown_size (Minus a b) ok = let o = and_parts (expr_ok a) (expr_ok b) ok in pair_size 45 2 3 a b (shown_size a o.0) (shown_size b o.1)
shown_size (Times a b) ok = let o = and_parts (expr_ok a) (expr_ok b) ok in pair_size 42 3 4 a b (shown_size a o.0) (shown_size b o.1)
shown_size (Quotient a b) ok = let o = and_parts (expr_ok a) (expr_ok b) ok in pair_size 47 3 4 a b (shown_size a o.0) (shown_size b o.1)
shown_size (Rest a b) ok = let o = and_parts (expr_ok a) (expr_ok b) ok in pair_size 37 3 4 a b (shown_size a o.0) (shown_size b o.1)
shown_size (Less a b) ok = let o = and_parts (expr_ok a) (expr_ok b) ok in pair_size 60 2 2 a b (shown_size a o.0) (shown_size b o.1)
shown_size (Same a b) ok = let o = and_parts (expr_ok a) (expr_ok b) ok in pair_size 61 2 2 a b (shown_size a o.0) (shown_size b o.1)
shown_size (Not a) ok = let h : length (shown a) ≤ 22 * parts a = shown_size a ok in omega (arith, within_size 4 (bond a) (shown a))

-- ---- stages
said_size : (word : List ℕ) (out : Bool) (e : Expr) → parts e ≤ 64 → expr_ok e ≡ true → length (said word out e) ≤ length word + 1410
said_size word out e few ok =
    let h : length (shown e) ≤ 22 * parts e = shown_size e ok in
    cond_both out _ _ (λ x. length x ≤ length word + 1410) (λ _. omega arith) (λ _. omega (arith, length-append word (32 ∷ (shown e ++ (32 ∷ []))), length-append (shown e) (32 ∷ [])))

named_size : (s : Sum) → length (named s) ≤ 8
unfolding named
named_size Count = omega arith
named_size Total = omega arith
named_size Least = omega arith
named_size Greatest = omega arith

span_size : (n : ℕ) → n ≤ 1099511627776 → length (decimal n) ≤ 13
span_size n h = length-decimal-le 13 n (omega arith) (omega arith) (omega arith)

stage_size : (s : Stage) → stage_ok s ≡ true → length (text_of_stage s) ≤ 4267
unfolding text_of_stage
stage_size s ok =
    let f = stage_fine s ok in
    let keep = said (codes "keep") (is_number_one s.keep') s.keep' in
    let key = said (codes "key") (is_just_key s.key) s.key in
    let value = said (codes "value") (is_value s.value) s.value in
    let size = decimal s.size in
    let last = 32 ∷ named s.sum in
    omega (arith, said_size (codes "keep") (is_number_one s.keep') s.keep' f.keep_few f.keep_ok, said_size (codes "key") (is_just_key s.key) s.key f.key_few f.key_ok, said_size (codes "value") (is_value s.value) s.value f.value_few f.value_ok, span_size s.size f.high, named_size s.sum, length-append keep (key ++ (value ++ (codes "in " ++ (size ++ last)))), length-append key (value ++ (codes "in " ++ (size ++ last))), length-append value (codes "in " ++ (size ++ last)), length-append size last)

stages_size : (ss : List Stage) → every stage_ok ss ≡ true → length (text_of_stages ss) ≤ 4269 * length ss
unfolding text_of_stages every
stages_size [] ok = omega arith
stages_size (s ∷ ss) ok =
    let o = and_parts (stage_ok s) (every stage_ok ss) ok in
    let first : length (text_of_stage s) ≤ 4267 = stage_size s o.0 in
    let others : length (text_of_stages ss) ≤ 4269 * length ss = stages_size ss o.1 in
    omega (arith, length-append (text_of_stage s) (text_of_stages ss))

pub print_fits : PrintFits
unfolding printed
print_fits p ok =
    let f = plan_fine p ok in
    omega (arith, stages_size p.stages f.stages, span_size p.late f.late, f.few, length-append (decimal p.late) (text_of_stages p.stages))
