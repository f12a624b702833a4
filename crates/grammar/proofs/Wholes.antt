-- What is printed of a plan is read as that plan. Assumes nothing.
use Rattle.std.proofs.Common.{◌≡◌, ℕ, zero, suc, ◌+◌, ◌<◌, ◌≤◌, Bool, true, false, List, [], ◌∷◌, ◌++◌, length, codes, decimal, sym, refl, ap, ◌∙◌, append_assoc, append-nil, arith, length-append}
use lib.Seq.{drop-append_seam}
use Rattle.std.proofs.lemmas.Bool.{cond_both, lt-ltb, le-ltb, eqb-true, and_parts, false≢true}
use Rattle.streams.specs.Meaning.{Expr, Num, Time, Key, Value, Plus, Minus, Times, Quotient, Rest, Less, Same, Not, Sum, Count, Total, Least, Greatest, Stage}
use Rattle.streams.specs.Calls.{parts, expr_ok, stage_ok, every}
use Rattle.grammar.specs.declared.refusals.Why.{Why}
use Rattle.grammar.specs.declared.refusals.Why.TheVariants.{Lateness, Size}
use Rattle.grammar.specs.Reading.{got, skip, is, starts_digit, starts_letter, is_end, is_the_word, operator, comparison, limited, part, window, aggregate, stage, stages, plan, reading}
use Rattle.grammar.specs.Printing.{shown, is_number_one, is_just_key, is_value, said, named, text_of_stage, text_of_stages, printed}
use Rattle.grammar.specs.Laws.{PrintReads}
use Rattle.grammar.proofs.Places.{limited_in}
use Rattle.grammar.proofs.Readers.{after_got}
use Rattle.grammar.proofs.Back.{Ends, Closed, expression_back, expression_blank, digits_read}
use Rattle.grammar.proofs.Sizes.{stage_fine, plan_fine, print_fits}

-- ---- what stands for a part that is left out
one_is : (e : Expr) → is_number_one e ≡ true → e ≡ Num 1
unfolding is_number_one
one_is (Num n) h = ap Num (eqb-true n 1 h)
one_is Time h = absurd (false≢true h)
one_is Key h = absurd (false≢true h)
one_is Value h = absurd (false≢true h)
one_is (Plus a b) h = absurd (false≢true h)
one_is (Minus a b) h = absurd (false≢true h)
one_is (Times a b) h = absurd (false≢true h)
one_is (Quotient a b) h = absurd (false≢true h)
one_is (Rest a b) h = absurd (false≢true h)
one_is (Less a b) h = absurd (false≢true h)
one_is (Same a b) h = absurd (false≢true h)
one_is (Not a) h = absurd (false≢true h)

key_is : (e : Expr) → is_just_key e ≡ true → e ≡ Key
unfolding is_just_key
key_is (Num n) h = absurd (false≢true h)
key_is Time h = absurd (false≢true h)
key_is Key h = refl
key_is Value h = absurd (false≢true h)
key_is (Plus a b) h = absurd (false≢true h)
key_is (Minus a b) h = absurd (false≢true h)
key_is (Times a b) h = absurd (false≢true h)
key_is (Quotient a b) h = absurd (false≢true h)
key_is (Rest a b) h = absurd (false≢true h)
key_is (Less a b) h = absurd (false≢true h)
key_is (Same a b) h = absurd (false≢true h)
key_is (Not a) h = absurd (false≢true h)

value_is : (e : Expr) → is_value e ≡ true → e ≡ Value
unfolding is_value
value_is (Num n) h = absurd (false≢true h)
value_is Time h = absurd (false≢true h)
value_is Key h = absurd (false≢true h)
value_is Value h = refl
value_is (Plus a b) h = absurd (false≢true h)
value_is (Minus a b) h = absurd (false≢true h)
value_is (Times a b) h = absurd (false≢true h)
value_is (Quotient a b) h = absurd (false≢true h)
value_is (Rest a b) h = absurd (false≢true h)
value_is (Less a b) h = absurd (false≢true h)
value_is (Same a b) h = absurd (false≢true h)
value_is (Not a) h = absurd (false≢true h)

-- ---- what may follow a part: a word, and not `word`
record Follows (word y : List ℕ) : Type 0 where
  begins : skip y ≡ y
  closed : Closed (32 ∷ y)
  other : is_the_word word y ≡ false

-- a part is read as it was, in text or left out; one blank stands before it and behind it
part_back : (word : List ℕ) (out e : Expr) (omitted : Bool) (y : List ℕ) → ((bs : List ℕ) → is_the_word word (word ++ (32 ∷ bs)) ≡ true) → ((bs : List ℕ) → skip (word ++ bs) ≡ word ++ bs) → (omitted ≡ true → e ≡ out) → parts e ≤ 64 → expr_ok e ≡ true → Follows word y → part word out (32 ∷ (said word omitted e ++ y)) ≡ got e (32 ∷ y)
unfolding part skip
part_back word out e omitted y stands solid same few ok f =
    cond_both omitted _ _ (λ t. part word out (32 ∷ (t ++ y)) ≡ got e (32 ∷ y))
    (λ h. rw (f.begins, f.other) (ap (λ x. got x (32 ∷ y)) (sym (same h))))
    (λ _.
    let all : (word ++ (32 ∷ (shown e ++ (32 ∷ [])))) ++ y ≡ word ++ (32 ∷ (shown e ++ (32 ∷ y))) = append_assoc word _ y ∙ ap (λ t. word ++ (32 ∷ t)) (append_assoc (shown e) (32 ∷ []) y) in
    rw (all, solid, stands, drop-append_seam) (expression_blank 64 (shown e ++ (32 ∷ y)) ∙ expression_back e (32 ∷ y) few ok f.closed))

module _ (word : List ℕ) where
  follows_in : (z : List ℕ) → is_the_word word (codes "in " ++ z) ≡ false → Follows word (codes "in " ++ z)
  unfolding skip starts_letter starts_digit operator comparison is
  follows_in z h = record { begins = refl; closed = record { ends = record { letter = refl; digit = refl }; sum = refl; product = refl; compared = refl }; other = h }

  follows_value : (out : Bool) (e : Expr) (z : List ℕ) → Follows word z → ((bs : List ℕ) → is_the_word word (codes "value" ++ (32 ∷ bs)) ≡ false) → Follows word (said (codes "value") out e ++ z)
  unfolding skip starts_letter starts_digit operator comparison is
  follows_value out e z f h =
      cond_both out _ _ (λ t. Follows word (t ++ z)) (λ _. f)
      (λ _. record { begins = refl; closed = record { ends = record { letter = refl; digit = refl }; sum = refl; product = refl; compared = refl }; other = h _ })

  follows_key : (out : Bool) (e : Expr) (z : List ℕ) → Follows word z → ((bs : List ℕ) → is_the_word word (codes "key" ++ (32 ∷ bs)) ≡ false) → Follows word (said (codes "key") out e ++ z)
  unfolding skip starts_letter starts_digit operator comparison is
  follows_key out e z f h =
      cond_both out _ _ (λ t. Follows word (t ++ z)) (λ _. f)
      (λ _. record { begins = refl; closed = record { ends = record { letter = refl; digit = refl }; sum = refl; product = refl; compared = refl }; other = h _ })

-- ---- numbers and aggregates
limited_back : (why : Why) (low n : ℕ) (rest : List ℕ) → low ≤ n → n ≤ 1099511627776 → Ends rest → limited why low (32 ∷ (decimal n ++ rest)) ≡ got n rest
unfolding skip
limited_back why low n rest l h ends =
    let read = digits_read n rest (omega arith) ends in
    limited_in why low (32 ∷ (decimal n ++ rest)) (decimal n ++ rest) (sym read.0) read.1 read.2 l h

blank_ends : (bs : List ℕ) → Ends (32 ∷ bs)
unfolding starts_letter starts_digit
blank_ends bs = record { letter = refl; digit = refl }

aggregate_back : (s : Sum) (rest : List ℕ) → Ends rest → aggregate (32 ∷ (named s ++ rest)) ≡ got s rest
unfolding aggregate named skip is_the_word
aggregate_back Count rest e = rw (e.letter, e.digit)
aggregate_back Total rest e = rw (e.letter, e.digit)
aggregate_back Least rest e = rw (e.letter, e.digit)
aggregate_back Greatest rest e = rw (e.letter, e.digit)

window_back : (n : ℕ) (rest : List ℕ) → 1 ≤ n → n ≤ 1099511627776 → Ends rest → window (32 ∷ (codes "in " ++ (decimal n ++ rest))) ≡ got n rest
unfolding window skip is_the_word starts_letter starts_digit
window_back n rest l h ends = limited_back Size 1 n rest l h ends

-- ---- stages
stage_back : (s : Stage) (rest : List ℕ) → stage_ok s ≡ true → Ends rest → stage (32 ∷ (text_of_stage s ++ rest)) ≡ got s rest
unfolding stage text_of_stage is_the_word starts_letter starts_digit skip
stage_back s rest ok ends =
    let f = stage_fine s ok in
    let last = 32 ∷ (named s.sum ++ rest) in
    let sized = codes "in " ++ (decimal s.size ++ last) in
    let valued = said (codes "value") (is_value s.value) s.value ++ sized in
    let keyed = said (codes "key") (is_just_key s.key) s.key ++ valued in
    let all : text_of_stage s ++ rest ≡ said (codes "keep") (is_number_one s.keep') s.keep' ++ keyed = simp append_assoc in
    ap (λ t. stage (32 ∷ t)) all
    ∙ after_got _ _ (part_back (codes "keep") (Num 1) s.keep' (is_number_one s.keep') keyed (λ _. refl) (λ _. refl) (one_is s.keep') f.keep_few f.keep_ok (follows_key (codes "keep") (is_just_key s.key) s.key valued (follows_value (codes "keep") (is_value s.value) s.value sized (follows_in (codes "keep") _ refl) (λ _. refl)) (λ _. refl)))
    ∙ after_got _ _ (part_back (codes "key") Key s.key (is_just_key s.key) valued (λ _. refl) (λ _. refl) (key_is s.key) f.key_few f.key_ok (follows_value (codes "key") (is_value s.value) s.value sized (follows_in (codes "key") _ refl) (λ _. refl)))
    ∙ after_got _ _ (part_back (codes "value") Value s.value (is_value s.value) sized (λ _. refl) (λ _. refl) (value_is s.value) f.value_few f.value_ok (follows_in (codes "value") _ refl))
    ∙ after_got _ _ (window_back s.size last f.low f.high (blank_ends _))
    ∙ after_got _ _ (aggregate_back s.sum rest ends)

stages_end : (ss : List Stage) → Ends (text_of_stages ss)
unfolding text_of_stages starts_letter starts_digit
stages_end [] = record { letter = refl; digit = refl }
stages_end (s ∷ ss) = record { letter = refl; digit = refl }

stages_back : (ss before : List Stage) (room : ℕ) → length ss ≤ room → 0 < length before + length ss → every stage_ok ss ≡ true → stages room before (text_of_stages ss) ≡ got (before ++ ss) []
unfolding stages text_of_stages skip is is_end every
stages_back [] before zero h some ok = rw (lt-ltb 0 (length before) (omega arith)) (ap (λ l. got l []) (sym (append-nil before)))
stages_back [] before (suc room) h some ok = rw (lt-ltb 0 (length before) (omega arith)) (ap (λ l. got l []) (sym (append-nil before)))
stages_back (s ∷ ss) before zero h some ok = absurd (omega arith)
stages_back (s ∷ ss) before (suc room) h some ok =
    let o = and_parts (stage_ok s) (every stage_ok ss) ok in
    let many : length (before ++ (s ∷ [])) ≡ length before + 1 = length-append before (s ∷ []) in
    after_got _ _ (stage_back s (text_of_stages ss) o.0 (stages_end ss)) ∙ stages_back ss (before ++ (s ∷ [])) room (omega arith) (omega arith) o.1 ∙ ap (λ l. got l []) (append_assoc before (s ∷ []) ss)

pub print_reads : PrintReads
unfolding reading plan printed skip is_the_word starts_letter starts_digit
print_reads p ok =
    let f = plan_fine p ok in
    rw (le-ltb 65536 (length (printed p)) (print_fits p ok))
    (after_got _ _ (limited_back Lateness 0 p.late (text_of_stages p.stages) (omega arith) f.late (stages_end p.stages)) ∙ after_got _ _ (stages_back p.stages [] 8 f.few (omega (arith, f.some)) f.stages))
