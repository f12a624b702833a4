-- What stands at the front of bytes, case by case; it stays as bytes are added behind. Assumes nothing.
use Rattle.std.proofs.Common.{◌≡◌, ℕ, ◌+◌, ◌-◌, ◌<◌, ◌≤◌, List, [], ◌∷◌, ◌++◌, length, get_or, take, drop, sym, refl, ap, ◌∙◌, subst, ⊎_elim, arith, length-append, length-drop}
use lib.Seq.{drop-append-le, take-append-le, take-append_seam, drop-append_seam}
use Rattle.std.proofs.lemmas.List.{get_or_append_left, drop-drop}
use Rattle.std.proofs.lemmas.Bool.{lt-ltb, le-ltb, cases_lt}
use Rattle.octets.specs.Form.{four, eight, four_of, word_of}
use Rattle.octets.proofs.Bytes.{four_value, eight_value}
use Rattle.frames.specs.declared.kinds.Traffic.{Traffic}
use Rattle.frames.specs.declared.kinds.Fault.TheVariants.{TooLong, TooShort}
use Rattle.frames.specs.Lines.{line, least, Seen, Whole, NotYet, Refused, seen, LinesAgain}

module _ (t : Traffic) (bs : List ℕ) where
  pub at_short : length bs < 4 → seen t bs ≡ NotYet
  unfolding seen
  at_short h = rw (lt-ltb (length bs) 4 h)

  pub at_long : 4 ≤ length bs → 1048576 < four_of bs → seen t bs ≡ Refused TooLong
  unfolding seen
  at_long h1 h2 = rw (le-ltb (length bs) 4 h1, lt-ltb 1048576 (four_of bs) h2)

  pub at_small : 4 ≤ length bs → four_of bs ≤ 1048576 → four_of bs < 9 → seen t bs ≡ Refused TooShort
  unfolding seen
  at_small h1 h2 h3 = rw (le-ltb (length bs) 4 h1, le-ltb 1048576 (four_of bs) h2, lt-ltb (four_of bs) 9 h3)

  pub at_head : 4 ≤ length bs → four_of bs ≤ 1048576 → 9 ≤ four_of bs → length bs < 13 → seen t bs ≡ NotYet
  unfolding seen
  at_head h1 h2 h3 h4 = rw (le-ltb (length bs) 4 h1, le-ltb 1048576 (four_of bs) h2, le-ltb (four_of bs) 9 h3, lt-ltb (length bs) 13 h4)

  module _ (h2 : four_of bs ≤ 1048576) (h3 : 9 ≤ four_of bs) (h4 : 13 ≤ length bs) where
    pub at_kind : four_of bs < 8 + least t (get_or bs 12 0) → seen t bs ≡ Refused TooShort
    unfolding seen
    at_kind h5 =
        rw (le-ltb (length bs) 4 (omega arith), le-ltb 1048576 (four_of bs) h2, le-ltb (four_of bs) 9 h3, le-ltb (length bs) 13 h4, lt-ltb (four_of bs) (8 + least t (get_or bs 12 0)) h5)

    pub at_wait : 8 + least t (get_or bs 12 0) ≤ four_of bs → length bs < 4 + four_of bs → seen t bs ≡ NotYet
    unfolding seen
    at_wait h5 h6 =
        rw (le-ltb (length bs) 4 (omega arith), le-ltb 1048576 (four_of bs) h2, le-ltb (four_of bs) 9 h3, le-ltb (length bs) 13 h4, le-ltb (four_of bs) (8 + least t (get_or bs 12 0)) h5, lt-ltb (length bs) (4 + four_of bs) h6)

    pub at_whole : 8 + least t (get_or bs 12 0) ≤ four_of bs → 4 + four_of bs ≤ length bs → seen t bs ≡ Whole (word_of (drop 4 bs)) (take (four_of bs - 8) (drop 12 bs)) (drop (4 + four_of bs) bs)
    unfolding seen
    at_whole h5 h6 =
        rw (le-ltb (length bs) 4 (omega arith), le-ltb 1048576 (four_of bs) h2, le-ltb (four_of bs) 9 h3, le-ltb (length bs) 13 h4, le-ltb (four_of bs) (8 + least t (get_or bs 12 0)) h5, le-ltb (length bs) (4 + four_of bs) h6)

-- the seven ways
data Way (t : Traffic) (bs : List ℕ) : Type 0 where
  short : length bs < 4 → Way t bs
  long : 4 ≤ length bs → 1048576 < four_of bs → Way t bs
  small : 4 ≤ length bs → four_of bs ≤ 1048576 → four_of bs < 9 → Way t bs
  head : 4 ≤ length bs → four_of bs ≤ 1048576 → 9 ≤ four_of bs → length bs < 13 → Way t bs
  kind : four_of bs ≤ 1048576 → 9 ≤ four_of bs → 13 ≤ length bs → four_of bs < 8 + least t (get_or bs 12 0) → Way t bs
  wait : four_of bs ≤ 1048576 → 9 ≤ four_of bs → 13 ≤ length bs → 8 + least t (get_or bs 12 0) ≤ four_of bs → length bs < 4 + four_of bs → Way t bs
  whole : four_of bs ≤ 1048576 → 9 ≤ four_of bs → 13 ≤ length bs → 8 + least t (get_or bs 12 0) ≤ four_of bs → 4 + four_of bs ≤ length bs → Way t bs

way : (t : Traffic) (bs : List ℕ) → Way t bs
way t bs =
    ⊎_elim short
    (λ h1. ⊎_elim (λ h2. long h1 h2)
    (λ h2. ⊎_elim (λ h3. small h1 h2 h3)
    (λ h3. ⊎_elim (λ h4. head h1 h2 h3 h4)
    (λ h4. ⊎_elim (λ h5. kind h2 h3 h4 h5)
    (λ h5. ⊎_elim (λ h6. wait h2 h3 h4 h5 h6) (λ h6. whole h2 h3 h4 h5 h6) (cases_lt (length bs) (4 + four_of bs)))
    (cases_lt (four_of bs) (8 + least t (get_or bs 12 0)))) (cases_lt (length bs) 13)) (cases_lt (four_of bs) 9)) (cases_lt 1048576 (four_of bs))) (cases_lt (length bs) 4)

-- numbers at the front are as they were
pub four_on : (a b : List ℕ) → 4 ≤ length a → four_of (a ++ b) ≡ four_of a
four_on [] b h = absurd (omega arith)
four_on (x ∷ []) b h = absurd (omega arith)
four_on (x ∷ y ∷ []) b h = absurd (omega arith)
four_on (x ∷ y ∷ z ∷ []) b h = absurd (omega arith)
four_on (x ∷ y ∷ z ∷ w ∷ a) b h = refl

word_on : (a b : List ℕ) → 8 ≤ length a → word_of (a ++ b) ≡ word_of a
word_on a b h =
    omega (arith, get_or_append_left a b 0 0 (omega arith), get_or_append_left a b 0 1 (omega arith), get_or_append_left a b 0 2 (omega arith), get_or_append_left a b 0 3 (omega arith), get_or_append_left a b 0 4 (omega arith), get_or_append_left a b 0 5 (omega arith), get_or_append_left a b 0 6 (omega arith), get_or_append_left a b 0 7 (omega arith))

-- what is seen once more has come: only what is left grows
abbrev pub Later : Seen → List ℕ → Seen → Type 0
Later (Whole n x r) b s = s ≡ Whole n x (r ++ b)
Later NotYet b s = Unit {0}
Later (Refused f) b s = s ≡ Refused f

module _ (t : Traffic) (a b : List ℕ) where
  as' : {s : Seen} → seen t a ≡ s → Later s b (seen t (a ++ b)) → Later (seen t a) b (seen t (a ++ b))
  as' {s} e h = subst (λ (x : Seen). Later x b (seen t (a ++ b))) (sym e) h

  pub later : Later (seen t a) b (seen t (a ++ b))
  later = go (way t a)
    where
      go : Way t a → Later (seen t a) b (seen t (a ++ b))
      go (short h) = as' (at_short t a h) tt
      go (long h1 h2) = let n = length-append a b in let e = four_on a b h1 in as' (at_long t a h1 h2) (at_long t (a ++ b) (omega arith) (omega arith))
      go (small h1 h2 h3) = let n = length-append a b in let e = four_on a b h1 in as' (at_small t a h1 h2 h3) (at_small t (a ++ b) (omega arith) (omega arith) (omega arith))
      go (head h1 h2 h3 h4) = as' (at_head t a h1 h2 h3 h4) tt
      go (kind h2 h3 h4 h5) =
          let n = length-append a b in
          let e = four_on a b (omega arith) in
          let k = ap (least t) (get_or_append_left a b 0 12 (omega arith)) in
          as' (at_kind t a h2 h3 h4 h5) (at_kind t (a ++ b) (omega arith) (omega arith) (omega arith) (omega arith))
      go (wait h2 h3 h4 h5 h6) = as' (at_wait t a h2 h3 h4 h5 h6) tt
      go (whole h2 h3 h4 h5 h6) =
          let n = length-append a b in
          let e = four_on a b (omega arith) in
          let k = ap (least t) (get_or_append_left a b 0 12 (omega arith)) in
          let number : word_of (drop 4 (a ++ b)) ≡ word_of (drop 4 a) = ap word_of (drop-append-le 4 a b (omega arith)) ∙ word_on (drop 4 a) b (simp length-drop (omega arith)) in
          let body : take (four_of (a ++ b) - 8) (drop 12 (a ++ b)) ≡ take (four_of a - 8) (drop 12 a) =
          (λ i. take (e i - 8) (drop-append-le 12 a b (omega arith) i)) ∙ take-append-le (four_of a - 8) (drop 12 a) b (simp length-drop (omega arith)) in
          let rest : drop (4 + four_of (a ++ b)) (a ++ b) ≡ drop (4 + four_of a) a ++ b = ap (λ n. drop (4 + n) (a ++ b)) e ∙ drop-append-le (4 + four_of a) a b h6 in
          as' (at_whole t a h2 h3 h4 h5 h6) (at_whole t (a ++ b) (omega arith) (omega arith) (omega arith) (omega arith) (omega arith) ∙ (λ i. Whole (number i) (body i) (rest i)))

-- what is left behind a line is shorter
abbrev pub Shorter : Seen → ℕ → Type 0
Shorter (Whole n x r) k = length r < k
Shorter NotYet k = Unit {0}
Shorter (Refused f) k = Unit {0}

module _ (t : Traffic) (a : List ℕ) where
  so : {s : Seen} → seen t a ≡ s → Shorter s (length a) → Shorter (seen t a) (length a)
  so {s} e h = subst (λ (x : Seen). Shorter x (length a)) (sym e) h

  pub shorter : Shorter (seen t a) (length a)
  shorter = go (way t a)
    where
      go : Way t a → Shorter (seen t a) (length a)
      go (short h) = so (at_short t a h) tt
      go (long h1 h2) = so (at_long t a h1 h2) tt
      go (small h1 h2 h3) = so (at_small t a h1 h2 h3) tt
      go (head h1 h2 h3 h4) = so (at_head t a h1 h2 h3 h4) tt
      go (kind h2 h3 h4 h5) = so (at_kind t a h2 h3 h4 h5) tt
      go (wait h2 h3 h4 h5 h6) = so (at_wait t a h2 h3 h4 h5 h6) tt
      go (whole h2 h3 h4 h5 h6) = so (at_whole t a h2 h3 h4 h5 h6) (simp length-drop (omega arith))

-- what is seen where the numbers are known, as they are read one after the other
pub number_of : (n : ℕ) (bs rest : List ℕ) → n < 4294967296 → bs ≡ four n ++ rest → four_of bs ≡ n
number_of n bs rest h e = ap four_of e ∙ sym (four_value n h)

module _ (t : Traffic) (n : ℕ) (bs rest : List ℕ) (fits : n < 4294967296) (e : bs ≡ four n ++ rest) where
  pub long_seen : 1048576 < n → seen t bs ≡ Refused TooLong
  long_seen h = let n_is = number_of n bs rest fits e in let size = ap length e in at_long t bs (omega arith) (omega arith)

  pub small_seen : n ≤ 1048576 → n < 9 → seen t bs ≡ Refused TooShort
  small_seen h2 h3 = let n_is = number_of n bs rest fits e in let size = ap length e in at_small t bs (omega arith) (omega arith) (omega arith)

  pub head_seen : n ≤ 1048576 → 9 ≤ n → length rest < 9 → seen t bs ≡ NotYet
  head_seen h2 h3 h4 = let n_is = number_of n bs rest fits e in let size = ap length e in at_head t bs (omega arith) (omega arith) (omega arith) (omega arith)

  module _ (m : ℕ) (bodies : List ℕ) (e' : rest ≡ eight m ++ bodies) (h2 : n ≤ 1048576) (h3 : 9 ≤ n) (h4 : 1 ≤ length bodies) where
    joined : bs ≡ four n ++ eight m ++ bodies
    joined = e ∙ ap (λ l. four n ++ l) e'

    pub kind_seen : n - 8 < least t (get_or bodies 0 0) → seen t bs ≡ Refused TooShort
    kind_seen h5 = let n_is = number_of n bs rest fits e in let size = ap length joined in let kind-is = ap (λ l. least t (get_or l 12 0)) joined in at_kind t bs (omega arith) (omega arith) (omega arith) (omega arith)

    pub wait_seen : least t (get_or bodies 0 0) ≤ n - 8 → length bodies < n - 8 → seen t bs ≡ NotYet
    wait_seen h5 h6 = let n_is = number_of n bs rest fits e in let size = ap length joined in let kind-is = ap (λ l. least t (get_or l 12 0)) joined in at_wait t bs (omega arith) (omega arith) (omega arith) (omega arith) (omega arith)

    pub whole_seen : m < 18446744073709551616 → least t (get_or bodies 0 0) ≤ n - 8 → n - 8 ≤ length bodies → seen t bs ≡ Whole m (take (n - 8) bodies) (drop (n - 8) bodies)
    whole_seen hm h5 h6 =
        let n_is = number_of n bs rest fits e in
        let size = ap length joined in
        let kind-is = ap (λ l. least t (get_or l 12 0)) joined in
        let number : word_of (drop 4 bs) ≡ m = ap (λ l. word_of (drop 4 l)) joined ∙ sym (eight_value m hm) in
        let body : take (four_of bs - 8) (drop 12 bs) ≡ take (n - 8) bodies = (λ i. take (n_is i - 8) (drop 12 (joined i))) in
        let end : 12 + (n - 8) ≡ 4 + four_of bs = omega arith in
        let left : drop (4 + four_of bs) bs ≡ drop (n - 8) bodies = ap (λ k. drop k bs) (sym end) ∙ sym (drop-drop (n - 8) 12 bs) ∙ ap (λ l. drop (n - 8) (drop 12 l)) joined in
        at_whole t bs (omega arith) (omega arith) (omega arith) (omega arith) (omega arith) ∙ (λ i. Whole (number i) (body i) (left i))

pub lines_again : LinesAgain
lines_again t n body rest hn fits some enough =
    let long = length-append body rest in
    let size : 8 + length body - 8 ≡ length body = omega arith in
    let first : get_or (body ++ rest) 0 0 ≡ get_or body 0 0 = get_or_append_left body rest 0 0 some in
    let k = ap (least t) first in
    let body_is = ap (λ k. take k (body ++ rest)) size ∙ take-append_seam body rest in
    let rest-is = ap (λ k. drop k (body ++ rest)) size ∙ drop-append_seam body rest in
    whole_seen t (8 + length body) (line n body ++ rest) (eight n ++ body ++ rest) (omega arith) refl n (body ++ rest) refl fits (omega arith) (omega arith) hn (omega arith) (omega arith) ∙ (λ i. Whole n (body_is i) (rest-is i))
