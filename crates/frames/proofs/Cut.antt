-- A stream cut into pieces gives the same lines. Assumes nothing.
use Rattle.std.proofs.Common.{◌≡◌, ℕ, zero, suc, ◌<◌, ◌≤◌, List, [], ◌∷◌, ◌++◌, length, sym, refl, ap, ◌∙◌, append_assoc, append-nil, arith, length-append}
use Rattle.frames.specs.declared.kinds.Traffic.{Traffic}
use Rattle.frames.specs.Lines.{Seen, Whole, NotYet, Refused, seen, Line, End, Waits, Stops, Stream, joined, onward, up_to, stream_of, more, fed, concat, AnyCutting}
use Rattle.frames.proofs.Fronts.{at_short, Later, later, Shorter, shorter}

onward_same : (s : Seen) (bs : List ℕ) (f g : List ℕ → Stream) → Shorter s (length bs) → ((r : List ℕ) → length r < length bs → f r ≡ g r) → onward s bs f ≡ onward s bs g
onward_same (Whole n x r) bs f g h e = ap (joined (record { number = n; body = x })) (e r h)
onward_same NotYet bs f g h e = refl
onward_same (Refused q) bs f g h e = refl

nothing : (t : Traffic) (k : ℕ) (bs : List ℕ) → length bs ≤ 0 → up_to k t bs ≡ record { lines = []; end = Waits bs }
unfolding up_to
nothing t zero bs h = refl
nothing t (suc k) bs h = ap (λ (s : Seen). onward s bs (up_to k t)) (at_short t bs (omega arith))

-- more turns than bytes change nothing
enough : (t : Traffic) (k j : ℕ) (bs : List ℕ) → length bs ≤ k → length bs ≤ j → up_to k t bs ≡ up_to j t bs
unfolding up_to
enough t zero j bs h g = nothing t zero bs h ∙ sym (nothing t j bs h)
enough t (suc k) zero bs h g = nothing t (suc k) bs g
enough t (suc k) (suc j) bs h g = onward_same (seen t bs) bs (up_to k t) (up_to j t) (shorter t bs) (λ r lt. enough t k j r (omega arith) (omega arith))

in_front : (t : Traffic) (l : Line) (ls : List Line) (e : End) (b : List ℕ) → joined l (more t ls e b) ≡ more t (l ∷ ls) e b
in_front t l ls (Waits x) b = refl
in_front t l ls (Stops f) b = refl

-- one cut, at the first line
step : (t : Traffic) (k : ℕ) (a b : List ℕ) → length a ≤ suc k → ((r : List ℕ) → length r ≤ k → stream_of t (r ++ b) ≡ more t (up_to k t r).lines (up_to k t r).end b) →
    (s : Seen) → Later s b (seen t (a ++ b)) → Shorter s (length a) → stream_of t (a ++ b) ≡ more t (onward s a (up_to k t)).lines (onward s a (up_to k t)).end b
unfolding up_to
step t k a b h ih NotYet w sh = refl
step t k a b h ih (Refused f) w sh = ap (λ (s : Seen). onward s (a ++ b) (up_to (length (a ++ b)) t)) w
step t k a b h ih (Whole n x r) w sh =
    let long = length-append a b in
    let long' = length-append r b in
    ap (λ (s : Seen). onward s (a ++ b) (up_to (length (a ++ b)) t)) w
    ∙ ap (joined (record { number = n; body = x })) (enough t (length (a ++ b)) (suc (length (r ++ b))) (r ++ b) (omega arith) (omega arith) ∙ ih r (omega arith))
    ∙ in_front t (record { number = n; body = x }) (up_to k t r).lines (up_to k t r).end b

cut : (t : Traffic) (k : ℕ) (a b : List ℕ) → length a ≤ k → stream_of t (a ++ b) ≡ more t (up_to k t a).lines (up_to k t a).end b
unfolding up_to
cut t zero a b h = refl
cut t (suc k) a b h = step t k a b h (λ r g. cut t k r b g) (seen t a) (later t a b) (shorter t a)

pieces_on : (t : Traffic) (a : List ℕ) (ps : List (List ℕ)) → fed t (stream_of t a) ps ≡ stream_of t (a ++ concat ps)
pieces_on t a [] = ap (stream_of t) (sym (append-nil a))
pieces_on t a (p ∷ ps) =
    ap (λ (s : Stream). fed t s ps) (sym (cut t (suc (length a)) a p (omega arith))) ∙ pieces_on t (a ++ p) ps ∙ ap (stream_of t) (append_assoc a p (concat ps))

pub any_cutting : AnyCutting
any_cutting t ps = ap (λ (s : Stream). fed t s ps) (sym (nothing t (suc (length {A = ℕ} [])) [] (omega arith))) ∙ pieces_on t [] ps
