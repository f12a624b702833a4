-- No two calls have the same bytes, and bytes of another length than a kind has are no call. Assumes nothing.
use Rattle.std.proofs.Common.{◌≡◌, ℕ, ◌+◌, true, false, List, ◌∷◌, ◌*◌, ◌==◌, cond, length, get_or, drop, Some, None, Option, Ok, Err, Result, sym, refl, ap, ◌∙◌, subst, arith}
use Rattle.std.specs.Option.{ok_or}
use Rattle.streams.specs.Calls.{core}
use Rattle.octets.specs.Form.{word_of}
use Rattle.octets.proofs.Bytes.{two_value, eight_value}
use Rattle.plans.specs.declared.entries.Entry.TheVariants.{Happened, Still}
use Rattle.calls.specs.declared.kinds.Refusal.{Refusal}
use Rattle.calls.specs.declared.kinds.Refusal.TheVariants.{Invalid, NoLog, Dropped, NotOut, Busy, NotBuilt}
use Rattle.calls.specs.declared.kinds.Call.{Call}
use Rattle.calls.specs.declared.kinds.Call.TheVariants.{Put, Out, Drop}
use Rattle.calls.specs.declared.kinds.Kind.{Kind}
use Rattle.calls.specs.declared.kinds.Kind.TheVariants as kind
use Rattle.calls.specs.Form.{call_of, kind_of, byte_of, size_of, numbers_of, encoded, Fit, Unbuilt, ReadsNumbers, Reads, ReadAgain}

pub kinds : {j k : ℕ} {xs ys : List ℕ} → j ∷ xs ≡ k ∷ ys → j ≡ k
kinds e = ap (λ l. get_or l 0 0) e

-- the kind that goes by a byte, and the call of a kind with its numbers
abbrev kind_at : ℕ → Kind
kind_at b = cond (b == 1) kind.Put (cond (b == 2) kind.Still (cond (b == 3) kind.Out kind.Drop))

abbrev call_at : Kind → List ℕ → Call
call_at kind.Put ns = Put (record { 0 = get_or ns 0 0 }) (Happened (record { time = record { 0 = word_of (drop 1 ns) }; key = record { 0 = word_of (drop 9 ns) }; value = record { 0 = word_of (drop 17 ns) } }))
call_at kind.Still ns = Put (record { 0 = get_or ns 0 0 }) (Still (record { 0 = word_of (drop 1 ns) }))
call_at kind.Out ns = Out (record { 0 = word_of ns }) (get_or ns 8 0 * 256 + get_or ns 9 0)
call_at kind.Drop ns = Drop (record { 0 = word_of ns })

kind_back : (k : Kind) → kind_at (byte_of k) ≡ k
kind_back kind.Put = refl
kind_back kind.Still = refl
kind_back kind.Out = refl
kind_back kind.Drop = refl

pub call_back : (c : Call) → Fit c → call_at (kind_of c) (numbers_of c) ≡ c
call_back (Put l (Happened e)) f =
    λ i. Put l (Happened (record { time = record { 0 = sym (eight_value e.time.0 f.1) i }; key = record { 0 = sym (eight_value e.key.0 f.2) i }; value = record { 0 = sym (eight_value e.value.0 f.3) i } }))
call_back (Put l (Still t)) f = λ i. Put l (Still (record { 0 = sym (eight_value t.0 f.1) i }))
call_back (Out a m) f = λ i. Out (record { 0 = sym (eight_value a.0 f.0) i }) (sym (two_value m f.1) i)
call_back (Drop b) f = λ i. Drop (record { 0 = sym (eight_value b.0 f) i })

same_kind : (j k : Kind) → byte_of j ≡ byte_of k → j ≡ k
same_kind j k e = sym (kind_back j) ∙ ap kind_at e ∙ kind_back k

-- two calls with the same bytes are one
pub one_call : (c d : Call) → Fit c → Fit d → encoded c ≡ encoded d → c ≡ d
one_call c d f g e = sym (call_back c f) ∙ (λ i. call_at (same_kind (kind_of c) (kind_of d) (kinds e) i) (drop 1 (e i))) ∙ call_back d g

-- all is built but dropping
built : (c : Call) → core (call_of c) ≡ false → kind_of c ≡ kind.Drop
unfolding core
built (Put l (Happened e)) h = let z : ◌≡◌ {A = ℕ} 0 1 = cc in absurd (omega arith)
built (Put l (Still t)) h = let z : ◌≡◌ {A = ℕ} 0 1 = cc in absurd (omega arith)
built (Out f m) h = let z : ◌≡◌ {A = ℕ} 0 1 = cc in absurd (omega arith)
built (Drop b) h = refl

undropped : (d : Call) → core (call_of d) ≡ true → byte_of (kind_of d) ≡ 4 → ⊥
unfolding core
undropped (Put l (Happened e)) b k = omega arith
undropped (Put l (Still t)) b k = omega arith
undropped (Out f m) b k = omega arith
undropped (Drop x) b k = let z : ◌≡◌ {A = ℕ} 0 1 = cc in omega arith

-- what does not begin with 4 does not begin as a call that is not built
begun : (b : ℕ) (bs : List ℕ) → (b ≡ 4 → ⊥) → Unbuilt (b ∷ bs) → ⊥
begun b bs h u = h (kinds u.2 ∙ ap byte_of (built u.0 u.3))

pub long : (c : Call) → length (numbers_of c) + 1 ≡ size_of (kind_of c)
long (Put l (Happened e)) = refl
long (Put l (Still t)) = refl
long (Out f m) = refl
long (Drop b) = refl

built_else : (c : Call) → (byte_of (kind_of c) ≡ 4 → ⊥) → core (call_of c) ≡ true
unfolding core
built_else (Put l (Happened e)) n = refl
built_else (Put l (Still t)) n = refl
built_else (Out f m) n = refl
built_else (Drop b) n = absurd (n refl)

-- what is read of the numbers is read of the whole
numbers_read : (k : Kind) (rest : List ℕ) (o : Option Call) → (byte_of k ≡ 4 → ⊥) → ReadsNumbers k rest o → Reads (byte_of k ∷ rest) (ok_or o Invalid)
numbers_read k rest None n h = (begun (byte_of k) rest n, λ c f e. h (omega (arith, ap length e, long c, ap size_of (same_kind k (kind_of c) (kinds e)))))
numbers_read k rest (Some c) n h = ((λ i. byte_of (sym h.0 i) ∷ h.1 i), h.2, built_else c (λ e. n (sym (ap byte_of h.0) ∙ e)))

pub again : (bs : List ℕ) (r : Result Call Refusal) → Reads bs r → ReadAgain bs r
unfolding core
again bs (Ok c) h d f b e = ap Ok (one_call c d h.1 f (sym h.0 ∙ e))
again bs (Err Invalid) h d f b e = absurd (h.1 d f e)
again bs (Err NotBuilt) h d f b e = absurd (undropped d b (sym (ap (λ l. get_or l 0 0) e) ∙ ap (λ l. get_or l 0 0) h.2 ∙ ap byte_of (built h.0 h.3)))
again bs (Err NoLog) h d f b e = absurd h
again bs (Err Dropped) h d f b e = absurd h
again bs (Err NotOut) h d f b e = absurd h
again bs (Err Busy) h d f b e = absurd h

pub read_as : (k : Kind) (bs rest : List ℕ) (o : Option Call) (r : Result Call Refusal) → (byte_of k ≡ 4 → ⊥) → bs ≡ byte_of k ∷ rest → ReadsNumbers k rest o → r ≡ ok_or o Invalid → Reads bs r
read_as k bs rest o r n e h is = subst (λ (l : List ℕ). Reads l r) (sym e) (subst (Reads (byte_of k ∷ rest)) (sym is) (numbers_read k rest o n h))

pub unbuilt : (bs rest : List ℕ) → bs ≡ 4 ∷ rest → Reads bs (Err NotBuilt)
unfolding core
unbuilt bs rest e = (Drop (record { 0 = 0 }), rest, e, refl)
