-- Numbers in bytes, low byte first: what is put at a place is read there, and elsewhere nothing changes. For the small book.
use Rattle.std.proofs.Common.{◌≡◌, ℕ, zero, suc, ◌+◌, ◌*◌, ◌/◌, ◌%◌, ◌<◌, ◌≤◌, true, ◌&&◌, eqb, ltb, ◌⊎◌, List, [], ◌∷◌, length, sym, refl, ap, ◌∙◌, ap₂, inl, inr, ⊎_elim, arith}
use Rattle.std.proofs.lemmas.Bool.{eqb-true, eq-eqb, lt-ltb, ltb-true, ltb-false, cases_Bool, and_from, and_parts}
use Rattle.streams.specs.Hands.{all_bytes}
use Rattle.worker.specs.Small.{get, set, reads, puts, small_has, small_adds}

get_set : (k v : ℕ) (x : List ℕ) → get k (set k v x) ≡ v
unfolding get set
get_set zero v [] = refl
get_set zero v (a ∷ x) = refl
get_set (suc k) v [] = get_set k v []
get_set (suc k) v (a ∷ x) = get_set k v x

get_other : (j k v : ℕ) (x : List ℕ) → (j ≡ k → ⊥) → get j (set k v x) ≡ get j x
unfolding get set
get_other zero zero v x ne = absurd (ne refl)
get_other zero (suc k) v [] ne = refl
get_other zero (suc k) v (a ∷ x) ne = refl
get_other (suc j) zero v [] ne = refl
get_other (suc j) zero v (a ∷ x) ne = refl
get_other (suc j) (suc k) v [] ne = get_other j k v [] (λ e. ne (ap suc e))
get_other (suc j) (suc k) v (a ∷ x) ne = get_other j k v x (λ e. ne (ap suc e))

reads_set : (c k j v : ℕ) (x : List ℕ) → ((j < k) ⊎ (k + c ≤ j)) → reads c k (set j v x) ≡ reads c k x
unfolding reads
reads_set zero k j v x h = refl
reads_set (suc c) k j v x (inl h) = ap₂ (λ a b. a + 256 * b) (get_other k j v x (λ e. omega (arith, e, h))) (reads_set c (k + 1) j v x (inl (omega (arith, h))))
reads_set (suc c) k j v x (inr h) = ap₂ (λ a b. a + 256 * b) (get_other k j v x (λ e. omega (arith, e, h))) (reads_set c (k + 1) j v x (inr (omega (arith, h))))

reads_other : (c k d j v : ℕ) (x : List ℕ) → ((j + d ≤ k) ⊎ (k + c ≤ j)) → reads c k (puts d j v x) ≡ reads c k x
unfolding puts
reads_other c k zero j v x h = refl
reads_other c k (suc d) j v x (inl h) = reads_set c k j (v % 256) (puts d (j + 1) (v / 256) x) (inl (omega (arith, h))) ∙ reads_other c k d (j + 1) (v / 256) x (inl (omega (arith, h)))
reads_other c k (suc d) j v x (inr h) = reads_set c k j (v % 256) (puts d (j + 1) (v / 256) x) (inr (omega (arith, h))) ∙ reads_other c k d (j + 1) (v / 256) x (inr (omega (arith, h)))

abbrev pow : ℕ → ℕ
pow zero = 1
pow (suc c) = 256 * pow c

reads_puts : (c k v : ℕ) (x : List ℕ) → v < pow c → reads c k (puts c k v x) ≡ v
unfolding reads puts
reads_puts zero k v x h = omega (arith, h)
reads_puts (suc c) k v x h =
    let a = get_set k (v % 256) (puts c (k + 1) (v / 256) x) in
    let b = reads_set c (k + 1) k (v % 256) (puts c (k + 1) (v / 256) x) (inl (omega arith)) ∙ reads_puts c (k + 1) (v / 256) x (omega (arith, h)) in
    ap₂ (λ a b. a + 256 * b) a b ∙ omega arith

length_set : (k v N : ℕ) (x : List ℕ) → k < N → length x ≤ N → length (set k v x) ≤ N
unfolding set
length_set zero v zero x h le = absurd (omega (arith, h))
length_set (suc k) v zero x h le = absurd (omega (arith, h))
length_set zero v (suc N) [] h le = omega arith
length_set zero v (suc N) (a ∷ x) h le = omega (arith, le)
length_set (suc k) v (suc N) [] h le = let r = length_set k v N [] (omega (arith, h)) (omega arith) in omega (arith, r)
length_set (suc k) v (suc N) (a ∷ x) h le = let r = length_set k v N x (omega (arith, h)) (omega (arith, le)) in omega (arith, r)

length_puts : (c k v N : ℕ) (x : List ℕ) → k + c ≤ N → length x ≤ N → length (puts c k v x) ≤ N
unfolding puts
length_puts zero k v N x h le = le
length_puts (suc c) k v N x h le = length_set k (v % 256) N (puts c (k + 1) (v / 256) x) (omega (arith, h)) (length_puts c (k + 1) (v / 256) N x (omega (arith, h)) le)

bytes_set : (k v : ℕ) (x : List ℕ) → v < 256 → all_bytes x ≡ true → all_bytes (set k v x) ≡ true
unfolding set all_bytes
bytes_set zero v [] h b = and_from (ltb v 256) true (lt-ltb v 256 h) refl
bytes_set zero v (a ∷ x) h b = and_from (ltb v 256) (all_bytes x) (lt-ltb v 256 h) (and_parts (ltb a 256) (all_bytes x) b).1
bytes_set (suc k) v [] h b = bytes_set k v [] h refl
bytes_set (suc k) v (a ∷ x) h b = let r = and_parts (ltb a 256) (all_bytes x) b in and_from (ltb a 256) (all_bytes (set k v x)) r.0 (bytes_set k v x h r.1)

bytes_puts : (c k v : ℕ) (x : List ℕ) → all_bytes x ≡ true → all_bytes (puts c k v x) ≡ true
unfolding puts
bytes_puts zero k v x b = b
bytes_puts (suc c) k v x b = bytes_set k (v % 256) (puts c (k + 1) (v / 256) x) (omega arith) (bytes_puts c (k + 1) (v / 256) x b)

-- WHO WAS SERVED
pub length_adds : (x : List ℕ) (i c s : ℕ) → i < 64 → length x ≤ 1024 → length (small_adds x i c s) ≤ 1024
unfolding small_adds
length_adds x i c s h le = length_puts 8 (16 * i) c 1024 (puts 8 (16 * i + 8) s x) (omega (arith, h)) (length_puts 8 (16 * i + 8) s 1024 x (omega (arith, h)) le)

pub bytes_adds : (x : List ℕ) (i c s : ℕ) → all_bytes x ≡ true → all_bytes (small_adds x i c s) ≡ true
unfolding small_adds
bytes_adds x i c s b = bytes_puts 8 (16 * i) c (puts 8 (16 * i + 8) s x) (bytes_puts 8 (16 * i + 8) s x b)

reads_c : (x : List ℕ) (i c s : ℕ) → c < 18446744073709551616 → reads 8 (16 * i) (small_adds x i c s) ≡ c
unfolding small_adds
reads_c x i c s h = reads_puts 8 (16 * i) c (puts 8 (16 * i + 8) s x) h

reads_s : (x : List ℕ) (i c s : ℕ) → s < 18446744073709551616 → reads 8 (16 * i + 8) (small_adds x i c s) ≡ s
unfolding small_adds
reads_s x i c s h = reads_other 8 (16 * i + 8) 8 (16 * i) c (puts 8 (16 * i + 8) s x) (inl (omega arith)) ∙ reads_puts 8 (16 * i + 8) s x h

pub small_none : (i c s : ℕ) → 1 ≤ s → small_has [] i c s ≡ true → ⊥
unfolding small_has reads get
small_none i c s h e = let q = eqb-true (reads 8 (16 * i + 8) []) s (and_parts (eqb (reads 8 (16 * i) []) c) (eqb (reads 8 (16 * i + 8) []) s) (and_parts (ltb 0 s) (eqb (reads 8 (16 * i) []) c && eqb (reads 8 (16 * i + 8) []) s) e).1).1 in omega (arith, q, h)

pub small_new : (x : List ℕ) (i c s : ℕ) → 1 ≤ s → c < 18446744073709551616 → s < 18446744073709551616 → small_has (small_adds x i c s) i c s ≡ true
unfolding small_has
small_new x i c s one hc hs = and_from (ltb 0 s) _ (lt-ltb 0 s (omega (arith, one))) (and_from (eqb (reads 8 (16 * i) (small_adds x i c s)) c) (eqb (reads 8 (16 * i + 8) (small_adds x i c s)) s) (eq-eqb _ c (reads_c x i c s hc)) (eq-eqb _ s (reads_s x i c s hs)))

pub small_mine : (x : List ℕ) (i c s d t : ℕ) → c < 18446744073709551616 → s < 18446744073709551616 → small_has (small_adds x i c s) i d t ≡ true → (d ≡ c) × (t ≡ s)
unfolding small_has
small_mine x i c s d t hc hs e = let q = and_parts (eqb (reads 8 (16 * i) (small_adds x i c s)) d) (eqb (reads 8 (16 * i + 8) (small_adds x i c s)) t) (and_parts (ltb 0 t) (eqb (reads 8 (16 * i) (small_adds x i c s)) d && eqb (reads 8 (16 * i + 8) (small_adds x i c s)) t) e).1 in
    (sym (eqb-true (reads 8 (16 * i) (small_adds x i c s)) d q.0) ∙ reads_c x i c s hc, sym (eqb-true (reads 8 (16 * i + 8) (small_adds x i c s)) t q.1) ∙ reads_s x i c s hs)

apart : (i j : ℕ) → (j ≡ i → ⊥) → (j < i) ⊎ (i < j)
apart i j ne = ⊎_elim (λ t. inl (ltb-true j i t)) (λ t. let q = ltb-false j i t in inr (⊎_elim (λ u. ltb-true i j u) (λ u. let w = ltb-false i j u in absurd (ne (omega (arith, q, w)))) (cases_Bool (ltb i j)))) (cases_Bool (ltb j i))

reads_far : (x : List ℕ) (i c s k : ℕ) → (k + 8 ≤ 16 * i) ⊎ (16 * i + 16 ≤ k) → reads 8 k (small_adds x i c s) ≡ reads 8 k x
unfolding small_adds
reads_far x i c s k (inl h) = reads_other 8 k 8 (16 * i) c (puts 8 (16 * i + 8) s x) (inr (omega (arith, h))) ∙ reads_other 8 k 8 (16 * i + 8) s x (inr (omega (arith, h)))
reads_far x i c s k (inr h) = reads_other 8 k 8 (16 * i) c (puts 8 (16 * i + 8) s x) (inl (omega (arith, h))) ∙ reads_other 8 k 8 (16 * i + 8) s x (inl (omega (arith, h)))

pub small_other : (x : List ℕ) (i c s j d t : ℕ) → (j ≡ i → ⊥) → small_has (small_adds x i c s) j d t ≡ small_has x j d t
unfolding small_has
small_other x i c s j d t ne = ap₂ (λ a b. ltb 0 t && (eqb a d && eqb b t))
    (reads_far x i c s (16 * j) (⊎_elim (λ h. inl (omega (arith, h))) (λ h. inr (omega (arith, h))) (apart i j ne)))
    (reads_far x i c s (16 * j + 8) (⊎_elim (λ h. inl (omega (arith, h))) (λ h. inr (omega (arith, h))) (apart i j ne)))
