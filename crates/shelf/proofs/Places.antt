-- Facts about all of a list, and about a function that is changed at one place: hands and boxes are such functions.
use Rattle.std.proofs.Common.{◌≡◌, ℕ, Bool, true, false, cond, not, ◌&&◌, T, eqb, leb, ◌⊎◌, List, [], ◌∷◌, ◌++◌, length, sym, refl, subst, inl, inr, ⊎_elim, arith}
use mathlib.Core.Path.{fun_ext, subst₃}
use mathlib.Core.List.Memᴰ
use mathlib.Core.List.{Memᴰ}
use Rattle.std.proofs.lemmas.Bool.{eqb-true, eqb-false, eq-eqb, cond-true, cond_both}
use Rattle.streams.specs.Hands.{Box, Stand, away, here, at, fillable, all_bytes}

-- all of a list, by how it is built
pub all_cons : {A : Type 0} (P : A → Type 0) {x : A} {xs : List A} → P x → ((a : A) → Memᴰ a xs → P a) → (a : A) → Memᴰ a (x ∷ xs) → P a
all_cons P h f a (Memᴰ.head e) = subst P (sym e) h
all_cons P h f a (Memᴰ.tail m) = f a m

pub all_none : {A : Type 0} (P : A → Type 0) (a : A) → Memᴰ a [] → P a
all_none P a m = absurd (Memᴰ.not-nil m)

pub all_append : {A : Type 0} (P : A → Type 0) (xs ys : List A) → ((a : A) → Memᴰ a xs → P a) → ((a : A) → Memᴰ a ys → P a) → (a : A) → Memᴰ a (xs ++ ys) → P a
all_append P xs ys f g a m = ⊎_elim (f a) (g a) (Memᴰ.append_cases xs m)

-- the changed place has the new value
pub at_self : {A : Type 0} (i : ℕ) (x : A) (f : ℕ → A) → at i x f i ≡ x
at_self i x f = cond-true (eqb i i) x (f i) (eq-eqb i i refl)

-- what holds at the changed place and at the others holds everywhere
pub at_one : {A : Type 0} (P : A → Type 0) (i : ℕ) (x : A) (f : ℕ → A) (j : ℕ) → (j ≡ i → P x) → ((j ≡ i → ⊥) → P (f j)) → P (at i x f j)
at_one P i x f j y n = cond_both (eqb j i) x (f j) P (λ t. y (eqb-true j i t)) (λ t. n (eqb-false j i t))

-- a value that is found is the new one at the changed place, or an old one elsewhere
pub at_case : {A : Type 0} (i : ℕ) (x : A) (f : ℕ → A) (j : ℕ) (y : A) → at i x f j ≡ y → ((j ≡ i) × (x ≡ y)) ⊎ ((j ≡ i → ⊥) × (f j ≡ y))
at_case i x f j y = cond_both (eqb j i) x (f j) (λ z. z ≡ y → ((j ≡ i) × (x ≡ y)) ⊎ ((j ≡ i → ⊥) × (f j ≡ y)))
    (λ e h. inl (eqb-true j i e, h)) (λ e h. inr (eqb-false j i e, h))

-- of hands that are there, where one took a turn
pub at_hands : {A : Type 0} (Q : ℕ → ℕ → A → Type 0) (i c : ℕ) (m : A) (f : ℕ → Stand A) → Q i c m → ((j d : ℕ) (n : A) → (j ≡ i → ⊥) → f j ≡ here d n → Q j d n) →
    (j d : ℕ) (n : A) → at i (here c m) f j ≡ here d n → Q j d n
at_hands {A} Q i c m f q others j d n e = ⊎_elim same (λ h. others j d n h.0 h.1) (at_case i (here c m) f j (here d n) e)
  where
    same : (j ≡ i) × (◌≡◌ {A = Stand A} (here c m) (here d n)) → Q j d n
    same h = let u : ◌≡◌ {A = Stand A} (here c m) (here d n) = h.1 in
        let a : i ≡ j = sym h.0 in let b : c ≡ d = cc in let k : m ≡ n = cc in subst₃ Q a b k q

-- who is away is not there
pub not_here : {A : Type 0} {c : ℕ} {m : A} → ◌≡◌ {A = Stand A} away (here c m) → ⊥
not_here e = let z : ◌≡◌ {A = ℕ} 0 1 = cc in omega arith

-- a filling is done only at the edition that it names
pub fillable_edition : (b : Box) (e : ℕ) (bs : List ℕ) → T (fillable b e bs) → e ≡ b.edition
fillable_edition b e bs t = go (eqb e b.edition) refl t
  where
    go : (z : Bool) → eqb e b.edition ≡ z → T (z && leb (length bs) 1048576 && all_bytes bs) → e ≡ b.edition
    go true x y = eqb-true e b.edition x
    go false x y = absurd y

-- the other places have what they had
pub at_other : {A : Type 0} (i : ℕ) (x : A) (f : ℕ → A) (j : ℕ) → (j ≡ i → ⊥) → at i x f j ≡ f j
at_other i x f j ne = at_one (λ z. z ≡ f j) i x f j (λ y. absurd (ne y)) (λ y. refl)

-- a place that is changed twice has the last value
pub at_twice : {A : Type 0} (b : ℕ) (x y : A) (f : ℕ → A) → at b x (at b y f) ≡ at b x f
at_twice b x y f = fun_ext (λ j. elim (eqb j b) as (λ t. cond t x (cond t y (f j)) ≡ cond t x (f j)) [ true ↦ refl | false ↦ refl ])

-- tests, as equations
pub is_true : (b : Bool) → T b → b ≡ true
is_true true t = refl
is_true false t = absurd t

pub is_false : (b : Bool) → T (not b) → b ≡ false
is_false true t = absurd t
is_false false t = refl
