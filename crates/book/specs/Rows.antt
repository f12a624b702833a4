-- Rows: the value so far of a window, stage and key; sorted rows; rows added.
-- Assumes nothing.
use Rattle.std.specs.Prelude.{◌≡◌, ℕ, ◌+◌, ◌%◌, ◌<◌, ◌≤◌, Bool, cond, ◌&&◌, ◌||◌, ◌⊎◌, List, [], ◌∷◌, ◌==◌, nat_lt}
use Rattle.streams.specs.Meaning.{Sum, Count, Total, Least, Greatest, top}

pub record Key : Type 0 where
  pub end : ℕ
  pub stage : ℕ
  pub key : ℕ

pub record Row : Type 0 where
  pub at : Key
  pub value : ℕ

-- the order of keys, and its tests
abbrev pub Bef : Key → Key → Type 0
Bef a b = (a.end < b.end) ⊎ ((a.end ≡ b.end) × ((a.stage < b.stage) ⊎ ((a.stage ≡ b.stage) × (a.key < b.key))))

unfoldable pub ltk : Key → Key → Bool
ltk a b = nat_lt a.end b.end || (a.end == b.end && (nat_lt a.stage b.stage || (a.stage == b.stage && nat_lt a.key b.key)))

unfoldable pub eqk : Key → Key → Bool
eqk a b = a.end == b.end && (a.stage == b.stage && a.key == b.key)

-- two values of one key put together
unfoldable pub put : Sum → ℕ → ℕ → ℕ
put Count a b = (a + b) % top
put Total a b = (a + b) % top
put Least a b = cond (nat_lt b a) b a
put Greatest a b = cond (nat_lt a b) b a

abbrev pub join : (ℕ → Sum) → Row → Row → Row
join how c r = record { at = c.at; value = put (how c.at.stage) c.value r.value }

-- a row among sorted rows, joined with the row of its key if there is one
unfoldable pub add : (ℕ → Sum) → Row → List Row → List Row
add how r [] = r ∷ []
add how r (c ∷ cs) = cond (ltk r.at c.at) (r ∷ c ∷ cs) (cond (eqk r.at c.at) (join how c r ∷ cs) (c ∷ add how r cs))

-- rows added to sorted rows
unfoldable pub onto : (ℕ → Sum) → List Row → List Row → List Row
onto how [] acc = acc
onto how (r ∷ rs) acc = add how r (onto how rs acc)

-- of each key of the rows
abbrev pub Each : (Key → Type 0) → List Row → Type 0
Each P [] = Unit {0}
Each P (c ∷ cs) = P c.at × Each P cs

-- all after a key; sorted
abbrev pub Above : Key → List Row → Type 0
Above k cs = Each (Bef k) cs

abbrev pub Sorted : List Row → Type 0
Sorted [] = Unit {0}
Sorted (c ∷ cs) = Above c.at cs × Sorted cs

-- at or after
abbrev pub Upto : Key → Key → Type 0
Upto a b = (a.end < b.end) ⊎ ((a.end ≡ b.end) × ((a.stage < b.stage) ⊎ ((a.stage ≡ b.stage) × (a.key ≤ b.key))))
