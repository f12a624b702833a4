-- Where a key stands among rows.
-- Assumes nothing.
use Rattle.std.specs.Prelude.{◌≡◌, ℕ, suc, ◌≤◌, true, false, List, ◌∷◌, length, take, drop, Some, None, Option}
use Rattle.book.specs.Rows.{Key, Row as BookRow, Bef, Upto, Each, eqk}
use Rattle.rows.specs.declared.row.Row.{Row}
use Rattle.rows.specs.Model.{row_of}

-- the first lo rows stand before k, and those from hi on do not
pub record Between (k : Key) (rs : List BookRow) (lo hi : ℕ) : Type 0 where
  pub order : lo ≤ hi
  pub within : hi ≤ length rs
  pub low : Each (λ c. Bef c k) (take lo rs)
  pub high : Each (Upto k) (drop hi rs)

abbrev pub Splits : Key → List BookRow → (i : ℕ) → Type 0
Splits k rs i = Between k rs i i

-- the row at i, if there is one and it is of that key
abbrev pub HeldAt : Key → List BookRow → (i : ℕ) → Option Row → Type 0
HeldAt k rs i None = (c : BookRow) → drop i rs ≡ c ∷ drop (suc i) rs → eqk k c.at ≡ false
HeldAt k rs i (Some r) = (drop i rs ≡ row_of r ∷ drop (suc i) rs) × (eqk k (row_of r).at ≡ true)
