-- What a table holds: its items, and how many there is room for.
-- Assumes nothing.
use Rattle.std.specs.Prelude.{ℕ, List, refl}
use Rattle.std.specs.Coded.{Coded, code_by, coded×, coded_ℕ, coded_list}

pub record Lent (T : Type 0) : Type 0 where
  pub items : List T
  pub room : ℕ

-- it is stored as the pair of its fields
abbrev pub lent_code : {T : Type 0} → Coded T → Coded (Lent T)
lent_code {T} c = code_by (List T × ℕ) (coded× (coded_list c) coded_ℕ) (λ l. (l.items, l.room)) (λ p. record { items = p.0; room = p.1 }) (λ _. refl)
