-- The order in which cells stand and events come out: by rising ends (times), then by rising keys.
-- Assumes nothing.
use Rattle.std.specs.Prelude.{◌≡◌, ℕ, ◌<◌, ◌≤◌, Bool, ◌&&◌, ◌||◌, ◌⊎◌, List, [], ◌∷◌, ◌==◌, nat_lt}
use Rattle.streams.specs.Meaning.{Event, Cell}

-- one pair of end and key before another, and its test
abbrev pub Bef : ℕ → ℕ → ℕ → ℕ → Type 0
Bef n k m j = (n < m) ⊎ ((n ≡ m) × (k < j))

abbrev pub before : ℕ → ℕ → ℕ → ℕ → Bool
before n k m j = nat_lt n m || (n == m && nat_lt k j)

-- all cells are after an end and key; each is after those in front of it
abbrev pub Above : ℕ → ℕ → List Cell → Type 0
Above n k [] = Unit {0}
Above n k (c ∷ cs) = Bef n k c.end c.key × Above n k cs

abbrev pub Sorted : List Cell → Type 0
Sorted [] = Unit {0}
Sorted (c ∷ cs) = Above c.end c.key cs × Sorted cs

-- the same of events
abbrev pub After : ℕ → ℕ → List Event → Type 0
After t k [] = Unit {0}
After t k (e ∷ es) = Bef t k e.time e.key × After t k es

abbrev pub Rising : List Event → Type 0
Rising [] = Unit {0}
Rising (e ∷ es) = After e.time e.key es × Rising es

-- events that are all at a time or after; all before a time
abbrev pub Since : ℕ → List Event → Type 0
Since m [] = Unit {0}
Since m (e ∷ es) = (m ≤ e.time) × Since m es

abbrev pub Until : ℕ → List Event → Type 0
Until m [] = Unit {0}
Until m (e ∷ es) = (e.time < m) × Until m es
