-- Lines of a text. Assumes nothing.
use Rattle.std.specs.Prelude.{ℕ, ◌<◌, ◌≤◌, List, ◌≢◌, slice_index}

-- no line feed stands from one place up to another
abbrev pub NoLineEnd : List ℕ → (from to : ℕ) → Type 0
NoLineEnd text from to = (k : ℕ) → from ≤ k → k < to → slice_index text k ≢ 10
