-- What the values of the code, and the words of rows in memory, stand for in the definitions of the book.
-- Assumes nothing.
use Rattle.std.specs.Prelude.{ℕ, List, map, slice_index}
use Rattle.streams.specs.Meaning.{Sum}
use Rattle.book.specs.Flow.{how_of}
use Rattle.book.specs.Rows as book
use Rattle.plans.specs.declared.stages.Stage.{Stage}
use Rattle.plans.specs.Model.{stage_of}
use Rattle.rows.specs.declared.row.RowKey.{RowKey}
use Rattle.rows.specs.declared.row.Row.{Row}

abbrev pub key_of : RowKey → book.Key
key_of k = record { end = k.end.0; stage = k.stage.0; key = k.key.0 }

abbrev pub row_of : Row → book.Row
row_of r = record { at = key_of r.at; value = r.value.0 }

-- the row in its words, and all rows in memory
abbrev pub row_in : List ℕ → book.Row
row_in ws = record {
  at = record { end = slice_index ws 0; stage = slice_index ws 1; key = slice_index ws 2 };
  value = slice_index ws 3;
}

abbrev pub rows_of : List (List ℕ) → List book.Row
rows_of slots = map row_in slots

-- how the values of each stage are put together
abbrev pub aggregates_of : List Stage → ℕ → Sum
aggregates_of stages = how_of (map stage_of stages)
