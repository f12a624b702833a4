-- What the sizes of the code stand for in the definitions of the book.
-- Assumes nothing.
use Rattle.book.specs.Due as book
use Rattle.sizes.specs.declared.Sizes.{Sizes}

abbrev pub sizes_of : Sizes → book.Sizes
sizes_of z = record { front = z.front; buffer = z.buffer; rows = z.rows; segments = z.segments; emits = z.emits; outs = z.outs; log = z.log }
