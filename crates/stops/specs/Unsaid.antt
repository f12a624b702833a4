-- What is left to say of a stop. Assumes nothing.
use Rattle.std.specs.Prelude.{ℕ, List, Some, None, Option, codes}
use Rattle.stops.specs.declared.Stop.{Stop}
use Rattle.stops.specs.declared.Stop.TheVariants.{Said, Memory, Io}

abbrev pub unsaid : Stop → Option (List ℕ)
unsaid Said = None
unsaid Memory = Some (codes "no memory")
unsaid (Io e) = Some (codes "reading or writing failed")
