-- What the code's answer says of a number in a line. Assumes nothing.
use Rattle.std.specs.Prelude.{ℕ, List, Ok, Err, Result}
use Rattle.std.specs.Borrow.{Bor}
use Rattle.scripts.specs.declared.commands.Complaint.{Complaint}
use Rattle.scripts.specs.Lines.{Number}

abbrev pub read_of : Result (ℕ × Bor (List ℕ)) Complaint → Number
read_of (Ok x) = Ok (x.0, x.1.now)
read_of (Err why) = Err why
