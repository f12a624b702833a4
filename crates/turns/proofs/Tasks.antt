-- What is wanted, once no full out page is in the tail.
-- Assumes nothing.
use Rattle.std.proofs.Common.{◌≡◌, ℕ, ◌<◌, length, sym, ap, arith}
use Rattle.std.proofs.lemmas.Bool.{lt-leb}
use Rattle.std.proofs.lemmas.List.{length-map}
use Rattle.book.specs.Due.{Sizes, Due, Nothing, Do, Step, due}
use Rattle.book.specs.Ledger.{Rest, Want, Tidy, wanted, wanted_by, watermark}
use Rattle.plans.specs.Model.{event_in}
use Rattle.ledgers.specs.declared.Ledger.{Ledger as Code}
use Rattle.ledgers.specs.Model.{ledger_of}

wanted_tidy : (z : Sizes) (late mark : ℕ) (x : Code) (d : Due) → length x.tail.items < z.outs → mark ≡ watermark late (ledger_of x).logs → d ≡ due z mark (ledger_of x).queue → wanted_by d ≡ wanted z late (ledger_of x)
wanted_tidy z late mark x d short m e = rw (lt-leb z.outs (length (ledger_of x).tail) (omega (arith, short, length-map x.tail.items event_in)), sym m) (ap wanted_by e)

module _ (z : Sizes) (late mark : ℕ) (x : Code) (short : length x.tail.items < z.outs) (m : mark ≡ watermark late (ledger_of x).logs) where
  pub wanted_none : Nothing ≡ due z mark (ledger_of x).queue → Rest ≡ wanted z late (ledger_of x)
  unfolding wanted_by
  wanted_none e = wanted_tidy z late mark x Nothing short m e

  pub wanted_step : (s : Step) → Do s ≡ due z mark (ledger_of x).queue → Want (Tidy s) ≡ wanted z late (ledger_of x)
  unfolding wanted_by
  wanted_step s e = wanted_tidy z late mark x (Do s) short m e
