-- What is said of a refusal: docs/PLANS.md, "Refusals". Assumes nothing.
use Rattle.std.specs.Prelude.{ℕ, List, codes}
use Rattle.grammar.specs.declared.refusals.Why.{Why}
use Rattle.grammar.specs.declared.refusals.Why.TheVariants.{Long, Late, Number, Large, Joined, Lateness, Semicolon, Stages, Window, Size, Aggregate, Operand, Close, Deep, Parts, Chained}

abbrev pub reason : Why → List ℕ
reason Long = codes "a plan has at most 65536 bytes"
reason Late = codes "expected `late`"
reason Number = codes "expected a number"
reason Large = codes "a number is below 18446744073709551616"
reason Joined = codes "a letter stands right behind a number"
reason Lateness = codes "a lateness is at most 1099511627776"
reason Semicolon = codes "expected `;`"
reason Stages = codes "a plan has at most 8 stages"
reason Window = codes "expected `in`"
reason Size = codes "a size is 1 to 1099511627776"
reason Aggregate = codes "expected `count`, `total`, `least` or `greatest`"
reason Operand = codes "expected a number, `time`, `key`, `value`, `!` or `(`"
reason Close = codes "expected `)`"
reason Deep = codes "brackets stand at most 64 deep"
reason Parts = codes "an expression has at most 64 parts"
reason Chained = codes "`<` and `=` do not chain"
