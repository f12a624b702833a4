use Rattle.std.proofs.Common.{◌≡◌, true, Ok, Err, sym, arith}
use Rattle.streams.specs.Calls.{entry_ok}
use Rattle.plans.specs.Model.{entry_of}
use Rattle.calls.specs.declared.kinds.Refusal.TheVariants.{Invalid, NoLog, NotBuilt}
use Rattle.calls.proofs.Alone.{same, invalid, no_such_log, taken, many_asked, few_asked, of_drop}
use Rattle.calls.proofs.kinds.Call.check.Goals as goal

pub returns-in-Put : goal.returns-in-Put
returns-in-Put c = same (Err Invalid) _ c.in-Put.is (invalid c.in-Put.log c.in-Put.entry _ (sym c.if-not-in_range.ensures))

pub returns-in-Put-2 : goal.returns-in-Put-2
returns-in-Put-2 c = let ok : entry_ok (entry_of c.in-Put-2.entry) ≡ true = cc in same (Err NoLog) _ c.in-Put-2.is (no_such_log c.in-Put-2.log c.in-Put-2.entry _ ok (omega arith))

pub returns-in-Out : goal.returns-in-Out
returns-in-Out c = same (Err Invalid) _ c.in-Out.is (many_asked c.in-Out.from c.in-Out.most _ c.if-most-gt-MOST.true)

pub returns-in-Drop : goal.returns-in-Drop
returns-in-Drop c = same (Err NotBuilt) _ c.in-Drop.is (of_drop c.in-Drop.before _)

pub returns-in-Put-3 : goal.returns-in-Put-3
returns-in-Put-3 c = let ok : entry_ok (entry_of c.in-Put-2.entry) ≡ true = cc in same (Ok tt) _ c.in-Put-2.is (taken c.in-Put-2.log c.in-Put-2.entry _ tt ok (omega arith))

pub returns-in-Put-3-2 : goal.returns-in-Put-3-2
returns-in-Put-3-2 c = same (Ok tt) _ c.in-Out.is (few_asked c.in-Out.from c.in-Out.most _ tt (omega arith))
