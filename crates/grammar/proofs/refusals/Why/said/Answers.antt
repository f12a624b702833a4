use Rattle.grammar.proofs.refusals.Why.said.Goals as goal

pub returns-in-Long : goal.returns-in-Long
returns-in-Long c = rw c.in-Long.is

pub returns-in-Late : goal.returns-in-Late
returns-in-Late c = rw c.in-Late.is

pub returns-in-Number : goal.returns-in-Number
returns-in-Number c = rw c.in-Number.is

pub returns-in-Large : goal.returns-in-Large
returns-in-Large c = rw c.in-Large.is

pub returns-in-Joined : goal.returns-in-Joined
returns-in-Joined c = rw c.in-Joined.is

pub returns-in-Lateness : goal.returns-in-Lateness
returns-in-Lateness c = rw c.in-Lateness.is

pub returns-in-Semicolon : goal.returns-in-Semicolon
returns-in-Semicolon c = rw c.in-Semicolon.is

pub returns-in-Stages : goal.returns-in-Stages
returns-in-Stages c = rw c.in-Stages.is

pub returns-in-Window : goal.returns-in-Window
returns-in-Window c = rw c.in-Window.is

pub returns-in-Size : goal.returns-in-Size
returns-in-Size c = rw c.in-Size.is

pub returns-in-Aggregate : goal.returns-in-Aggregate
returns-in-Aggregate c = rw c.in-Aggregate.is

pub returns-in-Operand : goal.returns-in-Operand
returns-in-Operand c = rw c.in-Operand.is

pub returns-in-Close : goal.returns-in-Close
returns-in-Close c = rw c.in-Close.is

pub returns-in-Deep : goal.returns-in-Deep
returns-in-Deep c = rw c.in-Deep.is

pub returns-in-Parts : goal.returns-in-Parts
returns-in-Parts c = rw c.in-Parts.is

pub returns-in-Chained : goal.returns-in-Chained
returns-in-Chained c = rw c.in-Chained.is
