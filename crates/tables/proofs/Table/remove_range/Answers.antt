use Rattle.tables.proofs.Table.remove_range.Goals as goal

pub returns-clause-items : goal.returns-clause-items
returns-clause-items g c = rw (← c.self.view_is) c.remove_range-self-inside.ensures.items
