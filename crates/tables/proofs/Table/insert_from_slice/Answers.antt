use Rattle.tables.proofs.Table.insert_from_slice.Goals as goal

pub returns-clause-items : goal.returns-clause-items
returns-clause-items g c = rw (← c.self.view_is) c.insert_from_slice-self-inside.ensures.items
