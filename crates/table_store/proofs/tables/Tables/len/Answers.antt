use Rattle.std.proofs.Common.{length, ap, sym, ◌∙◌}
use Rattle.table_store.proofs.Creations.{length-shown}
use Rattle.table_store.proofs.tables.Tables.len.Goals as goal

pub returns-clause-len : goal.returns-clause-len
returns-clause-len g c = rw (← c.self.view_is) (ap length c.as_slice.ensures.value ∙ sym (length-shown c.self.inside.tables.live.items))
