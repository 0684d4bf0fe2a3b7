use Rattle.table_store.proofs.Loads.{ready-loaded}
use Rattle.table_store.proofs.tables.Tables.load.Goals as goal

pub invariant_of-result : goal.invariant_of-result
invariant_of-result g c = ready-loaded _ _ _ _ c.in-Ok.ensures.tables c.in-Ok.ensures.told c.in-Ok-load_tables.ensures.ok
