use Rattle.table_store.proofs.LoadLaws.{no_fault}
use Rattle.table_store.proofs.load_laws.loaded_tables_have_no_fault.Goals as goal

pub returns : goal.returns
returns c = no_fault
