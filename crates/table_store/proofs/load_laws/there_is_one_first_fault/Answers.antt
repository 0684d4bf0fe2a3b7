use Rattle.table_store.proofs.LoadLaws.{one_fault}
use Rattle.table_store.proofs.load_laws.there_is_one_first_fault.Goals as goal

pub returns : goal.returns
returns c = one_fault
