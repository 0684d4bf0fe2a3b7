use Rattle.doc_store.proofs.Exits.{outcome-sound}
use Rattle.doc_store.proofs.changing.change_rows.Goals as goal

pub commit-requires : goal.commit-requires
commit-requires g c = record { sound = outcome-sound _ c.in-Ok.outcome c.in-Ok.ensures.settles }
