use Rattle.table_store.proofs.TableLoads.{named-next}
use Rattle.table_store.proofs.loading.may_name.Goals as goal

pub returns-then-is_valid : goal.returns-then-is_valid
returns-then-is_valid c = named-next c.args.live.now c.args.space.now _ _ c.is_valid.ensures c.if-is_valid.true c.has_space.ensures
