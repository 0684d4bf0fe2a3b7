use Rattle.std.proofs.Common.{refl}
use Rattle.table_store.proofs.Calls.{selected-ran}
use Rattle.table_store.proofs.live.LiveTables.select.Goals as goal

pub returns-in-Ok : goal.returns-in-Ok
returns-in-Ok g c = record {
  ran =
      selected-ran _ _ _ _ _ _ (rw (c.deref.ensures.value, ← c.index.ensures) at (c.in-Some.ensures.there c.index.result.now))
      c.in-Ok.ensures c.stamp.ensures;
}
