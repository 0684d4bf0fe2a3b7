use Rattle.table_store.proofs.Behind.{Left}
use Rattle.table_store.proofs.TableLoads.{SoFar}
use Rattle.table_store.proofs.loading.load_tables.Given as goal

-- those so far were loaded, and the others are left
abbrev pub invariant-loop-table : goal.invariant-loop-table
invariant-loop-table l = record {
  left : Left l.fn.tables l.yielded l.table-iterator.rest.items l.table-iterator.rest.len;
  so : SoFar l.yielded l.so_far;
}
