use Rattle.table_store.specs.LoadingSteps.{HasRows}
use Rattle.table_store.proofs.Behind.{Left}
use Rattle.table_store.proofs.kept_rows.load_rows.Given as goal

-- those so far were loaded, and the others are left
abbrev pub invariant-loop-row : goal.invariant-loop-row
invariant-loop-row l = record {
  left : Left l.fn.rows l.yielded l.row-iterator.rest.items l.row-iterator.rest.len;
  has : HasRows l.number l.yielded l.table l.least;
}
