use Rattle.std.proofs.Common.{◌≡◌, ◌++◌, length}
use Rattle.table_store.specs.Edits.{puts}
use Rattle.table_store.proofs.changes.add_puts.Given as goal

abbrev pub invariant-loop-rest : goal.invariant-loop-rest
invariant-loop-rest l = l.changes ++ puts l.number l.table.rows l.rest ≡ l.initial.changes ++ puts l.number l.table.rows l.edits

abbrev pub decreases-loop-rest : goal.decreases-loop-rest
decreases-loop-rest l = length l.rest
