use Rattle.std.proofs.Common.{◌≡◌, ◌++◌, length}
use Rattle.table_store.specs.Edits.{cuts}
use Rattle.table_store.proofs.changes.add_cuts.Given as goal

abbrev pub invariant-loop-rest : goal.invariant-loop-rest
invariant-loop-rest l = l.changes ++ cuts l.number l.rest ≡ l.initial.changes ++ cuts l.number l.edits

abbrev pub decreases-loop-rest : goal.decreases-loop-rest
decreases-loop-rest l = length l.rest
