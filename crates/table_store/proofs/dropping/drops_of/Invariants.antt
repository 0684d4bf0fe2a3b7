use Rattle.std.proofs.Common.{◌≡◌, ◌++◌, length}
use Rattle.table_store.specs.Drops.{drops_of}
use Rattle.table_store.specs.Found.{all_shown}
use Rattle.table_store.proofs.dropping.drops_of.Given as goal

abbrev pub invariant-loop-rest : goal.invariant-loop-rest
invariant-loop-rest l = l.changes ++ drops_of l.db (all_shown l.rest) ≡ drops_of l.db (all_shown l.live)

abbrev pub decreases-loop-rest : goal.decreases-loop-rest
decreases-loop-rest l = length l.rest
