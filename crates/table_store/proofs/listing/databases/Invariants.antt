use Rattle.std.proofs.Common.{◌≡◌, ◌++◌, [], length}
use Rattle.table_words.specs.Tables.{databases}
use Rattle.table_store.specs.Found.{all_shown}
use Rattle.table_store.proofs.listing.databases.Given as goal

abbrev pub invariant-loop-rest : goal.invariant-loop-rest
invariant-loop-rest l = l.names ++ databases l.names (all_shown l.rest) ≡ databases [] (all_shown l.live)

abbrev pub decreases-loop-rest : goal.decreases-loop-rest
decreases-loop-rest l = length l.rest
