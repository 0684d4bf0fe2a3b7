use Rattle.std.proofs.Common.{◌≡◌, ◌++◌, length}
use Rattle.table_words.specs.Tables.{names_in}
use Rattle.table_store.specs.Found.{all_shown}
use Rattle.table_store.proofs.listing.names_in.Given as goal

abbrev pub invariant-loop-rest : goal.invariant-loop-rest
invariant-loop-rest l = l.names ++ names_in l.db (all_shown l.rest) ≡ names_in l.db (all_shown l.live)

abbrev pub decreases-loop-rest : goal.decreases-loop-rest
decreases-loop-rest l = length l.rest
