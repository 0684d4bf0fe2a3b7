use Rattle.std.proofs.Common.{◌≡◌, length}
use Rattle.table_words.specs.Tables.{named}
use Rattle.table_store.specs.Found.{all_shown}
use Rattle.table_store.proofs.finding.number_of.Given as goal

abbrev pub invariant-loop-rest : goal.invariant-loop-rest
invariant-loop-rest l = named l.space (all_shown l.rest) ≡ named l.space (all_shown l.live)

abbrev pub decreases-loop-rest : goal.decreases-loop-rest
decreases-loop-rest l = length l.rest
