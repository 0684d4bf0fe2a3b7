use Rattle.std.proofs.Common.{◌≡◌, length}
use Rattle.table_words.specs.Tables.{has_text}
use Rattle.table_store.proofs.listing.has_text.Given as goal

abbrev pub invariant-loop-rest : goal.invariant-loop-rest
invariant-loop-rest l = has_text l.name l.rest ≡ has_text l.name l.names

abbrev pub decreases-loop-rest : goal.decreases-loop-rest
decreases-loop-rest l = length l.rest
