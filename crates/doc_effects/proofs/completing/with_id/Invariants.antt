use Rattle.std.proofs.Common.{◌≡◌, ◌∷◌, ◌++◌, codes, length}
use Rattle.doc_effects.proofs.completing.with_id.Given as goal

abbrev pub invariant-loop-rest : goal.invariant-loop-rest
invariant-loop-rest l = l.doc ++ l.rest ≡ record { name = codes "_id"; value = l.fn.id } ∷ l.fields

abbrev pub decreases-loop-rest : goal.decreases-loop-rest
decreases-loop-rest l = length l.rest
