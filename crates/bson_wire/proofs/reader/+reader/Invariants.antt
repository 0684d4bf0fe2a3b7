use Rattle.std.proofs.Common.{◌+◌, ◌*◌, [], length}
use Rattle.bson_wire.specs.Grammar.{pair_of, kept, values}
use Rattle.bson_wire.specs.Reading.{document_at, array_at, Before}
use Rattle.bson_wire.proofs.Elements.{Goes, kept-more, items-more}
use Rattle.bson_wire.proofs.reader.+reader.Given as goal

-- a container reads its inside with a level less; within it go elements, then an element, then its value
abbrev pub decreases-document : goal.decreases-document
decreases-document l = 4 * l.levels

abbrev pub decreases-array : goal.decreases-array
decreases-array l = 4 * l.levels

abbrev pub decreases-value : goal.decreases-value
decreases-value l = 4 * l.levels + 1

abbrev pub decreases-element : goal.decreases-element
decreases-element l = 4 * l.levels + 2

abbrev pub decreases-elements : goal.decreases-elements
decreases-elements l = 4 * l.levels + 3

abbrev pub decreases-items : goal.decreases-items
decreases-items l = 4 * l.levels + 3

-- what was read so far and what stands in the rest are all elements
abbrev pub invariant-elements-loop-rest : goal.invariant-elements-loop-rest
invariant-elements-loop-rest l =
    Goes (document_at l.levels) (array_at l.levels) l.end kept pair_of kept-more l.bytes l.rest l.pairs l.foreign
    × Before l.end l.foreign

abbrev pub decreases-elements-loop-rest : goal.decreases-elements-loop-rest
decreases-elements-loop-rest l = length l.rest

abbrev pub invariant-items-loop-rest : goal.invariant-items-loop-rest
invariant-items-loop-rest l = Goes (document_at l.levels) (array_at l.levels) l.end (λ elements. values (kept elements))
    (λ name value. values (pair_of [] value)) items-more l.bytes l.rest l.items l.foreign × Before l.end l.foreign

abbrev pub decreases-items-loop-rest : goal.decreases-items-loop-rest
decreases-items-loop-rest l = length l.rest
