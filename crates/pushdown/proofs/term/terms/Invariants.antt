use Rattle.std.proofs.Common.{◌≡◌, map, take}
use Rattle.pushdown.specs.Pushed.{term}
use Rattle.pushdown.proofs.term.terms.Given as goal

abbrev pub invariant-loop-value : goal.invariant-loop-value
invariant-loop-value l = l.made ≡ map (term l.part l.rest) (take l.value-index l.values)
