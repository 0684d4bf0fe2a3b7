use Rattle.std.proofs.Common.{◌≡◌, map, take}
use Rattle.pushdown.specs.Pushed.{element}
use Rattle.pushdown.proofs.term.elements.Given as goal

abbrev pub invariant-loop-item : goal.invariant-loop-item
invariant-loop-item l = l.made ≡ map element (take l.item-index l.items)
