use Rattle.std.proofs.Common.{◌≡◌, map, take}
use Rattle.doc_shape.specs.Shown.{shown}
use Rattle.doc_effects.proofs.answers.shown_all.Given as goal

abbrev pub invariant-loop-doc : goal.invariant-loop-doc
invariant-loop-doc l = l.all ≡ map (shown l.shape) (take l.doc-index l.fn.docs)
