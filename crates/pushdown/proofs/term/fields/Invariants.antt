use Rattle.std.proofs.Common.{◌≡◌, map}
use Rattle.pushdown.specs.Pushed.{field}
use Rattle.pushdown.proofs.term.fields.Given as goal

abbrev pub invariant-loop-value : goal.invariant-loop-value
invariant-loop-value l = l.made ≡ map (field l.name) l.yielded
