use Rattle.std.proofs.Common.{◌≡◌, map}
use Rattle.jsonb_contain.specs.declared.cond.Cond.TheVariants as cond_of
use Rattle.pushdown.proofs.term.each_at.Given as goal

abbrev pub invariant-loop-shape : goal.invariant-loop-shape
invariant-loop-shape l = l.made ≡ map (cond_of.AtKey l.part) l.yielded
