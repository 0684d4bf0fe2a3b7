use Rattle.std.proofs.Common.{◌≡◌, ◌++◌, map}
use Rattle.filter_syntax.specs.declared.filter.Filter.TheVariants as filter
use Rattle.filter_syntax.proofs.paths.put_all.Given as goal

abbrev pub invariant-loop-test : goal.invariant-loop-test
invariant-loop-test l = l.out ≡ l.initial.out ++ map (filter.On l.path) l.yielded
