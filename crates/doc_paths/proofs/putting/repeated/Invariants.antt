use Rattle.std.proofs.Common.{◌≡◌, replicate}
use Rattle.doc_paths.proofs.putting.repeated.Given as goal

abbrev pub invariant-loop : goal.invariant-loop
invariant-loop l = l.items ≡ replicate l.counter l.it
