use Rattle.std.proofs.Common.{◌≡◌, ◌≤◌, length, map, drop, ◌+◌, ◌-◌}
use Rattle.bson_values.specs.Cut.{further}
use Rattle.bson_values.specs.Measures.{size}
use Rattle.doc_effects.proofs.answers.batch_len.Given as goal

abbrev pub invariant-loop-doc : goal.invariant-loop-doc
invariant-loop-doc l = record {
  counts : l.count + further l.bytes (map size (drop l.count l.docs)) (l.most - l.count)
      ≡ further l.first (map size (drop 1 l.docs)) (l.most - 1) + 1;
  within : l.count ≤ length l.docs;
  most : l.count ≤ l.most;
}

abbrev pub decreases-loop-doc : goal.decreases-loop-doc
decreases-loop-doc l = length l.docs - l.count
