use Rattle.std.proofs.Common.{◌≡◌, ◌≤◌, drop, length}
use Rattle.std.specs.Cmp.Lexicographic.{slice_cmp}
use Rattle.bson_order.specs.Order.{rank_of, pair_cmp, compared}
use Rattle.bson_order.proofs.order.+compare.Given as goal

-- what was passed is the same
abbrev pub invariant-compare_arrays-loop-place : goal.invariant-compare_arrays-loop-place
invariant-compare_arrays-loop-place l = record {
  within : l.place ≤ length l.others;
  left : slice_cmp compared (drop l.place l.item-items) (drop l.place l.others) ≡ slice_cmp compared l.item-items l.others;
}

abbrev pub invariant-compare_documents-loop-place : goal.invariant-compare_documents-loop-place
invariant-compare_documents-loop-place l = record {
  within : l.place ≤ length l.others;
  left : slice_cmp (pair_cmp rank_of compared) (drop l.place l.pair-items) (drop l.place l.others)
      ≡ slice_cmp (pair_cmp rank_of compared) l.pair-items l.others;
}
