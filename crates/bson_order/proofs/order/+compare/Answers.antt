use Rattle.std.proofs.Common.{arith}
use Rattle.bson_order.specs.Order.{rank_of, pair_cmp, compared}
use Rattle.bson_order.proofs.Ends.{both_ended}
use Rattle.bson_order.proofs.order.+compare.Goals as goal

pub compare_arrays-returns : goal.compare_arrays-returns
compare_arrays-returns t c =
    both_ended compared _ _ _ _ c.loop-place.place _ _ _ c.as_slice-item-items.ensures c.as_slice-others.ensures (omega arith)
    c.loop-place.invariant.within c.loop-place.invariant.left c.len.ensures c.len-2.ensures c.cmp.ensures

pub compare_documents-returns : goal.compare_documents-returns
compare_documents-returns t c =
    both_ended (pair_cmp rank_of compared) _ _ _ _ c.loop-place.place _ _ _ c.as_slice-pair-items.ensures c.as_slice-others.ensures
    (omega arith)
    c.loop-place.invariant.within c.loop-place.invariant.left c.len.ensures c.len-2.ensures c.cmp.ensures
