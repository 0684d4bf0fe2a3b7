use Rattle.std.proofs.Common.{◌≡◌, take}
use Rattle.jsonb_contain.proofs.+copy_cond.Given as goal

abbrev pub invariant-copying::copy_conds-loop-cond : goal.invariant-copying::copy_conds-loop-cond
invariant-copying::copy_conds-loop-cond l = l.copied ≡ take l.cond-index l.cond-items
