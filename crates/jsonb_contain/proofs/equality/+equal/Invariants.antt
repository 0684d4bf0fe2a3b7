use Rattle.std.proofs.Common.{◌≡◌, ◌↔◌, drop}
use Rattle.jsonb_contain.proofs.equality.+equal.Given as goal

-- all are equal where those that are left are
abbrev pub invariant-are_equal-loop-one : goal.invariant-are_equal-loop-one
invariant-are_equal-loop-one l = (l.ones ≡ l.others) ↔ (drop l.one-index l.ones ≡ l.rest)

abbrev pub invariant-fields_are_equal-loop-one : goal.invariant-fields_are_equal-loop-one
invariant-fields_are_equal-loop-one l = (l.ones ≡ l.others) ↔ (drop l.one-index l.one-items ≡ l.rest)
