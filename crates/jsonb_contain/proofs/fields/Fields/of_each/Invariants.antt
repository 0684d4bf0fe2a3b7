use Rattle.std.proofs.Common.{◌≡◌, [], length}
use Rattle.jsonb_contain.specs.Rising.{put_all}
use Rattle.jsonb_contain.proofs.fields.Fields.of_each.Given as goal

-- what is left, put into what was made, is all
abbrev pub invariant-loop-pair : goal.invariant-loop-pair
invariant-loop-pair g l = record {
  all : put_all l.fields l.pair-iterator.rest.items ≡ put_all [] l.fn.pairs.items;
  len : l.pair-iterator.rest.len ≡ length l.pair-iterator.rest.items;
}
