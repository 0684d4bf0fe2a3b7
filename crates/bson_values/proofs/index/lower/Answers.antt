use Rattle.std.proofs.Common.{rules, ap, ◌∙◌}
use Rattle.std.proofs.lemmas.Map.Made.{map_same_pairs, lookup-map_values}
use Rattle.std.specs.BTreeMap.{is_at}
use Rattle.std.specs.Cmp.Lexicographic.{slice_cmp}
use Rattle.std.specs.Map.{lookup}
use Rattle.std.specs.Ordering.{nat_cmp}
use Rattle.std.specs.String.{string_bytes}
use Rattle.bson_values.specs.Places.{lowered}
use Rattle.bson_values.proofs.index.lower.Goals as goal

-- the closure keeps each name, and lowers its place
pub returns : goal.returns
returns c = λ name.
    let kept = map_same_pairs _ (lowered c.args.gone) _
    (λ k v b w f' t. search rules) c.args.index.now.entries c.retain.new.self.entries c.retain.ensures.filtered in
    let at = is_at (λ k. slice_cmp nat_cmp name (string_bytes k)) in
    ap (lookup at) kept ∙ lookup-map_values (lowered c.args.gone) at c.args.index.now.entries
