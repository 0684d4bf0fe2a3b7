use Rattle.pushdown.proofs.Implied.{implied}
use Rattle.pushdown.proofs.laws.a_filter_implies_its_condition.Goals as goal

pub returns : goal.returns
returns c = implied c.values_compare_layer_by_layer.ensures c.a_key_tells_values_apart.ensures.same c.a_row_has_each_field.ensures
