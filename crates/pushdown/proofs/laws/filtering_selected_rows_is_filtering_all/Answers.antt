use Rattle.pushdown.proofs.Selected.{found_anyway}
use Rattle.pushdown.proofs.laws.filtering_selected_rows_is_filtering_all.Goals as goal

pub returns : goal.returns
returns c = found_anyway c.a_filter_implies_its_condition.ensures
