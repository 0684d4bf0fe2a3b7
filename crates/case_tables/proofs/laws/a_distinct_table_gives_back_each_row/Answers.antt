use Rattle.case_tables.proofs.Distinct.{found_again}
use Rattle.case_tables.proofs.laws.a_distinct_table_gives_back_each_row.Goals as goal

pub returns : goal.returns
returns c = found_again
