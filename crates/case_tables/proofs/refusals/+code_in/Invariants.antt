use Rattle.std.proofs.Common.{length}
use Rattle.case_tables.proofs.refusals.+code_in.Given as goal

abbrev pub decreases-code_in : goal.decreases-code_in
decreases-code_in l = length l.rows.now
