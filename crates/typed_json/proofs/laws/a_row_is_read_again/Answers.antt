use Rattle.typed_json.proofs.Printed.{rows_read_again}
use Rattle.typed_json.proofs.laws.a_row_is_read_again.Goals as goal

pub returns : goal.returns
returns c = rows_read_again
