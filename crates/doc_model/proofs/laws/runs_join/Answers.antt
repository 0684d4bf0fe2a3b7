use Rattle.doc_model.proofs.Runs.{run-append, whos-append}
use Rattle.doc_model.proofs.laws.runs_join.Goals as goal

pub returns-clause-append : goal.returns-clause-append
returns-clause-append c = run-append

pub returns-clause-whos : goal.returns-clause-whos
returns-clause-whos c = whos-append
