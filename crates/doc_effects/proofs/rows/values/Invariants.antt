use Rattle.std.proofs.Common.{◌≡◌, length}
use Rattle.std.specs.List.{flat_map, fold}
use Rattle.distinct_values.specs.Distinct.{distinct, joined, values_at}
use Rattle.doc_model.specs.Step.{matching}
use Rattle.doc_history.specs.Docs.{docs_in_rows}
use Rattle.doc_effects.specs.Rows.{AreSound}
use Rattle.doc_effects.proofs.rows.values.Given as goal

abbrev pub invariant-loop-rest : goal.invariant-loop-rest
invariant-loop-rest l = record {
  sound : AreSound l.rest;
  values : fold joined l.values (flat_map (values_at l.path) (matching l.filter (docs_in_rows l.rest)))
      ≡ distinct l.path (matching l.filter (docs_in_rows l.rows));
}

abbrev pub decreases-loop-rest : goal.decreases-loop-rest
decreases-loop-rest l = length l.rest
