use Rattle.std.proofs.Common.{◌≡◌, ◌++◌, length}
use Rattle.table_words.specs.Step.{edited}
use Rattle.table_store.specs.Edits.{others}
use Rattle.table_store.proofs.editing.apply_others.Given as goal

abbrev pub invariant-loop-edit : goal.invariant-loop-edit
invariant-loop-edit l = l.table ≡ record l.initial.table { rows = edited (others l.key l.yielded) l.initial.table.rows }
