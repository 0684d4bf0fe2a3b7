use Rattle.std.proofs.Common.{◌≡◌, take, map, All}
use Rattle.outside.specs.Tables.{change_of, IsReady}
use Rattle.outside.proofs.tables.steps_of.Given as goal

abbrev pub invariant-loop-change : goal.invariant-loop-change
invariant-loop-change l = record {
  changes : map change_of l.steps.items ≡ take l.change-index l.changes;
  ready : All (IsReady l.changes) l.steps.items;
}
