use Rattle.std.proofs.Common.{sym, ap, ◌∙◌, arith}
use Rattle.std.proofs.lemmas.List.Elements.{AllWithin-more_set}
use Rattle.outside.specs.Tables.{kept_tables, FitsIn}
use Rattle.outside.proofs.Rooms.{same_rows}
use Rattle.outside.proofs.tables.make_room.Goals as goal

pub returns-in_err-make_room-clause-tables : goal.returns-in_err-make_room-clause-tables
returns-in_err-make_room-clause-tables c =
    same_rows c.loop-place.tables.items c.loop-place.place c.index_mut-table.result.now c.make_room.new.self
    (sym c.index_mut-table.ensures.value) c.make_room.ensures.rows
    ∙ (c.loop-place.invariant.tables ∙ ap kept_tables c.reserve.ensures.items)

pub loop-place-preserved : goal.loop-place-preserved
loop-place-preserved c = record {
  tables = same_rows c.loop-place.tables.items c.loop-place.place c.index_mut-table.result.now c.make_room.new.self
      (sym c.index_mut-table.ensures.value) c.make_room.ensures.rows ∙ c.loop-place.invariant.tables;
  len = c.loop-place.invariant.len;
  creates = c.loop-place.invariant.creates;
  puts = AllWithin-more_set c.loop-place.tables.items c.loop-place.place _ (omega arith) (FitsIn c.args.changes.now)
      c.loop-place.invariant.puts (omega (arith, c.in_ok-make_room.ensures.spare, c.puts_to.ensures));
}
