use Rattle.std.proofs.Common.{sym, refl, arith, []}
use Rattle.outside.specs.declared.kept.Change.TheVariants as change
use Rattle.outside.specs.Changes.{put_row, cut_row}
use Rattle.outside.proofs.Rooms.{over, over_nothing, out, out_nothing, created, dropped, replaced, at_place, takes_one}
use Rattle.outside.proofs.tables.make.Goals as goal

pub returns-in-Create-clause-room : goal.returns-in-Create-clause-room
returns-in-Create-clause-room c = λ rest ready room.
    let had = rw c.in-Create.is at room in
    let fits = rw c.in-Create.is at ready in
    created _ _ c.in-Create.table rest had fits.1 c.push_reserved.ensures.items c.push_reserved.ensures.len c.push_reserved.ensures.capacity

pub returns-in-Some-clause-tables : goal.returns-in-Some-clause-tables
returns-in-Some-clause-tables c =
    let is = rw c.deref.ensures.value at c.in-Some.ensures in
    rw (c.in-Drop.is, c.remove.ensures.items) (out c.in-Drop.number c.args.tables.now.items c.in-Some.place is)

pub returns-in-Some-clause-room : goal.returns-in-Some-clause-room
returns-in-Some-clause-room c = λ rest ready room.
    dropped _ _ c.in-Some.place _ rest room c.remove.ensures.items c.remove.ensures.len c.remove.ensures.capacity

pub returns-in-Drop-clause-tables : goal.returns-in-Drop-clause-tables
returns-in-Drop-clause-tables c =
    let is = rw c.deref.ensures.value at c.in_default.ensures in
    rw c.in-Drop.is (out_nothing c.in-Drop.number c.args.tables.now.items is)

pub put-requires : goal.put-requires
put-requires c =
    let is = rw c.deref-in-Put.ensures.value at c.in-Some-place_of.ensures in
    let had = rw c.in-Put.is at c.requires.room in
    let row = c.in-Put.row in
    omega (
      arith,
      takes_one c.in-Put.number row.place row.key row.text [] c.args.tables.now.items c.in-Some-place_of.place
          c.index_mut-table.result.now is (sym c.index_mut-table.ensures.value) had.puts,
    )

pub returns-in-Some-place_of-clause-tables : goal.returns-in-Some-place_of-clause-tables
returns-in-Some-place_of-clause-tables c =
    let is = rw c.deref-in-Put.ensures.value at c.in-Some-place_of.ensures in
    rw c.in-Put.is (over c.in-Put.number (put_row c.in-Put.row) c.args.tables.now.items c.in-Some-place_of.place
    c.index_mut-table.result.now c.put.new.self is (sym c.index_mut-table.ensures.value) c.put.ensures.rows)

pub returns-in-Some-place_of-clause-room : goal.returns-in-Some-place_of-clause-room
returns-in-Some-place_of-clause-room c = λ rest ready room.
    let is = rw c.deref-in-Put.ensures.value at c.in-Some-place_of.ensures in
    let had = rw c.in-Put.is at room in
    let row = c.in-Put.row in
    let least = takes_one c.in-Put.number row.place row.key row.text rest c.args.tables.now.items c.in-Some-place_of.place
    c.index_mut-table.result.now is (sym c.index_mut-table.ensures.value) had.puts in
    replaced _ _ c.in-Some-place_of.place _ _ rest room (omega (arith, least, c.put.ensures.spare)) refl refl refl

pub returns-in-Put-clause-tables : goal.returns-in-Put-clause-tables
returns-in-Put-clause-tables c =
    let is = rw c.deref-in-Put.ensures.value at c.in_default-place_of.ensures in
    rw c.in-Put.is (over_nothing c.in-Put.number (put_row c.in-Put.row) c.args.tables.now.items is)

pub returns-in-Some-place_of-2-clause-tables : goal.returns-in-Some-place_of-2-clause-tables
returns-in-Some-place_of-2-clause-tables c =
    let is = rw c.deref-in-Cut.ensures.value at c.in-Some-place_of-2.ensures in
    let table = c.index_mut-table-in-Some-place_of-2 in
    rw c.in-Cut.is (over c.in-Cut.number (cut_row c.in-Cut.key) c.args.tables.now.items c.in-Some-place_of-2.place
    table.result.now c.cut.new.self is (sym table.ensures.value) c.cut.ensures.rows)

pub returns-in-Some-place_of-2-clause-room : goal.returns-in-Some-place_of-2-clause-room
returns-in-Some-place_of-2-clause-room c = λ rest ready room.
    let is = rw c.deref-in-Cut.ensures.value at c.in-Some-place_of-2.ensures in
    let had = rw c.in-Cut.is at room in
    let table = c.index_mut-table-in-Some-place_of-2 in
    let least = at_place (change.Cut c.in-Cut.number c.in-Cut.key) rest c.in-Cut.number c.args.tables.now.items
    c.in-Some-place_of-2.place table.result.now is (sym table.ensures.value) had.puts in
    replaced _ _ c.in-Some-place_of-2.place _ _ rest room (omega (arith, least, c.cut.ensures.spare)) refl refl refl

pub returns-clause-tables : goal.returns-clause-tables
returns-clause-tables c =
    let is = rw c.deref-in-Cut.ensures.value at c.in_default-place_of-2.ensures in
    rw c.in-Cut.is (over_nothing c.in-Cut.number (cut_row c.in-Cut.key) c.args.tables.now.items is)
