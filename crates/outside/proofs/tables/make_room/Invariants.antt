use Rattle.std.proofs.Common.{◌≡◌, ◌≤◌, ◌+◌, vec_len}
use Rattle.std.specs.Vec.{vec_capacity}
use Rattle.std.specs.List.{AllWithin}
use Rattle.outside.specs.Tables.{kept_tables, creates, FitsIn}
use Rattle.outside.proofs.tables.make_room.Given as goal

abbrev pub invariant-loop-place : goal.invariant-loop-place
invariant-loop-place l = record {
  tables : kept_tables l.tables.items ≡ kept_tables l.initial.tables.items;
  len : vec_len l.tables ≡ vec_len l.initial.tables;
  creates : vec_len l.tables + creates l.changes ≤ vec_capacity l.tables;
  puts : AllWithin (FitsIn l.changes) l.tables.items 0 l.place;
}
