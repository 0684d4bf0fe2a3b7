use Rattle.std.proofs.Common.{sym, nat_lt, rules}
use Rattle.std.proofs.lemmas.List.Sorted.{IsPartitionPoint-from_clause}
use Rattle.outside.proofs.Finding.{parted, stands_at, stands_nowhere}
use Rattle.outside.proofs.index.place_in.Goals as goal

pub returns-in_err-entry : goal.returns-in_err-entry
returns-in_err-entry c =
    let found_none = rw c.requires at c.in_err-entry.ensures.found in
    rw c.from_residual.ensures (stands_nowhere c.args.key.now c.args.rows.now (sym found_none))

pub returns : goal.returns
returns c =
    let rise = rw c.requires at c.len-len.ensures.rise in
    let is = rw c.requires at c.in_ok-entry.ensures.found in
    let entry = c.in_ok-entry.entry.now in
    let parts = IsPartitionPoint-from_clause (λ row. nat_lt row.place entry.place) c.args.rows.now _ c.partition_point.ensures.partitioned
    (parted entry.place c.args.rows.now rise) (λ a r q k. search rules) in
    stands_at c.args.key.now c.args.rows.now entry c.partition_point.result rise (sym is) parts
