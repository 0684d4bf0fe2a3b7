use Rattle.std.proofs.Common.{◌≡◌, drop}
use Rattle.update_apply.specs.Seeds.{each_seeded}
use Rattle.update_apply.proofs.seeds.+seed.Given as goal

abbrev pub invariant-put_each-loop-filter : goal.invariant-put_each-loop-filter
invariant-put_each-loop-filter l =
    each_seeded l.filters l.initial.doc ≡ each_seeded (drop l.filter-index l.filters) l.doc
