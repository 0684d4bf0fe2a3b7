use Rattle.std.proofs.Common.{◌∙◌, ap, sym}
use Rattle.std.specs.BTreeMap.{is_at}
use Rattle.std.specs.Map.{set_value}
use Rattle.std.specs.Ordering.{nat_cmp}
use Rattle.keyed_rows.proofs.keyed.swap.Goals as goal

pub returns : goal.returns
returns g c =
    let was = c.in-Some.entry.now in
    record {
      entry = was;
      there = sym c.in-Some.ensures.value;
      value_is = sym c.replace.ensures.value;
      over = (c.get_mut.follows.holds (record was { value = c.replace.new.dest })).0
          ∙ ap
          (λ (value : g.row.V.Denot). set_value (is_at (nat_cmp c.args.place)) c.args.entries.now.entries (record was { value = value }))
          c.replace.ensures.after;
    }
