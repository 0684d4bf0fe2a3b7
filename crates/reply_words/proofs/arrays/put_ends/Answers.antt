use Rattle.std.proofs.Common.{arith, ap, length, ◌++◌, List, ℕ, sym, ◌∙◌}
use Rattle.std.proofs.lemmas.List.{append-nil}
use Rattle.reply_words.specs.Written.{listing_items}
use Rattle.reply_words.proofs.Listed.{end_fits, end_written, end_taken, place_rises, ends_all}
use Rattle.reply_words.proofs.arrays.put_ends.Goals as goal

pub put_end-requires : goal.put_end-requires
put_end-requires c = record {
  room = end_fits _ _ _ _ _ _ c.args.ends.now _ c.end-item.is c.loop-end-test.true c.requires.room c.loop-end.invariant.spare;
}

pub loop-end-preserved : goal.loop-end-preserved
loop-end-preserved c =
    let ends = c.args.ends.now in
    let told = c.put_end.ensures in
    let count = c.told_count-place.ensures in
    let is = c.end-item.is in
    let all = listing_items c.args.listing 0 0 ends in
    record {
      place = place_rises _ _ _ _ _ c.loop-end.invariant.place count;
      index = omega (arith, c.loop-end.invariant.index);
      items = end_written _ _ _ _ _ ends _ _ _ c.args.out.now.items all is c.loop-end-test.true told.items count c.loop-end.invariant.items;
      spare = end_taken _ _ _ _ _ _ _ _ ends _ is c.loop-end-test.true told.spare count c.loop-end.invariant.spare;
    }

pub returns-clause-items : goal.returns-clause-items
returns-clause-items c =
    sym (append-nil c.loop-end.out.items)
    ∙ ap (λ (bytes : List ℕ). c.loop-end.out.items ++ bytes)
    (sym (ends_all c.args.listing c.loop-end.place c.loop-end.index c.loop-end.end-index c.args.ends.now c.loop-end-test.false))
    ∙ c.loop-end.invariant.items

pub returns-clause-spare : goal.returns-clause-spare
returns-clause-spare c = omega (
  arith,
  c.loop-end.invariant.spare,
  ap length (ends_all c.args.listing c.loop-end.place c.loop-end.index c.loop-end.end-index c.args.ends.now c.loop-end-test.false),
)
