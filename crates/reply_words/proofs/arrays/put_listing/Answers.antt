use Rattle.std.proofs.Common.{arith, sym, ap, length}
use Rattle.std.proofs.lemmas.List.{append-nil}
use Rattle.bson_spelling.specs.declared.form.Form.TheVariants.{Bson}
use Rattle.bson_spelling.proofs.Sizes.{length-enclosed}
use Rattle.reply_words.specs.Written.{listing_items}
use Rattle.reply_words.proofs.Appended.{two_more}
use Rattle.reply_words.proofs.Listed.{no_items, items_are, items_are_sized}
use Rattle.reply_words.proofs.arrays.put_listing.Goals as goal

pub put_array-requires : goal.put_array-requires
put_array-requires c =
    let listing = c.args.listing in
    let ends = c.args.ends.now in
    let inside = listing_items listing 0 0 ends in
    record {
      room = omega (arith, ap length c.name_of.ensures, items_are_sized listing ends (omega arith), length-enclosed Bson inside);
    }

pub returns-then-listing_len-gt0-clause-items : goal.returns-then-listing_len-gt0-clause-items
returns-then-listing_len-gt0-clause-items c =
    two_more _ _ _ _ _ _ c.put_name.ensures.items c.put_array.ensures.items
    (items_are c.args.listing c.args.ends.now c.name_of.result.now c.name_of.ensures (omega arith))

pub returns-then-listing_len-gt0-clause-spare : goal.returns-then-listing_len-gt0-clause-spare
returns-then-listing_len-gt0-clause-spare c =
    let listing = c.args.listing in
    let ends = c.args.ends.now in
    let inside = listing_items listing 0 0 ends in
    omega (arith, ap length c.name_of.ensures, items_are_sized listing ends (omega arith), length-enclosed Bson inside)

pub returns-else-listing_len-gt0-clause-items : goal.returns-else-listing_len-gt0-clause-items
returns-else-listing_len-gt0-clause-items c =
    rw (no_items c.args.listing c.args.ends.now (omega arith)) (sym (append-nil c.args.out.now.items))
