use Rattle.std.proofs.Common.{ap, arith}
use Rattle.std_words.proofs.Parts.{empty}
use Rattle.reply_words.proofs.Listed.{listing_size, listing_sized}
use Rattle.reply_words.proofs.sizes.listing_len.Goals as goal

pub returns : goal.returns
returns c =
    let rest = c.loop-rest.rest in
    omega (
      arith,
      c.loop-rest.invariant.small,
      c.loop-rest.invariant.sum,
      ap (listing_size c.args.listing c.loop-rest.place) (empty rest.now (omega (arith, c.in_default.len_below))),
      listing_sized c.args.listing 0 0 c.args.ends.now,
    )
