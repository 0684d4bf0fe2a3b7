use Rattle.std.proofs.Common.{◌≡◌, ◌≤◌, ◌+◌, ◌++◌, length, drop}
use Rattle.reply_words.specs.Written.{listing_items}
use Rattle.reply_words.proofs.arrays.put_ends.Given as goal

-- what is written and what is left are all items
abbrev pub invariant-loop-end : goal.invariant-loop-end
invariant-loop-end l =
    let all = listing_items l.listing 0 0 l.ends in
    let left = listing_items l.listing l.place l.index (drop l.end-index l.ends) in
    record {
      place : l.place ≤ l.index;
      index : l.index ≡ l.end-index;
      items : l.out.items ++ left ≡ l.initial.out.items ++ all;
      spare : l.out.spare + length all ≡ l.initial.out.spare + length left;
    }
