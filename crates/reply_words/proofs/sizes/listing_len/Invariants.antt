use Rattle.std.proofs.Common.{◌≡◌, ◌≤◌, ◌+◌, ◌-◌, ◌^◌, length}
use Rattle.std.specs.Prelude.{min}
use Rattle.reply_words.proofs.Listed.{listing_size}
use Rattle.reply_words.proofs.sizes.listing_len.Given as goal

-- the bytes so far and those that are left are all
abbrev pub invariant-loop-rest : goal.invariant-loop-rest
invariant-loop-rest l = record {
  small : l.total ≤ 2 ^ 64 - 1;
  place : l.place + length l.rest ≤ length l.ends;
  sum : min (l.total + listing_size l.listing l.place l.rest) (2 ^ 64 - 1) ≡ min (listing_size l.listing 0 l.ends) (2 ^ 64 - 1);
}

abbrev pub decreases-loop-rest : goal.decreases-loop-rest
decreases-loop-rest l = length l.rest
