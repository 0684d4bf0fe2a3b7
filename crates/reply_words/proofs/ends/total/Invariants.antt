use Rattle.std.proofs.Common.{◌≡◌, ◌≤◌, ◌+◌, ◌-◌, ◌^◌, length}
use Rattle.std.specs.Prelude.{min}
use Rattle.reply_words.specs.Replies.{total}
use Rattle.reply_words.specs.Written.{counts}
use Rattle.reply_words.proofs.ends.total.Given as goal

abbrev pub invariant-loop-rest : goal.invariant-loop-rest
invariant-loop-rest l = record {
  small : l.total ≤ 2 ^ 64 - 1;
  sum : min (l.total + total (counts l.tally) l.rest) (2 ^ 64 - 1) ≡ min (total (counts l.tally) l.ends) (2 ^ 64 - 1);
}

abbrev pub decreases-loop-rest : goal.decreases-loop-rest
decreases-loop-rest l = length l.rest
