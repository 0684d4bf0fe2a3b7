-- The bytes of documents, one after another.
use Rattle.std.proofs.Common.{◌≡◌, ◌+◌, ◌≤◌, ◌^◌, ◌-◌, ℕ, List, [], ap, arith}
use Rattle.std.specs.Prelude.{min}
use Rattle.bson_values.specs.declared.pairs.Pair.{Pair}
use Rattle.bson_values.specs.declared.value.Value.{Value}
use Rattle.reply_words.specs.Replies.{total_size}

-- where nothing is left, the total is all
pub total-all : (total : ℕ) (rest docs : List (List (Pair Value))) → rest ≡ [] → total ≤ 2 ^ 64 - 1
    → min (total + total_size rest) (2 ^ 64 - 1) ≡ min (total_size docs) (2 ^ 64 - 1) → total ≡ min (total_size docs) (2 ^ 64 - 1)
total-all total rest docs none small is = omega (arith, small, is, ap total_size none)
