use Rattle.std.proofs.Common.{◌≡◌, map}
use Rattle.bson_values.specs.declared.value.Value.TheVariants.{Doc}
use Rattle.reply_words.proofs.batches.values.Given as goal

abbrev pub invariant-loop-doc : goal.invariant-loop-doc
invariant-loop-doc l = l.values ≡ map Doc l.yielded
