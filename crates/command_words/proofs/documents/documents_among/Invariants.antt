use Rattle.std.proofs.Common.{◌≡◌, map}
use Rattle.bson_values.specs.declared.value.Value.TheViews.{out-Value}
use Rattle.command_words.specs.Body.{pairs_of}
use Rattle.command_words.proofs.documents.documents_among.Given as goal

abbrev pub invariant-loop-item : goal.invariant-loop-item
invariant-loop-item l = l.docs ≡ map (λ item. pairs_of (out-Value item)) l.yielded
