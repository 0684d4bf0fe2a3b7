use Rattle.std.proofs.Common.{◌∙◌, sym, map}
use Rattle.bson_values.specs.Names.{names}
use Rattle.op_msg.specs.declared.message.Sequence.{Sequence}
use Rattle.command_words.proofs.Twice.{twice_still}
use Rattle.command_words.proofs.names.has_twice.Goals as goal

pub returns-then-body_has_twice-clause-value : goal.returns-then-body_has_twice-clause-value
returns-then-body_has_twice-clause-value c =
    sym (twice_still (names c.args.message.now.body) (map (λ (it : Sequence). it.name) c.args.message.now.sequences)
    (sym c.body_has_twice.ensures ∙ c.if-body_has_twice.true))
