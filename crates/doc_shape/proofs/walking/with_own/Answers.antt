use Rattle.std.proofs.Common.{◌∙◌, length, ap, arith}
use Rattle.bson_values.specs.declared.value.Value.{out-Value}
use Rattle.doc_shape.specs.Keys.{first_key, value_keys}
use Rattle.doc_shape.proofs.Tails.{own_set}
use Rattle.doc_shape.proofs.walking.with_own.Goals as goal

pub returns-then-high-parts : goal.returns-then-high-parts
returns-then-high-parts c = λ k low.
    own_set c.args.way.now c.args.value.now c.args.beyond.now c.own_key.result c.args.high k c.told-beyond
    (omega (arith, c.parts.ensures.few, c.if-high-parts.true, ap length c.parts.ensures.same))
    (c.if-high-parts.true ∙ ap length (c.parts.ensures.same ∙ ap (λ p. p.0) c.way.view_is)) (c.own_key.ensures
    ∙ ap (λ p. first_key p.1 (value_keys c.args.value.now (out-Value c.args.value.now))) c.way.view_is) low
