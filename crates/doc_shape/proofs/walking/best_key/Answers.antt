use Rattle.std.proofs.Common.{◌∙◌, length, ap, arith}
use Rattle.std.proofs.lemmas.List.{get_or_default}
use Rattle.doc_shape.specs.Bests.{kept}
use Rattle.doc_shape.specs.declared.bests.Best.TheVariants as best
use Rattle.doc_shape.proofs.walking.best_key.Goals as goal

pub returns : goal.returns
returns c =
    ap kept (get_or_default c.best_in_fields.result 0 c.index-best_in_fields-0.result best.Unasked (omega
    (arith, c.best_in_fields.type_inv)))
    ∙ c.best_in_fields.ensures 0 (omega arith) (omega arith) (omega (
      arith,
      c.parts-parts.ensures.some,
      ap length (ap
          (λ p. p.0) c.way.view_is),
    ))
