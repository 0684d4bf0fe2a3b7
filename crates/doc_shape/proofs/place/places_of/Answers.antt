use Rattle.std.proofs.Common.{◌∙◌, None, ap, arith, below_more, get_or-set_same, get_or-set_other}
use Rattle.std.proofs.lemmas.Grind.{common_steps}
use Rattle.doc_shape.specs.Bests.{is_at}
use Rattle.doc_shape.proofs.place.places_of.Goals as goal

pub loop-k-preserved : goal.loop-k-preserved
loop-k-preserved c = (
  below_more _ _
      (λ k h place low. ap (λ at. is_at at place) (get_or-set_other c.loop-k.places c.loop-k.k k _ None (omega arith))
      ∙ c.loop-k.invariant.0 k h place low)
      (λ place low. ap (λ at. is_at at place)
      (get_or-set_same c.loop-k.places c.loop-k.k _ None (omega (arith, c.loop-k.invariant.1)))
      ∙ (let is = c.place_of.ensures place low in grind (arith, common_steps, is))),
  grind (arith, common_steps),
)
