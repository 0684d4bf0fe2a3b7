use Rattle.std.proofs.Common.{◌≡◌, ◌∙◌, None, ◌+◌, suc, ap, arith, if◌then◌else◌, slice_index_or}
use Rattle.std.proofs.lemmas.Grind.{common_steps}
use Rattle.std.proofs.lemmas.List.{get_or_default}
use Rattle.doc_shape.specs.Bests.{best_at, is_at}
use Rattle.doc_shape.specs.declared.bests.Best.{Best}
use Rattle.doc_shape.specs.declared.bests.Best.TheVariants as best
use Rattle.doc_shape.proofs.Arrays.{one_more}
use Rattle.doc_shape.proofs.Placed.{at_some}
use Rattle.doc_shape.proofs.bests.at_place.Goals as goal

pub loop-k-preserved : goal.loop-k-preserved
loop-k-preserved c =
    let behind = c.args.behind.now in
    let k = c.loop-k.k in (
      one_more (λ k (it : Best). it ≡ (if is_at (slice_index_or c.args.places.now k None) c.args.place then best_at behind
          (suc k) else best.Nothing))
          c.loop-k.here k c.behind_if.result best.Unasked (omega (arith, c.loop-k.invariant.1)) c.loop-k.invariant.0
          (c.behind_if.ensures
          ∙ ap (λ (it : Best). if c.eq.result then it else best.Nothing)
          (get_or_default behind (k + 1) c.index-behind-k.result best.Unasked (omega (arith, c.type_inv.behind)))
          ∙ ap (λ b. if b then best_at behind (k + 1) else best.Nothing) (c.eq.ensures
          ∙ at_some (slice_index_or c.args.places.now k None) c.args.place)
          ∙ ap (λ n. if is_at (slice_index_or c.args.places.now k None) c.args.place then best_at behind n else best.Nothing)
          (let e : k + 1 ≡ suc k = omega arith in e)),
      grind (arith, common_steps),
    )
