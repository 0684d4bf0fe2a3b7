use Rattle.std.proofs.Common.{◌≡◌, ◌∙◌, ap, arith, slice_index_or}
use Rattle.std.proofs.lemmas.Grind.{common_steps}
use Rattle.std.proofs.lemmas.List.{get_or_default}
use Rattle.doc_shape.specs.Keys.{sooner}
use Rattle.doc_shape.specs.Bests.{best_at, kept}
use Rattle.doc_shape.specs.declared.bests.Best.{Best}
use Rattle.doc_shape.specs.declared.bests.Best.TheVariants as best
use Rattle.doc_shape.proofs.Arrays.{one_more}
use Rattle.doc_shape.proofs.bests.joined.Goals as goal

pub loop-k-preserved : goal.loop-k-preserved
loop-k-preserved c =
    let one = c.args.one.now in
    let other = c.args.other.now in
    let k = c.loop-k.k in (
      one_more (λ k (it : Best). kept it ≡ sooner c.args.ascends (kept (best_at one k)) (kept (best_at other k)))
          c.loop-k.all k c.sooner_of.result best.Unasked (omega (arith, c.loop-k.invariant.1)) c.loop-k.invariant.0
          (c.sooner_of.ensures
          ∙ ap (λ (it : Best). sooner c.args.ascends (kept it) (kept (slice_index_or other k c.index-other-k.result)))
          (get_or_default one k c.index-one-k.result best.Unasked (omega (arith, c.type_inv.one)))
          ∙ ap (λ (it : Best). sooner c.args.ascends (kept (best_at one k)) (kept it))
          (get_or_default other k c.index-other-k.result best.Unasked (omega (arith, c.type_inv.other)))),
      grind (arith, common_steps),
    )
