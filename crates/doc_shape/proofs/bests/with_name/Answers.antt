use Rattle.std.proofs.Common.{◌≡◌, ◌∙◌, ◌+◌, [], suc, ap, arith, if◌then◌else◌, slice_index_or}
use Rattle.std.proofs.lemmas.Grind.{common_steps}
use Rattle.std.proofs.lemmas.List.{get_or_default}
use Rattle.std.specs.Str.{bytes_eq}
use Rattle.doc_shape.specs.Bests.{best_at, part_at}
use Rattle.doc_shape.specs.declared.bests.Best.{Best}
use Rattle.doc_shape.specs.declared.bests.Best.TheVariants as best
use Rattle.doc_shape.proofs.Arrays.{one_more}
use Rattle.doc_shape.proofs.bests.with_name.Goals as goal

pub loop-k-preserved : goal.loop-k-preserved
loop-k-preserved c =
    let parts = c.args.parts.now in
    let behind = c.args.behind.now in
    let all = c.args.all.now in
    let k = c.loop-k.k in (
      one_more (λ k (it : Best). it ≡ (if bytes_eq (part_at parts k) c.args.name.now then best_at behind (suc k) else best_at all k))
          c.loop-k.named k c.behind_if.result best.Unasked (omega (arith, c.loop-k.invariant.1, c.requires)) c.loop-k.invariant.0
          (c.behind_if.ensures
          ∙ ap (λ (it : Best). if c.eq.result then it else slice_index_or all k c.index-all-k.result)
          (get_or_default behind (k + 1) c.index-behind-k.result best.Unasked (omega (arith, c.type_inv.behind, c.requires)))
          ∙ ap (λ (it : Best). if c.eq.result then best_at behind (k + 1) else it)
          (get_or_default all k c.index-all-k.result best.Unasked (omega (arith, c.type_inv.all, c.requires)))
          ∙ ap (λ b. if b then best_at behind (k + 1) else best_at all k) (c.eq.ensures
          ∙ ap (λ part. bytes_eq part c.args.name.now) (c.as_str.ensures ∙ c.index-parts-k.is
          ∙ get_or_default parts k c.index-parts-k.result [] c.loop-k-test.true))
          ∙ ap (λ n. if bytes_eq (part_at parts k) c.args.name.now then best_at behind n else best_at all k) (let e : k + 1
          ≡ suc k = omega arith in e)),
      grind (arith, common_steps),
    )
