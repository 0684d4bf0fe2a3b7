use Rattle.std.proofs.Common.{rules}
use Rattle.std.proofs.lemmas.Cmp.{nat_list_cmp_total}
use Rattle.std.proofs.lemmas.List.Sorted.{answers_always, length_permutation, ranks_by}
use Rattle.jsonb_contain.proofs.Orders.{in_any_order, is_before}
use Rattle.jsonb_contain.proofs.fields.sort.Goals as goal

pub returns : goal.returns
returns g c =
    let sorted = c.in_ok-sort_by.ensures in
    let stable = sorted.stable is_before (ranks_by nat_list_cmp_total (λ pair. pair.name))
    (answers_always _ _ _ (λ f a r after h. search rules)) in
    in_any_order c.args.pairs.now.items c.sort_by.new.self.items stable (length_permutation _ _ sorted.permutation)
