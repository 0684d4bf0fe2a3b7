use Rattle.std.proofs.Common.{All, length, sym, subst}
use Rattle.std.proofs.lemmas.Iterator.Consumers.{YieldsList-turn}
use Rattle.std.proofs.lemmas.Iterator.Adapters.{YieldsList-from_vec}
use Rattle.bson_values.specs.declared.value.Value.TheVariants as value
use Rattle.distinct_values.proofs.Reaches.{AddsPlain, reached_plain, next_is}
use Rattle.distinct_values.proofs.distinct.Distinct.add_at.Goals as goal

pub add_reached-requires : goal.add_reached-requires
add_reached-requires c =
    let all = c.in_ok-reach.field-0 in
    let reached = reached_plain c.args.path.now (value.Doc c.args.doc.now) c.requires in
    let plain = subst (λ them. All AddsPlain them) (sym c.in_ok-reach.ensures) reached in
    let turn = YieldsList-turn (YieldsList-from_vec all (cc) (cc)) c.loop-reached.yielded _ c.loop-reached.yielded_by c.next.result
    c.next.new.self c.in-Some.reached c.in-Some.is c.next.ensures.steps in
    next_is AddsPlain all (length c.loop-reached.yielded) c.in-Some.reached plain turn.0 turn.1
