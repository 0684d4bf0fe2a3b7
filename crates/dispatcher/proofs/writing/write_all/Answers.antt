use Rattle.std.proofs.Common.{[], ◌∷◌, ◌∙◌, refl, ap, arith, length-append}
use Rattle.std.proofs.lemmas.Iterator.Consumers.{YieldsList-so_far, YieldsList-turn, YieldsList-end}
use Rattle.std.proofs.lemmas.Iterator.Adapters.{YieldsList-from_vec}
use Rattle.std.proofs.lemmas.List.Elements.{All-nil}
use Rattle.reply_words.specs.Small.{HasShortId}
use Rattle.history_lock.specs.declared.entry.Who.{Who}
use Rattle.dispatcher.proofs.Items.{both, not-both, parted, items-none, items-more, items-stop, items-end}
use Rattle.dispatcher.proofs.writing.write_all.Goals as goal

pub loop-op-init : goal.loop-op-init
loop-op-init g c = record {
  free = c.requires.free;
  opening = refl;
  first = refl;
  spare = omega (arith, c.requires.spare);
  short = rw c.requires.empty (All-nil HasShortId);
  number = omega arith;
  items = ([], rw c.requires.empty (items-none _ _ _ _ _));
}

pub returns-then-failed-clause-did : goal.returns-then-failed-clause-did
returns-then-failed-clause-did g c =
    let i = c.loop-op.invariant in
    let did = rw i.opening at c.write_one-failed.ensures.did.1 in
    let road = YieldsList-from_vec c.args.ops (cc) (cc) in
    let so_far = YieldsList-so_far road c.loop-op.yielded _ c.loop-op.yielded_by in
    let turn = YieldsList-turn road c.loop-op.yielded _ c.loop-op.yielded_by c.next.result c.next.new.self c.in-Some.op c.in-Some.is c.next.ensures.steps in (
      _,
      items-stop _ _ _ _ _ _ _ _ _ _ _ _ _ _ _ _ _ _ (parted c.args.ops c.loop-op.yielded c.in-Some.op so_far turn.0 turn.1) i.items.1 did
          (both _ _ c.if-ordered.true c.if-failed.true),
    )

pub loop-op-preserved : goal.loop-op-preserved
loop-op-preserved g c =
    let i = c.loop-op.invariant in
    let did = rw i.opening at c.write_one-failed.ensures.did.1 in
    let long = length-append c.loop-op.yielded (c.in-Some.op ∷ []) in
    record {
      free = c.write_one-failed.ensures.free;
      opening = c.write_one-failed.ensures.opening ∙ i.opening;
      first = c.write_one-failed.ensures.first ∙ i.first;
      spare = omega (arith, long, i.spare, c.write_one-failed.ensures.spare);
      short = c.write_one-failed.ensures.short i.short;
      number = omega (arith, long, i.number, ap (λ (x : Who). x.op) did.next);
      items = (_, items-more _ _ _ _ _ _ _ _ _ _ _ _ _ _ _ _ i.items.1 did (not-both _ _ c.else-ordered.either));
    }

pub returns-clause-did : goal.returns-clause-did
returns-clause-did g c =
    let i = c.loop-op.invariant in
    let road = YieldsList-from_vec c.args.ops (cc) (cc) in
    let end = YieldsList-end road c.loop-op.yielded _ c.loop-op.yielded_by c.next.result c.next.new.self c.in-None.is c.next.ensures.steps in
    (i.items.0, items-end _ _ _ _ _ _ _ _ _ _ _ end.0 i.items.1)
