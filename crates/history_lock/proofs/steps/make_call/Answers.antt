use Rattle.std.proofs.Common.{ap, arith, rules}
use Rattle.history_lock.specs.declared.rule.Note.{Note}
use Rattle.history_lock.specs.declared.rule.Held.TheVariants.{Made}
use Rattle.history_lock.proofs.Calls.{may-log, was-logged, was-called}
use Rattle.history_lock.proofs.Turns.{in-turn, in-turn-with}
use Rattle.history_lock.proofs.steps.make_call.Goals as goal

pub take_object-object-requires-clause-slot : goal.take_object-object-requires-clause-slot
take_object-object-requires-clause-slot g c = let t = in-turn _ _ _ c.requires.sits c.requires.turn in (t.0, t.1.slot)

pub fetch_add-requires : goal.fetch_add-requires
fetch_add-requires g c =
    let n : Note g.row.O.Denot g.row.O-Call.Denot g.row.O-Reply.Denot =
    record { who = c.args.who; call = c.of-asked.result; reply = c.of.result; before = c.of-before.result; after = c.of-2.result } in (
      search rules,
      omega arith,
      may-log _ _ c.args.place.now.me n c.args.call c.run-reply.result c.take_object-object.result c.run-reply.new.self
          _ _ _ _ c.requires.sits
          (in-turn-with _ _ _ _ c.requires.sits c.requires.turn c.take_object-object.ensures.object)
          record {
            asked = c.of-asked.ensures;
            replied = c.of.ensures;
            before = c.of-before.ensures;
            after = c.of-2.ensures;
            allowed = c.run-reply.ensures.allowed;
            next = c.run-reply.ensures.after;
          }
          (search rules),
    )

pub put-requires-2-clause-slot : goal.put-requires-2-clause-slot
put-requires-2-clause-slot g c =
    let n : Note g.row.O.Denot g.row.O-Call.Denot g.row.O-Reply.Denot =
    record { who = c.args.who; call = c.of-asked.result; reply = c.of.result; before = c.of-before.result; after = c.of-2.result } in (
      Made n,
      ap (λ z. z.1) (was-logged g.O.Object.faults c.args.place.now.me n 0 c.put.new.place.me c.fetch_add.new.seat.me
          (search rules) c.fetch_add.ensures.2),
    )

pub returns-clause-called : goal.returns-clause-called
returns-clause-called g c =
    let n : Note g.row.O.Denot g.row.O-Call.Denot g.row.O-Reply.Denot =
    record { who = c.args.who; call = c.of-asked.result; reply = c.of.result; before = c.of-before.result; after = c.of-2.result } in
    was-called _ _ c.args.place.now.me n c.args.call c.run-reply.result c.take_object-object.result c.run-reply.new.self 0
    c.put.new.place.me c.fetch_add.new.seat.me c.put-2.new.place.me c.requires.sits
    (in-turn-with _ _ _ _ c.requires.sits c.requires.turn c.take_object-object.ensures.object)
    record {
      asked = c.of-asked.ensures;
      replied = c.of.ensures;
      before = c.of-before.ensures;
      after = c.of-2.ensures;
      allowed = c.run-reply.ensures.allowed;
      next = c.run-reply.ensures.after;
    }
    (search rules) c.fetch_add.ensures.2 c.put-2.ensures.slot
