use Rattle.std.proofs.Common.{rules, arith}
use Rattle.doc_server.proofs.Conversation.{begins, turns, breaks, stops, starves, faults, reads, talks-over, ends-over}
use Rattle.doc_server.proofs.Conversation.{room-reads, used-turns, short-at, numbers-turn}
use Rattle.doc_server.proofs.serve.converse.Goals as goal

pub returns-in-WriteFault-clause-talks : goal.returns-in-WriteFault-clause-talks
returns-in-WriteFault-clause-talks g c =
    let known = c.loop-message.invariant in
    rw (c.of.ensures.why, c.of.ensures.commands)
    (talks-over _ _ _ _ _ _ _ _ _
    (breaks _ _ _ _ _ _ _ _ _ _ _ _ _ _ _ _ _ _ _ _ known.going known.opening c.deref.ensures.value c.tail.ensures c.in-Whole.ensures
    c.reply_to.ensures.taken c.reply_to.ensures.left c.in-WriteFault.ensures.answers))

pub returns-in-WriteFault-clause-ends : goal.returns-in-WriteFault-clause-ends
returns-in-WriteFault-clause-ends g c =
    let known = c.loop-message.invariant in
    rw c.of.ensures.why
    (ends-over _ _ _ _ _ _ _ _ _
    (breaks _ _ _ _ _ _ _ _ _ _ _ _ _ _ _ _ _ _ _ _ known.going known.opening c.deref.ensures.value c.tail.ensures c.in-Whole.ensures
    c.reply_to.ensures.taken c.reply_to.ensures.left c.in-WriteFault.ensures.answers))

pub loop-message-preserved-in-Whole : goal.loop-message-preserved-in-Whole
loop-message-preserved-in-Whole g c =
    let known = c.loop-message.invariant in
    let front = c.in-Whole.ensures in
    record {
      used = used-turns _ _ _ _ _ known.used c.deref.ensures.value c.tail.ensures front.within;
      limit = known.limit;
      room = omega (arith, known.room, front.some);
      numbers = numbers-turn _ _ _ _ _ _ _ _ _ _ known.numbers c.in-Sent.ensures.answers;
      free = search rules;
      opening = search rules;
      first = search rules;
      read_faults = search rules;
      write_faults = search rules;
      going = turns _ _ _ _ _ _ _ _ _ _ _ _ _ _ _ _ _ _ _ _ known.going known.opening c.deref.ensures.value c.tail.ensures front
          c.reply_to.ensures.taken c.reply_to.ensures.left c.in-Sent.ensures.answers;
    }

pub loop-message-preserved : goal.loop-message-preserved
loop-message-preserved g c =
    let known = c.loop-message.invariant in
    let fetched = c.in-Ok.ensures.fetches in
    record {
      used = omega arith;
      limit = fetched.2.2;
      room = room-reads _ _ _ _ _ _ _ _ known.room known.used c.drop_front.ensures fetched.2.3 fetched.2.0;
      numbers = known.numbers;
      free = known.free;
      opening = known.opening;
      first = known.first;
      read_faults = search rules;
      write_faults = search rules;
      going = reads _ _ _ _ _ _ _ _ _ _ _ _ _ _ _ known.going c.drop_front.ensures fetched;
    }

pub returns-in-Err-clause-talks : goal.returns-in-Err-clause-talks
returns-in-Err-clause-talks g c =
    let known = c.loop-message.invariant in
    rw (c.of-in-Err.ensures.why, c.of-in-Err.ensures.commands)
    (talks-over _ _ _ _ _ _ _ _ _
    (stops _ _ _ _ _ _ _ _ _ _ _ _ _ _ known.going c.drop_front.ensures
    (short-at _ _ _ _ c.deref.ensures.value c.tail.ensures c.in-Short.ensures) c.in-Err.ensures.fetches))

pub returns-in-Err-clause-ends : goal.returns-in-Err-clause-ends
returns-in-Err-clause-ends g c =
    let known = c.loop-message.invariant in
    rw c.of-in-Err.ensures.why
    (ends-over _ _ _ _ _ _ _ _ _
    (stops _ _ _ _ _ _ _ _ _ _ _ _ _ _ known.going c.drop_front.ensures
    (short-at _ _ _ _ c.deref.ensures.value c.tail.ensures c.in-Short.ensures) c.in-Err.ensures.fetches))

pub loop-message-init : goal.loop-message-init
loop-message-init g c = record {
  used = omega arith;
  limit = omega arith;
  room = search rules;
  numbers = omega arith;
  free = search rules;
  opening = search rules;
  first = search rules;
  read_faults = search rules;
  write_faults = search rules;
  going = begins _ _ _ _ _ _ (search rules);
}

pub returns-in-Bad-clause-talks : goal.returns-in-Bad-clause-talks
returns-in-Bad-clause-talks g c =
    rw (c.of-in-Bad.ensures.why, c.of-in-Bad.ensures.commands)
    (talks-over _ _ _ _ _ _ _ _ _
    (faults _ _ _ _ _ _ _ _ _ _ _ _ _ _ _ _ c.loop-message.invariant.going c.deref.ensures.value c.tail.ensures c.in-Bad.ensures))

pub returns-in-Bad-clause-ends : goal.returns-in-Bad-clause-ends
returns-in-Bad-clause-ends g c =
    rw c.of-in-Bad.ensures.why
    (ends-over _ _ _ _ _ _ _ _ _
    (faults _ _ _ _ _ _ _ _ _ _ _ _ _ _ _ _ c.loop-message.invariant.going c.deref.ensures.value c.tail.ensures c.in-Bad.ensures))

pub returns-in-NoMemory-clause-ends : goal.returns-in-NoMemory-clause-ends
returns-in-NoMemory-clause-ends g c =
    rw c.of-in-NoMemory.ensures.why
    (ends-over _ _ _ _ _ _ _ _ _ (starves _ _ _ _ _ _ _ _ _ _ _ c.loop-message.invariant.going))
