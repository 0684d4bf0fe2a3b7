use Rattle.std.proofs.Common.{[], length, arith, ap}
use Rattle.dispatcher.proofs.Passing.{passed}
use Rattle.reply_words.proofs.Ended.{document_short, document_sent}
use Rattle.dispatcher.proofs.Items.{ends-few}
use Rattle.dispatcher.proofs.Writes.{room-enough, write-starved, write-done}
use Rattle.dispatcher.proofs.writing.write.Goals as goal

pub returns-in_default-clause-done : goal.returns-in_default-clause-done
returns-in_default-clause-done g c = ([], write-starved _ _ _ _ _ _ _ _ _)

pub returns-in_default-new-clause-done : goal.returns-in_default-new-clause-done
returns-in_default-new-clause-done g c = ([], write-starved _ _ _ _ _ _ _ _ _)

pub put_items_reply-requires-clause-small : goal.put_items_reply-requires-clause-small
put_items_reply-requires-clause-small g c =
    let few = ends-few _ _ _ _ _ _ _ _ _ _ c.write_all.ensures.did.1 in
    document_sent c.args.update c.items.result.now (omega (arith, few, ap length c.items.ensures, c.requires.few.1))
    (λ is. rw c.items.ensures c.write_all.ensures.short)

pub put_items_reply-requires-clause-spare : goal.put_items_reply-requires-clause-spare
put_items_reply-requires-clause-spare g c =
    let few = ends-few _ _ _ _ _ _ _ _ _ _ c.write_all.ensures.did.1 in
    let short = document_short c.args.update c.items.result.now (omega (arith, few, ap length c.items.ensures, c.requires.few.1))
    (λ is. rw c.items.ensures c.write_all.ensures.short) in
    let room = room-enough c.args.update _ _ _ _ _ (omega (arith, few, ap length c.items.ensures)) short c.len-items.ensures
    c.most_items_size.ensures in
    omega (arith, room, c.in-Ok-new.ensures.spare)

pub returns-clause-done : goal.returns-clause-done
returns-clause-done g c =
    let told = rw (passed c.args.number c.ranges.number.sfits, passed c.args.request c.ranges.request.sfits) at c.put_items_reply.ensures in (
      c.write_all.ensures.did.0,
      write-done _ _ _ _ _ _ _ _ _ _ _ _ _ _ _ c.write_all.ensures.did.1 c.requires.few.0 c.requires.few.1 c.items.ensures told,
    )
