use Rattle.std.proofs.Common.{[]}
use Rattle.dispatcher.proofs.Passing.{passed}
use Rattle.dispatcher.proofs.Readings.{done-change, done-find, done-count, done-distinct}
use Rattle.dispatcher.proofs.Writes.{nothing-done, done-insert, done-update, done-delete}
use Rattle.dispatcher.proofs.commands.done.Goals as goal

pub returns-in-Ping-clause-done : goal.returns-in-Ping-clause-done
returns-in-Ping-clause-done g c =
    let told = rw (passed c.args.number c.ranges.number.sfits, passed c.args.request c.ranges.request.sfits) at c.ping.ensures.told in
    ([], rw c.in-Ping.is (nothing-done _ _ _ _ _ _ _ _ c.ping.ensures.next told))

pub returns-in-Insert-clause-done : goal.returns-in-Insert-clause-done
returns-in-Insert-clause-done g c =
    let done = rw (passed c.args.number c.ranges.number.sfits, passed c.args.request c.ranges.request.sfits) at c.write.ensures.done.1 in
    (c.write.ensures.done.0, rw c.in-Insert.is (done-insert done))

pub returns-in-Update-clause-done : goal.returns-in-Update-clause-done
returns-in-Update-clause-done g c =
    let done = rw (passed c.args.number c.ranges.number.sfits, passed c.args.request c.ranges.request.sfits) at c.write-in-Update.ensures.done.1 in
    (c.write-in-Update.ensures.done.0, rw c.in-Update.is (done-update done))

pub returns-in-Delete-clause-done : goal.returns-in-Delete-clause-done
returns-in-Delete-clause-done g c =
    let done = rw (passed c.args.number c.ranges.number.sfits, passed c.args.request c.ranges.request.sfits) at c.write-in-Delete.ensures.done.1 in
    (c.write-in-Delete.ensures.done.0, rw c.in-Delete.is (done-delete done))

pub returns-in-FindAndModify-clause-done : goal.returns-in-FindAndModify-clause-done
returns-in-FindAndModify-clause-done g c =
    let done = rw (passed c.args.number c.ranges.number.sfits, passed c.args.request c.ranges.request.sfits) at c.modify.ensures.done.1 in
    (c.modify.ensures.done.0, rw c.in-FindAndModify.is (done-change done))

pub returns-in-Find-clause-done : goal.returns-in-Find-clause-done
returns-in-Find-clause-done g c =
    let done = rw (passed c.args.number c.ranges.number.sfits, passed c.args.request c.ranges.request.sfits) at c.read.ensures.done.1 in
    (c.read.ensures.done.0, rw c.in-Find.is (done-find done))

pub returns-in-Count-clause-done : goal.returns-in-Count-clause-done
returns-in-Count-clause-done g c =
    let done = rw (passed c.args.number c.ranges.number.sfits, passed c.args.request c.ranges.request.sfits) at c.read-in-Count.ensures.done.1 in
    (c.read-in-Count.ensures.done.0, rw c.in-Count.is (done-count done))

pub returns-in-Distinct-clause-done : goal.returns-in-Distinct-clause-done
returns-in-Distinct-clause-done g c =
    let done = rw (passed c.args.number c.ranges.number.sfits, passed c.args.request c.ranges.request.sfits) at c.read-in-Distinct.ensures.done.1 in
    (c.read-in-Distinct.ensures.done.0, rw c.in-Distinct.is (done-distinct done))
