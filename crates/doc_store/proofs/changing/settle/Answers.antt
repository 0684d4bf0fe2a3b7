use Rattle.std.proofs.Common.{◌≡◌, refl, sym, subst, [], Some}
use Rattle.doc_store.specs.Attempts.{FitsEnd, Tells}
use Rattle.doc_store.specs.Replies.{AreComing, rows_of}
use Rattle.doc_store.proofs.Carrying.{carried-call, deed-carries}
use Rattle.doc_store.proofs.Exits.{selected-rows, selected-none, rows-tell, turn-ends, added-tells, starved-tells, rows-carry, added-carries, outcome-sound}
use Rattle.doc_store.proofs.Found.{rows-come}
use Rattle.doc_store.proofs.Performed.{came-of}
use Rattle.doc_store.proofs.changing.settle.Goals as goal

pub change_rows-requires : goal.change_rows-requires
change_rows-requires g c =
    let come = came-of (λ r. AreComing (rows_of r)) c.call-reply.ensures.called
    (λ t before after sound step. rows-come t _ _ _ before after sound step) in
    let is = selected-rows c.call-reply.result _ _ _ c.in-Rows.ensures in
    record { sound = rw c.as_slice-rows.ensures (subst (λ r. AreComing (rows_of r)) is come) }

pub unreachable-requires : goal.unreachable-requires
unreachable-requires g c =
    let is = selected-rows c.call-reply.result _ _ _ c.in-Rows.ensures in
    let called = rw (c.call-reply.ensures.opening, c.call-reply.ensures.first, is, c.requires.selects.0, c.requires.selects.1)
    at c.call-reply.ensures.called in
    let changes = rw (c.call-reply.ensures.opening, c.call-reply.ensures.first, c.call-reply.ensures.held, c.as_slice-rows.ensures)
    at c.change_rows.ensures.changes in
    turn-ends c.filtering_selected_rows_is_filtering_all.ensures _ _ c.args.who c.args.now c.args.space c.args.filter.now c.args.deed.now
    _ _ _ _ _ _ _ _ c.requires.turn called changes c.in-Again.is

pub add-requires-clause-sound : goal.add-requires-clause-sound
add-requires-clause-sound g c = (outcome-sound _ c.in-Ok.outcome c.in-Ok.ensures.settles).1

pub returns-in-Ends-clause-tells : goal.returns-in-Ends-clause-tells
returns-in-Ends-clause-tells g c =
    let is = selected-rows c.call-reply.result _ _ _ c.in-Rows.ensures in
    let called = rw (c.call-reply.ensures.opening, c.call-reply.ensures.first, is, c.requires.selects.0, c.requires.selects.1)
    at c.call-reply.ensures.called in
    let changes = rw (c.call-reply.ensures.opening, c.call-reply.ensures.first, c.call-reply.ensures.held, c.as_slice-rows.ensures)
    at c.change_rows.ensures.changes in
    subst (Tells _ _ _ _ _ _) c.in-Ends.is
    (rows-tell c.filtering_selected_rows_is_filtering_all.ensures _ _ c.args.who c.args.now c.args.space c.args.filter.now c.args.deed.now
    _ _ _ _ _ _ _ c.change_rows.result called changes)

pub returns-in-Ends-clause-carries : goal.returns-in-Ends-clause-carries
returns-in-Ends-clause-carries g c =
    let called = rw c.requires.selects.1 at c.call-reply.ensures.called in
    rows-carry _ _ _ _ _ c.args.who c.args.now c.args.filter.now c.args.deed.now _ _ _ _ _ c.change_rows.result
    (carried-call _ called (deed-carries c.args.deed.now _ _ _ c.requires.selects.0)) c.change_rows.ensures.changes

pub returns-in-Ok-clause-tells : goal.returns-in-Ok-clause-tells
returns-in-Ok-clause-tells g c =
    let is = selected-none c.call-reply.result c.in-Absent.ensures in
    let called = rw (c.call-reply.ensures.opening, c.call-reply.ensures.first, is, c.requires.selects.0, c.requires.selects.1)
    at c.call-reply.ensures.called in
    let adds = rw (c.call-reply.ensures.opening, c.call-reply.ensures.first, c.call-reply.ensures.held) at c.add.ensures.adds in
    added-tells c.filtering_selected_rows_is_filtering_all.ensures _ _ c.args.who c.args.now c.args.space c.args.filter.now c.args.deed.now
    _ _ _ _ c.in-Ok.outcome c.add.result c.in-Ok.outcome.added refl c.requires.turn called c.in-Ok.ensures.settles c.in-Ok.ensures.answer adds

pub returns-in-Ok-clause-carries : goal.returns-in-Ok-clause-carries
returns-in-Ok-clause-carries g c =
    let called = rw c.requires.selects.1 at c.call-reply.ensures.called in
    added-carries _ _ _ _ _ c.args.who c.args.now c.args.filter.now c.args.deed.now _ _ c.args.space c.in-Ok.outcome.reply c.add.result
    c.in-Ok.outcome.added (carried-call _ called (deed-carries c.args.deed.now _ _ _ c.requires.selects.0)) c.add.ensures.adds

pub returns-in-Err-clause-tells : goal.returns-in-Err-clause-tells
returns-in-Err-clause-tells g c =
    let called = rw (c.call-reply.ensures.opening, c.requires.selects.0, c.requires.selects.1) at c.call-reply.ensures.called in
    starved-tells c.filtering_selected_rows_is_filtering_all.ensures _ _ c.args.who c.args.now c.args.space c.args.filter.now c.args.deed.now
    _ _ _ _ called

pub returns-in-Err-clause-carries : goal.returns-in-Err-clause-carries
returns-in-Err-clause-carries g c =
    let called = rw c.requires.selects.1 at c.call-reply.ensures.called in
    carried-call _ called (deed-carries c.args.deed.now _ _ _ c.requires.selects.0)

pub returns-in-NoMemory-clause-tells : goal.returns-in-NoMemory-clause-tells
returns-in-NoMemory-clause-tells g c =
    let called = rw (c.call-reply.ensures.opening, c.requires.selects.0, c.requires.selects.1) at c.call-reply.ensures.called in
    starved-tells c.filtering_selected_rows_is_filtering_all.ensures _ _ c.args.who c.args.now c.args.space c.args.filter.now c.args.deed.now
    _ _ _ _ called

pub returns-in-NoMemory-clause-carries : goal.returns-in-NoMemory-clause-carries
returns-in-NoMemory-clause-carries g c =
    let called = rw c.requires.selects.1 at c.call-reply.ensures.called in
    carried-call _ called (deed-carries c.args.deed.now _ _ _ c.requires.selects.0)
