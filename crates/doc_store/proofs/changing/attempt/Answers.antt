use Rattle.std.proofs.Common.{◌≡◌, refl, sym, subst, [], Some}
use Rattle.table_words.specs.Called.{Called}
use Rattle.table_words.specs.declared.call.TableReply.TheVariants as reply
use Rattle.doc_store.specs.Replies.{AreComing, rows_of}
use Rattle.doc_store.proofs.Carrying.{carried-call, deed-carries}
use Rattle.doc_store.proofs.Exits.{selected-rows, selected-none, rows-tell, untried-tells, starved-tells, rows-carry}
use Rattle.doc_store.proofs.Found.{rows-come}
use Rattle.doc_store.proofs.Performed.{came-of}
use Rattle.doc_store.proofs.changing.attempt.Goals as goal

pub change_rows-requires : goal.change_rows-requires
change_rows-requires g c =
    let come = came-of (λ r. AreComing (rows_of r)) c.call-reply.ensures.called
    (λ t before after sound step. rows-come t _ _ _ before after sound step) in
    let is = selected-rows c.call-reply.result _ _ _ c.in-Rows.ensures in
    record { sound = rw c.as_slice.ensures (subst (λ r. AreComing (rows_of r)) is come) }

pub returns-in-Rows-clause-tells : goal.returns-in-Rows-clause-tells
returns-in-Rows-clause-tells g c =
    let is = selected-rows c.call-reply.result _ _ _ c.in-Rows.ensures in
    let called = rw (c.call-reply.ensures.opening, c.call-reply.ensures.first, is, c.requires.selects) at c.call-reply.ensures.called in
    let changes = rw (c.call-reply.ensures.opening, c.call-reply.ensures.first, c.call-reply.ensures.held, c.as_slice.ensures)
    at c.change_rows.ensures.changes in
    rows-tell c.filtering_selected_rows_is_filtering_all.ensures _ _ c.args.who c.args.now c.args.select.space c.args.filter.now c.args.deed.now
    _ _ _ _ _ _ _ _ called changes

pub returns-in-Rows-clause-carries : goal.returns-in-Rows-clause-carries
returns-in-Rows-clause-carries g c =
    rows-carry _ _ _ _ _ c.args.who c.args.now c.args.filter.now c.args.deed.now _ _ _ _ _ c.change_rows.result
    (carried-call _ c.call-reply.ensures.called (deed-carries c.args.deed.now _ _ _ c.requires.selects)) c.change_rows.ensures.changes

pub returns-in-Absent-clause-tells : goal.returns-in-Absent-clause-tells
returns-in-Absent-clause-tells g c =
    let is = selected-none c.call-reply.result c.in-Absent.ensures in
    let called = rw (c.call-reply.ensures.opening, c.call-reply.ensures.first, is, c.requires.selects) at c.call-reply.ensures.called in
    rw c.untried.ensures
    (untried-tells c.filtering_selected_rows_is_filtering_all.ensures _ _ c.args.who c.args.now c.args.select.space c.args.filter.now
    c.args.deed.now _ _ _ c.finish.result called c.finish.ensures.settles c.finish.ensures.answer)

pub returns-in-Absent-clause-carries : goal.returns-in-Absent-clause-carries
returns-in-Absent-clause-carries g c =
    carried-call _ c.call-reply.ensures.called (deed-carries c.args.deed.now _ _ _ c.requires.selects)

pub returns-in-NoMemory-clause-tells : goal.returns-in-NoMemory-clause-tells
returns-in-NoMemory-clause-tells g c =
    let called = rw (c.call-reply.ensures.opening, c.requires.selects) at c.call-reply.ensures.called in
    starved-tells c.filtering_selected_rows_is_filtering_all.ensures _ _ c.args.who c.args.now c.args.select.space c.args.filter.now
    c.args.deed.now _ _ _ _ called

pub returns-in-NoMemory-clause-carries : goal.returns-in-NoMemory-clause-carries
returns-in-NoMemory-clause-carries g c =
    carried-call _ c.call-reply.ensures.called (deed-carries c.args.deed.now _ _ _ c.requires.selects)
