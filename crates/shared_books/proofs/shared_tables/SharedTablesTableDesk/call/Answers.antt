use Rattle.std.proofs.Common.{◌≡◌, ap, sym, subst, ◌∙◌}
use Rattle.history_lock.specs.Legal.{legal}
use Rattle.history_lock.specs.Seats.{Beginning, Sitting}
use Rattle.table_words.specs.declared.call.TableCall.{TableCall}
use Rattle.table_words.specs.declared.call.TableReply.{TableReply}
use Rattle.table_words.specs.Sound.{Sound}
use Rattle.table_words.specs.Step.{tstep, tables_after}
use Rattle.table_words.specs.Tables.{Tables}
use Rattle.shared_books.proofs.Logs.{called}
use Rattle.shared_books.proofs.shared_tables.SharedTablesTableDesk.call.Goals as goal

pub returns-in-Some-clause-called : goal.returns-in-Some-clause-called
returns-in-Some-clause-called g c =
    let stays = ap (λ (seat : Sitting Tables TableCall TableReply). seat.history) c.turn_call.ensures.seat in
    rw (← c.self.view_is) (called _ _ _ _ _ _ _ _ c.turn_call.ensures.logged
    (subst (λ (of : Beginning Tables). legal tstep tables_after of.opening of.first c.turn_call.new.seat.at.seen)
    (sym (stays ∙ c.self.invariant.0)) c.turn_call.ensures.legal)
    (subst (λ (of : Beginning Tables). Sound of.opening) (sym stays) c.self.invariant.1))
