use Rattle.std.proofs.Common.{sym, subst}
use Rattle.history_lock.specs.Seats.{Sitting}
use Rattle.table_words.specs.declared.call.TableCall.{TableCall}
use Rattle.table_words.specs.declared.call.TableReply.{TableReply}
use Rattle.table_words.specs.Sound.{Sound}
use Rattle.table_words.specs.Tables.{Tables}
use Rattle.shared_books.proofs.Logs.{called}
use Rattle.shared_books.proofs.solo_tables.SoloTablesTableDesk.call.Goals as goal

pub returns-clause-called : goal.returns-clause-called
returns-clause-called g c = rw (← c.self.view_is) (called _ _ _ _ _ _ _ _ c.call.ensures.logged c.call.ensures.legal
    (subst (λ (solo : Sitting Tables TableCall TableReply). Sound solo.history.opening) (sym c.call.ensures.solo) c.self.invariant))
