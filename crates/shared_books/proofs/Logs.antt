-- A call that is logged next is a desk's call.
use Rattle.std.proofs.Common.{◌≡◌, ℕ, Bool, List, [], ◌∷◌, ◌++◌, length, refl, ap, sym, ◌∙◌}
use Rattle.std.proofs.lemmas.List.{append-nil}
use Rattle.history_lock.specs.declared.entry.Who.{Who}
use Rattle.history_lock.specs.declared.entry.Entry.{Entry}
use Rattle.history_lock.specs.declared.view.View.{View}
use Rattle.history_lock.specs.Legal.{legal}
use Rattle.history_lock.specs.Logged.{LoggedNext}
use Rattle.table_words.specs.declared.call.TableCall.{TableCall}
use Rattle.table_words.specs.declared.call.TableReply.{TableReply}
use Rattle.table_words.specs.Called.{Called}
use Rattle.table_words.specs.Sound.{Sound}
use Rattle.table_words.specs.Step.{tstep, tables_after}
use Rattle.table_words.specs.Tables.{Tables}

pub called : (held : Bool) (s : Tables) (n : ℕ) (old new : View TableCall TableReply) (who : Who) (call : TableCall) (reply : TableReply)
    → LoggedNext old new who call reply → legal tstep tables_after s n new.seen → Sound s → Called held s n old new who call reply
called held s n old new who call reply logged lawful sound = record {
  between = [];
  before = logged.before;
  after = logged.after;
  seen = logged.seen ∙ ap (λ (es : List (Entry TableCall TableReply)). es ++ record
      { who = who; call = call; reply = reply; before = logged.before; after = logged.after } ∷ []) (sym (append-nil old.seen));
  own = logged.own ∙ ap (λ (es : List (Entry TableCall TableReply)). old.own ++ length es ∷ []) (sym (append-nil old.seen));
  alone = λ turn. refl;
  lawful = lawful;
  sound = sound;
}
