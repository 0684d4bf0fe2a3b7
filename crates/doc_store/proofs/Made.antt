-- A call that a desk made, at its place in the history.
use Rattle.std.proofs.Common.{◌≡◌, ℕ, Bool, true, List, [], ◌∷◌, ◌++◌, length, refl, ap, sym, ◌∙◌, subst}
use Rattle.history_lock.specs.declared.entry.Who.{Who}
use Rattle.history_lock.specs.declared.view.View.{View}
use Rattle.history_lock.specs.Legal.{legal, replay, count_after}
use Rattle.table_words.specs.declared.call.TableCall.{TableCall}
use Rattle.table_words.specs.declared.call.TableReply.{TableReply}
use Rattle.table_words.specs.Tables.{Tables}
use Rattle.table_words.specs.Sound.{Sound}
use Rattle.table_words.specs.Kept.{Kept}
use Rattle.table_words.specs.Called.{Called}
use Rattle.table_words.specs.Step.{tstep, tables_after}
use Rattle.table_words.proofs.Goes.{goes-history}
use Rattle.doc_history.specs.Told.{Tcall}

pub replay-append : (s : Tables) (xs ys : List Tcall) → replay tables_after s (xs ++ ys) ≡ replay tables_after (replay tables_after s xs) ys
replay-append s [] ys = refl
replay-append s (x ∷ xs) ys = replay-append (tables_after s x.call x.reply) xs ys

pub legal-front : (s : Tables) (n : ℕ) (xs ys : List Tcall) → legal tstep tables_after s n (xs ++ ys) → legal tstep tables_after s n xs
legal-front s n [] ys l = tt
legal-front s n (x ∷ xs) ys l = (l.0, l.1, legal-front (tables_after s x.call x.reply) x.after xs ys l.2)

pub legal-rest : (s : Tables) (n : ℕ) (xs ys : List Tcall) → legal tstep tables_after s n (xs ++ ys) → legal tstep tables_after (replay tables_after s xs) (count_after n xs) ys
legal-rest s n [] ys l = l
legal-rest s n (x ∷ xs) ys l = legal-rest (tables_after s x.call x.reply) x.after xs ys l.2

-- the call stands at these tables: they are sound, it is a step of them, and tables with older stamps are as they were
pub record Made (held : Bool) (s : Tables) (old new : View TableCall TableReply) (who : Who) (call : TableCall) (reply : TableReply) : Type 0 where
  pub mid : List Tcall
  pub entry : Tcall
  pub between : List Tcall
  pub came : mid ≡ old.seen ++ between
  pub seen : new.seen ≡ mid ++ entry ∷ []
  pub own : new.own ≡ old.own ++ length mid ∷ []
  pub mine : entry.who ≡ who
  pub asked : entry.call ≡ call
  pub replied : entry.reply ≡ reply
  pub alone : held ≡ true → mid ≡ old.seen
  pub sound : Sound (replay tables_after s mid)
  pub kept : Kept (replay tables_after s old.seen) (replay tables_after s mid)
  pub before : ℕ
  pub after : ℕ
  pub step : tstep (replay tables_after s mid) call reply before after
  pub next : replay tables_after s new.seen ≡ tables_after (replay tables_after s mid) call reply

append-nil : {X : Type 0} (xs : List X) → xs ++ [] ≡ xs
append-nil [] = refl
append-nil (x ∷ xs) = ap (λ t. x ∷ t) (append-nil xs)

pub made : (held : Bool) (s : Tables) (n : ℕ) (old new : View TableCall TableReply) (who : Who) (call : TableCall) (reply : TableReply) → Called held s n old new who call reply → Made held s old new who call reply
made held s n old new who call reply c =
    let e : Tcall = record { who = who; call = call; reply = reply; before = c.before; after = c.after } in
    let mid : List Tcall = old.seen ++ c.between in
    let all : legal tstep tables_after s n (mid ++ e ∷ []) = subst (legal tstep tables_after s n) c.seen c.lawful in
    let front : legal tstep tables_after s n mid = legal-front s n mid (e ∷ []) all in
    let first : legal tstep tables_after s n old.seen = legal-front s n old.seen c.between front in
    let start = goes-history s n old.seen c.sound first in
    let on = goes-history (replay tables_after s old.seen) (count_after n old.seen) c.between start.sound (legal-rest s n old.seen c.between front) in
    let same = replay-append s old.seen c.between in
    let last = legal-rest s n mid (e ∷ []) all in
    record {
      mid = mid;
      entry = e;
      between = c.between;
      came = refl;
      seen = c.seen;
      own = c.own;
      mine = refl;
      asked = refl;
      replied = refl;
      alone = λ h. ap (λ b. old.seen ++ b) (c.alone h) ∙ append-nil old.seen;
      sound = subst Sound (sym same) on.sound;
      kept = subst (Kept (replay tables_after s old.seen)) (sym same) on.kept;
      before = count_after n mid;
      after = c.after;
      step = last.1;
      next = ap (replay tables_after s) c.seen ∙ replay-append s mid (e ∷ []);
    }
