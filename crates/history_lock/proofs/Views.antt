-- What calls do to a view, one after another.
use Rattle.std.proofs.Common.{List, [], ◌∷◌, ◌++◌, length, refl, ap, sym, ◌∙◌, append_assoc}
use Rattle.std.proofs.lemmas.List.{append-nil}
use Rattle.history_lock.specs.declared.entry.Who.{Who}
use Rattle.history_lock.specs.declared.entry.Entry.{Entry}
use Rattle.history_lock.specs.declared.view.View.{View}
use Rattle.history_lock.specs.Logged.{Longer, Logged, LoggedNext}

module _ {C R : Type 0} where
  -- nothing came
  pub longer-none : (v : View C R) → Longer v v
  longer-none v = record { more = []; seen = sym (append-nil v.seen); own = refl }

  -- what came, and what came then
  pub longer-on : (a b c : View C R) → Longer a b → Longer b c → Longer a c
  longer-on a b c p q = record {
    more = p.more ++ q.more;
    seen = q.seen ∙ (ap (λ (l : List (Entry C R)). l ++ q.more) p.seen ∙ append_assoc a.seen p.more q.more);
    own = q.own ∙ p.own;
  }

  -- a call after what came
  pub longer-logged : (a b c : View C R) (who : Who) (call : C) (reply : R) → Longer a b → LoggedNext b c who call reply
      → Logged a c who call reply
  longer-logged a b c who call reply p q = record {
    between = p.more;
    before = q.before;
    after = q.after;
    seen = q.seen ∙ ap (λ (l : List (Entry C R)). l ++ record {
      who = who;
      call = call;
      reply = reply;
      before = q.before;
      after = q.after;
    } ∷ []) p.seen;
    own = q.own ∙ (λ i. p.own i ++ length (p.seen i) ∷ []);
  }

  -- a call in a turn is a call
  pub next-logged : (a b : View C R) (who : Who) (call : C) (reply : R) → LoggedNext a b who call reply → Logged a b who call reply
  next-logged a b who call reply = longer-logged a a b who call reply (longer-none a)
