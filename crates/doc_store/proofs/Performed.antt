-- One call that is an operation's step, by what the desk says of it.
use Rattle.std.proofs.Common.{◌≡◌, ℕ, ◌+◌, ◌≤◌, Bool, List, [], ◌∷◌, ◌++◌, length, refl, ap, sym, subst, arith, length-append}
use Rattle.history_lock.specs.declared.entry.Who.{Who}
use Rattle.history_lock.specs.Legal.{replay}
use Rattle.table_words.specs.declared.call.TableCall.{TableCall}
use Rattle.table_words.specs.declared.call.TableReply.{TableReply}
use Rattle.table_words.specs.Tables.{Tables}
use Rattle.table_words.specs.Step.{tables_after, tstep}
use Rattle.table_words.specs.Sound.{Sound}
use Rattle.table_words.specs.Called.{Called}
use Rattle.doc_model.specs.Run.{Done}
use Rattle.doc_history.specs.Docs.{docs}
use Rattle.doc_history.specs.Told.{Tcall, after, Last}
use Rattle.doc_history.specs.Part.{Views, Served}
use Rattle.doc_store.specs.Ended.{Tried, Ended, Comes}
use Rattle.doc_store.proofs.Made.{Made, made}
use Rattle.doc_store.proofs.Trying.{tried-none, tried-longer, tried-called, ended-served}

-- what others logged before the call, added to the view
abbrev before-it : Views → List Tcall → Views
before-it v mid = record { seen = mid; own = v.own }

module _ (h : Bool) (s : Tables) (old new : Views) (c : TableCall) (r : TableReply) where
  -- nothing was done before it
  waited : (who : Who) (m : Made h s old new who c r) → Tried s old (before-it old m.mid) who 0
  waited who m = tried-longer s old old (before-it old m.mid) who 0 m.between (tried-none s old who) m.came refl

  entry : (who : Who) (m : Made h s old new who c r)
      → m.entry ≡ record { who = who; call = c; reply = r; before = m.entry.before; after = m.entry.after }
  entry who m =
      let mine = m.mine in
      let call = m.asked in
      let reply = m.replied in
      λ i. record { who = mine i; call = call i; reply = reply i; before = m.entry.before; after = m.entry.after }

  -- a call that is the operation's last
  pub ended-made : (d : Done) (m : Made h s old new d.who c r)
      → Comes d (replay tables_after s m.mid) (tables_after (replay tables_after s m.mid) c r) r → Ended s old new d 0
  ended-made d m came =
      let at : Tables = replay tables_after s m.mid in
      let last : Last at m.entry d = subst (λ x. Last at x d) (sym (entry d.who m)) (record { stepped = came.0; fault = came.1 }) in
      record { before = before-it old m.mid; entry = m.entry; tried = waited d.who m; seen = m.seen; own = m.own; same = m.mine; last = last }

  -- one that left the documents
  pub tried-made : (who : Who) (m : Made h s old new who c r)
      → docs (tables_after (replay tables_after s m.mid) c r) ≡ docs (replay tables_after s m.mid) → Tried s old new who 1
  tried-made who m left =
      let at : Tables = replay tables_after s m.mid in
      let same : docs (after at m.entry) ≡ docs at = subst (λ x. docs (after at x) ≡ docs at) (sym (entry who m)) left in
      tried-called s old (before-it old m.mid) new who 0 m.entry (waited who m) m.seen m.own m.mine same

-- of at most so many, and so of more
pub tried-more : (s : Tables) (old new : Views) (who : Who) (j k : ℕ) → j ≤ k → Tried s old new who j → Tried s old new who k
tried-more s old new who j k le t = record {
  more = t.more;
  places = t.places;
  seen = t.seen;
  own = t.own;
  fresh = t.fresh;
  within = t.within;
  left = t.left;
  few = omega (arith, le, t.few);
}

pub ended-more : (s : Tables) (old new : Views) (d : Done) (j k : ℕ) → j ≤ k → Ended s old new d j → Ended s old new d k
ended-more s old new d j k le e = record {
  before = e.before;
  entry = e.entry;
  tried = tried-more s old e.before d.who j k le e.tried;
  seen = e.seen;
  own = e.own;
  same = e.same;
  last = e.last;
}

pub ended-few : (s : Tables) (old new : Views) (d : Done) (k : ℕ) → Ended s old new d k → length new.own ≤ length old.own + (k + 1)
ended-few s old new d k e = omega (
  arith,
  ap length e.own,
  length-append e.before.own (length e.before.seen ∷ []),
  ap length e.tried.own,
  length-append old.own e.tried.places,
  e.tried.few,
)

-- a call that is the operation's step
pub performed : {h : Bool} {s : Tables} {n : ℕ} {old new : Views} {c : TableCall} {r : TableReply} (d : Done)
    → Called h s n old new d.who c r
    → ((t : Tables) (before after : ℕ) → Sound t → tstep t c r before after → Comes d t (tables_after t c r) r)
    → Served s old new (d ∷ [])
performed {h} {s} {n} {old} {new} {c} {r} d called comes =
    let m = made h s n old new d.who c r called in
    ended-served s old new d 0 (ended-made h s old new c r d m (comes (replay tables_after s m.mid) m.before m.after m.sound m.step))

-- it adds one place
pub one-place : {h : Bool} {s : Tables} {n : ℕ} {old new : Views} {who : Who} {c : TableCall} {r : TableReply}
    → Called h s n old new who c r → length new.own ≤ length old.own + 1
one-place {h} {s} {n} {old} {new} called =
    omega (arith, ap length called.own, length-append old.own (length (old.seen ++ called.between) ∷ []))

-- what came of it, by the tables that it stood at
pub came-of : {h : Bool} {s : Tables} {n : ℕ} {old new : Views} {who : Who} {c : TableCall} {r : TableReply} (P : TableReply → Type 0)
    → Called h s n old new who c r → ((t : Tables) (before after : ℕ) → Sound t → tstep t c r before after → P r) → P r
came-of {h} {s} {n} {old} {new} {who} {c} {r} P called comes =
    let m = made h s n old new who c r called in comes (replay tables_after s m.mid) m.before m.after m.sound m.step
