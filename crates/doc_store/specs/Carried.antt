-- What the table calls of an operation carry.
use Rattle.std.specs.Prelude.{ℕ, ◌≡◌, ◌+◌, Bool, true, List, [], ◌∷◌, ◌++◌, length, Option, Some, None, option_map}
use Rattle.filter_syntax.specs.declared.filter.Filter.{Filter}
use Rattle.history_lock.specs.Places.{is_own, Within}
use Rattle.pushdown.specs.Pushed.{cond}
use Rattle.doc_model.specs.declared.op.Op.{Op}
use Rattle.doc_model.specs.declared.op.Op.TheVariants as op
use Rattle.table_words.specs.declared.call.TableCall.{TableCall}
use Rattle.table_words.specs.declared.call.TableCall.TheVariants as call
use Rattle.doc_history.specs.Part.{Views}
use Rattle.doc_history.specs.Told.{Tcall}

-- the filter of an operation, where it has one
abbrev pub filter_of : Op → Option Filter
filter_of (op.Insert space doc) = None
filter_of (op.Find space query) = Some query.filter
filter_of (op.Count space it skip limit) = Some it
filter_of (op.Distinct space path it) = Some it
filter_of (op.Update space it update multi upsert) = Some it
filter_of (op.Delete space it one) = Some it
filter_of (op.FindAndModify space it order change fresh upsert shape) = Some it

-- a call that selects carries exactly the condition of the operation's filter
abbrev pub Carries : Op → TableCall → Type 0
Carries by (call.SelectNamed space asked) = Some asked ≡ option_map cond (filter_of by)
Carries by (call.Select table asked) = Some asked ≡ option_map cond (filter_of by)
Carries by other = Unit {0}

-- so does each entry at those places
abbrev pub CarryAt : (ℕ → Bool) → Op → ℕ → List Tcall → Type 0
CarryAt mine by i [] = Unit {0}
CarryAt mine by i (e ∷ es) = (mine i ≡ true → Carries by e.call) × CarryAt mine by (i + 1) es

-- and so do the calls that an operation added to its seat's own
pub record Carried (by : Op) (old new : Views) : Type 0 where
  pub more : List Tcall
  pub places : List ℕ
  pub seen : new.seen ≡ old.seen ++ more
  pub own : new.own ≡ old.own ++ places
  pub within : Within (is_own places) (length new.seen)
  pub carry : CarryAt (is_own places) by 0 new.seen
