-- What the code makes of the rows that were selected. Links between contracts; nobody has to read them for the main clause.
use Rattle.std.specs.Prelude.{ℕ, ◌≡◌, Bool, true, false, if◌then◌else◌, List, [], ◌∷◌, ◌++◌, length, take, Option, None, Some, Result, Ok, Err}
use Rattle.std_words.specs.Steps.{◌>>=◌}
use Rattle.doc_shape.specs.Shown.{shown}
use Rattle.doc_shape.specs.declared.shape.Shape.{Shape}
use Rattle.filter_syntax.specs.Meaning.{Doc}
use Rattle.filter_syntax.specs.declared.filter.Filter.{Filter}
use Rattle.update_apply.specs.Seeds.{seed}
use Rattle.update_apply.specs.declared.refused.ApplyRefused.{ApplyRefused}
use Rattle.update_apply.specs.declared.refused.ApplyRefused.TheVariants as refused
use Rattle.update_syntax.specs.After.{after}
use Rattle.update_syntax.specs.declared.update.Update.{Update}
use Rattle.doc_model.specs.Change.{Effect, adding, becoming, differing, differs, id_in, removing, renewing}
use Rattle.doc_model.specs.declared.op.Modify.{Modify}
use Rattle.doc_model.specs.declared.op.Modify.TheVariants.{Remove, Change}
use Rattle.doc_model.specs.declared.op.OpReply.TheVariants.{Modified, Updated}
use Rattle.doc_history.specs.Docs.{doc_of}
use Rattle.table_rows.specs.declared.row.Row.{Row}
use Rattle.table_words.specs.declared.call.Edit.{Edit}
use Rattle.table_words.specs.declared.call.Edit.TheVariants as edit
use Rattle.table_words.specs.Sound.{IsSound}
use Rattle.doc_effects.specs.Outcomes.{AreEdits, IsAnswer, IsKept, Settles}
use Rattle.doc_effects.specs.Replies.{Fits, FitsDoc, FitsId}
use Rattle.doc_effects.specs.declared.deeds.Outcome.{Outcome}
use Rattle.doc_effects.specs.declared.edits.First.{First}
use Rattle.doc_effects.specs.declared.edits.Renewal.{Renewal}
use Rattle.doc_effects.specs.declared.edits.Renewals.{Renewals}
use Rattle.doc_effects.specs.declared.upserts.Built.{Built}

-- the first of the documents, with its row
pub record IsFirst (docs : List Doc) (first : First) : Type 0 where
  pub more : List Doc
  pub are : docs ≡ first.doc ∷ more
  pub sound : IsSound first.row
  pub is_of : first.doc ≡ doc_of first.row

-- the same, where there are some
abbrev pub AreFirst : List Doc → Option First → Type 0
AreFirst docs None = docs ≡ []
AreFirst docs (Some first) = IsFirst docs first

-- ---- updates

-- a document that takes the place of another has a row, unless the two are identical
abbrev pub Exchanges : Doc → Doc → Option Row → Type 0
Exchanges old new None = differs old new ≡ false
Exchanges old new (Some row) = (differs old new ≡ true) × IsKept row new

-- what an update makes of a document
pub record IsRenewal (update : Update) (now : ℕ) (old : Doc) (it : Renewal) : Type 0 where
  pub made : after update old now false ≡ Ok it.doc
  pub exchanged : Exchanges old it.doc it.row

abbrev pub replacing : Option Row → List Edit
replacing None = []
replacing (Some row) = edit.Replace row ∷ []

-- edits went behind others: they put what an update makes of documents in their places
pub record Renews (update : Update) (now : ℕ) (olds : List Doc) (before after : List Edit) : Type 0 where
  pub news : List Doc
  pub become : becoming update now olds ≡ Ok news
  pub more : List Edit
  pub edits : AreEdits [] (differing olds news) more
  pub are : after ≡ before ++ more

-- the documents of which an update is, and its edits
pub record AreRenewals (update : Update) (now : ℕ) (olds : List Doc) (it : Renewals) : Type 0 where
  pub renews : Renews update now olds [] it.edits
  pub matched : it.matched ≡ length olds

-- all, or the first alone
abbrev pub taken : Bool → List Doc → List Doc
taken all docs = if all then docs else take 1 docs

-- ---- removals

-- edits went behind others: they remove documents
pub record Removes (olds : List Doc) (before after : List Edit) : Type 0 where
  pub more : List Edit
  pub edits : AreEdits olds [] more
  pub are : after ≡ before ++ more

-- ---- upserts

-- what an update makes of the document with which an upsert begins
abbrev pub begun : Filter → Update → ℕ → Result Doc ℕ
begun it update now = seed it >>= λ doc. after update doc now true

-- a document that may be stored, its row, and its `_id`, which may be told
pub record IsBuilt (built : Result Doc ℕ) (it : Built) : Type 0 where
  pub is : built ≡ Ok it.doc
  pub kept : IsKept it.row it.doc
  pub id : FitsId (id_in it.doc)
  pub doc : FitsDoc (Some it.doc)

-- an upsert of an update, and of a findAndModify
abbrev pub inserts : Result Doc ℕ → Result Effect ℕ
inserts made = made >>= λ doc. Ok (adding (Updated 0 0 (id_in doc)) doc)

abbrev pub inserts_shown : Bool → Shape → Result Doc ℕ → Result Effect ℕ
inserts_shown fresh shape made = made
    >>= λ doc. Ok (adding (Modified false (id_in doc) (if fresh then Some (shown shape doc) else None)) doc)

-- ---- outcomes

-- what a findAndModify does to the first document
abbrev pub shows : ℕ → Modify → Bool → Shape → Doc → Result Effect ℕ
shows now Remove fresh shape doc = Ok (removing (Modified true None (Some (shown shape doc))) (doc ∷ []))
shows now (Change update) fresh shape doc = after update doc now false
    >>= λ new. Ok (renewing (Modified true None (Some (shown shape (if fresh then new else doc)))) (differing (doc ∷ []) (new ∷ [])))

-- the outcome of an effect, with a reply that may be made before the change
pub record Ends (effect : Result Effect ℕ) (it : Outcome) : Type 0 where
  pub settles : Settles effect it
  pub fits : Fits it.reply
  pub answer : IsAnswer it.reply

-- the outcome of a refusal; want of memory has none
abbrev pub Refuses : ApplyRefused → Outcome → Type 0
Refuses (refused.Refused kind) it = Ends (Err kind) it
Refuses refused.NoMemory it = ⊥
