-- What operations make of the documents of a collection.
use Rattle.std.specs.Prelude.{ℕ, Bool, true, false, not, if◌then◌else◌, codes, List, [], ◌∷◌, length, take, Option, None, Some, Result, Ok}
use Rattle.std.specs.Str.{bytes_eq}
use Rattle.std_words.specs.Steps.{◌>>=◌}
use Rattle.history_lock.specs.declared.entry.Who.{Who}
use Rattle.bson_values.specs.Names.{first_of}
use Rattle.bson_values.specs.declared.value.Value.{Value}
use Rattle.jsonb_contain.specs.Texts.{data_of}
use Rattle.serde_json.specs.Written.{compact_text}
use Rattle.typed_json.specs.Row.{row_of}
use Rattle.doc_shape.specs.Shown.{shown}
use Rattle.doc_shape.specs.declared.shape.Shape.{Shape}
use Rattle.filter_syntax.specs.Meaning.{Doc}
use Rattle.filter_syntax.specs.declared.filter.Filter.{Filter}
use Rattle.update_syntax.specs.After.{after, unless}
use Rattle.update_syntax.specs.declared.update.Update.{Update}
use Rattle.update_apply.specs.Seeds.{seed}
use Rattle.doc_model.specs.declared.op.Modify.{Modify}
use Rattle.doc_model.specs.declared.op.Modify.TheVariants.{Remove, Change}
use Rattle.doc_model.specs.declared.op.OpReply.{OpReply}
use Rattle.doc_model.specs.declared.op.OpReply.TheVariants.{Updated, Deleted, Modified}
use Rattle.doc_model.specs.Insert.{id_of, completed, not_stored}
use Rattle.doc_model.specs.Store.{same_id}

-- the text in which a document is kept
abbrev pub row_text : Doc → List ℕ
row_text doc = compact_text (data_of (row_of doc))

-- two documents are not identical
abbrev pub differs : Doc → Doc → Bool
differs one other = not (bytes_eq (row_text one) (row_text other))

-- those of the new that are not identical with the old
abbrev pub differing : List Doc → List Doc → List Doc
differing (old ∷ olds) (new ∷ news) = if differs old new then new ∷ differing olds news else differing olds news
differing olds news = []

-- what documents become, or the kind of the first refusal
abbrev pub becoming : Update → ℕ → List Doc → Result (List Doc) ℕ
becoming update now [] = Ok []
becoming update now (doc ∷ docs) = after update doc now false >>= λ new. becoming update now docs >>= λ news. Ok (new ∷ news)

-- the document that an upsert inserts: of the filter's equalities, updated, with its `_id` first
abbrev pub built : Who → ℕ → Filter → Update → Result Doc ℕ
built who now it update = seed it
    >>= λ begun. after update begun now true
    >>= λ made. unless (not_stored (id_of who now made) (completed who now made)) (completed who now made)

-- the documents, with this one in the place of that which has its `_id`
abbrev pub with_new : Doc → List Doc → List Doc
with_new new [] = []
with_new new (doc ∷ docs) = if same_id new doc then new ∷ docs else doc ∷ with_new new docs

abbrev pub exchanged : List Doc → List Doc → List Doc
exchanged [] docs = docs
exchanged (new ∷ news) docs = exchanged news (with_new new docs)

-- the documents without that which has its `_id`
abbrev pub without_old : Doc → List Doc → List Doc
without_old old [] = []
without_old old (doc ∷ docs) = if same_id old doc then docs else doc ∷ without_old old docs

abbrev pub without_any : List Doc → List Doc → List Doc
without_any [] docs = docs
without_any (old ∷ olds) docs = without_any olds (without_old old docs)

-- ---- what an operation does to the documents that its filter holds of

-- it is replied so; those go, these take the places of what they were, and one is added
pub record Effect : Type 0 where
  pub reply : OpReply
  pub gone : List Doc
  pub renewed : List Doc
  pub added : Option Doc

-- nothing but the reply
abbrev pub only : OpReply → Effect
only reply = record { reply = reply; gone = []; renewed = []; added = None }

abbrev pub removing : OpReply → List Doc → Effect
removing reply olds = record { reply = reply; gone = olds; renewed = []; added = None }

abbrev pub renewing : OpReply → List Doc → Effect
renewing reply news = record { reply = reply; gone = []; renewed = news; added = None }

abbrev pub adding : OpReply → Doc → Effect
adding reply doc = record { reply = reply; gone = []; renewed = []; added = Some doc }

-- its `_id`
abbrev pub id_in : Doc → Option Value
id_in doc = first_of (codes "_id") doc

abbrev pub updates_these : Update → ℕ → List Doc → Result Effect ℕ
updates_these update now olds = becoming update now olds
    >>= λ news. Ok (renewing (Updated (length olds) (length (differing olds news)) None) (differing olds news))

-- an update of the first of them, or of all; where there is none, an upsert
abbrev pub updates : Who → ℕ → Filter → Update → Bool → Bool → List Doc → Result Effect ℕ
updates who now it update multi false [] = Ok (only (Updated 0 0 None))
updates who now it update multi true [] = built who now it update >>= λ doc. Ok (adding (Updated 0 0 (id_in doc)) doc)
updates who now it update multi upsert (doc ∷ docs) = updates_these update now (if multi then doc ∷ docs else doc ∷ [])

-- a removal of the first of them, or of all
abbrev pub deletes : Bool → List Doc → Effect
deletes one docs = let olds = if one then take 1 docs else docs in removing (Deleted (length olds)) olds

-- the first of them is removed or updated, and shown in a shape; where there is none, an upsert
abbrev pub modifies : Who → ℕ → Filter → Modify → Bool → Bool → Shape → List Doc → Result Effect ℕ
modifies who now it Remove fresh upsert shape [] = Ok (only (Modified false None None))
modifies who now it Remove fresh upsert shape (doc ∷ docs) = Ok (removing (Modified true None (Some (shown shape doc))) (doc ∷ []))
modifies who now it (Change update) fresh false shape [] = Ok (only (Modified false None None))
modifies who now it (Change update) fresh true shape [] = built who now it update
    >>= λ doc. Ok (adding (Modified false (id_in doc) (if fresh then Some (shown shape doc) else None)) doc)
modifies who now it (Change update) fresh upsert shape (doc ∷ docs) = after update doc now false
    >>= λ new. Ok (renewing (Modified true None (Some (shown shape (if fresh then new else doc)))) (differing (doc ∷ []) (new ∷ [])))
