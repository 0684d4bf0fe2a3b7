-- What the code makes of an effect. Links between contracts; nobody has to read them for the main clause.
use Rattle.std.specs.Prelude.{ℕ, ◌≡◌, ◌<◌, ◌^◌, List, [], ◌∷◌, length, Option, None, Some, Result, Ok, Err}
use Rattle.filter_syntax.specs.Meaning.{Doc}
use Rattle.doc_model.specs.Change.{Effect}
use Rattle.doc_model.specs.declared.op.OpReply.{OpReply}
use Rattle.doc_model.specs.declared.op.OpReply.TheVariants.{Refused, Fault, NoMemory}
use Rattle.doc_history.specs.Docs.{doc_of}
use Rattle.doc_effects.specs.declared.deeds.Outcome.{Outcome}
use Rattle.table_rows.specs.declared.row.Row.{Row}
use Rattle.table_words.specs.declared.call.Edit.{Edit}
use Rattle.table_words.specs.declared.call.Edit.TheVariants.{Replace, Remove}
use Rattle.table_words.specs.Sound.{IsSound}

-- a sound row that keeps the document
pub record IsKept (row : Row) (doc : Doc) : Type 0 where
  pub sound : IsSound row
  pub is_of : doc_of row ≡ doc
  pub short : length row.key < 2 ^ 63

-- the key is that of the document's row
pub record IsKeyOf (key : List ℕ) (doc : Doc) : Type 0 where
  pub row : Row
  pub kept : IsKept row doc
  pub key_is : row.key ≡ key

-- the edits remove the rows of these documents, and put rows of those in the places of what they were
abbrev pub AreEdits : List Doc → List Doc → List Edit → Type 0
AreEdits (old ∷ gone) news (Remove key ∷ edits) = IsKeyOf key old × AreEdits gone news edits
AreEdits [] (new ∷ news) (Replace row ∷ edits) = IsKept row new × AreEdits [] news edits
AreEdits [] [] [] = Unit {0}
AreEdits gone news edits = ⊥

-- the row of the document that is added
abbrev pub Adds : Doc → Option Row → Type 0
Adds doc (Some row) = IsKept row doc
Adds doc None = ⊥

-- the change is that of an effect: it adds a document, or makes edits
abbrev pub Makes : Option Doc → Effect → Outcome → Type 0
Makes (Some doc) effect outcome = (outcome.edits ≡ []) × Adds doc outcome.added
Makes None effect outcome = AreEdits effect.gone effect.renewed outcome.edits × (outcome.added ≡ None)

-- the outcome is that of an effect, or of a refusal, which changes nothing
abbrev pub Settles : Result Effect ℕ → Outcome → Type 0
Settles (Ok effect) outcome = (outcome.reply ≡ effect.reply) × Makes effect.added effect outcome
Settles (Err kind) outcome = (outcome.reply ≡ Refused kind) × (outcome.edits ≡ []) × (outcome.added ≡ None)

-- a reply that is known before the change is made
abbrev pub IsAnswer : OpReply → Type 0
IsAnswer Fault = ⊥
IsAnswer NoMemory = ⊥
IsAnswer reply = Unit {0}
