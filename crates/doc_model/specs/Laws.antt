-- Laws of the store.
use Rattle.std.specs.Prelude.{ℕ, zero, ◌≡◌, ◌≢◌, false, List, [], ◌∷◌, ◌++◌, None}
use Rattle.history_lock.specs.declared.entry.Who.{Who}
use Rattle.bson_values.specs.declared.space.Space.{Space}
use Rattle.bson_values.specs.Names.{same_space}
use Rattle.filter_syntax.specs.Meaning.{Doc}
use Rattle.filter_syntax.specs.declared.filter.Filter.{Filter}
use Rattle.doc_model.specs.declared.op.Op.{Op}
use Rattle.doc_model.specs.declared.op.Query.{Query}
use Rattle.doc_model.specs.declared.op.Op.TheVariants.{Insert, Find, Delete}
use Rattle.doc_model.specs.declared.op.OpReply.{OpReply}
use Rattle.doc_model.specs.declared.op.OpReply.TheVariants.{Inserted, Selected, Updated, Deleted, Modified, Refused}
use Rattle.doc_model.specs.Store.{Store, empty_store, docs_of, has_id}
use Rattle.doc_model.specs.Insert.{completed}
use Rattle.doc_model.specs.Change.{id_in}
use Rattle.doc_model.specs.Named.{space_of}
use Rattle.doc_model.specs.Step.{step, meant, matching, selected}
use Rattle.doc_model.specs.Run.{Done, run}

-- the store after a refusal is the one before it
abbrev pub RefusalsChangeNothing : Type 0
RefusalsChangeNothing = (who : Who) (now : ℕ) (op : Op) (s t : Store) (kind : ℕ) → step who now op s (Refused kind) t → t ≡ s

-- no document was inserted, removed or is no longer what it was
abbrev pub TellsNoChange : OpReply → Type 0
TellsNoChange (Updated matched zero None) = Unit {0}
TellsNoChange (Deleted zero) = Unit {0}
TellsNoChange (Modified false None value) = Unit {0}
TellsNoChange reply = ⊥

-- a change of nothing takes no number: the store is the one before it
abbrev pub NothingTakesNoNumber : Type 0
NothingTakesNoNumber = (who : Who) (now : ℕ) (op : Op) (s t : Store) (reply : OpReply)
    → TellsNoChange reply → step who now op s reply t → t ≡ s

-- after an insert a find selects of what was there before and then of the completed document
abbrev pub InsertedIsFound : Type 0
InsertedIsFound = (who other : Who) (now then' : ℕ) (space : Space) (doc : Doc) (query : Query) (s t : Store)
    → step who now (Insert space doc) s Inserted t
    → meant other then' (Find space query) t
    ≡ record { reply = Selected (selected query (docs_of space s ++ completed who now doc ∷ [])); store = t }

-- an operation leaves the documents of every space but its own
abbrev pub OthersAreLeft : Type 0
OthersAreLeft = (who : Who) (now : ℕ) (op : Op) (reply : OpReply) (s t : Store) (other : Space)
    → step who now op s reply t → same_space other (space_of op) ≡ false → docs_of other t ≡ docs_of other s

-- each document has an `_id`, which no later one has
abbrev pub HaveOwnIds : List Doc → Type 0
HaveOwnIds [] = Unit {0}
HaveOwnIds (doc ∷ docs) = (id_in doc ≢ None) × (has_id doc docs ≡ false) × HaveOwnIds docs

-- that holds of the documents of every space
abbrev pub IdsAreOwn : Store → Type 0
IdsAreOwn s = (space : Space) → HaveOwnIds (docs_of space s)

-- and it holds after any run from the empty store
abbrev pub IdsStayOwn : Type 0
IdsStayOwn = (ds : List Done) (t : Store) → run empty_store ds t → IdsAreOwn t

-- after a removal of all that a filter holds of, it holds of none that is there
abbrev pub DeletedIsGone : Type 0
DeletedIsGone = (who : Who) (now : ℕ) (space : Space) (it : Filter) (n : ℕ) (s t : Store)
    → IdsAreOwn s → step who now (Delete space it false) s (Deleted n) t → matching it (docs_of space t) ≡ []
