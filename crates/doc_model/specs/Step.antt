-- One operation on the store.
use Rattle.std.specs.Prelude.{ℕ, ◌≡◌, ◌+◌, ◌-◌, ◌^◌, ◌==◌, Bool, if◌then◌else◌, nat_le, nat_lt, true, false}
use Rattle.std.specs.Prelude.{List, [], ◌∷◌, ◌++◌, length, map, take, drop, Option, None, Some, Result, Ok, Err}
use Rattle.std.specs.List.{filter}
use Rattle.history_lock.specs.declared.entry.Who.{Who}
use Rattle.bson_values.specs.declared.space.Space.{Space}
use Rattle.bson_values.specs.declared.value.Value.{Value}
use Rattle.bson_values.specs.declared.value.Value.TheVariants.{Arr}
use Rattle.bson_values.specs.Cut.{cut}
use Rattle.bson_values.specs.Measures.{size, value_size}
use Rattle.distinct_values.specs.Distinct.{distinct}
use Rattle.doc_shape.specs.Shown.{shown}
use Rattle.doc_shape.specs.Sorted.{sorted}
use Rattle.filter_syntax.specs.Meaning.{Doc, holds}
use Rattle.filter_syntax.specs.declared.filter.Filter.{Filter}
use Rattle.doc_model.specs.declared.op.Op.{Op}
use Rattle.doc_model.specs.declared.op.Query.{Query}
use Rattle.doc_model.specs.declared.op.Op.TheVariants.{Insert, Find, Count, Distinct, Update, Delete, FindAndModify}
use Rattle.doc_model.specs.declared.op.OpReply.{OpReply}
use Rattle.doc_model.specs.declared.op.OpReply.TheVariants.{Inserted, Selected, Counted, Values, Updated, Deleted, Modified}
use Rattle.doc_model.specs.declared.op.OpReply.TheVariants.{Refused, Fault, NoMemory}
use Rattle.doc_model.specs.Change.{Effect, exchanged, without_any, updates, deletes, modifies}
use Rattle.doc_model.specs.Insert.{id_of, completed, not_stored}
use Rattle.doc_model.specs.Store.{Store, Collection, collection_of, docs_of, has_id, with_docs}

-- so many numbers, the first of which is given next, would go past 2^63 - 1, the last that can be given
abbrev pub are_spent : ℕ → Store → Bool
are_spent count s = nat_lt (2 ^ 63 - 1) (s.next + count - 1)

-- there are 10,000 collections, the most that there may be
abbrev pub is_full : Store → Bool
is_full s = nat_le 10000 (length s.collections)

-- a reply, and the store after it
pub record Meant : Type 0 where
  pub reply : OpReply
  pub store : Store

-- a reply that changes nothing
abbrev pub same : OpReply → Store → Meant
same reply s = record { reply = reply; store = s }

-- the first of these kinds, and else this
abbrev pub refused : Store → List (Bool × ℕ) → Meant → Meant
refused s [] done = done
refused s (row ∷ rows) done = if row.0 then same (Refused row.1) s else refused s rows done

-- a refusal of this kind, if there is one, and else this
abbrev pub by_kind : Option ℕ → Store → Meant → Meant
by_kind (Some kind) s done = same (Refused kind) s
by_kind None s done = done

-- a document that went in, with what that is replied; the collection takes a number, and so does the change
abbrev pub added : OpReply → Space → Doc → Store → Collection → Meant
added reply space doc s c =
    record { reply = reply; store = record { collections = with_docs space (c.docs ++ doc ∷ []) s.collections; next = s.next + 1 } }

abbrev pub created : OpReply → Space → Doc → Store → Meant
created reply space doc s =
    let opened : Collection = record { space = space; docs = doc ∷ [] } in
    record { reply = reply; store = record { collections = s.collections ++ opened ∷ []; next = s.next + 2 } }

-- one with its `_id` first goes in: kind 31 where that is taken, 34 where a collection is one too many, 33 where numbers end
abbrev pub inserted : OpReply → Space → Doc → Store → Option Collection → Meant
inserted reply space doc s (Some c) = refused s ((has_id doc c.docs, 31) ∷ (are_spent 1 s, 33) ∷ []) (added reply space doc s c)
inserted reply space doc s None = refused s ((is_full s, 34) ∷ (are_spent 2 s, 33) ∷ []) (created reply space doc s)

-- the documents of a collection became these, which takes a number
abbrev pub changed : OpReply → Space → List Doc → Store → Meant
changed reply space docs s = refused s ((are_spent 1 s, 33) ∷ [])
    (record { reply = reply; store = record { collections = with_docs space docs s.collections; next = s.next + 1 } })

-- there is none
abbrev pub is_none_of : List Doc → Bool
is_none_of [] = true
is_none_of docs = false

-- an effect on a collection; without one nothing takes a number
abbrev pub effected : Space → Store → Effect → Option Doc → Meant
effected space s effect (Some doc) = inserted effect.reply space doc s (collection_of space s.collections)
effected space s effect None =
    if is_none_of (effect.gone ++ effect.renewed) then same effect.reply s
    else changed effect.reply space (exchanged effect.renewed (without_any effect.gone (docs_of space s))) s

abbrev pub by_effect : Space → Store → Result Effect ℕ → Meant
by_effect space s (Ok effect) = effected space s effect effect.added
by_effect space s (Err kind) = same (Refused kind) s

-- the documents that a filter holds of, in order
abbrev pub matching : Filter → List Doc → List Doc
matching it docs = filter (holds it) docs

-- those past the first `skip`, and of them at most `limit`, where that is not 0
abbrev pub limited : ℕ → ℕ → List Doc → List Doc
limited skip limit docs = if limit == 0 then drop skip docs else take limit (drop skip docs)

-- of them as many as go into a batch of at most so many, where they are cut to one
abbrev pub cut_to : Option ℕ → List Doc → List Doc
cut_to None docs = docs
cut_to (Some most) docs = take (cut (map size docs) most) docs

-- what a find shows of the documents of a collection
abbrev pub selected : Query → List Doc → List Doc
selected query docs =
    cut_to query.cut (map (shown query.shape) (limited query.skip query.limit (sorted query.order (matching query.filter docs))))

-- values that are asked for: as an array of more than 16,777,216 bytes they are refused, by kind 30
abbrev pub valued : List Value → OpReply
valued values = if nat_le (value_size (Arr values)) 16777216 then Values values else Refused 30

-- why the words of an operation are refused, at every store
abbrev pub refused_by_words : Who → ℕ → Op → Option ℕ
refused_by_words who now (Insert space doc) = not_stored (id_of who now doc) (completed who now doc)
refused_by_words who now op = None

-- what an operation is replied, and the store after it, where memory and keeper last
abbrev pub meant : Who → ℕ → Op → Store → Meant
meant who now (Insert space doc) s =
    by_kind (refused_by_words who now (Insert space doc)) s
    (inserted Inserted space (completed who now doc) s (collection_of space s.collections))
meant who now (Find space query) s = same (Selected (selected query (docs_of space s))) s
meant who now (Count space it skip limit) s = same (Counted (length (limited skip limit (matching it (docs_of space s))))) s
meant who now (Distinct space path it) s = same (valued (distinct path (matching it (docs_of space s)))) s
meant who now (Update space it update multi upsert) s =
    by_effect space s (updates who now it update multi upsert (matching it (docs_of space s)))
meant who now (Delete space it one) s = by_effect space s (Ok (deletes one (matching it (docs_of space s))))
meant who now (FindAndModify space it order change fresh upsert shape) s =
    by_effect space s (modifies who now it change fresh upsert shape (sorted order (matching it (docs_of space s))))

-- one step: that, or want of memory or a fault, which change nothing
abbrev pub step : Who → ℕ → Op → Store → OpReply → Store → Type 0
step who now op before NoMemory after = after ≡ before
step who now op before Fault after = after ≡ before
step who now op before reply after = record { reply = reply; store = after } ≡ meant who now op before

-- a reply that leaves the documents
abbrev pub Keeps : OpReply → Type 0
Keeps Inserted = ⊥
Keeps (Updated matched changed upserted) = ⊥
Keeps (Deleted n) = ⊥
Keeps (Modified existed upserted value) = ⊥
Keeps reply = Unit {0}
