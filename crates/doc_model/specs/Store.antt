-- A store of documents.
use Rattle.std.specs.Prelude.{ℕ, Bool, false, if◌then◌else◌, codes, List, [], ◌∷◌, Option, None, Some, option_map}
use Rattle.std.specs.Option.{unwrap_or}
use Rattle.std.specs.List.{list_any}
use Rattle.bson_values.specs.declared.space.Space.{Space}
use Rattle.bson_values.specs.declared.value.Value.{Value}
use Rattle.bson_values.specs.Names.{first_of, same_space}
use Rattle.bson_order.specs.Order.{is_same}
use Rattle.filter_syntax.specs.Meaning.{Doc}

-- the documents of one space, in the order of their insertion
pub record Collection : Type 0 where
  pub space : Space
  pub docs : List Doc

-- the collections in the order of their creation, and the number that is given next
pub record Store : Type 0 where
  pub collections : List Collection
  pub next : ℕ

-- the store before any operation
abbrev pub empty_store : Store
empty_store = record { collections = []; next = 1 }

-- the values are there and the same: an int32 is the same as the int64 of its number
abbrev pub are_same : Option Value → Option Value → Bool
are_same (Some one) (Some other) = is_same one other
are_same one other = false

-- the documents have the same `_id`
abbrev pub same_id : Doc → Doc → Bool
same_id one other = are_same (first_of (codes "_id") one) (first_of (codes "_id") other)

-- one of the documents has the `_id` of this one
abbrev pub has_id : Doc → List Doc → Bool
has_id doc others = list_any (same_id doc) others

-- the collection of that space
abbrev pub collection_of : Space → List Collection → Option Collection
collection_of space [] = None
collection_of space (c ∷ cs) = if same_space space c.space then Some c else collection_of space cs

-- the documents of a collection, none where it is absent
abbrev pub docs_in : Option Collection → List Doc
docs_in found = unwrap_or (option_map (λ (c : Collection). c.docs) found) []

-- the documents of that space
abbrev pub docs_of : Space → Store → List Doc
docs_of space s = docs_in (collection_of space s.collections)

-- the collections, where that of the space has these documents
abbrev pub with_docs : Space → List Doc → List Collection → List Collection
with_docs space docs [] = []
with_docs space docs (c ∷ cs) = if same_space space c.space then record c { docs = docs } ∷ cs else c ∷ with_docs space docs cs
