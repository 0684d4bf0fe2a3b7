-- The documents of changed tables.
use Rattle.std.proofs.Common.{◌≡◌, ℕ, Bool, true, false, List, [], ◌∷◌, ◌++◌, length, Option, None, Some}
use Rattle.std.proofs.Common.{refl, ap, sym, subst, arith}
use Rattle.bson_values.specs.declared.space.Space.{Space}
use Rattle.bson_values.specs.Names.{same_space}
use Rattle.table_rows.specs.declared.listed.Placed.{Placed}
use Rattle.table_words.specs.Tables.{Table, named, numbered, put}
use Rattle.table_words.specs.Sound.{SoundTables}
use Rattle.table_words.proofs.Changes.{renewed}
use Rattle.table_words.proofs.Finds.{found-number, space-same, space-swap, spaces-apart}
use Rattle.doc_model.specs.Store.{Collection, collection_of, with_docs}
use Rattle.doc_history.specs.Docs.{doc_of, docs_at, collection, collections}

abbrev pub collection_at : Option Table → Option Collection
collection_at None = None
collection_at (Some t) = Some (collection t)

-- the collection of a space is that of its table
pub collection-found : (space : Space) (ts : List Table) → collection_of space (collections ts) ≡ collection_at (named space ts)
collection-found space [] = refl
collection-found space (t ∷ ts) = cases (same_space space t.space) refl (collection-found space ts)
  where
    cases : (b : Bool) → same_space space t.space ≡ b → collection_of space (collections ts) ≡ collection_at (named space ts)
        → collection_of space (collections (t ∷ ts)) ≡ collection_at (named space (t ∷ ts))
    cases true e rest = rw e refl
    cases false e rest = rw e rest

pub length-collections : (ts : List Table) → length (collections ts) ≡ length ts
length-collections [] = refl
length-collections (t ∷ ts) = let rest = length-collections ts in grind arith

pub docs-append : (ps qs : List Placed) → docs_at (ps ++ qs) ≡ docs_at ps ++ docs_at qs
docs-append [] qs = refl
docs-append (p ∷ ps) qs = ap (λ ds. doc_of p.row ∷ ds) (docs-append ps qs)

pub collections-last : (ts : List Table) (u : Table) → collections (ts ++ u ∷ []) ≡ collections ts ++ collection u ∷ []
collections-last [] u = refl
collections-last (t ∷ ts) u = ap (λ cs. collection t ∷ cs) (collections-last ts u)

pub collections-put : (next stamp : ℕ) (t : Table) (rows : List Placed) (ts : List Table) → SoundTables next ts
    → numbered t.number ts ≡ Some t → collections (put (renewed t stamp rows) ts) ≡ with_docs t.space (docs_at rows) (collections ts)
collections-put next stamp t rows [] sound found = refl
collections-put next stamp t rows (v ∷ vs) sound found = found-number t.number v t vs found
    (λ e same. rw e (subst
    (λ (x : Table). collection (renewed t stamp rows) ∷ collections vs ≡ with_docs t.space (docs_at rows) (collection x ∷ collections vs))
    (sym same) (rw (space-same t.space) refl)))
    (λ e more. rw (e, space-swap v.space t.space (spaces-apart v t t.number vs sound.1 more))
    (ap (λ cs. collection v ∷ cs) (collections-put next stamp t rows vs sound.2 more)))
