-- Documents that were read of rows, in any order.
use Rattle.std.proofs.Common.{◌≡◌, ℕ, Bool, true, false, List, [], ◌∷◌, length, Option, None, Some, Ok, All, slice_get, refl, ap, sym, ◌∙◌, subst, nat_eq, codes}
use Rattle.std.proofs.lemmas.List.Elements.{All-nil, All-cons, All-head}
use Rattle.std.specs.List.{filter}
use Rattle.std.proofs.lemmas.Bool.{eqb-true}
use Rattle.bson_values.specs.Names.{first_of}
use Rattle.bson_values.specs.Storable.{storable}
use Rattle.bson_values.specs.declared.value.Value.{Value, out-Value}
use Rattle.filter_syntax.specs.Meaning.{Doc, holds}
use Rattle.filter_syntax.specs.declared.filter.Filter.{Filter}
use Rattle.naming.specs.Ids.{can_be_id}
use Rattle.table_rows.specs.declared.row.Row.{Row}
use Rattle.table_words.specs.Sound.{IsSound}
use Rattle.doc_shape.specs.Keys.{Way}
use Rattle.doc_shape.specs.Sorted.{sorted}
use Rattle.doc_shape.proofs.Kept.{sorted-all}
use Rattle.doc_shape.proofs.Orders.{sorted_by_none}
use Rattle.doc_model.specs.Step.{matching}
use Rattle.doc_history.specs.Docs.{doc_of, docs_in_rows}
use Rattle.doc_effects.specs.Edited.{AreFirst}
use Rattle.doc_effects.specs.Rows.{AreSound, IsRowFor, IsStored}
use Rattle.doc_effects.specs.declared.edits.First.{First}
use Rattle.doc_effects.proofs.Keys.{doc_sound}
use Rattle.doc_effects.proofs.Renewing.{row_kept}

matching_stored : (it : Filter) (rows : List Row) → AreSound rows → All IsStored (matching it (docs_in_rows rows))
matching_stored it [] sound = All-nil IsStored
matching_stored it (row ∷ rows) sound = cases (holds it (doc_of row)) refl (matching_stored it rows sound.1)
  where
    cases : (b : Bool) → holds it (doc_of row) ≡ b → All IsStored (matching it (docs_in_rows rows))
        → All IsStored (matching it (docs_in_rows (row ∷ rows)))
    cases true e rest = rw e (All-cons IsStored (doc_of row) _ (row, sound.0, refl) rest)
    cases false e rest = rw e rest

pub sorted_stored : (order : List Way) (it : Filter) (rows : List Row) → AreSound rows
    → All IsStored (sorted order (matching it (docs_in_rows rows)))
sorted_stored order it rows sound = sorted-all IsStored order (matching it (docs_in_rows rows)) (matching_stored it rows sound)

pub unsorted_first : (order : List Way) (docs : List Doc) (first : Option First) → nat_eq (length order) 0 ≡ true → AreFirst docs first
    → AreFirst (sorted order docs) first
unsorted_first order docs first none is =
    subst (λ (docs : List Doc). AreFirst docs first) (sorted_by_none order docs (eqb-true (length order) 0 none)) is

pub first_stored : (docs : List Doc) (first : Doc) → All IsStored docs → Some first ≡ slice_get docs 0 → IsStored first
first_stored [] first all at = absurd (cc at)
first_stored (doc ∷ docs) first all at =
    let same : first ≡ doc = cc at in subst IsStored (sym same) (All-head IsStored doc docs all)

-- ---- the row of such a document

pub stored_id : (doc : Doc) → IsStored doc
    → (id : Value) × (first_of (codes "_id") doc ≡ Some id) × (can_be_id (out-Value id) ≡ true) × (storable doc ≡ Ok tt)
stored_id doc stored =
    let sound = stored.1 in
    let is : doc ≡ sound.doc = stored.2 ∙ doc_sound stored.0 sound in
    (sound.id, ap (first_of (codes "_id")) is ∙ sound.has_id, sound.may, ap storable is ∙ sound.json.stored)

pub stored_has_id : (doc : Doc) → IsStored doc → None ≡ first_of (codes "_id") doc → ⊥
stored_has_id doc stored none = let has = stored_id doc stored in absurd (cc (none ∙ has.1))

pub stored_id_may : (doc : Doc) (id : Value) → IsStored doc → Some id ≡ first_of (codes "_id") doc → can_be_id (out-Value id) ≡ true
stored_id_may doc id stored is =
    let has = stored_id doc stored in
    let same : id ≡ has.0 = cc (is ∙ has.1) in subst (λ (it : Value). can_be_id (out-Value it) ≡ true) (sym same) has.2

pub stored_again : (doc : Doc) → IsStored doc → storable doc ≡ Ok tt
stored_again doc stored = (stored_id doc stored).3

pub row_is : (id : Value) (doc : Doc) (row : Row) → IsRowFor id doc row → IsSound row × (doc ≡ doc_of row)
row_is id doc row is = let kept = row_kept id doc row is in (kept.sound, sym kept.is_of)
