-- A key stands among rows exactly where its `_id` does among their documents.
use Rattle.std.proofs.Common.{◌≡◌, ◌<◌, ◌^◌, ℕ, Bool, true, false, ◌&&◌, ◌||◌, List, [], ◌∷◌, length, nat_le}
use Rattle.std.proofs.Common.{refl, ap, sym, ◌∙◌, subst}
use Rattle.std.specs.Prelude.{codes, Option, Some, Ok, is_ok}
use Rattle.std.specs.Option.{unwrap_or}
use Rattle.std.specs.Str.{bytes_eq}
use Rattle.std_words.proofs.Tests.{and-both}
use Rattle.bson_spelling.specs.Spelling.{key}
use Rattle.bson_values.specs.Allowed.{is_sound, can_be_stored}
use Rattle.bson_values.specs.Measures.{size, depth}
use Rattle.bson_values.specs.Names.{first_of}
use Rattle.bson_values.specs.Storable.{MOST_BYTES, MOST_LEVELS, storable}
use Rattle.bson_values.specs.declared.value.Value.{Value}
use Rattle.bson_values.specs.declared.value.Value.TheVariants as value
use Rattle.bson_values.proofs.Soundness.{storable_where}
use Rattle.bson_order.specs.Plain.{IsPlain}
use Rattle.filter_syntax.specs.Meaning.{Doc}
use Rattle.typed_json.specs.Plain.{each}
use Rattle.typed_json.specs.Reading.{row_read}
use Rattle.typed_json.specs.Typed.{is_typed, has_types}
use Rattle.typed_json.proofs.Again.{row_again}
use Rattle.typed_json.proofs.Equations.{hold, sound_Doc, typed_Doc}
use Rattle.table_rows.specs.declared.listed.Placed.{Placed}
use Rattle.table_rows.specs.declared.row.Row.{Row}
use Rattle.table_rows.specs.Rows.{has_key}
use Rattle.table_words.specs.Sound.{IsSound, SoundRows}
use Rattle.doc_model.specs.Store.{are_same, same_id, has_id}
use Rattle.doc_history.specs.Docs.{doc_of, docs_at}
use Rattle.distinct_values.proofs.Keys.{key_same}
use Rattle.doc_effects.proofs.Plain.{plain_where}

-- ---- the `_id` of a stored document is plain

found_holds : (test : Value → Bool) (name : List ℕ) (it : Value) (doc : Doc) → hold (each test doc) ≡ true → first_of name doc ≡ Some it
    → test it ≡ true
found_holds test name it [] all found = absurd (cc found)
found_holds test name it (pair ∷ doc) all found =
    let both = and-both (test pair.value) (hold (each test doc)) all in
    cases (bytes_eq pair.name name) refl both.0 (λ later. found_holds test name it doc both.1 later)
  where
    cases : (b : Bool) → bytes_eq pair.name name ≡ b → test pair.value ≡ true → (first_of name doc ≡ Some it → test it ≡ true) → test it ≡ true
    cases true e own rest =
        let here : Some pair.value ≡ Some it = rw e at found in
        let same : pair.value ≡ it = cc here in
        ap test (sym same) ∙ own
    cases false e own rest = rest (rw e at found)

pub stored_sound : (doc : Doc) → storable doc ≡ Ok tt → is_sound (value.Doc doc) ≡ true
stored_sound doc stored =
    let may : can_be_stored doc ≡ true = sym (storable_where doc) ∙ ap is_ok stored in
    (and-both (nat_le (size doc) MOST_BYTES && nat_le (depth doc) MOST_LEVELS) (is_sound (value.Doc doc)) may).1

pub plain_id : (doc : Doc) (id : Value) → storable doc ≡ Ok tt → has_types doc ≡ true → first_of (codes "_id") doc ≡ Some id → IsPlain id
plain_id doc id stored typed found =
    plain_where id
    (found_holds is_sound (codes "_id") id doc (and-both _ (hold (each is_sound doc)) (sym (sound_Doc doc) ∙ stored_sound doc stored)).1 found)
    (found_holds is_typed (codes "_id") id doc (sym (typed_Doc doc) ∙ typed) found)

-- ---- rows and their documents

-- the document of a sound row
pub doc_sound : (row : Row) → (sound : IsSound row) → doc_of row ≡ sound.doc
doc_sound row sound =
    let read : row_read row.json ≡ Some sound.doc = ap row_read (sym sound.json.row_is) ∙ row_again sound.doc sound.json.typed sound.json.stored in
    ap (λ (found : Option Doc). unwrap_or found []) read

pub plain_doc : (row : Row) (doc : Doc) → IsSound row → doc ≡ doc_of row → IsPlain (value.Doc doc)
plain_doc row doc sound is =
    subst (λ (it : Doc). IsPlain (value.Doc it)) (sym (is ∙ doc_sound row sound))
    (plain_where (value.Doc sound.doc) (stored_sound sound.doc sound.json.stored) sound.json.typed)

-- the one row
pub row_id : (doc : Doc) (id : Value) (row : Row) → IsPlain id → first_of (codes "_id") doc ≡ Some id → length (key id) < 2 ^ 63 → IsSound row
    → bytes_eq (key id) row.key ≡ same_id doc (doc_of row)
row_id doc id row plain found short sound =
    let like = plain_id sound.doc sound.id sound.json.stored sound.json.typed sound.has_id in
    let other : first_of (codes "_id") (doc_of row) ≡ Some sound.id = ap (first_of (codes "_id")) (doc_sound row sound) ∙ sound.has_id in
    ap (bytes_eq (key id)) sound.key_is ∙ key_same id sound.id plain like short
    ∙ ap (λ (x : Option Value). are_same x (Some sound.id)) (sym found)
    ∙ ap (are_same (first_of (codes "_id") doc)) (sym other)

pub key_id : (next : ℕ) (doc : Doc) (id : Value) (ps : List Placed) → IsPlain id → first_of (codes "_id") doc ≡ Some id
    → length (key id) < 2 ^ 63 → SoundRows next ps → has_key (key id) ps ≡ has_id doc (docs_at ps)
key_id next doc id [] plain found short sound = refl
key_id next doc id (p ∷ ps) plain found short sound =
    rw (row_id doc id p.row plain found short sound.0) (ap (λ b. same_id doc (doc_of p.row) || b) (key_id next doc id ps plain found short sound.3))
