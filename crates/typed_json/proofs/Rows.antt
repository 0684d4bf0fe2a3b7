-- What rows are relied on for.
use Rattle.std.proofs.Common.{◌≡◌, ◌∙◌, ℕ, Bool, true, false, None, Some, option_map, List, [], ◌∷◌, refl, sym, ap, subst}
use Rattle.std.specs.Prelude.{codes, if◌then◌else◌, find, Ok, Err}
use Rattle.std.specs.Str.{bytes_eq}
use Rattle.bson_values.specs.declared.pairs.Pair.{Pair}
use Rattle.bson_values.specs.declared.storing.Unstorable.{Unstorable}
use Rattle.bson_values.specs.declared.value.Value.{Value}
use Rattle.bson_values.specs.declared.value.Value.TheVariants as value
use Rattle.bson_values.specs.Names.{names, first_of}
use Rattle.bson_values.specs.Storable.{storable}
use Rattle.jsonb_contain.specs.declared.value.Json.{Json}
use Rattle.jsonb_contain.specs.declared.value.Json.TheVariants as json
use Rattle.jsonb_contain.specs.Rising.{put, value_at}
use Rattle.typed_json.specs.Laws.{IsRowOf, OneDocument, HasFields}
use Rattle.typed_json.specs.Plain.{each, plain_of, plains}
use Rattle.typed_json.specs.Reading.{row_read}
use Rattle.typed_json.specs.Row.{row_of, schema_of}
use Rattle.typed_json.specs.Typed.{has_types}
use Rattle.typed_json.proofs.Puts.{AreTwo, IsNoneOf, AllFound, put_other, two_back}
use Rattle.typed_json.proofs.Distinct.{bytes_same}
use Rattle.typed_json.proofs.Again.{others_of, table_found, stored_parts, row_again}
use Rattle.typed_json.proofs.RowBack.{row_back}

-- ---- reading

pub row_is : (row : Json) (doc : List (Pair Value)) → row_read row ≡ Some doc → storable doc ≡ Ok tt → row_of doc ≡ row
row_is row doc is stored = (row_back row doc is stored).row_is

pub typed : (row : Json) (doc : List (Pair Value)) → row_read row ≡ Some doc → storable doc ≡ Ok tt → has_types doc ≡ true
typed row doc is stored = (row_back row doc is stored).typed

-- the row of a document is read as it
read_again : (row : Json) (doc : List (Pair Value)) → IsRowOf row doc → row_read row ≡ Some doc
read_again row doc of = ap row_read (sym of.row_is) ∙ row_again doc of.typed of.stored

pub no_row : (row : Json) → row_read row ≡ None → (doc : List (Pair Value)) → IsRowOf row doc → ⊥
no_row row none doc of = let both : None ≡ Some doc = sym none ∙ read_again row doc of in cc both

pub no_stored : (row : Json) (found : List (Pair Value)) (wrong : Unstorable) → row_read row ≡ Some found → storable found ≡ Err wrong
    → (doc : List (Pair Value)) → IsRowOf row doc → ⊥
no_stored row found wrong is refused doc of =
    let both : Some found ≡ Some doc = sym is ∙ read_again row doc of in
    let same : found ≡ doc = cc both in
    let twice : Err wrong ≡ Ok tt = sym refused ∙ ap storable same ∙ of.stored in
    cc twice

pub one_document : OneDocument
one_document row doc other of of_too =
    let both : Some doc ≡ Some other = sym (read_again row doc of) ∙ read_again row other of_too in
    cc both

-- ---- fields

-- what is found first is found in a table that has all
found_by : (same : Bool) (made : Value
    → Json) (name : List ℕ) (it : Value) (pair : Pair Value) (doc : List (Pair Value)) (table : List (Pair Json))
    → bytes_eq pair.name name ≡ same → value_at pair.name table ≡ Some (made pair.value)
    → option_map (λ (p : Pair Value). p.value) (if same then Some pair else find (λ (p : Pair Value). bytes_eq p.name name) doc) ≡ Some it
    → (first_of name doc ≡ Some it → value_at name table ≡ Some (made it)) → value_at name table ≡ Some (made it)
found_by true made name it pair doc table is here found rest =
    let value_is : pair.value ≡ it = cc found in
    ap (λ (n : List ℕ). value_at n table) (sym (bytes_same pair.name name is)) ∙ here ∙ ap (λ (v : Value). Some (made v)) value_is
found_by false made name it pair doc table is here found rest = rest found

found_first : (made : Value → Json) (name : List ℕ) (it : Value) (doc : List (Pair Value)) (table : List (Pair Json))
    → AllFound table (each made doc)
    → first_of name doc ≡ Some it → value_at name table ≡ Some (made it)
found_first made name it [] table all found = absurd (cc found)
found_first made name it (pair ∷ doc) table all found =
    found_by (bytes_eq pair.name name) made name it pair doc table refl all.0 found (found_first made name it doc table all.1)

-- a name that is there is another than one that is none of theirs
apart_by : (same : Bool) (name last : List ℕ) (it : Value) (pair : Pair Value) (doc : List (Pair Value)) → bytes_eq pair.name name ≡ same
    → AreTwo last pair.name
    → option_map (λ (p : Pair Value). p.value) (if same then Some pair else find (λ (p : Pair Value). bytes_eq p.name name) doc) ≡ Some it
    → (first_of name doc ≡ Some it → AreTwo last name) → AreTwo last name
apart_by true name last it pair doc is two found rest = subst (AreTwo last) (bytes_same pair.name name is) two
apart_by false name last it pair doc is two found rest = rest found

found_apart : (name last : List ℕ) (it : Value) (doc : List (Pair Value)) → IsNoneOf last (names doc) → first_of name doc ≡ Some it
    → AreTwo last name
found_apart name last it [] none found = absurd (cc found)
found_apart name last it (pair ∷ doc) none found =
    apart_by (bytes_eq pair.name name) name last it pair doc refl none.0 found (found_apart name last it doc none.1)

pub has_fields : (doc : List (Pair Value)) → storable doc ≡ Ok tt → HasFields (row_of doc) doc
has_fields doc stored =
    let sound = (stored_parts doc stored).0 in
    record {
      fields = put (codes "$s") (schema_of doc) (plains doc);
      is = json.outs-Object (put (codes "$s") (schema_of doc) (plains doc));
      at = λ name it found.
          let two = found_apart name (codes "$s") it doc (others_of doc sound) found in
          put_other (codes "$s") (schema_of doc) name (two_back (codes "$s") name two) (plains doc)
          ∙ found_first plain_of name it doc (plains doc) (table_found doc sound plain_of) found;
    }
