-- Values whose names are sound at every depth: each document has no name twice, so a field is found by its name in what is made of it.
use Rattle.std.proofs.Common.{◌≡◌, ◌∙◌, ℕ, Bool, true, false, Some, option_map, List, [], ◌∷◌, refl, sym, ap}
use Rattle.std.specs.Prelude.{find, if◌then◌else◌}
use Rattle.std.specs.List.{list_all}
use Rattle.std.specs.Str.{bytes_eq}
use Rattle.std.proofs.lemmas.List.Folds.{list_all-map}
use Rattle.std.proofs.lemmas.Slice.Eq.{bytes_eq-Decides}
use Rattle.std_words.proofs.Tests.{and-both}
use Rattle.bson_values.specs.Allowed.{sound_in, is_sound}
use Rattle.bson_values.specs.Names.{first_of}
use Rattle.bson_values.specs.declared.pairs.Pair.{Pair}
use Rattle.bson_values.specs.declared.value.Value.{Value, map-Value}
use Rattle.bson_values.specs.declared.value.Value.TheFolds.{fold_out-Value}
use Rattle.bson_values.specs.declared.value.Value.TheOpen.{Value-F}
use Rattle.bson_values.specs.declared.value.Value.TheVariants as value
use Rattle.bson_values.specs.declared.value.Value.TheViews.{out-Value}
use Rattle.jsonb_contain.specs.Rising.{value_at}
use Rattle.jsonb_contain.specs.declared.value.Json.{Json}
use Rattle.typed_json.proofs.Again.{table_found}
use Rattle.typed_json.proofs.Equations.{hold, sound_Doc}
use Rattle.typed_json.proofs.Puts.{AllFound}
use Rattle.typed_json.specs.Plain.{each, plain_of, plains}

sound_layer : (it : Value) (layer : Value-F Value) → out-Value it ≡ layer → is_sound it ≡ sound_in (map-Value Value Bool is_sound layer)
sound_layer it layer is = fold_out-Value Bool sound_in it ∙ ap (λ (l : Value-F Value). sound_in (map-Value Value Bool is_sound l)) is

pub sound_fields : (it : Value) (pairs : List (Pair Value)) → out-Value it ≡ Value-F.Doc pairs → is_sound it ≡ true
    → is_sound (value.Doc pairs) ≡ true
sound_fields it pairs is sound =
    sound_layer (value.Doc pairs) (Value-F.Doc pairs) (value.outs-Doc pairs) ∙ sym (sound_layer it (Value-F.Doc pairs) is) ∙ sound

pub sound_items : (it : Value) (items : List Value) → out-Value it ≡ Value-F.Arr items → is_sound it ≡ true
    → list_all is_sound items ≡ true
sound_items it items is sound =
    sym (list_all-map (λ (item : Bool). item) is_sound items) ∙ sym (sound_layer it (Value-F.Arr items) is) ∙ sound

-- what is known of a field that is found
pub record IsThere (name : List ℕ) (table : List (Pair Json)) (it : Value) : Type 0 where
  pub shown : value_at name table ≡ Some (plain_of it)
  pub sound : is_sound it ≡ true

found_by : (same : Bool) (name : List ℕ) (it : Value) (pair : Pair Value) (doc : List (Pair Value)) (table : List (Pair Json))
    → bytes_eq pair.name name ≡ same → value_at pair.name table ≡ Some (plain_of pair.value) → is_sound pair.value ≡ true
    → option_map (λ (p : Pair Value). p.value) (if same then Some pair else find (λ (p : Pair Value). bytes_eq p.name name) doc) ≡ Some it
    → (first_of name doc ≡ Some it → IsThere name table it) → IsThere name table it
found_by true name it pair doc table is here sound found rest =
    let value_is : pair.value ≡ it = cc found in
    record {
      shown = ap (λ (n : List ℕ). value_at n table) (sym ((bytes_eq-Decides pair.name name).0 is)) ∙ here
          ∙ ap (λ (v : Value). Some (plain_of v)) value_is;
      sound = ap is_sound (sym value_is) ∙ sound;
    }
found_by false name it pair doc table is here sound found rest = rest found

found_first : (name : List ℕ) (it : Value) (doc : List (Pair Value)) (table : List (Pair Json)) → AllFound table (each plain_of doc)
    → hold (each is_sound doc) ≡ true → first_of name doc ≡ Some it → IsThere name table it
found_first name it [] table all sound found = absurd (cc found)
found_first name it (pair ∷ doc) table all sound found =
    let parts = and-both (is_sound pair.value) (hold (each is_sound doc)) sound in
    found_by (bytes_eq pair.name name) name it pair doc table refl all.0 parts.0 found (found_first name it doc table all.1 parts.1)

pub is_there : (name : List ℕ) (it : Value) (doc : List (Pair Value)) → is_sound (value.Doc doc) ≡ true → first_of name doc ≡ Some it
    → IsThere name (plains doc) it
is_there name it doc sound found =
    found_first name it doc (plains doc) (table_found doc sound plain_of)
    (and-both _ (hold (each is_sound doc)) (sym (sound_Doc doc) ∙ sound)).1 found
