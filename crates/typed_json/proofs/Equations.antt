-- What is said of a value, by what is said of those within.
use Rattle.std.proofs.Common.{◌≡◌, ◌∙◌, ◌+◌, ◌&&◌, ℕ, Bool, List, [], ◌∷◌, map, length, suc, refl, sym, ap}
use Rattle.std.specs.List.{list_all}
use Rattle.bson_values.specs.declared.pairs.Pair.{Pair}
use Rattle.bson_values.specs.declared.value.Value.{Value}
use Rattle.bson_values.specs.declared.value.Value.TheOpen.{Value-F}
use Rattle.bson_values.specs.declared.value.Value.TheFolds.{fold-roll-Value}
use Rattle.bson_values.specs.declared.value.Value.TheVariants as value
use Rattle.bson_values.specs.Allowed.{are_allowed, sound_in, is_sound}
use Rattle.bson_values.specs.Measures.{greatest, depth_in, value_depth}
use Rattle.bson_values.specs.Names.{names}
use Rattle.typed_json.specs.Plain.{each}
use Rattle.typed_json.specs.Typed.{typed_in, is_typed}

abbrev pub hold : List (Pair Bool) → Bool
hold pairs = list_all (λ (pair : Pair Bool). pair.value) pairs

abbrev pub are : List Bool → Bool
are items = list_all (λ (item : Bool). item) items

abbrev pub deepest : List (Pair ℕ) → ℕ
deepest pairs = greatest (map (λ (pair : Pair ℕ). pair.value) pairs)

pub typed_Arr : (items : List Value) → is_typed (value.Arr items) ≡ are (map is_typed items)
typed_Arr items = ap is_typed (sym (value.rolls-Arr items)) ∙ fold-roll-Value Bool typed_in (Value-F.Arr items)

pub typed_Doc : (doc : List (Pair Value)) → is_typed (value.Doc doc) ≡ hold (each is_typed doc)
typed_Doc doc = ap is_typed (sym (value.rolls-Doc doc)) ∙ fold-roll-Value Bool typed_in (Value-F.Doc doc)

pub sound_Arr : (items : List Value) → is_sound (value.Arr items) ≡ are (map is_sound items)
sound_Arr items = ap is_sound (sym (value.rolls-Arr items)) ∙ fold-roll-Value Bool sound_in (Value-F.Arr items)

pub sound_Doc : (doc : List (Pair Value))
    → is_sound (value.Doc doc) ≡ are_allowed [] (names (each is_sound doc)) && hold (each is_sound doc)
sound_Doc doc = ap is_sound (sym (value.rolls-Doc doc)) ∙ fold-roll-Value Bool sound_in (Value-F.Doc doc)

pub deep_Arr : (items : List Value) → value_depth (value.Arr items) ≡ greatest (map value_depth items) + 1
deep_Arr items = ap value_depth (sym (value.rolls-Arr items)) ∙ fold-roll-Value ℕ depth_in (Value-F.Arr items)

pub deep_Doc : (doc : List (Pair Value)) → value_depth (value.Doc doc) ≡ deepest (each value_depth doc) + 1
deep_Doc doc = ap value_depth (sym (value.rolls-Doc doc)) ∙ fold-roll-Value ℕ depth_in (Value-F.Doc doc)

-- the names stay, and their number
pub names_each : {V W : Type 0} (made : V → W) (pairs : List (Pair V)) → names (each made pairs) ≡ names pairs
names_each made [] = refl
names_each made (pair ∷ pairs) = ap (λ (more : List (List ℕ)). pair.name ∷ more) (names_each made pairs)

pub length-each : {V W : Type 0} (made : V → W) (pairs : List (Pair V)) → length (each made pairs) ≡ length pairs
length-each made [] = refl
length-each made (pair ∷ pairs) = ap suc (length-each made pairs)

pub length-all : {V W : Type 0} (made : V → W) (items : List V) → length (map made items) ≡ length items
length-all made [] = refl
length-all made (item ∷ items) = ap suc (length-all made items)
