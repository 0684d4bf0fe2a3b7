-- What was read so far, before what is left.
use Rattle.std.proofs.Common.{◌≡◌, ◌∙◌, ℕ, true, Option, None, Some, List, [], ◌∷◌, ◌++◌, map, length, String, Global, string_bytes, option_map, option_and_then, refl, sym, ap, append_assoc, append-nil}
use Rattle.std.specs.List.Sorted.{IsStrictlySortedBy}
use Rattle.std.specs.Map.{keys_of}
use Rattle.std.specs.String.{string_cmp}
use Rattle.serde_json.specs.declared.value.Value.{Value}
use Rattle.serde_json.specs.View.{view, items_view, members_view}
use Rattle.bson_values.specs.declared.pairs.Pair.{Pair}
use Rattle.jsonb_contain.specs.declared.value.Json.{Json}
use Rattle.bson_values.specs.Names.{names}
use Rattle.jsonb_contain.specs.Rising.{is_rising}
use Rattle.jsonb_contain.specs.Texts.{json_of, list_of, fields_of}

-- some things, and then those that are left, where they are known
abbrev pub after : {X : Type 0} → List X → Option (List X) → Option (List X)
after {X} first more = option_map (λ (rest : List X). first ++ rest) more

after_none : {X : Type 0} (more : Option (List X)) → more ≡ after [] more
after_none None = refl
after_none (Some rest) = refl

after_more : {X : Type 0} (first : List X) (one : X) (more : Option (List X))
    → after first (option_map (λ (rest : List X). one ∷ rest) more) ≡ after (first ++ one ∷ []) more
after_more first one None = refl
after_more first one (Some rest) = ap Some (sym (append_assoc first (one ∷ []) rest))

pub nil_from_length : {X : Type 0} (xs : List X) → length xs ≡ 0 → xs ≡ []
nil_from_length [] none = refl
nil_from_length (x ∷ xs) none = absurd cc

-- ---- items

abbrev pub ItemsLeft : List Value → List Json → List Value → Type 0
ItemsLeft all list left = list_of (items_view all) ≡ after list (list_of (items_view left))

pub items_begin : (all left : List Value) → left ≡ all → ItemsLeft all [] left
items_begin all left is = ap (λ (vs : List Value). list_of (items_view vs)) (sym is) ∙ after_none (list_of (items_view left))

pub items_go : (all : List Value) (list : List Json) (left rest : List Value) (value : Value) (it : Json) → ItemsLeft all list left
    → left ≡ value ∷ rest → json_of (view value) ≡ Some it
    → ItemsLeft all (list ++ it ∷ []) rest
items_go all list left rest value it before is read =
    before ∙ ap (λ (vs : List Value). after list (list_of (items_view vs))) is
    ∙ ap (λ (o : Option Json). after list
    (option_and_then (λ (it : Json). option_map (λ (items : List Json). it ∷ items) (list_of (items_view rest))) o)) read
    ∙ after_more list it (list_of (items_view rest))

pub items_stop : (all : List Value) (list : List Json) (left rest : List Value) (value : Value) → ItemsLeft all list left
    → left ≡ value ∷ rest → json_of (view value) ≡ None → list_of (items_view all) ≡ None
items_stop all list left rest value before is none =
    before ∙ ap (λ (vs : List Value). after list (list_of (items_view vs))) is
    ∙ ap (λ (o : Option Json). after list
    (option_and_then (λ (it : Json). option_map (λ (items : List Json). it ∷ items) (list_of (items_view rest))) o)) none

pub items_end : (all : List Value) (list : List Json) (left : List Value) → ItemsLeft all list left → left ≡ []
    → list_of (items_view all) ≡ Some list
items_end all list left before none =
    before ∙ ap (λ (vs : List Value). after list (list_of (items_view vs))) none ∙ ap Some (append-nil list)

-- ---- members

abbrev pub Entry : Type 0
Entry = String Global × Value

abbrev pub keys_bytes : List Entry → List (List ℕ)
keys_bytes entries = map (λ (e : Entry). string_bytes e.0) entries

pub record MembersLeft (all : List Entry) (pairs : List (Pair Json)) (left : List Entry) : Type 0 where
  pub same : fields_of (members_view all) ≡ after pairs (fields_of (members_view left))
  pub named : names pairs ++ keys_bytes left ≡ keys_bytes all

pub members_begin : (all left : List Entry) → left ≡ all → MembersLeft all [] left
members_begin all left is = record {
  same = ap (λ (vs : List Entry). fields_of (members_view vs)) (sym is) ∙ after_none (fields_of (members_view left));
  named = ap keys_bytes is;
}

names_more : (pairs : List (Pair Json)) (name : List ℕ) (it : Json) (more : List (List ℕ))
    → names (pairs ++ (record { name = name; value = it }) ∷ []) ++ more ≡ names pairs ++ name ∷ more
names_more [] name it more = refl
names_more (pair ∷ pairs) name it more = ap (λ (l : List (List ℕ)). pair.name ∷ l) (names_more pairs name it more)

pub members_go : (all : List Entry) (pairs : List (Pair Json)) (left rest : List Entry) (key : String Global) (value : Value)
    (name : List ℕ) (it : Json)
    → MembersLeft all pairs left → left ≡ (key, value) ∷ rest → json_of (view value) ≡ Some it → name ≡ string_bytes key
    → MembersLeft all (pairs ++ (record { name = name; value = it }) ∷ []) rest
members_go all pairs left rest key value name it before is read same =
    let keyed : List ℕ → Pair Json = λ n. record { name = n; value = it } in record {
      same = before.same ∙ ap (λ (vs : List Entry). after pairs (fields_of (members_view vs))) is
          ∙ ap (λ (o : Option Json). after pairs
          (option_and_then
          (λ (it : Json). option_map (λ (more : List (Pair Json)). (record { name = string_bytes key; value = it }) ∷ more)
          (fields_of (members_view rest))) o)) read
          ∙ after_more pairs (keyed (string_bytes key)) (fields_of (members_view rest))
          ∙ ap (λ (n : List ℕ). after (pairs ++ keyed n ∷ []) (fields_of (members_view rest))) (sym same);
      named = names_more pairs name it (keys_bytes rest) ∙ ap (λ (n : List ℕ). names pairs ++ n ∷ keys_bytes rest) same
          ∙ ap (λ (es : List Entry). names pairs ++ keys_bytes es) (sym is) ∙ before.named;
    }

pub members_stop : (all : List Entry) (pairs : List (Pair Json)) (left rest : List Entry) (key : String Global) (value : Value)
    → MembersLeft all pairs left → left ≡ (key, value) ∷ rest → json_of (view value) ≡ None → fields_of (members_view all) ≡ None
members_stop all pairs left rest key value before is none =
    before.same ∙ ap (λ (vs : List Entry). after pairs (fields_of (members_view vs))) is
    ∙ ap (λ (o : Option Json). after pairs
    (option_and_then
    (λ (it : Json). option_map (λ (more : List (Pair Json)). (record { name = string_bytes key; value = it }) ∷ more)
    (fields_of (members_view rest))) o)) none

pub members_end : (all : List Entry) (pairs : List (Pair Json)) (left : List Entry) → MembersLeft all pairs left → left ≡ []
    → fields_of (members_view all) ≡ Some pairs
members_end all pairs left before none =
    before.same ∙ ap (λ (vs : List Entry). after pairs (fields_of (members_view vs))) none ∙ ap Some (append-nil pairs)

keys_rise : (entries : List Entry) → IsStrictlySortedBy string_cmp (keys_of entries) → is_rising (keys_bytes entries) ≡ true
unfolding IsStrictlySortedBy
keys_rise [] sorted = refl
keys_rise (one ∷ []) sorted = refl
keys_rise (one ∷ (other ∷ more)) sorted = rw (sorted.0.0, keys_rise (other ∷ more) sorted.1) refl

pub members_rise : (all : List Entry) (pairs : List (Pair Json)) (left : List Entry) → MembersLeft all pairs left → left ≡ []
    → IsStrictlySortedBy string_cmp (keys_of all) → is_rising (names pairs) ≡ true
members_rise all pairs left before none sorted =
    ap is_rising (sym (append-nil (names pairs)) ∙ ap (λ (es : List Entry). names pairs ++ keys_bytes es) (sym none) ∙ before.named)
    ∙ keys_rise all sorted
