-- What was read so far, before what is left.
use Rattle.std.proofs.Common.{◌≡◌, ◌∙◌, ◌+◌, ◌<◌, ◌≤◌, ◌==◌, ℕ, suc, true, length, drop, get_or, option_and_then, Option, None}
use Rattle.std.proofs.Common.{Some, option_map, List, [], ◌∷◌, ◌++◌, refl, sym, ap, append_assoc, append-nil}
use Rattle.std.specs.Prelude.{Result, Ok, Err, IfErr}
use Rattle.std.proofs.lemmas.List.{drop_more, drop_all}
use Rattle.bson_values.specs.declared.pairs.Pair.{Pair}
use Rattle.bson_values.specs.declared.value.Value.{Value}
use Rattle.jsonb_contain.specs.declared.value.Json.{Json}
use Rattle.bson_values.specs.Names.{names as names_of}
use Rattle.jsonb_contain.specs.Rising.{is_rising}
use Rattle.typed_json.specs.Leaf.{text_of}
use Rattle.typed_json.specs.Reading.{value_for, pairs_with, items_with, items_at, doc_at, schema_parts, value_within}

-- some things, and then those that are left, where they are known
abbrev pub after : {X : Type 0} → List X → Option (List X) → Option (List X)
after {X} first more = option_map (λ (rest : List X). first ++ rest) more

pub after_none : {X : Type 0} (more : Option (List X)) → more ≡ after [] more
after_none None = refl
after_none (Some rest) = refl

pub after_more : {X : Type 0} (first : List X) (one : X) (more : Option (List X))
    → after first (option_map (λ (rest : List X). one ∷ rest) more) ≡ after (first ++ one ∷ []) more
after_more first one None = refl
after_more first one (Some rest) = ap Some (sym (append_assoc first (one ∷ []) rest))

pub after_all : {X : Type 0} (first : List X) → after first (Some []) ≡ Some first
after_all first = ap Some (append-nil first)

next : {X : Type 0} (xs : List X) (i : ℕ) (x : X) → i < length xs → x ≡ get_or xs i x → drop i xs ≡ x ∷ drop (i + 1) xs
next xs i x within is = drop_more xs i x within ∙ ap (λ y. y ∷ drop (i + 1) xs) (sym is)

module _ (value : Json → Json → Option Value) where
  -- ---- the pairs of a document

  module _ (kinds fields : List (Pair Json)) where
    abbrev keyed : List ℕ → Value → Pair Value
    keyed name it = record { name = name; value = it }

    abbrev PairsLeft : List Json → List (Pair Value) → ℕ → Type 0
    PairsLeft all doc index = pairs_with value kinds fields all ≡ after doc (pairs_with value kinds fields (drop index all))

    abbrev with_name : Option (List ℕ) → List Json → Option (List (Pair Value))
    with_name found more =
        option_and_then (λ (name : List ℕ). option_and_then
        (λ (it : Value). option_map (λ (rest : List (Pair Value)). keyed name it ∷ rest) (pairs_with value kinds fields more))
        (value_for value kinds fields name)) found

    abbrev with_value : List ℕ → Option Value → List Json → Option (List (Pair Value))
    with_value name found more = option_and_then
        (λ (it : Value). option_map (λ (rest : List (Pair Value)). keyed name it ∷ rest) (pairs_with value kinds fields more)) found

    pairs_next : (all : List Json) (doc : List (Pair Value)) (index : ℕ) (listed : Json) → PairsLeft all doc index → index < length all
        → listed ≡ get_or all index listed
        → pairs_with value kinds fields all ≡ after doc (with_name (text_of listed) (drop (index + 1) all))
    pairs_next all doc index listed left within is = left
        ∙ ap (λ (more : List Json). after doc (pairs_with value kinds fields more)) (next all index listed within is)

    pub pairs_no_name : (all : List Json) (doc : List (Pair Value)) (index : ℕ) (listed : Json) → PairsLeft all doc index
        → index < length all → listed ≡ get_or all index listed
        → text_of listed ≡ None → pairs_with value kinds fields all ≡ None
    pairs_no_name all doc index listed left within is none =
        pairs_next all doc index listed left within is
        ∙ ap (λ (found : Option (List ℕ)). after doc (with_name found (drop (index + 1) all))) none

    pub pairs_stop : (all : List Json) (doc : List (Pair Value)) (index : ℕ) (listed : Json) (name : List ℕ) → PairsLeft all doc index
        → index < length all → listed ≡ get_or all index listed
        → text_of listed ≡ Some name → value_for value kinds fields name ≡ None → pairs_with value kinds fields all ≡ None
    pairs_stop all doc index listed name left within is named none =
        pairs_next all doc index listed left within is
        ∙ ap (λ (found : Option (List ℕ)). after doc (with_name found (drop (index + 1) all))) named
        ∙ ap (λ (found : Option Value). after doc (with_value name found (drop (index + 1) all))) none

    pub pairs_go : (all : List Json) (doc : List (Pair Value)) (index : ℕ) (listed : Json) (name : List ℕ) (it : Value)
        → PairsLeft all doc index → index < length all → listed ≡ get_or all index listed
        → text_of listed ≡ Some name → value_for value kinds fields name ≡ Some it → PairsLeft all (doc ++ keyed name it ∷ []) (index + 1)
    pairs_go all doc index listed name it left within is named held =
        pairs_next all doc index listed left within is
        ∙ ap (λ (found : Option (List ℕ)). after doc (with_name found (drop (index + 1) all))) named
        ∙ ap (λ (found : Option Value). after doc (with_value name found (drop (index + 1) all))) held
        ∙ after_more doc (keyed name it) (pairs_with value kinds fields (drop (index + 1) all))

    pub pairs_end : (all : List Json) (doc : List (Pair Value)) (index : ℕ) → PairsLeft all doc index → length all ≤ index
        → pairs_with value kinds fields all ≡ Some doc
    pairs_end all doc index left past = left
        ∙ ap (λ (more : List Json). after doc (pairs_with value kinds fields more)) (drop_all index all past) ∙ after_all doc

  -- ---- the items of an array

  abbrev ItemsLeft : List Json → List Json → List Value → ℕ → Type 0
  ItemsLeft kinds plains items index = items_with value kinds plains ≡ after items (items_with value (drop index kinds) (drop index plains))

  abbrev with_item : Option Value → List Json → List Json → Option (List Value)
  with_item found kinds plains = option_and_then
      (λ (it : Value). option_map (λ (rest : List Value). it ∷ rest) (items_with value kinds plains)) found

  pub items_stop : (kinds plains : List Json) (items : List Value) (index : ℕ) (kind plain : Json) → ItemsLeft kinds plains items index
      → index < length kinds → kind ≡ get_or kinds index kind → index < length plains → plain ≡ get_or plains index plain
      → value kind plain ≡ None → items_with value kinds plains ≡ None
  items_stop kinds plains items index kind plain left within is within_too is_too none =
      left ∙ ap (λ (more : List Json). after items (items_with value more (drop index plains))) (next kinds index kind within is)
      ∙ ap (λ (more : List Json). after items (items_with value (kind ∷ drop (index + 1) kinds) more))
      (next plains index plain within_too is_too)
      ∙ ap (λ (found : Option Value). after items (with_item found (drop (index + 1) kinds) (drop (index + 1) plains))) none

  pub items_end : (kinds plains : List Json) (items : List Value) (index : ℕ) → ItemsLeft kinds plains items index → length kinds ≤ index
      → length plains ≤ index → items_with value kinds plains ≡ Some items
  items_end kinds plains items index left past past_too =
      left ∙ ap (λ (more : List Json). after items (items_with value more (drop index plains))) (drop_all index kinds past)
      ∙ ap (λ (more : List Json). after items (items_with value [] more)) (drop_all index plains past_too) ∙ after_all items

-- a document with a schema that is one
pub doc_given : (levels : ℕ) (schema : Json) (fields : List (Pair Json)) (others : ℕ) (names : List Json) (kinds : List (Pair Json))
    → schema_parts schema ≡ Some (names, kinds)
    → (length names == length kinds) ≡ true → (length fields == length names + others) ≡ true → is_rising (names_of kinds) ≡ true
    → is_rising (names_of fields) ≡ true
    → doc_at (suc levels) schema fields others ≡ pairs_with (value_within levels) kinds fields names
doc_given levels schema fields others names kinds parts as_many fields_as_many kinds_rise fields_rise = rw parts
    (rw (as_many, fields_as_many, kinds_rise, fields_rise) refl)

pub items_given : (levels : ℕ) (kinds plains : List Json) → (length kinds == length plains) ≡ true
    → items_at (suc levels) kinds plains ≡ items_with (value_within levels) kinds plains
items_given levels kinds plains as_many = rw as_many refl

pub err_weaker : {T E : Type 0} (r : Result T E) (P Q : E → Type 0) → ((e : E) → P e → Q e) → IfErr r P → IfErr r Q
err_weaker (Ok x) P Q from held = tt
err_weaker (Err e) P Q from held = from e held
