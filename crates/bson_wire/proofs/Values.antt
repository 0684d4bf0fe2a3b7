-- Values and elements, where documents and arrays in them are read so: what is read is spelled so, and what is spelled so is read.
use Rattle.std.proofs.Common.{◌≡◌, ℕ, zero, suc, ◌+◌, ◌-◌, ◌<◌, false, eqb, List, [], ◌∷◌, ◌++◌, length, refl, sym, ap, subst, ◌∙◌}
use Rattle.std.proofs.Common.{append_assoc, arith, inl, inr}
use Rattle.std.specs.Prelude.{Option, None, Some, Result, Ok}
use Rattle.std.proofs.lemmas.Bool.{eqb-false}
use Rattle.std.proofs.lemmas.List.{length-append}
use Rattle.bson_values.specs.declared.pairs.Pair.{Pair}
use Rattle.bson_values.specs.declared.value.Value.{Value}
use Rattle.bson_values.specs.declared.value.Value.TheViews.{out-Value, roll-Value, roll-out-Value}
use Rattle.bson_values.specs.declared.value.Value.TheOpen.{Value-F}
use Rattle.bson_values.specs.declared.value.Value.TheVariants as value
use Rattle.bson_wire.specs.declared.foreign.Foreign.{Foreign}
use Rattle.bson_spelling.specs.Spelling.{cstring}
use Rattle.bson_wire.specs.Grammar.{IsName, Element, MayHold, IsArray, IsValue, Yields, IsElement, AreElements}
use Rattle.std_words.specs.Steps.{◌>>=◌}
use Rattle.bson_wire.specs.Reading.{name_at, scalar_at, is_foreign, foreign_at, value_at, element_at, elements_at}
use Rattle.std_words.proofs.Faults.{same_Ok, bind_ok, at_found}
use Rattle.std_words.proofs.Bytes.{IsBytes, IsBytes-rest, Takes, regrouped}
use Rattle.bson_wire.proofs.Names.{name_takes, name_again}
use Rattle.bson_wire.proofs.Plain.{IsHeld, chosen, by_type, scalar_takes}
use Rattle.bson_wire.proofs.PlainAgain.{string_again, binary_again, id_again, bool_again, regex_again, int_again, date_again}
use Rattle.bson_wire.proofs.PlainAgain.{long_value_again, stamp_again}
use Rattle.bson_wire.proofs.Passed.{foreign_takes, foreign_again}

abbrev pub Doc : Type 0
Doc = List (Pair Value)

-- what such a reading function reads is spelled so, from the place where it begins
abbrev pub AreTaken : {A : Type 0} → (ℕ → List ℕ → A → List Foreign → Type 0) → (ℕ → List ℕ → Result (A × List Foreign × List ℕ) ℕ) → Type 0
AreTaken {A} IsSpelling reading = (end place : ℕ) (bytes : List ℕ) (found : A × List Foreign × List ℕ) → IsBytes bytes
    → place + length bytes ≡ end → reading end bytes ≡ Ok found
    → Takes (λ spelling it. IsSpelling place spelling it found.1) bytes (found.0, found.2)

-- what is spelled so is read by it
abbrev pub AreRead : {A : Type 0} → (ℕ → List ℕ → A → List Foreign → Type 0) → (ℕ → List ℕ → Result (A × List Foreign × List ℕ) ℕ) → Type 0
AreRead {A} IsSpelling reading = (end place : ℕ) (spelling rest : List ℕ) (it : A) (foreign : List Foreign)
    → IsSpelling place spelling it foreign → place + length (spelling ++ rest) ≡ end
    → reading end (spelling ++ rest) ≡ Ok (it, foreign, rest)

-- a document at that place, with these foreign elements
abbrev pub IsDocAt : (ℕ → List ℕ → Doc → List Foreign → Type 0) → ℕ → List Foreign → List ℕ → Doc → Type 0
IsDocAt IsDocument place foreign bytes pairs = IsDocument place bytes pairs foreign

-- an array at that place, with these foreign elements
abbrev pub IsArrayAt : (ℕ → List ℕ → Doc → List Foreign → Type 0) → ℕ → List ℕ → List Value → List Foreign → Type 0
IsArrayAt IsDocument place bytes items foreign = IsArray (IsDocAt IsDocument place foreign) bytes items

held_doc : (Is : List ℕ → Doc → Type 0) (content : List ℕ) (pairs : Doc) → Is content pairs → IsHeld Is 3 content (value.Doc pairs)
held_doc Is content pairs is = subst (λ (layer : Value-F Value). IsValue Is 3 content layer) (sym (value.outs-Doc pairs)) (refl, is)

held_arr : (Is : List ℕ → Doc → Type 0) (content : List ℕ) (items : List Value) → IsArray Is content items
    → IsHeld Is 4 content (value.Arr items)
held_arr Is content items is = subst (λ (layer : Value-F Value). IsValue Is 4 content layer) (sym (value.outs-Arr items)) (refl, is)

-- what no container is has nothing foreign in it
none_in : (this code : ℕ) (foreign : List Foreign) → eqb this 3 ≡ false → eqb this 4 ≡ false → code ≡ this → MayHold code foreign
    → foreign ≡ []
none_in this code foreign three four is may =
    elim may [
      | inl at ↦ absurd (eqb-false this 3 three (sym is ∙ at))
      | inr may ↦ elim may [ inl at ↦ absurd (eqb-false this 4 four (sym is ∙ at)) | inr none ↦ none ]
    ]

-- a type byte, a name and what stands behind it, and the rest
element_whole : (code : ℕ) (bytes name behind content rest : List ℕ) → bytes ≡ cstring name ++ behind → behind ≡ content ++ rest
    → code ∷ bytes ≡ (code ∷ cstring name ++ content) ++ rest
element_whole code bytes name behind content rest named held =
    ap (λ (it : List ℕ). code ∷ it) (regrouped bytes (cstring name) behind content rest named held)

module _ (IsDocument : ℕ → List ℕ → Doc → List Foreign → Type 0) (document : ℕ → List ℕ → Result (Doc × List Foreign × List ℕ) ℕ) (array : ℕ
    → List ℕ → Result (List Value × List Foreign × List ℕ) ℕ) where
  -- ---- values

  -- a value and the bytes behind it
  abbrev Content : ℕ → ℕ → ℕ → List ℕ → Option Value × List Foreign × List ℕ → Type 0
  Content place inner code bytes found = Takes (λ content it. Yields IsDocument place inner code content it found.1) bytes
      (found.0, found.2)

  doc_takes : AreTaken IsDocument document → (end place inner : ℕ) (bytes : List ℕ) (found : Option Value × List Foreign × List ℕ)
      → IsBytes bytes → inner + length bytes ≡ end
      → (document end bytes >>= λ doc. Ok (Some (value.Doc doc.0), doc.1, doc.2)) ≡ Ok found → Content place inner 3 bytes found
  doc_takes docs end place inner bytes found fits at is =
      let doc = bind_ok (document end bytes) (λ doc. Ok (Some (value.Doc doc.0), doc.1, doc.2)) found is in
      let taken = docs end inner bytes doc.0 fits at doc.1 in
      at_found (Content place inner 3 bytes) (Some (value.Doc doc.0.0), doc.0.1, doc.0.2) found doc.2
      (taken.0, taken.1, (held_doc (IsDocAt IsDocument inner doc.0.1) taken.0 doc.0.0 taken.2, inl refl))

  arr_takes : AreTaken (IsArrayAt IsDocument) array → (end place inner : ℕ) (bytes : List ℕ) (found : Option Value × List Foreign × List ℕ)
      → IsBytes bytes → inner + length bytes ≡ end
      → (array end bytes >>= λ items. Ok (Some (value.Arr items.0), items.1, items.2)) ≡ Ok found → Content place inner 4 bytes found
  arr_takes arrays end place inner bytes found fits at is =
      let items = bind_ok (array end bytes) (λ items. Ok (Some (value.Arr items.0), items.1, items.2)) found is in
      let taken = arrays end inner bytes items.0 fits at items.1 in
      at_found (Content place inner 4 bytes) (Some (value.Arr items.0.0), items.0.1, items.0.2) found items.2
      (taken.0, taken.1, (held_arr (IsDocAt IsDocument inner items.0.1) taken.0 items.0.0 taken.2, inr (inl refl)))

  passed_takes : (place inner code : ℕ) (bytes : List ℕ) (found : Option Value × List Foreign × List ℕ) → IsBytes bytes
      → (foreign_at place code bytes >>= λ rest. Ok (None, record { code = code; place = place } ∷ [], rest)) ≡ Ok found
      → Content place inner code bytes found
  passed_takes place inner code bytes found fits is =
      let here : Foreign = record { code = code; place = place } in
      let rest = bind_ok (foreign_at place code bytes) (λ rest. Ok (None, here ∷ [], rest)) found is in
      let taken = foreign_takes place code bytes rest.0 fits rest.1 in
      at_found (Content place inner code bytes) (None, here ∷ [], rest.0) found rest.2 (taken.0, taken.1, (taken.2, refl))

  plain_takes : (place inner code : ℕ) (bytes : List ℕ) (found : Option Value × List Foreign × List ℕ) → IsBytes bytes
      → (scalar_at place code bytes >>= λ it. Ok (Some it.0, [], it.1)) ≡ Ok found → Content place inner code bytes found
  plain_takes place inner code bytes found fits is =
      let it = bind_ok (scalar_at place code bytes) (λ it. Ok (Some it.0, [], it.1)) found is in
      let taken = scalar_takes (IsDocAt IsDocument inner []) place code bytes it.0 fits it.1 in
      at_found (Content place inner code bytes) (Some it.0.0, [], it.0.1) found it.2 (taken.0, taken.1, (taken.2, inr (inr refl)))

  pub value_takes : AreTaken IsDocument document → AreTaken (IsArrayAt IsDocument) array
      → (end place inner code : ℕ) (bytes : List ℕ) (found : Option Value × List Foreign × List ℕ) → IsBytes bytes
      → inner + length bytes ≡ end → value_at document array end place code bytes ≡ Ok found → Content place inner code bytes found
  unfolding value_at
  value_takes docs arrays end place inner code bytes found fits at is =
      by_type (λ c. Content place inner c bytes found) 3 code _ _ found is (doc_takes docs end place inner bytes found fits at)
      (λ is. by_type (λ c. Content place inner c bytes found) 4 code _ _ found is (arr_takes arrays end place inner bytes found fits at)
      (λ is. elim (chosen (is_foreign code) _ _ (Ok found) is) [
        | inl one ↦ passed_takes place inner code bytes found fits one.1
        | inr other ↦ plain_takes place inner code bytes found fits
            other.1
      ]))

  -- a value made of what was read in it
  made : (foreign : List Foreign) (rest : List ℕ) (it rolled : Value) → rolled ≡ it
      → ◌≡◌ {A = Result (Option Value × List Foreign × List ℕ) ℕ} (Ok (Some it, foreign, rest)) (Ok (Some rolled, foreign, rest))
  made foreign rest it rolled is = ap (λ (v : Value). Ok (Some v, foreign, rest)) (sym is)

  -- a value that holds none
  alone : (found : Result (Value × List ℕ) ℕ) (foreign : List Foreign) (rest : List ℕ) (it rolled : Value) → found ≡ Ok (it, rest)
      → foreign ≡ [] → rolled ≡ it → ◌≡◌ {A = Result (Option Value × List Foreign × List ℕ) ℕ} (found >>= λ it. Ok (Some it.0, [], it.1))
      (Ok (Some rolled, foreign, rest))
  alone found foreign rest it rolled is none same =
      ap (λ (found : Result (Value × List ℕ) ℕ). found >>= λ it. Ok (Some it.0, [], it.1)) is
      ∙ ap (λ (f : List Foreign). Ok (Some it, f, rest)) (sym none) ∙ made foreign rest it rolled same

  layer_again : AreRead IsDocument document → AreRead (IsArrayAt IsDocument) array
      → (end place inner code : ℕ) (content : List ℕ) (layer : Value-F Value) (foreign : List Foreign) (rest : List ℕ)
      → IsValue (IsDocAt IsDocument inner foreign) code content layer → MayHold code foreign → inner + length (content ++ rest) ≡ end
      → value_at document array end place code (content ++ rest) ≡ Ok (Some (roll-Value layer), foreign, rest)
  unfolding value_at scalar_at is_foreign
  layer_again docs arrays end place inner code content (Value-F.Str text) foreign rest is may at =
      rw is.0 (alone _ foreign rest _ _ (string_again place content text rest is.1) (none_in 2 code foreign refl refl is.0 may)
      (value.rolls-Str text))
  layer_again docs arrays end place inner code content (Value-F.Bin it) foreign rest is may at =
      rw is.0 (alone _ foreign rest _ _ (binary_again place content it rest is.1) (none_in 5 code foreign refl refl is.0 may)
      (value.rolls-Bin it))
  layer_again docs arrays end place inner code content (Value-F.Id id) foreign rest is may at =
      rw is.0 (alone _ foreign rest _ _ (id_again place content id rest is.1 is.2) (none_in 7 code foreign refl refl is.0 may)
      (value.rolls-Id id))
  layer_again docs arrays end place inner code content (Value-F.Bool truth) foreign rest is may at =
      rw is.0 (alone _ foreign rest _ _ (bool_again place content truth rest is.1) (none_in 8 code foreign refl refl is.0 may)
      (value.rolls-Bool truth))
  layer_again docs arrays end place inner code content (Value-F.Date moment) foreign rest is may at =
      rw is.0 (alone _ foreign rest _ _ (date_again place content moment rest is.1) (none_in 9 code foreign refl refl is.0 may)
      (value.rolls-Date moment))
  layer_again docs arrays end place inner code content (Value-F.Regex it) foreign rest is may at =
      rw is.0 (alone _ foreign rest _ _ (regex_again place content it rest is.1) (none_in 11 code foreign refl refl is.0 may)
      (value.rolls-Regex it))
  layer_again docs arrays end place inner code content (Value-F.Int number) foreign rest is may at =
      rw is.0 (alone _ foreign rest _ _ (int_again place content number rest is.1) (none_in 16 code foreign refl refl is.0 may)
      (value.rolls-Int number))
  layer_again docs arrays end place inner code content (Value-F.Stamp stamp) foreign rest is may at =
      rw is.0 (alone _ foreign rest _ _ (stamp_again place content stamp rest is.1) (none_in 17 code foreign refl refl is.0 may)
      (value.rolls-Stamp stamp))
  layer_again docs arrays end place inner code content (Value-F.Long number) foreign rest is may at =
      rw is.0 (alone _ foreign rest _ _ (long_value_again place content number rest is.1) (none_in 18 code foreign refl refl is.0 may)
      (value.rolls-Long number))
  layer_again docs arrays end place inner code content (Value-F.Doc pairs) foreign rest is may at =
      rw (is.0, docs end inner content rest pairs foreign is.1 at) (made foreign rest _ _ (value.rolls-Doc pairs))
  layer_again docs arrays end place inner code content (Value-F.Arr items) foreign rest is may at =
      rw (is.0, arrays end inner content rest items foreign is.1 at) (made foreign rest _ _ (value.rolls-Arr items))
  layer_again docs arrays end place inner code content Value-F.Null foreign rest is may at =
      rw (is.0, is.1) (alone (Ok (value.Null, rest)) foreign rest _ _ refl (none_in 10 code foreign refl refl is.0 may) value.rolls-Null)

  pub value_again : AreRead IsDocument document → AreRead (IsArrayAt IsDocument) array
      → (end place inner code : ℕ) (content : List ℕ) (it : Option Value) (foreign : List Foreign) (rest : List ℕ)
      → Yields IsDocument place inner code content it foreign → inner + length (content ++ rest) ≡ end
      → value_at document array end place code (content ++ rest) ≡ Ok (it, foreign, rest)
  unfolding value_at
  value_again docs arrays end place inner code content None foreign rest is at =
      let passed = foreign_again place code content rest is.0 in
      rw (passed.0, passed.1, passed.2, passed.3) (ap (λ (f : List Foreign). Ok (None, f, rest)) (sym is.1))
  value_again docs arrays end place inner code content (Some it) foreign rest is at =
      layer_again docs arrays end place inner code content (out-Value it) foreign rest is.0 is.1 at
      ∙ ap (λ (v : Value). Ok (Some v, foreign, rest)) (roll-out-Value it)

  -- ---- elements

  element_made : (place code : ℕ) (it : Element) (content : List ℕ) → IsName it.name
      → Yields IsDocument place (place + (length it.name + 2)) code content it.value it.foreign
      → IsElement IsDocument place (code ∷ cstring it.name ++ content) it
  element_made place code it content named is = record { code = code; content = content; whole = refl; name = named; value = is }

  pub element_takes : AreTaken IsDocument document → AreTaken (IsArrayAt IsDocument) array
      → (end place code : ℕ) (bytes : List ℕ) (found : Element × List ℕ) → IsBytes bytes → place + (length bytes + 1) ≡ end
      → element_at document array end code bytes ≡ Ok found → Takes (IsElement IsDocument place) (code ∷ bytes) found
  unfolding element_at
  element_takes docs arrays end place code bytes found fits at is =
      let here = end - (length bytes + 1) in
      let same : here ≡ place = omega (arith, at) in
      let name = bind_ok (name_at here bytes) (λ name. value_at document array end here code name.1 >>=
      λ v. Ok (record { name = name.0; value = v.0; foreign = v.1 }, v.2)) found is in
      let content = bind_ok (value_at document array end here code name.0.1)
      (λ v. Ok (record { name = name.0.0; value = v.0; foreign = v.1 }, v.2)) found name.2 in
      let named = name_takes here bytes name.0 name.1 in
      let lengths : length bytes ≡ (length name.0.0 + 1) + length name.0.1 = ap length named.0
      ∙ omega (arith, length-append (cstring name.0.0) name.0.1, length-append name.0.0 (0 ∷ [])) in
      let inner = here + (length name.0.0 + 2) in
      let taken = value_takes docs arrays end here inner code name.0.1 content.0
      (IsBytes-rest (cstring name.0.0) name.0.1 bytes named.0 fits) (omega (arith, at, same, lengths)) content.1 in
      let made : Element × List ℕ = (record { name = name.0.0; value = content.0.0; foreign = content.0.1 }, content.0.2) in
      let element : Takes (IsElement IsDocument here) (code ∷ bytes) made = (
        code ∷ cstring name.0.0 ++ taken.0,
        element_whole code bytes name.0.0 name.0.1 taken.0 content.0.2 named.0 taken.1,
        element_made here code made.0 taken.0 named.1 taken.2,
      ) in
      at_found (Takes (IsElement IsDocument place) (code ∷ bytes)) made found content.2
      (subst (λ (p : ℕ). Takes (IsElement IsDocument p) (code ∷ bytes) made) same element)

  pub element_again : AreRead IsDocument document → AreRead (IsArrayAt IsDocument) array
      → (end place : ℕ) (first : List ℕ) (it : Element) (rest : List ℕ) (is : IsElement IsDocument place first it)
      → place + (length (cstring it.name ++ (is.content ++ rest)) + 1) ≡ end
      → element_at document array end is.code (cstring it.name ++ (is.content ++ rest)) ≡ Ok (it, rest)
  unfolding element_at
  element_again docs arrays end place first it rest is at =
      let here = end - (length (cstring it.name ++ (is.content ++ rest)) + 1) in
      let same : here ≡ place = omega (arith, at) in
      let inner : place + (length it.name + 2) + length (is.content ++ rest) ≡ end =
      omega (arith, at, length-append (cstring it.name) (is.content ++ rest), length-append it.name (0 ∷ [])) in
      rw (
        same,
        name_again place it.name (is.content ++ rest) is.name,
        value_again docs arrays end place (place + (length it.name + 2)) is.code is.content it.value it.foreign rest is.value inner,
      ) refl

  pub elements_take : AreTaken IsDocument document → AreTaken (IsArrayAt IsDocument) array
      → (most end place : ℕ) (bytes : List ℕ) (found : List Element) → IsBytes bytes → place + length bytes ≡ end
      → elements_at document array most end bytes ≡ Ok found → AreElements IsDocument place bytes found
  unfolding elements_at
  elements_take docs arrays zero end place bytes found fits at is = absurd cc
  elements_take docs arrays (suc most) end place [] found fits at is =
      subst (λ (them : List Element). AreElements IsDocument place [] them) (same_Ok [] found is) refl
  elements_take docs arrays (suc most) end place (code ∷ bytes) found fits at is =
      let first = bind_ok (element_at document array end code bytes) (λ first. elements_at document array most end first.1 >>=
      λ others. Ok (first.0 ∷ others)) found is in
      let others = bind_ok (elements_at document array most end first.0.1) (λ others. Ok (first.0.0 ∷ others)) found first.2 in
      let taken = element_takes docs arrays end place code bytes first.0 (IsBytes-rest (code ∷ []) bytes (code ∷ bytes) refl fits)
      (omega (arith, at)) first.1 in
      let behind : (place + length taken.0) + length first.0.1 ≡ end =
      omega (arith, at, ap length taken.1, length-append taken.0 first.0.1) in
      let more = elements_take docs arrays most end (place + length taken.0) first.0.1 others.0
      (IsBytes-rest taken.0 first.0.1 (code ∷ bytes) taken.1 fits) behind others.1 in
      at_found (AreElements IsDocument place (code ∷ bytes)) (first.0.0 ∷ others.0) found others.2
      (taken.0, first.0.1, taken.1, taken.2, more)

  pub elements_again : AreRead IsDocument document → AreRead (IsArrayAt IsDocument) array
      → (elements : List Element) (most end place : ℕ) (bytes : List ℕ) → AreElements IsDocument place bytes elements
      → place + length bytes ≡ end → length bytes < most → elements_at document array most end bytes ≡ Ok elements
  unfolding elements_at
  elements_again docs arrays elements zero end place bytes are at below = absurd (omega arith)
  elements_again docs arrays [] (suc most) end place bytes are at below = rw are refl
  elements_again docs arrays (it ∷ elements) (suc most) end place bytes are at below =
      let first = are.3 in
      let whole : bytes ≡ first.code ∷ (cstring it.name ++ (first.content ++ are.1)) =
      are.2 ∙ ap (λ (all : List ℕ). all ++ are.1) first.whole
      ∙ ap (λ (all : List ℕ). first.code ∷ all) (append_assoc (cstring it.name) first.content are.1) in
      let long = ap length whole in
      let shorter : length are.1 < most = omega (
        arith,
        long,
        below,
        length-append (cstring it.name) (first.content ++ are.1),
        length-append first.content are.1,
      ) in
      let behind : (place + length are.0) + length are.1 ≡ end = omega (arith, at, ap length are.2, length-append are.0 are.1) in
      ap (elements_at document array (suc most) end) whole
      ∙ rw (
        element_again docs arrays end place are.0 it are.1 first (omega (arith, at, long)),
        elements_again docs arrays elements most end (place + length are.0) are.1 are.4 behind shorter,
      ) refl
