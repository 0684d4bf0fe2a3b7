-- Elements, read one by one.
use Rattle.std.proofs.Common.{◌≡◌, ℕ, zero, suc, ◌+◌, ◌<◌, ◌≤◌, List, [], ◌∷◌, ◌++◌, length, drop, refl, sym, ap, arith, ◌∙◌, append_assoc}
use Rattle.std.proofs.Common.{get_or, length-drop}
use Rattle.std.specs.Prelude.{Option, None, Some, Result, Ok, Err}
use Rattle.std.specs.Option.{option_or}
use Rattle.std.proofs.lemmas.Grind.{flat_map-append}
use Rattle.std.proofs.lemmas.List.{append-nil, map-append}
use Rattle.bson_values.specs.declared.pairs.Pair.{Pair}
use Rattle.bson_values.specs.declared.value.Value.{Value}
use Rattle.bson_wire.specs.declared.foreign.Foreign.{Foreign}
use Rattle.bson_wire.specs.declared.refused.ReadRefused.{ReadRefused}
use Rattle.bson_wire.specs.declared.refused.ReadRefused.TheVariants.{Malformed, NoMemory}
use Rattle.bson_wire.specs.Grammar.{Element, pair_of, kept, foreigns, values}
use Rattle.std_words.specs.Steps.{◌>>=◌}
use Rattle.bson_wire.specs.Reading.{Fails, element_at, elements_at, all_at, first, Before, element_told}
use Rattle.std_words.proofs.Faults.{same_Ok, bind_ok, bind_err}

-- what was read before goes first
abbrev pub behind : {A : Type 0} → List A → Result (List A) ℕ → Result (List A) ℕ
behind before found = found >>= λ others. Ok (before ++ others)

behind-none : {A : Type 0} (found : Result (List A) ℕ) → behind [] found ≡ found
behind-none (Err place) = refl
behind-none (Ok others) = refl

behind-one : {A : Type 0} (before : List A) (first : A) (found : Result (List A) ℕ)
    → behind before (found >>= λ others. Ok (first ∷ others)) ≡ behind (before ++ first ∷ []) found
behind-one before first (Err place) = refl
behind-one before first (Ok others) = ap (λ all. Ok all) (sym (append_assoc before (first ∷ []) others))

-- a refusal that was right of a part is right of the whole
pub fails-on : {A B : Type 0} (refused : ReadRefused) (part : Result A ℕ) (whole : Result B ℕ) → Fails refused part
    → ((place : ℕ) → part ≡ Err place → whole ≡ Err place) → Fails refused whole
fails-on NoMemory part whole fails on = tt
fails-on (Malformed place) part whole fails on = on place fails

-- ---- what is kept, and what is foreign

first-append : (before now : List Foreign) → first (before ++ now) ≡ option_or (first before) (first now)
first-append [] now = refl
first-append (it ∷ before) now = refl

-- of two that stand before a place, the one that counts does
pub before-or : (end : ℕ) (before now : Option Foreign) → Before end before → Before end now → Before end (option_or before now)
before-or end None now is as_is = as_is
before-or end (Some it) now is as_is = is

foreign-more : (before : List Element) (it : Element) → first (foreigns (before ++ it ∷ []))
    ≡ option_or (first (foreigns before)) (first it.foreign)
foreign-more before it =
    ap first (flat_map-append (λ (it : Element). it.foreign) before (it ∷ [])
    ∙ ap (λ (now : List Foreign). foreigns before ++ now) (append-nil it.foreign))
    ∙ first-append (foreigns before) it.foreign

pub kept-more : (before : List Element) (it : Element) → kept (before ++ it ∷ []) ≡ kept before ++ pair_of it.name it.value
kept-more before it =
    flat_map-append (λ (it : Element). pair_of it.name it.value) before (it ∷ [])
    ∙ ap (λ (now : List (Pair Value)). kept before ++ now) (append-nil (pair_of it.name it.value))

nameless : (name : List ℕ) (value : Option Value) → values (pair_of name value) ≡ values (pair_of [] value)
nameless name None = refl
nameless name (Some value) = refl

pub items-more : (before : List Element) (it : Element) → values (kept (before ++ it ∷ []))
    ≡ values (kept before) ++ values (pair_of [] it.value)
items-more before it =
    ap values (kept-more before it) ∙ map-append (λ (pair : Pair Value). pair.value) (kept before) (pair_of it.name it.value)
    ∙ ap (λ (now : List Value). values (kept before) ++ now) (nameless it.name it.value)

-- ---- a loop over the elements that fill some bytes

module _ (document : ℕ → List ℕ → Result (List (Pair Value) × List Foreign × List ℕ) ℕ) (array : ℕ → List ℕ
    → Result (List Value × List Foreign × List ℕ) ℕ) (end : ℕ) where
  elements-end : (most : ℕ) (before : List Element) (rest : List ℕ) → length rest ≡ 0 → length rest < most
      → behind before (elements_at document array most end rest) ≡ Ok before
  unfolding elements_at
  elements-end zero before rest none below = absurd (omega arith)
  elements-end (suc most) before [] none below = ap (λ all. Ok all) (append-nil before)
  elements-end (suc most) before (code ∷ bytes) none below = absurd (omega (arith, none))

  elements-bad : (most : ℕ) (before : List Element) (rest : List ℕ) → 0 < length rest → length rest < most → (place : ℕ)
      → element_at document array end (get_or rest 0 0) (drop 1 rest) ≡ Err place
      → behind before (elements_at document array most end rest) ≡ Err place
  unfolding elements_at
  elements-bad zero before rest some below place bad = absurd (omega arith)
  elements-bad (suc most) before [] some below place bad = absurd (omega arith)
  elements-bad (suc most) before (code ∷ bytes) some below place bad = rw bad refl

  elements-more : (most : ℕ) (before : List Element) (rest after : List ℕ) (it : Element) → 0 < length rest → length rest < most
      → element_at document array end (get_or rest 0 0) (drop 1 rest) ≡ Ok (it, after)
      → length after < length rest → (whole : Result (List Element) ℕ) → behind before (elements_at document array most end rest) ≡ whole
      → (more : ℕ) × (length after < more) × (behind (before ++ it ∷ []) (elements_at document array more end after) ≡ whole)
  unfolding elements_at
  elements-more zero before rest after it some below is shorter whole all = absurd (omega arith)
  elements-more (suc most) before [] after it some below is shorter whole all = absurd (omega arith)
  elements-more (suc most) before (code ∷ bytes) after it some below is shorter whole all =
      (most, omega arith, sym (behind-one before it (elements_at document array most end after)) ∙ (rw is at all))

  -- an element that was told of is one
  element-told : (code : ℕ) (bytes name after : List ℕ) (value : Option Value) (foreign : Option Foreign)
      → element_told (element_at document array end code bytes) ≡ Ok (name, value, foreign, after)
      → (it : Element) × (element_at document array end code bytes ≡ Ok (it, after)) × (it.name ≡ name) × (it.value ≡ value)
      × (first it.foreign ≡ foreign)
  element-told code bytes name after value foreign is =
      let found = bind_ok (element_at document array end code bytes) (λ it. Ok (it.0.name, it.0.value, first it.0.foreign, it.1))
      (name, value, foreign, after) is in
      let same = same_Ok (found.0.0.name, found.0.0.value, first found.0.0.foreign, found.0.1) (name, value, foreign, after) found.2 in (
        found.0.0,
        found.1 ∙ ap (λ (rest : List ℕ). Ok (found.0.0, rest)) (ap (λ it. it.3) same),
        ap (λ it. it.0) same,
        ap (λ it. it.1) same,
        ap (λ it. it.2) same,
      )

  refused-told : (code : ℕ) (bytes : List ℕ) (place : ℕ) → element_told (element_at document array end code bytes) ≡ Err place
      → element_at document array end code bytes ≡ Err place
  refused-told code bytes place is = bind_err (element_at document array end code bytes)
      (λ it. (it.0.name, it.0.value, first it.0.foreign, it.1)) place is

  -- what is kept of each element goes behind what is kept of those before it
  module _ {A : Type 0} (keep : List Element → List A) (one : List ℕ → Option Value
      → List A) (keeps : (before : List Element) (it : Element) → keep (before ++ it ∷ []) ≡ keep before ++ one it.name it.value) where
    -- some elements are read, and those that stand in the rest are all the others
    pub record Goes (bytes rest : List ℕ) (found : List A) (foreign : Option Foreign) : Type 0 where
      pub before : List Element
      pub more : ℕ
      pub fuel : length rest < more
      pub within : length rest ≤ length bytes
      pub all : behind before (elements_at document array more end rest) ≡ all_at document array end bytes
      pub found_is : found ≡ keep before
      pub foreign_is : foreign ≡ first (foreigns before)

    -- all elements, as the code tells them
    abbrev pub told_by : Result (List Element) ℕ → Result (List A × Option Foreign) ℕ
    told_by found = found >>= λ it. Ok (keep it, first (foreigns it))

    pub goes-start : (bytes : List ℕ) (found : List A) → found ≡ keep [] → Goes bytes bytes found None
    goes-start bytes found none =
        record {
          before = [];
          more = length bytes + 1;
          fuel = omega arith;
          within = omega arith;
          all = behind-none _;
          found_is =
              none;
          foreign_is = refl;
        }

    pub goes-end : (bytes rest : List ℕ) (found : List A) (foreign : Option Foreign) → Goes bytes rest found foreign → length rest ≡ 0
        → told_by (all_at document array end bytes) ≡ Ok (found, foreign)
    goes-end bytes rest found foreign goes none =
        ap told_by (sym goes.all ∙ elements-end goes.more goes.before rest none goes.fuel)
        ∙ ap (λ (it : List A). Ok (it, first (foreigns goes.before))) (sym goes.found_is)
        ∙ ap (λ (it : Option Foreign). Ok (found, it)) (sym goes.foreign_is)

    pub goes-bad : (bytes rest : List ℕ) (found : List A) (foreign : Option Foreign) → Goes bytes rest found foreign → 0 < length rest
        → (refused : ReadRefused) → Fails refused (element_told (element_at document array end (get_or rest 0 0) (drop 1 rest)))
        → Fails refused (told_by (all_at document array end bytes))
    goes-bad bytes rest found foreign goes some refused fails =
        fails-on refused (element_told (element_at document array end (get_or rest 0 0) (drop 1 rest)))
        (told_by (all_at document array end bytes)) fails
        (λ place bad. ap told_by (sym goes.all ∙ elements-bad goes.more goes.before rest some goes.fuel place
        (refused-told (get_or rest 0 0) (drop 1 rest) place bad)))

    pub goes-more : (bytes rest name after : List ℕ) (found : List A) (foreign inner : Option Foreign) (value : Option Value)
        → Goes bytes rest found foreign → 0 < length rest
        → element_told (element_at document array end (get_or rest 0 0) (drop 1 rest)) ≡ Ok (name, value, inner, after)
        → length after ≤ length (drop 1 rest) → Goes bytes after (found ++ one name value) (option_or foreign inner)
    goes-more bytes rest name after found foreign inner value goes some is shorter =
        let read = element-told (get_or rest 0 0) (drop 1 rest) name after value inner is in
        let below : length after < length rest = omega (arith, length-drop 1 rest) in
        let more = elements-more goes.more goes.before rest after read.0 some goes.fuel read.1 below
        (all_at document array end bytes) goes.all in
        record {
          before = goes.before ++ read.0 ∷ [];
          more = more.0;
          fuel = more.1;
          within = omega (arith, goes.within);
          all = more.2;
          found_is = ap (λ (it : List A). it ++ one name value) goes.found_is
              ∙ ap (λ (it : List ℕ). keep goes.before ++ one it value) (sym read.2)
              ∙ ap (λ (it : Option Value). keep goes.before ++ one read.0.name it) (sym read.3)
              ∙ sym (keeps goes.before read.0);
          foreign_is = ap (λ (it : Option Foreign). option_or it inner) goes.foreign_is
              ∙ ap (λ (it : Option Foreign). option_or (first (foreigns goes.before)) it) (sym read.4)
              ∙ sym (foreign-more goes.before read.0);
        }
