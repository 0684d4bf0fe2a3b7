-- Names that may be stored: each is another, and none is `$s`.
use Rattle.std.proofs.Common.{◌≡◌, ◌∙◌, ℕ, Bool, true, false, not, ◌&&◌, List, [], ◌∷◌, ◌++◌, inl, inr, refl, sym, ap}
use Rattle.std.specs.Prelude.{codes}
use Rattle.std.specs.Str.{bytes_eq}
use Rattle.std.specs.Ordering.{is_eq}
use Rattle.std.specs.Cmp.Lexicographic.{same_text}
use Rattle.std.proofs.lemmas.Map.Text.{is_eq-slice_cmp}
use Rattle.bson_values.specs.Storable.{stands}
use Rattle.bson_values.specs.Allowed.{is_allowed, are_allowed}
use Rattle.std_words.proofs.Tests.{and-both, or-first, or-second, or-either}
use Rattle.typed_json.proofs.Puts.{Order, self_equal}

-- the name is none of the others
abbrev pub is_none_of : List ℕ → List (List ℕ) → Bool
is_none_of name [] = true
is_none_of name (other ∷ more) = not (is_eq (Order name other)) && is_none_of name more

-- each name is another
abbrev pub are_distinct : List (List ℕ) → Bool
are_distinct [] = true
are_distinct (name ∷ more) = is_none_of name more && are_distinct more

pub and_true : (a b : Bool) → a ≡ true → b ≡ true → (a && b) ≡ true
and_true true true p q = refl
and_true true false p q = absurd cc
and_true false b p q = absurd cc

-- a text is this one
pub same_bytes : (text : List ℕ) → bytes_eq text text ≡ true
same_bytes text = sym (is_eq-slice_cmp text text) ∙ ap is_eq (self_equal text)

pub bytes_same : (one other : List ℕ) → bytes_eq one other ≡ true → one ≡ other
bytes_same one other is = same_text one other (sym is)

stands_last : (before : List (List ℕ)) (name : List ℕ) → stands (before ++ name ∷ []) name ≡ true
stands_last [] name = or-first (bytes_eq name name) false (same_bytes name)
stands_last (other ∷ before) name = or-second (bytes_eq other name) (stands (before ++ name ∷ []) name) (stands_last before name)

stands_more : (before more : List (List ℕ)) (name : List ℕ) → stands before name ≡ true → stands (before ++ more) name ≡ true
stands_more [] more name stood = absurd cc
stands_more (other ∷ before) more name stood =
    elim (or-either (bytes_eq other name) (stands before name) stood) [
      | inl here ↦ or-first (bytes_eq other name) (stands (before ++ more) name) here
      | inr later ↦ or-second (bytes_eq other name) (stands (before ++ more) name) (stands_more before more name later)
    ]

-- a name that stood is not one that did not
differs : (before : List (List ℕ)) (name other : List ℕ) (same : Bool) → bytes_eq name other ≡ same → stands before name ≡ true
    → not (stands before other) ≡ true → not (is_eq (Order name other)) ≡ true
differs before name other false is stood fresh = ap not (is_eq-slice_cmp name other ∙ is)
differs before name other true is stood fresh =
    let there : stands before other ≡ true = ap (stands before) (sym (bytes_same name other is)) ∙ stood in
    absurd (cc (there, fresh))

-- what stood before is none of the names behind
apart : (before names : List (List ℕ)) → are_allowed before names ≡ true → (name : List ℕ) → stands before name ≡ true
    → is_none_of name names ≡ true
apart before [] allowed name stood = refl
apart before (other ∷ names) allowed name stood =
    let parts = and-both (not (stands before other) && is_allowed other) (are_allowed (before ++ other ∷ []) names) allowed in
    let fresh = and-both (not (stands before other)) (is_allowed other) parts.0 in
    and_true (not (is_eq (Order name other))) (is_none_of name names) (differs before name other (bytes_eq name other) refl stood fresh.0)
    (apart (before ++ other ∷ []) names parts.1 name (stands_more before (other ∷ []) name stood))

-- allowed names are distinct
pub allowed_distinct : (before names : List (List ℕ)) → are_allowed before names ≡ true → are_distinct names ≡ true
allowed_distinct before [] allowed = refl
allowed_distinct before (name ∷ names) allowed =
    let parts = and-both (not (stands before name) && is_allowed name) (are_allowed (before ++ name ∷ []) names) allowed in
    and_true (is_none_of name names) (are_distinct names) (apart (before ++ name ∷ []) names parts.1 name (stands_last before name))
    (allowed_distinct (before ++ name ∷ []) names parts.1)

not_dollar : (other : List ℕ) (same : Bool) → bytes_eq (codes "$s") other ≡ same → is_allowed other ≡ true
    → not (is_eq (Order (codes "$s") other)) ≡ true
not_dollar other false is allowed = ap not (is_eq-slice_cmp (codes "$s") other ∙ is)
not_dollar other true is allowed =
    let there : is_allowed (codes "$s") ≡ true = ap is_allowed (bytes_same (codes "$s") other is) ∙ allowed in
    absurd (cc there)

-- `$s` is no allowed name
pub allowed_others : (before names : List (List ℕ)) → are_allowed before names ≡ true → is_none_of (codes "$s") names ≡ true
allowed_others before [] allowed = refl
allowed_others before (name ∷ names) allowed =
    let parts = and-both (not (stands before name) && is_allowed name) (are_allowed (before ++ name ∷ []) names) allowed in
    let own = and-both (not (stands before name)) (is_allowed name) parts.0 in
    and_true (not (is_eq (Order (codes "$s") name))) (is_none_of (codes "$s") names)
    (not_dollar name (bytes_eq (codes "$s") name) refl own.1)
    (allowed_others (before ++ name ∷ []) names parts.1)
