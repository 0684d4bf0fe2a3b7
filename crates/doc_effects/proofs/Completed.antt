-- A document with its `_id` first.
use Rattle.std.proofs.Common.{◌≡◌, ℕ, suc, ◌+◌, Bool, true, false, List, [], ◌∷◌, ◌++◌, take, drop, slice_get, Option, None, Some}
use Rattle.std.proofs.Common.{refl, ap, sym, ◌∙◌, subst, option_map, arith}
use Rattle.std.specs.Prelude.{codes}
use Rattle.std.specs.Str.{bytes_eq}
use Rattle.std.proofs.lemmas.Slice.Eq.{bytes_eq-Decides}
use Rattle.history_lock.specs.declared.entry.Who.{Who}
use Rattle.bson_values.specs.declared.pairs.Pair.{Pair}
use Rattle.bson_values.specs.declared.value.Value.{Value}
use Rattle.bson_values.specs.declared.value.Value.TheVariants.{Id}
use Rattle.bson_values.specs.Names.{first_of, first_place, names}
use Rattle.filter_syntax.specs.Meaning.{Doc}
use Rattle.doc_model.specs.Insert.{without, completed, generated}

-- where the first field of a name stands: what it is, and the document without it
pub record Stands (name : List ℕ) (doc : Doc) (place : ℕ) : Type 0 where
  pub field : Pair Value
  pub at : slice_get doc place ≡ Some field
  pub named : field.name ≡ name
  pub first : first_of name doc ≡ Some field.value
  pub others : without name doc ≡ take place doc ++ drop (place + 1) doc

pub record StandsNowhere (name : List ℕ) (doc : Doc) : Type 0 where
  pub none : first_of name doc ≡ None
  pub others : without name doc ≡ doc

abbrev Found : List ℕ → Doc → Option ℕ → Type 0
Found name doc None = StandsNowhere name doc
Found name doc (Some place) = Stands name doc place

one-more : (n : ℕ) → suc n ≡ n + 1
one-more n = omega arith

two-more : (n : ℕ) → suc (n + 1) ≡ suc n + 1
two-more n = omega arith

further : (name : List ℕ) (field : Pair Value) (fields : Doc) → bytes_eq field.name name ≡ false → (found : Option ℕ) → Found name fields found
    → Found name (field ∷ fields) (option_map (λ place. place + 1) found)
further name field fields apart None f = record {
  none = rw apart f.none;
  others = rw apart (ap (λ (more : Doc). field ∷ more) f.others);
}
further name field fields apart (Some place) f = subst (Stands name (field ∷ fields)) (one-more place) (record {
  field = f.field;
  at = f.at;
  named = f.named;
  first = rw apart f.first;
  others = rw apart (ap (λ (more : Doc). field ∷ more) f.others
      ∙ ap (λ k. field ∷ (take place fields ++ drop k (field ∷ fields))) (two-more place));
})

here : (name : List ℕ) (field : Pair Value) (fields : Doc) → bytes_eq field.name name ≡ true → Stands name (field ∷ fields) 0
here name field fields e = record {
  field = field;
  at = refl;
  named = (bytes_eq-Decides field.name name).0 e;
  first = rw e refl;
  others = rw e refl;
}

pub found : (name : List ℕ) (doc : Doc) → Found name doc (first_place name (names doc))
found name [] = record { none = refl; others = refl }
found name (field ∷ fields) = cases (bytes_eq field.name name) refl (found name fields)
  where
    cases : (b : Bool) → bytes_eq field.name name ≡ b → Found name fields (first_place name (names fields))
        → Found name (field ∷ fields) (first_place name (names (field ∷ fields)))
    cases true e rest = rw e (here name field fields e)
    cases false e rest = rw e (further name field fields e (first_place name (names fields)) rest)

pub stands : (name : List ℕ) (doc : Doc) (place : ℕ) → Some place ≡ first_place name (names doc) → Stands name doc place
stands name doc place is = subst (Found name doc) (sym is) (found name doc)

pub nowhere : (name : List ℕ) (doc : Doc) → None ≡ first_place name (names doc) → StandsNowhere name doc
nowhere name doc is = subst (Found name doc) (sym is) (found name doc)

-- none stood: a generated one goes first
pub with_none : (who : Who) (now : ℕ) (doc : Doc) → None ≡ first_place (codes "_id") (names doc)
    → record { name = codes "_id"; value = Id (generated who now) } ∷ doc ≡ completed who now doc
with_none who now doc is = let it = nowhere (codes "_id") doc is in rw (it.none, it.others) refl

-- one stood elsewhere: it goes first
pub with_later : (who : Who) (now : ℕ) (doc others : Doc) (place : ℕ) (field : Pair Value) → Some place ≡ first_place (codes "_id") (names doc)
    → slice_get doc place ≡ Some field → others ≡ take place doc ++ drop (place + 1) doc
    → record { name = codes "_id"; value = field.value } ∷ others ≡ completed who now doc
with_later who now doc others place field is at left =
    let it = stands (codes "_id") doc place is in
    let same : it.field ≡ field = cc (sym it.at ∙ at) in
    rw (it.first, it.others, left) (ap (λ (f : Pair Value). record { name = codes "_id"; value = f.value } ∷ (take place doc ++ drop (place + 1) doc)) (sym same))

-- it stands first
pub with_first : (who : Who) (now : ℕ) (doc : Doc) → Some 0 ≡ first_place (codes "_id") (names doc) → doc ≡ completed who now doc
with_first who now [] is = absurd cc
with_first who now (field ∷ fields) is =
    let it = stands (codes "_id") (field ∷ fields) 0 is in
    let same : field ≡ it.field = cc it.at in
    let name : field.name ≡ codes "_id" = ap (λ (f : Pair Value). f.name) same ∙ it.named in
    let value : first_of (codes "_id") (field ∷ fields) ≡ Some field.value = it.first ∙ ap (λ (f : Pair Value). Some f.value) (sym same) in
    rw (value, it.others) (λ i. record { name = name i; value = field.value } ∷ fields)
