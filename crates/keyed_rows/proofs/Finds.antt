-- What is found among entries, and how it stands in the map by places.
use Rattle.std.proofs.Common.{◌≡◌, ◌<◌, ◌||◌, ℕ, Bool, true, false, Option, Some, List, [], ◌∷◌, ◌++◌, refl, sym, ap, subst}
use Rattle.std.specs.Prelude.{nat_lt, if◌then◌else◌, is_some}
use Rattle.std.specs.BTreeMap.{is_at, insert_entry}
use Rattle.std.specs.Cmp.{nat_cmp_is}
use Rattle.std.specs.Map.{lookup, remove_entry, set_value, values_of}
use Rattle.std.specs.Ordering.{nat_cmp}
use Rattle.std.specs.Str.{bytes_eq}
use Rattle.std.specs.declared.cmp.Ordering.TheVariants.{Equal, Greater}
use Rattle.std.proofs.lemmas.Bool.{ltb-true}
use Rattle.std_words.proofs.Tests.{and-both}
use Rattle.keyed_rows.specs.declared.entry.Entry.{Entry}
use Rattle.keyed_rows.specs.Entries.{above, below, found, has_key, places_rise, removed, replaced}
use Rattle.keyed_rows.specs.Index.{stored}

-- ---- numbers

pub behind : (a b : ℕ) → b < a → nat_cmp a b ≡ Greater
behind a b less = sym (nat_cmp_is a b Greater less)

pub itself : (a : ℕ) → nat_cmp a a ≡ Equal
itself a = sym (nat_cmp_is a a Equal refl)

module _ {V : Type 0} where
  -- a key that is found is there, and one that is not is not
  pub is_found : (key : List ℕ) (entries : List (Entry V)) → is_some (found key entries) ≡ has_key key entries
  is_found key [] = refl
  is_found key (entry ∷ entries) = cases (bytes_eq key entry.key) (is_found key entries)
    where
      cases : (same : Bool) → is_some (found key entries) ≡ has_key key entries
          → is_some (if same then Some entry else found key entries) ≡ (same || has_key key entries)
      cases true rest = refl
      cases false rest = rest

  -- what is found stands behind all that its place is behind
  pub found_behind : (place : ℕ) (key : List ℕ) (entry : Entry V) (entries : List (Entry V)) → below place entries ≡ true
      → found key entries ≡ Some entry → place < entry.place
  found_behind place key entry [] less is = absurd cc
  found_behind place key entry (first ∷ entries) less is =
      let both = and-both (nat_lt place first.place) (below place entries) less in
      cases (bytes_eq key first.key) refl both.0 (found_behind place key entry entries both.1)
    where
      cases : (same : Bool) → bytes_eq key first.key ≡ same → nat_lt place first.place ≡ true
          → (found key entries ≡ Some entry → place < entry.place) → place < entry.place
      cases true e here rest =
          let one : ◌≡◌ {A = Option (Entry V)} (Some first) (Some entry) = rw e at is in
          let first_is : first ≡ entry = cc in
          subst (λ (it : Entry V). place < it.place) first_is (ltb-true place first.place here)
      cases false e here rest = rest (rw e at is)

  -- how an entry that is found stands under its place, and what a change there comes to
  pub record Stands (key : List ℕ) (entry : Entry V) (entries : List (Entry V)) : Type 0 where
    pub looked : lookup (is_at (nat_cmp entry.place)) (stored entries) ≡ Some entry
    pub out : remove_entry (is_at (nat_cmp entry.place)) (stored entries) ≡ stored (removed key entries)
    pub over : (value : V) → set_value (is_at (nat_cmp entry.place)) (stored entries) (record entry { value = value })
        ≡ stored (replaced key value entries)

  pub stands : (key : List ℕ) (entry : Entry V) (entries : List (Entry V)) → places_rise entries ≡ true → found key entries ≡ Some entry
      → Stands key entry entries
  stands key entry [] rise is = absurd cc
  stands key entry (first ∷ entries) rise is =
      let both = and-both (below first.place entries) (places_rise entries) rise in
      cases (bytes_eq key first.key) refl (found_behind first.place key entry entries both.0) (stands key entry entries both.1)
    where
      cases : (same : Bool) → bytes_eq key first.key ≡ same → (found key entries ≡ Some entry → first.place < entry.place)
          → (found key entries ≡ Some entry → Stands key entry entries) → Stands key entry (first ∷ entries)
      cases true e far rest =
          let here : first ≡ entry = let same : ◌≡◌ {A = Option (Entry V)} (Some first) (Some entry) = rw e at is in cc in
          subst (λ (it : Entry V). Stands key it (first ∷ entries)) here (record {
            looked = rw (itself first.place) refl;
            out = rw (itself first.place, e) refl;
            over = λ value. rw (itself first.place, e) refl;
          })
      cases false e far rest =
          let more : found key entries ≡ Some entry = rw e at is in
          let less : nat_cmp entry.place first.place ≡ Greater = behind entry.place first.place (far more) in
          let there = rest more in
          record {
            looked = rw less there.looked;
            out = rw (less, e) (ap (λ others. (first.place, first) ∷ others) there.out);
            over = λ value. rw (less, e) (ap (λ others. (first.place, first) ∷ others) (there.over value));
          }

  -- an entry behind all others is put last
  pub put_last : (entry : Entry V) (entries : List (Entry V)) → above entry.place entries ≡ true
      → insert_entry nat_cmp (stored entries) entry.place entry ≡ stored (entries ++ entry ∷ [])
  put_last entry [] far = refl
  put_last entry (first ∷ entries) far =
      let both = and-both (nat_lt first.place entry.place) (above entry.place entries) far in
      let less : nat_cmp entry.place first.place ≡ Greater = behind entry.place first.place (ltb-true first.place entry.place both.0) in
      rw less (ap (λ others. (first.place, first) ∷ others) (put_last entry entries both.1))

  -- entries are what stands under their places
  pub values-stored : (entries : List (Entry V)) → values_of (stored entries) ≡ entries
  values-stored [] = refl
  values-stored (entry ∷ entries) = ap (λ others. entry ∷ others) (values-stored entries)
