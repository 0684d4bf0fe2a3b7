-- Entries under their places, and the index of their keys: what look-ups find in them, and what changes make of them.
use Rattle.std.proofs.Common.{◌≡◌, ◌∙◌, ◌++◌, ◌∷◌, [], ℕ, Bool, true, false, Option, None, Some, List, refl, sym, ap, subst}
use Rattle.std.specs.Prelude.{Vec, if◌then◌else◌, is_some, IsSome, nat_lt, option_map}
use Rattle.std.specs.BTreeMap.{BTreeMap, IsUpperBound, get, insert_entry, is_at, values}
use Rattle.std.specs.Map.{lookup, remove_entry, set_value, values_of}
use Rattle.std.specs.Ordering.{nat_cmp}
use Rattle.std.specs.Str.{bytes_eq}
use Rattle.std.specs.declared.alloc.Global.{Global}
use Rattle.keyed_rows.specs.declared.entry.Entry.{Entry}
use Rattle.keyed_rows.specs.Entries.{above, found, has_key, removed, replaced}
use Rattle.keyed_rows.specs.Index.{IsKeyed, Swaps, place_at, stored}
use Rattle.keyed_rows.proofs.Finds.{Stands, is_found, put_last, stands, values-stored}
use Rattle.keyed_rows.proofs.Lasts.{above_last}
use Rattle.keyed_rows.proofs.Edits.{place_of, not_found, same, rise_last, differ_last, found_last, rise_removed, differ_removed, found_removed, removed_none, rise_replaced, differ_replaced, place_replaced}

abbrev pub Index : Type 0
Index = BTreeMap (Vec ℕ Global) ℕ

-- entries under their places
abbrev pub Under : Type 0 → Type 0
Under V = BTreeMap ℕ (Entry V)

-- a change of the index at one key
abbrev pub Turns : List ℕ → Option ℕ → Index → Index → Type 0
Turns key place old new = (other : List ℕ) → place_at other new ≡ (if bytes_eq key other then place else place_at other old)

module _ {V : Type 0} where
  -- ---- the same entries, as what stands under the places

  pub seen : {rows : Under V} {index : Index} {entries : List (Entry V)} → IsKeyed rows index entries → values rows ≡ entries
  seen {entries = entries} keyed = ap values_of keyed.under ∙ values-stored entries

  pub closed : {rows : Under V} {index : Index} {entries : List (Entry V)} → IsKeyed rows index entries → IsKeyed rows index (values rows)
  closed {rows} {index} keyed = subst (IsKeyed rows index) (sym (seen keyed)) keyed

  pub opened : {rows : Under V} {index : Index} {entries : List (Entry V)} → IsKeyed rows index (values rows) → values rows ≡ entries
      → IsKeyed rows index entries
  opened {rows} {index} keyed is = subst (IsKeyed rows index) is keyed

  module _ {rows : Under V} {index : Index} {entries : List (Entry V)} (keyed : IsKeyed rows index entries) where
    -- ---- look-ups

    pub has : (key : List ℕ) → is_some (place_at key index) ≡ has_key key entries
    has key = ap is_some (keyed.indexed key) ∙ cases (found key entries) ∙ is_found key entries
      where
        cases : (it : Option (Entry V)) → is_some (option_map place_of it) ≡ is_some it
        cases None = refl
        cases (Some entry) = refl

    -- the entry that a place of the index leads to
    pub record Leads (key : List ℕ) (place : ℕ) : Type 0 where
      pub entry : Entry V
      pub at : entry.place ≡ place
      pub is : found key entries ≡ Some entry
      pub here : Stands key entry entries

    pub leads : (key : List ℕ) (place : ℕ) → place_at key index ≡ Some place → Leads key place
    leads key place is = cases (found key entries) refl
      where
        cases : (it : Option (Entry V)) → found key entries ≡ it → Leads key place
        cases None none =
            let clash : ◌≡◌ {A = Option ℕ} None (Some place) = sym (keyed.indexed key ∙ ap (option_map place_of) none) ∙ is in
            absurd cc
        cases (Some entry) some = record {
          entry = entry;
          at = let at : Some entry.place ≡ Some place = sym (keyed.indexed key ∙ ap (option_map place_of) some) ∙ is in cc;
          is = some;
          here = stands key entry entries keyed.rise some;
        }

    pub looked : (key : List ℕ) (place : ℕ) → place_at key index ≡ Some place → get nat_cmp rows place ≡ found key entries
    looked key place is =
        let it = leads key place is in
        ap (λ (under : List (ℕ × Entry V)). lookup (is_at (nat_cmp place)) under) keyed.under
        ∙ ap (λ at. lookup (is_at (nat_cmp at)) (stored entries)) (sym it.at)
        ∙ it.here.looked
        ∙ sym it.is

    pub missed : (key : List ℕ) → place_at key index ≡ None → found key entries ≡ None
    missed key is = cases (found key entries) refl
      where
        cases : (it : Option (Entry V)) → found key entries ≡ it → found key entries ≡ None
        cases None none = none
        cases (Some entry) some =
            let clash : Some entry.place ≡ None = sym (keyed.indexed key ∙ ap (option_map place_of) some) ∙ is in
            absurd cc

    -- something stands under each place of the index
    pub stands_there : (key : List ℕ) (place : ℕ) → place_at key index ≡ Some place → IsSome (get nat_cmp rows place)
    stands_there key place is = let it = leads key place is in rw (looked key place is ∙ it.is) refl

    -- a key that is not in the index is not there
    pub absent : (key : List ℕ) → place_at key index ≡ None → has_key key entries ≡ false
    absent key is = sym (has key) ∙ ap is_some is

    -- the last place tells what is above all
    pub above_by : (last place : ℕ) (there : Entry V) → get nat_cmp rows last ≡ Some there → IsUpperBound nat_cmp rows last
        → nat_lt last place ≡ above place entries
    above_by last place there is all =
        above_last last place there entries
        (ap (λ (under : List (ℕ × Entry V)). lookup (is_at (nat_cmp last)) under) (sym keyed.under) ∙ is)
        (λ other some.
        all other (subst (λ (under : List (ℕ × Entry V)). IsSome (lookup (is_at (nat_cmp other)) under)) (sym keyed.under) some))

    -- ---- one more

    pub added : (more : Under V) (new : Index) (entry : Entry V) → has_key entry.key entries ≡ false
        → above entry.place entries ≡ true → more.entries ≡ insert_entry nat_cmp rows.entries entry.place entry
        → Turns entry.key (Some entry.place) index new
        → IsKeyed more new (entries ++ entry ∷ [])
    added more new entry absent far put turns = record {
      under = put
          ∙ ap (λ (under : List (ℕ × Entry V)). insert_entry nat_cmp under entry.place entry) keyed.under
          ∙ put_last entry entries far;
      rise = rise_last entry entries far keyed.rise;
      differ = differ_last entry entries absent keyed.differ;
      indexed = λ other.
          turns other
          ∙ ap (λ place. if bytes_eq entry.key other then Some entry.place else place) (keyed.indexed other)
          ∙ cases (bytes_eq entry.key other) (found other entries)
          ∙ ap (option_map place_of) (sym (found_last entry entries absent other));
    }
      where
        cases : (here : Bool) (it : Option (Entry V)) → (if here then Some entry.place else option_map place_of it)
            ≡ option_map place_of (if here then Some entry else it)
        cases true it = refl
        cases false it = refl

    -- the index as it was, and what is told of a key that is not there forgotten again
    pub kept : (less : Under V) (new : Index) → less.entries ≡ rows.entries
        → ((other : List ℕ) → place_at other new ≡ place_at other index) → IsKeyed less new entries
    kept less new put turns = record {
      under = put ∙ keyed.under;
      rise = keyed.rise;
      differ = keyed.differ;
      indexed = λ other. turns other ∙ keyed.indexed other;
    }

    pub undone : (key : List ℕ) (place : Option ℕ) (told new : Index) → has_key key entries ≡ false → Turns key place index told
        → Turns key None told new → (other : List ℕ) → place_at other new ≡ place_at other index
    undone key place told new absent first second other =
        second other
        ∙ ap (λ it. if bytes_eq key other then None else it) (first other)
        ∙ cases (bytes_eq key other) refl
      where
        cases : (here : Bool) → bytes_eq key other ≡ here
            → (if here then None else (if here then place else place_at other index)) ≡ place_at other index
        cases true is =
            sym (keyed.indexed other
            ∙ ap (option_map place_of) (subst (λ bytes. found bytes entries ≡ None) (same key other is) (not_found key entries absent)))
        cases false is = refl

    -- ---- one less

    forgotten : (key : List ℕ) (new : Index) → Turns key None index new → (other : List ℕ)
        → place_at other new ≡ option_map place_of (found other (removed key entries))
    forgotten key new turns other =
        turns other
        ∙ ap (λ place. if bytes_eq key other then None else place) (keyed.indexed other)
        ∙ cases (bytes_eq key other) (found other entries)
        ∙ ap (option_map place_of) (sym (found_removed key entries keyed.differ other))
      where
        cases : (here : Bool) (it : Option (Entry V)) → (if here then None else option_map place_of it)
            ≡ option_map place_of (if here then None else it)
        cases true it = refl
        cases false it = refl

    pub taken : (less : Under V) (new : Index) (key : List ℕ) (place : ℕ) → place_at key index ≡ Some place
        → less.entries ≡ remove_entry (is_at (nat_cmp place)) rows.entries → Turns key None index new
        → IsKeyed less new (removed key entries)
    taken less new key place is out turns = let it = leads key place is in record {
      under = out
          ∙ ap (λ (under : List (ℕ × Entry V)). remove_entry (is_at (nat_cmp place)) under) keyed.under
          ∙ ap (λ at. remove_entry (is_at (nat_cmp at)) (stored entries)) (sym it.at)
          ∙ it.here.out;
      rise = rise_removed key entries keyed.rise;
      differ = differ_removed key entries keyed.differ;
      indexed = forgotten key new turns;
    }

    pub not_taken : (new : Index) (key : List ℕ) → place_at key index ≡ None → Turns key None index new
        → IsKeyed rows new (removed key entries)
    not_taken new key is turns = record {
      under = keyed.under ∙ ap stored (sym (removed_none key entries (missed key is)));
      rise = rise_removed key entries keyed.rise;
      differ = differ_removed key entries keyed.differ;
      indexed = forgotten key new turns;
    }

    -- ---- another value

    pub swapped : (other : Under V) (key : List ℕ) (place : ℕ) (was value : V) → place_at key index ≡ Some place
        → Swaps place was value rows other → IsKeyed other index (replaced key value entries)
    swapped other key place was value is swaps =
        let it = leads key place is in
        let one : ◌≡◌ {A = Option (Entry V)} (Some swaps.entry) (Some it.entry) = sym swaps.there ∙ looked key place is ∙ it.is in
        let same_entry : swaps.entry ≡ it.entry = cc in
        let put = λ (at : ℕ) (under : List (ℕ × Entry V)) (entry : Entry V).
        set_value (is_at (nat_cmp at)) under (record entry { value = value }) in
        record {
          under = swaps.over
              ∙ ap (λ (under : List (ℕ × Entry V)). put place under swaps.entry) keyed.under
              ∙ ap (λ (at : ℕ). put at (stored entries) swaps.entry) (sym it.at)
              ∙ ap (λ (entry : Entry V). put it.entry.place (stored entries) entry) same_entry
              ∙ it.here.over value;
          rise = rise_replaced key value entries ∙ keyed.rise;
          differ = differ_replaced key value entries ∙ keyed.differ;
          indexed = λ other. keyed.indexed other ∙ sym (place_replaced other key value entries);
        }

    -- the value that was there
    pub swapped_out : (other : Under V) (key : List ℕ) (place : ℕ) (was value : V) → place_at key index ≡ Some place
        → Swaps place was value rows other → option_map (λ (entry : Entry V). entry.value) (found key entries) ≡ Some was
    swapped_out other key place was value is swaps =
        ap (option_map (λ (entry : Entry V). entry.value)) (sym (looked key place is) ∙ swaps.there) ∙ ap (λ it. Some it) swaps.value_is
