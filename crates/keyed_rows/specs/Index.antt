-- How entries are stored: each under its place, and the place of each under its key.
use Rattle.std.specs.Prelude.{◌≡◌, ℕ, true, List, Option, Some, Vec, map, option_map}
use Rattle.std.specs.BTreeMap.{BTreeMap, get, get_by, is_at}
use Rattle.std.specs.Map.{set_value}
use Rattle.std.specs.Cmp.Lexicographic.{slice_cmp}
use Rattle.std.specs.Ordering.{nat_cmp}
use Rattle.std.specs.declared.alloc.Global.{Global}
use Rattle.keyed_rows.specs.declared.entry.Entry.{Entry}
use Rattle.keyed_rows.specs.Entries.{found, keys_differ, places_rise}

-- the place that a map tells of a key
abbrev pub place_at : List ℕ → BTreeMap (Vec ℕ Global) ℕ → Option ℕ
place_at key index = get_by (λ (held : Vec ℕ Global). slice_cmp nat_cmp key held.items) index

-- entries under their places
abbrev pub stored : {V : Type 0} → List (Entry V) → List (ℕ × Entry V)
stored entries = map (λ entry. (entry.place, entry)) entries

-- each entry stands under its place, places rise, keys differ, and the index tells the place of each key and of no other
pub record IsKeyed {V : Type 0} (rows : BTreeMap ℕ (Entry V)) (index : BTreeMap (Vec ℕ Global) ℕ) (entries : List (Entry V)) : Type 0 where
  pub under : rows.entries ≡ stored entries
  pub rise : places_rise entries ≡ true
  pub differ : keys_differ entries ≡ true
  pub indexed : (key : List ℕ) → place_at key index ≡ option_map (λ entry. entry.place) (found key entries)

-- another value stands under a place
pub record Swaps {V : Type 0} (place : ℕ) (was value : V) (old new : BTreeMap ℕ (Entry V)) : Type 0 where
  pub entry : Entry V
  pub there : get nat_cmp old place ≡ Some entry
  pub value_is : entry.value ≡ was
  pub over : new.entries ≡ set_value (is_at (nat_cmp place)) old.entries (record entry { value = value })
