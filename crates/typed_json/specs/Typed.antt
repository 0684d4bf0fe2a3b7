-- Values whose parts are of their types, as those of every running program are.
use Rattle.std.specs.Prelude.{ℕ, ℤ, pos, negsuc, ◌&&◌, ◌==◌, Bool, true, List, length, int_le}
use Rattle.std.specs.List.{list_all}
use Rattle.bson_values.specs.declared.pairs.Pair.{Pair}
use Rattle.bson_values.specs.declared.value.Value.{Value}
use Rattle.bson_values.specs.declared.value.Value.TheOpen.{Value-F}
use Rattle.bson_values.specs.declared.value.Value.TheFolds.{fold-Value}
use Rattle.bson_values.specs.declared.value.Value.TheVariants as value

-- a number from the one to the other
abbrev pub is_within : ℤ → ℤ → ℤ → Bool
is_within low high number = int_le low number && int_le number high

-- the numbers of an i32, of an i64, of a u64 and of a u8
abbrev pub is_i32 : ℤ → Bool
is_i32 = is_within (negsuc 2147483647) (pos 2147483647)

abbrev pub is_i64 : ℤ → Bool
is_i64 = is_within (negsuc 9223372036854775807) (pos 9223372036854775807)

abbrev pub is_u64 : ℤ → Bool
is_u64 = is_within (pos 0) (pos 18446744073709551615)

abbrev pub is_u8 : ℤ → Bool
is_u8 = is_within (pos 0) (pos 255)

abbrev pub are_bytes : List ℕ → Bool
are_bytes bytes = list_all (λ (byte : ℕ). is_u8 (pos byte)) bytes

-- a value's parts are of their types where those of the values within are
abbrev pub typed_in : Value-F Bool → Bool
typed_in (Value-F.Doc pairs) = list_all (λ (pair : Pair Bool). pair.value) pairs
typed_in (Value-F.Arr items) = list_all (λ (item : Bool). item) items
typed_in (Value-F.Bin it) = is_u8 (pos it.subtype) && are_bytes it.bytes
typed_in (Value-F.Id id) = length id == 12 && are_bytes id
typed_in (Value-F.Date moment) = is_i64 moment
typed_in (Value-F.Int number) = is_i32 number
typed_in (Value-F.Stamp stamp) = is_u64 (pos stamp)
typed_in (Value-F.Long number) = is_i64 number
typed_in layer = true

-- the same at every depth
abbrev pub is_typed : Value → Bool
is_typed = fold-Value Bool typed_in

-- of a document
abbrev pub has_types : List (Pair Value) → Bool
has_types doc = is_typed (value.Doc doc)
