-- The bytes of the parts of a document that tells of changes. A link between contracts.
use Prim.Native.String.{String}
use Rattle.std.specs.Prelude.{ℕ, ◌-◌, ◌^◌, min, nat_lt, if◌then◌else◌, Bool, List, [], map, Option, None, Some}
use Rattle.std.specs.Fmt.{decimal}
use Rattle.std.specs.List.{flat_map}
use Rattle.bson_values.specs.declared.pairs.Pair.{Pair}
use Rattle.bson_values.specs.declared.value.Value.{Value}
use Rattle.bson_values.specs.declared.value.Value.TheVariants.{Doc}
use Rattle.bson_spelling.specs.declared.form.Form.TheVariants.{Bson}
use Rattle.bson_spelling.specs.Spelling.{int32, int64, element, element_of, held, items_from, spell}
use Rattle.reply_words.specs.declared.ends.ItemEnd.{ItemEnd}
use Rattle.reply_words.specs.declared.ends.ItemEnd.TheVariants as ended
use Rattle.reply_words.specs.declared.ends.Tally.{Tally}
use Rattle.reply_words.specs.declared.ends.Tally.TheVariants as tally
use Rattle.reply_words.specs.declared.listing.Listing.{Listing}
use Rattle.reply_words.specs.declared.listing.Listing.TheVariants.{Errors, Upserted}
use Rattle.reply_words.specs.Replies.{done, changed, item_error, item_upserted, error_of, upserted_of, told_from, listed, changes}
use Rattle.reply_words.specs.Replies.{upserted_field, update_told}

-- the type byte and the bytes of a count
abbrev pub counted : ℕ → ℕ × List ℕ
counted n = if nat_lt n (2 ^ 31) then (16, int32 n) else (18, int64 (min n (2 ^ 63 - 1)))

-- what is counted of an item
abbrev pub counts : Tally → ItemEnd → ℕ
counts tally.Done = done
counts tally.Changed = changed

-- ---- an array

abbrev pub name_of : Listing → String
name_of Errors = "writeErrors"
name_of Upserted = "upserted"

abbrev pub told_by : Listing → ℕ → ItemEnd → List (List (Pair Value))
told_by Errors = error_of
told_by Upserted = upserted_of

-- its items from that place on, of ends of which the first is that of the item `index`
unfoldable pub listing_items : Listing → ℕ → ℕ → List ItemEnd → List ℕ
listing_items listing place index ends = items_from place (map (held Bson) (map Doc (told_from (told_by listing) index ends)))

-- what one end adds to them
abbrev pub end_items : Listing → ℕ → ℕ → ItemEnd → List ℕ
end_items Errors place index (ended.Done n m id) = []
end_items Errors place index (ended.Refused kind) = element_of (decimal place) (3, spell (item_error index kind))
end_items Upserted place index (ended.Done n m None) = []
end_items Upserted place index (ended.Done n m (Some id)) = element_of (decimal place) (3, spell (item_upserted index id))
end_items Upserted place index (ended.Refused kind) = []

-- how many items one end adds
abbrev pub told_count : Listing → ItemEnd → ℕ
told_count Errors (ended.Done n m id) = 0
told_count Errors (ended.Refused kind) = 1
told_count Upserted (ended.Done n m None) = 0
told_count Upserted (ended.Done n m (Some id)) = 1
told_count Upserted (ended.Refused kind) = 0

-- its field, where it has items
unfoldable pub listing_element : Listing → List ItemEnd → List ℕ
listing_element listing ends = flat_map (element Bson) (listed (name_of listing) (told_from (told_by listing) 0 ends))

-- ---- other fields

-- what an update tells besides
unfoldable pub changes_elements : Bool → List ItemEnd → List ℕ
changes_elements update ends = flat_map (element Bson) (changes update ends)

-- the `_id` of a document that findAndModify inserted, and what a removal does not tell
unfoldable pub upserted_element : Option Value → List ℕ
upserted_element upserted = flat_map (element Bson) (upserted_field upserted)

unfoldable pub update_elements : Bool → Bool → Option Value → List ℕ
update_elements removed existed upserted = flat_map (element Bson) (update_told removed existed upserted)
