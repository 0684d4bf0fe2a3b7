-- How long the arrays of a reply are that tell of items, and what stands in them.
use Rattle.std.proofs.Common.{◌≡◌, ℕ, zero, suc, pos, ◌+◌, ◌*◌, ◌<◌, ◌≤◌, List, [], ◌∷◌, ◌++◌, length, map, drop, get_or}
use Rattle.std.proofs.Common.{Option, None, Some, refl, sym, ap, ◌∙◌, append_assoc, arith}
use Prim.Native.String.{String}
use Rattle.std.specs.Prelude.{codes}
use Rattle.std.specs.Fmt.{decimal}
use Rattle.std.specs.List.{flat_map}
use Rattle.std.proofs.lemmas.Fmt.{length-decimal-le}
use Rattle.std.proofs.lemmas.List.{length-append, append-nil, drop_more, drop_all}
use Rattle.std.proofs.lemmas.List.Elements.{All-tail}
use Rattle.bson_values.specs.declared.pairs.Pair.{Pair}
use Rattle.bson_values.specs.declared.value.Value.{Value}
use Rattle.bson_values.specs.declared.value.Value.TheVariants as value
use Rattle.bson_spelling.specs.declared.form.Form.TheVariants.{Bson}
use Rattle.bson_spelling.specs.Spelling.{int32, string, held, element, element_of, items_from, enclosed, cstring, spell}
use Rattle.bson_spelling.proofs.Sizes.{length-enclosed, length-element_of}
use Rattle.bson_wire.proofs.Sizes.{spell-push}
use Rattle.bson_wire.proofs.Lengths.{size-Int, size-Str}
use Rattle.case_tables.specs.Refusals.{code_of, text_of}
use Rattle.case_tables.proofs.Bounds.{text_short}
use Rattle.reply_words.specs.declared.ends.ItemEnd.{ItemEnd}
use Rattle.reply_words.specs.declared.ends.ItemEnd.TheVariants.{Done, Refused}
use Rattle.reply_words.specs.declared.listing.Listing.{Listing}
use Rattle.reply_words.specs.declared.listing.Listing.TheVariants.{Errors, Upserted}
use Rattle.reply_words.specs.Replies.{field, item_error, item_upserted, told_from, listed}
use Rattle.reply_words.specs.Small.{MOST_ITEMS, HasShortId, AreShort}
use Rattle.reply_words.specs.Written.{name_of, told_by, listing_items, end_items, told_count, listing_element}
use Rattle.reply_words.proofs.Named.{held-Int, held-Str, held-Doc, held-Arr}

-- ---- one error

item_by : (index kind : ℕ) → flat_map (element Bson) (item_error index kind)
    ≡ element_of (codes "index") (16, int32 index) ++ element_of (codes "code") (16, int32 (code_of kind))
    ++ element_of (codes "errmsg") (2, string Bson (text_of kind))
unfolding item_error
item_by index kind =
    let place = element_of (codes "index") (16, int32 index) in
    let code = element_of (codes "code") (16, int32 (code_of kind)) in
    let text = element_of (codes "errmsg") (2, string Bson (text_of kind)) in
    (λ i.
    element_of (codes "index") (held-Int index i)
    ++ (element_of (codes "code") (held-Int (code_of kind) i) ++ (element_of (codes "errmsg") (held-Str (text_of kind) i) ++ [])))
    ∙ ap (λ (bytes : List ℕ). place ++ (code ++ bytes)) (append-nil text)
    ∙ sym (append_assoc place code text)

-- what stands inside its document
pub item_is : (index kind code : ℕ) (text : List ℕ) → code ≡ code_of kind → text ≡ text_of kind
    → flat_map (element Bson) (item_error index kind)
    ≡ element_of (codes "index") (16, int32 index) ++ element_of (codes "code") (16, int32 code)
    ++ element_of (codes "errmsg") (2, string Bson text)
item_is index kind code text code_is text_is = item_by index kind ∙ (λ i.
    element_of (codes "index") (16, int32 index) ++ element_of (codes "code") (16, int32 (sym code_is i))
    ++ element_of (codes "errmsg") (2, string Bson (sym text_is i)))

error_sized : (index kind : ℕ) → length (spell (item_error index kind)) ≡ length (text_of kind) + 39
unfolding item_error
error_sized index kind =
    let one : List (Pair Value) = field "index" (value.Int (pos index)) ∷ [] in
    let two : List (Pair Value) = one ++ field "code" (value.Int (pos (code_of kind))) ∷ [] in
    omega (
      arith,
      spell-push [] (codes "index") (value.Int (pos index)),
      spell-push one (codes "code") (value.Int (pos (code_of kind))),
      spell-push two (codes "errmsg") (value.Str (text_of kind)),
      size-Int (pos index),
      size-Int (pos (code_of kind)),
      size-Str (text_of kind),
    )

pub error_fields_sized : (index kind : ℕ) → length (flat_map (element Bson) (item_error index kind)) ≡ length (text_of kind) + 34
error_fields_sized index kind =
    omega (arith, error_sized index kind, length-enclosed Bson (flat_map (element Bson) (item_error index kind)))

-- ---- one document that was inserted

pub upserted_is : (index : ℕ) (id : Value) → flat_map (element Bson) (item_upserted index id)
    ≡ element_of (codes "index") (16, int32 index) ++ element_of (codes "_id") (held Bson id)
unfolding item_upserted
upserted_is index id =
    (λ i. element_of (codes "index") (held-Int index i) ++ (element_of (codes "_id") (held Bson id) ++ []))
    ∙ ap (λ (bytes : List ℕ). element_of (codes "index") (16, int32 index) ++ bytes) (append-nil (element_of (codes "_id") (held Bson id)))

upserted_sized : (index : ℕ) (id : Value) → length (spell (item_upserted index id)) ≡ length (held Bson id).1 + 21
unfolding item_upserted
upserted_sized index id =
    let one : List (Pair Value) = field "index" (value.Int (pos index)) ∷ [] in
    omega (
      arith,
      spell-push [] (codes "index") (value.Int (pos index)),
      spell-push one (codes "_id") id,
      size-Int (pos index),
    )

pub upserted_fields_sized : (index : ℕ) (id : Value)
    → length (flat_map (element Bson) (item_upserted index id)) ≡ length (held Bson id).1 + 16
upserted_fields_sized index id =
    omega (arith, upserted_sized index id, length-enclosed Bson (flat_map (element Bson) (item_upserted index id)))

-- ---- one end

pub error_end_sized : (place index kind : ℕ)
    → length (end_items Errors place index (Refused kind)) ≡ length (decimal place) + length (text_of kind) + 41
error_end_sized place index kind =
    omega (arith, error_sized index kind, length-element_of (decimal place) (3, spell (item_error index kind)))

pub upserted_end_sized : (place index n m : ℕ) (id : Value)
    → length (end_items Upserted place index (Done n m (Some id))) ≡ length (decimal place) + length (held Bson id).1 + 23
upserted_end_sized place index n m id =
    omega (arith, upserted_sized index id, length-element_of (decimal place) (3, spell (item_upserted index id)))

pub ruleset end_sized = (error_end_sized, upserted_end_sized)

pub upserted_end_by : (place n m : ℕ) (end : ItemEnd) (upserted : Option Value) (id : Value) → end ≡ Done n m upserted → upserted ≡ Some id
    → length (end_items Upserted place 0 end) ≡ length (decimal place) + length (held Bson id).1 + 23
upserted_end_by place n m end upserted id is some =
    ap (λ (it : ItemEnd). length (end_items Upserted place 0 it)) (is ∙ ap (Done n m) some) ∙ upserted_end_sized place 0 n m id

-- an end takes the same wherever it stands among the ends
pub end_moved : (listing : Listing) (place index : ℕ) (end : ItemEnd)
    → length (end_items listing place index end) ≡ length (end_items listing place 0 end)
end_moved Errors place index (Done n m id) = refl
end_moved Errors place index (Refused kind) = error_end_sized place index kind ∙ sym (error_end_sized place 0 kind)
end_moved Upserted place index (Done n m None) = refl
end_moved Upserted place index (Done n m (Some id)) =
    upserted_end_sized place index n m id ∙ sym (upserted_end_sized place 0 n m id)
end_moved Upserted place index (Refused kind) = refl

-- ---- all items

-- step by step: at the end, and past an end
pub none_left : (listing : Listing) (place index : ℕ) → listing_items listing place index [] ≡ []
unfolding listing_items
none_left listing place index = refl

rest_of : Listing → ℕ → ℕ → List ItemEnd → List ℕ
rest_of listing place index ends = items_from place (map (held Bson) (map value.Doc (told_from (told_by listing) index ends)))

pub past_end : (listing : Listing) (place index : ℕ) (end : ItemEnd) (ends : List ItemEnd) → listing_items listing place index (end ∷ ends)
    ≡ end_items listing place index end ++ listing_items listing (place + told_count listing end) (index + 1) ends
unfolding listing_items rest_of
past_end Errors place index (Done n m id) ends = ap (λ (at : ℕ). rest_of Errors at (index + 1) ends) (omega arith)
past_end Errors place index (Refused kind) ends =
    let rest = rest_of Errors (place + 1) (index + 1) ends in
    ap (λ (it : ℕ × List ℕ). element_of (decimal place) it ++ rest) (held-Doc (item_error index kind))
past_end Upserted place index (Done n m None) ends = ap (λ (at : ℕ). rest_of Upserted at (index + 1) ends) (omega arith)
past_end Upserted place index (Done n m (Some id)) ends =
    let rest = rest_of Upserted (place + 1) (index + 1) ends in
    ap (λ (it : ℕ × List ℕ). element_of (decimal place) it ++ rest) (held-Doc (item_upserted index id))
past_end Upserted place index (Refused kind) ends = ap (λ (at : ℕ). rest_of Upserted at (index + 1) ends) (omega arith)

-- the items of the ends from a place on are what the end there adds, and the rest
pub ends_more : (listing : Listing) (place index at : ℕ) (ends : List ItemEnd) (end : ItemEnd) → end ≡ get_or ends at end → at < length ends
    → listing_items listing place index (drop at ends)
    ≡ end_items listing place index end ++ listing_items listing (place + told_count listing end) (index + 1) (drop (at + 1) ends)
ends_more listing place index at ends end is within =
    ap (listing_items listing place index) (drop_more ends at end within)
    ∙ ap (λ (it : ItemEnd). listing_items listing place index (it ∷ drop (at + 1) ends)) (sym is)
    ∙ past_end listing place index end (drop (at + 1) ends)

pub ends_all : (listing : Listing) (place index at : ℕ) (ends : List ItemEnd) → length ends ≤ at
    → listing_items listing place index (drop at ends) ≡ []
ends_all listing place index at ends all = ap (listing_items listing place index) (drop_all at ends all) ∙ none_left listing place index

-- an end finds room where what is left to write does
pub end_fits : (listing : Listing) (place index at spare room : ℕ) (ends : List ItemEnd) (end : ItemEnd) → end ≡ get_or ends at end
    → at < length ends → length (listing_items listing 0 0 ends) ≤ room
    → spare + length (listing_items listing 0 0 ends) ≡ room + length (listing_items listing place index (drop at ends))
    → length (end_items listing place index end) ≤ spare
end_fits listing place index at spare room ends end is within all written =
    let rest = listing_items listing (place + told_count listing end) (index + 1) (drop (at + 1) ends) in
    omega (
      arith,
      all,
      written,
      ap length (ends_more listing place index at ends end is within),
      length-append (end_items listing place index end) rest,
    )

-- past an end
pub end_written : (listing : Listing) (place index at count : ℕ) (ends : List ItemEnd) (end : ItemEnd) (before after start all : List ℕ)
    → end ≡ get_or ends at end → at < length ends → after ≡ before ++ end_items listing place index end → count ≡ told_count listing end
    → before ++ listing_items listing place index (drop at ends) ≡ start ++ all
    → after ++ listing_items listing (place + count) (index + 1) (drop (at + 1) ends) ≡ start ++ all
end_written listing place index at count ends end before after start all is within after_is count_is left =
    let rest = listing_items listing (place + told_count listing end) (index + 1) (drop (at + 1) ends) in
    (λ i. after_is i ++ listing_items listing (place + count_is i) (index + 1) (drop (at + 1) ends))
    ∙ append_assoc before (end_items listing place index end) rest
    ∙ ap (λ (bytes : List ℕ). before ++ bytes) (sym (ends_more listing place index at ends end is within))
    ∙ left

pub end_taken : (listing : Listing) (place index at count spare less room : ℕ) (ends : List ItemEnd) (end : ItemEnd)
    → end ≡ get_or ends at end → at < length ends → less + length (end_items listing place index end) ≡ spare
    → count ≡ told_count listing end
    → spare + length (listing_items listing 0 0 ends) ≡ room + length (listing_items listing place index (drop at ends))
    → less + length (listing_items listing 0 0 ends)
    ≡ room + length (listing_items listing (place + count) (index + 1) (drop (at + 1) ends))
end_taken listing place index at count spare less room ends end is within less_is count_is left =
    let rest = listing_items listing (place + told_count listing end) (index + 1) (drop (at + 1) ends) in
    omega (
      arith,
      less_is,
      left,
      ap (λ (it : ℕ). length (listing_items listing (place + it) (index + 1) (drop (at + 1) ends))) count_is,
      ap length (ends_more listing place index at ends end is within),
      length-append (end_items listing place index end) rest,
    )

pub count_few : (listing : Listing) (end : ItemEnd) → told_count listing end ≤ 1
count_few Errors (Done n m id) = omega arith
count_few Errors (Refused kind) = omega arith
count_few Upserted (Done n m None) = omega arith
count_few Upserted (Done n m (Some id)) = omega arith
count_few Upserted (Refused kind) = omega arith

pub place_rises : (listing : Listing) (place index count : ℕ) (end : ItemEnd) → place ≤ index → count ≡ told_count listing end
    → place + count ≤ index + 1
place_rises listing place index count end low is = omega (arith, low, is, count_few listing end)

-- the bytes of all items, from that place on
abbrev pub listing_size : Listing → ℕ → List ItemEnd → ℕ
listing_size listing place [] = 0
listing_size listing place (end ∷ ends) =
    length (end_items listing place 0 end) + listing_size listing (place + told_count listing end) ends

pub listing_sized : (listing : Listing) (place index : ℕ) (ends : List ItemEnd)
    → length (listing_items listing place index ends) ≡ listing_size listing place ends
listing_sized listing place index [] = ap length (none_left listing place index)
listing_sized listing place index (end ∷ ends) = omega (
  arith,
  ap length (past_end listing place index end ends),
  length-append (end_items listing place index end) (listing_items listing (place + told_count listing end) (index + 1) ends),
  end_moved listing place index end,
  listing_sized listing (place + told_count listing end) (index + 1) ends,
)

-- ---- how much room serves

-- a place below 1,000 has at most three digits
digits : (place : ℕ) → place < 1000 → length (decimal place) ≤ 3
digits place small = length-decimal-le 3 place (omega arith) (omega (arith, small)) (omega (arith, small))

-- an end that was refused
errors_short : (place : ℕ) (ends : List ItemEnd) → place + length ends ≤ 1000 → listing_size Errors place ends ≤ 94 * length ends
errors_short place [] few = omega arith
errors_short place (Done n m id ∷ ends) few = omega (arith, few, errors_short (place + 0) ends (omega (arith, few)))
errors_short place (Refused kind ∷ ends) few = omega (
  arith,
  few,
  digits place (omega (arith, few)),
  text_short kind,
  error_end_sized place 0 kind,
  errors_short (place + 1) ends (omega (arith, few)),
)

first_short : (end : ItemEnd) (ends : List ItemEnd) → AreShort (end ∷ ends) → HasShortId end
first_short end ends short = short 0 end (omega arith)

-- an end is refused or inserts a document, and not both
both_short : (place other : ℕ) (ends : List ItemEnd) → place + length ends ≤ 1000 → other + length ends ≤ 1000 → AreShort ends
    → listing_size Errors place ends + listing_size Upserted other ends ≤ 16409 * length ends
both_short place other [] few few' short = omega arith
both_short place other (Done n m None ∷ ends) few few' short = omega (
  arith,
  few,
  few',
  both_short (place + 0) (other + 0) ends (omega (arith, few)) (omega (arith, few')) (All-tail HasShortId (Done n m None) ends short),
)
both_short place other (Done n m (Some id) ∷ ends) few few' short = omega (
  arith,
  few,
  few',
  first_short (Done n m (Some id)) ends short,
  digits other (omega (arith, few')),
  upserted_end_sized other 0 n m id,
  both_short (place + 0) (other + 1) ends (omega (arith, few)) (omega (arith, few')) (All-tail HasShortId (Done n m (Some id)) ends short),
)
both_short place other (Refused kind ∷ ends) few few' short = omega (
  arith,
  few,
  few',
  digits place (omega (arith, few)),
  text_short kind,
  error_end_sized place 0 kind,
  both_short (place + 1) (other + 0) ends (omega (arith, few)) (omega (arith, few')) (All-tail HasShortId (Refused kind) ends short),
)

-- ---- the field

-- items take bytes
some_sized : (doc : List (Pair Value)) (docs : List (List (Pair Value)))
    → 1 ≤ length (items_from 0 (map (held Bson) (map value.Doc (doc ∷ docs))))
some_sized doc docs =
    let rest = items_from 1 (map (held Bson) (map value.Doc docs)) in
    let first = element_of (decimal 0) (held Bson (value.Doc doc)) in
    omega (arith, length-append first rest, length-element_of (decimal 0) (held Bson (value.Doc doc)))

-- none are told of by no field
none_written : (name : String) (docs : List (List (Pair Value))) → length (items_from 0 (map (held Bson) (map value.Doc docs))) ≡ 0
    → flat_map (element Bson) (listed name docs) ≡ []
none_written name [] none = refl
none_written name (doc ∷ docs) none = absurd (omega (arith, none, some_sized doc docs))

-- some are told of by an array
some_written : (name : String) (docs : List (List (Pair Value))) → 0 < length (items_from 0 (map (held Bson) (map value.Doc docs)))
    → flat_map (element Bson) (listed name docs)
    ≡ (4 ∷ cstring (codes name)) ++ enclosed Bson (items_from 0 (map (held Bson) (map value.Doc docs)))
some_written name [] some = absurd (omega (arith, some))
some_written name (doc ∷ docs) some =
    append-nil (element Bson (field name (value.Arr (map value.Doc (doc ∷ docs)))))
    ∙ ap (element_of (codes name)) (held-Arr (map value.Doc (doc ∷ docs)))

pub no_items : (listing : Listing) (ends : List ItemEnd) → length (listing_items listing 0 0 ends) ≡ 0 → listing_element listing ends ≡ []
unfolding listing_items listing_element
no_items listing ends none = none_written (name_of listing) (told_from (told_by listing) 0 ends) none

pub items_are : (listing : Listing) (ends : List ItemEnd) (name : List ℕ) → name ≡ codes (name_of listing)
    → 0 < length (listing_items listing 0 0 ends)
    → listing_element listing ends ≡ (4 ∷ cstring name) ++ enclosed Bson (listing_items listing 0 0 ends)
unfolding listing_items listing_element
items_are listing ends name is some =
    some_written (name_of listing) (told_from (told_by listing) 0 ends) some
    ∙ ap (λ (it : List ℕ). (4 ∷ cstring it) ++ enclosed Bson (listing_items listing 0 0 ends)) (sym is)

pub no_items_sized : (listing : Listing) (ends : List ItemEnd) → length (listing_items listing 0 0 ends) ≡ 0
    → length (listing_element listing ends) ≡ 0
no_items_sized listing ends none = ap length (no_items listing ends none)

pub items_are_sized : (listing : Listing) (ends : List ItemEnd) → 0 < length (listing_items listing 0 0 ends)
    → length (listing_element listing ends) ≡ length (listing_items listing 0 0 ends) + length (codes (name_of listing)) + 7
items_are_sized listing ends some =
    let inside = listing_items listing 0 0 ends in
    let name = codes (name_of listing) in
    omega (
      arith,
      ap length (items_are listing ends name refl some),
      length-append (4 ∷ cstring name) (enclosed Bson inside),
      length-append name (0 ∷ []),
      length-enclosed Bson inside,
    )

pub ruleset told_sized = (no_items_sized, items_are_sized)

-- the field takes no more than 7 bytes, its name and its items
pub element_short : (listing : Listing) (ends : List ItemEnd)
    → length (listing_element listing ends) ≤ listing_size listing 0 ends + length (codes (name_of listing)) + 7
element_short listing ends = by_length (length (listing_items listing 0 0 ends)) refl
  where
    by_length : (len : ℕ) → length (listing_items listing 0 0 ends) ≡ len
        → length (listing_element listing ends) ≤ listing_size listing 0 ends + length (codes (name_of listing)) + 7
    by_length zero is = omega (arith, no_items_sized listing ends is)
    by_length (suc len) is = omega (arith, items_are_sized listing ends (omega (arith, is)), listing_sized listing 0 0 ends)

pub errors_element_short : (ends : List ItemEnd) → length ends ≤ MOST_ITEMS → length (listing_element Errors ends) ≤ 94 * length ends + 18
errors_element_short ends few = omega (arith, element_short Errors ends, errors_short 0 ends (omega (arith, few)))

pub both_elements_short : (ends : List ItemEnd) → length ends ≤ MOST_ITEMS → AreShort ends
    → length (listing_element Errors ends) + length (listing_element Upserted ends) ≤ 16409 * length ends + 33
both_elements_short ends few short = omega (
  arith,
  element_short Errors ends,
  element_short Upserted ends,
  both_short 0 0 ends (omega (arith, few)) (omega (arith, few)) short,
)
