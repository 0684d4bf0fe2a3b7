-- The document that tells how items ended, in parts, and how long it is.
use Rattle.std.proofs.Common.{◌≡◌, ℕ, pos, ◌+◌, ◌-◌, ◌^◌, ◌<◌, ◌≤◌, min, List, [], ◌∷◌, ◌++◌, length, refl, sym, ap, ◌∙◌}
use Rattle.std.proofs.Common.{inl, inr, append_assoc, arith, Bool, true, false}
use Rattle.std.specs.Prelude.{codes}
use Rattle.std.specs.List.{flat_map}
use Rattle.std.proofs.lemmas.Bool.{cases_lt, cond_below, cond_above}
use Rattle.std.proofs.lemmas.Grind.{flat_map-append}
use Rattle.std.proofs.lemmas.List.{length-append, append-nil}
use Rattle.bson_values.specs.declared.value.Value.{Value}
use Rattle.bson_values.specs.declared.value.Value.TheVariants as value
use Rattle.bson_spelling.specs.declared.form.Form.TheVariants.{Bson}
use Rattle.bson_spelling.specs.Spelling.{int32, int64, held, element, element_of, spell}
use Rattle.bson_spelling.proofs.Sizes.{length-enclosed, length-element_of}
use Rattle.bson_wire.proofs.Lengths.{size-Int, size-Long}
use Rattle.op_msg.specs.Limits.{MOST_REPLY}
use Rattle.reply_words.specs.declared.ends.ItemEnd.{ItemEnd}
use Rattle.reply_words.specs.declared.listing.Listing.TheVariants.{Errors, Upserted}
use Rattle.reply_words.specs.Replies.{field, number, done, changed, total, error_of, upserted_of, told_from, listed, changes}
use Rattle.reply_words.specs.Replies.{items_document}
use Rattle.reply_words.specs.Small.{MOST_ITEMS, AreShort, most_items_size}
use Rattle.reply_words.specs.Written.{counted, listing_element, changes_elements}
use Rattle.reply_words.proofs.Named.{held-Int, held-Long}
use Rattle.reply_words.proofs.Listed.{errors_element_short, both_elements_short}

-- ---- counts

pub number_int : (n : ℕ) → n < 2 ^ 31 → number n ≡ value.Int (pos n)
number_int n small = sym (cond_below n (2 ^ 31) (value.Int (pos n)) (value.Long (pos (min n (2 ^ 63 - 1)))) small)

pub number_long : (n : ℕ) → 2 ^ 31 ≤ n → number n ≡ value.Long (pos (min n (2 ^ 63 - 1)))
number_long n large = sym (cond_above n (2 ^ 31) (value.Int (pos n)) (value.Long (pos (min n (2 ^ 63 - 1)))) _ large refl)

-- what is past the last number counts as that
pub number_last : (n : ℕ) → number (min n (2 ^ 64 - 1)) ≡ number n
number_last n = elim (cases_lt n (2 ^ 31)) [
  | inl small ↦ ap number (omega (arith, small))
  | inr large ↦
      number_long (min n (2 ^ 64 - 1)) (omega (arith, large))
      ∙ ap (λ (it : ℕ). value.Long (pos it)) (omega arith)
      ∙ sym (number_long n large)
]

pub number_int_sized : (n : ℕ) → n < 2 ^ 31 → length (held Bson (number n)).1 ≡ 4
number_int_sized n small = ap (λ (it : Value). length (held Bson it).1) (number_int n small) ∙ size-Int (pos n)

pub number_long_sized : (n : ℕ) → 2 ^ 31 ≤ n → length (held Bson (number n)).1 ≡ 8
number_long_sized n large =
    ap (λ (it : Value). length (held Bson it).1) (number_long n large) ∙ size-Long (pos (min n (2 ^ 63 - 1)))

pub number_sized : (n : ℕ) → length (held Bson (number n)).1 ≤ 8
number_sized n = elim (cases_lt n (2 ^ 31)) [
  | inl small ↦ omega (arith, number_int_sized n small)
  | inr large ↦ omega (arith, number_long_sized n large)
]

held_int : (n : ℕ) → n < 2 ^ 31 → held Bson (number n) ≡ (16, int32 n)
held_int n small = ap (held Bson) (number_int n small) ∙ held-Int n

held_long : (n : ℕ) → 2 ^ 31 ≤ n → held Bson (number n) ≡ (18, int64 (min n (2 ^ 63 - 1)))
held_long n large = ap (held Bson) (number_long n large) ∙ held-Long (min n (2 ^ 63 - 1))

-- what is written of a count
pub held_counted : (n : ℕ) → held Bson (number n) ≡ counted n
held_counted n = elim (cases_lt n (2 ^ 31)) [
  | inl small ↦ held_int n small ∙ cond_below n (2 ^ 31) (16, int32 n) (18, int64 (min n (2 ^ 63 - 1))) small
  | inr large ↦ held_long n large ∙ cond_above n (2 ^ 31) (16, int32 n) (18, int64 (min n (2 ^ 63 - 1))) _ large refl
]

pub ruleset counts_sized = (number_int_sized, number_long_sized)

pub counted_last : (n : ℕ) → counted (min n (2 ^ 64 - 1)) ≡ counted n
counted_last n = sym (held_counted (min n (2 ^ 64 - 1))) ∙ ap (held Bson) (number_last n) ∙ held_counted n

pub number_by : (n total : ℕ) → n ≡ min total (2 ^ 64 - 1) → number n ≡ number total
number_by n total is = ap number is ∙ number_last total

-- a count that a field tells, saturated or not
counted_by : (n total : ℕ) → n ≡ min total (2 ^ 64 - 1) → held Bson (number total) ≡ counted n
counted_by n total is = held_counted total ∙ sym (counted_last total) ∙ ap counted (sym is)

-- ---- what an update tells besides

pub no_changes : (ends : List ItemEnd) → changes_elements false ends ≡ []
unfolding changes_elements
no_changes ends = refl

pub changes_are : (n : ℕ) (ends : List ItemEnd) → n ≡ min (total changed ends) (2 ^ 64 - 1)
    → changes_elements true ends ≡ element_of (codes "nModified") (counted n) ++ listing_element Upserted ends
unfolding changes_elements listing_element
changes_are n ends is = ap
    (λ (it : ℕ × List ℕ). element_of (codes "nModified") it ++ flat_map (element Bson) (listed "upserted" (told_from upserted_of 0 ends)))
    (counted_by n (total changed ends) is)

pub no_changes_sized : (ends : List ItemEnd) → length (changes_elements false ends) ≡ 0
no_changes_sized ends = ap length (no_changes ends)

pub changes_are_counted : (ends : List ItemEnd) → length (changes_elements true ends)
    ≡ length (element_of (codes "nModified") (counted (min (total changed ends) (2 ^ 64 - 1)))) + length (listing_element Upserted ends)
changes_are_counted ends =
    let n = min (total changed ends) (2 ^ 64 - 1) in
    ap length (changes_are n ends refl)
    ∙ length-append (element_of (codes "nModified") (counted n)) (listing_element Upserted ends)

pub changes_are_sized : (ends : List ItemEnd) → length (changes_elements true ends)
    ≡ length (held Bson (number (total changed ends))).1 + length (listing_element Upserted ends) + 11
changes_are_sized ends =
    let n = min (total changed ends) (2 ^ 64 - 1) in
    omega (
      arith,
      changes_are_counted ends,
      length-element_of (codes "nModified") (counted n),
      ap (λ (it : ℕ × List ℕ). length it.1) (counted_by n (total changed ends) refl),
    )

pub ruleset changes_counted = (no_changes_sized, changes_are_counted)

pub ruleset changes_sized = (no_changes_sized, changes_are_sized)

-- ---- the document

inside_by : (update : Bool) (ends : List ItemEnd) → flat_map (element Bson) (items_document update ends)
    ≡ element Bson (field "n" (number (total done ends))) ++ changes_elements update ends ++ listing_element Errors ends
    ++ element Bson (field "ok" (value.Int (pos 1)))
unfolding items_document changes_elements listing_element
inside_by update ends =
    let count = element Bson (field "n" (number (total done ends))) in
    let last = element Bson (field "ok" (value.Int (pos 1))) in
    let more = changes update ends in
    let errors = listed "writeErrors" (told_from error_of 0 ends) in
    ap (λ (bytes : List ℕ). count ++ bytes)
    (flat_map-append (element Bson) (more ++ errors) (field "ok" (value.Int (pos 1)) ∷ [])
    ∙ ap (λ (bytes : List ℕ). flat_map (element Bson) (more ++ errors) ++ bytes) (append-nil last)
    ∙ ap (λ (bytes : List ℕ). bytes ++ last) (flat_map-append (element Bson) more errors))
    ∙ sym (append_assoc count (changes_elements update ends ++ listing_element Errors ends) last)
    ∙ ap (λ (bytes : List ℕ). bytes ++ last) (sym (append_assoc count (changes_elements update ends) (listing_element Errors ends)))

-- what stands inside it
pub inside_is : (n : ℕ) (update : Bool) (ends : List ItemEnd) → n ≡ min (total done ends) (2 ^ 64 - 1)
    → flat_map (element Bson) (items_document update ends)
    ≡ element_of (codes "n") (counted n) ++ changes_elements update ends ++ listing_element Errors ends
    ++ element_of (codes "ok") (16, int32 1)
inside_is n update ends is =
    inside_by update ends
    ∙ (λ i.
    element_of (codes "n") (counted_by n (total done ends) is i) ++ changes_elements update ends ++ listing_element Errors ends
    ++ element_of (codes "ok") (held-Int 1 i))

inside_sized : (update : Bool) (ends : List ItemEnd) → length (flat_map (element Bson) (items_document update ends))
    ≡ length (changes_elements update ends) + length (listing_element Errors ends) + length (held Bson (number (total done ends))).1 + 11
inside_sized update ends =
    let count = element Bson (field "n" (number (total done ends))) in
    let last = element Bson (field "ok" (value.Int (pos 1))) in
    let more = changes_elements update ends in
    let errors = listing_element Errors ends in
    omega (
      arith,
      ap length (inside_by update ends),
      length-append (count ++ more ++ errors) last,
      length-append (count ++ more) errors,
      length-append count more,
      length-element_of (codes "n") (held Bson (number (total done ends))),
      length-element_of (codes "ok") (held Bson (value.Int (pos 1))),
      size-Int (pos 1),
    )

pub document_sized : (update : Bool) (ends : List ItemEnd) → length (spell (items_document update ends))
    ≡ length (changes_elements update ends) + length (listing_element Errors ends) + length (held Bson (number (total done ends))).1 + 16
document_sized update ends =
    omega (arith, length-enclosed Bson (flat_map (element Bson) (items_document update ends)), inside_sized update ends)

-- what its fields take
pub fields_sized : (update : Bool) (ends : List ItemEnd) → length (flat_map (element Bson) (items_document update ends))
    ≡ length (element_of (codes "n") (counted (min (total done ends) (2 ^ 64 - 1)))) + length (changes_elements update ends)
    + length (listing_element Errors ends) + 8
fields_sized update ends =
    let n = min (total done ends) (2 ^ 64 - 1) in
    omega (
      arith,
      inside_sized update ends,
      length-element_of (codes "n") (counted n),
      ap (λ (it : ℕ × List ℕ). length it.1) (counted_by n (total done ends) refl),
    )

pub document_short : (update : Bool) (ends : List ItemEnd) → length ends ≤ MOST_ITEMS → (update ≡ true → AreShort ends)
    → length (spell (items_document update ends)) ≤ most_items_size update (length ends)
document_short false ends few short = omega
    (arith, document_sized false ends, errors_element_short ends few, no_changes_sized ends, number_sized (total done ends))
document_short true ends few short = omega (
  arith,
  document_sized true ends,
  both_elements_short ends few (short refl),
  changes_are_sized ends,
  number_sized (total done ends),
  number_sized (total changed ends),
)

most_sent : (update : Bool) (items : ℕ) → items ≤ MOST_ITEMS → most_items_size update items ≤ MOST_REPLY
most_sent false items few = omega (arith, few)
most_sent true items few = omega (arith, few)

pub document_sent : (update : Bool) (ends : List ItemEnd) → length ends ≤ MOST_ITEMS → (update ≡ true → AreShort ends)
    → length (spell (items_document update ends)) ≤ MOST_REPLY
document_sent update ends few short = omega (arith, document_short update ends few short, most_sent update (length ends) few)
