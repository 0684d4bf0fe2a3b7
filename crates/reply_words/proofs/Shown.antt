-- The document that tells how findAndModify ended, in parts, and how long it is.
use Rattle.std.proofs.Common.{◌≡◌, ℕ, ◌+◌, ◌≤◌, Bool, true, false, Option, None, Some, List, [], ◌++◌, length, refl, sym, ap, ◌∙◌}
use Rattle.std.proofs.Common.{append_assoc, arith}
use Rattle.std.specs.Prelude.{codes}
use Rattle.std.specs.List.{flat_map}
use Rattle.std.proofs.lemmas.List.{length-append, append-nil}
use Rattle.bson_values.specs.declared.pairs.Pair.{Pair}
use Rattle.bson_values.specs.declared.value.Value.{Value}
use Rattle.bson_values.specs.declared.value.Value.TheVariants as value
use Rattle.bson_values.specs.declared.value.Value.TheOpen.{Value-F}
use Rattle.bson_values.specs.Measures.{size}
use Rattle.bson_spelling.specs.declared.form.Form.TheVariants.{Bson}
use Rattle.bson_spelling.specs.Spelling.{int32, bool, held, element, element_of, spell}
use Rattle.bson_spelling.proofs.Helds.{held_by}
use Rattle.bson_spelling.proofs.Sizes.{length-enclosed, length-element_of}
use Rattle.bson_wire.proofs.Measured.{measured}
use Rattle.op_msg.specs.Limits.{MOST_REPLY}
use Rattle.reply_words.specs.Replies.{count_of, upserted_field, update_told, shown, last_error, modified_document}
use Rattle.reply_words.specs.declared.modified.TheConstants.{MOST_MODIFIED_SIZE}
use Rattle.reply_words.specs.Small.{IsShortId, IsShortDocument}
use Rattle.reply_words.specs.Written.{upserted_element, update_elements}
use Rattle.reply_words.proofs.Named.{held-Int, held-Doc}

held-Bool : (truth : Bool) → held Bson (value.Bool truth) ≡ (8, bool truth)
held-Bool truth = held_by Bson (value.Bool truth) (Value-F.Bool truth) (value.outs-Bool truth)

held-Null : held Bson value.Null ≡ (10, [])
held-Null = held_by Bson value.Null Value-F.Null value.outs-Null

-- ---- the `_id` of a document that was inserted

pub none_told : upserted_element None ≡ []
unfolding upserted_element
none_told = refl

pub some_told : (id : Value) → upserted_element (Some id) ≡ element_of (codes "upserted") (held Bson id)
unfolding upserted_element
some_told id = append-nil (element_of (codes "upserted") (held Bson id))

pub ruleset upserted_told = (none_told, some_told)

pub none_sized : length (upserted_element None) ≡ 0
none_sized = ap length none_told

pub some_sized : (id : Value) → length (upserted_element (Some id)) ≡ length (held Bson id).1 + 10
some_sized id = omega (arith, ap length (some_told id), length-element_of (codes "upserted") (held Bson id))

pub ruleset upserted_sized = (none_sized, some_sized)

upserted_short : (upserted : Option Value) → IsShortId upserted → length (upserted_element upserted) ≤ 16393
upserted_short None short = omega (arith, none_sized)
upserted_short (Some id) short = omega (arith, some_sized id, short)

-- ---- what a removal does not tell

pub removed_told : (existed : Bool) (upserted : Option Value) → update_elements true existed upserted ≡ []
unfolding update_elements
removed_told existed upserted = refl

pub updated_told : (existed : Bool) (upserted : Option Value) → update_elements false existed upserted
    ≡ element_of (codes "updatedExisting") (8, bool existed) ++ upserted_element upserted
unfolding update_elements upserted_element
updated_told existed upserted =
    let rest = flat_map (element Bson) (upserted_field upserted) in
    ap (λ (it : ℕ × List ℕ). element_of (codes "updatedExisting") it ++ rest) (held-Bool existed)

pub removed_sized : (existed : Bool) (upserted : Option Value) → length (update_elements true existed upserted) ≡ 0
removed_sized existed upserted = ap length (removed_told existed upserted)

pub updated_sized : (existed : Bool) (upserted : Option Value)
    → length (update_elements false existed upserted) ≡ length (upserted_element upserted) + 18
updated_sized existed upserted =
    let existing = element_of (codes "updatedExisting") (8, bool existed) in
    omega (arith, ap length (updated_told existed upserted), length-append existing (upserted_element upserted))

pub ruleset update_sized = (removed_sized, updated_sized)

update_short : (removed existed : Bool) (upserted : Option Value) → IsShortId upserted
    → length (update_elements removed existed upserted) ≤ 16411
update_short true existed upserted short = omega (arith, removed_sized existed upserted)
update_short false existed upserted short = omega (arith, updated_sized existed upserted, upserted_short upserted short)

-- ---- lastErrorObject

pub error_fields_are : (removed existed : Bool) (upserted : Option Value) (n : ℕ) → n ≡ count_of existed upserted
    → flat_map (element Bson) (last_error removed existed upserted)
    ≡ element_of (codes "n") (16, int32 n) ++ update_elements removed existed upserted
unfolding last_error update_elements
error_fields_are removed existed upserted n is = ap
    (λ (it : ℕ × List ℕ). element_of (codes "n") it ++ flat_map (element Bson) (update_told removed existed upserted))
    (held-Int (count_of existed upserted) ∙ ap (λ (count : ℕ). (16, int32 count)) (sym is))

pub error_fields_sized : (removed existed : Bool) (upserted : Option Value)
    → length (flat_map (element Bson) (last_error removed existed upserted)) ≡ length (update_elements removed existed upserted) + 7
error_fields_sized removed existed upserted =
    let n = count_of existed upserted in
    omega (
      arith,
      ap length (error_fields_are removed existed upserted n refl),
      length-append (element_of (codes "n") (16, int32 n)) (update_elements removed existed upserted),
    )

-- ---- the document that is shown

pub null_held : held Bson (shown None) ≡ (10, [])
null_held = held-Null

pub doc_held : (doc : List (Pair Value)) → held Bson (shown (Some doc)) ≡ (3, spell doc)
doc_held doc = held-Doc doc

pub ruleset shown_held = (null_held, doc_held)

pub null_sized : length (held Bson (shown None)).1 ≡ 0
null_sized = ap (λ (it : ℕ × List ℕ). length it.1) null_held

pub doc_sized : (doc : List (Pair Value)) → length (held Bson (shown (Some doc))).1 ≡ length (spell doc)
doc_sized doc = ap (λ (it : ℕ × List ℕ). length it.1) (doc_held doc)

pub ruleset shown_sized = (null_sized, doc_sized)

pub doc_measured : (doc : List (Pair Value)) → length (held Bson (shown (Some doc))).1 ≡ size doc
doc_measured doc = doc_sized doc ∙ sym (measured doc)

pub ruleset shown_measured = (null_sized, doc_measured)

shown_short : (it : Option (List (Pair Value))) → IsShortDocument it → length (held Bson (shown it)).1 ≤ 16777216
shown_short None short = omega (arith, null_sized)
shown_short (Some doc) short = omega (arith, doc_measured doc, short)

-- ---- the document

pub fields_are : (removed existed : Bool) (upserted : Option Value) (it : Option (List (Pair Value)))
    → flat_map (element Bson) (modified_document removed existed upserted it)
    ≡ element_of (codes "lastErrorObject") (3, spell (last_error removed existed upserted))
    ++ element_of (codes "value") (held Bson (shown it)) ++ element_of (codes "ok") (16, int32 1)
unfolding modified_document
fields_are removed existed upserted it =
    let error = last_error removed existed upserted in
    let one = element_of (codes "lastErrorObject") (3, spell error) in
    let two = element_of (codes "value") (held Bson (shown it)) in
    let last = element_of (codes "ok") (16, int32 1) in
    (λ i. element_of (codes "lastErrorObject") (held-Doc error i) ++ (two ++ (element_of (codes "ok") (held-Int 1 i) ++ [])))
    ∙ ap (λ (bytes : List ℕ). one ++ (two ++ bytes)) (append-nil last)
    ∙ sym (append_assoc one two last)

pub fields_sized : (removed existed : Bool) (upserted : Option Value) (it : Option (List (Pair Value)))
    → length (flat_map (element Bson) (modified_document removed existed upserted it))
    ≡ length (element_of (codes "lastErrorObject") (3, spell (last_error removed existed upserted)))
    + length (element_of (codes "value") (held Bson (shown it))) + 8
fields_sized removed existed upserted it =
    let one = element_of (codes "lastErrorObject") (3, spell (last_error removed existed upserted)) in
    let two = element_of (codes "value") (held Bson (shown it)) in
    omega (
      arith,
      ap length (fields_are removed existed upserted it),
      length-append (one ++ two) (element_of (codes "ok") (16, int32 1)),
      length-append one two,
    )

pub document_sized : (removed existed : Bool) (upserted : Option Value) (it : Option (List (Pair Value)))
    → length (spell (modified_document removed existed upserted it))
    ≡ length (update_elements removed existed upserted) + length (held Bson (shown it)).1 + 49
document_sized removed existed upserted it =
    let error = last_error removed existed upserted in
    omega (
      arith,
      length-enclosed Bson (flat_map (element Bson) (modified_document removed existed upserted it)),
      fields_sized removed existed upserted it,
      length-element_of (codes "lastErrorObject") (3, spell error),
      length-enclosed Bson (flat_map (element Bson) error),
      error_fields_sized removed existed upserted,
      length-element_of (codes "value") (held Bson (shown it)),
    )

pub document_short : (removed existed : Bool) (upserted : Option Value) (it : Option (List (Pair Value))) → IsShortId upserted
    → IsShortDocument it → length (spell (modified_document removed existed upserted it)) ≤ MOST_MODIFIED_SIZE
document_short removed existed upserted it short whole = omega (
  arith,
  document_sized removed existed upserted it,
  update_short removed existed upserted short,
  shown_short it whole,
)

pub document_sent : (removed existed : Bool) (upserted : Option Value) (it : Option (List (Pair Value))) → IsShortId upserted
    → IsShortDocument it → length (spell (modified_document removed existed upserted it)) ≤ MOST_REPLY
document_sent removed existed upserted it short whole = omega (arith, document_short removed existed upserted it short whole)
