-- How long the documents of replies are.
use Rattle.std.proofs.Common.{◌≡◌, ℕ, pos, ◌+◌, ◌*◌, ◌<◌, ◌≤◌, Bool, true, false, cond, eqb, List, [], ◌∷◌, ◌++◌, length, map, sym, ◌∙◌}
use Rattle.std.proofs.Common.{arith, length-append}
use Rattle.std.specs.Prelude.{codes, Option, None, Some}
use Rattle.std.specs.Fmt.{decimal}
use Rattle.std.proofs.lemmas.Fmt.{length-decimal-le}
use Rattle.bson_values.specs.declared.pairs.Pair.{Pair}
use Rattle.bson_values.specs.declared.space.Space.{Space}
use Rattle.bson_values.specs.declared.value.Value.{Value}
use Rattle.bson_values.specs.declared.value.Value.TheVariants as value
use Rattle.bson_values.specs.Measures.{items_size, value_size}
use Rattle.bson_values.proofs.Totals.{size_items, size_fields}
use Rattle.bson_spelling.specs.declared.form.Form.TheVariants.{Bson}
use Rattle.bson_wire.specs.Spelling.{spell, held}
use Rattle.bson_wire.proofs.Measured.{value_measured}
use Rattle.bson_wire.proofs.Sizes.{spell-push}
use Rattle.bson_wire.proofs.Lengths.{size-Int, size-Long, size-Str, size-Doc}
use Rattle.case_tables.specs.Refusals.{code_of, code_name_of, text_of}
use Rattle.case_tables.specs.Types.{type_name_of}
use Rattle.case_tables.proofs.Bounds.{text_short, name_short, type_name_short}
use Rattle.op_msg.specs.Limits.{MOST_REPLY}
use Rattle.reply_words.specs.declared.replies.Reply.{Reply}
use Rattle.reply_words.specs.declared.replies.Reply.TheVariants.{Done, Error, Counted, Values, Batch}
use Rattle.reply_words.specs.Replies.{field, number, named, sentence, namespace, cursor, document_of, total_size}
use Rattle.reply_words.specs.Small.{IsSmall}
use Rattle.reply_words.proofs.Ended.{number_sized}

size-Arr : (items : List Value) → length (held Bson (value.Arr items)).1 ≡ items_size 0 (map value_size items) + 5
size-Arr items = sym (value_measured (value.Arr items)) ∙ size_items items

named_short : (name : List ℕ) → length name ≤ 50 → length (named name) ≤ 60
named_short [] short = omega arith
named_short (byte ∷ name) short = omega (arith, short, length-append (codes " ") (byte ∷ name))

one_of : (test : Bool) (one other : List ℕ) → length one ≤ 200 → length other ≤ 200 → length (cond test one other) ≤ 200
one_of true one other first second = first
one_of false one other first second = second

sentence_short : (kind : ℕ) (code : Option ℕ) → length (sentence kind code) ≤ 200
sentence_short kind None = omega (arith, text_short kind)
sentence_short kind (Some code) =
    one_of (eqb kind 2) (text_of kind ++ named (type_name_of code)) (text_of kind)
    (omega (
      arith,
      text_short kind,
      named_short (type_name_of code) (type_name_short code),
      length-append (text_of kind)
          (named (type_name_of code)),
    ))
    (omega (arith, text_short kind))

-- each document has at least five bytes
five_each : (docs : List (List (Pair Value))) → 5 * length docs ≤ total_size docs
five_each [] = omega arith
five_each (doc ∷ docs) = omega (arith, size_fields doc, five_each docs)

seven_digits : (place : ℕ) → place < 10000000 → length (decimal place) ≤ 7
seven_digits place few = length-decimal-le 7 place (omega arith) (omega (arith, few)) (omega (arith, few))

-- documents as items, with their names
items_short : (place : ℕ) (docs : List (List (Pair Value))) → place + length docs < 10000000
    → items_size place (map value_size (map value.Doc docs)) ≤ total_size docs + 9 * length docs
items_short place [] few = omega arith
items_short place (doc ∷ docs) few = omega
    (arith, few, seven_digits place (omega (arith, few)), items_short (place + 1) docs (omega (arith, few)))

cursor_short : (space : Space) (docs : List (List (Pair Value))) → IsSmall (Batch space docs)
    → length (spell (cursor space docs)) ≤ 46977000
cursor_short space docs small =
    let items = map value.Doc docs in
    let one : List (Pair Value) = field "firstBatch" (value.Arr (map value.Doc docs)) ∷ [] in
    let two : List (Pair Value) = one ++ field "id" (value.Long (pos 0)) ∷ [] in
    omega (
      arith,
      small.0,
      five_each docs,
      spell-push [] (codes "firstBatch") (value.Arr items),
      spell-push one (codes "id") (value.Long (pos 0)),
      spell-push two (codes "ns") (value.Str (namespace space)),
      size-Arr items,
      items_short 0 docs (omega (arith, small.0, five_each docs)),
      size-Long (pos 0),
      size-Str (namespace space),
      small.1,
    )

pub fits : (reply : Reply) → IsSmall reply → length (spell (document_of reply)) ≤ MOST_REPLY
fits Done small = omega (arith, spell-push [] (codes "ok") (value.Int (pos 1)), size-Int (pos 1))
fits (Counted n) small =
    let one : List (Pair Value) = field "n" (number n) ∷ [] in
    omega (
      arith,
      spell-push [] (codes "n") (number n),
      spell-push one (codes "ok") (value.Int (pos 1)),
      number_sized n,
      size-Int (pos 1),
    )
fits (Values values) small =
    let one : List (Pair Value) = field "values" (value.Arr values) ∷ [] in
    omega (
      arith,
      small,
      spell-push [] (codes "values") (value.Arr values),
      spell-push one (codes "ok") (value.Int (pos 1)),
      value_measured (value.Arr values),
      size-Int (pos 1),
    )
fits (Error kind code) small =
    let one : List (Pair Value) = field "ok" (value.Int (pos 0)) ∷ [] in
    let two : List (Pair Value) = one ++ field "errmsg" (value.Str (sentence kind code)) ∷ [] in
    let three : List (Pair Value) = two ++ field "code" (value.Int (pos (code_of kind))) ∷ [] in
    omega (
      arith,
      spell-push [] (codes "ok") (value.Int (pos 0)),
      spell-push one (codes "errmsg") (value.Str (sentence kind code)),
      spell-push two (codes "code") (value.Int (pos (code_of kind))),
      spell-push three (codes "codeName") (value.Str (code_name_of kind)),
      size-Int (pos 0),
      size-Str (sentence kind code),
      size-Int (pos (code_of kind)),
      size-Str (code_name_of kind),
      sentence_short kind code,
      name_short kind,
    )
fits (Batch space docs) small =
    let one : List (Pair Value) = field "cursor" (value.Doc (cursor space docs)) ∷ [] in
    omega (
      arith,
      spell-push [] (codes "cursor") (value.Doc (cursor space docs)),
      spell-push one (codes "ok") (value.Int (pos 1)),
      size-Doc (cursor space docs),
      cursor_short space docs small,
      size-Int (pos 1),
    )
