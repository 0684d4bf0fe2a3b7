-- Plain values of one key are the same.
use Rattle.std.proofs.Common.{◌≡◌, ◌<◌, ◌^◌, ◌+◌, ◌-◌, ℕ, ℤ, zero, suc, min, Bool, true, false, List, [], ◌∷◌, ◌++◌, length, map, drop, All}
use Rattle.std.proofs.Common.{refl, sym, ap, ◌∙◌, append_assoc, arith}
use Rattle.std.specs.declared.cmp.Ordering.TheVariants.{Equal}
use Rattle.std.specs.Ordering.{nat_cmp, int_cmp, bool_cmp, ordering_then}
use Rattle.std.specs.Cmp.Lexicographic.{slice_cmp}
use Rattle.std.specs.Fmt.{decimal}
use Rattle.std.specs.Prelude.{FitsSigned}
use Rattle.std.specs.Int.{w32, w64, cast_unsigned}
use Rattle.std.specs.List.{flat_map}
use Rattle.std.proofs.lemmas.Cmp.{nat_cmp_total, int_cmp_total, nat_list_cmp_total}
use Rattle.std.proofs.lemmas.Int.{ints}
use Rattle.std.proofs.lemmas.List.{length-append, append_cancel_left, append_cancel_right}
use Rattle.std.proofs.lemmas.List.Concat.{flat_map-cons}
use Rattle.std.proofs.lemmas.List.Elements.{All-head, All-tail}
use Rattle.byteorder.specs.Numbers.{length-bytes_low_first}
use Rattle.bson_values.specs.declared.pairs.Pair.{Pair}
use Rattle.bson_values.specs.declared.value.Value.{Value}
use Rattle.bson_values.specs.declared.value.Value.TheViews.{out-Value}
use Rattle.bson_values.specs.declared.value.Value.TheOpen.{Value-F}
use Rattle.bson_values.specs.declared.value.Value.TheFolds.{every_here-Value}
use Rattle.bson_order.specs.Order.{rank_of, bytes_cmp, pair_cmp, layer_cmp, compared, Same}
use Rattle.bson_spelling.specs.declared.form.Form.TheVariants.{Key}
use Rattle.bson_spelling.specs.Spelling.{int64, counted, cstring, string, bool, binary, enclosed, element_of, items_from, held, element}
use Rattle.bson_spelling.specs.Spelling.{key}
use Rattle.bson_order.specs.Plain.{HasNoNul, IsPlainLayer, IsPlain}
use Rattle.bson_order.proofs.Ties.{both_tied, equal_tied}
use Rattle.bson_order.proofs.Layers.{compared_is}
use Rattle.bson_order.proofs.Depths.{most, depth, pairs_depth, layer_depth, depth_is}
use Rattle.bson_order.proofs.Total.{same_rank}
use Rattle.bson_spelling.proofs.Helds.{held_layer, held_is}
use Rattle.bson_order.proofs.Plains.{PlainPairs, PlainItems, HoldsPlain, holds_plain}
use Rattle.bson_order.proofs.Parts.{cut, number_cut, long_cut, held_cut, name_cut}

-- ---- lengths

length-counted : (len : ℕ) (bytes : List ℕ) → length (counted Key len ++ bytes) ≡ 8 + length bytes
length-counted len bytes = omega (arith, length-append (counted Key len) bytes, length-bytes_low_first 0 8 (min len (2 ^ 63 - 1)))

length-cstring : (text : List ℕ) → length (cstring text) ≡ length text + 1
length-cstring text = length-append text (0 ∷ [])

enclosed_is : (inside : List ℕ) → enclosed Key inside ≡ counted Key (length inside + 9) ++ cstring inside
enclosed_is inside = append_assoc (counted Key (length inside + 9)) inside (0 ∷ [])

length-element : (name : List ℕ) (it : ℕ × List ℕ) (rest : List ℕ)
    → length (element_of name it ++ rest) ≡ length name + length it.1 + length rest + 2
length-element name it rest = omega (arith, length-append (element_of name it) rest, length-append (cstring name) it.1, length-cstring name)

-- ---- values of fewer levels

-- equal bytes at the front, behind one type byte, are of values that are the same
abbrev AreTold : ℕ → Type 0
AreTold levels = (one : Value) → depth one < levels → (other : Value) → IsPlain one → IsPlain other → (x y : List ℕ)
    → length (held Key one).1 < 2 ^ 63 → length (held Key other).1 < 2 ^ 63 → (held Key one).0 ≡ (held Key other).0
    → (held Key one).1 ++ x ≡ (held Key other).1 ++ y → Same one other × (x ≡ y)

-- one element, and what is behind it
element_told : (levels : ℕ) → AreTold levels → (name label : List ℕ) (one other : Value) (x y : List ℕ) → depth one < levels
    → HasNoNul name → HasNoNul label → IsPlain one → IsPlain other → length (held Key one).1 < 2 ^ 63 → length (held Key other).1 < 2 ^ 63
    → element_of name (held Key one) ++ x ≡ element_of label (held Key other) ++ y → (name ≡ label) × Same one other × (x ≡ y)
element_told levels are name label one other x y below plain like fine alike small few whole =
    let codes : (held Key one).0 ≡ (held Key other).0 = cc in
    let behind = ap (λ (all : List ℕ). drop 1 all) whole in
    let named = name_cut name label ((held Key one).1 ++ x) ((held Key other).1 ++ y) plain like
    (sym (append_assoc (cstring name) (held Key one).1 x) ∙ behind ∙ append_assoc (cstring label) (held Key other).1 y) in
    let valued = are one below other fine alike x y small few codes named.1 in
    (named.0, valued.0, valued.1)

-- a name ends at its first 00 byte
abbrev Named : Pair Value → Type 0
Named pair = HasNoNul pair.name

-- pairs with equal bytes are the same, one by one
pairs_told : (levels : ℕ) → AreTold levels → (pairs others : List (Pair Value)) → pairs_depth pairs < levels
    → All Named pairs → All Named others → PlainPairs pairs → PlainPairs others
    → length (flat_map (element Key) pairs) < 2 ^ 63 → length (flat_map (element Key) others) < 2 ^ 63
    → flat_map (element Key) pairs ≡ flat_map (element Key) others → slice_cmp (pair_cmp rank_of compared) pairs others ≡ Equal
pairs_told levels are [] [] below names labels plain like small few whole = refl
pairs_told levels are [] (other ∷ others) below names labels plain like small few whole =
    absurd (cc (whole ∙ flat_map-cons (element Key) other others))
pairs_told levels are (pair ∷ pairs) [] below names labels plain like small few whole =
    absurd (cc (sym (flat_map-cons (element Key) pair pairs) ∙ whole))
pairs_told levels are (pair ∷ pairs) (other ∷ others) below names labels plain like small few whole =
    let split = flat_map-cons (element Key) pair pairs in
    let parted = flat_map-cons (element Key) other others in
    let long = ap length split ∙ length-element pair.name (held Key pair.value) (flat_map (element Key) pairs) in
    let far = ap length parted ∙ length-element other.name (held Key other.value) (flat_map (element Key) others) in
    let first = element_told levels are pair.name other.name pair.value other.value (flat_map (element Key) pairs)
    (flat_map (element Key) others) (omega arith)
    (All-head Named pair pairs names) (All-head Named other others labels) plain.0 like.0 (omega arith) (omega arith) (sym split ∙ whole
    ∙ parted) in
    let rest = pairs_told levels are pairs others (omega arith)
    (All-tail Named pair pairs names) (All-tail Named other others labels) plain.1 like.1 (omega arith) (omega arith) first.2 in
    let named = equal_tied nat_list_cmp_total pair.name other.name first.0 in
    both_tied _ _ (both_tied _ _ (same_rank pair.value other.value first.1) (both_tied _ _ named first.1)) rest

-- items with equal bytes too, whose names at one place are the same
items_told : (levels : ℕ) → AreTold levels → (place : ℕ) (items others : List Value) → most (map depth items) < levels
    → PlainItems items → PlainItems others
    → length (items_from place (map (held Key) items)) < 2 ^ 63 → length (items_from place (map (held Key) others)) < 2 ^ 63
    → items_from place (map (held Key) items) ≡ items_from place (map (held Key) others) → slice_cmp compared items others ≡ Equal
items_told levels are place [] [] below plain like small few whole = refl
items_told levels are place [] (other ∷ others) below plain like small few whole = absurd cc
items_told levels are place (item ∷ items) [] below plain like small few whole = absurd cc
items_told levels are place (item ∷ items) (other ∷ others) below plain like small few whole =
    let name = cstring (decimal place) in
    let x = items_from (place + 1) (map (held Key) items) in
    let y = items_from (place + 1) (map (held Key) others) in
    let long = length-element (decimal place) (held Key item) x in
    let far = length-element (decimal place) (held Key other) y in
    let codes : (held Key item).0 ≡ (held Key other).0 = cc in
    let behind = ap (λ (all : List ℕ). drop 1 all) whole in
    let values = append_cancel_left name ((held Key item).1 ++ x) ((held Key other).1 ++ y) (sym (append_assoc name (held Key item).1 x)
    ∙ behind ∙ append_assoc name (held Key other).1 y) in
    let first = are item (omega arith) other plain.0 like.0 x y (omega arith) (omega arith) codes values in
    let rest = items_told levels are (place + 1) items others (omega arith) plain.1 like.1 (omega arith) (omega arith) first.1 in
    both_tied _ _ first.0 rest

-- ---- one level: contents with equal bytes at the front are equal, and so is what stands behind them

texts_told : (one other x y : List ℕ) → length (string Key one) < 2 ^ 63 → length (string Key other) < 2 ^ 63
    → string Key one ++ x ≡ string Key other ++ y → (bytes_cmp one other ≡ Equal) × (x ≡ y)
texts_told one other x y small few whole =
    let long = length-counted (length one + 1) (cstring one) in
    let far = length-counted (length other + 1) (cstring other) in
    let ended = length-cstring one in
    let closed = length-cstring other in
    let both = held_cut (length one + 1) (length other + 1) (cstring one) (cstring other) x y (omega arith) (omega arith)
    (λ same. omega arith) whole in
    (equal_tied nat_list_cmp_total one other (append_cancel_right one other (0 ∷ []) both.0), both.1)

inside_told : (one other x y : List ℕ) → length (enclosed Key one) < 2 ^ 63 → length (enclosed Key other) < 2 ^ 63
    → enclosed Key one ++ x ≡ enclosed Key other ++ y → (one ≡ other) × (length one < 2 ^ 63) × (length other < 2 ^ 63) × (x ≡ y)
inside_told one other x y small few whole =
    let is = enclosed_is one in
    let as_is = enclosed_is other in
    let long = ap length is ∙ length-counted (length one + 9) (cstring one) in
    let far = ap length as_is ∙ length-counted (length other + 9) (cstring other) in
    let ended = length-cstring one in
    let closed = length-cstring other in
    let both = held_cut (length one + 9) (length other + 9) (cstring one) (cstring other) x y (omega arith) (omega arith)
    (λ same. omega arith)
    (ap (λ (all : List ℕ). all ++ x) (sym is) ∙ whole ∙ ap (λ (all : List ℕ). all ++ y) as_is) in
    (append_cancel_right one other (0 ∷ []) both.0, omega arith, omega arith, both.1)

binaries_told : (kind sort : ℕ) (one other x y : List ℕ) → length (binary Key kind one) < 2 ^ 63 → length (binary Key sort other) < 2 ^ 63
    → binary Key kind one ++ x ≡ binary Key sort other ++ y
    → (ordering_then (nat_cmp (length one) (length other)) (bytes_cmp (kind ∷ one) (sort ∷ other)) ≡ Equal) × (x ≡ y)
binaries_told kind sort one other x y small few whole =
    let long = length-counted (length one) (kind ∷ one) in
    let far = length-counted (length other) (sort ∷ other) in
    let both = held_cut (length one) (length other) (kind ∷ one) (sort ∷ other) x y (omega arith) (omega arith)
    (λ same. omega arith) whole in
    let lengths : length one ≡ length other = omega (arith, ap length both.0) in (
      both_tied _ _ (equal_tied nat_cmp_total (length one) (length other) lengths)
          (equal_tied nat_list_cmp_total (kind ∷ one) (sort ∷ other) both.0),
      both.1,
    )

regexes_told : (one options other flags x y : List ℕ) → HasNoNul one → HasNoNul options → HasNoNul other → HasNoNul flags
    → (cstring one ++ cstring options) ++ x ≡ (cstring other ++ cstring flags) ++ y
    → (ordering_then (bytes_cmp one other) (bytes_cmp options flags) ≡ Equal) × (x ≡ y)
regexes_told one options other flags x y plain fine like alike whole =
    let first = name_cut one other (cstring options ++ x) (cstring flags ++ y) plain like
    (sym (append_assoc (cstring one) (cstring options) x) ∙ whole ∙ append_assoc (cstring other) (cstring flags) y) in
    let second = name_cut options flags x y fine alike first.1 in
    (both_tied _ _ (equal_tied nat_list_cmp_total one other first.0) (equal_tied nat_list_cmp_total options flags second.0), second.1)

longs_told : (one other : ℤ) (x y : List ℕ) → FitsSigned w64 one → FitsSigned w64 other
    → int64 (cast_unsigned w64 one) ++ x ≡ int64 (cast_unsigned w64 other) ++ y → (int_cmp one other ≡ Equal) × (x ≡ y)
longs_told one other x y fits like whole = let both = long_cut one other x y fits like whole in
    (equal_tied int_cmp_total one other both.0, both.1)

widened : (number : ℤ) → FitsSigned w32 number → FitsSigned w64 number
widened number fits = omega (arith, ints)

bools_told : (one other : Bool) (x y : List ℕ) → bool one ++ x ≡ bool other ++ y → (bool_cmp one other ≡ Equal) × (x ≡ y)
bools_told false false x y whole = (refl, ap (λ (all : List ℕ). drop 1 all) whole)
bools_told false true x y whole = absurd (cc whole)
bools_told true false x y whole = absurd (cc whole)
bools_told true true x y whole = (refl, ap (λ (all : List ℕ). drop 1 all) whole)

-- a layer that is plain, holds what is plain and is not too long
record IsShort (layer : Value-F Value) : Type 0 where
  plain : IsPlainLayer layer
  holds : HoldsPlain layer
  short : length (held_layer Key layer).1 < 2 ^ 63

-- variant by variant
layers_told : (levels : ℕ) → AreTold levels → (layer like : Value-F Value) (x y : List ℕ) → layer_depth layer < suc levels → IsShort layer
    → IsShort like → (held_layer Key layer).0 ≡ (held_layer Key like).0 → (held_layer Key layer).1 ++ x ≡ (held_layer Key like).1 ++ y
    → (layer_cmp rank_of compared layer like ≡ Equal) × (x ≡ y)
layers_told levels are (Value-F.Int number) (Value-F.Int other) x y below is same codes whole =
    longs_told number other x y (widened number is.plain) (widened other same.plain) whole
layers_told levels are (Value-F.Int number) (Value-F.Long other) x y below is same codes whole =
    longs_told number other x y (widened number is.plain) same.plain whole
layers_told levels are (Value-F.Long number) (Value-F.Int other) x y below is same codes whole =
    longs_told number other x y is.plain (widened other same.plain) whole
layers_told levels are (Value-F.Long number) (Value-F.Long other) x y below is same codes whole =
    longs_told number other x y is.plain same.plain whole
layers_told levels are (Value-F.Str text) (Value-F.Str other) x y below is same codes whole =
    texts_told text other x y is.short same.short whole
layers_told levels are (Value-F.Doc pairs) (Value-F.Doc others) x y below is same codes whole =
    let inside = inside_told (flat_map (element Key) pairs) (flat_map (element Key) others) x y is.short same.short whole in
    (pairs_told levels are pairs others (omega arith) is.plain same.plain is.holds same.holds inside.1 inside.2 inside.0, inside.3)
layers_told levels are (Value-F.Arr items) (Value-F.Arr others) x y below is same codes whole =
    let inside = inside_told (items_from 0 (map (held Key) items)) (items_from 0 (map (held Key) others)) x y is.short same.short whole in
    (items_told levels are 0 items others (omega arith) is.holds same.holds inside.1 inside.2 inside.0, inside.3)
layers_told levels are (Value-F.Bin it) (Value-F.Bin other) x y below is same codes whole =
    binaries_told it.subtype other.subtype it.bytes other.bytes x y is.short same.short whole
layers_told levels are (Value-F.Id id) (Value-F.Id other) x y below is same codes whole =
    let both = cut id other x y (is.plain ∙ sym same.plain) whole in
    (equal_tied nat_list_cmp_total id other both.0, both.1)
layers_told levels are (Value-F.Bool truth) (Value-F.Bool other) x y below is same codes whole = bools_told truth other x y whole
layers_told levels are (Value-F.Date moment) (Value-F.Date other) x y below is same codes whole =
    longs_told moment other x y is.plain same.plain whole
layers_told levels are (Value-F.Stamp stamp) (Value-F.Stamp other) x y below is same codes whole =
    let both = number_cut stamp other x y is.plain same.plain whole in
    (equal_tied nat_cmp_total stamp other both.0, both.1)
layers_told levels are (Value-F.Regex regex) (Value-F.Regex other) x y below is same codes whole =
    regexes_told regex.pattern regex.options other.pattern other.options x y is.plain.0 is.plain.1 same.plain.0 same.plain.1 whole
layers_told levels are Value-F.Null Value-F.Null x y below is same codes whole = (refl, whole)
layers_told levels are layer like x y below is same codes whole = absurd (omega (arith, codes))

-- ---- all levels

is_short : (it : Value) → IsPlain it → length (held Key it).1 < 2 ^ 63 → IsShort (out-Value it)
is_short it plain small = record {
  plain = every_here-Value IsPlainLayer it plain;
  holds = holds_plain it plain;
  short = omega (arith, ap (λ (h : ℕ × List ℕ). length h.1) (held_is Key it));
}

are_told : (levels : ℕ) → AreTold levels
are_told zero one below other plain like x y small few codes whole = absurd (omega arith)
are_told (suc levels) one below other plain like x y small few codes whole =
    let is = held_is Key one in
    let as_is = held_is Key other in
    let layers = layers_told levels (are_told levels) (out-Value one) (out-Value other) x y (omega (arith, depth_is one))
    (is_short one plain small) (is_short other like few)
    (ap (λ (h : ℕ × List ℕ). h.0) (sym is) ∙ codes ∙ ap (λ (h : ℕ × List ℕ). h.0) as_is)
    (ap (λ (h : ℕ × List ℕ). h.1 ++ x) (sym is) ∙ whole ∙ ap (λ (h : ℕ × List ℕ). h.1 ++ y) as_is) in
    (compared_is one other ∙ layers.0, layers.1)

-- keys that are equal, and not longer than an int64 can say
pub told : (one other : Value) → IsPlain one → IsPlain other → length (key one) < 2 ^ 63 → key one ≡ key other → Same one other
told one other plain like small whole =
    let codes : (held Key one).0 ≡ (held Key other).0 = cc in
    let content : (held Key one).1 ≡ (held Key other).1 = cc in
    let few = ap length content in
    (are_told (suc (depth one)) one (omega arith) other plain like [] [] (omega arith) (omega arith) codes
    (ap (λ (all : List ℕ). all ++ []) content)).0
