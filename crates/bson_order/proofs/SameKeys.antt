-- Values that are the same have one key.
use Rattle.std.proofs.Common.{◌≡◌, ◌<◌, ◌+◌, ℕ, ℤ, zero, suc, Bool, true, false, List, [], ◌∷◌, ◌++◌, length, map, refl, sym, ap, ◌∙◌}
use Rattle.std.proofs.Common.{arith}
use Rattle.std.specs.declared.cmp.Ordering.TheVariants.{Equal}
use Rattle.std.specs.Ordering.{nat_cmp, int_cmp, bool_cmp, ordering_then}
use Rattle.std.specs.Cmp.Lexicographic.{slice_cmp}
use Rattle.std.specs.Fmt.{decimal}
use Rattle.std.specs.Int.{w64, cast_unsigned}
use Rattle.std.specs.List.{flat_map}
use Rattle.std.proofs.lemmas.Cmp.{ranked, int_ranked}
use Rattle.std.proofs.lemmas.List.Concat.{flat_map-cons}
use Rattle.bson_values.specs.declared.pairs.Pair.{Pair}
use Rattle.bson_values.specs.declared.value.Binary.{Binary}
use Rattle.bson_values.specs.declared.value.Regex.{Regex}
use Rattle.bson_values.specs.declared.value.Value.{Value}
use Rattle.bson_values.specs.declared.value.Value.TheViews.{out-Value}
use Rattle.bson_values.specs.declared.value.Value.TheOpen.{Value-F}
use Rattle.bson_order.specs.Order.{rank_of, bytes_cmp, binary_cmp, regex_cmp, pair_cmp, layer_cmp, compared, Same}
use Rattle.bson_spelling.specs.declared.form.Form.TheVariants.{Key}
use Rattle.bson_spelling.specs.Spelling.{int64, cstring, string, bool, binary, enclosed, element_of, items_from, held, element, key}
use Rattle.bson_order.proofs.Ties.{first_tied, second_tied}
use Rattle.bson_order.proofs.Layers.{compared_is}
use Rattle.bson_order.proofs.Depths.{most, depth, pairs_depth, layer_depth, depth_is}
use Rattle.bson_spelling.proofs.Helds.{held_layer, held_is}

-- ---- what is tied is equal

nat_tied : (one other : ℕ) → nat_cmp one other ≡ Equal → one ≡ other
nat_tied one other tied = ranked one other Equal (sym tied)

int_tied : (one other : ℤ) → int_cmp one other ≡ Equal → one ≡ other
int_tied one other tied = int_ranked one other Equal (sym tied)

bool_tied : (one other : Bool) → bool_cmp one other ≡ Equal → one ≡ other
bool_tied false false tied = refl
bool_tied false true tied = absurd cc
bool_tied true false tied = absurd cc
bool_tied true true tied = refl

bytes_tied : (one other : List ℕ) → bytes_cmp one other ≡ Equal → one ≡ other
bytes_tied [] [] tied = refl
bytes_tied [] (byte ∷ other) tied = absurd cc
bytes_tied (byte ∷ one) [] tied = absurd cc
bytes_tied (byte ∷ one) (first ∷ other) tied =
    let head = nat_tied byte first (first_tied (nat_cmp byte first) (bytes_cmp one other) tied) in
    let tail = bytes_tied one other (second_tied (nat_cmp byte first) (bytes_cmp one other) tied) in
    cc

binary_tied : (one other : Binary) → binary_cmp one other ≡ Equal → binary Key one.subtype one.bytes ≡ binary Key other.subtype other.bytes
binary_tied one other tied =
    let rest = second_tied (nat_cmp (length one.bytes) (length other.bytes))
    (bytes_cmp (one.subtype ∷ one.bytes) (other.subtype ∷ other.bytes)) tied in
    let subtypes = nat_tied one.subtype other.subtype (first_tied (nat_cmp one.subtype other.subtype)
    (bytes_cmp one.bytes other.bytes) rest) in
    let bytes = bytes_tied one.bytes other.bytes (second_tied (nat_cmp one.subtype other.subtype) (bytes_cmp one.bytes other.bytes) rest) in
    ap (λ (subtype : ℕ). binary Key subtype one.bytes) subtypes ∙ ap (λ (all : List ℕ). binary Key other.subtype all) bytes

regex_tied : (one other : Regex) → regex_cmp one other ≡ Equal
    → cstring one.pattern ++ cstring one.options ≡ cstring other.pattern ++ cstring other.options
regex_tied one other tied =
    let patterns = bytes_tied one.pattern other.pattern (first_tied (bytes_cmp one.pattern other.pattern)
    (bytes_cmp one.options other.options) tied) in
    let options = bytes_tied one.options other.options (second_tied (bytes_cmp one.pattern other.pattern)
    (bytes_cmp one.options other.options) tied) in
    ap (λ (text : List ℕ). cstring text ++ cstring one.options) patterns
    ∙ ap (λ (text : List ℕ). cstring other.pattern ++ cstring text) options

-- ---- level by level

-- values of fewer levels that are the same hold the same
abbrev AreTied : ℕ → Type 0
AreTied levels = (one : Value) → depth one < levels → (other : Value) → Same one other → held Key one ≡ held Key other

-- documents and arrays whose pairs or items are tied have the same bytes
pairs_tied : (levels : ℕ) → AreTied levels → (pairs others : List (Pair Value)) → pairs_depth pairs < levels
    → slice_cmp (pair_cmp rank_of compared) pairs others ≡ Equal → flat_map (element Key) pairs ≡ flat_map (element Key) others
pairs_tied levels are [] [] below tied = refl
pairs_tied levels are [] (other ∷ others) below tied = absurd cc
pairs_tied levels are (pair ∷ pairs) [] below tied = absurd cc
pairs_tied levels are (pair ∷ pairs) (other ∷ others) below tied =
    let head = first_tied (pair_cmp rank_of compared pair other) (slice_cmp (pair_cmp rank_of compared) pairs others) tied in
    let named = second_tied (nat_cmp (rank_of pair.value) (rank_of other.value))
    (ordering_then (bytes_cmp pair.name other.name) (compared pair.value other.value)) head in
    let names = bytes_tied pair.name other.name (first_tied (bytes_cmp pair.name other.name) (compared pair.value other.value) named) in
    let values = are pair.value (omega arith) other.value (second_tied (bytes_cmp pair.name other.name)
    (compared pair.value other.value) named) in
    let rest = pairs_tied levels are pairs others (omega arith)
    (second_tied (pair_cmp rank_of compared pair other) (slice_cmp (pair_cmp rank_of compared) pairs others) tied) in
    flat_map-cons (element Key) pair pairs
    ∙ ap (λ (name : List ℕ). element_of name (held Key pair.value) ++ flat_map (element Key) pairs) names
    ∙ ap (λ (it : ℕ × List ℕ). element_of other.name it ++ flat_map (element Key) pairs) values
    ∙ ap (λ (all : List ℕ). element Key other ++ all) rest
    ∙ sym (flat_map-cons (element Key) other others)

items_tied : (levels : ℕ) → AreTied levels → (place : ℕ) (items others : List Value) → most (map depth items) < levels
    → slice_cmp compared items others ≡ Equal → items_from place (map (held Key) items) ≡ items_from place (map (held Key) others)
items_tied levels are place [] [] below tied = refl
items_tied levels are place [] (other ∷ others) below tied = absurd cc
items_tied levels are place (item ∷ items) [] below tied = absurd cc
items_tied levels are place (item ∷ items) (other ∷ others) below tied =
    let values = are item (omega arith) other (first_tied (compared item other) (slice_cmp compared items others) tied) in
    let rest = items_tied levels are (place + 1) items others (omega arith)
    (second_tied (compared item other) (slice_cmp compared items others) tied) in
    ap (λ (it : ℕ × List ℕ). element_of (decimal place) it ++ items_from (place + 1) (map (held Key) items)) values
    ∙ ap (λ (all : List ℕ). element_of (decimal place) (held Key other) ++ all) rest

numbers_tied : (one other : ℤ) → int_cmp one other ≡ Equal → ◌≡◌ {A = ℕ × List ℕ} (18, int64 (cast_unsigned w64 one))
    (18, int64 (cast_unsigned w64 other))
numbers_tied one other tied = ap (λ (number : ℤ). (18, int64 (cast_unsigned w64 number))) (int_tied one other tied)

layers_tied : (levels : ℕ) → AreTied levels → (layer like : Value-F Value) → layer_depth layer < suc levels
    → layer_cmp rank_of compared layer like ≡ Equal → held_layer Key layer ≡ held_layer Key like
layers_tied levels are (Value-F.Int number) (Value-F.Int other) below tied = numbers_tied number other tied
layers_tied levels are (Value-F.Int number) (Value-F.Long other) below tied = numbers_tied number other tied
layers_tied levels are (Value-F.Long number) (Value-F.Int other) below tied = numbers_tied number other tied
layers_tied levels are (Value-F.Long number) (Value-F.Long other) below tied = numbers_tied number other tied
layers_tied levels are (Value-F.Str text) (Value-F.Str other) below tied =
    ap (λ (bytes : List ℕ). (2, string Key bytes)) (bytes_tied text other tied)
layers_tied levels are (Value-F.Doc pairs) (Value-F.Doc others) below tied =
    ap (λ (inside : List ℕ). (3, enclosed Key inside)) (pairs_tied levels are pairs others (omega arith) tied)
layers_tied levels are (Value-F.Arr items) (Value-F.Arr others) below tied =
    ap (λ (inside : List ℕ). (4, enclosed Key inside)) (items_tied levels are 0 items others (omega arith) tied)
layers_tied levels are (Value-F.Bin it) (Value-F.Bin other) below tied = ap (λ (bytes : List ℕ). (5, bytes)) (binary_tied it other tied)
layers_tied levels are (Value-F.Id id) (Value-F.Id other) below tied = ap (λ (bytes : List ℕ). (7, bytes)) (bytes_tied id other tied)
layers_tied levels are (Value-F.Bool truth) (Value-F.Bool other) below tied = ap (λ (it : Bool). (8, bool it)) (bool_tied truth other tied)
layers_tied levels are (Value-F.Date moment) (Value-F.Date other) below tied =
    ap (λ (number : ℤ). (9, int64 (cast_unsigned w64 number))) (int_tied moment other tied)
layers_tied levels are (Value-F.Stamp stamp) (Value-F.Stamp other) below tied =
    ap (λ (number : ℕ). (17, int64 number)) (nat_tied stamp other tied)
layers_tied levels are (Value-F.Regex regex) (Value-F.Regex other) below tied =
    ap (λ (bytes : List ℕ). (11, bytes)) (regex_tied regex other tied)
layers_tied levels are Value-F.Null Value-F.Null below tied = refl
layers_tied levels are layer like below tied = absurd cc

are_tied : (levels : ℕ) → AreTied levels
are_tied zero one below other tied = absurd (omega arith)
are_tied (suc levels) one below other tied =
    held_is Key one ∙ layers_tied levels (are_tied levels) (out-Value one) (out-Value other) (omega (arith, depth_is one))
    (sym (compared_is one other) ∙ tied) ∙ sym (held_is Key other)

pub same_key : (one other : Value) → Same one other → key one ≡ key other
same_key one other tied = ap (λ (it : ℕ × List ℕ). it.0 ∷ it.1) (are_tied (suc (depth one)) one (omega arith) other tied)
