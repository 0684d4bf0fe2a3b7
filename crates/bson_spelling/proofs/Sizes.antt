-- How long a spelling is.
use Rattle.std.proofs.Common.{◌≡◌, ℕ, ◌+◌, ◌-◌, ◌^◌, ◌<◌, ◌≤◌, min, List, [], ◌∷◌, ◌++◌, length, map, take, drop, get_or}
use Rattle.std.proofs.Common.{ap, sym, ◌∙◌, arith}
use Rattle.std.specs.Fmt.{decimal}
use Rattle.std.specs.List.{flat_map}
use Rattle.byteorder.specs.Numbers.{length-bytes_low_first}
use Rattle.std.proofs.lemmas.List.{length-append, drop_more}
use Rattle.std.proofs.lemmas.List.Folds.{length-flat_map-take}
use Rattle.bson_values.specs.declared.pairs.Pair.{Pair}
use Rattle.bson_values.specs.declared.value.Value.{Value}
use Rattle.bson_spelling.specs.declared.form.Form.{Form}
use Rattle.bson_spelling.specs.declared.form.Form.TheVariants.{Bson, Key}
use Rattle.bson_spelling.specs.Spelling.{width, counted, cstring, string, binary, enclosed, held, element_of, element, items_from}

pub length-counted : (form : Form) (len : ℕ) → length (counted form len) ≡ width form
length-counted Bson len = length-bytes_low_first 0 4 len
length-counted Key len = length-bytes_low_first 0 8 (min len (2 ^ 63 - 1))

pub length-string : (form : Form) (text : List ℕ) → length (string form text) ≡ length text + (width form + 1)
length-string form text =
    let stated = counted form (length text + 1) in
    omega (arith, length-append stated (cstring text), length-append text (0 ∷ []), length-counted form (length text + 1))

pub length-binary : (form : Form) (subtype : ℕ) (bytes : List ℕ) → length (binary form subtype bytes) ≡ length bytes + (width form + 1)
length-binary form subtype bytes =
    omega (arith, length-append (counted form (length bytes)) (subtype ∷ bytes), length-counted form (length bytes))

pub length-enclosed : (form : Form) (inside : List ℕ) → length (enclosed form inside) ≡ length inside + (width form + 1)
length-enclosed form inside =
    let len = length inside + (width form + 1) in
    let stated = counted form len in
    omega (arith, length-append (stated ++ inside) (0 ∷ []), length-append stated inside, length-counted form len)

pub length-element_of : (name : List ℕ) (it : ℕ × List ℕ) → length (element_of name it) ≡ length name + length it.1 + 2
length-element_of name it = omega (arith, length-append (cstring name) it.1, length-append name (0 ∷ []))

pub length-regex : (pattern options : List ℕ) → length (cstring pattern ++ cstring options) ≡ length pattern + length options + 2
length-regex pattern options =
    omega (arith, length-append (cstring pattern) (cstring options), length-append pattern (0 ∷ []), length-append options (0 ∷ []))

-- how long the parts of a spelling are
pub ruleset lengths = (length-counted, length-string, length-binary, length-enclosed, length-element_of, length-regex)

-- ---- loops

-- an element finds room where what is left to write does
pub element-fits : (form : Form) (pairs : List (Pair Value)) (place spare room : ℕ) (pair : Pair Value)
    → pair ≡ get_or pairs place pair → place < length pairs → length (flat_map (element form) pairs) ≤ room
    → spare + length (flat_map (element form) (take place pairs)) ≡ room → length (element form pair) ≤ spare
element-fits form pairs place spare room pair is within all written =
    omega (
      arith,
      all,
      written,
      length-flat_map-take (element form) pairs place pair within,
      ap (λ (p : Pair Value). length (element form p)) is,
    )

-- the items from a place on are the one that stands there and the rest
pub items-more : (form : Form) (items : List Value) (first place : ℕ) (item : Value) → item ≡ get_or items place item → place < length items
    → items_from first (map (held form) (drop place items))
    ≡ element_of (decimal first) (held form item) ++ items_from (first + 1) (map (held form) (drop (place + 1) items))
items-more form items first place item is within =
    ap (λ (list : List Value). items_from first (map (held form) list)) (drop_more items place item within)
    ∙ ap (λ (it : Value). element_of (decimal first) (held form it) ++ items_from (first + 1) (map (held form) (drop (place + 1) items)))
    (sym is)

-- so does an item
pub item-fits : (form : Form) (items : List Value) (first place spare room : ℕ) (item : Value) → item ≡ get_or items place item
    → place < length items → length (items_from 0 (map (held form) items)) ≤ room
    → spare + length (items_from 0 (map (held form) items)) ≡ room + length (items_from first (map (held form) (drop place items)))
    → length (element_of (decimal first) (held form item)) ≤ spare
item-fits form items first place spare room item is within all written =
    let rest = items_from (first + 1) (map (held form) (drop (place + 1) items)) in
    omega (
      arith,
      all,
      written,
      ap length (items-more form items first place item is within),
      length-append (element_of (decimal first) (held form item)) rest,
    )
