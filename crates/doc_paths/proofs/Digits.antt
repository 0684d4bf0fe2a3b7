-- Places of elements, as parts of a path tell them.
use Rattle.std.proofs.Common.{◌≡◌, ◌<◌, ◌≤◌, ◌^◌, ℕ, true, false, nat_lt, List, [], ◌∷◌, length, slice_get, None, ap, sym, ◌∙◌, arith}
use Rattle.std.proofs.lemmas.Grind.{common_steps}
use Rattle.std.specs.declared.result.Result.TheVariants.{Ok, Err}
use Rattle.std.specs.Str.{all_ascii_digits}
use Rattle.std.specs.Str.Parse.{digits_value, ParsesUnsigned}
use Rattle.std.proofs.lemmas.Str.Parse.{IsNumeralModel, numerals_by_value, tells_all_ascii_digits, parse_digits}
use Rattle.std.proofs.lemmas.Option.{slice_get_past}
use Rattle.bson_values.specs.declared.value.Value.{Value}
use Rattle.doc_paths.specs.Reach.{is_index, item_at}
use Rattle.doc_paths.specs.Changes.{place_in, place_there}
use Rattle.doc_paths.specs.declared.refused.PutRefused.TheVariants.{TooFar}

own : IsNumeralModel (λ ds. all_ascii_digits ds ≡ true) (digits_value 10)
own = numerals_by_value _ tells_all_ascii_digits

index_is : (part : List ℕ) → is_index part ≡ true → (all_ascii_digits part ≡ true) × (0 < length part)
index_is [] is = absurd cc
index_is (digit ∷ more) is = (grind arith, omega arith)

here : (part : List ℕ) (items : List Value) → is_index part ≡ true → item_at part items ≡ slice_get items (digits_value 10 part)
here part items is = rw is

pub place_read : (E : Type 0) (part : List ℕ) (items : List Value) (place : ℕ) → is_index part ≡ true
    → ParsesUnsigned {E = E} 64 10 part (Ok place) → slice_get items place ≡ item_at part items
place_read E part items place is read =
    let known = index_is part is in
    let same = parse_digits own {E = E} 64 part (Ok place) read known.0 in
    ap (λ (n : ℕ). slice_get items n) same.1 ∙ sym (here part items is)

pub place_past : (E : Type 0) (part : List ℕ) (items : List Value) (error : E) → is_index part ≡ true
    → ParsesUnsigned {E = E} 64 10 part (Err error) → length items < 2 ^ 64 → None ≡ item_at part items
place_past E part items error is read few =
    let known = index_is part is in
    let not = parse_digits own {E = E} 64 part (Err error) read known.0 in
    let past : length items ≤ digits_value 10 part = grind (arith, not) in
    sym (here part items is ∙ slice_get_past items (digits_value 10 part) past)

pub no_place : (part : List ℕ) (items : List Value) → is_index part ≡ false → None ≡ item_at part items
no_place part items is = rw is

pub too_far : (E : Type 0) (part : List ℕ) (items : List Value) (error : E) → is_index part ≡ true
    → ParsesUnsigned {E = E} 64 10 part (Err error) → length items < 2 ^ 64 → Err TooFar ≡ place_in part items
too_far E part items error is read few =
    let known = index_is part is in
    let not = parse_digits own {E = E} 64 part (Err error) read known.0 in
    let past : 2 ^ 64 ≤ digits_value 10 part = grind (arith, not) in
    let one : nat_lt (digits_value 10 part) (length items) ≡ false = grind (arith, common_steps, past, few) in
    let two : nat_lt (digits_value 10 part) 65536 ≡ false = grind (arith, common_steps, past) in
    rw (is, one, two)

pub not_there : (E : Type 0) (part : List ℕ) (items : List Value) (error : E) → is_index part ≡ true
    → ParsesUnsigned {E = E} 64 10 part (Err error) → length items < 2 ^ 64 → None ≡ place_there part items
not_there E part items error is read few =
    let known = index_is part is in
    let not = parse_digits own {E = E} 64 part (Err error) read known.0 in
    let past : 2 ^ 64 ≤ digits_value 10 part = grind (arith, not) in
    let one : nat_lt (digits_value 10 part) (length items) ≡ false = grind (arith, common_steps, past, few) in
    rw (is, one)
