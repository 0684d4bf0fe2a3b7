-- A JSON is read again from its text.
use Rattle.std.proofs.Common.{◌≡◌, ◌∙◌, ◌≤◌, ◌<◌, ◌^◌, ◌==◌, ℕ, suc, ℤ, pos, negsuc, Bool, true, false, cond, Some, List, [], ◌∷◌, ◌++◌, length, drop, map, decimal, option_map, option_and_then, refl, sym, ap, ap₂, subst, arith, append_assoc, append-nil}
use Rattle.std.specs.Prelude.{if◌then◌else◌, int_lt, max}
use Rattle.std.specs.List.{list_all}
use Rattle.std.specs.Char.{digit_value}
use Rattle.std.specs.Str.Parse.{AllDigits}
use Rattle.std.proofs.lemmas.Bool.{and_parts, ltb-true, ne_eqb}
use Rattle.std.proofs.lemmas.Fmt.{decimal_is_IsNumeral, decimal_nonempty}
use Rattle.std.proofs.lemmas.List.Folds.{list_all-map}
use Rattle.std.specs.declared.cmp.Ordering.TheVariants.{Greater}
use Rattle.std.specs.Ordering.{nat_cmp}
use Rattle.std.specs.Cmp.Lexicographic.{slice_cmp}
use Rattle.json.specs.Json as plain
use Rattle.json.specs.Lex.{tokens}
use Rattle.json.specs.Tree as tree
use Rattle.json.proofs.Printed.Tokens.{tokens-print}
use Rattle.json.proofs.Printed.Trees.{value-json_tokens, ArePrintable-json_tokens}
use Rattle.json.specs.Print.{IsNumber}
use Rattle.json.specs.Word.{head, after_whole, after_fraction, after_exponent, after_number}
use Rattle.json.proofs.Printed.Decimals.{IsNumber-decimal}
use Rattle.serde_json.specs.Data.{unsigned, negative, Data, null, boolean, number, string, array, object, Items, no_items, item, Members, no_members, member, put, depth, items_depth, members_depth}
use Rattle.serde_json.specs.Read.{read, of_json, of_items, of_members, max_depth}
use Rattle.serde_json.specs.Written.{outline, items_outline, members_outline, compact_text}
use Rattle.serde_json.proofs.Texts.{print-outline}
use Rattle.serde_json.proofs.Numbers.{number_of-decimal, number_of-negative}
use Rattle.bson_values.specs.Names.{names}
use Rattle.bson_values.specs.Named.{along as moved, names_along}
use Rattle.bson_values.specs.declared.pairs.Pair.{Pair}
use Rattle.jsonb_contain.specs.Rising.{is_rising}
use Rattle.jsonb_contain.specs.Texts.{number_data, data_in, data_of, json_of, list_of, fields_of, read_json, rises_in, rises, fits_in, number_fits, fits}
use Rattle.jsonb_contain.specs.declared.value.Json.{Json, map-Json, roll-Json}
use Rattle.jsonb_contain.specs.declared.value.Json.TheOpen.{Json-F}
use Rattle.jsonb_contain.specs.declared.value.Json.TheFolds.{fold-roll-Json, ind-Json}
use Rattle.jsonb_contain.specs.declared.value.Json.TheVariants as json
use Rattle.jsonb_contain.proofs.Events.{items_data, members_data}
use Rattle.jsonb_contain.proofs.Places.{above_from, leads_below, rising_tail}

-- ---- what is written for some data is read as that data

mutual
  same_depth : (d : Data) → tree.depth (outline d) ≡ depth d
  same_depth null = refl
  same_depth (boolean b) = refl
  same_depth (number n) = refl
  same_depth (string s) = refl
  same_depth (array ds) = omega (arith, same_items_depth ds)
  same_depth (object ms) = omega (arith, same_members_depth ms)

  same_items_depth : (ds : Items) → tree.items_depth (items_outline ds) ≡ items_depth ds
  same_items_depth no_items = refl
  same_items_depth (item d ds) = ap₂ max (same_depth d) (same_items_depth ds)

  same_members_depth : (ms : Members) → tree.members_depth (members_outline ms) ≡ members_depth ms
  same_members_depth no_members = refl
  same_members_depth (member k d ms) = ap₂ max (same_depth d) (same_members_depth ms)

text_read : (d : Data) → tree.HasNumbers (outline d) → of_json (outline d) ≡ Some d → depth d ≤ max_depth → read (compact_text d) ≡ Some d
text_read d numbers same shallow =
    let printed = tokens-print (tree.json_tokens (outline d)) (ArePrintable-json_tokens (outline d) numbers) in
    let laid = ap tokens (sym (print-outline d)) ∙ printed ∙ sym (append-nil (tree.json_tokens (outline d))) in
    ap (λ o. option_and_then of_json (option_and_then (λ p. plain.if_last p.0 p.1) o))
    (ap (plain.value max_depth) laid ∙ value-json_tokens (outline d) max_depth [] (omega (arith, same_depth d, shallow)))
    ∙ same

-- ---- members whose names rise go in one behind another

put_behind : (done : List (Pair Json)) (last : Pair Json) (more : List (Pair Json)) → is_rising (names (done ++ last ∷ more)) ≡ true
    → put last.name (data_of last.value) (members_data done) ≡ members_data (done ++ last ∷ [])
put_behind [] last more rising = refl
put_behind (first ∷ done) last more rising =
    let above : slice_cmp nat_cmp last.name first.name ≡ Greater = above_from first.name last.name
    (leads_below first.name done last more rising) in
    rw above (ap (member first.name (data_of first.value)) (put_behind done last more (rising_tail first (done ++ last ∷ more) rising)))

-- ---- numbers

not_below : (n : ℕ) → int_lt (pos n) (pos 0) ≡ false
not_below n = grind arith

no_minus : (ds : List ℕ) → AllDigits 10 ds → 0 < length ds → (head ds == 45) ≡ false
no_minus [] digits some = absurd (omega arith)
no_minus (d ∷ ds) digits some = ne_eqb d 45 (λ is. let digit : digit_value d < 10 = digits.0 in grind arith)

-- a number of JSON is one with a sign before it
IsNumber-signed : (n : ℕ) → n < 2 ^ 64 → IsNumber (45 ∷ decimal n)
unfolding after_number
IsNumber-signed n fits =
    let plus = no_minus (decimal n) (decimal_is_IsNumeral n fits).0.1 (decimal_nonempty n fits) in
    sym (ap (λ (b : Bool). option_and_then after_exponent
    (option_and_then after_fraction (after_whole (cond b (drop 1 (decimal n)) (decimal n))))) plus)
    ∙ IsNumber-decimal n fits

-- ---- a JSON, level by level

-- the JSON comes back from the data, and the data from what is written for it
record AgainAs (d : Data) (it : Json) : Type 0 where
  numbers : tree.HasNumbers (outline d)
  reads : of_json (outline d) ≡ Some d
  same : json_of d ≡ Some it

abbrev IsAgain : Json → Type 0
IsAgain it = rises it ≡ true → fits it ≡ true → AgainAs (data_of it) it

abbrev Known : Type 0
Known = (it : Json) × IsAgain it

abbrev bare : Known → Json
bare known = known.0

whole_again : (n : ℤ) → number_fits n ≡ true → AgainAs (number_data n) (json.Whole n)
whole_again (pos n) fits =
    let below = ltb-true n (2 ^ 64) fits in
    subst (λ (b : Bool). AgainAs (number (if b then negative (pos n) else unsigned n)) (json.Whole (pos n))) (sym (not_below n)) (record {
      numbers = IsNumber-decimal n below;
      reads = ap (option_map number) (number_of-decimal n below);
      same = refl;
    })
whole_again (negsuc n) fits =
    let below = ltb-true n (2 ^ 63) fits in record {
      numbers = IsNumber-signed (suc n) (omega arith);
      reads = ap (option_map number) (number_of-negative n below);
      same = refl;
    }

record ItemsAgain (items : List Json) : Type 0 where
  numbers : tree.ItemsHaveNumbers (items_outline (items_data items))
  reads : of_items (items_outline (items_data items)) ≡ Some (items_data items)
  same : list_of (items_data items) ≡ Some items

items_again : (items : List Known) → list_all rises (map bare items) ≡ true → list_all fits (map bare items) ≡ true
    → ItemsAgain (map bare items)
items_again [] rising fitting = record { numbers = tt; reads = refl; same = refl }
items_again (one ∷ items) rising fitting =
    let its = map bare items in
    let risen = and_parts (rises one.0) (list_all rises its) rising in
    let fit = and_parts (fits one.0) (list_all fits its) fitting in
    let first = one.1 risen.0 fit.0 in
    let rest = items_again items risen.1 fit.1 in record {
      numbers = (first.numbers, rest.numbers);
      reads = ap (option_and_then (λ (d : Data). option_map (item d) (of_items (items_outline (items_data its))))) first.reads
          ∙ ap (option_map (item (data_of one.0))) rest.reads;
      same = ap (option_and_then (λ (it : Json). option_map (λ (more : List Json). it ∷ more) (list_of (items_data its)))) first.same
          ∙ ap (option_map (λ (more : List Json). one.0 ∷ more)) rest.same;
    }

record FieldsAgain (pairs : List (Pair Json)) : Type 0 where
  numbers : tree.MembersHaveNumbers (members_outline (members_data pairs))
  reads : (done : List (Pair Json)) → is_rising (names (done ++ pairs)) ≡ true
      → of_members (members_outline (members_data pairs)) (members_data done) ≡ Some (members_data (done ++ pairs))
  same : fields_of (members_data pairs) ≡ Some pairs

fields_again : (pairs : List (Pair Known)) → list_all (λ (pair : Pair Json). rises pair.value) (map (moved bare) pairs) ≡ true
    → list_all (λ (pair : Pair Json). fits pair.value) (map (moved bare) pairs) ≡ true → FieldsAgain (map (moved bare) pairs)
fields_again [] rising fitting = record {
  numbers = tt;
  reads = λ done rising. ap (λ (all : List (Pair Json)). Some (members_data all)) (sym (append-nil done));
  same = refl;
}
fields_again (pair ∷ pairs) rising fitting =
    let more = map (moved bare) pairs in
    let bare_one = moved bare pair in
    let risen = and_parts (rises pair.value.0) (list_all (λ (pair : Pair Json). rises pair.value) more) rising in
    let fit = and_parts (fits pair.value.0) (list_all (λ (pair : Pair Json). fits pair.value) more) fitting in
    let first = pair.value.1 risen.0 fit.0 in
    let rest = fields_again pairs risen.1 fit.1 in record {
      numbers = (first.numbers, rest.numbers);
      reads = λ done rising.
          let grouped = append_assoc done (bare_one ∷ []) more in
          ap (option_and_then
          (λ (d : Data). of_members (members_outline (members_data more)) (put pair.name d (members_data done)))) first.reads
          ∙ ap (of_members (members_outline (members_data more))) (put_behind done bare_one more rising)
          ∙ rest.reads (done ++ bare_one ∷ []) (ap (λ (all : List (Pair Json)). is_rising (names all)) grouped ∙ rising)
          ∙ ap (λ (all : List (Pair Json)). Some (members_data all)) grouped;
      same = ap (option_and_then
          (λ (it : Json). option_map (λ (pairs : List (Pair Json)). (record { name = pair.name; value = it }) ∷ pairs)
          (fields_of (members_data more)))) first.same
          ∙ ap (option_map (λ (pairs : List (Pair Json)). bare_one ∷ pairs)) rest.same;
    }

abbrev LayerAgain : Json-F Json → Type 0
LayerAgain layer =
    rises_in (map-Json Json Bool rises layer) ≡ true → fits_in (map-Json Json Bool fits layer) ≡ true
    → AgainAs (data_in (map-Json Json Data data_of layer)) (roll-Json layer)

array_again : (items : List Json) → ItemsAgain items → AgainAs (array (items_data items)) (json.Array items)
array_again items all = record {
  numbers = all.numbers;
  reads = ap (option_map array) all.reads;
  same = ap (option_map json.Array) all.same;
}

object_again : (pairs : List (Pair Json)) → is_rising (names pairs) ≡ true → FieldsAgain pairs
    → AgainAs (object (members_data pairs)) (json.Object pairs)
object_again pairs rising all = record {
  numbers = all.numbers;
  reads = ap (option_map object) (all.reads [] rising);
  same = ap (option_map json.Object) all.same;
}

layer_again : (layer : Json-F Known) → LayerAgain (map-Json Known Json bare layer)
layer_again Json-F.Null rising fitting = record { numbers = tt; reads = refl; same = ap Some (sym json.rolls-Null) }
layer_again (Json-F.Bool truth) rising fitting = record { numbers = tt; reads = refl; same = ap Some (sym (json.rolls-Bool truth)) }
layer_again (Json-F.Text text) rising fitting = record { numbers = tt; reads = refl; same = ap Some (sym (json.rolls-Text text)) }
layer_again (Json-F.Whole n) rising fitting = subst (AgainAs (number_data n)) (sym (json.rolls-Whole n)) (whole_again n fitting)
layer_again (Json-F.Array items) rising fitting =
    let its = map bare items in
    let all = items_again items (sym (list_all-map (λ (it : Bool). it) rises its) ∙ rising)
    (sym (list_all-map (λ (it : Bool). it) fits its) ∙ fitting) in
    subst (AgainAs (array (items_data its))) (sym (json.rolls-Array its)) (array_again its all)
layer_again (Json-F.Object pairs) rising fitting =
    let its = map (moved bare) pairs in
    let all_pass = λ (h : Json → Bool) (passed : list_all (λ (pair : Pair Bool). pair.value) (map (moved h) its) ≡ true).
    sym (list_all-map (λ (pair : Pair Bool). pair.value) (moved h) its) ∙ passed in
    let parts = and_parts (is_rising (names (map (moved rises) its)))
    (list_all (λ (pair : Pair Bool). pair.value) (map (moved rises) its)) rising in
    let named = ap is_rising (sym (names_along Json Bool rises its)) ∙ parts.0 in
    subst (AgainAs (object (members_data its))) (sym (json.rolls-Object its))
    (object_again its named (fields_again pairs (all_pass rises parts.1) (all_pass fits fitting)))

again : (it : Json) → IsAgain it
again = ind-Json IsAgain (λ layer known is rising fitting.
    let built : LayerAgain layer = subst LayerAgain is (layer_again known) in
    subst (λ (d : Data). AgainAs d (roll-Json layer)) (sym (fold-roll-Json Data data_in layer))
    (built (sym (fold-roll-Json Bool rises_in layer) ∙ rising) (sym (fold-roll-Json Bool fits_in layer) ∙ fitting)))

-- what was printed is read again
pub read_again : (it : Json) → rises it ≡ true → fits it ≡ true → depth (data_of it) ≤ max_depth
    → read_json (compact_text (data_of it)) ≡ Some it
read_again it rising fitting shallow =
    let parts = again it rising fitting in
    ap (option_and_then json_of) (text_read (data_of it) parts.numbers parts.reads shallow) ∙ parts.same
