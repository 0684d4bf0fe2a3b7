-- A put and a take at one level, by what they are below.
use Rattle.std.proofs.Common.{◌≡◌, ℕ, cond, ◌-◌, ◌<◌, ◌≤◌, zero, suc, nat_lt, Bool, true, false, List, [], ◌∷◌, ◌++◌, ◌+◌, length, Option}
use Rattle.std.proofs.Common.{None, Some, slice_get, slice_set, option_map, replicate, take, drop, unwrap_or, ◌&&◌, refl, sym, ap, subst}
use Rattle.std.proofs.Common.{◌∙◌, arith, if◌then◌else◌}
use Rattle.std.specs.declared.result.Result.{Result}
use Rattle.std.specs.declared.result.Result.TheVariants.{Ok, Err}
use Rattle.std.proofs.lemmas.Grind.{common_steps}
use Rattle.std.proofs.lemmas.Option.{slice_get_within, slice_get_past}
use Rattle.std.specs.Str.{bytes_eq}
use Rattle.std.specs.Str.Parse.{digits_value}
use Rattle.bson_values.specs.declared.pairs.Pair.{Pair}
use Rattle.bson_values.specs.declared.value.Value.{Value, out-Value}
use Rattle.bson_values.specs.declared.value.Value.TheViews.{roll-Value, roll-out-Value}
use Rattle.bson_values.specs.declared.value.Value.TheOpen.{Value-F}
use Rattle.std.specs.Prelude.{find}
use Rattle.bson_values.specs.declared.value.Value.TheVariants as value
use Rattle.bson_values.specs.Names.{first_of, first_place, names}
use Rattle.bson_values.specs.Lending.{with_value}
use Rattle.bson_values.proofs.Places.{first_there, first_not_there}
use Rattle.std_words.specs.Steps.{◌>>=◌}
use Rattle.doc_paths.specs.Reach.{item_at, is_index}
use Rattle.doc_paths.specs.Changes.{with_field, with_item, place_in, put_field, put_item, left_field, left_fields, left, left_in, left_at}
use Rattle.doc_paths.specs.Changes.{left_items, place_there, peeked, peeked_in, behind, taken}
use Rattle.doc_paths.specs.Answers.{Refuses, Puts, Takes, last_field}
use Rattle.bson_values.specs.declared.memory.NoMemory.{NoMemory as NoRoom}
use Rattle.doc_paths.specs.declared.refused.PutRefused.{PutRefused}
use Rattle.doc_paths.specs.declared.refused.PutRefused.TheVariants.{NotViable, TooFar, NoMemory}

-- a refusal below is one above
pub refused_on : {A B : Type 0} (why : PutRefused) (found : Result A PutRefused) (next : A → Result B PutRefused) → Refuses why found
    → Refuses why (found >>= next)
refused_on NotViable found next is = ap (λ r. r >>= next) is
refused_on TooFar found next is = ap (λ r. r >>= next) is
refused_on NoMemory found next is = tt

-- a put below is one above, where `place` puts back what is below
pub puts_on : {A B : Type 0} (result : Result (Unit {0}) PutRefused) (place : A → B) (below : Result A PutRefused)
    (above : Result B PutRefused) (x new : A) (old : B)
    → above ≡ (below >>= λ it. Ok (place it)) → place x ≡ old → Puts result below x new → Puts result above old (place new)
puts_on (Ok done) place below above x new old is same did = is ∙ ap (λ r. r >>= λ it. Ok (place it)) did
puts_on (Err why) place below above x new old is same did = (
  subst (Refuses why) (sym is) (refused_on why below _ did.0),
  ap place did.1
      ∙ same,
)

-- ---- fields

here : (is : Bool) (pair : Pair Value) (pairs : List (Pair Value)) (place : ℕ) (it : Value) (found : Option ℕ) (more : List (Pair Value))
    → Some place ≡ (if is then Some 0 else option_map (λ n. n + 1) found) → ((n : ℕ) → Some n ≡ found → more ≡ with_value pairs n it)
    → (if is then record { name = pair.name; value = it } ∷ pairs else pair ∷ more) ≡ with_value (pair ∷ pairs) place it
here true pair pairs place it found more at below = let e : place ≡ 0 = cc in ap (λ n. with_value (pair ∷ pairs) n it) (sym e)
here false pair pairs place it None more at below = let e : Some place ≡ None = at in absurd (cc)
here false pair pairs place it (Some n) more at below =
    let e : place ≡ suc n = (let e : place ≡ n + 1 = cc in omega (arith, e)) in
    ap (λ m. pair ∷ m) (below n refl) ∙ ap (λ m. with_value (pair ∷ pairs) m it) (sym e)

pub with_field_there : (name : List ℕ) (pairs : List (Pair Value)) (place : ℕ) (it : Value)
    → Some place ≡ first_place name (names pairs) → with_field name it pairs ≡ with_value pairs place it
with_field_there name [] place it at = absurd (cc)
with_field_there name (pair ∷ pairs) place it at =
    here (bytes_eq pair.name name) pair pairs place it (first_place name (names pairs)) (with_field name it pairs) at
    (λ n is. with_field_there name pairs n it is)

gone : (is : Bool) (pair : Pair Value) (pairs more last : List (Pair Value)) (it : Value) (found : Option ℕ)
    → None ≡ (if is then Some 0 else option_map (λ n. n + 1) found) → (None ≡ found → more ≡ pairs ++ last)
    → (if is then record { name = pair.name; value = it } ∷ pairs else pair ∷ more) ≡ pair ∷ pairs ++ last
gone true pair pairs more last it found at below = absurd (cc)
gone false pair pairs more last it None at below = ap (λ m. pair ∷ m) (below refl)
gone false pair pairs more last it (Some n) at below = absurd (cc)

pub with_field_last : (name : List ℕ) (pairs : List (Pair Value)) (it : Value) → None ≡ first_place name (names pairs)
    → with_field name it pairs ≡ pairs ++ record { name = name; value = it } ∷ []
with_field_last name [] it at = refl
with_field_last name (pair ∷ pairs) it at =
    gone (bytes_eq pair.name name) pair pairs (with_field name it pairs)
    (record { name = name; value = it } ∷ []) it (first_place name (names pairs)) at (λ is. with_field_last name pairs it is)

-- after each step the same
next_is : {A B E : Type 0} (found : Result A E) (f g : A → B) → ((a : A) → f a ≡ g a)
    → (found >>= λ a. Ok (f a)) ≡ (found >>= λ a. Ok (g a))
next_is {A} {B} {E} found f g same = ap (λ (h : A → B). found >>= λ a. Ok (h a)) (λ i a. same a i)

-- a field that is there
pub field_there : (part : List ℕ) (go : Option Value → Result Value PutRefused) (pairs : List (Pair Value)) (place : ℕ) (x : Value)
    → Some place ≡ first_place part (names pairs) → option_map (λ (pair : Pair Value). pair.value) (slice_get pairs place) ≡ Some x
    → put_field part go pairs ≡ (go (Some x) >>= λ it. Ok (with_value pairs place it))
field_there part go pairs place x at is =
    next_is (go (first_of part pairs)) _ _ (λ it. with_field_there part pairs place it at)
    ∙ ap (λ o. go o >>= λ it. Ok (with_value pairs place it)) (first_there part pairs place at ∙ is)

pub field_last : (part : List ℕ) (go : Option Value → Result Value PutRefused) (pairs : List (Pair Value))
    → None ≡ first_place part (names pairs) → put_field part go pairs ≡ last_field part (go None) pairs
field_last part go pairs at =
    next_is (go (first_of part pairs)) _ _ (λ it. with_field_last part pairs it at)
    ∙ ap (λ o. go o >>= λ it. Ok (pairs ++ record { name = part; value = it } ∷ [])) (first_not_there part pairs at)

-- the same value put back
pub with_value_same : (pairs : List (Pair Value)) (place : ℕ) (x : Value)
    → option_map (λ (pair : Pair Value). pair.value) (slice_get pairs place) ≡ Some x → with_value pairs place x ≡ pairs
with_value_same [] place x is = refl
with_value_same (pair ∷ pairs) zero x is = let e : pair.value ≡ x = cc in ap (λ v. record { name = pair.name; value = v } ∷ pairs) (sym e)
with_value_same (pair ∷ pairs) (suc place) x is = ap (λ m. pair ∷ m) (with_value_same pairs place x is)

-- ---- elements

pub slice_set_same : (items : List Value) (place : ℕ) (x : Value) → slice_get items place ≡ Some x → slice_set items place x ≡ items
slice_set_same [] place x is = refl
slice_set_same (item ∷ items) zero x is = let e : item ≡ x = cc in ap (λ v. v ∷ items) (sym e)
slice_set_same (item ∷ items) (suc place) x is = ap (λ m. item ∷ m) (slice_set_same items place x is)

pub item_there : (part : List ℕ) (go : Option Value → Result Value PutRefused) (items : List Value) (place : ℕ) (x : Value)
    → Ok place ≡ place_in part items → slice_get items place ≡ Some x
    → put_item part go items ≡ (go (Some x) >>= λ it. Ok (slice_set items place it))
item_there part go items place x at is =
    let within : nat_lt place (length items) ≡ true =
    (let e : place < length items = slice_get_within items place x is in grind (arith, common_steps, e)) in
    ap (λ r. r >>= λ n. go (slice_get items n) >>= λ it. Ok (with_item n it items)) (sym at)
    ∙ next_is (go (slice_get items place)) _ _
    (λ it. ap (λ b. if b then slice_set items place it else items ++ (replicate (place - length items) value.Null ++ it ∷ [])) within)
    ∙ ap (λ o. go o >>= λ it. Ok (slice_set items place it)) is

pub item_last : (part : List ℕ) (go : Option Value → Result Value PutRefused) (items : List Value) (place : ℕ) (x : Value)
    → Ok place ≡ place_in part items → length items ≤ place → go None ≡ Ok x
    → put_item part go items ≡ Ok (items ++ (replicate (place - length items) value.Null ++ x ∷ []))
item_last part go items place x at past made =
    let out : nat_lt place (length items) ≡ false = grind (arith, common_steps, past) in
    ap (λ r. r >>= λ n. go (slice_get items n) >>= λ it. Ok (with_item n it items)) (sym at)
    ∙ next_is (go (slice_get items place)) _ _
    (λ it. ap (λ b. if b then slice_set items place it else items ++ (replicate (place - length items) value.Null ++ it ∷ [])) out)
    ∙ ap (λ o. go o >>= λ it. Ok (items ++ (replicate (place - length items) value.Null ++ it ∷ []))) (slice_get_past items place past)
    ∙ ap (λ r. r >>= λ it. Ok (items ++ (replicate (place - length items) value.Null ++ it ∷ []))) made

-- ---- taking

-- the pairs once the value at a place is changed, or its pair removed
abbrev pub left_place : List (Pair Value) → ℕ → Option Value → List (Pair Value)
left_place [] place it = []
left_place (pair ∷ pairs) zero it = left_field pair.name it pairs
left_place (pair ∷ pairs) (suc place) it = pair ∷ left_place pairs place it

kept_here : (is : Bool) (pair : Pair Value) (pairs : List (Pair Value)) (place : ℕ) (go : Value → Option Value) (x : Value)
    (found : Option ℕ) (more : List (Pair Value))
    → Some place ≡ (if is then Some 0 else option_map (λ n. n + 1) found)
    → option_map (λ (p : Pair Value). p.value) (slice_get (pair ∷ pairs) place) ≡ Some x
    → ((n : ℕ) → Some n ≡ found → option_map (λ (p : Pair Value). p.value) (slice_get pairs n) ≡ Some x → more ≡ left_place pairs n (go x))
    → (if is then left_field pair.name (go pair.value) pairs else pair ∷ more) ≡ left_place (pair ∷ pairs) place (go x)
kept_here true pair pairs zero go x found more at is below = let e : pair.value ≡ x = cc in ap (λ v. left_field pair.name (go v) pairs) e
kept_here true pair pairs (suc place) go x found more at is below = let e : suc place ≡ 0 = cc in absurd (cc)
kept_here false pair pairs place go x None more at is below = let e : Some place ≡ None = at in absurd (cc)
kept_here false pair pairs zero go x (Some n) more at is below = let e : 0 ≡ n + 1 = cc in absurd (omega (arith, e))
kept_here false pair pairs (suc place) go x (Some n) more at is below =
    let e : n ≡ place = (let e : suc place ≡ n + 1 = cc in omega (arith, e)) in
    let here : option_map (λ (p : Pair Value). p.value) (slice_get pairs n) ≡ Some x =
    ap (λ m. option_map (λ (p : Pair Value). p.value) (slice_get pairs m)) e ∙ is in
    ap (λ m. pair ∷ m) (below n refl here) ∙ ap (λ m. pair ∷ left_place pairs m (go x)) e

pub left_fields_there : (name : List ℕ) (go : Value → Option Value) (pairs : List (Pair Value)) (place : ℕ) (x : Value)
    → Some place ≡ first_place name (names pairs) → option_map (λ (p : Pair Value). p.value) (slice_get pairs place) ≡ Some x
    → left_fields name go pairs ≡ left_place pairs place (go x)
left_fields_there name go [] place x at is = absurd (cc)
left_fields_there name go (pair ∷ pairs) place x at is =
    kept_here (bytes_eq pair.name name) pair pairs place go x (first_place name (names pairs)) (left_fields name go pairs) at is
    (λ n a b. left_fields_there name go pairs n x a b)

pub left_place_some : (pairs : List (Pair Value)) (place : ℕ) (it : Value) → left_place pairs place (Some it) ≡ with_value pairs place it
left_place_some [] place it = refl
left_place_some (pair ∷ pairs) zero it = refl
left_place_some (pair ∷ pairs) (suc place) it = ap (λ m. pair ∷ m) (left_place_some pairs place it)

drop_nil : {X : Type 0} (n : ℕ) → drop {A = X} n [] ≡ []
drop_nil zero = refl
drop_nil (suc n) = refl

pub left_place_none : (pairs : List (Pair Value)) (place : ℕ) → left_place pairs place None ≡ take place pairs ++ drop (place + 1) pairs
left_place_none [] zero = refl
left_place_none [] (suc place) = sym (drop_nil {X = Pair Value} (suc place + 1))
left_place_none (pair ∷ pairs) zero = refl
left_place_none (pair ∷ pairs) (suc place) = ap (λ m. pair ∷ m) (left_place_none pairs place)
    ∙ ap (λ n. pair ∷ (take place pairs ++ drop n (pair ∷ pairs))) (let e : suc (place + 1) ≡ suc place + 1 = omega arith in e)

absent_here : (is : Bool) (pair : Pair Value) (pairs more : List (Pair Value)) (other : List (Pair Value)) (found : Option ℕ)
    → None ≡ (if is then Some 0 else option_map (λ n. n + 1) found) → (None ≡ found → more ≡ pairs)
    → (if is then other else pair ∷ more) ≡ pair ∷ pairs
absent_here true pair pairs more other found at below = absurd (cc)
absent_here false pair pairs more other None at below = ap (λ m. pair ∷ m) (below refl)
absent_here false pair pairs more other (Some n) at below = absurd (cc)

pub left_fields_absent : (name : List ℕ) (go : Value → Option Value) (pairs : List (Pair Value)) → None ≡ first_place name (names pairs)
    → left_fields name go pairs ≡ pairs
left_fields_absent name go [] at = refl
left_fields_absent name go (pair ∷ pairs) at =
    absent_here (bytes_eq pair.name name) pair pairs (left_fields name go pairs) (left_field pair.name (go pair.value) pairs)
    (first_place name (names pairs)) at (λ is. left_fields_absent name go pairs is)

-- a take below is one above
pub takes_on : {A B : Type 0} (result : Result (Option Value) NoRoom) (place : A → B) (below : A) (found : Option Value) (above : B)
    (all : Option Value) (x new : A) (old : B)
    → above ≡ place below → all ≡ found → place x ≡ old → Takes result below found x new → Takes result above all old (place new)
takes_on (Ok it) place below found above all x new old is same back did = (ap place did.0 ∙ sym is, did.1 ∙ sym same)
takes_on (Err why) place below found above all x new old is same back did = ap place did ∙ back

pub field_absent : (part : List ℕ) (rest : List (List ℕ)) (pairs : List (Pair Value)) → None ≡ first_place part (names pairs)
    → (pairs ≡ left_fields part (left rest) pairs) × (None ≡ behind (peeked rest) (first_of part pairs))
field_absent part rest pairs at = (
  sym (left_fields_absent part (left rest) pairs at),
  ap (behind (peeked rest))
      (sym (first_not_there part pairs at)),
)

pub field_takes : (result : Result (Option Value) NoRoom) (part next : List ℕ) (rest others : List (List ℕ)) (pairs : List (Pair Value))
    (place : ℕ) (x new : Value)
    → rest ≡ next ∷ others → Some place ≡ first_place part (names pairs)
    → option_map (λ (p : Pair Value). p.value) (slice_get pairs place) ≡ Some x
    → Takes result (left_in next (left others) x (out-Value x)) (peeked_in next (peeked others) (out-Value x)) x new
    → Takes result (left_fields part (left rest) pairs) (behind (peeked rest) (first_of part pairs)) pairs (with_value pairs place new)
field_takes result part next rest others pairs place x new more at is did =
    takes_on result (with_value pairs place) _ _ _ _ x new pairs
    (left_fields_there part (left rest) pairs place x at is ∙ ap (λ (r : List (List ℕ)). left_place pairs place (left r x)) more
    ∙ left_place_some pairs place _)
    (ap (behind (peeked rest)) (first_there part pairs place at ∙ is) ∙ ap (λ (r : List (List ℕ)). peeked r x) more)
    (with_value_same pairs place x is) did

-- a first place has a value
found_here : (is : Bool) (pair : Pair Value) (pairs : List (Pair Value)) (place : ℕ) (found : Option ℕ)
    → Some place ≡ (if is then Some 0 else option_map (λ n. n + 1) found)
    → option_map (λ (p : Pair Value). p.value) (slice_get (pair ∷ pairs) place) ≡ None
    → ((n : ℕ) → Some n ≡ found → option_map (λ (p : Pair Value). p.value) (slice_get pairs n) ≡ None → ⊥) → ⊥
found_here is pair pairs zero found at none below = absurd (cc)
found_here true pair pairs (suc place) found at none below = let e : suc place ≡ 0 = cc in absurd (cc)
found_here false pair pairs (suc place) None at none below = absurd (cc)
found_here false pair pairs (suc place) (Some n) at none below =
    let e : n ≡ place = (let e : suc place ≡ n + 1 = cc in omega (arith, e)) in
    below n refl (ap (λ m. option_map (λ (p : Pair Value). p.value) (slice_get pairs m)) e ∙ none)

found_in : (name : List ℕ) (pairs : List (Pair Value)) (place : ℕ) → Some place ≡ first_place name (names pairs)
    → option_map (λ (p : Pair Value). p.value) (slice_get pairs place) ≡ None → ⊥
found_in name [] place at is = absurd (cc)
found_in name (pair ∷ pairs) place at is = found_here (bytes_eq pair.name name) pair pairs place (first_place name (names pairs)) at is
    (λ n a b. found_in name pairs n a b)

removed_by : (found : Option Value) (result : Result (Option Value) NoRoom) (part : List ℕ) (rest : List (List ℕ))
    (pairs new : List (Pair Value)) (place : ℕ)
    → rest ≡ [] → Some place ≡ first_place part (names pairs) → option_map (λ (p : Pair Value). p.value) (slice_get pairs place) ≡ found
    → Takes result (take place pairs ++ drop (place + 1) pairs) found pairs new
    → Takes result (left_fields part (left rest) pairs) (behind (peeked rest) (first_of part pairs)) pairs new
removed_by None result part rest pairs new place none at is did = absurd (found_in part pairs place at is)
removed_by (Some x) result part rest pairs new place none at is did =
    subst (λ kept. Takes result kept (behind (peeked rest) (first_of part pairs)) pairs new)
    (sym (left_fields_there part (left rest) pairs place x at is ∙ ap (λ (r : List (List ℕ)). left_place pairs place (left r x)) none
    ∙ left_place_none pairs place))
    (subst (λ found. Takes result (take place pairs ++ drop (place + 1) pairs) found pairs new)
    (sym (ap (behind (peeked rest)) (first_there part pairs place at ∙ is) ∙ ap (λ (r : List (List ℕ)). peeked r x) none))
    did)

none_left : (rest : List (List ℕ)) → length rest ≡ 0 → rest ≡ []
none_left [] is = refl
none_left (part ∷ rest) is = absurd (omega (arith, is))

pub field_removed : (result : Result (Option Value) NoRoom) (part : List ℕ) (rest : List (List ℕ)) (pairs new : List (Pair Value))
    (place : ℕ)
    → length rest ≡ 0 → Some place ≡ first_place part (names pairs)
    → Takes result (take place pairs ++ drop (place + 1) pairs) (option_map (λ (p : Pair Value). p.value) (slice_get pairs place)) pairs new
    → Takes result (left_fields part (left rest) pairs) (behind (peeked rest) (first_of part pairs)) pairs new
field_removed result part rest pairs new place none at did = removed_by _ result part rest pairs new place (none_left rest none) at refl did

-- ---- elements

within_no : (place : ℕ) (items : List Value) → nat_lt place (length items) ≡ false → slice_get items place ≡ None
within_no place items past = let past : length items ≤ place = grind (arith, common_steps, past) in slice_get_past items place past

nothing : (is : Bool) (place : ℕ) (items : List Value) → None ≡ (if is && nat_lt place (length items) then Some place else None)
    → (if is then slice_get items place else None) ≡ None
nothing false place items at = refl
nothing true place items at = by_bound (nat_lt place (length items)) refl at
  where
    by_bound : (b : Bool) → nat_lt place (length items) ≡ b → None ≡ (if b then Some place else None) → slice_get items place ≡ None
    by_bound true e at = absurd (cc)
    by_bound false e at = within_no place items e

something : (is : Bool) (told place : ℕ) (items : List Value)
    → Some place ≡ (if is && nat_lt told (length items) then Some told else None)
    → (if is then slice_get items told else None) ≡ slice_get items place
something false told place items at = absurd (cc)
something true told place items at = by_bound (nat_lt told (length items)) at
  where
    by_bound : (b : Bool) → Some place ≡ (if b then Some told else None) → slice_get items told ≡ slice_get items place
    by_bound true at = let e : place ≡ told = cc in ap (λ n. slice_get items n) (sym e)
    by_bound false at = absurd (cc)

pub item_absent : (part : List ℕ) (rest : List (List ℕ)) (items : List Value) → None ≡ place_there part items
    → (items ≡ left_items (left rest) (place_there part items) items) × (None ≡ behind (peeked rest) (item_at part items))
item_absent part rest items at = (
  ap
      (λ o. left_items (left rest) o items) at,
  ap (behind (peeked rest)) (sym (nothing (is_index part) (digits_value 10 part) items at)),
)

pub item_takes : (result : Result (Option Value) NoRoom) (part next : List ℕ) (rest others : List (List ℕ)) (items : List Value)
    (place : ℕ) (x new : Value)
    → rest ≡ next ∷ others → Some place ≡ place_there part items → slice_get items place ≡ Some x
    → Takes result (left_in next (left others) x (out-Value x)) (peeked_in next (peeked others) (out-Value x)) x new
    → Takes result (left_items (left rest) (place_there part items) items)
    (behind (peeked rest) (item_at part items)) items (slice_set items place new)
item_takes result part next rest others items place x new more at is did =
    takes_on result (slice_set items place) _ _ _ _ x new items
    (ap (λ o. left_items (left rest) o items) (sym at) ∙ ap (λ o. left_at (left rest) o place items) is
    ∙ ap (λ (r : List (List ℕ)). slice_set items place (unwrap_or (left r x) value.Null)) more)
    (ap (behind (peeked rest)) (something (is_index part) (digits_value 10 part) place items at ∙ is)
    ∙ ap (λ (r : List (List ℕ)). peeked r x) more)
    (slice_set_same items place x is) did

-- ---- where nothing stands, a take leaves all

module _ (see go : Value → Option Value) (stays : (x : Value) → see x ≡ None → go x ≡ Some x) where
  fields_stay : (name : List ℕ) (pairs : List (Pair Value)) → behind see (first_of name pairs) ≡ None → left_fields name go pairs ≡ pairs
  fields_stay name [] none = refl
  fields_stay name (pair ∷ pairs) none = by (bytes_eq pair.name name) (fields_stay name pairs) none
    where
      by : (is : Bool) → (behind see (first_of name pairs) ≡ None → left_fields name go pairs ≡ pairs)
          → behind see (option_map
          (λ (p : Pair Value). p.value) (cond is (Some pair) (find (λ (p : Pair Value). bytes_eq p.name name) pairs))) ≡ None
          → (if is then left_field pair.name (go pair.value) pairs else pair ∷ left_fields name go pairs) ≡ pair ∷ pairs
      by true further none = ap (λ it. left_field pair.name it pairs) (stays pair.value none)
      by false further none = ap (λ more. pair ∷ more) (further none)

  item_stays : (items : List Value) (place : ℕ) (found : Option Value) → slice_get items place ≡ found → behind see found ≡ None
      → left_at go found place items ≡ items
  item_stays items place None at none = refl
  item_stays items place (Some x) at none =
      ap (λ it. slice_set items place (unwrap_or it value.Null)) (stays x none) ∙ slice_set_same items place x at

  items_stay : (is within : Bool) (place : ℕ) (items : List Value) → behind see (if is then slice_get items place else None) ≡ None
      → left_items go (if is && within then Some place else None) items ≡ items
  items_stay false within place items none = refl
  items_stay true false place items none = refl
  items_stay true true place items none = item_stays items place (slice_get items place) refl none

  layer_stays : (part : List ℕ) (it : Value) (layer : Value-F Value) → roll-Value layer ≡ it → peeked_in part see layer ≡ None
      → left_in part go it layer ≡ it
  unfolding roll-Value denote.Hole.Carrier.roll
  layer_stays part it (Value-F.Doc pairs) is none = ap value.Doc (fields_stay part pairs none) ∙ is
  layer_stays part it (Value-F.Arr items) is none =
      ap value.Arr (items_stay (is_index part) (nat_lt (digits_value 10 part) (length items)) (digits_value 10 part) items none) ∙ is
  layer_stays part it (Value-F.Str text) is none = refl
  layer_stays part it (Value-F.Bin held) is none = refl
  layer_stays part it (Value-F.Id id) is none = refl
  layer_stays part it (Value-F.Bool truth) is none = refl
  layer_stays part it (Value-F.Date moment) is none = refl
  layer_stays part it Value-F.Null is none = refl
  layer_stays part it (Value-F.Regex regex) is none = refl
  layer_stays part it (Value-F.Int number) is none = refl
  layer_stays part it (Value-F.Stamp stamp) is none = refl
  layer_stays part it (Value-F.Long number) is none = refl

nothing_left : (rest : List (List ℕ)) (it : Value) → peeked rest it ≡ None → left rest it ≡ Some it
nothing_left [] it none = absurd cc
nothing_left (part ∷ rest) it none =
    ap Some (layer_stays (peeked rest) (left rest) (nothing_left rest) part it (out-Value it) (roll-out-Value it) none)

pub nothing_taken : (path : List (List ℕ)) (pairs : List (Pair Value)) → peeked path (value.Doc pairs) ≡ None → taken path pairs ≡ pairs
nothing_taken [] pairs none = refl
nothing_taken (part ∷ rest) pairs none =
    fields_stay (peeked rest) (left rest)
    (nothing_left rest) part pairs (ap (peeked_in part (peeked rest)) (sym (value.outs-Doc pairs)) ∙ none)
