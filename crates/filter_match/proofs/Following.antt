-- What open tails reach from a value, and from what is in it.
use Rattle.std.proofs.Common.{◌≡◌, ℕ, zero, suc, ◌+◌, ◌<◌, ◌≤◌, ◌^◌, Bool, true, false, not, if◌then◌else◌, ◌&&◌, ◌||◌, List, [], ◌∷◌}
use Rattle.std.proofs.Common.{length, drop, slice_index_or, slice_get, nat_eq, Option, Some, None, refl, sym, subst, ap, below_more}
use Rattle.std.proofs.Common.{◌∙◌, arith}
use Rattle.std.proofs.Math.Seq.{drop-cons, drop-length}
use Rattle.std.specs.Str.{bytes_eq}
use Rattle.std.specs.Str.Parse.{digits_value}
use Rattle.std.proofs.lemmas.Slice.Eq.{bytes_eq-Decides}
use Rattle.std.specs.List.{list_any}
use Rattle.bson_values.specs.Names.{first_of}
use Rattle.bson_values.specs.declared.pairs.Pair.{Pair}
use Rattle.bson_values.specs.declared.value.Value.{Value, out-Value}
use Rattle.bson_values.specs.declared.value.Value.TheViews.{roll-Value, roll-out-Value}
use Rattle.bson_values.specs.declared.value.Value.TheOpen.{Value-F}
use Rattle.bson_values.specs.declared.value.Value.TheVariants as value
use Rattle.doc_paths.specs.Reach.{is_index, item_at, reached, behind_field, behind_item, in_element, in_value}
use Rattle.doc_paths.specs.declared.reached.Reached.{Reached}
use Rattle.doc_paths.specs.declared.reached.Reached.TheVariants.{Missing, Found}
use Rattle.filter_match.specs.Asking.{asked}
use Rattle.filter_match.specs.declared.asking.Ask.{Ask}
use Rattle.filter_match.specs.Tails.{is_open, any_below, some_open, answers, answers_behind, part_at, tells, is_at, ArePlaces, answers_in}
use Rattle.filter_match.specs.Tails.{any_from, element_answers, joined_at}
use Rattle.filter_match.proofs.Equations.{list_any_joined}
use Rattle.filter_match.proofs.Below.{or_swap, below_same, below_or, below_first, below_and, below_none}

or_false : (b : Bool) → (b || false) ≡ b
or_false true = refl
or_false false = refl

-- ---- a value itself, and a missing one

pub missing_asked : (ask : Ask) (parts : List (List ℕ)) (marks : List Bool) (n : ℕ)
    → some_open marks n (answers_behind ask parts None) ≡ (any_below n (is_open marks) && asked ask Missing)
unfolding some_open answers_behind
missing_asked ask parts marks n =
    below_same n _ _ (λ k h. ap (λ b. is_open marks k && b) (or_false (asked ask Missing)))
    ∙ below_and n (is_open marks) (asked ask Missing)

pub found_behind : (ask : Ask) (parts : List (List ℕ)) (marks : List Bool) (n : ℕ) (it : Value)
    → some_open marks n (answers_behind ask parts (Some it)) ≡ some_open marks n (answers ask parts it)
unfolding some_open answers_behind answers
found_behind ask parts marks n it = refl

or_comm : (a b : Bool) → (a || b) ≡ (b || a)
or_comm true true = refl
or_comm true false = refl
or_comm false true = refl
or_comm false false = refl

ended : (ask : Ask) (parts : List (List ℕ)) (it : Value) → answers ask parts it (length parts) ≡ asked ask (Found it)
unfolding answers
ended ask parts it = ap (λ (rest : List (List ℕ)). list_any (asked ask) (reached rest it)) (drop-length parts)
    ∙ or_false (asked ask (Found it))

pub itself_or_beyond : (ask : Ask) (parts : List (List ℕ)) (marks : List Bool) (it : Value)
    → some_open marks (suc (length parts)) (answers ask parts it)
    ≡ ((is_open marks (length parts) && asked ask (Found it)) || some_open marks (length parts) (answers ask parts it))
unfolding some_open
itself_or_beyond ask parts marks it =
    ap (λ b. any_below (length parts) (λ k. is_open marks k && answers ask parts it k) || (is_open marks (length parts) && b))
    (ended ask parts it)
    ∙ or_comm (any_below (length parts) (λ k. is_open marks k && answers ask parts it k))
    (is_open marks (length parts) && asked ask (Found it))

-- the whole path alone
pub whole_is : (ask : Ask) (parts : List (List ℕ)) (marks : List Bool) (it : Option Value) → length parts ≤ 100
    → ((k : ℕ) → k < 101 → is_open marks k ≡ nat_eq k 0)
    → some_open marks (suc (length parts)) (answers_behind ask parts it) ≡ list_any (asked ask) (behind_field (reached parts) it)
unfolding some_open answers_behind
whole_is ask parts marks it few alone =
    below_first (length parts) _
    ∙ ap (λ b. (is_open marks 0 && list_any (asked ask) (behind_field (reached parts) it)) || b)
    (below_none (length parts) _ (λ k h. let never : nat_eq (suc k) 0 ≡ false = grind arith in
    ap (λ b. b && answers_behind ask parts it (suc k)) (alone (suc k) (omega arith) ∙ never)))
    ∙ or_false _ ∙ ap (λ b. b && list_any (asked ask) (behind_field (reached parts) it)) (alone 0 (omega arith))

-- ---- a document

at_part : (parts : List (List ℕ)) (k : ℕ) → k < length parts → drop k parts ≡ part_at parts k ∷ drop (suc k) parts
at_part parts k h = drop-cons parts k [] h

in_document : (ask : Ask) (parts : List (List ℕ)) (pairs : List (Pair Value)) (k : ℕ) → k < length parts
    → answers ask parts (value.Doc pairs) k ≡ answers_behind ask parts (first_of (part_at parts k) pairs) (suc k)
unfolding answers answers_behind
in_document ask parts pairs k h =
    ap (λ (rest : List (List ℕ)). list_any (asked ask) (reached rest (value.Doc pairs))) (at_part parts k h)
    ∙ ap (λ layer. list_any (asked ask) (in_value (part_at parts k) (reached (drop (suc k) parts)) layer)) (value.outs-Doc pairs)

split : (o same test : Bool) → (o && test) ≡ (((o && same) && test) || ((o && not (o && same)) && test))
split false same test = refl
split true true true = refl
split true true false = refl
split true false test = refl

pub no_name_left : (o : Bool) → (o && not (o && true)) ≡ false
no_name_left true = refl
no_name_left false = refl

when : (o : Bool) (a b : Bool) → (o ≡ true → a ≡ b) → (o && a) ≡ (o && b)
when true a b same = same refl
when false a b same = refl

-- the open tails that begin with a name, and the others
Named : List (List ℕ) → List Bool → List Bool → List ℕ → Type 0
Named parts marks named name = (k : ℕ) → k < length parts → is_open named k ≡ (is_open marks k && bytes_eq (part_at parts k) name)

abbrev pub Without : List Bool → List Bool → List Bool → Type 0
Without marks named left = (k : ℕ) → k < 101 → is_open left k ≡ (is_open marks k && not (is_open named k))

others : List Bool → List Bool → ℕ → (ℕ → Bool) → Bool
others marks named n test = any_below n (λ k. (is_open marks k && not (is_open named k)) && test k)

named_so : (a b : Bool) → (a && b) ≡ true → b ≡ true
named_so true b is = is
named_so false b is = absurd cc

in_field : (ask : Ask) (part : List ℕ) (rest : List (List ℕ)) (pairs : List (Pair Value)) (name : List ℕ) (o : Bool) (k : ℕ)
    → k < length (part ∷ rest) → (o && bytes_eq (part_at (part ∷ rest) k) name) ≡ true
    → answers ask (part ∷ rest) (value.Doc pairs) k ≡ answers_behind ask rest (first_of name pairs) k
unfolding answers_behind
in_field ask part rest pairs name o k h is =
    in_document ask (part ∷ rest) pairs k h
    ∙ ap (λ (it : List ℕ). answers_behind ask rest (first_of it pairs) k)
    ((bytes_eq-Decides (part_at (part ∷ rest) k) name).0 (named_so o (bytes_eq (part_at (part ∷ rest) k) name) is))

by_name : (ask : Ask) (part : List ℕ) (rest : List (List ℕ)) (pairs : List (Pair Value)) (name : List ℕ) (marks named : List Bool)
    → Named (part ∷ rest) marks named name
    → some_open marks (length (part ∷ rest)) (answers ask (part ∷ rest) (value.Doc pairs))
    ≡ (some_open named (suc (length rest)) (answers_behind ask rest (first_of name pairs))
    || others marks named (length (part ∷ rest)) (answers ask (part ∷ rest) (value.Doc pairs)))
unfolding some_open others Named
by_name ask part rest pairs name marks named is_named =
    below_same (suc (length rest)) _ _ (λ k h.
    split (is_open marks k) (bytes_eq (part_at (part ∷ rest) k) name) (answers ask (part ∷ rest) (value.Doc pairs) k)
    ∙ ap (λ b. (b && answers ask (part ∷ rest) (value.Doc pairs) k)
    || ((is_open marks k && not b) && answers ask (part ∷ rest) (value.Doc pairs) k)) (sym (is_named k h))
    ∙ ap (λ b. b || ((is_open marks k && not (is_open named k)) && answers ask (part ∷ rest) (value.Doc pairs) k))
    (when (is_open named k) (answers ask (part ∷ rest) (value.Doc pairs) k) (answers_behind ask rest (first_of name pairs) k)
    (λ is. in_field ask part rest pairs name (is_open marks k) k h (sym (is_named k h) ∙ is))))
    ∙ below_or (suc (length rest)) (λ k. is_open named k && answers_behind ask rest (first_of name pairs) k)
    (λ k. (is_open marks k && not (is_open named k)) && answers ask (part ∷ rest) (value.Doc pairs) k)

-- an answer behind a name is one of the document
pub name_answers : (ask : Ask) (parts : List (List ℕ)) (part : List ℕ) (rest : List (List ℕ)) (pairs : List (Pair Value)) (name : List ℕ)
    (marks named : List Bool) → parts ≡ part ∷ rest
    → ((k : ℕ) → k < length parts → is_open named k ≡ (is_open marks k && bytes_eq (part_at parts k) name))
    → true ≡ some_open named (suc (length rest)) (answers_behind ask rest (first_of name pairs))
    → some_open marks (length parts) (answers ask parts (value.Doc pairs)) ≡ true
unfolding Named
name_answers ask parts part rest pairs name marks named whole is_named answered =
    subst (λ (ps : List (List ℕ)). Named ps marks named name → some_open marks (length ps) (answers ask ps (value.Doc pairs)) ≡ true)
    (sym whole)
    (λ is. by_name ask part rest pairs name marks named is
    ∙ ap (λ b. b || others marks named (length (part ∷ rest)) (answers ask (part ∷ rest) (value.Doc pairs))) (sym answered))
    is_named

-- where none answers behind a name, the other tails are left
pub name_left : (ask : Ask) (parts : List (List ℕ)) (part : List ℕ) (rest : List (List ℕ)) (pairs : List (Pair Value)) (name : List ℕ)
    (marks named left : List Bool) → parts ≡ part ∷ rest → length parts ≤ 100
    → ((k : ℕ) → k < length parts → is_open named k ≡ (is_open marks k && bytes_eq (part_at parts k) name)) → Without marks named left
    → false ≡ some_open named (suc (length rest)) (answers_behind ask rest (first_of name pairs))
    → some_open marks (length parts) (answers ask parts (value.Doc pairs))
    ≡ some_open left (length parts) (answers ask parts (value.Doc pairs))
unfolding Named others some_open
name_left ask parts part rest pairs name marks named left whole few is_named is_left refused =
    subst (λ (ps : List (List ℕ)). Named ps marks named name
    → some_open marks (length ps) (answers ask ps (value.Doc pairs))
    ≡ others marks named (length ps) (answers ask ps (value.Doc pairs))) (sym whole)
    (λ is. by_name ask part rest pairs name marks named is
    ∙ ap (λ b. b || others marks named (length (part ∷ rest)) (answers ask (part ∷ rest) (value.Doc pairs))) (sym refused))
    is_named
    ∙ below_same (length parts) _ _ (λ k h. ap (λ b. b && answers ask parts (value.Doc pairs) k) (sym (is_left k (omega arith))))

-- none of the tails so far is left
pub left_more : (parts : List (List ℕ)) (name : List ℕ) (marks named left : List Bool) (place : ℕ) → place < length parts
    → length parts ≤ 100
    → ((k : ℕ) → k < length parts → is_open named k ≡ (is_open marks k && bytes_eq (part_at parts k) name)) → Without marks named left
    → part_at parts place ≡ name → ((k : ℕ) → k < place → is_open marks k ≡ false) → (k : ℕ) → k < place + 1 → is_open left k ≡ false
left_more parts name marks named left place h few is_named is_left same none =
    below_more (λ k. is_open left k ≡ false) place
    (λ k low. is_left k (omega arith) ∙ ap (λ b. b && not (is_open named k)) (none k low))
    (is_left place (omega arith)
    ∙ ap (λ b. is_open marks place && not b)
    (is_named place h ∙ ap (λ b. is_open marks place && b) ((bytes_eq-Decides (part_at parts place) name).1 same))
    ∙ no_name_left (is_open marks place))

pub none_left : (marks : List Bool) (n : ℕ) (test : ℕ → Bool) → ((k : ℕ) → k < n → is_open marks k ≡ false) → some_open marks n test ≡ false
unfolding some_open
none_left marks n test none = below_none n _ (λ k h. ap (λ b. b && test k) (none k h))

pub no_parts : (marks : List Bool) (test : ℕ → Bool) → some_open marks 0 test ≡ false
unfolding some_open
no_parts marks test = refl

-- ---- an array, element by element

from_or : (p q : ℕ → Value → Bool) (place : ℕ) (items : List Value)
    → any_from (λ at it. p at it || q at it) place items ≡ (any_from p place items || any_from q place items)
from_or p q place [] = refl
from_or p q place (it ∷ items) = ap (λ b. (p place it || q place it) || b) (from_or p q (suc place) items)
    ∙ or_swap (p place it) (q place it) (any_from p (suc place) items) (any_from q (suc place) items)

from_any : (p : Value → Bool) (place : ℕ) (items : List Value) → list_any p items ≡ any_from (λ at it. p it) place items
from_any p place [] = refl
from_any p place (it ∷ items) = ap (λ b. p it || b) (from_any p (suc place) items)

from_none : (p : Value → Bool) (past place : ℕ) (items : List Value) → past < place
    → any_from (λ at it. nat_eq past at && p it) place items ≡ false
from_none p past place [] h = refl
from_none p past place (it ∷ items) h =
    let apart : nat_eq past place ≡ false = grind arith in
    ap (λ b. (b && p it) || any_from (λ at it. nat_eq past at && p it) (suc place) items) apart
    ∙ from_none p past (suc place) items (omega arith)

from_never : (p : Value → Bool) (place : ℕ) (items : List Value) → any_from (λ at it. false) place items ≡ false
from_never p place [] = refl
from_never p place (it ∷ items) = from_never p (suc place) items

-- an element that is told by its place
from_place : (go : Value → List Reached) (test : Reached → Bool) (back place : ℕ) (items : List Value)
    → list_any test (behind_item go (slice_get items back))
    ≡ any_from (λ at it. nat_eq (place + back) at && list_any test (go it)) place items
from_place go test back place [] = refl
from_place go test zero place (it ∷ items) =
    let same : nat_eq (place + 0) place ≡ true = grind arith in
    sym (ap (λ b. (b && list_any test (go it)) || any_from (λ at it. nat_eq (place + 0) at && list_any test (go it)) (suc place) items) same
    ∙ ap (λ b. list_any test (go it) || b) (from_none (λ it. list_any test (go it)) (place + 0) (suc place) items (omega arith))
    ∙ or_false (list_any test (go it)))
from_place go test (suc back) place (it ∷ items) =
    let apart : nat_eq (place + suc back) place ≡ false = grind arith in
    let further : suc place + back ≡ place + suc back = omega arith in
    from_place go test back (suc place) items
    ∙ ap (λ n. any_from (λ at it. nat_eq n at && list_any test (go it)) (suc place) items) further
    ∙ sym (ap (λ b. (b && list_any test (go it))
    || any_from (λ at it. nat_eq (place + suc back) at && list_any test (go it)) (suc place) items) apart)

from_part : (go : Value → List Reached) (test : Reached → Bool) (part : List ℕ) (items : List Value)
    → list_any test (behind_item go (item_at part items)) ≡ any_from (λ at it. tells part at && list_any test (go it)) 0 items
from_part go test part items = by (is_index part)
  where
    by : (b : Bool) → list_any test (behind_item go (if b then slice_get items (digits_value 10 part) else None))
        ≡ any_from (λ at it. (b && nat_eq (digits_value 10 part) at) && list_any test (go it)) 0 items
    by true =
        let same : 0 + digits_value 10 part ≡ digits_value 10 part = omega arith in
        from_place go test (digits_value 10 part) 0 items ∙ ap (λ n. any_from (λ at it. nat_eq n at && list_any test (go it)) 0 items) same
    by false = sym (from_never (λ it. false) 0 items)

in_array : (ask : Ask) (parts : List (List ℕ)) (items : List Value) (k : ℕ) → k < length parts
    → answers ask parts (value.Arr items) k ≡ any_from (λ at it. answers_in ask parts at it k) 0 items
unfolding answers answers_in
in_array ask parts items k h =
    let part = part_at parts k in
    let go = reached (drop (suc k) parts) in
    ap (λ (rest : List (List ℕ)). list_any (asked ask) (reached rest (value.Arr items))) (at_part parts k h)
    ∙ ap (λ layer. list_any (asked ask) (in_value part go layer)) (value.outs-Arr items)
    ∙ list_any_joined (asked ask) (behind_item go (item_at part items)) (λ item. in_element part go (out-Value item)) items
    ∙ ap (λ b. b || list_any (λ item. list_any (asked ask) (in_element part go (out-Value item))) items)
    (from_part go (asked ask) part items)
    ∙ ap (λ b. any_from (λ at it. tells part at && list_any (asked ask) (go it)) 0 items || b)
    (from_any (λ item. list_any (asked ask) (in_element part go (out-Value item))) 0 items)
    ∙ sym (from_or _ _ 0 items)

and_false : (b : Bool) → (b && false) ≡ false
and_false true = refl
and_false false = refl

and_over : (o a b : Bool) → (o && (a || b)) ≡ ((o && a) || (o && b))
and_over true a b = refl
and_over false a b = refl

-- elements and tails change places
swapped : (marks : List Bool) (n : ℕ) (test : ℕ → Value → ℕ → Bool) (place : ℕ) (items : List Value)
    → any_below n (λ k. is_open marks k && any_from (λ at it. test at it k) place items)
    ≡ any_from (λ at it. any_below n (λ k. is_open marks k && test at it k)) place items
swapped marks n test place [] = below_none n _ (λ k h. and_false (is_open marks k))
swapped marks n test place (it ∷ items) =
    below_same n _ _ (λ k h. and_over (is_open marks k) (test place it k) (any_from (λ at it. test at it k) (suc place) items))
    ∙ below_or n _ _ ∙ ap (λ b. any_below n (λ k. is_open marks k && test place it k) || b) (swapped marks n test (suc place) items)

pub by_element : (ask : Ask) (parts : List (List ℕ)) (marks : List Bool) (items : List Value)
    → some_open marks (length parts) (answers ask parts (value.Arr items)) ≡ any_from (element_answers ask parts marks) 0 items
unfolding some_open element_answers
by_element ask parts marks items =
    below_same (length parts) _ _ (λ k h. ap (λ b. is_open marks k && b) (in_array ask parts items k h))
    ∙ swapped marks (length parts) (answers_in ask parts) 0 items

-- ---- a value that holds no others, and an element

abbrev pub NotDoc : Value → Type 0
NotDoc it = (pairs : List (Pair Value)) → it ≡ value.Doc pairs → ⊥

abbrev pub NotArr : Value → Type 0
NotArr it = (items : List Value) → it ≡ value.Arr items → ⊥

nothing_within : (part : List ℕ) (go : Value → List Reached) (it : Value) (layer : Value-F Value) → roll-Value layer ≡ it → NotDoc it
    → NotArr it → in_value part go layer ≡ Missing ∷ []
nothing_within part go it (Value-F.Doc pairs) is no_doc no_arr = absurd (no_doc pairs (sym is ∙ value.rolls-Doc pairs))
nothing_within part go it (Value-F.Arr items) is no_doc no_arr = absurd (no_arr items (sym is ∙ value.rolls-Arr items))
nothing_within part go it layer is no_doc no_arr = refl

no_element : (part : List ℕ) (go : Value → List Reached) (it : Value) (layer : Value-F Value) → roll-Value layer ≡ it → NotDoc it
    → in_element part go layer ≡ []
no_element part go it (Value-F.Doc pairs) is no_doc = absurd (no_doc pairs (sym is ∙ value.rolls-Doc pairs))
no_element part go it layer is no_doc = refl

pub scalar_asked : (ask : Ask) (parts : List (List ℕ)) (marks : List Bool) (it : Value) → NotDoc it → NotArr it
    → any_below (length parts) (is_open marks) ≡ true → some_open marks (length parts) (answers ask parts it) ≡ asked ask Missing
unfolding some_open answers
scalar_asked ask parts marks it no_doc no_arr some =
    below_same (length parts) _ _ (λ k h. ap (λ b. is_open marks k && b)
    (ap (λ (rest : List (List ℕ)). list_any (asked ask) (reached rest it)) (at_part parts k h)
    ∙ ap (list_any (asked ask)) (nothing_within (part_at parts k) (reached (drop (suc k) parts)) it (out-Value it)
    (roll-out-Value it) no_doc no_arr)
    ∙ or_false (asked ask Missing)))
    ∙ below_and (length parts) (is_open marks) (asked ask Missing) ∙ ap (λ b. b && asked ask Missing) some

pub none_open : (marks : List Bool) (n : ℕ) (test : ℕ → Bool) → any_below n (is_open marks) ≡ false → some_open marks n test ≡ false
unfolding some_open
none_open marks zero test none = refl
none_open marks (suc n) test none =
    let here = neither (any_below n (is_open marks)) (is_open marks n) none in
    ap (λ b. b || (is_open marks n && test n)) (none_open marks n test here.0) ∙ ap (λ b. b && test n) here.1
  where
    neither : (a b : Bool) → (a || b) ≡ false → (a ≡ false) × (b ≡ false)
    neither true b is = absurd cc
    neither false b is = (refl, is)

-- the open tails whose part tells the place of the element
abbrev pub Here : List (Option ℕ) → List Bool → List Bool → ℕ → Type 0
Here places marks here place = (k : ℕ) → k < 101 → is_open here k ≡ (is_open marks k && is_at (slice_index_or places k None) place)

here_is : (places : List (Option ℕ)) (parts : List (List ℕ)) (marks here : List Bool) (place : ℕ) → length parts ≤ 100
    → ArePlaces places marks parts → place < 2 ^ 64 → Here places marks here place → (k : ℕ) → k < length parts
    → is_open here k ≡ (is_open marks k && tells (part_at parts k) place)
here_is places parts marks here place few told low is k h = is k (omega arith)
    ∙ when (is_open marks k) (is_at (slice_index_or places k None) place) (tells (part_at parts k) place)
    (λ opened. told k h opened place low)

and_assoc_false : (o t a : Bool) → (o && ((t && a) || false)) ≡ ((o && t) && a)
and_assoc_false true true true = refl
and_assoc_false true true false = refl
and_assoc_false true false a = refl
and_assoc_false false t a = refl

by_place_in : (ask : Ask) (part : List ℕ) (rest : List (List ℕ)) (places : List (Option ℕ)) (marks here : List Bool) (place : ℕ)
    (it : Value) → length (part ∷ rest) ≤ 100 → ArePlaces places marks (part ∷ rest) → place < 2 ^ 64 → Here places marks here place
    → NotDoc it
    → element_answers ask (part ∷ rest) marks place it ≡ some_open here (suc (length rest)) (answers ask rest it)
unfolding element_answers some_open answers_in answers
by_place_in ask part rest places marks here place it few told low is no_doc =
    below_same (suc (length rest)) _ _ (λ k h.
    ap (λ (more : List Reached). is_open marks k
    && ((tells (part_at (part ∷ rest) k) place && list_any (asked ask) (reached (drop k rest) it)) || list_any (asked ask) more))
    (no_element (part_at (part ∷ rest) k) (reached (drop k rest)) it (out-Value it) (roll-out-Value it) no_doc)
    ∙ and_assoc_false (is_open marks k) (tells (part_at (part ∷ rest) k) place) (list_any (asked ask) (reached (drop k rest) it))
    ∙ ap (λ b. b && list_any (asked ask) (reached (drop k rest) it))
    (sym (here_is places (part ∷ rest) marks here place few told low is k h)))

element_is : (ask : Ask) (parts : List (List ℕ)) (pairs : List (Pair Value)) (k : ℕ) → k < length parts
    → list_any (asked ask) (in_element (part_at parts k) (reached (drop (suc k) parts)) (out-Value (value.Doc pairs)))
    ≡ answers ask parts (value.Doc pairs) k
unfolding answers_behind
element_is ask parts pairs k h =
    ap (λ layer. list_any (asked ask) (in_element (part_at parts k) (reached (drop (suc k) parts)) layer)) (value.outs-Doc pairs)
    ∙ sym (in_document ask parts pairs k h)

and_both : (o t a b : Bool) → (o && ((t && a) || b)) ≡ (((o && t) && a) || (o && b))
and_both true t a b = refl
and_both false t a b = refl

or_over : (o h a : Bool) → ((o || h) && a) ≡ ((o && a) || (h && a))
or_over true true true = refl
or_over true true false = refl
or_over true false true = refl
or_over true false false = refl
or_over false h a = refl

moved : (y h z x : Bool) → ((y || h) || (z || x)) ≡ (h || (z || (x || y)))
moved true true z x = refl
moved true false true x = refl
moved true false false true = refl
moved true false false false = refl
moved false true z x = refl
moved false false true x = refl
moved false false false true = refl
moved false false false false = refl

by_document_in : (ask : Ask) (part : List ℕ) (rest : List (List ℕ)) (places : List (Option ℕ)) (marks here all : List Bool) (place : ℕ)
    (pairs : List (Pair Value)) → length (part ∷ rest) ≤ 100 → ArePlaces places marks (part ∷ rest) → place < 2 ^ 64
    → Here places marks here place
    → ((k : ℕ) → k < 101 → is_open all k ≡ joined_at marks here k)
    → element_answers ask (part ∷ rest) marks place (value.Doc pairs)
    ≡ ((is_open here (length rest) && asked ask (Found (value.Doc pairs)))
    || some_open all (length (part ∷ rest)) (answers ask (part ∷ rest) (value.Doc pairs)))
unfolding element_answers some_open answers_in
by_document_in ask part rest places marks here all place pairs few told low is joined =
    below_same (suc m) _ _ (λ k h.
    ap (λ b. is_open marks k && ((tells (part_at (part ∷ rest) k) place && test (suc k)) || b)) (element_is ask (part ∷ rest) pairs k h)
    ∙ and_both (is_open marks k) (tells (part_at (part ∷ rest) k) place) (test (suc k)) (test k)
    ∙ ap (λ b. (b && test (suc k)) || (is_open marks k && test k))
    (sym (here_is places (part ∷ rest) marks here place few told low is k h)))
    ∙ below_or (suc m) (λ k. is_open here k && test (suc k)) (λ k. is_open marks k && test k)
    ∙ ap (λ b. any_below (suc m) (λ k. is_open here k && test (suc k)) || b) (below_first m (λ k. is_open marks k && test k))
    ∙ moved (any_below m (λ k. is_open here k && test (suc k))) (is_open here m && test (suc m)) (is_open marks 0 && test 0)
    (any_below m (λ k. is_open marks (suc k) && test (suc k)))
    ∙ ap (λ b. (is_open here m && test (suc m)) || ((is_open marks 0 && test 0) || b))
    (sym (below_or m (λ k. is_open marks (suc k) && test (suc k)) (λ k. is_open here k && test (suc k)))
    ∙ below_same m _ _ (λ k h. sym (or_over (is_open marks (suc k)) (is_open here k) (test (suc k)))
    ∙ ap (λ b. b && test (suc k)) (sym (joined (suc k) (omega arith)))))
    ∙ ap (λ b. (is_open here m && test (suc m)) || ((b && test 0) || any_below m (λ k. is_open all (suc k) && test (suc k))))
    (sym (joined 0 (omega arith)))
    ∙ ap (λ b. (is_open here m && test (suc m)) || b) (sym (below_first m (λ k. is_open all k && test k)))
    ∙ ap (λ b. (is_open here m && b) || any_below (suc m) (λ k. is_open all k && test k)) (ended ask (part ∷ rest) (value.Doc pairs))
  where
    m : ℕ
    m = length rest

    test : ℕ → Bool
    test = answers ask (part ∷ rest) (value.Doc pairs)

pub no_part : (ask : Ask) (parts : List (List ℕ)) (marks : List Bool) (place : ℕ) (it : Value) → length parts ≡ 0
    → element_answers ask parts marks place it ≡ false
unfolding element_answers some_open
no_part ask [] marks place it none = refl
no_part ask (part ∷ rest) marks place it none = absurd (omega (arith, none))

pub by_place : (ask : Ask) (parts : List (List ℕ)) (part : List ℕ) (rest : List (List ℕ)) (places : List (Option ℕ))
    (marks here : List Bool) (place : ℕ) (it : Value) → parts ≡ part ∷ rest → length parts ≤ 100 → ArePlaces places marks parts
    → place < 2 ^ 64 → Here places marks here place → NotDoc it
    → element_answers ask parts marks place it ≡ some_open here (suc (length rest)) (answers ask rest it)
by_place ask parts part rest places marks here place it whole few told low is no_doc =
    subst (λ (ps : List (List ℕ)). length ps ≤ 100 → ArePlaces places marks ps
    → element_answers ask ps marks place it ≡ some_open here (suc (length rest)) (answers ask rest it)) (sym whole)
    (λ f t. by_place_in ask part rest places marks here place it f t low is no_doc) few told

pub by_document : (ask : Ask) (parts : List (List ℕ)) (part : List ℕ) (rest : List (List ℕ)) (places : List (Option ℕ))
    (marks here all : List Bool) (place : ℕ) (it : Value) (pairs : List (Pair Value)) → parts ≡ part ∷ rest → it ≡ value.Doc pairs
    → length parts ≤ 100 → ArePlaces places marks parts → place < 2 ^ 64 → Here places marks here place
    → ((k : ℕ) → k < 101 → is_open all k ≡ joined_at marks here k)
    → element_answers ask parts marks place it
    ≡ ((is_open here (length rest) && asked ask (Found it)) || some_open all (length parts) (answers ask parts (value.Doc pairs)))
by_document ask parts part rest places marks here all place it pairs whole is_doc few told low is joined =
    subst (λ (ps : List (List ℕ)). length ps ≤ 100 → ArePlaces places marks ps
    → element_answers ask ps marks place it
    ≡ ((is_open here (length rest) && asked ask (Found it)) || some_open all (length ps) (answers ask ps (value.Doc pairs))))
    (sym whole)
    (λ f t. subst (λ (v : Value). element_answers ask (part ∷ rest) marks place v
    ≡ ((is_open here (length rest) && asked ask (Found v))
    || some_open all (length (part ∷ rest)) (answers ask (part ∷ rest) (value.Doc pairs)))) (sym is_doc)
    (by_document_in ask part rest places marks here all place pairs f t low is joined)) few told
