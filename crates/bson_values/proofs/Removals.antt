-- The first places of names, once one of the names is taken out.
use Rattle.std.proofs.Common.{◌≡◌, ℕ, ◌+◌, zero, suc, Bool, true, false, cond, nat_eq, List, [], ◌∷◌, ◌++◌}
use Rattle.std.proofs.Common.{Option, None, Some, take, drop, refl, sym, ap, subst, ◌∙◌, arith, slice_get, option_map, if◌then◌else◌}
use Rattle.std.proofs.lemmas.Grind.{common_steps}
use Rattle.std.proofs.lemmas.Slice.Eq.{bytes_eq-Decides}
use Rattle.std.proofs.lemmas.List.{map-append, drop-map, take-map}
use Rattle.std.proofs.lemmas.Option.{slice_get-map}
use Rattle.std.specs.BTreeMap.{BTreeMap}
use Rattle.std.specs.Option.{option_eq}
use Rattle.std.specs.Str.{bytes_eq}
use Rattle.std.specs.declared.alloc.Global.{Global}
use Rattle.std.specs.declared.string.String.{String}
use Rattle.bson_values.specs.declared.pairs.Pair.{Pair}
use Rattle.bson_values.specs.Names.{first_place, names}
use Rattle.bson_values.specs.Places.{Indexes, lowered, next_place, without}

-- ---- places, one further

-- this is the place that was found
abbrev pub is_here : Option ℕ → ℕ → Bool
is_here found place = option_eq nat_eq found (Some place)

-- the place after a removal at `gone`: the next one, where what was found is gone
abbrev after : ℕ → Option ℕ → Option ℕ → Option ℕ
after gone found next = cond (is_here found gone) next (option_map (lowered gone) found)

from_start : (found : Option ℕ) → option_map (λ n. n + 0) found ≡ found
from_start None = refl
from_start (Some n) = ap Some (omega arith)

at_start : (found next : Option ℕ) → after zero (option_map (λ n. n + 1) found) next ≡ found
at_start None next = refl
at_start (Some n) next = grind (arith, common_steps)

before : (place : ℕ) (next : Option ℕ) → after (suc place) (Some 0) next ≡ Some 0
before place next = grind (arith, common_steps)

one_further : (found : Option ℕ) (place : ℕ)
    → option_map (λ n. n + suc place) found ≡ option_map (λ n. n + 1) (option_map (λ n. n + place) found)
one_further None place = refl
one_further (Some n) place = ap Some (omega arith)

behind : (found : Option ℕ) (place : ℕ) (next : Option ℕ)
    → after (suc place) (option_map (λ n. n + 1) found) (option_map (λ n. n + 1) next) ≡ option_map (λ n. n + 1) (after place found next)
behind None place next = refl
behind (Some n) place next = grind (arith, common_steps)

-- ---- lists, one further

without-first : {A : Type 0} (x : A) (xs : List A) → without zero (x ∷ xs) ≡ xs
without-first x xs = let one : 0 + 1 ≡ suc zero = omega arith in ap (λ n. drop n (x ∷ xs)) one

drop-further : {A : Type 0} (place : ℕ) (x : A) (xs : List A) → drop (suc place + 1) (x ∷ xs) ≡ drop (place + 1) xs
drop-further place x xs = let one : suc place + 1 ≡ suc (place + 1) = omega arith in ap (λ n. drop n (x ∷ xs)) one

without-further : {A : Type 0} (place : ℕ) (x : A) (xs : List A) → without (suc place) (x ∷ xs) ≡ x ∷ without place xs
without-further place x xs = ap (λ rest. x ∷ take place xs ++ rest) (drop-further place x xs)

-- ---- a name is taken out

-- where a name stands first, once the name at a place is taken out
gone : (name : List ℕ) (names : List (List ℕ)) (place : ℕ)
    → after place (first_place name names) (next_place name place names) ≡ first_place name (without place names)
gone name [] zero = refl
gone name [] (suc place) =
    let one : suc place + 1 ≡ suc (place + 1) = omega arith in ap (λ n. first_place name (drop {A = List ℕ} n [])) (sym one)
gone name (x ∷ xs) zero = by (bytes_eq x name) ∙ ap (first_place name) (sym (without-first x xs))
  where
    next : next_place name zero (x ∷ xs) ≡ first_place name xs
    next = from_start (first_place name (drop (0 + 1) (x ∷ xs))) ∙ ap (first_place name) (without-first x xs)

    by : (b : Bool)
        → after zero (if b then Some 0 else option_map (λ n. n + 1) (first_place name xs)) (next_place name zero (x ∷ xs))
        ≡ first_place name xs
    by true = next
    by false = at_start (first_place name xs) (next_place name zero (x ∷ xs))
gone name (x ∷ xs) (suc place) = by (gone name xs place) (bytes_eq x name) ∙ ap (first_place name) (sym (without-further place x xs))
  where
    next : next_place name (suc place) (x ∷ xs) ≡ option_map (λ n. n + 1) (next_place name place xs)
    next =
        ap (λ rest. option_map (λ n. n + suc place) (first_place name rest)) (drop-further place x xs)
        ∙ one_further (first_place name (drop (place + 1) xs)) place

    by : after place (first_place name xs) (next_place name place xs) ≡ first_place name (without place xs) → (b : Bool)
        → after (suc place) (if b then Some 0 else option_map (λ n. n + 1) (first_place name xs)) (next_place name (suc place) (x ∷ xs))
        ≡ (if b then Some 0 else option_map (λ n. n + 1) (first_place name (without place xs)))
    by more true = before place (next_place name (suc place) (x ∷ xs))
    by more false =
        ap (after (suc place) (option_map (λ n. n + 1) (first_place name xs))) next
        ∙ behind (first_place name xs) place (next_place name place xs) ∙ ap (option_map (λ n. n + 1)) more

here-further : (found : Option ℕ) (place : ℕ) → is_here (option_map (λ n. n + 1) found) (suc place) ≡ true → is_here found place ≡ true
here-further None place is = is
here-further (Some n) place is = grind (arith, common_steps, is)

here-start : (found : Option ℕ) → is_here (option_map (λ n. n + 1) found) zero ≡ true → ⊥
here-start None is = cc
here-start (Some n) is = grind (arith, common_steps, is)

not_start : (place : ℕ) → is_here (Some 0) (suc place) ≡ true → ⊥
not_start place is = grind (arith, common_steps, is)

-- the first place of a name has that name
there : (name at : List ℕ) (names : List (List ℕ)) (place : ℕ) → slice_get names place ≡ Some at
    → is_here (first_place name names) place ≡ true → bytes_eq at name ≡ true
there name at [] place has is = cc
there name at (x ∷ xs) zero has is = by (bytes_eq x name) refl is
  where
    by : (b : Bool) → bytes_eq x name ≡ b → is_here (if b then Some 0 else option_map (λ n. n + 1) (first_place name xs)) zero ≡ true
        → bytes_eq at name ≡ true
    by true same here = let e : x ≡ at = cc in ap (λ y. bytes_eq y name) (sym e) ∙ same
    by false same here = absurd (here-start (first_place name xs) here)
there name at (x ∷ xs) (suc place) has is = by (there name at xs place has) (bytes_eq x name) is
  where
    by : (is_here (first_place name xs) place ≡ true → bytes_eq at name ≡ true) → (b : Bool)
        → is_here (if b then Some 0 else option_map (λ n. n + 1) (first_place name xs)) (suc place) ≡ true → bytes_eq at name ≡ true
    by more true here = absurd (not_start place here)
    by more false here = more (here-further (first_place name xs) place here)

-- another name than that at the place is not there
apart : (name at : List ℕ) (names : List (List ℕ)) (place : ℕ) → slice_get names place ≡ Some at → bytes_eq at name ≡ false
    → is_here (first_place name names) place ≡ false
apart name at names place has other = by (is_here (first_place name names) place) refl
  where
    by : (b : Bool) → is_here (first_place name names) place ≡ b → b ≡ false
    by false is = refl
    by true is = cc (there name at names place has is, other)

elsewhere : (name : List ℕ) (names : List (List ℕ)) (place : ℕ) → is_here (first_place name names) place ≡ false
    → option_map (lowered place) (first_place name names) ≡ first_place name (without place names)
elsewhere name names place is =
    ap (λ b. cond b (next_place name place names) (option_map (lowered place) (first_place name names))) (sym is) ∙ gone name names place

-- a name that stood first at the place stands at the next one, and others are lowered
pub forgot_first : (at : List ℕ) (names : List (List ℕ)) (place : ℕ) → slice_get names place ≡ Some at
    → is_here (first_place at names) place ≡ true
    → (name : List ℕ)
    → cond (bytes_eq at name) (next_place at place names) (option_map (lowered place) (first_place name names))
    ≡ first_place name (without place names)
forgot_first at names place has first name = by (bytes_eq at name) refl
  where
    same : at ≡ name → next_place at place names ≡ first_place name (without place names)
    same e =
        ap (λ b. cond b (next_place at place names) (option_map (lowered place) (first_place at names))) (sym first)
        ∙ gone at names place ∙ ap (λ y. first_place y (without place names)) e

    by : (b : Bool) → bytes_eq at name ≡ b
        → cond b (next_place at place names) (option_map (lowered place) (first_place name names)) ≡ first_place name (without place names)
    by true is = same ((bytes_eq-Decides at name).0 is)
    by false is = elsewhere name names place (apart name at names place has is)

-- where it stood before too, all are lowered
pub forgot_later : (at : List ℕ) (names : List (List ℕ)) (place : ℕ) → slice_get names place ≡ Some at
    → is_here (first_place at names) place ≡ false
    → (name : List ℕ) → option_map (lowered place) (first_place name names) ≡ first_place name (without place names)
forgot_later at names place has later name = by (bytes_eq at name) refl
  where
    by : (b : Bool) → bytes_eq at name ≡ b → option_map (lowered place) (first_place name names) ≡ first_place name (without place names)
    by true is = elsewhere name names place (ap (λ y. is_here (first_place y names) place) (sym ((bytes_eq-Decides at name).0 is)) ∙ later)
    by false is = elsewhere name names place (apart name at names place has is)

-- ---- a pair is taken out

-- behind the place of what is gone stands what stood behind it
behind-gone : {A : Type 0} (xs : List A) (place : ℕ) (x : A) → slice_get xs place ≡ Some x
    → drop place (without place xs) ≡ drop (place + 1) xs
behind-gone [] place x is = cc
behind-gone (y ∷ xs) zero x is = refl
behind-gone (y ∷ xs) (suc place) x is =
    ap (λ rest. drop place (take place xs ++ rest)) (drop-further place y xs) ∙ behind-gone xs place x is ∙ sym (drop-further place y xs)

-- the names are those without the one at the place
names-gone : {V : Type 0} (pairs : List (Pair V)) (place : ℕ) → names (without place pairs) ≡ without place (names pairs)
names-gone {V} pairs place =
    let name : Pair V → List ℕ = λ pair. pair.name in
    map-append name (take place pairs) (drop (place + 1) pairs)
    ∙ ap (λ front. front ++ names (drop (place + 1) pairs)) (sym (take-map name place pairs))
    ∙ ap (λ rest. take place (names pairs) ++ rest) (sym (drop-map name (place + 1) pairs))

-- what tells the places of names does so of pairs, one of which is taken out
pub removed : {V : Type 0} (pairs left : List (Pair V)) (place : ℕ) (pair : Pair V) (old new : BTreeMap (String Global) ℕ) (next : Option ℕ)
    → slice_get pairs place ≡ Some pair → left ≡ without place pairs
    → next ≡ option_map (λ further. further + place) (first_place pair.name (names (drop place left)))
    → ((ns : List (List ℕ)) → slice_get ns place ≡ Some pair.name → next ≡ next_place pair.name place ns → Indexes old ns
    → Indexes new (without place ns))
    → Indexes old (names pairs) → Indexes new (names left)
removed {V} pairs left place pair old new next has rest is forget tells =
    let name : Pair V → List ℕ = λ p. p.name in
    let at = slice_get-map name pairs place ∙ ap (option_map name) has in
    let behind_it = ap (drop place) rest ∙ behind-gone pairs place pair has in
    let further = is ∙ ap (λ ps. option_map (λ n. n + place) (first_place pair.name (names ps))) behind_it
    ∙ ap (λ ns. option_map (λ n. n + place) (first_place pair.name ns)) (sym (drop-map name (place + 1) pairs)) in
    subst (Indexes new) (sym (ap names rest ∙ names-gone pairs place)) (forget (names pairs) at further tells)
