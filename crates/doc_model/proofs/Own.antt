-- Documents whose `_id`s are their own, under exchanges, removals and one that goes last.
use Rattle.std.proofs.Common.{◌≡◌, ◌≢◌, Bool, true, false, List, [], ◌∷◌, ◌++◌, Option, None, Some, refl, ap, ◌∙◌}
use Rattle.std.specs.declared.cmp.Ordering.{Ordering}
use Rattle.std.specs.declared.cmp.Ordering.TheVariants.{Less, Equal, Greater}
use Rattle.std.specs.Ordering.{is_eq}
use Rattle.std.specs.List.{filter}
use Rattle.std.proofs.lemmas.Bool.{or_parts, or_from}
use Rattle.bson_values.specs.declared.value.Value.{Value}
use Rattle.filter_syntax.specs.Meaning.{Doc}
use Rattle.bson_order.specs.Order.{compared, is_same}
use Rattle.bson_order.proofs.Total.{compared_total}
use Rattle.bson_order.proofs.Places.{reflexive, is_same_swaps}
use Rattle.doc_model.specs.Store.{are_same, same_id, has_id}
use Rattle.doc_model.specs.Change.{id_in, with_new, exchanged, without_old, without_any}
use Rattle.doc_model.specs.Laws.{HaveOwnIds}

-- ---- which `_id`s are the same

tied : (found : Ordering) → is_eq found ≡ true → found ≡ Equal
tied Less is = absurd cc
tied Equal is = refl
tied Greater is = absurd cc

itself : (a : Value) → is_same a a ≡ true
unfolding is_same
itself a = ap is_eq (reflexive a)

alike : (a b c : Value) → is_same a b ≡ true → is_same a c ≡ is_same b c
unfolding is_same
alike a b c same = ap is_eq (compared_total.congr a b c (tied (compared a b) same))

same-itself : (a : Option Value) → a ≢ None → are_same a a ≡ true
same-itself None named = absurd (named refl)
same-itself (Some it) named = itself it

same-alike : (a b c : Option Value) → are_same a b ≡ true → are_same a c ≡ are_same b c
same-alike None None c same = refl
same-alike None (Some b) c same = absurd cc
same-alike (Some a) None c same = absurd cc
same-alike (Some a) (Some b) None same = refl
same-alike (Some a) (Some b) (Some c) same = alike a b c same

-- the order of the two says nothing
same-swaps : (a b : Option Value) → are_same a b ≡ are_same b a
same-swaps (Some one) (Some other) = is_same_swaps one other
same-swaps None None = refl
same-swaps None (Some other) = refl
same-swaps (Some one) None = refl

same-named : (a b : Option Value) → are_same a b ≡ true → a ≢ None
same-named None None same = absurd cc
same-named None (Some b) same = absurd cc
same-named (Some a) b same = λ is. absurd cc

id-swaps : (a b : Doc) → same_id a b ≡ same_id b a
id-swaps a b = same-swaps (id_in a) (id_in b)

id-alike : (a b c : Doc) → same_id a b ≡ true → same_id a c ≡ same_id b c
id-alike a b c = same-alike (id_in a) (id_in b) (id_in c)

has-alike : (a b : Doc) (docs : List Doc) → same_id a b ≡ true → has_id b docs ≡ false → has_id a docs ≡ false
has-alike a b [] same none = refl
has-alike a b (d ∷ ds) same none =
    let parts = or_parts (same_id b d) (has_id b ds) none in
    or_from (same_id a d) (has_id a ds) (id-alike a b d same ∙ parts.0) (has-alike a b ds same parts.1)

-- ---- a document that has none of the `_id`s goes last

not-last : (one doc : Doc) (docs : List Doc) → has_id one docs ≡ false → same_id doc one ≡ false → has_id one (docs ++ doc ∷ []) ≡ false
not-last one doc [] none apart = rw (id-swaps one doc, apart) refl
not-last one doc (d ∷ ds) none apart =
    let parts = or_parts (same_id one d) (has_id one ds) none in
    or_from (same_id one d) (has_id one (ds ++ doc ∷ [])) parts.0 (not-last one doc ds parts.1 apart)

pub own-last : (doc : Doc) (docs : List Doc) → id_in doc ≢ None → HaveOwnIds docs → has_id doc docs ≡ false → HaveOwnIds (docs ++ doc ∷ [])
own-last doc [] named own new = (named, refl, tt)
own-last doc (d ∷ ds) named own new =
    let parts = or_parts (same_id doc d) (has_id doc ds) new in
    (own.0, not-last d doc ds own.1 parts.0, own-last doc ds named own.2 parts.1)

-- ---- one takes the place of that which has its `_id`

none-new : (one new : Doc) (docs : List Doc) → has_id one docs ≡ false → has_id one (with_new new docs) ≡ false
none-new one new [] none = refl
none-new one new (d ∷ ds) none =
    let parts = or_parts (same_id one d) (has_id one ds) none in
    cases (same_id new d) refl parts.0 parts.1 (none-new one new ds parts.1)
  where
    cases : (b : Bool) → same_id new d ≡ b → same_id one d ≡ false → has_id one ds ≡ false → has_id one (with_new new ds) ≡ false
        → has_id one (with_new new (d ∷ ds)) ≡ false
    cases true e apart others rest =
        rw e (or_from (same_id one new) (has_id one ds) (id-swaps one new ∙ (id-alike new d one e ∙ (id-swaps d one ∙ apart))) others)
    cases false e apart others rest = rw e (or_from (same_id one d) (has_id one (with_new new ds)) apart rest)

own-new : (new : Doc) (docs : List Doc) → HaveOwnIds docs → HaveOwnIds (with_new new docs)
own-new new [] own = tt
own-new new (d ∷ ds) own = cases (same_id new d) refl (own-new new ds own.2)
  where
    cases : (b : Bool) → same_id new d ≡ b → HaveOwnIds (with_new new ds) → HaveOwnIds (with_new new (d ∷ ds))
    cases true e rest = rw e (same-named (id_in new) (id_in d) e, has-alike new d ds e own.1, own.2)
    cases false e rest = rw e (own.0, none-new d new ds own.1, rest)

pub own-exchanged : (news docs : List Doc) → HaveOwnIds docs → HaveOwnIds (exchanged news docs)
own-exchanged [] docs own = own
own-exchanged (new ∷ news) docs own = own-exchanged news (with_new new docs) (own-new new docs own)

-- ---- that which has the `_id` of one goes

none-old : (one old : Doc) (docs : List Doc) → has_id one docs ≡ false → has_id one (without_old old docs) ≡ false
none-old one old [] none = refl
none-old one old (d ∷ ds) none =
    let parts = or_parts (same_id one d) (has_id one ds) none in
    cases (same_id old d) refl parts.0 parts.1 (none-old one old ds parts.1)
  where
    cases : (b : Bool) → same_id old d ≡ b → same_id one d ≡ false → has_id one ds ≡ false → has_id one (without_old old ds) ≡ false
        → has_id one (without_old old (d ∷ ds)) ≡ false
    cases true e apart others rest = rw e others
    cases false e apart others rest = rw e (or_from (same_id one d) (has_id one (without_old old ds)) apart rest)

own-old : (old : Doc) (docs : List Doc) → HaveOwnIds docs → HaveOwnIds (without_old old docs)
own-old old [] own = tt
own-old old (d ∷ ds) own = cases (same_id old d) refl (own-old old ds own.2)
  where
    cases : (b : Bool) → same_id old d ≡ b → HaveOwnIds (without_old old ds) → HaveOwnIds (without_old old (d ∷ ds))
    cases true e rest = rw e own.2
    cases false e rest = rw e (own.0, none-old d old ds own.1, rest)

pub own-without : (olds docs : List Doc) → HaveOwnIds docs → HaveOwnIds (without_any olds docs)
own-without [] docs own = own
own-without (old ∷ olds) docs own = own-without olds (without_old old docs) (own-old old docs own)

-- ---- where all go that a test holds of, it holds of none that stays

-- one that has the `_id` of none of these stays
stays : (one : Doc) (olds docs : List Doc) → has_id one olds ≡ false → without_any olds (one ∷ docs) ≡ one ∷ without_any olds docs
stays one [] docs none = refl
stays one (old ∷ olds) docs none =
    let parts = or_parts (same_id one old) (has_id one olds) none in
    rw (id-swaps old one, parts.0) (stays one olds (without_old old docs) parts.1)

none-chosen : (p : Doc → Bool) (one : Doc) (docs : List Doc) → has_id one docs ≡ false → has_id one (filter p docs) ≡ false
none-chosen p one [] none = refl
none-chosen p one (d ∷ ds) none =
    let parts = or_parts (same_id one d) (has_id one ds) none in
    cases (p d) refl parts.0 (none-chosen p one ds parts.1)
  where
    cases : (b : Bool) → p d ≡ b → same_id one d ≡ false → has_id one (filter p ds) ≡ false → has_id one (filter p (d ∷ ds)) ≡ false
    cases true e apart rest = rw e (or_from (same_id one d) (has_id one (filter p ds)) apart rest)
    cases false e apart rest = rw e rest

chosen : (p : Doc → Bool) (d : Doc) (ds : List Doc) → p d ≡ true → filter p (d ∷ ds) ≡ d ∷ filter p ds
chosen p d ds e = rw e refl

passed : (p : Doc → Bool) (d : Doc) (ds : List Doc) → p d ≡ false → filter p (d ∷ ds) ≡ filter p ds
passed p d ds e = rw e refl

first-gone : (d : Doc) (ds : List Doc) → same_id d d ≡ true → without_old d (d ∷ ds) ≡ ds
first-gone d ds e = rw e refl

pub all-gone : (p : Doc → Bool) (docs : List Doc) → HaveOwnIds docs → filter p (without_any (filter p docs) docs) ≡ []
all-gone p [] own = refl
all-gone p (d ∷ ds) own = cases (p d) refl (all-gone p ds own.2)
  where
    cases : (b : Bool) → p d ≡ b → filter p (without_any (filter p ds) ds) ≡ [] → filter p (without_any (filter p (d ∷ ds)) (d ∷ ds)) ≡ []
    cases true e rest =
        ap (λ olds. filter p (without_any olds (d ∷ ds))) (chosen p d ds e)
        ∙ ap (λ docs. filter p (without_any (filter p ds) docs)) (first-gone d ds (same-itself (id_in d) own.0)) ∙ rest
    cases false e rest =
        ap (λ olds. filter p (without_any olds (d ∷ ds))) (passed p d ds e)
        ∙ ap (filter p) (stays d (filter p ds) ds (none-chosen p d ds own.1))
        ∙ passed p d (without_any (filter p ds) ds) e ∙ rest
