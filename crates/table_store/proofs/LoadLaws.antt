-- The laws of loading.
use Rattle.std.proofs.Common.{◌≡◌, ℕ, Bool, true, false, MatchBool, List, [], ◌∷◌, ◌++◌, refl, ap, sym, ◌∙◌, subst, append_assoc, append-nil}
use Rattle.std.specs.List.{AllZip}
use Rattle.jsonb_contain.specs.declared.value.Json.{Json}
use Rattle.jsonb_contain.specs.Texts.{data_of}
use Rattle.serde_json.specs.Written.{compact_text}
use Rattle.outside.specs.declared.kept.KeptRow.{KeptRow}
use Rattle.outside.specs.declared.kept.KeptTable.{KeptTable}
use Rattle.table_rows.specs.declared.listed.Placed.{Placed}
use Rattle.table_words.specs.Tables.{Table}
use Rattle.table_store.specs.Loading.{EachGood, GoodRow, FaultyRow, follows, GoodTable, IsPlaced, IsTableOf}
use Rattle.table_store.specs.LoadingLaws.{OneState, NoFault, OneFault}
use Rattle.table_store.proofs.Behind.{each-at}
use Rattle.table_store.proofs.RowLoads.{same-json}

-- ---- one state

zip-one : {A B : Type 0} (R : A → B → Type 0) → ((x : A) (y z : B) → R x y → R x z → y ≡ z) → (xs : List A) (ys zs : List B)
    → AllZip R xs ys → AllZip R xs zs → ys ≡ zs
zip-one R one [] [] [] first second = refl
zip-one R one [] [] (z ∷ zs) first second = absurd second
zip-one R one [] (y ∷ ys) zs first second = absurd first
zip-one R one (x ∷ xs) [] zs first second = absurd first
zip-one R one (x ∷ xs) (y ∷ ys) [] first second = absurd second
zip-one R one (x ∷ xs) (y ∷ ys) (z ∷ zs) first second = λ i. one x y z first.0 second.0 i ∷ zip-one R one xs ys zs first.1 second.1 i

placed-one : (k : KeptRow) (p q : Placed) → IsPlaced k p → IsPlaced k q → p ≡ q
placed-one k p q first second =
    let place = first.place ∙ sym second.place in
    let key = (first.is).under ∙ sym (second.is).under in
    let json = same-json k.text p.row.json q.row.json (first.is).reads (second.is).reads in
    let text = ((first.is).sound).text ∙ ap (λ (j : Json). compact_text (data_of j)) json ∙ sym ((second.is).sound).text in
    λ i. record { place = place i; row = record { key = key i; json = json i; text = text i } }

table-one : (k : KeptTable) (t u : Table) → IsTableOf k t → IsTableOf k u → t ≡ u
table-one k t u first second =
    let number = first.number ∙ sym second.number in
    let stamp = first.stamp ∙ sym second.stamp in
    let space = first.space ∙ sym second.space in
    let rows = zip-one IsPlaced placed-one k.rows t.rows u.rows first.rows second.rows in
    λ i. record { number = number i; stamp = stamp i; space = space i; rows = rows i }

pub one_state : OneState
one_state kept s t first second =
    let live = zip-one IsTableOf table-one kept s.live t.live first.tables second.tables in
    let next = first.next ∙ sym second.next in
    λ i. record { live = live i; next = next i }

-- ---- one fault

pub no_fault : NoFault
no_fault kept s number place loaded fault =
    let first = fault.first in
    first.bad (each-at GoodTable [] fault.before first.rest fault.table (subst (EachGood GoodTable []) first.is loaded.good))

-- two that are the first which is not good are one
first-one : {A : Type 0} (Good : List A → A → Type 0) (front before other rest more : List A) (x y : A)
    → before ++ x ∷ rest ≡ other ++ y ∷ more
    → EachGood Good front before → EachGood Good front other → (Good (front ++ before) x → ⊥) → (Good (front ++ other) y → ⊥)
    → (before ≡ other) × (x ≡ y)
first-one Good front [] [] rest more x y is one two bad worse = (refl, cc)
first-one Good front [] (o ∷ os) rest more x y is one two bad worse =
    let same : o ≡ x = cc in
    absurd (bad (subst (λ z. Good (front ++ []) z) same (subst (λ f. Good f o) (sym (append-nil front)) two.0)))
first-one Good front (b ∷ bs) [] rest more x y is one two bad worse =
    let same : b ≡ y = cc in
    absurd (worse (subst (λ z. Good (front ++ []) z) same (subst (λ f. Good f b) (sym (append-nil front)) one.0)))
first-one Good front (b ∷ bs) (o ∷ os) rest more x y is one two bad worse =
    let same : o ≡ b = cc in
    let others : bs ++ x ∷ rest ≡ os ++ y ∷ more = cc in
    let goes = subst (λ z. EachGood Good (front ++ z ∷ []) os) same two.1 in
    let both = first-one Good (front ++ b ∷ []) bs os rest more x y others one.1 goes
    (λ good. bad (subst (λ f. Good f x) (append_assoc front (b ∷ []) bs) good))
    (λ good. worse (subst (λ z. Good (front ++ z ∷ os) y) (sym same) (subst (λ f. Good f y) (append_assoc front (b ∷ []) os) good))) in
    (λ i. (sym same) i ∷ both.0 i, both.1)

row-one : (rows : List KeptRow) (p q : ℕ) → FaultyRow rows p → FaultyRow rows q → p ≡ q
row-one rows p q first second =
    let one = first.2 in
    let two = second.2 in
    let same = sym one.is ∙ two.is in
    let both = first-one GoodRow [] first.0 second.0 one.rest two.rest first.1 second.1 same one.good two.good one.bad two.bad in
    sym first.3 ∙ ap (λ (row : KeptRow). row.place) both.1 ∙ second.3

place-one : (may : Bool) (rows : List KeptRow) (p q : ℕ) → MatchBool may (FaultyRow rows p) (p ≡ 0)
    → MatchBool may (FaultyRow rows q) (q ≡ 0) → p ≡ q
place-one true rows p q first second = row-one rows p q first second
place-one false rows p q first second = first ∙ sym second

pub one_fault : OneFault
one_fault kept m n p q first second =
    let one = first.first in
    let two = second.first in
    let same = sym one.is ∙ two.is in
    let both = first-one GoodTable [] first.before second.before one.rest two.rest first.table second.table same
    one.good two.good one.bad two.bad in (
      sym first.of ∙ ap (λ (t : KeptTable). t.number) both.1 ∙ second.of,
      place-one (follows first.before first.table) first.table.rows p q first.at (at both second.at),
    )
  where
    at : (both : (first.before ≡ second.before) × (first.table ≡ second.table))
        → MatchBool (follows second.before second.table) (FaultyRow second.table.rows q) (q ≡ 0)
        → MatchBool (follows first.before first.table) (FaultyRow first.table.rows q) (q ≡ 0)
    at both it =
        subst (λ (b : List KeptTable). MatchBool (follows b first.table) (FaultyRow first.table.rows q) (q ≡ 0)) (sym both.0)
        (subst (λ (t : KeptTable). MatchBool (follows second.before t) (FaultyRow t.rows q) (q ≡ 0)) (sym both.1) it)
