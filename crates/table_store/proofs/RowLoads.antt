-- Kept rows, as they are loaded one after another.
use Rattle.std.proofs.Common.{◌≡◌, ℕ, ◌+◌, ◌≤◌, nat_lt, nat_le, codes, true, false, not, ◌&&◌, ◌||◌, List, [], ◌∷◌, ◌++◌, Option, None, Some, refl, ap, sym, ◌∙◌, subst, arith}
use Rattle.std.proofs.lemmas.Bool.{and_parts, and_from, leb-true, not-true}
use Rattle.std.proofs.lemmas.Bool.Decides.{nat_tests}
use Rattle.std.proofs.lemmas.List.{map-append}
use Rattle.std.proofs.lemmas.Slice.Eq.{bytes_eq-Decides}
use Rattle.std.specs.List.{AllZip}
use Rattle.std.specs.Str.{bytes_eq}
use Rattle.std_words.proofs.Tests.{never-both}
use Rattle.bson_spelling.specs.Spelling.{key}
use Rattle.bson_values.specs.declared.pairs.Pair.{Pair}
use Rattle.bson_values.specs.declared.value.Value.{Value, out-Value}
use Rattle.bson_values.specs.Names.{first_of}
use Rattle.jsonb_contain.specs.declared.value.Json.{Json}
use Rattle.jsonb_contain.specs.Texts.{data_of, read_json}
use Rattle.serde_json.specs.Written.{compact_text}
use Rattle.naming.specs.Ids.{can_be_id}
use Rattle.outside.specs.declared.kept.KeptRow.{KeptRow}
use Rattle.table_rows.specs.declared.listed.Listed.{Listed}
use Rattle.table_rows.specs.declared.listed.Placed.{Placed}
use Rattle.table_rows.specs.declared.row.Row.{Row}
use Rattle.table_rows.specs.Rows.{above, has_key}
use Rattle.table_words.specs.Tables.{LAST_NUMBER, has_text}
use Rattle.typed_json.specs.Laws.{IsRowOf}
use Rattle.typed_json.proofs.Rows.{one_document}
use Rattle.table_store.specs.Loading.{past, places, keys, IsRead, may_stand, GoodRow, FaultyRow, IsPlaced, stamp_of}
use Rattle.table_store.specs.LoadingSteps.{is_key_of, keys_in, AddsRow, HasRows}
use Rattle.table_store.proofs.Past.{past-last}
use Rattle.table_store.proofs.Behind.{each-last, zip-last}

-- ---- the row of a text

-- a text has one JSON
pub same-json : (text : List ℕ) (one other : Json) → read_json text ≡ Some one → read_json text ≡ Some other → one ≡ other
same-json text one other first second = let same : Some one ≡ Some other = sym first ∙ second in cc

-- the key of the first `_id`
pub is-key : (id : Option Value) (bytes : List ℕ) → is_key_of id bytes ≡ true
    → (it : Value) × (id ≡ Some it) × (can_be_id (out-Value it) ≡ true) × (bytes ≡ key it)
is-key None bytes is = absurd cc
is-key (Some it) bytes is =
    let both = and_parts (can_be_id (out-Value it)) (bytes_eq (key it) bytes) is in
    (it, refl, both.0, sym ((bytes_eq-Decides (key it) bytes).0 both.1))

own-key : (id : Option Value) (bytes : List ℕ) (it : Value) → id ≡ Some it → can_be_id (out-Value it) ≡ true → bytes ≡ key it
    → is_key_of id bytes ≡ true
own-key id bytes it is may own =
    let same = (bytes_eq-Decides (key it) bytes).1 (sym own) in
    subst (λ o. is_key_of o bytes ≡ true) (sym is) (and_from (can_be_id (out-Value it)) (bytes_eq (key it) bytes) may same)

pub not-keyed : (bytes text : List ℕ) (json : Json) (doc : List (Pair Value)) → read_json text ≡ Some json → IsRowOf json doc
    → is_key_of (first_of (codes "_id") doc) bytes ≡ false
    → (row : Row) → IsRead bytes text row → ⊥
not-keyed bytes text json doc reads is none row read =
    let sound = read.sound in
    let same : row.json ≡ json = same-json text row.json json read.reads reads in
    let one : sound.doc ≡ doc = one_document json sound.doc doc (subst (λ (j : Json). IsRowOf j sound.doc) same sound.json) is in
    let id : first_of (codes "_id") doc ≡ Some sound.id = ap (first_of (codes "_id")) (sym one) ∙ sound.has_id in
    let keyed = own-key (first_of (codes "_id") doc) bytes sound.id id sound.may (sym read.under ∙ sound.key_is) in
    never-both (is_key_of (first_of (codes "_id") doc) bytes) keyed none

pub row-read : (bytes text : List ℕ) (json : Json) (doc : List (Pair Value)) (row : Row) → read_json text ≡ Some json → IsRowOf json doc
    → is_key_of (first_of (codes "_id") doc) bytes ≡ true → row.key ≡ bytes → row.json ≡ json → row.text ≡ compact_text (data_of json)
    → IsRead bytes text row
row-read bytes text json doc row reads is keyed under same written =
    let id = is-key (first_of (codes "_id") doc) bytes keyed in record {
      under = under;
      reads = reads ∙ ap Some (sym same);
      sound = record {
        doc = doc;
        json = subst (λ (j : Json). IsRowOf j doc) (sym same) is;
        text = written ∙ ap (λ (j : Json). compact_text (data_of j)) (sym same);
        id = id.0;
        has_id = id.1;
        may = id.2;
        key_is = under ∙ id.3;
      };
    }

-- ---- where a row may stand

pub key_in : (bytes : List ℕ) (ps : List Placed) → has_key bytes ps ≡ has_text bytes (keys_in ps)
key_in bytes [] = refl
key_in bytes (p ∷ ps) = ap (λ b. bytes_eq bytes p.row.key || b) (key_in bytes ps)

pub record Stands (least : ℕ) (taken : List (List ℕ)) (kept : KeptRow) : Type 0 where
  pub low : least ≤ kept.place
  pub high : kept.place ≤ LAST_NUMBER
  pub new : has_text kept.key taken ≡ false

pub stands : (least : ℕ) (taken : List (List ℕ)) (kept : KeptRow) → may_stand least taken kept ≡ true → Stands least taken kept
stands least taken kept may =
    let outer = and_parts (nat_le least kept.place && nat_le kept.place LAST_NUMBER) (not (has_text kept.key taken)) may in
    let inner = and_parts (nat_le least kept.place) (nat_le kept.place LAST_NUMBER) outer.0 in record {
      low = leb-true least kept.place inner.0;
      high = leb-true kept.place LAST_NUMBER inner.1;
      new = not-true (has_text kept.key taken) outer.1;
    }

pub above-more : (least place : ℕ) (ps : List Placed) → least ≤ place → above least ps ≡ true → above place ps ≡ true
above-more least place [] le is = refl
above-more least place (p ∷ ps) le is =
    let both = and_parts (nat_lt p.place least) (above least ps) is in
    let first : nat_lt p.place place ≡ true = let less = both.0 in grind (arith, nat_tests) in
    rw first (above-more least place ps le both.1)

-- ---- one after another

pub keys-same : (ks : List KeptRow) (ps : List Placed) → AllZip IsPlaced ks ps → keys_in ps ≡ keys ks
keys-same [] [] all = refl
keys-same [] (p ∷ ps) all = absurd all
keys-same (k ∷ ks) [] all = absurd all
keys-same (k ∷ ks) (p ∷ ps) all = λ i. ((all.0).is).under i ∷ keys-same ks ps all.1 i

above-all : (least : ℕ) (ks : List KeptRow) (ps : List Placed) → AllZip IsPlaced ks ps → past 0 (places ks) ≤ least
    → above least ps ≡ true
above-all least [] [] all le = refl
above-all least [] (p ∷ ps) all le = absurd all
above-all least (k ∷ ks) [] all le = absurd all
above-all least (k ∷ ks) (p ∷ ps) all le =
    let place = (all.0).place in
    let first : nat_lt p.place least ≡ true = grind (arith, nat_tests) in
    rw first (above-all least ks ps all.1 (omega (arith, le)))

stamp-last : (n : ℕ) (ks : List KeptRow) (k : KeptRow) → stamp_of n (ks ++ k ∷ []) ≡ k.place
stamp-last n [] k = refl
stamp-last n (j ∷ ks) k = stamp-last j.place ks k

pub rows-above : (n : ℕ) (ks : List KeptRow) (t : Listed) (least : ℕ) → HasRows n ks t least → above least t.rows ≡ true
rows-above n ks t least has = let low = has.low in above-all least ks t.rows has.rows (omega (arith, low))

-- what a row may be behind those that were loaded
may-behind : (n : ℕ) (ks : List KeptRow) (t : Listed) (least : ℕ) (kept : KeptRow) → HasRows n ks t least
    → may_stand least (keys_in t.rows) kept ≡ may_stand (past 0 (places ks)) (keys ks) kept
may-behind n ks t least kept has = λ i. may_stand (has.low i) (keys-same ks t.rows has.rows i) kept

pub rows-go : (n : ℕ) (ks : List KeptRow) (kept : KeptRow) (old new : Listed) (least : ℕ) → HasRows n ks old least
    → AddsRow least kept old new
    → HasRows n (ks ++ kept ∷ []) new (kept.place + 1)
rows-go n ks kept old new least has adds =
    let may = sym (may-behind n ks old least kept has) ∙ adds.may in
    let placed : Placed = record { place = kept.place; row = adds.row } in
    let made : Listed = record { number = old.number; stamp = kept.place; rows = old.rows ++ placed ∷ [] } in
    subst (λ (x : Listed). HasRows n (ks ++ kept ∷ []) x (kept.place + 1)) (sym adds.after) (record {
      good = each-last GoodRow [] ks kept has.good (record { may = may; row = adds.row; is = adds.is });
      rows = zip-last IsPlaced ks old.rows kept placed has.rows (record { place = refl; is = adds.is });
      number = has.number;
      stamp = sym (stamp-last n ks kept);
      low = sym (ap (past 0) (map-append (λ (row : KeptRow). row.place) ks (kept ∷ []))
          ∙ past-last 0 kept.place (places ks) ((stands (past 0 (places ks)) (keys ks) kept may).low));
    })

-- one that is not good
pub rows-stop : (n : ℕ) (rows ks rest : List KeptRow) (kept : KeptRow) (old : Listed) (least : ℕ) → HasRows n ks old least
    → rows ≡ ks ++ kept ∷ rest
    → (may_stand least (keys_in old.rows) kept ≡ true → (row : Row) → IsRead kept.key kept.text row → ⊥) → FaultyRow rows kept.place
rows-stop n rows ks rest kept old least has is bad = (
  ks,
  kept,
  record {
    rest = rest;
    is = is;
    good = has.good;
    bad = λ good. bad (may-behind n ks old least kept has ∙ good.may) good.row good.is;
  },
  refl,
)

-- ---- one row

pub absent-key : (least : ℕ) (kept : KeptRow) (ps : List Placed) (bytes : List ℕ) → may_stand least (keys_in ps) kept ≡ true
    → bytes ≡ kept.key → has_key bytes ps ≡ false
absent-key least kept ps bytes may is = ap (λ k. has_key k ps) is ∙ key_in kept.key ps ∙ (stands least (keys_in ps) kept may).new

pub above-row : (least : ℕ) (kept : KeptRow) (ps : List Placed) → may_stand least (keys_in ps) kept ≡ true → above least ps ≡ true
    → above kept.place ps ≡ true
above-row least kept ps may is = above-more least kept.place ps ((stands least (keys_in ps) kept may).low) is

pub row-added : (least : ℕ) (kept : KeptRow) (old mid new : Listed) (row : Row) → may_stand least (keys_in old.rows) kept ≡ true
    → IsRead kept.key kept.text row
    → mid ≡ record old { rows = old.rows ++ record { place = kept.place; row = row } ∷ [] } → new ≡ record mid { stamp = kept.place }
    → AddsRow least kept old new
row-added least kept old mid new row may is came went =
    record { may = may; row = row; is = is; after = went ∙ ap (λ (t : Listed). record t { stamp = kept.place }) came }
