-- One more value under its key.
use Rattle.std.proofs.Common.{◌≡◌, ◌<◌, ◌^◌, ℕ, true, false, List, [], ◌∷◌, ◌++◌, length}
use Rattle.std.proofs.Common.{refl, sym, ap, ◌∙◌, subst, arith}
use Rattle.std.specs.Prelude.{nat_lt, Result, Ok, Err, OnOk, OnErr}
use Rattle.std.specs.List.{list_any}
use Rattle.std.proofs.lemmas.Bool.{lt-ltb, ltb-true}
use Rattle.std.proofs.lemmas.List.{length-append}
use Rattle.std.proofs.lemmas.List.Elements.{All-push}
use Rattle.std_words.proofs.Tests.{and-both}
use Rattle.keyed_rows.specs.declared.entry.Entry.{Entry}
use Rattle.keyed_rows.specs.Entries.{above, has_key}
use Rattle.keyed_rows.proofs.Edits.{and-made}
use Rattle.bson_values.specs.declared.value.Value.{Value}
use Rattle.bson_spelling.specs.Spelling.{key}
use Rattle.bson_order.specs.Order.{is_same}
use Rattle.bson_order.specs.Plain.{IsPlain}
use Rattle.distinct_values.specs.Distinct.{joined}
use Rattle.distinct_values.specs.Kept.{IsTold, AreKept, kept_values, one_more}
use Rattle.distinct_values.proofs.Keys.{has_same}

-- a place above a place above all
above_next : (place next : ℕ) (entry : Entry Value) (entries : List (Entry Value)) → entry.place ≡ place → place < next
    → above place entries ≡ true → above next (entries ++ entry ∷ []) ≡ true
above_next place next entry [] is less all = and-made _ true (lt-ltb entry.place next (omega (arith, is, less))) refl
above_next place next entry (first ∷ entries) is less all =
    let both = and-both (nat_lt first.place place) (above place entries) all in
    and-made _ _ (lt-ltb first.place next (omega (arith, less, ltb-true first.place place both.0)))
    (above_next place next entry entries is less both.1)

still_kept : (entries more : List (Entry Value)) (bytes : List ℕ) (it : Value) → AreKept entries → bytes ≡ key it → IsPlain it
    → more ≡ one_more entries bytes it → AreKept more
still_kept entries more bytes it kept is plain put =
    let entry : Entry Value = record { place = length entries; key = bytes; value = it } in
    subst (λ all. AreKept all) (sym put) (record {
      told = All-push IsTold entries entry kept.told (record { key_is = is; plain = plain });
      room = above_next (length entries) (length (entries ++ entry ∷ [])) entry entries refl
          (omega (arith, length-append entries (entry ∷ []))) kept.room;
    })

values_more : (entries : List (Entry Value)) (entry : Entry Value)
    → kept_values (entries ++ entry ∷ []) ≡ kept_values entries ++ entry.value ∷ []
values_more [] entry = refl
values_more (first ∷ entries) entry = ap (λ more. first.value ∷ more) (values_more entries entry)

module _ (entries : List (Entry Value)) (bytes : List ℕ) (it : Value) (kept : AreKept entries) (is : bytes ≡ key it) (plain : IsPlain it)
    (short : length bytes < 2 ^ 63) where
  has : has_key bytes entries ≡ list_any (is_same it) (kept_values entries)
  has = ap (λ key. has_key key entries) is ∙ has_same it entries plain (subst (λ key. length key < 2 ^ 63) is short) kept.told

  pub joined_old : has_key bytes entries ≡ true → kept_values entries ≡ joined (kept_values entries) it
  joined_old there = rw (sym has ∙ there) refl

  module _ {T E : Type 0} (result : Result T E) (more : List (Entry Value)) (put : OnOk result (more ≡ one_more entries bytes it)) where
    pub kept_then : OnErr result (more ≡ entries) → AreKept more
    kept_then same = cases result put same
      where
        cases : (r : Result T E) → OnOk r (more ≡ one_more entries bytes it) → OnErr r (more ≡ entries) → AreKept more
        cases (Ok done) put same = still_kept entries more bytes it kept is plain put
        cases (Err why) put same = subst (λ all. AreKept all) (sym same) kept

    pub joined_then : has_key bytes entries ≡ false → OnOk result (kept_values more ≡ joined (kept_values entries) it)
    joined_then absent = cases result put
      where
        cases : (r : Result T E) → OnOk r (more ≡ one_more entries bytes it) → OnOk r (kept_values more ≡ joined (kept_values entries) it)
        cases (Ok done) put = rw (sym has ∙ absent) (ap kept_values put ∙ values_more entries _)
        cases (Err why) put = tt
