-- Keys of plain values are equal exactly where the values are the same.
use Rattle.std.proofs.Common.{◌≡◌, ◌<◌, ◌^◌, Bool, true, false, ◌||◌, List, [], ◌∷◌, length, All, refl, ap}
use Rattle.std.specs.List.{list_any}
use Rattle.std.specs.Ordering.{is_eq}
use Rattle.std.specs.Str.{bytes_eq}
use Rattle.std.specs.declared.cmp.Ordering.{Ordering}
use Rattle.std.specs.declared.cmp.Ordering.TheVariants.{Less, Equal, Greater}
use Rattle.std.proofs.lemmas.List.Elements.{All-head, All-tail}
use Rattle.std.proofs.lemmas.Slice.Eq.{bytes_eq-Decides}
use Rattle.std_words.proofs.Tests.{never-both}
use Rattle.keyed_rows.specs.declared.entry.Entry.{Entry}
use Rattle.keyed_rows.specs.Entries.{has_key}
use Rattle.bson_values.specs.declared.value.Value.{Value}
use Rattle.bson_spelling.specs.Spelling.{key}
use Rattle.bson_order.specs.Order.{compared, is_same}
use Rattle.bson_order.specs.Plain.{IsPlain}
use Rattle.bson_order.proofs.EqualKeys.{told}
use Rattle.bson_order.proofs.SameKeys.{same_key}
use Rattle.distinct_values.specs.Kept.{IsTold, kept_values}

pub equal : (o : Ordering) → is_eq o ≡ true → o ≡ Equal
equal Less e = absurd (cc e)
equal Equal e = refl
equal Greater e = absurd (cc e)

pub key_same : (one other : Value) → IsPlain one → IsPlain other → length (key one) < 2 ^ 63
    → bytes_eq (key one) (key other) ≡ is_same one other
unfolding is_same
key_same one other plain like short = cases (bytes_eq (key one) (key other)) refl (is_eq (compared one other)) refl
  where
    cases : (b : Bool) → bytes_eq (key one) (key other) ≡ b → (c : Bool) → is_eq (compared one other) ≡ c → b ≡ c
    cases true e true f = refl
    cases false e false f = refl
    cases true e false f =
        let same = told one other plain like short ((bytes_eq-Decides (key one) (key other)).0 e) in
        never-both (is_eq (compared one other)) (ap is_eq same) f
    cases false e true f =
        let keys = same_key one other (equal (compared one other) f) in
        never-both (bytes_eq (key one) (key other)) ((bytes_eq-Decides (key one) (key other)).1 keys) e

-- a key is there exactly where a value is the same
pub has_same : (it : Value) (entries : List (Entry Value)) → IsPlain it → length (key it) < 2 ^ 63 → All IsTold entries
    → has_key (key it) entries ≡ list_any (is_same it) (kept_values entries)
has_same it [] plain short all = refl
has_same it (entry ∷ entries) plain short all =
    let here = All-head IsTold entry entries all in
    rw (here.key_is, key_same it entry.value plain here.plain short)
    (ap (λ more. is_same it entry.value || more) (has_same it entries plain short (All-tail IsTold entry entries all)))
