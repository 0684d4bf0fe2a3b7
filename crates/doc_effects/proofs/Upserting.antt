-- The document that an upsert inserts.
use Rattle.std.proofs.Common.{◌≡◌, ◌≤◌, ℕ, ◌+◌, ◌/◌, ◌%◌, ◌^◌, Bool, true, false, ◌++◌, List, ◌∷◌, length, Option, None, Some, Result, Ok, Err}
use Rattle.std.proofs.Common.{refl, ap, sym, subst, arith, nat_lt, codes}
use Rattle.std.specs.Prelude.{IfOk}
use Rattle.std.proofs.lemmas.Bool.Decides.{nat_tests}
use Rattle.std.proofs.lemmas.List.{length-append}
use Rattle.std_words.proofs.Faults.{bind_ok}
use Rattle.history_lock.specs.declared.entry.Who.{Who}
use Rattle.bson_spelling.proofs.Helds.{held_by}
use Rattle.bson_spelling.specs.Spelling.{held, key}
use Rattle.bson_spelling.specs.declared.form.Form.TheVariants.{Key}
use Rattle.byteorder.specs.Endian.{big_bytes}
use Rattle.byteorder.specs.Numbers.{length-bytes_high_first}
use Rattle.bson_values.specs.Names.{first_of}
use Rattle.bson_values.specs.declared.value.Value.{Value, out-Value}
use Rattle.bson_values.specs.declared.value.Value.TheOpen.{Value-F}
use Rattle.bson_values.specs.declared.value.Value.TheVariants as value
use Rattle.filter_syntax.specs.Meaning.{Doc}
use Rattle.filter_syntax.specs.declared.filter.Filter.{Filter}
use Rattle.naming.specs.Ids.{can_be_id}
use Rattle.update_apply.specs.Seeds.{seed}
use Rattle.update_apply.specs.declared.refused.ApplyRefused.{ApplyRefused}
use Rattle.update_syntax.specs.After as update
use Rattle.update_syntax.specs.After.{after, bad_id, unless}
use Rattle.update_syntax.specs.declared.update.Update.{Update}
use Rattle.doc_model.specs.Change.{built}
use Rattle.doc_model.specs.Insert.{completed, generated, id_of, not_stored}
use Rattle.doc_effects.specs.Edited.{IsBuilt, begun}
use Rattle.doc_effects.specs.Replies.{FitsId}
use Rattle.doc_effects.specs.Rows.{IsRowFor}
use Rattle.doc_effects.specs.declared.upserts.Built.{Built}
use Rattle.doc_effects.proofs.Renewing.{after_put, row_kept, stored_fits}

-- ---- the `_id` is short

put_short : (id : Value) → bad_id (Some id) ≡ None → length (key id) ≤ 16384
put_short id is = cases (can_be_id (out-Value id)) refl (nat_lt 16384 (length (key id))) refl
  where
    cases : (b : Bool) → can_be_id (out-Value id) ≡ b → (c : Bool) → nat_lt 16384 (length (key id)) ≡ c → length (key id) ≤ 16384
    cases true e false f = grind (arith, nat_tests, f)
    cases true e true f = let some : ◌≡◌ {A = Option ℕ} (Some 30) None = rw (e, f) at is in absurd (cc some)
    cases false e c f = let some : ◌≡◌ {A = Option ℕ} (Some 5) None = rw e at is in absurd (cc some)

length_generated : (who : Who) (now : ℕ) → length (generated who now) ≡ 12
length_generated who now =
    let seconds : List ℕ = big_bytes 4 (now / 1000 % 2 ^ 32) in
    let seat : List ℕ = big_bytes 2 (who.seat % 2 ^ 16) in
    let link : List ℕ = big_bytes 3 (who.link % 2 ^ 24) in
    let op : List ℕ = big_bytes 3 (who.op % 2 ^ 24) in
    omega (
      arith,
      length-append (seconds ++ seat ++ link) op,
      length-append (seconds ++ seat) link,
      length-append seconds seat,
      length-bytes_high_first 4 (now / 1000 % 2 ^ 32),
      length-bytes_high_first 2 (who.seat % 2 ^ 16),
      length-bytes_high_first 3 (who.link % 2 ^ 24),
      length-bytes_high_first 3 (who.op % 2 ^ 24),
    )

generated_short : (who : Who) (now : ℕ) → length (key (value.Id (generated who now))) ≤ 16384
generated_short who now =
    let g : List ℕ = generated who now in
    let held_so : held Key (value.Id g) ≡ (7, g) = held_by Key (value.Id g) (Value-F.Id g) (value.outs-Id g) in
    let long : length g ≡ 12 = length_generated who now in
    let keyed : length (key (value.Id g)) ≡ length g + 1 = ap (λ (it : ℕ × List ℕ). length (it.0 ∷ it.1)) held_so in
    omega (arith, keyed, long)

id_short : (who : Who) (now : ℕ) (made : Doc) → bad_id (update.id_of made) ≡ None → length (key (id_of who now made)) ≤ 16384
id_short who now made is = cases (first_of (codes "_id") made) refl is
  where
    cases : (found : Option Value) → first_of (codes "_id") made ≡ found → bad_id found ≡ None → length (key (id_of who now made)) ≤ 16384
    cases None e is = rw e (generated_short who now)
    cases (Some id) e is = rw e (put_short id is)

-- ---- the whole

pub built_is : (who : Who) (now : ℕ) (it : Filter) (by : Update) (made : Doc) (b : Built) → begun it by now ≡ Ok made
    → unless (not_stored (id_of who now made) (completed who now made)) (completed who now made) ≡ Ok b.doc
    → IsRowFor (id_of who now made) b.doc b.row → IsBuilt (built who now it by) b
built_is who now it by made b is stored row =
    let step = bind_ok (seed it) (λ doc. after by doc now true) made is in
    record {
      is = rw (step.1, step.2) stored;
      kept = row_kept (id_of who now made) b.doc b.row row;
      id = subst FitsId (sym row.has_id) (id_short who now made (after_put by step.0 made now step.2));
      doc = stored_fits b.doc row.stored;
    }

pub if_built : (who : Who) (now : ℕ) (it : Filter) (by : Update) (made : Doc) → begun it by now ≡ Ok made → (r : Result Built ApplyRefused)
    → IfOk r (λ b. (unless (not_stored (id_of who now made) (completed who now made)) (completed who now made) ≡ Ok b.doc)
    × IsRowFor (id_of who now made) b.doc b.row)
    → IfOk r (λ b. IsBuilt (built who now it by) b)
if_built who now it by made is (Ok b) row = built_is who now it by made b is row.0 row.1
if_built who now it by made is (Err why) row = tt
