-- The outcome of a deed.
use Rattle.std.proofs.Common.{◌≡◌, ◌≢◌, ◌≤◌, ℕ, ◌==◌, ◌&&◌, Bool, true, false, List, [], ◌∷◌, ◌++◌, length, take, None, Some, Ok}
use Rattle.std.proofs.Common.{refl, ap, sym, ◌∙◌, subst}
use Rattle.std.specs.Prelude.{if◌then◌else◌}
use Rattle.std.proofs.lemmas.Bool.{ne_eqb}
use Rattle.history_lock.specs.declared.entry.Who.{Who}
use Rattle.bson_values.specs.Measures.{size}
use Rattle.doc_shape.specs.Shown.{shown}
use Rattle.doc_shape.specs.declared.shape.Shape.{Shape}
use Rattle.filter_syntax.specs.Meaning.{Doc}
use Rattle.filter_syntax.specs.declared.filter.Filter.{Filter}
use Rattle.table_rows.specs.declared.row.Row.{Row}
use Rattle.table_words.specs.declared.call.Edit.{Edit}
use Rattle.table_words.specs.Sound.{IsSound}
use Rattle.update_syntax.specs.declared.update.Update.{Update}
use Rattle.doc_model.specs.Change.{deletes, differing, removing, updates, updates_these}
use Rattle.doc_model.specs.declared.op.Modify.TheVariants.{Change}
use Rattle.doc_model.specs.declared.op.OpReply.{OpReply}
use Rattle.doc_model.specs.declared.op.OpReply.TheVariants.{Updated, Deleted, Modified}
use Rattle.doc_history.specs.Docs.{doc_of}
use Rattle.doc_effects.specs.Edited.{AreRenewals, Ends, IsRenewal, Removes, replacing, shows, taken}
use Rattle.doc_effects.specs.Outcomes.{AreEdits, IsAnswer}
use Rattle.doc_effects.specs.Replies.{Fits, FitsDoc}
use Rattle.doc_effects.specs.declared.edits.Renewal.{Renewal}
use Rattle.doc_effects.specs.declared.edits.Renewals.{Renewals}
use Rattle.doc_effects.proofs.Editing.{count_renews, length_removals, one_edit}
use Rattle.doc_effects.proofs.Renewing.{after_stored, sound_fits, stored_fits}

-- ---- updates

these : (update : Update) (now : ℕ) (olds : List Doc) (r : Renewals) (n : ℕ) → AreRenewals update now olds r → n ≡ length r.edits
    → Ends (updates_these update now olds) (record { reply = Updated r.matched n None; edits = r.edits; added = None })
these update now olds r n are count =
    let is = are.renews in
    let changed : n ≡ length (differing olds is.news) = count ∙ count_renews update now olds r.edits is in
    rw is.become (record {
      settles = (
        (λ i. Updated (are.matched i) (changed i) None),
        (subst (λ (edits : List Edit). AreEdits [] (differing olds is.news) edits) (sym is.are) is.edits, refl),
      );
      fits = tt;
      answer = tt;
    })

some_updated : (who : Who) (now : ℕ) (it : Filter) (update : Update) (multi upsert : Bool) (doc : Doc) (docs : List Doc)
    → updates who now it update multi upsert (doc ∷ docs) ≡ updates_these update now (taken multi (doc ∷ docs))
some_updated who now it update true true doc docs = refl
some_updated who now it update true false doc docs = refl
some_updated who now it update false true doc docs = refl
some_updated who now it update false false doc docs = refl

taken_none : (all : Bool) → taken all [] ≡ []
taken_none true = refl
taken_none false = refl

pub no_upsert : (matched : ℕ) (upsert : Bool) → upsert ≡ false → ((matched == 0) && upsert) ≡ false
no_upsert matched upsert is = cases (matched == 0) upsert is
  where
    cases : (a b : Bool) → b ≡ false → (a && b) ≡ false
    cases true b is = is
    cases false b is = refl

pub some_matched : (matched : ℕ) (upsert : Bool) → matched ≢ 0 → ((matched == 0) && upsert) ≡ false
some_matched matched upsert some =
    let test : (matched == 0) ≡ false = ne_eqb matched 0 some in rw test refl

pub updated_ends : (who : Who) (now : ℕ) (it : Filter) (update : Update) (multi upsert : Bool) (docs : List Doc) (r : Renewals) (n : ℕ)
    → AreRenewals update now (taken multi docs) r → n ≡ length r.edits → ((r.matched == 0) && upsert) ≡ false
    → Ends (updates who now it update multi upsert docs) (record { reply = Updated r.matched n None; edits = r.edits; added = None })
updated_ends who now it update multi upsert (doc ∷ docs) r n are count none =
    rw (some_updated who now it update multi upsert doc docs) (these update now (taken multi (doc ∷ docs)) r n are count)
updated_ends who now it update multi false [] r n are count none =
    these update now [] r n (subst (λ (olds : List Doc). AreRenewals update now olds r) (taken_none multi) are) count
updated_ends who now it update multi true [] r n are count none =
    let zero : r.matched ≡ 0 = are.matched ∙ ap length (taken_none multi) in
    let both : true ≡ false = rw zero at none in absurd (cc both)

-- ---- removals

pub deleted_ends : (one : Bool) (docs : List Doc) (edits : List Edit) (n : ℕ) → Removes (if one then take 1 docs else docs) [] edits
    → n ≡ length edits → Ends (Ok (deletes one docs)) (record { reply = Deleted n; edits = edits; added = None })
deleted_ends one docs edits n is count = record {
  settles = (
    ap (λ (n : ℕ). Deleted n) (count ∙ ap length is.are ∙ length_removals (if one then take 1 docs else docs) is.more is.edits),
    (subst (λ (edits : List Edit). AreEdits (if one then take 1 docs else docs) [] edits) (sym is.are) is.edits, refl),
  );
  fits = tt;
  answer = tt;
}

-- ---- the first document

doc_fits : (row : Row) (doc : Doc) → IsSound row → doc ≡ doc_of row → size doc ≤ 16777216
doc_fits row doc sound is = subst (λ (doc : Doc). size doc ≤ 16777216) (sym is) (sound_fits row sound)

pub removed_ends : (shape : Shape) (row : Row) (doc : Doc) (reply : OpReply) (edits : List Edit) → IsSound row → doc ≡ doc_of row
    → reply ≡ Modified true None (Some (shown shape doc)) → (FitsDoc (Some doc) → Fits reply) → Removes (doc_of row ∷ []) [] edits
    → Ends (Ok (removing (Modified true None (Some (shown shape doc))) (doc ∷ []))) (record { reply = reply; edits = edits; added = None })
removed_ends shape row doc reply edits sound is told fits removes = record {
  settles = (
    told,
    (
      subst (λ (doc : Doc). AreEdits (doc ∷ []) [] edits) (sym is)
          (subst (λ (edits : List Edit). AreEdits (doc_of row ∷ []) [] edits) (sym removes.are) removes.edits),
      refl,
    ),
  );
  fits = fits (doc_fits row doc sound is);
  answer = subst IsAnswer (sym told) tt;
}

chosen_fits : (fresh : Bool) (old new : Doc) → size old ≤ 16777216 → size new ≤ 16777216 → size (if fresh then new else old) ≤ 16777216
chosen_fits true old new one other = other
chosen_fits false old new one other = one

pub changed_ends : (update : Update) (now : ℕ) (fresh : Bool) (shape : Shape) (row : Row) (old : Doc) (r : Renewal) (reply : OpReply)
    (edits : List Edit) → IsSound row → old ≡ doc_of row → IsRenewal update now old r → edits ≡ [] ++ replacing r.row
    → reply ≡ Modified true None (Some (shown shape (if fresh then r.doc else old)))
    → (FitsDoc (Some (if fresh then r.doc else old)) → Fits reply)
    → Ends (shows now (Change update) fresh shape old) (record { reply = reply; edits = edits; added = None })
changed_ends update now fresh shape row old r reply edits sound is made are told fits = rw made.made (record {
  settles = (
    told,
    (
      subst (λ (edits : List Edit). AreEdits [] (differing (old ∷ []) (r.doc ∷ [])) edits) (sym are)
          (one_edit old r.doc r.row made.exchanged),
      refl,
    ),
  );
  fits = fits (chosen_fits fresh old r.doc (doc_fits row old sound is) (stored_fits r.doc (after_stored update old r.doc now made.made)));
  answer = subst IsAnswer (sym told) tt;
})
