-- A document after an update, and its row.
use Rattle.std.proofs.Common.{◌≡◌, ◌≤◌, ℕ, Bool, true, false, not, ◌&&◌, ◌||◌, ◌==◌, List, Option, None, Some, Result, Ok, Err}
use Rattle.std.proofs.Common.{refl, ap, sym, ◌∙◌, subst, arith, nat_le, codes}
use Rattle.std.specs.Prelude.{is_ok}
use Rattle.std.specs.declared.cmp.Ordering.{Ordering}
use Rattle.std.specs.declared.cmp.Ordering.TheVariants.{Less, Equal, Greater}
use Rattle.std.specs.Ordering.{is_eq}
use Rattle.std.specs.Option.{option_or}
use Rattle.std.specs.Str.{bytes_eq}
use Rattle.std.proofs.lemmas.Bool.Decides.{nat_tests}
use Rattle.std.proofs.lemmas.Cmp.{ranked}
use Rattle.std_words.specs.Reasons.{when}
use Rattle.std_words.proofs.Faults.{bind_ok}
use Rattle.std_words.proofs.Tests.{and-both}
use Rattle.bson_order.specs.Order.{compared, is_same, rank_in, rank_of, Same}
use Rattle.bson_order.proofs.Total.{same_rank}
use Rattle.bson_values.specs.Allowed.{can_be_stored, is_sound}
use Rattle.bson_values.specs.Measures.{depth, size}
use Rattle.bson_values.specs.Names.{first_of}
use Rattle.bson_values.specs.Storable.{MOST_BYTES, MOST_LEVELS, storable}
use Rattle.bson_values.specs.declared.storing.Unstorable.{Unstorable}
use Rattle.bson_values.specs.declared.value.Value.{Value, out-Value}
use Rattle.bson_values.specs.declared.value.Value.TheOpen.{Value-F}
use Rattle.bson_values.specs.declared.value.Value.TheVariants as value
use Rattle.bson_values.proofs.Soundness.{storable_where}
use Rattle.filter_syntax.specs.Meaning.{Doc}
use Rattle.jsonb_contain.specs.Texts.{data_of}
use Rattle.jsonb_contain.specs.declared.value.Json.{Json}
use Rattle.naming.specs.Ids.{can_be_id}
use Rattle.serde_json.specs.Written.{compact_text}
use Rattle.table_rows.specs.declared.row.Row.{Row}
use Rattle.table_words.specs.Sound.{IsSound}
use Rattle.update_syntax.specs.After.{after, bad_id, changed_id, id_of, keeps_id, made, not_stored, refused, unless}
use Rattle.update_syntax.specs.declared.update.Update.{Update}
use Rattle.doc_model.specs.Change.{differs, row_text}
use Rattle.doc_history.specs.Docs.{doc_of}
use Rattle.doc_effects.specs.Outcomes.{IsKept}
use Rattle.doc_effects.specs.Rows.{IsRowFor}
use Rattle.doc_effects.proofs.Keys.{doc_sound}

-- ---- rows

abbrev row_sound : (id : Value) (doc : Doc) (row : Row) → IsRowFor id doc row → IsSound row
row_sound id doc row is = record {
  doc = doc;
  json = record { typed = is.typed; stored = is.stored; row_is = sym is.json_is };
  text = is.text_is;
  id = id;
  has_id = is.has_id;
  may = is.may;
  key_is = is.key_is;
}

pub row_kept : (id : Value) (doc : Doc) (row : Row) → IsRowFor id doc row → IsKept row doc
row_kept id doc row is =
    let sound = row_sound id doc row is in record { sound = sound; is_of = doc_sound row sound; short = is.short }

new_text : (id : Value) (doc : Doc) (row : Row) → IsRowFor id doc row → row.text ≡ row_text doc
new_text id doc row is = is.text_is ∙ ap (λ (it : Json). compact_text (data_of it)) is.json_is

old_text : (row : Row) → IsSound row → row.text ≡ row_text (doc_of row)
old_text row sound =
    sound.text ∙ ap (λ (it : Json). compact_text (data_of it)) (sym sound.json.row_is) ∙ ap row_text (sym (doc_sound row sound))

differing_is : (row made : Row) (new : Doc) (id : Value) → IsSound row → IsRowFor id new made
    → bytes_eq row.text made.text ≡ bytes_eq (row_text (doc_of row)) (row_text new)
differing_is row made new id sound is =
    ap (λ (text : List ℕ). bytes_eq text made.text) (old_text row sound) ∙ ap (bytes_eq (row_text (doc_of row))) (new_text id new made is)

pub same_row : (row made : Row) (new : Doc) (id : Value) → IsSound row → IsRowFor id new made → bytes_eq row.text made.text ≡ true
    → differs (doc_of row) new ≡ false
same_row row made new id sound is same = ap not (sym (differing_is row made new id sound is) ∙ same)

pub other_row : (row made : Row) (new : Doc) (id : Value) → IsSound row → IsRowFor id new made → bytes_eq row.text made.text ≡ false
    → (differs (doc_of row) new ≡ true) × IsKept made new
other_row row made new id sound is other = (ap not (sym (differing_is row made new id sound is) ∙ other), row_kept id new made is)

-- ---- sizes

pub stored_fits : (doc : Doc) → storable doc ≡ Ok tt → size doc ≤ 16777216
stored_fits doc stored =
    let may : can_be_stored doc ≡ true = sym (storable_where doc) ∙ ap is_ok stored in
    let both = and-both (nat_le (size doc) MOST_BYTES && nat_le (depth doc) MOST_LEVELS) (is_sound (value.Doc doc)) may in
    let small = and-both (nat_le (size doc) MOST_BYTES) (nat_le (depth doc) MOST_LEVELS) both.0 in grind (arith, nat_tests, small.0)

pub sound_fits : (row : Row) → IsSound row → size (doc_of row) ≤ 16777216
sound_fits row sound = subst (λ (doc : Doc). size doc ≤ 16777216) (sym (doc_sound row sound)) (stored_fits sound.doc sound.json.stored)

-- ---- what is the same as an `_id` may be one

abbrev may_by_rank : ℕ → Bool
may_by_rank rank = not (rank == 4 || rank == 10)

by_rank : (layer : Value-F Value) → can_be_id layer ≡ may_by_rank (rank_in layer)
by_rank Value-F.Null = refl
by_rank (Value-F.Int number) = refl
by_rank (Value-F.Long number) = refl
by_rank (Value-F.Str text) = refl
by_rank (Value-F.Doc pairs) = refl
by_rank (Value-F.Arr items) = refl
by_rank (Value-F.Bin it) = refl
by_rank (Value-F.Id id) = refl
by_rank (Value-F.Bool truth) = refl
by_rank (Value-F.Date moment) = refl
by_rank (Value-F.Stamp stamp) = refl
by_rank (Value-F.Regex regex) = refl

eq_tied : (it : Ordering) → is_eq it ≡ true → it ≡ Equal
eq_tied Less is = absurd cc
eq_tied Equal is = refl
eq_tied Greater is = absurd cc

same_if : (one other : Value) → is_same one other ≡ true → Same one other
unfolding is_same
same_if one other is = eq_tied (compared one other) is

same_may : (one other : Value) → is_same one other ≡ true → can_be_id (out-Value other) ≡ true → can_be_id (out-Value one) ≡ true
same_may one other same may =
    let ranks : rank_of one ≡ rank_of other = ranked _ _ Equal (sym (same_rank one other (same_if one other same))) in
    by_rank (out-Value one) ∙ ap may_by_rank ranks ∙ sym (by_rank (out-Value other)) ∙ may

-- the `_id` of the document that takes the place of a row's
pub has_kept_id : (row : Row) (new : Doc) → IsSound row → keeps_id (id_of (doc_of row)) (id_of new) ≡ true
    → (id : Value) × (first_of (codes "_id") new ≡ Some id) × (can_be_id (out-Value id) ≡ true)
has_kept_id row new sound keeps =
    let old : id_of (doc_of row) ≡ Some sound.id = ap id_of (doc_sound row sound) ∙ sound.has_id in
    let is : keeps_id (Some sound.id) (id_of new) ≡ true = rw old at keeps in cases (id_of new) refl is
  where
    cases : (found : Option Value) → id_of new ≡ found → keeps_id (Some sound.id) found ≡ true
        → (id : Value) × (first_of (codes "_id") new ≡ Some id) × (can_be_id (out-Value id) ≡ true)
    cases None at is = absurd (cc is)
    cases (Some id) at is = (id, at, same_may id sound.id is sound.may)

pub no_lost_id : (row : Row) (new : Doc) → IsSound row → keeps_id (id_of (doc_of row)) (id_of new) ≡ true
    → None ≡ first_of (codes "_id") new → ⊥
no_lost_id row new sound keeps none = let has = has_kept_id row new sound keeps in absurd (cc (none ∙ has.1))

pub kept_id_may : (row : Row) (new : Doc) (id : Value) → IsSound row → keeps_id (id_of (doc_of row)) (id_of new) ≡ true
    → Some id ≡ first_of (codes "_id") new → can_be_id (out-Value id) ≡ true
kept_id_may row new id sound keeps is =
    let has = has_kept_id row new sound keeps in
    let same : id ≡ has.0 = cc (is ∙ has.1) in subst (λ (it : Value). can_be_id (out-Value it) ≡ true) (sym same) has.2

-- ---- what an update that is not refused makes

or_none : {A : Type 0} (one other : Option A) → option_or one other ≡ None → (one ≡ None) × (other ≡ None)
or_none None other is = (refl, is)
or_none (Some it) other is = absurd (cc is)

when_none : (test : Bool) (kind : ℕ) → when (not test) kind ≡ None → test ≡ true
when_none true kind is = refl
when_none false kind is = absurd (cc is)

stored_none : (found : Result (Unit {0}) Unstorable) → not_stored found ≡ None → found ≡ Ok tt
stored_none (Ok done) is = refl
stored_none (Err why) is = absurd (cc is)

unless_none : (why : Option ℕ) (doc new : Doc) → unless why doc ≡ Ok new → (why ≡ None) × (doc ≡ new)
unless_none None doc new is = (refl, cc is)
unless_none (Some kind) doc new is = absurd (cc is)

after_none : (update : Update) (doc new : Doc) (now : ℕ) (inserting : Bool) → after update doc now inserting ≡ Ok new
    → refused inserting doc new ≡ None
after_none update doc new now inserting is =
    let step = bind_ok (made update now inserting doc) (λ new. unless (refused inserting doc new) new) new is in
    let none = unless_none (refused inserting doc step.0) step.0 new step.2 in
    ap (refused inserting doc) (sym none.1) ∙ none.0

pub changed_none : (doc new : Doc) → refused false doc new ≡ None → (keeps_id (id_of doc) (id_of new) ≡ true) × (storable new ≡ Ok tt)
unfolding refused
changed_none doc new is =
    let both = or_none (changed_id doc new) (not_stored (storable new)) is in
    (when_none (keeps_id (id_of doc) (id_of new)) 26 both.0, stored_none (storable new) both.1)

pub put_none : (doc new : Doc) → refused true doc new ≡ None → bad_id (id_of new) ≡ None
unfolding refused
put_none doc new is = (or_none (bad_id (id_of new)) (changed_id doc new) is).0

-- it keeps the `_id`, and may be stored
pub after_kept : (update : Update) (doc new : Doc) (now : ℕ) → after update doc now false ≡ Ok new
    → (keeps_id (id_of doc) (id_of new) ≡ true) × (storable new ≡ Ok tt)
after_kept update doc new now is = changed_none doc new (after_none update doc new now false is)

pub after_id : (update : Update) (doc new : Doc) (now : ℕ) → after update doc now false ≡ Ok new
    → keeps_id (id_of doc) (id_of new) ≡ true
after_id update doc new now is = (after_kept update doc new now is).0

pub after_stored : (update : Update) (doc new : Doc) (now : ℕ) → after update doc now false ≡ Ok new → storable new ≡ Ok tt
after_stored update doc new now is = (after_kept update doc new now is).1

pub after_put : (update : Update) (doc new : Doc) (now : ℕ) → after update doc now true ≡ Ok new → bad_id (id_of new) ≡ None
after_put update doc new now is = put_none doc new (after_none update doc new now true is)
