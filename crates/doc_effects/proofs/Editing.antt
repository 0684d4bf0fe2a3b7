-- Edits, one after another.
use Rattle.std.proofs.Common.{◌≡◌, ◌≤◌, ◌<◌, ◌^◌, ℕ, ◌+◌, ◌-◌, Bool, true, false, List, [], ◌∷◌, ◌++◌, length, take, drop, get_or}
use Rattle.std.proofs.Common.{slice_get, Option, None, Some, Result, Ok, Err}
use Rattle.std.proofs.Common.{refl, ap, sym, ◌∙◌, subst, arith}
use Rattle.std.proofs.lemmas.List.{append_assoc, append-nil, length-append, take_all}
use Rattle.std_words.specs.Steps.{◌>>=◌}
use Rattle.std_words.proofs.Faults.{bind_ok}
use Rattle.filter_syntax.specs.Meaning.{Doc, holds}
use Rattle.filter_syntax.specs.declared.filter.Filter.{Filter}
use Rattle.update_apply.specs.Answers.{Fails}
use Rattle.update_apply.specs.declared.refused.ApplyRefused.{ApplyRefused}
use Rattle.update_apply.specs.declared.refused.ApplyRefused.TheVariants.{Refused, NoMemory}
use Rattle.update_syntax.specs.After.{after}
use Rattle.update_syntax.specs.declared.update.Update.{Update}
use Rattle.doc_model.specs.Change.{becoming, differing, differs}
use Rattle.doc_model.specs.Step.{matching}
use Rattle.doc_history.specs.Docs.{doc_of, docs_in_rows}
use Rattle.table_rows.specs.declared.row.Row.{Row}
use Rattle.table_words.specs.declared.call.Edit.{Edit}
use Rattle.table_words.specs.declared.call.Edit.TheVariants as edit
use Rattle.table_words.specs.Sound.{IsSound}
use Rattle.doc_effects.specs.Edited.{Exchanges, IsRenewal, Removes, Renews, replacing}
use Rattle.doc_effects.specs.Outcomes.{AreEdits}
use Rattle.doc_effects.specs.Rows.{AreSound}
use Rattle.doc_effects.specs.declared.edits.Renewal.{Renewal}

-- ---- what a filter holds of

pub matching_more : (it : Filter) (doc : Doc) (docs : List Doc) → matching it (doc ∷ docs) ≡ matching it (doc ∷ []) ++ matching it docs
matching_more it doc docs = cases (holds it doc) refl
  where
    cases : (b : Bool) → holds it doc ≡ b → matching it (doc ∷ docs) ≡ matching it (doc ∷ []) ++ matching it docs
    cases true e = rw e refl
    cases false e = rw e refl

-- ---- edits

-- removals behind removals
removals_on : (olds more : List Doc) (edits others : List Edit) → AreEdits olds [] edits → AreEdits more [] others
    → AreEdits (olds ++ more) [] (edits ++ others)
removals_on [] more [] others one other = other
removals_on [] more (edit.Remove key ∷ edits) others one other = absurd one
removals_on [] more (edit.Replace row ∷ edits) others one other = absurd one
removals_on (old ∷ olds) more [] others one other = absurd one
removals_on (old ∷ olds) more (edit.Remove key ∷ edits) others one other = (one.0, removals_on olds more edits others one.1 other)
removals_on (old ∷ olds) more (edit.Replace row ∷ edits) others one other = absurd one

-- replacements behind replacements
replacements_on : (news more : List Doc) (edits others : List Edit) → AreEdits [] news edits → AreEdits [] more others
    → AreEdits [] (news ++ more) (edits ++ others)
replacements_on [] more [] others one other = other
replacements_on [] more (edit.Remove key ∷ edits) others one other = absurd one
replacements_on [] more (edit.Replace row ∷ edits) others one other = absurd one
replacements_on (new ∷ news) more [] others one other = absurd one
replacements_on (new ∷ news) more (edit.Remove key ∷ edits) others one other = absurd one
replacements_on (new ∷ news) more (edit.Replace row ∷ edits) others one other =
    (one.0, replacements_on news more edits others one.1 other)

pub length_removals : (olds : List Doc) (edits : List Edit) → AreEdits olds [] edits → length edits ≡ length olds
length_removals [] [] are = refl
length_removals [] (edit.Remove key ∷ edits) are = absurd are
length_removals [] (edit.Replace row ∷ edits) are = absurd are
length_removals (old ∷ olds) [] are = absurd are
length_removals (old ∷ olds) (edit.Remove key ∷ edits) are = let rest = length_removals olds edits are.1 in omega (arith, rest)
length_removals (old ∷ olds) (edit.Replace row ∷ edits) are = absurd are

pub length_replacements : (news : List Doc) (edits : List Edit) → AreEdits [] news edits → length edits ≡ length news
length_replacements [] [] are = refl
length_replacements [] (edit.Remove key ∷ edits) are = absurd are
length_replacements [] (edit.Replace row ∷ edits) are = absurd are
length_replacements (new ∷ news) [] are = absurd are
length_replacements (new ∷ news) (edit.Remove key ∷ edits) are = absurd are
length_replacements (new ∷ news) (edit.Replace row ∷ edits) are = let rest = length_replacements news edits are.1 in omega (arith, rest)

-- ---- removals

pub removes_on : (olds more : List Doc) (a b c : List Edit) → Removes olds a b → Removes more b c → Removes (olds ++ more) a c
removes_on olds more a b c one other = record {
  more = one.more ++ other.more;
  edits = removals_on olds more one.more other.more one.edits other.edits;
  are = other.are ∙ ap (λ (edits : List Edit). edits ++ other.more) one.are ∙ append_assoc a one.more other.more;
}

-- the edit by which a sound row goes
pub removes_row : (row : Row) (it : Edit) (before after : List Edit) → IsSound row → length row.key < 2 ^ 63 → it ≡ edit.Remove row.key
    → after ≡ before ++ it ∷ [] → Removes (doc_of row ∷ []) before after
removes_row row it before after sound short is are = record {
  more = edit.Remove row.key ∷ [];
  edits = (record { row = row; kept = record { sound = sound; is_of = refl; short = short }; key_is = refl }, tt);
  are = are ∙ ap (λ (it : Edit). before ++ it ∷ []) is;
}

-- ---- updates

-- all that were made, where all of the first and all of the others were
pub becoming_on : (update : Update) (now : ℕ) (olds more news others : List Doc) → becoming update now olds ≡ Ok news
    → becoming update now more ≡ Ok others → becoming update now (olds ++ more) ≡ Ok (news ++ others)
becoming_on update now [] more news others one other =
    let none : [] ≡ news = cc one in subst (λ (docs : List Doc). becoming update now more ≡ Ok (docs ++ others)) none other
becoming_on update now (old ∷ olds) more news others one other =
    let step = bind_ok (after update old now false) (λ new. becoming update now olds >>= λ news. Ok (new ∷ news)) news one in
    let rest = bind_ok (becoming update now olds) (λ made. Ok (step.0 ∷ made)) news step.2 in
    let made : step.0 ∷ rest.0 ≡ news = cc rest.2 in
    let on = becoming_on update now olds more rest.0 others rest.1 other in
    rw (step.1, on) (ap (λ (docs : List Doc). Ok (docs ++ others)) made)

length_becoming : (update : Update) (now : ℕ) (olds news : List Doc) → becoming update now olds ≡ Ok news → length olds ≡ length news
length_becoming update now [] news is = let none : [] ≡ news = cc is in ap length none
length_becoming update now (old ∷ olds) news is =
    let step = bind_ok (after update old now false) (λ new. becoming update now olds >>= λ news. Ok (new ∷ news)) news is in
    let rest = bind_ok (becoming update now olds) (λ made. Ok (step.0 ∷ made)) news step.2 in
    let made : step.0 ∷ rest.0 ≡ news = cc rest.2 in
    let more = length_becoming update now olds rest.0 rest.1 in
    let count = ap length made in omega (arith, more, count)

differing_on : (olds news more others : List Doc) → length olds ≡ length news
    → differing (olds ++ more) (news ++ others) ≡ differing olds news ++ differing more others
differing_on [] [] more others is = refl
differing_on [] (new ∷ news) more others is = absurd (omega (arith, is))
differing_on (old ∷ olds) [] more others is = absurd (omega (arith, is))
differing_on (old ∷ olds) (new ∷ news) more others is =
    cases (differs old new) refl (differing_on olds news more others (omega (arith, is)))
  where
    cases : (b : Bool) → differs old new ≡ b → differing (olds ++ more) (news ++ others) ≡ differing olds news ++ differing more others
        → differing (old ∷ olds ++ more) (new ∷ news ++ others) ≡ differing (old ∷ olds) (new ∷ news) ++ differing more others
    cases true e rest = rw e (ap (λ (docs : List Doc). new ∷ docs) rest)
    cases false e rest = rw e rest

pub renews_none : (update : Update) (now : ℕ) (before : List Edit) → Renews update now [] before before
renews_none update now before = record { news = []; become = refl; more = []; edits = tt; are = sym (append-nil before) }

pub renews_nothing : (update : Update) (now : ℕ) (it : Filter) (doc : Doc) (before : List Edit) → [] ≡ matching it (doc ∷ [])
    → Renews update now (matching it (doc ∷ [])) before before
renews_nothing update now it doc before none =
    subst (λ (docs : List Doc). Renews update now docs before before) none (renews_none update now before)

pub renews_on : (update : Update) (now : ℕ) (olds more : List Doc) (a b c : List Edit) → Renews update now olds a b
    → Renews update now more b c
    → Renews update now (olds ++ more) a c
renews_on update now olds more a b c one other = record {
  news = one.news ++ other.news;
  become = becoming_on update now olds more one.news other.news one.become other.become;
  more = one.more ++ other.more;
  edits = subst (λ (docs : List Doc). AreEdits [] docs (one.more ++ other.more))
      (sym (differing_on olds one.news more other.news (length_becoming update now olds one.news one.become)))
      (replacements_on (differing olds one.news) (differing more other.news) one.more other.more one.edits other.edits);
  are = other.are ∙ ap (λ (edits : List Edit). edits ++ other.more) one.are ∙ append_assoc a one.more other.more;
}

pub one_edit : (old new : Doc) (row : Option Row) → Exchanges old new row → AreEdits [] (differing (old ∷ []) (new ∷ [])) (replacing row)
one_edit old new None same = rw same tt
one_edit old new (Some row) other = rw other.0 (other.1, tt)

-- what an update makes of one document
pub renews_row : (update : Update) (now : ℕ) (old : Doc) (it : Renewal) (before after : List Edit) → IsRenewal update now old it
    → after ≡ before ++ replacing it.row → Renews update now (old ∷ []) before after
renews_row update now old it before after is are = record {
  news = it.doc ∷ [];
  become = rw is.made refl;
  more = replacing it.row;
  edits = one_edit old it.doc it.row is.exchanged;
  are = are;
}

pub count_renews : (update : Update) (now : ℕ) (olds : List Doc) (after : List Edit) (is : Renews update now olds [] after)
    → length after ≡ length (differing olds is.news)
count_renews update now olds after is = ap length is.are ∙ length_replacements (differing olds is.news) is.more is.edits

-- ---- refusals

err_first : (update : Update) (now : ℕ) (olds rest : List Doc) (kind : ℕ) → becoming update now olds ≡ Err kind
    → becoming update now (olds ++ rest) ≡ Err kind
err_first update now [] rest kind is = absurd (cc is)
err_first update now (old ∷ olds) rest kind is =
    by_first (after update old now false) refl (becoming update now olds) refl is (err_first update now olds rest kind)
  where
    by_first : (made : Result Doc ℕ) → after update old now false ≡ made → (more : Result (List Doc) ℕ) → becoming update now olds ≡ more
        → becoming update now (old ∷ olds) ≡ Err kind
        → (becoming update now olds ≡ Err kind → becoming update now (olds ++ rest) ≡ Err kind)
        → becoming update now (old ∷ olds ++ rest) ≡ Err kind
    by_first (Err fault) e more f is on = rw e (rw e at is)
    by_first (Ok new) e (Err fault) f is on =
        let same : ◌≡◌ {A = Result (List Doc) ℕ} (Err fault) (Err kind) = rw (e, f) at is in rw (e, on (f ∙ cc same)) refl
    by_first (Ok new) e (Ok news) f is on =
        let none : ◌≡◌ {A = Result (List Doc) ℕ} (Ok (new ∷ news)) (Err kind) = rw (e, f) at is in absurd (cc none)

err_behind : (update : Update) (now : ℕ) (olds more news : List Doc) (kind : ℕ) → becoming update now olds ≡ Ok news
    → becoming update now more ≡ Err kind → becoming update now (olds ++ more) ≡ Err kind
err_behind update now [] more news kind one other = other
err_behind update now (old ∷ olds) more news kind one other =
    let step = bind_ok (after update old now false) (λ new. becoming update now olds >>= λ news. Ok (new ∷ news)) news one in
    let rest = bind_ok (becoming update now olds) (λ made. Ok (step.0 ∷ made)) news step.2 in
    let on = err_behind update now olds more rest.0 kind rest.1 other in rw (step.1, on) refl

-- one of the documents is refused, those before it are not
pub fails_behind : (update : Update) (now : ℕ) (olds more rest : List Doc) (a b : List Edit) (why : ApplyRefused)
    → Renews update now olds a b
    → Fails why (becoming update now more) → Fails why (becoming update now (olds ++ (more ++ rest)))
fails_behind update now olds more rest a b NoMemory renews fails = tt
fails_behind update now olds more rest a b (Refused kind) renews fails =
    err_behind update now olds (more ++ rest) renews.news kind renews.become (err_first update now more rest kind fails)

-- ---- in the middle of the rows

-- the others, behind the first
abbrev pub others : List Row → List Row
others rows = take (length rows - 1) (drop 1 rows)

pub first_row : (rows : List Row) (row : Row) → 1 ≤ length rows → row ≡ get_or rows 0 row → slice_get rows 0 ≡ Some row
first_row [] row some is = absurd (omega (arith, some))
first_row (one ∷ rows) row some is = ap Some (sym is)

pub parted : (rows : List Row) (row : Row) → slice_get rows 0 ≡ Some row → rows ≡ row ∷ others rows
parted [] row is = absurd (cc is)
parted (one ∷ rows) row is =
    let same : one ≡ row = cc is in
    let rest : take (length (one ∷ rows) - 1) rows ≡ rows = take_all (length (one ∷ rows) - 1) rows (omega arith) in
    λ i. same i ∷ sym rest i

pub matching_parted : (it : Filter) (rows : List Row) (row : Row) → slice_get rows 0 ≡ Some row
    → matching it (docs_in_rows rows) ≡ matching it (doc_of row ∷ []) ++ matching it (docs_in_rows (others rows))
matching_parted it rows row is =
    ap (λ (rs : List Row). matching it (docs_in_rows rs)) (parted rows row is) ∙ matching_more it (doc_of row) (docs_in_rows (others rows))

pub sound_parted : (rows : List Row) (row : Row) → slice_get rows 0 ≡ Some row → AreSound rows → IsSound row × AreSound (others rows)
sound_parted rows row is sound = subst AreSound (parted rows row is) sound

pub length_others : (rows : List Row) (row : Row) → slice_get rows 0 ≡ Some row → length rows ≡ length (others rows) + 1
length_others rows row is = let long = ap length (parted rows row is) in omega (arith, long)

-- the edits of those so far, and the documents to come
pub record Going (update : Update) (now : ℕ) (all rest : List Doc) (matched : ℕ) (edits : List Edit) : Type 0 where
  pub olds : List Doc
  pub are : all ≡ olds ++ rest
  pub renews : Renews update now olds [] edits
  pub count : matched ≡ length olds

pub going_on : (update : Update) (now : ℕ) (it : Filter) (all : List Doc) (rows : List Row) (row : Row) (matched n : ℕ)
    (edits more : List Edit)
    → slice_get rows 0 ≡ Some row → Going update now all (matching it (docs_in_rows rows)) matched edits
    → Renews update now (matching it (doc_of row ∷ [])) edits more → n ≡ length (matching it (doc_of row ∷ []))
    → Going update now all (matching it (docs_in_rows (others rows))) (matched + n) more
going_on update now it all rows row matched n edits more is going renews count =
    let here : List Doc = matching it (doc_of row ∷ []) in
    record {
      olds = going.olds ++ here;
      are = going.are ∙ ap (λ (docs : List Doc). going.olds ++ docs) (matching_parted it rows row is)
          ∙ sym (append_assoc going.olds here (matching it (docs_in_rows (others rows))));
      renews = renews_on update now going.olds here [] edits more going.renews renews;
      count = omega (arith, going.count, count, length-append going.olds here);
    }

pub going_fails : (update : Update) (now : ℕ) (it : Filter) (all : List Doc) (rows : List Row) (row : Row) (matched : ℕ) (edits : List Edit)
    (why : ApplyRefused) → slice_get rows 0 ≡ Some row → Going update now all (matching it (docs_in_rows rows)) matched edits
    → Fails why (becoming update now (matching it (doc_of row ∷ []))) → Fails why (becoming update now all)
going_fails update now it all rows row matched edits why is going fails =
    let here : List Doc = matching it (doc_of row ∷ []) in
    let whole : all ≡ going.olds ++ (here ++ matching it (docs_in_rows (others rows))) =
    going.are ∙ ap (λ (docs : List Doc). going.olds ++ docs) (matching_parted it rows row is) in
    subst (λ (docs : List Doc). Fails why (becoming update now docs)) (sym whole)
    (fails_behind update now going.olds here (matching it (docs_in_rows (others rows))) [] edits why going.renews fails)

-- the same of removals
pub record Removing (all rest : List Doc) (edits : List Edit) : Type 0 where
  pub olds : List Doc
  pub are : all ≡ olds ++ rest
  pub removes : Removes olds [] edits

pub removing_on : (it : Filter) (all : List Doc) (rows : List Row) (row : Row) (edits more : List Edit) → slice_get rows 0 ≡ Some row
    → Removing all (matching it (docs_in_rows rows)) edits → Removes (matching it (doc_of row ∷ [])) edits more
    → Removing all (matching it (docs_in_rows (others rows))) more
removing_on it all rows row edits more is going removes =
    let here : List Doc = matching it (doc_of row ∷ []) in
    record {
      olds = going.olds ++ here;
      are = going.are ∙ ap (λ (docs : List Doc). going.olds ++ docs) (matching_parted it rows row is)
          ∙ sym (append_assoc going.olds here (matching it (docs_in_rows (others rows))));
      removes = removes_on going.olds here [] edits more going.removes removes;
    }
