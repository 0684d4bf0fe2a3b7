-- The call of an operation that reads is a step of the documents.
use Rattle.std.proofs.Common.{◌≡◌, ◌⊎◌, inl, inr, ⊎_elim, ℕ, Bool, true, false, List, [], ◌∷◌, Option, None, Some, map, All}
use Rattle.std.proofs.Common.{refl, ap, sym, ◌∙◌, subst, nat_le}
use Rattle.std.proofs.lemmas.List.Elements.{All-nil, All-cons}
use Rattle.history_lock.specs.declared.entry.Who.{Who}
use Rattle.bson_values.specs.declared.space.Space.{Space}
use Rattle.bson_values.specs.declared.value.Value.{Value, out-Value}
use Rattle.bson_values.specs.declared.value.Value.TheOpen.{Value-F}
use Rattle.bson_values.specs.declared.value.Value.TheVariants.{Arr}
use Rattle.bson_values.specs.Measures.{value_size}
use Rattle.distinct_values.specs.Distinct.{distinct}
use Rattle.filter_syntax.specs.Candidates.{is_array}
use Rattle.filter_syntax.specs.Meaning.{Doc}
use Rattle.filter_syntax.specs.declared.filter.Filter.{Filter}
use Rattle.jsonb_contain.specs.Containment.{met}
use Rattle.jsonb_contain.specs.declared.cond.Cond.{Cond}
use Rattle.naming.specs.Ids.{can_be_id}
use Rattle.pushdown.specs.Law as push
use Rattle.pushdown.specs.Pushed.{cond}
use Rattle.table_rows.specs.declared.listed.Placed.{Placed}
use Rattle.table_rows.specs.Rows.{selected}
use Rattle.table_words.specs.declared.call.TableCall.TheVariants as call
use Rattle.table_words.specs.declared.call.TableReply.{TableReply}
use Rattle.table_words.specs.declared.call.TableReply.TheVariants as reply
use Rattle.table_words.specs.Tables.{Table, Tables, named}
use Rattle.table_words.specs.Step.{selects, tables_after, is_kept, tstep}
use Rattle.table_words.specs.Sound.{IsSound, Sound, SoundRows}
use Rattle.table_words.proofs.Finds.{numbered-named, sound-found}
use Rattle.doc_model.specs.declared.op.Op.{Op}
use Rattle.doc_model.specs.declared.op.Op.TheVariants as op
use Rattle.doc_model.specs.declared.op.OpReply.{OpReply}
use Rattle.doc_model.specs.declared.op.OpReply.TheVariants as told
use Rattle.doc_model.specs.Run.{Done}
use Rattle.doc_model.specs.Step.{matching, meant, step, valued}
use Rattle.doc_model.specs.Store.{Store, collection_of, docs_in, docs_of}
use Rattle.doc_history.specs.Docs.{doc_of, docs, docs_in_rows, docs_at, collections}
use Rattle.doc_store.specs.Ended.{Comes}
use Rattle.doc_effects.specs.Replies.{Answers, op_of, answer_to}
use Rattle.doc_store.specs.Replies.{AreComing, Reads, rows_of}
use Rattle.doc_effects.specs.Rows.{AreSound}
use Rattle.doc_effects.specs.declared.aims.Aim.{Aim}
use Rattle.doc_effects.specs.declared.aims.Aim.TheVariants as aim
use Rattle.doc_store.proofs.Collections.{collection_at, collection-found}
use Rattle.doc_effects.proofs.Keys.{doc_sound}
use Rattle.doc_store.proofs.Steps.{by-reply, no-fault}

-- ---- rows as the law on pushed conditions has them

abbrev kept_of : Placed → push.Kept
kept_of p = record { doc = doc_of p.row; key = p.row.key; row = p.row.json }

no-array : (layer : Value-F Value) → can_be_id layer ≡ true → is_array layer ≡ false
no-array (Value-F.Arr items) may = absurd (cc may)
no-array (Value-F.Regex regex) may = refl
no-array (Value-F.Str text) may = refl
no-array (Value-F.Doc pairs) may = refl
no-array (Value-F.Bin it) may = refl
no-array (Value-F.Id id) may = refl
no-array (Value-F.Bool truth) may = refl
no-array (Value-F.Date moment) may = refl
no-array Value-F.Null may = refl
no-array (Value-F.Int number) may = refl
no-array (Value-F.Stamp stamp) may = refl
no-array (Value-F.Long number) may = refl

kept-sound : (p : Placed) → IsSound p.row → push.IsSound (kept_of p)
kept-sound p sound =
    let is : record { doc = sound.doc; key = p.row.key; row = p.row.json } ≡ kept_of p
    = ap (λ (d : Doc). record { doc = d; key = p.row.key; row = p.row.json }) (sym (doc_sound p.row sound)) in
    subst push.IsSound is (record {
      stored = sound.json.stored;
      id = sound.id;
      has_id = sound.has_id;
      no_array = no-array (out-Value sound.id) sound.may;
      key_is = sound.key_is;
      row_is = sym sound.json.row_is;
    })

all-kept : (next : ℕ) (ps : List Placed) → SoundRows next ps → All push.IsSound (map kept_of ps)
all-kept next [] sound = All-nil push.IsSound
all-kept next (p ∷ ps) sound = All-cons push.IsSound (kept_of p) (map kept_of ps) (kept-sound p sound.0) (all-kept next ps sound.3)

docs-kept : (ps : List Placed) → push.docs_of (map kept_of ps) ≡ docs_at ps
docs-kept [] = refl
docs-kept (p ∷ ps) = ap (λ ds. doc_of p.row ∷ ds) (docs-kept ps)

selected-kept : (it : Filter) (ps : List Placed) → push.docs_of (push.selected it (map kept_of ps)) ≡ docs_in_rows (selected (cond it) ps)
selected-kept it [] = refl
selected-kept it (p ∷ ps) = cases (met (cond it) p.row.key p.row.json) refl (selected-kept it ps)
  where
    cases : (b : Bool) → met (cond it) p.row.key p.row.json ≡ b
        → push.docs_of (push.selected it (map kept_of ps)) ≡ docs_in_rows (selected (cond it) ps)
        → push.docs_of (push.selected it (map kept_of (p ∷ ps))) ≡ docs_in_rows (selected (cond it) (p ∷ ps))
    cases true e rest = rw e (ap (λ ds. doc_of p.row ∷ ds) rest)
    cases false e rest = rw e rest

-- filtering what was selected is filtering all
abbrev pub Law : Type 0
Law = (all : List push.Kept) → All push.IsSound all → (it : Filter)
    → push.matching it (push.docs_of (push.selected it all)) ≡ push.matching it (push.docs_of all)

pub found-selected : Law → (it : Filter) (next : ℕ) (ps : List Placed) → SoundRows next ps
    → matching it (docs_in_rows (selected (cond it) ps)) ≡ matching it (docs_at ps)
found-selected law it next ps sound =
    ap (matching it) (sym (selected-kept it ps)) ∙ law (map kept_of ps) (all-kept next ps sound) it ∙ ap (matching it) (docs-kept ps)

-- ---- rows that come are sound

selected-sound : (next : ℕ) (by : Cond) (ps : List Placed) → SoundRows next ps → AreSound (selected by ps)
selected-sound next by [] sound = tt
selected-sound next by (p ∷ ps) sound = cases (met by p.row.key p.row.json) refl (selected-sound next by ps sound.3)
  where
    cases : (b : Bool) → met by p.row.key p.row.json ≡ b → AreSound (selected by ps) → AreSound (selected by (p ∷ ps))
    cases true e rest = rw e (sound.0, rest)
    cases false e rest = rw e rest

pub live-rows : (s : Tables) (space : Space) (t : Table) → Sound s → named space s.live ≡ Some t → SoundRows s.next t.rows
live-rows s space t sound at =
    (sound-found s.next t.number t s.live sound.tables (numbered-named s.next space t s.live sound.tables at)).rows

pub unkept : (s : Tables) (by : Cond) (o : Option Table) → is_kept (selects by reply.Absent s o).reply ≡ true → ⊥
unkept s by None e = cc
unkept s by (Some t) e = cc

pub rows-come : (s : Tables) (space : Space) (by : Cond) (r : TableReply) (before after : ℕ) → Sound s
    → tstep s (call.SelectNamed space by) r before after → AreComing (rows_of r)
rows-come s space by r before after sound t =
    by-reply (λ q u. AreComing (rows_of q)) s (call.SelectNamed space by) r before after t.replied tt
    (λ kept. absurd (unkept s by (named space s.live) kept)) (of (named space s.live) refl)
  where
    of : (o : Option Table) → named space s.live ≡ o → AreComing (rows_of (selects by reply.Absent s o).reply)
    of None at = tt
    of (Some t) at = selected-sound s.next by t.rows (live-rows s space t sound at)

-- ---- a read

-- values are told, or refused, as they are meant
valued-step : (who : Who) (now : ℕ) (by : Op) (s : Store) (values : List Value)
    → record { reply = valued values; store = s } ≡ meant who now by s → step who now by s (valued values) s
valued-step who now by s values is = cases (nat_le (value_size (Arr values)) 16777216) refl
  where
    cases : (b : Bool) → nat_le (value_size (Arr values)) 16777216 ≡ b → step who now by s (valued values) s
    cases true e = let as_values = rw e at is in rw e as_values
    cases false e = let as_refused = rw e at is in rw e as_refused

never-fault : (it : Aim) (docs : List Doc) → answer_to it docs ≡ told.Fault → ⊥
never-fault (aim.Documents show) docs e = cc e
never-fault (aim.Number skip limit) docs e = cc e
never-fault (aim.Values path) docs e = cases (nat_le (value_size (Arr (distinct path docs))) 16777216) refl
  where
    cases : (b : Bool) → nat_le (value_size (Arr (distinct path docs))) 16777216 ≡ b → ⊥
    cases true is = let fault = rw is at e in cc fault
    cases false is = let fault = rw is at e in cc fault

either-way : (answer wanted : OpReply) → Answers answer wanted → (answer ≡ told.NoMemory) ⊎ (answer ≡ wanted)
either-way told.NoMemory wanted is = inl refl
either-way told.Inserted wanted is = inr is
either-way (told.Selected found) wanted is = inr is
either-way (told.Updated matched changed upserted) wanted is = inr is
either-way (told.Deleted n) wanted is = inr is
either-way (told.Modified existed upserted value) wanted is = inr is
either-way (told.Counted n) wanted is = inr is
either-way (told.Values values) wanted is = inr is
either-way (told.Refused kind) wanted is = inr is
either-way told.Fault wanted is = inr is

module _ (law : Law) (who : Who) (now : ℕ) (it : Aim) (space : Space) (by : Filter) where
  abbrev done : OpReply → Done
  done r = record { who = who; now = now; op = op_of it space by; reply = r }

  shown-step : (one : Aim) (s : Store) (found : List Doc) → found ≡ matching by (docs_of space s)
      → step who now (op_of one space by) s (answer_to one found) s
  shown-step (aim.Documents show) s found is = rw is refl
  shown-step (aim.Number skip limit) s found is = rw is refl
  shown-step (aim.Values path) s found is = valued-step who now (op.Distinct space path by) s (distinct path found) (rw is refl)

  collection-at : (s : Tables) (o : Option Table) → named space s.live ≡ o → collection_of space (collections s.live) ≡ collection_at o
  collection-at s o at = collection-found space s.live ∙ ap collection_at at

  wants : (s : Tables) (q : TableReply) → (q ≡ reply.Fault → ⊥) → Comes (done told.NoMemory) s s q
  wants s q none = (refl, no-fault (λ e. cc) none)

  told-none : (s : Tables) (q : TableReply) (answer : OpReply) → (q ≡ reply.Fault → ⊥) → answer ≡ told.NoMemory → Comes (done answer) s s q
  told-none s q answer none e = subst (λ (a : OpReply). Comes (done a) s s q) (sym e) (wants s q none)

  told-shown : (s : Tables) (q : TableReply) (found : List Doc) (answer : OpReply) → (q ≡ reply.Fault → ⊥)
      → found ≡ matching by (docs_of space (docs s)) → answer ≡ answer_to it found → Comes (done answer) s s q
  told-shown s q found answer none is e =
      subst (λ (a : OpReply). Comes (done a) s s q) (sym e) (shown-step it (docs s) found is, no-fault (never-fault it found) none)

  tells : (s : Tables) (q : TableReply) (found : List Doc) (answer : OpReply) → (q ≡ reply.Fault → ⊥)
      → found ≡ matching by (docs_of space (docs s)) → Answers answer (answer_to it found) → Comes (done answer) s s q
  tells s q found answer none is given =
      ⊎_elim (told-none s q answer none) (told-shown s q found answer none is) (either-way answer (answer_to it found) given)

  read-meant : (s : Tables) (o : Option Table) → Sound s → named space s.live ≡ o → (answer : OpReply)
      → Reads it by (rows_of (selects (cond by) reply.Absent s o).reply) answer
      → Comes (done answer) s (selects (cond by) reply.Absent s o).tables (selects (cond by) reply.Absent s o).reply
  read-meant s None sound at answer given =
      tells s reply.Absent [] answer (λ e. cc) (ap (λ o. matching by (docs_in o)) (sym (collection-at s None at))) given
  read-meant s (Some t) sound at answer given =
      tells s (reply.Rows t.number t.stamp (selected (cond by) t.rows)) (matching by (docs_in_rows (selected (cond by) t.rows))) answer (λ e. cc)
      (found-selected law by s.next t.rows (live-rows s space t sound at)
      ∙ ap (λ o. matching by (docs_in o)) (sym (collection-at s (Some t) at))) given

  starved : (s : Tables) (answer : OpReply) → answer ≡ told.NoMemory → Comes (done answer) s s reply.NoMemory
  starved s answer is = told-none s reply.NoMemory answer (λ e. cc) is

  pub read-comes : (s : Tables) (r : TableReply) (before after : ℕ) (answer : OpReply) → Sound s
      → tstep s (call.SelectNamed space (cond by)) r before after → Reads it by (rows_of r) answer
      → Comes (done answer) s (tables_after s (call.SelectNamed space (cond by)) r) r
  read-comes s r before after answer sound t =
      by-reply (λ q u. Reads it by (rows_of q) answer → Comes (done answer) s u q) s (call.SelectNamed space (cond by)) r before after t.replied
      (starved s answer) (λ kept. absurd (unkept s (cond by) (named space s.live) kept)) (read-meant s (named space s.live) sound refl answer)
