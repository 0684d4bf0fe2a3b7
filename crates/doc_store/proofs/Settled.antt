-- The calls of an operation that changes documents, at the tables at which they stand.
use Rattle.std.proofs.Common.{◌≡◌, ◌⊎◌, inl, inr, ⊎_elim, ℕ, ◌+◌, ◌<◌, ◌==◌, Bool, true, false, ◌&&◌, List, [], ◌∷◌, ◌++◌, length, Option, None, Some}
use Rattle.std.proofs.Common.{refl, ap, sym, ◌∙◌, subst, arith}
use Rattle.std.specs.Prelude.{Result, Ok, Err, is_none, if◌then◌else◌}
use Rattle.std.proofs.lemmas.Bool.{eqb-true}
use Rattle.std_words.proofs.Tests.{and-both}
use Rattle.history_lock.specs.declared.entry.Who.{Who}
use Rattle.bson_values.specs.declared.space.Space.{Space}
use Rattle.doc_shape.specs.Shown.{shown}
use Rattle.filter_syntax.specs.Meaning.{Doc}
use Rattle.filter_syntax.specs.declared.filter.Filter.{Filter}
use Rattle.jsonb_contain.specs.declared.cond.Cond.{Cond}
use Rattle.pushdown.specs.Pushed.{cond}
use Rattle.table_rows.specs.declared.row.Row.{Row}
use Rattle.table_rows.specs.Rows.{selected}
use Rattle.table_words.specs.declared.call.Edit.{Edit}
use Rattle.table_words.specs.declared.call.TableCall.{TableCall}
use Rattle.table_words.specs.declared.call.TableCall.TheVariants as call
use Rattle.table_words.specs.declared.call.TableReply.{TableReply}
use Rattle.table_words.specs.declared.call.TableReply.TheVariants as reply
use Rattle.table_words.specs.Tables.{Table, Tables, named, numbered}
use Rattle.table_words.specs.Step.{selects, commits, changed, edited, added_at, tables_after, are_spent, has_added, tstep}
use Rattle.table_words.specs.Sound.{Sound}
use Rattle.table_words.specs.Kept.{Kept}
use Rattle.table_words.proofs.Finds.{number-same, has-number, has-space, named-numbered, numbered-named, sound-found}
use Rattle.std_words.specs.Steps.{◌>>=◌}
use Rattle.doc_model.specs.Change.{Effect, adding, built, exchanged, id_in, only, without_any}
use Rattle.doc_model.specs.declared.op.Modify.TheVariants.{Remove, Change}
use Rattle.doc_model.specs.declared.op.Op.{Op}
use Rattle.doc_model.specs.declared.op.OpReply.{OpReply}
use Rattle.doc_model.specs.declared.op.OpReply.TheVariants as told
use Rattle.doc_model.specs.Run.{Done}
use Rattle.doc_model.specs.Step as model
use Rattle.doc_model.specs.Store.{collection_of, docs_of, docs_in, has_id, with_docs}
use Rattle.doc_history.specs.Docs.{docs_at, docs, docs_in_rows, collection, collections}
use Rattle.doc_history.proofs.Going.{append-nil}
use Rattle.doc_store.specs.Attempts.{ending_of, rests}
use Rattle.doc_effects.specs.Deeds.{effect_of, op_done}
use Rattle.doc_store.specs.Ended.{Comes}
use Rattle.doc_effects.specs.Outcomes.{Adds, AreEdits, IsAnswer, IsKept, Makes, Settles}
use Rattle.doc_store.specs.Replies.{added_reply}
use Rattle.doc_store.specs.declared.changing.Tries.{Tries}
use Rattle.doc_store.specs.declared.changing.Tries.TheVariants.{Ends, Again}
use Rattle.doc_effects.specs.declared.deeds.Deed.{Deed}
use Rattle.doc_effects.specs.declared.deeds.Deed.TheVariants as deed
use Rattle.doc_effects.specs.declared.deeds.Outcome.{Outcome}
use Rattle.doc_store.proofs.Collections.{collection_at, collection-found, docs-append}
use Rattle.doc_store.proofs.Found.{Law, found-selected, live-rows, unkept}
use Rattle.doc_store.proofs.Renewed.{kept-key, edited-docs}
use Rattle.doc_store.proofs.Steps.{by-reply, no-fault, both-fault, two-refusals, docs-changed, stepped, answer-fine, Means, row-added, inserted-comes}

-- ---- a Select

-- what it was replied stands in the tables
pub record Stands (s : Tables) (space : Space) (by : Cond) (n stamp : ℕ) (rows : List Row) : Type 0 where
  pub table : Table
  pub live : named space s.live ≡ Some table
  pub number : n ≡ table.number
  pub stamp_is : stamp ≡ table.stamp
  pub rows_are : rows ≡ selected by table.rows

abbrev pub Looks : Tables → Space → Cond → TableReply → Type 0
Looks s space by (reply.Rows n stamp rows) = Stands s space by n stamp rows
Looks s space by reply.Absent = named space s.live ≡ None
Looks s space by r = Unit {0}

pub record Looked (s : Tables) (space : Space) (by : Cond) (r : TableReply) (u : Tables) : Type 0 where
  pub looks : Looks s space by r
  pub same : u ≡ s
  pub fine : r ≡ reply.Fault → ⊥

looked-meant : (s : Tables) (space : Space) (by : Cond) (o : Option Table) → named space s.live ≡ o
    → Looked s space by (selects by reply.Absent s o).reply (selects by reply.Absent s o).tables
looked-meant s space by None at = record { looks = at; same = refl; fine = λ e. cc e }
looked-meant s space by (Some t) at = record {
  looks = record { table = t; live = at; number = refl; stamp_is = refl; rows_are = refl };
  same = refl;
  fine = λ e. cc e;
}

pub looked : (s : Tables) (space : Space) (by : Cond) (r : TableReply) (before after : ℕ) → tstep s (call.SelectNamed space by) r before after
    → Looked s space by r (tables_after s (call.SelectNamed space by) r)
looked s space by r before after t =
    by-reply (λ q u. Looked s space by q u) s (call.SelectNamed space by) r before after t.replied
    (record { looks = tt; same = refl; fine = λ e. cc e }) (λ kept. absurd (unkept s by (named space s.live) kept))
    (looked-meant s space by (named space s.live) refl)

-- wherever the table of that number has that stamp, it is that of the space, and has these rows
abbrev pub Reads : Tables → Space → Cond → ℕ → ℕ → List Row → Type 0
Reads s space by n stamp rows = (t : Table) → numbered n s.live ≡ Some t → stamp ≡ t.stamp → (space ≡ t.space) × (rows ≡ selected by t.rows)

-- so it is behind the Select, whatever others did since
pub reads-kept : (a b : Tables) (space : Space) (by : Cond) (n stamp : ℕ) (rows : List Row) → Sound a → Stands a space by n stamp rows
    → Kept a b → Reads b space by n stamp rows
reads-kept a b space by n stamp rows sound is kept t live same =
    let own : numbered is.table.number a.live ≡ Some is.table = numbered-named a.next space is.table a.live sound.tables is.live in
    let given = (sound-found a.next is.table.number is.table a.live sound.tables own).stamp in
    let early : t.stamp < a.next = omega (arith, same, is.stamp_is, given) in
    let mine : numbered n a.live ≡ Some is.table = subst (λ k. numbered k a.live ≡ Some is.table) (sym is.number) own in
    let one : Some is.table ≡ Some t = sym mine ∙ kept.table n t live early in
    let table : is.table ≡ t = cc one in
    (has-space space is.table a.live is.live ∙ ap (λ (x : Table). x.space) table, is.rows_are ∙ ap (λ (x : Table). selected by x.rows) table)

-- ---- an outcome, at tables

module _ (law : Law) (who : Who) (now : ℕ) (space : Space) (by : Filter) (it : Deed) (outcome : Outcome) where
  abbrev pub done : OpReply → Done
  done r = record { who = who; now = now; op = op_done it space by; reply = r }

  -- it is the outcome of what the filter holds of there
  abbrev pub Fits : Tables → Type 0
  Fits s = Settles (effect_of who now by it (model.matching by (docs_of space (docs s)))) outcome

  meant-deed : (one : Deed) (s : Tables)
      → model.meant who now (op_done one space by) (docs s)
      ≡ model.by_effect space (docs s) (effect_of who now by one (model.matching by (docs_of space (docs s))))
  meant-deed (deed.Update update multi upsert) s = refl
  meant-deed (deed.Delete one) s = refl
  meant-deed (deed.Modify order change fresh upsert shape) s = refl

  docs-there : (s : Tables) (o : Option Table) → named space s.live ≡ o → docs_of space (docs s) ≡ docs_in (collection_at o)
  docs-there s o at = ap docs_in (collection-found space s.live ∙ ap collection_at at)

  -- the rows that were selected tell it, wherever they stand
  pub fits-rows : (s : Tables) (t : Table) → Sound s → named space s.live ≡ Some t
      → Settles (effect_of who now by it (model.matching by (docs_in_rows (selected (cond by) t.rows)))) outcome → Fits s
  fits-rows s t sound at is =
      subst (λ ds. Settles (effect_of who now by it ds) outcome)
      (found-selected law by s.next t.rows (live-rows s space t sound at) ∙ ap (model.matching by) (sym (docs-there s (Some t) at))) is

  pub fits-none : (s : Tables) → named space s.live ≡ None → Settles (effect_of who now by it []) outcome → Fits s
  fits-none s at is =
      subst (λ ds. Settles (effect_of who now by it ds) outcome) (ap (model.matching by) (sym (docs-there s None at))) is

  -- ---- nothing to be changed

  nothing-made : (gone news : List Doc) (edits : List Edit) → AreEdits gone news edits → edits ≡ [] → model.is_none_of (gone ++ news) ≡ true
  nothing-made [] [] edits are none = refl
  nothing-made (old ∷ gone) news edits are none = absurd (subst (AreEdits (old ∷ gone) news) none are)
  nothing-made [] (new ∷ news) edits are none = absurd (subst (AreEdits [] (new ∷ news)) none are)

  rest-effect : (s : Tables) (effect : Effect) (added : Option Doc) → Makes added effect outcome → outcome.edits ≡ [] → outcome.added ≡ None
      → model.effected space (docs s) effect added ≡ model.same effect.reply (docs s)
  rest-effect s effect (Some doc) makes none bare = absurd (subst (Adds doc) bare makes.1)
  rest-effect s effect None makes none bare = let still = nothing-made effect.gone effect.renewed outcome.edits makes.0 none in rw still refl

  rest-meant : (s : Tables) (found : Result Effect ℕ) → Settles found outcome → outcome.edits ≡ [] → outcome.added ≡ None
      → record { reply = outcome.reply; store = docs s } ≡ model.by_effect space (docs s) found
  rest-meant s (Ok effect) is none bare =
      ap (λ r. record { reply = r; store = docs s }) is.0 ∙ sym (rest-effect s effect effect.added is.1 none bare)
  rest-meant s (Err kind) is none bare = ap (λ r. record { reply = r; store = docs s }) is.0

  zero-none : {X : Type 0} (xs : List X) → (length xs == 0) ≡ true → xs ≡ []
  zero-none [] e = refl
  zero-none (x ∷ xs) e = absurd (let zero = eqb-true (length (x ∷ xs)) 0 e in omega (arith, zero))

  bare-none : {X : Type 0} (x : Option X) → is_none x ≡ true → x ≡ None
  bare-none None e = refl
  bare-none (Some x) e = absurd (cc e)

  -- the operation ends with its Select
  pub rest-comes : (s : Tables) (r : TableReply) → (r ≡ reply.Fault → ⊥) → IsAnswer outcome.reply → Fits s → rests outcome ≡ true
      → Comes (done outcome.reply) s s r
  rest-comes s r fine answer fits rest =
      let both = and-both (length outcome.edits == 0) (is_none outcome.added) rest in (
        stepped who now (op_done it space by) outcome.reply (docs s) (docs s) answer
            (rest-meant s (effect_of who now by it (model.matching by (docs_of space (docs s)))) fits (zero-none outcome.edits both.0)
            (bare-none outcome.added both.1) ∙ sym (meant-deed it s)),
        no-fault (answer-fine outcome.reply answer) fine,
      )

  pub starved-comes : (s : Tables) (r : TableReply) → (r ≡ reply.Fault → ⊥) → Comes (done told.NoMemory) s s r
  starved-comes s r fine = (refl, no-fault (λ e. cc e) fine)

  -- ---- a Commit

  -- how a try ended, by the tables around its Commit
  abbrev pub TriedComes : Tables → Tables → TableReply → Tries → Type 0
  TriedComes s t r (Ends answer) = Comes (done answer) s t r
  TriedComes s t r Again = docs t ≡ docs s

  named-at : (s : Tables) (t : Table) → Sound s → numbered t.number s.live ≡ Some t → space ≡ t.space → named space s.live ≡ Some t
  named-at s t sound live of =
      subst (λ x. named x s.live ≡ Some t) (sym of) (named-numbered s.next t.number t s.live sound.tables live)

  -- what was committed as edits
  commit-edits : (s : Tables) (t : Table) (r : OpReply) (edits : List Edit) (effect : Effect) → Sound s → numbered t.number s.live ≡ Some t
      → space ≡ t.space → IsAnswer r → r ≡ effect.reply → AreEdits effect.gone effect.renewed edits
      → model.is_none_of (effect.gone ++ effect.renewed) ≡ false
      → model.meant who now (op_done it space by) (docs s) ≡ model.effected space (docs s) effect None
      → TriedComes s (commits t.stamp edits None s (Some t)).tables (commits t.stamp edits None s (Some t)).reply
      (ending_of r (commits t.stamp edits None s (Some t)).reply)
  commit-edits s t r edits effect sound live of answer is are some meant =
      rw (number-same t.stamp) (two-refusals P s false (are_spent 1 s) reply.Duplicate reply.Spent
      (record { reply = reply.Done s.next; tables = changed t edits None s })
      (λ no. absurd (cc no))
      (λ no spent. (spends spent ∙ sym model_is, no-fault (λ e. cc) (λ e. cc)))
      (λ no left. (
        stepped who now (op_done it space by) r (docs s) (docs (changed t edits None s)) answer (goes left ∙ sym model_is),
        no-fault (answer-fine r answer) (λ e. cc),
      )))
    where
      P : TableReply → Tables → Type 0
      P q u = TriedComes s u q (ending_of r q)

      new : List Doc
      new = exchanged effect.renewed (without_any effect.gone (docs_at t.rows))

      there : docs_of space (docs s) ≡ docs_at t.rows
      there = docs-there s (Some t) (named-at s t sound live of)

      effected_is : model.effected space (docs s) effect None ≡ model.changed effect.reply space new (docs s)
      effected_is = rw some (ap (λ ds. model.changed effect.reply space (exchanged effect.renewed (without_any effect.gone ds)) (docs s)) there)

      model_is : model.meant who now (op_done it space by) (docs s) ≡ model.changed r space new (docs s)
      model_is = meant ∙ effected_is ∙ ap (λ x. model.changed x space new (docs s)) (sym is)

      spends : are_spent 1 s ≡ true → record { reply = told.Refused 33; store = docs s } ≡ model.changed r space new (docs s)
      spends spent = rw spent refl

      rows_are : docs_at (edited edits t.rows ++ added_at s.next None) ≡ new
      rows_are = ap docs_at (append-nil (edited edits t.rows))
          ∙ edited-docs s.next effect.gone effect.renewed edits t.rows are (sound-found s.next t.number t s.live sound.tables live).rows

      stored : docs (changed t edits None s) ≡ record { collections = with_docs space new (collections s.live); next = s.next + 1 }
      stored = docs-changed s t edits None new sound live rows_are
          ∙ ap (λ x. record { collections = with_docs x new (collections s.live); next = s.next + 1 }) (sym of)

      goes : are_spent 1 s ≡ false → record { reply = r; store = docs (changed t edits None s) } ≡ model.changed r space new (docs s)
      goes left = rw left (ap (λ x. record { reply = r; store = x }) stored)

  -- as a row that is added
  commit-adds : (s : Tables) (t : Table) (r : OpReply) (doc : Doc) (row : Row) → Sound s → numbered t.number s.live ≡ Some t
      → space ≡ t.space → IsAnswer r → IsKept row doc → Means who now space (op_done it space by) r doc row s
      → TriedComes s (commits t.stamp [] (Some row) s (Some t)).tables (commits t.stamp [] (Some row) s (Some t)).reply
      (ending_of r (commits t.stamp [] (Some row) s (Some t)).reply)
  commit-adds s t r doc row sound live of answer kept means =
      rw (number-same t.stamp) (row-added who now space (op_done it space by) r doc row (λ q u. TriedComes s u q (ending_of r q))
      (reply.Done s.next) s t (λ e. cc) sound kept answer means (named-at s t sound live of) (λ x. x) (λ x. x) (λ x. x))

  abbrev Committed : Tables → Table → OpReply → List Edit → Option Row → Type 0
  Committed s t r edits added = TriedComes s (commits t.stamp edits added s (Some t)).tables (commits t.stamp edits added s (Some t)).reply
      (ending_of r (commits t.stamp edits added s (Some t)).reply)

  something-made : (gone news : List Doc) (edits : List Edit) → AreEdits gone news edits → (length edits == 0) ≡ false
      → model.is_none_of (gone ++ news) ≡ false
  something-made [] [] [] are some = absurd (cc some)
  something-made [] [] (edit ∷ edits) are some = absurd are
  something-made (old ∷ gone) news edits are some = refl
  something-made [] (new ∷ news) edits are some = refl

  not-both : (a b : Bool) → (a && b) ≡ false → b ≡ true → a ≡ false
  not-both true true e is = absurd (cc e)
  not-both true false e is = absurd (cc is)
  not-both false b e is = refl

  -- by the effect
  commit-made : (s : Tables) (t : Table) (effect : Effect) (added : Option Doc) → Sound s → numbered t.number s.live ≡ Some t → space ≡ t.space
      → IsAnswer outcome.reply → rests outcome ≡ false → outcome.reply ≡ effect.reply → Makes added effect outcome
      → model.meant who now (op_done it space by) (docs s) ≡ model.effected space (docs s) effect added
      → Committed s t outcome.reply outcome.edits outcome.added
  commit-made s t effect None sound live of answer some is makes meant =
      let bare : is_none outcome.added ≡ true = ap is_none makes.1 in
      let edits = not-both (length outcome.edits == 0) (is_none outcome.added) some bare in
      subst (Committed s t outcome.reply outcome.edits) (sym makes.1)
      (commit-edits s t outcome.reply outcome.edits effect sound live of answer is makes.0
      (something-made effect.gone effect.renewed outcome.edits makes.0 edits) meant)
  commit-made s t effect (Some doc) sound live of answer some is makes meant = by-row outcome.added refl makes.1
    where
      by-row : (added : Option Row) → outcome.added ≡ added → Adds doc added → Committed s t outcome.reply outcome.edits outcome.added
      by-row None e adds = absurd adds
      by-row (Some row) e adds =
          subst (Committed s t outcome.reply outcome.edits) (sym e)
          (subst (λ edits. Committed s t outcome.reply edits (Some row)) (sym makes.0)
          (commit-adds s t outcome.reply doc row sound live of answer adds
          (meant ∙ ap (λ r. model.inserted r space doc (docs s) (collection_of space (collections s.live))) (sym is))))

  commit-found : (s : Tables) (t : Table) (found : Result Effect ℕ) → Sound s → numbered t.number s.live ≡ Some t → space ≡ t.space
      → IsAnswer outcome.reply → rests outcome ≡ false → Settles found outcome
      → model.meant who now (op_done it space by) (docs s) ≡ model.by_effect space (docs s) found
      → Committed s t outcome.reply outcome.edits outcome.added
  commit-found s t (Ok effect) sound live of answer some is meant =
      commit-made s t effect effect.added sound live of answer some is.0 is.1 meant
  commit-found s t (Err kind) sound live of answer some is meant =
      let none : rests outcome ≡ true = rw (is.1, is.2) refl in
      absurd (cc (some, none))

  commit-meant : (s : Tables) (n stamp : ℕ) (rows : List Row) (o : Option Table) → Sound s → Reads s space (cond by) n stamp rows
      → Settles (effect_of who now by it (model.matching by (docs_in_rows rows))) outcome → IsAnswer outcome.reply → rests outcome ≡ false
      → numbered n s.live ≡ o
      → TriedComes s (commits stamp outcome.edits outcome.added s o).tables (commits stamp outcome.edits outcome.added s o).reply
      (ending_of outcome.reply (commits stamp outcome.edits outcome.added s o).reply)
  commit-meant s n stamp rows None sound reads is answer some at = refl
  commit-meant s n stamp rows (Some t) sound reads is answer some at = cases (stamp == t.stamp) refl
    where
      Goal : ℕ → Type 0
      Goal x = TriedComes s (commits x outcome.edits outcome.added s (Some t)).tables (commits x outcome.edits outcome.added s (Some t)).reply
          (ending_of outcome.reply (commits x outcome.edits outcome.added s (Some t)).reply)

      live : numbered t.number s.live ≡ Some t
      live = subst (λ k. numbered k s.live ≡ Some t) (sym (has-number n t s.live at)) at

      cases : (b : Bool) → (stamp == t.stamp) ≡ b → Goal stamp
      cases true e =
          let same : stamp ≡ t.stamp = eqb-true stamp t.stamp e in
          let read = reads t at same in
          let fits = fits-rows s t sound (named-at s t sound live read.0)
          (subst (λ rs. Settles (effect_of who now by it (model.matching by (docs_in_rows rs))) outcome) read.1 is) in
          subst Goal (sym same) (commit-found s t (effect_of who now by it (model.matching by (docs_of space (docs s)))) sound live read.0
          answer some fits (meant-deed it s))
      cases false e = rw e refl

  pub commit-comes : (s : Tables) (n stamp : ℕ) (rows : List Row) (r : TableReply) (before after : ℕ) → Sound s
      → Reads s space (cond by) n stamp rows → Settles (effect_of who now by it (model.matching by (docs_in_rows rows))) outcome
      → IsAnswer outcome.reply → rests outcome ≡ false → tstep s (call.Commit n stamp outcome.edits outcome.added) r before after
      → TriedComes s (tables_after s (call.Commit n stamp outcome.edits outcome.added) r) r (ending_of outcome.reply r)
  commit-comes s n stamp rows r before after sound reads is answer some t =
      by-reply (λ q u. TriedComes s u q (ending_of outcome.reply q)) s (call.Commit n stamp outcome.edits outcome.added) r before after t.replied
      (refl, no-fault (λ e. cc) (λ e. cc)) (λ kept. (refl, both-fault))
      (commit-meant s n stamp rows (numbered n s.live) sound reads is answer some refl)

  -- where the table has the stamp, the operation ends
  pub commit-ends : (s : Tables) (t : Table) (n stamp : ℕ) (r : TableReply) (before after : ℕ) → numbered n s.live ≡ Some t → stamp ≡ t.stamp
      → tstep s (call.Commit n stamp outcome.edits outcome.added) r before after → ending_of outcome.reply r ≡ Again → ⊥
  commit-ends s t n stamp r before after at same step =
      by-reply (λ q u. ending_of outcome.reply q ≡ Again → ⊥) s (call.Commit n stamp outcome.edits outcome.added) r before after step.replied
      (λ e. cc e) (λ kept e. cc e)
      (subst (λ o. ending_of outcome.reply (commits stamp outcome.edits outcome.added s o).reply ≡ Again → ⊥) (sym at)
      (subst (λ x. ending_of outcome.reply (commits x outcome.edits outcome.added s (Some t)).reply ≡ Again → ⊥) (sym same)
      (rw (number-same t.stamp) (two-refusals (λ q u. ending_of outcome.reply q ≡ Again → ⊥) s (has_added outcome.added t.rows) (are_spent 1 s)
      reply.Duplicate reply.Spent (record { reply = reply.Done s.next; tables = changed t outcome.edits outcome.added s })
      (λ a e. cc e) (λ a b e. cc e) (λ a b e. cc e)))))

  -- ---- a collection that is absent

  -- nothing goes, and nothing is renewed
  none-built : (one : Effect) (make : Doc → OpReply) (found : Result Doc ℕ) → found >>= (λ doc. Ok (adding (make doc) doc)) ≡ Ok one
      → model.is_none_of (one.gone ++ one.renewed) ≡ true
  none-built one make (Ok doc) is = let same : adding (make doc) doc ≡ one = cc is in ap (λ (e : Effect). model.is_none_of (e.gone ++ e.renewed)) (sym same)
  none-built one make (Err kind) is = absurd (cc is)

  none-only : (one : Effect) (r : OpReply) → ◌≡◌ {A = Result Effect ℕ} (Ok (only r)) (Ok one) → model.is_none_of (one.gone ++ one.renewed) ≡ true
  none-only one r is = let same : only r ≡ one = cc is in ap (λ (e : Effect). model.is_none_of (e.gone ++ e.renewed)) (sym same)

  none-changed : (one : Deed) (effect : Effect) → effect_of who now by one [] ≡ Ok effect → model.is_none_of (effect.gone ++ effect.renewed) ≡ true
  none-changed (deed.Update update multi false) effect is = none-only effect (told.Updated 0 0 None) is
  none-changed (deed.Update update multi true) effect is = none-built effect (λ doc. told.Updated 0 0 (id_in doc)) (built who now by update) is
  none-changed (deed.Delete true) effect is = none-only effect (told.Deleted 0) is
  none-changed (deed.Delete false) effect is = none-only effect (told.Deleted 0) is
  none-changed (deed.Modify order Remove fresh upsert shape) effect is = none-only effect (told.Modified false None None) is
  none-changed (deed.Modify order (Change update) fresh false shape) effect is = none-only effect (told.Modified false None None) is
  none-changed (deed.Modify order (Change update) fresh true shape) effect is =
      none-built effect (λ doc. told.Modified false (id_in doc) (if fresh then Some (shown shape doc) else None)) (built who now by update) is

  none-edits : (gone news : List Doc) (edits : List Edit) → model.is_none_of (gone ++ news) ≡ true → AreEdits gone news edits → edits ≡ []
  none-edits [] [] [] e are = refl
  none-edits [] [] (edit ∷ edits) e are = absurd are
  none-edits (old ∷ gone) news edits e are = absurd (cc e)
  none-edits [] (new ∷ news) edits e are = absurd (cc e)

  -- what is not to be added rests
  pub rest-absent : Settles (effect_of who now by it []) outcome → outcome.added ≡ None → rests outcome ≡ true
  rest-absent settles bare = of (effect_of who now by it []) refl settles
    where
      made : (effect : Effect) (added : Option Doc) → model.is_none_of (effect.gone ++ effect.renewed) ≡ true → Makes added effect outcome
          → outcome.edits ≡ []
      made effect None still makes = none-edits effect.gone effect.renewed outcome.edits still makes.0
      made effect (Some doc) still makes = makes.0

      of : (found : Result Effect ℕ) → effect_of who now by it [] ≡ found → Settles found outcome → rests outcome ≡ true
      of (Ok effect) e is = let edits = made effect effect.added (none-changed it effect e) is.1 in rw (edits, bare) refl
      of (Err kind) e is = rw (is.1, is.2) refl

  -- its row is added by name
  pub insert-comes : (s : Tables) (row : Row) (r : TableReply) (before after : ℕ) → Sound s → named space s.live ≡ None
      → Settles (effect_of who now by it []) outcome → outcome.added ≡ Some row → IsAnswer outcome.reply
      → tstep s (call.InsertNamed space row) r before after
      → Comes (done (added_reply outcome.reply r)) s (tables_after s (call.InsertNamed space row) r) r
  insert-comes s row r before after sound at is adds answer t =
      of (effect_of who now by it (model.matching by (docs_of space (docs s)))) (fits-none s at is) (meant-deed it s)
    where
      Goal : Type 0
      Goal = Comes (done (added_reply outcome.reply r)) s (tables_after s (call.InsertNamed space row) r) r

      of-added : (effect : Effect) (added : Option Doc) → outcome.reply ≡ effect.reply → Makes added effect outcome
          → model.meant who now (op_done it space by) (docs s) ≡ model.effected space (docs s) effect added → Goal
      of-added effect None e makes meant = let none = sym makes.1 ∙ adds in absurd (cc none)
      of-added effect (Some doc) e makes meant =
          inserted-comes who now space (op_done it space by) outcome.reply doc row s r before after sound (subst (Adds doc) adds makes.1) answer
          (meant ∙ ap (λ x. model.inserted x space doc (docs s) (collection_of space (collections s.live))) (sym e)) t

      of : (found : Result Effect ℕ) → Settles found outcome
          → model.meant who now (op_done it space by) (docs s) ≡ model.by_effect space (docs s) found → Goal
      of (Ok effect) is meant = of-added effect effect.added is.0 is.1 meant
      of (Err kind) is meant = let none = sym is.2 ∙ adds in absurd (cc none)
