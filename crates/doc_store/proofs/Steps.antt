-- A call that adds a row is a step of the documents, or leaves them.
use Rattle.std.proofs.Common.{◌≡◌, ◌↔◌, ℕ, ◌+◌, ◌<◌, ◌^◌, Bool, true, false, List, [], ◌∷◌, ◌++◌, length, Option, None, Some}
use Rattle.std.proofs.Common.{refl, ap, sym, ◌∙◌, subst}
use Rattle.history_lock.specs.declared.entry.Who.{Who}
use Rattle.bson_values.specs.declared.space.Space.{Space}
use Rattle.filter_syntax.specs.Meaning.{Doc}
use Rattle.table_rows.specs.declared.row.Row.{Row}
use Rattle.table_rows.specs.Rows.{has_key}
use Rattle.table_words.specs.declared.call.Edit.{Edit}
use Rattle.table_words.specs.declared.call.TableCall.{TableCall}
use Rattle.table_words.specs.declared.call.TableCall.TheVariants as call
use Rattle.table_words.specs.declared.call.TableReply.{TableReply}
use Rattle.table_words.specs.declared.call.TableReply.TheVariants as reply
use Rattle.table_words.specs.Tables.{Table, Tables, named, numbered}
use Rattle.table_words.specs.Step.{Meant, refused, changed, created_with, edited, added_at, inserts_named, meant, tables_after, is_full, are_spent}
use Rattle.table_words.specs.Step.{is_kept, replies, tstep}
use Rattle.table_words.specs.Sound.{Sound}
use Rattle.table_words.proofs.Finds.{numbered-named, has-space, sound-found}
use Rattle.doc_model.specs.Insert.{completed, id_of}
use Rattle.doc_model.specs.declared.op.Op.{Op}
use Rattle.doc_model.specs.declared.op.Op.TheVariants as op
use Rattle.doc_model.specs.declared.op.OpReply.{OpReply}
use Rattle.doc_model.specs.declared.op.OpReply.TheVariants as told
use Rattle.doc_model.specs.Run.{Done}
use Rattle.doc_model.specs.Step as model
use Rattle.doc_model.specs.Store.{Store, collection_of, has_id, with_docs}
use Rattle.doc_history.specs.Docs.{docs_at, docs, collection, collections}
use Rattle.doc_store.specs.Ended.{Comes}
use Rattle.doc_effects.specs.Outcomes.{IsAnswer, IsKept}
use Rattle.doc_store.specs.Replies.{added_reply}
use Rattle.doc_store.proofs.Collections.{collection_at, collection-found, length-collections, docs-append, collections-last, collections-put}
use Rattle.doc_store.proofs.Renewed.{kept-for, kept-key}
use Rattle.doc_effects.specs.Rows.{IsRowFor}

-- ---- replies

-- a reply is want of memory, a fault, or the meant one
pub by-reply : (P : TableReply → Tables → Type 0) (s : Tables) (c : TableCall) (r : TableReply) (before after : ℕ)
    → replies s c r before after → P reply.NoMemory s → (is_kept (meant s c).reply ≡ true → P reply.Fault s)
    → P (meant s c).reply (meant s c).tables → P r (tables_after s c r)
by-reply P s c reply.NoMemory before after is none fault given = none
by-reply P s c reply.Fault before after is none fault given = fault is.0
by-reply P s c (reply.Rows n stamp rows) before after is none fault given = subst (λ r. P r (meant s c).tables) (sym is.0) given
by-reply P s c reply.Absent before after is none fault given = subst (λ r. P r (meant s c).tables) (sym is.0) given
by-reply P s c reply.Gone before after is none fault given = subst (λ r. P r (meant s c).tables) (sym is.0) given
by-reply P s c (reply.Moved stamp) before after is none fault given = subst (λ r. P r (meant s c).tables) (sym is.0) given
by-reply P s c reply.Duplicate before after is none fault given = subst (λ r. P r (meant s c).tables) (sym is.0) given
by-reply P s c (reply.Inserted n stamp) before after is none fault given = subst (λ r. P r (meant s c).tables) (sym is.0) given
by-reply P s c (reply.Done stamp) before after is none fault given = subst (λ r. P r (meant s c).tables) (sym is.0) given
by-reply P s c (reply.Dropped count) before after is none fault given = subst (λ r. P r (meant s c).tables) (sym is.0) given
by-reply P s c reply.Exists before after is none fault given = subst (λ r. P r (meant s c).tables) (sym is.0) given
by-reply P s c (reply.Names names) before after is none fault given = subst (λ r. P r (meant s c).tables) (sym is.0) given
by-reply P s c reply.Spent before after is none fault given = subst (λ r. P r (meant s c).tables) (sym is.0) given
by-reply P s c reply.Full before after is none fault given = subst (λ r. P r (meant s c).tables) (sym is.0) given

-- neither is a fault
pub no-fault : {r : OpReply} {q : TableReply} → (r ≡ told.Fault → ⊥) → (q ≡ reply.Fault → ⊥) → (r ≡ told.Fault) ↔ (q ≡ reply.Fault)
no-fault f g = ((λ e. absurd (f e)), (λ e. absurd (g e)))

pub both-fault : (told.Fault ≡ told.Fault) ↔ (reply.Fault ≡ reply.Fault)
both-fault = ((λ e. refl), (λ e. refl))

pub two-refusals : (P : TableReply → Tables → Type 0) (s : Tables) (a b : Bool) (q r : TableReply) (done : Meant) → (a ≡ true → P q s)
    → (a ≡ false → b ≡ true → P r s) → (a ≡ false → b ≡ false → P done.reply done.tables)
    → P (refused s ((a, q) ∷ (b, r) ∷ []) done).reply (refused s ((a, q) ∷ (b, r) ∷ []) done).tables
two-refusals P s true b q r done first second last = first refl
two-refusals P s false true q r done first second last = second refl refl
two-refusals P s false false q r done first second last = last refl refl

-- ---- what is told

-- an answer is told as it is meant
pub stepped : (who : Who) (now : ℕ) (o : Op) (r : OpReply) (s t : Store) → IsAnswer r
    → record { reply = r; store = t } ≡ model.meant who now o s → model.step who now o s r t
stepped who now o told.Inserted s t answer is = is
stepped who now o (told.Selected docs) s t answer is = is
stepped who now o (told.Counted n) s t answer is = is
stepped who now o (told.Values values) s t answer is = is
stepped who now o (told.Updated matched changed upserted) s t answer is = is
stepped who now o (told.Deleted n) s t answer is = is
stepped who now o (told.Modified existed upserted value) s t answer is = is
stepped who now o (told.Refused kind) s t answer is = is
stepped who now o told.Fault s t answer is = absurd answer
stepped who now o told.NoMemory s t answer is = absurd answer

pub answer-fine : (r : OpReply) → IsAnswer r → r ≡ told.Fault → ⊥
answer-fine r answer is = subst IsAnswer is answer

-- ---- a row that is added

pub docs-changed : (s : Tables) (t : Table) (edits : List Edit) (added : Option Row) (ds : List Doc) → Sound s → numbered t.number s.live ≡ Some t
    → docs_at (edited edits t.rows ++ added_at s.next added) ≡ ds
    → docs (changed t edits added s) ≡ record { collections = with_docs t.space ds (collections s.live); next = s.next + 1 }
docs-changed s t edits added ds sound live is =
    let there = collections-put s.next s.next t (edited edits t.rows ++ added_at s.next added) s.live sound.tables live
    ∙ ap (λ x. with_docs t.space x (collections s.live)) is in
    λ i. record { collections = there i; next = s.next + 1 }

full-docs : (s : Tables) → is_full s ≡ model.is_full (docs s)
full-docs s = rw (length-collections s.live) refl

-- an operation that is replied so and adds a document, with its row
module _ (who : Who) (now : ℕ) (space : Space) (o : Op) (reply_is : OpReply) (doc : Doc) (row : Row) where
  abbrev done : OpReply → Done
  done r = record { who = who; now = now; op = o; reply = r }

  -- that is what it means at these tables
  abbrev pub Means : Tables → Type 0
  Means s = model.meant who now o (docs s) ≡ model.inserted reply_is space doc (docs s) (collection_of space (collections s.live))

  means-at : (s : Tables) (t : Option Table) → Means s → named space s.live ≡ t
      → model.meant who now o (docs s) ≡ model.inserted reply_is space doc (docs s) (collection_at t)
  means-at s t means at = means ∙ ap (model.inserted reply_is space doc (docs s)) (collection-found space s.live ∙ ap collection_at at)

  -- the row is added to a live table, or refused, with these replies
  pub row-added : (P : TableReply → Tables → Type 0) (q : TableReply) (s : Tables) (t : Table) → (q ≡ reply.Fault → ⊥) → Sound s → IsKept row doc
      → IsAnswer reply_is → Means s → named space s.live ≡ Some t
      → (Comes (done (told.Refused 31)) s s reply.Duplicate → P reply.Duplicate s)
      → (Comes (done (told.Refused 33)) s s reply.Spent → P reply.Spent s)
      → (Comes (done reply_is) s (changed t [] (Some row) s) q → P q (changed t [] (Some row) s))
      → P (refused s ((has_key row.key t.rows, reply.Duplicate) ∷ (are_spent 1 s, reply.Spent) ∷ [])
      (record { reply = q; tables = changed t [] (Some row) s })).reply
      (refused s ((has_key row.key t.rows, reply.Duplicate) ∷ (are_spent 1 s, reply.Spent) ∷ [])
      (record { reply = q; tables = changed t [] (Some row) s })).tables
  row-added P q s t fine sound is answer means at twice end last =
      two-refusals P s (has_key row.key t.rows) (are_spent 1 s) reply.Duplicate reply.Spent
      (record { reply = q; tables = changed t [] (Some row) s })
      (λ taken. twice (duplicate taken ∙ sym model_is, no-fault (λ e. cc) (λ e. cc)))
      (λ new spent. end (spends new spent ∙ sym model_is, no-fault (λ e. cc) (λ e. cc)))
      (λ new left. last (stepped who now o reply_is (docs s) _ answer (goes new left ∙ sym model_is), no-fault (answer-fine reply_is answer) fine))
    where
      model_is : model.meant who now o (docs s) ≡ model.inserted reply_is space doc (docs s) (Some (collection t))
      model_is = means-at s (Some t) means at

      live : numbered t.number s.live ≡ Some t
      live = numbered-named s.next space t s.live sound.tables at

      ids : has_key row.key t.rows ≡ has_id doc (docs_at t.rows)
      ids = kept-key s.next row doc t.rows is (sound-found s.next t.number t s.live sound.tables live).rows

      duplicate : has_key row.key t.rows ≡ true
          → record { reply = told.Refused 31; store = docs s } ≡ model.inserted reply_is space doc (docs s) (Some (collection t))
      duplicate taken = let id = sym ids ∙ taken in rw id refl

      spends : has_key row.key t.rows ≡ false → are_spent 1 s ≡ true
          → record { reply = told.Refused 33; store = docs s } ≡ model.inserted reply_is space doc (docs s) (Some (collection t))
      spends new spent = let id = sym ids ∙ new in rw (id, spent) refl

      rows_are : docs_at (edited [] t.rows ++ added_at s.next (Some row)) ≡ docs_at t.rows ++ doc ∷ []
      rows_are = docs-append t.rows (added_at s.next (Some row)) ∙ ap (λ (x : Doc). docs_at t.rows ++ x ∷ []) is.is_of

      stored : docs (changed t [] (Some row) s)
          ≡ record { collections = with_docs space (docs_at t.rows ++ doc ∷ []) (collections s.live); next = s.next + 1 }
      stored = docs-changed s t [] (Some row) (docs_at t.rows ++ doc ∷ []) sound live rows_are
          ∙ ap (λ x. record { collections = with_docs x (docs_at t.rows ++ doc ∷ []) (collections s.live); next = s.next + 1 })
          (sym (has-space space t s.live at))

      goes : has_key row.key t.rows ≡ false → are_spent 1 s ≡ false
          → record { reply = reply_is; store = docs (changed t [] (Some row) s) }
          ≡ model.inserted reply_is space doc (docs s) (Some (collection t))
      goes new left = let id = sym ids ∙ new in rw (id, left) (ap (λ x. record { reply = reply_is; store = x }) stored)

  inserted-meant : (s : Tables) (t : Option Table) → Sound s → IsKept row doc → IsAnswer reply_is → Means s → named space s.live ≡ t
      → Comes (done (added_reply reply_is (inserts_named space row s t).reply)) s (inserts_named space row s t).tables
      (inserts_named space row s t).reply
  inserted-meant s (Some t) sound is answer means at =
      row-added (λ r u. Comes (done (added_reply reply_is r)) s u r) (reply.Inserted t.number s.next) s t (λ e. cc) sound is answer means at
      (λ x. x) (λ x. x) (λ x. x)
  inserted-meant s None sound is answer means at = two-refusals P s (is_full s) (are_spent 2 s) reply.Full reply.Spent
      (record { reply = reply.Inserted s.next (s.next + 1); tables = created_with space row s })
      (λ full. (fills full ∙ sym model_is, no-fault (λ e. cc) (λ e. cc)))
      (λ room spent. (spends room spent ∙ sym model_is, no-fault (λ e. cc) (λ e. cc)))
      (λ room left. (stepped who now o reply_is (docs s) _ answer (goes room left ∙ sym model_is), no-fault (answer-fine reply_is answer) (λ e. cc)))
    where
      P : TableReply → Tables → Type 0
      P r u = Comes (done (added_reply reply_is r)) s u r

      model_is : model.meant who now o (docs s) ≡ model.inserted reply_is space doc (docs s) None
      model_is = means-at s None means at

      fills : is_full s ≡ true → record { reply = told.Refused 34; store = docs s } ≡ model.inserted reply_is space doc (docs s) None
      fills full = let e = sym (full-docs s) ∙ full in rw e refl

      spends : is_full s ≡ false → are_spent 2 s ≡ true
          → record { reply = told.Refused 33; store = docs s } ≡ model.inserted reply_is space doc (docs s) None
      spends room spent = let e = sym (full-docs s) ∙ room in rw (e, spent) refl

      u : Table
      u = record { number = s.next; stamp = s.next + 1; space = space; rows = record { place = s.next + 1; row = row } ∷ [] }

      there : collections (s.live ++ u ∷ []) ≡ collections s.live ++ record { space = space; docs = doc ∷ [] } ∷ []
      there = collections-last s.live u
          ∙ ap (λ (x : Doc). collections s.live ++ record { space = space; docs = x ∷ [] } ∷ []) is.is_of

      goes : is_full s ≡ false → are_spent 2 s ≡ false
          → record { reply = reply_is; store = docs (created_with space row s) } ≡ model.inserted reply_is space doc (docs s) None
      goes room left =
          let e = sym (full-docs s) ∙ room in
          rw (e, left) (λ i. record { reply = reply_is; store = record { collections = there i; next = s.next + 2 } })

  pub inserted-comes : (s : Tables) (r : TableReply) (before after : ℕ) → Sound s → IsKept row doc → IsAnswer reply_is → Means s
      → tstep s (call.InsertNamed space row) r before after
      → Comes (done (added_reply reply_is r)) s (tables_after s (call.InsertNamed space row) r) r
  inserted-comes s r before after sound is answer means t =
      by-reply (λ q u. Comes (done (added_reply reply_is q)) s u q) s (call.InsertNamed space row) r before after t.replied
      (refl, no-fault (λ e. cc) (λ e. cc)) (λ kept. (refl, both-fault))
      (inserted-meant s (named space s.live) sound is answer means refl)

-- an insert whose words are not refused
pub insert-comes : (who : Who) (now : ℕ) (space : Space) (doc : Doc) (row : Row) (s : Tables) (r : TableReply) (before after : ℕ) → Sound s
    → IsRowFor (id_of who now doc) (completed who now doc) row → model.refused_by_words who now (op.Insert space doc) ≡ None
    → tstep s (call.InsertNamed space row) r before after
    → Comes (record { who = who; now = now; op = op.Insert space doc; reply = added_reply told.Inserted r }) s
    (tables_after s (call.InsertNamed space row) r) r
insert-comes who now space doc row s r before after sound is words t =
    let whole = completed who now doc in
    inserted-comes who now space (op.Insert space doc) told.Inserted whole row s r before after sound
    (kept-for (id_of who now doc) whole row is) tt
    (ap (λ kind. model.by_kind kind (docs s) (model.inserted told.Inserted space whole (docs s) (collection_of space (collections s.live)))) words) t
