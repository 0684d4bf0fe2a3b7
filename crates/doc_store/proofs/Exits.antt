-- How an operation that changes documents ends, by its calls.
use Rattle.std.proofs.Common.{◌≡◌, ◌⊎◌, inl, inr, ⊎_elim, ℕ, ◌+◌, ◌≤◌, Bool, true, List, [], Option, None, Some, refl, ap, sym, ◌∙◌, subst, arith}
use Rattle.std.specs.Prelude.{Result, Ok, Err, IfOk}
use Rattle.history_lock.specs.declared.entry.Who.{Who}
use Rattle.history_lock.specs.Legal.{replay}
use Rattle.bson_values.specs.declared.space.Space.{Space}
use Rattle.filter_syntax.specs.declared.filter.Filter.{Filter}
use Rattle.pushdown.specs.Pushed.{cond}
use Rattle.table_rows.specs.declared.row.Row.{Row}
use Rattle.table_words.specs.Called.{Called}
use Rattle.table_words.specs.Kept.{Kept}
use Rattle.table_words.specs.Sound.{Sound, SoundAdded, SoundEdits}
use Rattle.table_words.specs.Step.{tables_after, tstep}
use Rattle.table_words.specs.Tables.{Tables, named, numbered}
use Rattle.table_words.proofs.Finds.{numbered-named}
use Rattle.table_words.specs.declared.call.TableCall.{TableCall}
use Rattle.table_words.specs.declared.call.TableCall.TheVariants as call
use Rattle.table_words.specs.declared.call.TableReply.{TableReply}
use Rattle.table_words.specs.declared.call.TableReply.TheVariants as reply
use Rattle.doc_model.specs.Change.{Effect}
use Rattle.filter_syntax.specs.Meaning.{Doc}
use Rattle.doc_store.proofs.Renewed.{sound-edits}
use Rattle.doc_model.specs.Run.{Done}
use Rattle.doc_model.specs.Step.{matching}
use Rattle.doc_model.specs.declared.op.Op.{Op}
use Rattle.doc_model.specs.declared.op.OpReply.{OpReply}
use Rattle.doc_model.specs.declared.op.OpReply.TheVariants as told
use Rattle.doc_history.specs.Docs.{docs, docs_in_rows}
use Rattle.doc_history.specs.Part.{Views}
use Rattle.doc_store.specs.Attempts.{AddsNamed, AddsRow, Changes, Commits, FitsEnd, Tells, TellsEnd, ending_of, selection_of, untried, untried_by}
use Rattle.doc_store.specs.Carried.{Carried}
use Rattle.doc_effects.specs.Deeds.{effect_of, op_done}
use Rattle.doc_store.specs.Ended.{Comes, Ended, Tried}
use Rattle.doc_effects.specs.Outcomes.{Adds, IsAnswer, Makes, Settles}
use Rattle.doc_effects.specs.Replies.{Fits}
use Rattle.doc_store.specs.Replies.{added_reply}
use Rattle.doc_store.specs.declared.changing.Selection.TheVariants as selection
use Rattle.doc_store.specs.declared.changing.Tries.{Tries}
use Rattle.doc_store.specs.declared.changing.Tries.TheVariants.{Ends, Again}
use Rattle.doc_effects.specs.declared.deeds.Deed.{Deed}
use Rattle.doc_effects.specs.declared.deeds.Outcome.{Outcome}
use Rattle.doc_store.proofs.Carrying.{carried-call, carried-on}
use Rattle.doc_store.proofs.Found.{Law}
use Rattle.doc_store.proofs.Made.{Made, made}
use Rattle.doc_store.proofs.Performed.{ended-made, ended-more, tried-made, tried-more}
use Rattle.doc_store.proofs.Settled.{Looked, Looks, TriedComes, looked, reads-kept, fits-rows, fits-none, rest-comes, starved-comes}
use Rattle.doc_store.proofs.Settled.{commit-comes, commit-ends, insert-comes, rest-absent}
use Rattle.doc_store.proofs.Trying.{tried-none, tried-longer, tried-on, ended-on}
use Rattle.history_lock.specs.Logged.{Longer}

-- what a Select's reply was, by what was seen of it
pub selected-rows : (r : TableReply) (n stamp : ℕ) (rows : List Row) → selection.Rows n stamp rows ≡ selection_of r → r ≡ reply.Rows n stamp rows
selected-rows (reply.Rows table at given) n stamp rows is = cc is
selected-rows reply.Absent n stamp rows is = absurd (cc is)
selected-rows reply.Gone n stamp rows is = absurd (cc is)
selected-rows (reply.Moved at) n stamp rows is = absurd (cc is)
selected-rows reply.Duplicate n stamp rows is = absurd (cc is)
selected-rows (reply.Inserted table at) n stamp rows is = absurd (cc is)
selected-rows (reply.Done at) n stamp rows is = absurd (cc is)
selected-rows (reply.Dropped count) n stamp rows is = absurd (cc is)
selected-rows reply.Exists n stamp rows is = absurd (cc is)
selected-rows (reply.Names names) n stamp rows is = absurd (cc is)
selected-rows reply.Spent n stamp rows is = absurd (cc is)
selected-rows reply.Full n stamp rows is = absurd (cc is)
selected-rows reply.Fault n stamp rows is = absurd (cc is)
selected-rows reply.NoMemory n stamp rows is = absurd (cc is)

pub selected-none : (r : TableReply) → selection.Absent ≡ selection_of r → r ≡ reply.Absent
selected-none (reply.Rows table at given) is = absurd (cc is)
selected-none reply.Absent is = refl
selected-none reply.Gone is = absurd (cc is)
selected-none (reply.Moved at) is = absurd (cc is)
selected-none reply.Duplicate is = absurd (cc is)
selected-none (reply.Inserted table at) is = absurd (cc is)
selected-none (reply.Done at) is = absurd (cc is)
selected-none (reply.Dropped count) is = absurd (cc is)
selected-none reply.Exists is = absurd (cc is)
selected-none (reply.Names names) is = absurd (cc is)
selected-none reply.Spent is = absurd (cc is)
selected-none reply.Full is = absurd (cc is)
selected-none reply.Fault is = absurd (cc is)
selected-none reply.NoMemory is = absurd (cc is)

-- an outcome that none speaks of
nothing : Outcome
nothing = record { reply = told.NoMemory; edits = []; added = None }

module _ (law : Law) (s : Tables) (n : ℕ) (who : Who) (now : ℕ) (space : Space) (by : Filter) (it : Deed) where
  abbrev operation : Op
  operation = op_done it space by

  abbrev done : OpReply → Done
  done r = record { who = who; now = now; op = operation; reply = r }

  abbrev select : TableCall
  select = call.SelectNamed space (cond by)

  -- ---- the Select

  abbrev at : {h : Bool} {a b : Views} {c : TableCall} {r : TableReply} → Made h s a b who c r → Tables
  at m = replay tables_after s m.mid

  seen-there : {h : Bool} {a b : Views} {r : TableReply} → (m : Made h s a b who select r) → Looked (at m) space (cond by) r (tables_after (at m) select r)
  seen-there m = looked (at m) space (cond by) _ m.before m.after m.step

  -- it was the last call
  ends-there : (h : Bool) (a b : Views) (r : TableReply) (last : OpReply) → Called h s n a b who select r
      → ((t : Tables) → Sound t → Looks t space (cond by) r → (r ≡ reply.Fault → ⊥) → Comes (done last) t t r) → Ended s a b (done last) 1
  ends-there h a b r last called comes =
      let m = made h s n a b who select r called in
      let l = seen-there m in
      ended-more s a b (done last) 0 1 (omega arith) (ended-made h s a b select r (done last) m
      (subst (λ u. Comes (done last) (at m) u r) (sym l.same) (comes (at m) m.sound l.looks l.fine)))

  -- it left the documents
  left-there : (h : Bool) (a b : Views) (r : TableReply) → Called h s n a b who select r → Tried s a b who 1
  left-there h a b r called =
      let m = made h s n a b who select r called in tried-made h s a b select r who m (ap docs (seen-there m).same)

  pub starved-tells : (h : Bool) (a b : Views) (r : TableReply) → Called h s n a b who select r → Ended s a b (done told.NoMemory) 1
  starved-tells h a b r called =
      ends-there h a b r told.NoMemory called (λ t sound looks fine. starved-comes law who now space by it nothing t r fine)

  -- ---- and one more

  two-places : (P : Type 0) (h : Bool) (a b c : Views) (r r2 : TableReply) (c2 : TableCall) → Called h s n a b who select r
      → Called h s n b c who c2 r2
      → ((t u : Tables) (x y : ℕ) → Sound t → Looks t space (cond by) r → Kept t u → (h ≡ true → u ≡ t) → Sound u → tstep u c2 r2 x y → P) → P
  two-places P h a b c r r2 c2 called then goes =
      let m = made h s n a b who select r called in
      let m2 = made h s n b c who c2 r2 then in
      let l = seen-there m in
      let back : replay tables_after s b.seen ≡ at m = m.next ∙ l.same in
      goes (at m) (at m2) m2.before m2.after m.sound l.looks (subst (λ t. Kept t (at m2)) back m2.kept)
      (λ held. ap (replay tables_after s) (m2.alone held) ∙ back) m2.sound m2.step

  two-calls : (h : Bool) (a b c : Views) (r r2 : TableReply) (c2 : TableCall) → Called h s n a b who select r → Called h s n b c who c2 r2
      → (tries : Tries) (outcome : Outcome)
      → ((t u : Tables) (x y : ℕ) → Sound t → Looks t space (cond by) r → Kept t u → (h ≡ true → u ≡ t) → Sound u → tstep u c2 r2 x y
      → TriedComes law who now space by it outcome u (tables_after u c2 r2) r2 tries)
      → Tells s a c who now operation tries
  two-calls h a b c r r2 c2 called then tries outcome comes = of tries (comes first second m2.before m2.after m.sound l.looks kept alone m2.sound m2.step)
    where
      m : Made h s a b who select r
      m = made h s n a b who select r called

      m2 : Made h s b c who c2 r2
      m2 = made h s n b c who c2 r2 then

      first : Tables
      first = at m

      second : Tables
      second = at m2

      l : Looked first space (cond by) r (tables_after first select r)
      l = seen-there m

      back : replay tables_after s b.seen ≡ first
      back = m.next ∙ l.same

      kept : Kept first second
      kept = subst (λ t. Kept t second) back m2.kept

      alone : h ≡ true → second ≡ first
      alone held = ap (replay tables_after s) (m2.alone held) ∙ back

      of : (tries : Tries) → TriedComes law who now space by it outcome second (tables_after second c2 r2) r2 tries → Tells s a c who now operation tries
      of (Ends last) came =
          ended-more s a c (done last) (1 + 0) 1 (omega arith)
          (ended-on s a b c (done last) 1 0 (left-there h a b r called) (ended-made h s b c c2 r2 (done last) m2 came))
      of Again left =
          tried-more s a c who (1 + 1) 2 (omega arith) (tried-on s a b c who 1 1 (left-there h a b r called) (tried-made h s b c c2 r2 who m2 left))

  -- ---- a collection that is there

  committed-tells : (h : Bool) (a b c : Views) (table stamp : ℕ) (rows : List Row) (tries : Tries) (outcome : Outcome)
      → Called h s n a b who select (reply.Rows table stamp rows)
      → Settles (effect_of who now by it (matching by (docs_in_rows rows))) outcome → IsAnswer outcome.reply
      → Commits h s n b c who table stamp outcome tries → Tells s a c who now operation tries
  committed-tells h a b c table stamp rows tries outcome called settles answer (inl rest) =
      subst (λ v. Tells s a v who now operation tries) (sym rest.1) (subst (Tells s a b who now operation) (sym rest.2)
      (ends-there h a b (reply.Rows table stamp rows) outcome.reply called (λ t sound looks fine.
      rest-comes law who now space by it outcome t (reply.Rows table stamp rows) fine answer
      (fits-rows law who now space by it outcome t looks.table sound looks.live
      (subst (λ rs. Settles (effect_of who now by it (matching by (docs_in_rows rs))) outcome) looks.rows_are settles)) rest.0)))
  committed-tells h a b c table stamp rows tries outcome called settles answer (inr commit) =
      subst (Tells s a c who now operation) (sym commit.3)
      (two-calls h a b c (reply.Rows table stamp rows) commit.0 (call.Commit table stamp outcome.edits outcome.added) called commit.2
      (ending_of outcome.reply commit.0) outcome (λ t u x y sound looks kept alone sound2 step.
      commit-comes law who now space by it outcome u table stamp rows commit.0 x y sound2
      (reads-kept t u space (cond by) table stamp rows sound looks kept) settles answer commit.1 step))

  pub rows-tell : (h : Bool) (a b c : Views) (table stamp : ℕ) (rows : List Row) (tries : Tries)
      → Called h s n a b who select (reply.Rows table stamp rows) → Changes h s n b c who now by it table stamp rows tries
      → Tells s a c who now operation tries
  rows-tell h a b c table stamp rows tries called (inl starved) =
      subst (λ v. Tells s a v who now operation tries) (sym starved.0) (subst (Tells s a b who now operation) (sym starved.1)
      (starved-tells h a b (reply.Rows table stamp rows) called))
  rows-tell h a b c table stamp rows tries called (inr made) =
      committed-tells h a b c table stamp rows tries made.0 called made.1 made.2 made.4

  -- in a turn nobody came between
  pub turn-ends : (h : Bool) (a b c : Views) (table stamp : ℕ) (rows : List Row) (tries : Tries) → h ≡ true
      → Called h s n a b who select (reply.Rows table stamp rows) → Changes h s n b c who now by it table stamp rows tries → tries ≡ Again → ⊥
  turn-ends h a b c table stamp rows tries held called (inl starved) again = let no = sym starved.1 ∙ again in cc no
  turn-ends h a b c table stamp rows tries held called (inr made) again = of made.4
    where
      of : Commits h s n b c who table stamp made.0 tries → ⊥
      of (inl rest) = let no = sym rest.2 ∙ again in cc no
      of (inr commit) =
          two-places ⊥ h a b c (reply.Rows table stamp rows) commit.0 (call.Commit table stamp made.0.edits made.0.added) called commit.2
          (λ t u x y sound looks kept alone sound2 step.
          let live : numbered looks.table.number t.live ≡ Some looks.table = numbered-named t.next space looks.table t.live sound.tables looks.live in
          let there : numbered table u.live ≡ Some looks.table =
          subst (λ v. numbered table v.live ≡ Some looks.table) (sym (alone held))
          (subst (λ k. numbered k t.live ≡ Some looks.table) (sym looks.number) live) in
          commit-ends law who now space by it made.0 u looks.table table stamp commit.0 x y there looks.stamp_is step (sym commit.3 ∙ again))

  -- ---- one that is absent

  pub absent-tells : (h : Bool) (a b : Views) (outcome : Outcome) (added : Option Row) → outcome.added ≡ added
      → Called h s n a b who select reply.Absent
      → Settles (effect_of who now by it []) outcome → IsAnswer outcome.reply → Tells s a b who now operation (untried_by outcome.reply added)
  absent-tells h a b outcome (Some row) e called settles answer = tried-more s a b who 1 2 (omega arith) (left-there h a b reply.Absent called)
  absent-tells h a b outcome None e called settles answer =
      ends-there h a b reply.Absent outcome.reply called (λ t sound looks fine.
      rest-comes law who now space by it outcome t reply.Absent fine answer (fits-none law who now space by it outcome t looks settles)
      (rest-absent law who now space by it outcome settles e))

  pub untried-tells : {X : Type 0} (h : Bool) (a b : Views) (made : Result Outcome X) → Called h s n a b who select reply.Absent
      → IfOk made (λ outcome. Settles (effect_of who now by it []) outcome) → IfOk made (λ outcome. IsAnswer outcome.reply)
      → Tells s a b who now operation (untried made)
  untried-tells h a b (Ok outcome) called settles answer = absent-tells h a b outcome outcome.added refl called settles answer
  untried-tells h a b (Err why) called settles answer = starved-tells h a b reply.Absent called

  pub added-tells : (h : Bool) (a b c : Views) (outcome : Outcome) (given : OpReply) (added : Option Row) → outcome.added ≡ added → h ≡ true
      → Called h s n a b who select reply.Absent → Settles (effect_of who now by it []) outcome → IsAnswer outcome.reply
      → AddsRow h s n b c who space outcome.reply added given → TellsEnd s a c who now operation given
  added-tells h a b c outcome given (Some row) e held called settles answer adds =
      subst (TellsEnd s a c who now operation) (sym adds.2)
      (two-calls h a b c reply.Absent adds.0 (call.InsertNamed space row) called adds.1 (Ends (added_reply outcome.reply adds.0)) outcome
      (λ t u x y sound looks kept alone sound2 step.
      insert-comes law who now space by it outcome u row adds.0 x y sound2 (subst (λ v. named space v.live ≡ None) (sym (alone held)) looks)
      settles e answer step))
  added-tells h a b c outcome given None e held called settles answer adds =
      subst (λ v. TellsEnd s a v who now operation given) (sym adds.0) (subst (TellsEnd s a b who now operation) (sym adds.1)
      (absent-tells h a b outcome None e called settles answer))

-- ---- a turn

-- others logged something before
pub ended-longer : (s : Tables) (a b c : Views) (d : Done) (k : ℕ) → Longer a b → Ended s b c d k → Ended s a c d k
ended-longer s a b c d k longer e =
    ended-more s a c d (0 + k) k (omega arith) (ended-on s a b c d 0 k (tried-longer s a a b d.who 0 longer.more (tried-none s a d.who) longer.seen longer.own) e)

-- ---- what is told fits

fits-ending : (r : OpReply) (q : TableReply) → Fits r → FitsEnd (ending_of r q)
fits-ending r (reply.Done stamp) fits = fits
fits-ending r reply.Duplicate fits = tt
fits-ending r reply.Spent fits = tt
fits-ending r reply.Fault fits = tt
fits-ending r reply.NoMemory fits = tt
fits-ending r (reply.Rows table stamp rows) fits = tt
fits-ending r reply.Absent fits = tt
fits-ending r reply.Gone fits = tt
fits-ending r (reply.Moved stamp) fits = tt
fits-ending r (reply.Inserted table stamp) fits = tt
fits-ending r (reply.Dropped n) fits = tt
fits-ending r reply.Exists fits = tt
fits-ending r (reply.Names names) fits = tt
fits-ending r reply.Full fits = tt

pub fits-added : (r : OpReply) (q : TableReply) → Fits r → Fits (added_reply r q)
fits-added r (reply.Inserted table stamp) fits = fits
fits-added r reply.Duplicate fits = tt
fits-added r reply.Full fits = tt
fits-added r reply.Spent fits = tt
fits-added r reply.Fault fits = tt
fits-added r reply.NoMemory fits = tt
fits-added r (reply.Rows table stamp rows) fits = tt
fits-added r reply.Absent fits = tt
fits-added r reply.Gone fits = tt
fits-added r (reply.Moved stamp) fits = tt
fits-added r (reply.Done stamp) fits = tt
fits-added r (reply.Dropped n) fits = tt
fits-added r reply.Exists fits = tt
fits-added r (reply.Names names) fits = tt

module _ (h : Bool) (s : Tables) (n : ℕ) (b c : Views) (who : Who) (now : ℕ) (by : Filter) (it : Deed) where
  committed-fits : (table stamp : ℕ) (outcome : Outcome) (tries : Tries) → Fits outcome.reply → Commits h s n b c who table stamp outcome tries
      → FitsEnd tries
  committed-fits table stamp outcome tries fits (inl rest) = subst FitsEnd (sym rest.2) fits
  committed-fits table stamp outcome tries fits (inr commit) = subst FitsEnd (sym commit.3) (fits-ending outcome.reply commit.0 fits)

  pub rows-fit : (table stamp : ℕ) (rows : List Row) (tries : Tries) → Changes h s n b c who now by it table stamp rows tries → FitsEnd tries
  rows-fit table stamp rows tries (inl starved) = subst FitsEnd (sym starved.1) tt
  rows-fit table stamp rows tries (inr made) = committed-fits table stamp made.0 tries made.3 made.4

  -- ---- and what its calls carry

  committed-carries : (o : Op) (a : Views) (table stamp : ℕ) (outcome : Outcome) (tries : Tries) → Carried o a b
      → Commits h s n b c who table stamp outcome tries → Carried o a c
  committed-carries o a table stamp outcome tries carried (inl rest) = subst (Carried o a) (sym rest.1) carried
  committed-carries o a table stamp outcome tries carried (inr commit) = carried-on o a b c carried (carried-call o commit.2 tt)

  pub rows-carry : (o : Op) (a : Views) (table stamp : ℕ) (rows : List Row) (tries : Tries) → Carried o a b
      → Changes h s n b c who now by it table stamp rows tries → Carried o a c
  rows-carry o a table stamp rows tries carried (inl starved) = subst (Carried o a) (sym starved.0) carried
  rows-carry o a table stamp rows tries carried (inr made) = committed-carries o a table stamp made.0 tries carried made.4

  pub added-carries : (o : Op) (a : Views) (space : Space) (r given : OpReply) (added : Option Row) → Carried o a b
      → AddsRow h s n b c who space r added given → Carried o a c
  added-carries o a space r given (Some row) carried adds = carried-on o a b c carried (carried-call o adds.1 tt)
  added-carries o a space r given None carried adds = subst (Carried o a) (sym adds.0) carried

  pub added-fits : (space : Space) (r given : OpReply) (added : Option Row) → Fits r → AddsRow h s n b c who space r added given → Fits given
  added-fits space r given (Some row) fits adds = subst Fits (sym adds.2) (fits-added r adds.0 fits)
  added-fits space r given None fits adds = subst Fits (sym adds.1) fits

-- ---- an outcome's rows are sound

adds-sound : (doc : Doc) (added : Option Row) → Adds doc added → SoundAdded added
adds-sound doc (Some row) adds = adds.sound
adds-sound doc None adds = absurd adds

made-sound : (effect : Effect) (outcome : Outcome) (added : Option Doc) → Makes added effect outcome
    → SoundEdits outcome.edits × SoundAdded outcome.added
made-sound effect outcome None makes =
    (sound-edits effect.gone effect.renewed outcome.edits makes.0, subst SoundAdded (sym makes.1) tt)
made-sound effect outcome (Some doc) makes = (subst SoundEdits (sym makes.0) tt, adds-sound doc outcome.added makes.1)

pub outcome-sound : (found : Result Effect ℕ) (outcome : Outcome) → Settles found outcome → SoundEdits outcome.edits × SoundAdded outcome.added
outcome-sound (Ok effect) outcome settles = made-sound effect outcome effect.added settles.1
outcome-sound (Err kind) outcome settles = (subst SoundEdits (sym settles.1) tt, subst SoundAdded (sym settles.2) tt)
