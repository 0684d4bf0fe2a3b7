-- What the effects of changes are like, and what comes of one.
use Rattle.std.proofs.Common.{◌≡◌, ◌≢◌, ◌⊎◌, inl, inr, ℕ, Bool, true, false, List, [], ◌∷◌, ◌++◌, length, take}
use Rattle.std.proofs.Common.{Option, None, Some, Result, Ok, Err, refl, ap, sym, ◌∙◌}
use Rattle.std.specs.Prelude.{IfOk, IfSome, if◌then◌else◌}
use Rattle.std_words.specs.Steps.{◌>>=◌}
use Rattle.history_lock.specs.declared.entry.Who.{Who}
use Rattle.bson_values.specs.declared.space.Space.{Space}
use Rattle.bson_values.specs.declared.value.Value.{Value}
use Rattle.bson_values.specs.Names.{same_space}
use Rattle.doc_shape.specs.Shown.{shown}
use Rattle.doc_shape.specs.declared.shape.Shape.{Shape}
use Rattle.filter_syntax.specs.Meaning.{Doc}
use Rattle.filter_syntax.specs.declared.filter.Filter.{Filter}
use Rattle.update_syntax.specs.After.{after, unless}
use Rattle.update_syntax.specs.declared.update.Update.{Update}
use Rattle.update_apply.specs.Seeds.{seed}
use Rattle.doc_model.specs.declared.op.Modify.{Modify}
use Rattle.doc_model.specs.declared.op.Modify.TheVariants.{Remove, Change}
use Rattle.doc_model.specs.declared.op.OpReply.{OpReply}
use Rattle.doc_model.specs.declared.op.OpReply.TheVariants.{Updated, Deleted, Modified, Refused}
use Rattle.doc_model.specs.Store.{Store, Collection, collection_of, docs_in, docs_of, with_docs}
use Rattle.doc_model.specs.Insert.{id_of, completed, not_stored}
use Rattle.doc_model.specs.Change.{Effect, removing, adding, id_in, becoming, differing, built, exchanged, without_any}
use Rattle.doc_model.specs.Change.{updates_these, updates, deletes, modifies}
use Rattle.doc_model.specs.Step.{Meant, are_spent, is_none_of, changed, effected}
use Rattle.doc_model.specs.Laws.{TellsNoChange}
use Rattle.doc_model.proofs.Inserts.{Landed, insert-came, docs-put, others-put}

-- ---- effects

-- no refusal
abbrev pub IsDone : OpReply → Type 0
IsDone (Refused kind) = ⊥
IsDone reply = Unit {0}

abbrev pub IsNamed : Doc → Type 0
IsNamed doc = id_in doc ≢ None

-- the reply tells of something that was done, and of nothing only where there is nothing; what is added has an `_id`
pub record Fair (effect : Effect) : Type 0 where
  pub done : IsDone effect.reply
  pub named : IfSome effect.added IsNamed
  pub still : TellsNoChange effect.reply → (effect.added ≡ None) × (is_none_of (effect.gone ++ effect.renewed) ≡ true)

-- a count of 0 is of no documents
no-count : (docs : List Doc) (matched : ℕ) → TellsNoChange (Updated matched (length docs) None) → is_none_of docs ≡ true
no-count [] matched tells = refl
no-count (d ∷ ds) matched tells = absurd tells

none-gone : (docs : List Doc) → TellsNoChange (Deleted (length docs)) → is_none_of (docs ++ []) ≡ true
none-gone [] tells = refl
none-gone (d ∷ ds) tells = absurd tells

no-upsert : (id : Option Value) → id ≢ None → TellsNoChange (Updated 0 0 id) → ⊥
no-upsert None named tells = named refl
no-upsert (Some id) named tells = tells

no-insert : (id : Option Value) (value : Option Doc) → id ≢ None → TellsNoChange (Modified false id value) → ⊥
no-insert None value named tells = named refl
no-insert (Some id) value named tells = tells

-- ---- what is built has an `_id`

kept-named : (who : Who) (now : ℕ) (made : Doc) (kind : Option ℕ) → IfOk (unless kind (completed who now made)) IsNamed
kept-named who now made None = λ is. absurd cc
kept-named who now made (Some kind) = tt

ok-bind : {A B : Type 0} (P : B → Type 0) (found : Result A ℕ) (next : A → Result B ℕ) → ((a : A) → IfOk (next a) P)
    → IfOk (found >>= next) P
ok-bind P (Ok a) next each = each a
ok-bind P (Err kind) next each = tt

if-bind : {A B : Type 0} (Q : A → Type 0) (P : B → Type 0) (found : Result A ℕ) (next : A → Result B ℕ) → IfOk found Q
    → ((a : A) → Q a → IfOk (next a) P) → IfOk (found >>= next) P
if-bind Q P (Ok a) next known each = each a known
if-bind Q P (Err kind) next known each = tt

pub built-named : (who : Who) (now : ℕ) (it : Filter) (update : Update) → IfOk (built who now it update) IsNamed
built-named who now it update =
    ok-bind IsNamed (seed it) _ (λ begun. ok-bind IsNamed (after update begun now true) _ (λ made.
    kept-named who now made (not_stored (id_of who now made) (completed who now made))))

-- ---- the effects of changes are fair

these-fair : (update : Update) (now : ℕ) (olds : List Doc) → IfOk (updates_these update now olds) Fair
these-fair update now olds = ok-bind Fair (becoming update now olds) _ (λ news. record {
  done = tt;
  named = tt;
  still = λ tells. (refl, no-count (differing olds news) (length olds) tells);
})

upserted-fair : (doc : Doc) → IsNamed doc → Fair (adding (Updated 0 0 (id_in doc)) doc)
upserted-fair doc named = record { done = tt; named = named; still = λ tells. absurd (no-upsert (id_in doc) named tells) }

pub updates-fair : (who : Who) (now : ℕ) (it : Filter) (update : Update) (multi upsert : Bool) (docs : List Doc)
    → IfOk (updates who now it update multi upsert docs) Fair
updates-fair who now it update multi false [] = record { done = tt; named = tt; still = λ tells. (refl, refl) }
updates-fair who now it update multi true [] =
    if-bind IsNamed Fair (built who now it update) _ (built-named who now it update) upserted-fair
updates-fair who now it update true upsert (doc ∷ docs) = these-fair update now (doc ∷ docs)
updates-fair who now it update false upsert (doc ∷ docs) = these-fair update now (doc ∷ [])

removing-fair : (olds : List Doc) → Fair (removing (Deleted (length olds)) olds)
removing-fair olds = record { done = tt; named = tt; still = λ tells. (refl, none-gone olds tells) }

pub deletes-fair : (one : Bool) (docs : List Doc) → Fair (deletes one docs)
deletes-fair true docs = removing-fair (take 1 docs)
deletes-fair false docs = removing-fair docs

pub modifies-fair : (who : Who) (now : ℕ) (it : Filter) (change : Modify) (fresh upsert : Bool) (shape : Shape) (docs : List Doc)
    → IfOk (modifies who now it change fresh upsert shape docs) Fair
modifies-fair who now it Remove fresh upsert shape [] = record { done = tt; named = tt; still = λ tells. (refl, refl) }
modifies-fair who now it Remove fresh upsert shape (doc ∷ docs) = record { done = tt; named = tt; still = λ tells. absurd tells }
modifies-fair who now it (Change update) fresh false shape [] = record { done = tt; named = tt; still = λ tells. (refl, refl) }
modifies-fair who now it (Change update) fresh true shape [] = if-bind IsNamed Fair (built who now it update) _ (built-named who now it update)
    (λ doc named. record {
      done = tt;
      named = named;
      still = λ tells. absurd (no-insert (id_in doc) (if fresh then Some (shown shape doc) else None) named tells);
    })
modifies-fair who now it (Change update) fresh upsert shape (doc ∷ docs) = ok-bind Fair (after update doc now false) _
    (λ new. record { done = tt; named = tt; still = λ tells. absurd tells })

-- ---- what comes of an effect

-- documents of the space went and were exchanged, and the other spaces have what they had
pub record Remade (effect : Effect) (space : Space) (s t : Store) : Type 0 where
  pub here : docs_of space t ≡ exchanged effect.renewed (without_any effect.gone (docs_of space s))
  pub others : (other : Space) → same_space other space ≡ false → docs_of other t ≡ docs_of other s
  pub still : is_none_of (effect.gone ++ effect.renewed) ≡ true → t ≡ s

-- a document was added, or that
abbrev pub Went : Option Doc → Effect → Space → Store → Store → Type 0
Went (Some doc) effect space s t = Landed space doc s t
Went None effect space s t = Remade effect space s t

-- it was refused, and the store is as it was, or it is replied as the effect says, and went so
abbrev pub Comes : Option Doc → Effect → OpReply → Space → Store → Store → Type 0
Comes added effect reply space s t =
    (((kind : ℕ) × (reply ≡ Refused kind)) × (t ≡ s)) ⊎ ((reply ≡ effect.reply) × Went added effect space s t)

-- of no documents nothing is made
no-exchange : (news : List Doc) → exchanged news [] ≡ []
no-exchange [] = refl
no-exchange (new ∷ news) = no-exchange news

no-removal : (olds : List Doc) → without_any olds [] ≡ []
no-removal [] = refl
no-removal (old ∷ olds) = no-removal olds

nothing-done : (gone renewed docs : List Doc) → is_none_of (gone ++ renewed) ≡ true → exchanged renewed (without_any gone docs) ≡ docs
nothing-done [] [] docs none = refl
nothing-done [] (new ∷ renewed) docs none = absurd cc
nothing-done (old ∷ gone) renewed docs none = absurd cc

-- what stands in a collection that was given documents which come of its own
put-made : (space : Space) (gone renewed : List Doc) (cs : List Collection) (found : Option Collection) → collection_of space cs ≡ found
    → docs_in (collection_of space (with_docs space (exchanged renewed (without_any gone (docs_in found))) cs))
    ≡ exchanged renewed (without_any gone (docs_in found))
put-made space gone renewed cs (Some c) is = docs-put space (exchanged renewed (without_any gone c.docs)) cs c is
put-made space gone renewed cs None is =
    absent cs is (exchanged renewed (without_any gone [])) ∙ sym (ap (exchanged renewed) (no-removal gone) ∙ no-exchange renewed)
  where
    absent : (cs : List Collection) → collection_of space cs ≡ None → (docs : List Doc)
        → docs_in (collection_of space (with_docs space docs cs)) ≡ []
    absent [] is docs = refl
    absent (c ∷ cs) is docs = cases (same_space space c.space) refl (λ further. absent cs further docs)
      where
        cases : (b : Bool) → same_space space c.space ≡ b
            → (collection_of space cs ≡ None → docs_in (collection_of space (with_docs space docs cs)) ≡ [])
            → docs_in (collection_of space (with_docs space docs (c ∷ cs))) ≡ []
        cases true e rest = let here : Some c ≡ None = rw e at is in absurd cc
        cases false e rest = rw e (rw e (rest (rw e at is)))

remade : (effect : Effect) (reply : OpReply) (space : Space) (s t : Store) → is_none_of (effect.gone ++ effect.renewed) ≡ false
    → record { reply = reply; store = t }
    ≡ changed effect.reply space (exchanged effect.renewed (without_any effect.gone (docs_of space s))) s
    → Comes None effect reply space s t
remade effect reply space s t some is = cases (are_spent 1 s) refl
  where
    docs : List Doc
    docs = exchanged effect.renewed (without_any effect.gone (docs_of space s))

    cases : (spent : Bool) → are_spent 1 s ≡ spent → Comes None effect reply space s t
    cases true q = let done = rw q at is in inl ((33, ap (λ (m : Meant). m.reply) done), ap (λ (m : Meant). m.store) done)
    cases false q =
        let done = rw q at is in
        let after = ap (λ (m : Meant). m.store.collections) done in
        inr (
          ap (λ (m : Meant). m.reply) done,
          record {
            here = ap (λ (cs : List Collection). docs_in (collection_of space cs)) after
                ∙ put-made space effect.gone effect.renewed s.collections (collection_of space s.collections) refl;
            others = λ other apart. ap (λ (cs : List Collection). docs_in (collection_of other cs)) after
                ∙ others-put space other docs s.collections apart;
            still = λ none. absurd cc;
          },
        )

pub effected-comes : (effect : Effect) (added : Option Doc) (reply : OpReply) (space : Space) (s t : Store)
    → record { reply = reply; store = t } ≡ effected space s effect added → Comes added effect reply space s t
effected-comes effect (Some doc) reply space s t is = insert-came effect.reply reply space doc s t None is
effected-comes effect None reply space s t is = cases (is_none_of (effect.gone ++ effect.renewed)) refl
  where
    cases : (none : Bool) → is_none_of (effect.gone ++ effect.renewed) ≡ none → Comes None effect reply space s t
    cases true e =
        let done = rw e at is in
        let left : t ≡ s = ap (λ (m : Meant). m.store) done in
        inr (
          ap (λ (m : Meant). m.reply) done,
          record {
            here = ap (docs_of space) left ∙ sym (nothing-done effect.gone effect.renewed (docs_of space s) e);
            others = λ other apart. ap (docs_of other) left;
            still = λ none. left;
          },
        )
    cases false e = remade effect reply space s t e (rw e at is)
