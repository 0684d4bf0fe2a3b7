-- What a step of any operation comes to.
use Rattle.std.proofs.Common.{◌≡◌, ◌⊎◌, inl, inr, ⊎_elim, ℕ, false, Option, None, Some, Result, Ok, Err, ap, sym, subst}
use Rattle.std.specs.Prelude.{IfOk}
use Rattle.history_lock.specs.declared.entry.Who.{Who}
use Rattle.bson_values.specs.declared.space.Space.{Space}
use Rattle.bson_values.specs.Names.{same_space}
use Rattle.doc_shape.specs.Sorted.{sorted}
use Rattle.filter_syntax.specs.Meaning.{Doc}
use Rattle.doc_model.specs.declared.op.Op.{Op}
use Rattle.doc_model.specs.declared.op.Op.TheVariants.{Insert, Find, Count, Distinct, Update, Delete, FindAndModify}
use Rattle.doc_model.specs.declared.op.OpReply.{OpReply}
use Rattle.doc_model.specs.declared.op.OpReply.TheVariants.{Inserted, Selected, Counted, Values, Updated, Deleted, Modified}
use Rattle.doc_model.specs.declared.op.OpReply.TheVariants.{Refused, Fault, NoMemory}
use Rattle.doc_model.specs.Store.{Store, docs_of}
use Rattle.doc_model.specs.Insert.{completed}
use Rattle.doc_model.specs.Change.{Effect, adding, updates, deletes, modifies}
use Rattle.doc_model.specs.Named.{space_of}
use Rattle.doc_model.specs.Step.{Meant, by_effect, matching, meant, step, refused_by_words}
use Rattle.doc_model.specs.Laws.{RefusalsChangeNothing, NothingTakesNoNumber, OthersAreLeft, TellsNoChange}
use Rattle.doc_model.proofs.Inserts.{insert-came}
use Rattle.doc_model.proofs.Effects.{Fair, IsDone, Went, Remade, effected-comes, updates-fair, deletes-fair, modifies-fair}

-- the store is as it was, or a fair effect was replied and done
abbrev pub Turned : Space → OpReply → Store → Store → Type 0
Turned space reply s t = (t ≡ s) ⊎ ((effect : Effect) × Fair effect × (reply ≡ effect.reply) × Went effect.added effect space s t)

insert-turned : (who : Who) (now : ℕ) (space : Space) (doc : Doc) (s : Store) (reply : OpReply) (t : Store)
    → record { reply = reply; store = t } ≡ meant who now (Insert space doc) s → Turned space reply s t
insert-turned who now space doc s reply t is =
    let full : Doc = completed who now doc in
    let fair : Fair (adding Inserted full) = record { done = tt; named = λ none. absurd cc; still = λ tells. absurd tells } in
    ⊎_elim (λ refused. inl refused.1) (λ landed. inr (adding Inserted full, fair, landed.0, landed.1))
    (insert-came Inserted reply space full s t (refused_by_words who now (Insert space doc)) is)

effect-turned : (space : Space) (s : Store) (found : Result Effect ℕ) (reply : OpReply) (t : Store) → IfOk found Fair
    → record { reply = reply; store = t } ≡ by_effect space s found → Turned space reply s t
effect-turned space s (Err kind) reply t fair is = inl (ap (λ (m : Meant). m.store) is)
effect-turned space s (Ok effect) reply t fair is =
    ⊎_elim (λ refused. inl refused.1) (λ done. inr (effect, fair, done.0, done.1))
    (effected-comes effect effect.added reply space s t is)

pub meant-turned : (who : Who) (now : ℕ) (op : Op) (s : Store) (reply : OpReply) (t : Store)
    → record { reply = reply; store = t } ≡ meant who now op s → Turned (space_of op) reply s t
meant-turned who now (Insert space doc) s reply t is = insert-turned who now space doc s reply t is
meant-turned who now (Find space query) s reply t is = inl (ap (λ (m : Meant). m.store) is)
meant-turned who now (Count space it skip limit) s reply t is = inl (ap (λ (m : Meant). m.store) is)
meant-turned who now (Distinct space path it) s reply t is = inl (ap (λ (m : Meant). m.store) is)
meant-turned who now (Update space it update multi upsert) s reply t is =
    let docs = matching it (docs_of space s) in
    effect-turned space s (updates who now it update multi upsert docs) reply t (updates-fair who now it update multi upsert docs) is
meant-turned who now (Delete space it one) s reply t is =
    let docs = matching it (docs_of space s) in
    effect-turned space s (Ok (deletes one docs)) reply t (deletes-fair one docs) is
meant-turned who now (FindAndModify space it order change fresh upsert shape) s reply t is =
    let docs = sorted order (matching it (docs_of space s)) in
    effect-turned space s (modifies who now it change fresh upsert shape docs) reply t
    (modifies-fair who now it change fresh upsert shape docs) is

pub step-turned : (who : Who) (now : ℕ) (op : Op) (s : Store) (reply : OpReply) (t : Store) → step who now op s reply t
    → Turned (space_of op) reply s t
step-turned who now op s NoMemory t is = inl is
step-turned who now op s Fault t is = inl is
step-turned who now op s Inserted t is = meant-turned who now op s Inserted t is
step-turned who now op s (Selected docs) t is = meant-turned who now op s (Selected docs) t is
step-turned who now op s (Counted n) t is = meant-turned who now op s (Counted n) t is
step-turned who now op s (Values values) t is = meant-turned who now op s (Values values) t is
step-turned who now op s (Updated matched changed id) t is = meant-turned who now op s (Updated matched changed id) t is
step-turned who now op s (Deleted n) t is = meant-turned who now op s (Deleted n) t is
step-turned who now op s (Modified existed id value) t is = meant-turned who now op s (Modified existed id value) t is
step-turned who now op s (Refused kind) t is = meant-turned who now op s (Refused kind) t is

-- ---- what follows

pub left : RefusalsChangeNothing
left who now op s t kind is =
    ⊎_elim (λ same. same) (λ done. absurd (subst IsDone (sym done.2) done.1.done)) (step-turned who now op s (Refused kind) t is)

went-still : (effect : Effect) (space : Space) (s t : Store) (added : Option Doc) → Went added effect space s t → added ≡ None
    → Remade effect space s t
went-still effect space s t None went none = went
went-still effect space s t (Some doc) went none = absurd cc

pub no-number : NothingTakesNoNumber
no-number who now op s t reply tells is =
    ⊎_elim (λ same. same)
    (λ done.
    let still = done.1.still (subst TellsNoChange done.2 tells) in
    (went-still done.0 (space_of op) s t done.0.added done.3 still.0).still still.1)
    (step-turned who now op s reply t is)

went-others : (effect : Effect) (space other : Space) (s t : Store) (added : Option Doc) → Went added effect space s t
    → same_space other space ≡ false → docs_of other t ≡ docs_of other s
went-others effect space other s t (Some doc) went apart = went.others other apart
went-others effect space other s t None went apart = went.others other apart

pub others-left : OthersAreLeft
others-left who now op reply s t other is apart =
    ⊎_elim (λ same. ap (docs_of other) same) (λ done. went-others done.0 (space_of op) other s t done.0.added done.3 apart)
    (step-turned who now op s reply t is)
