-- Each `_id` stands once in its space.
use Rattle.std.proofs.Common.{◌≡◌, ⊎_elim, ℕ, Bool, true, false, List, [], ◌∷◌, Option, None, Some, refl, ap, sym, ◌∙◌, subst}
use Rattle.std.specs.Prelude.{IfSome}
use Rattle.history_lock.specs.declared.entry.Who.{Who}
use Rattle.bson_values.specs.declared.space.Space.{Space}
use Rattle.bson_values.specs.Names.{same_space}
use Rattle.filter_syntax.specs.Meaning.{Doc, holds}
use Rattle.doc_model.specs.declared.op.Op.{Op}
use Rattle.doc_model.specs.declared.op.OpReply.{OpReply}
use Rattle.doc_model.specs.declared.op.OpReply.TheVariants.{Deleted}
use Rattle.doc_model.specs.Store.{Store, empty_store, docs_of}
use Rattle.doc_model.specs.Change.{Effect, deletes, without_any}
use Rattle.doc_model.specs.Named.{space_of}
use Rattle.doc_model.specs.Step.{step, matching}
use Rattle.doc_model.specs.Run.{Done, run}
use Rattle.doc_model.specs.Laws.{HaveOwnIds, IdsAreOwn, DeletedIsGone}
use Rattle.doc_model.proofs.Inserts.{space-equal}
use Rattle.doc_model.proofs.Effects.{IsNamed, Went, effected-comes}
use Rattle.doc_model.proofs.Turned.{step-turned}
use Rattle.doc_model.proofs.Own.{own-last, own-exchanged, own-without, all-gone}

-- where the documents of one space have their own, and the other spaces have what they had, all have
spaces-own : (space : Space) (s t : Store) → HaveOwnIds (docs_of space t)
    → ((other : Space) → same_space other space ≡ false → docs_of other t ≡ docs_of other s) → IdsAreOwn s → IdsAreOwn t
spaces-own space s t here others own other = cases (same_space other space) refl
  where
    cases : (b : Bool) → same_space other space ≡ b → HaveOwnIds (docs_of other t)
    cases true e = subst (λ (x : Space). HaveOwnIds (docs_of x t)) (sym (space-equal other space e)) here
    cases false e = subst HaveOwnIds (sym (others other e)) (own other)

went-own : (effect : Effect) (space : Space) (s t : Store) (added : Option Doc) → IfSome added IsNamed → Went added effect space s t
    → IdsAreOwn s → IdsAreOwn t
went-own effect space s t (Some doc) named went own =
    spaces-own space s t (subst HaveOwnIds (sym went.last) (own-last doc (docs_of space s) named (own space) went.new)) went.others own
went-own effect space s t None named went own =
    let docs = docs_of space s in
    let here = own-exchanged effect.renewed (without_any effect.gone docs) (own-without effect.gone docs (own space)) in
    spaces-own space s t (subst HaveOwnIds (sym went.here) here) went.others own

-- every step keeps it
step-own : (who : Who) (now : ℕ) (op : Op) (s : Store) (reply : OpReply) (t : Store) → step who now op s reply t → IdsAreOwn s
    → IdsAreOwn t
step-own who now op s reply t is own =
    ⊎_elim (λ same. subst IdsAreOwn (sym same) own)
    (λ done. went-own done.0 (space_of op) s t done.0.added done.1.named done.3 own)
    (step-turned who now op s reply t is)

pub run-own : (ds : List Done) (s t : Store) → run s ds t → IdsAreOwn s → IdsAreOwn t
run-own [] s t ran own = subst IdsAreOwn (sym ran) own
run-own (d ∷ ds) s t ran own = run-own ds ran.0 t ran.2 (step-own d.who d.now d.op s d.reply ran.0 ran.1 own)

pub runs-own : (ds : List Done) (t : Store) → run empty_store ds t → IdsAreOwn t
runs-own ds t ran = run-own ds empty_store t ran (λ space. tt)

-- what was removed is not there
pub deleted-gone : DeletedIsGone
deleted-gone who now space it n s t own is =
    let docs = docs_of space s in
    ⊎_elim (λ refused. let why = refused.0.1 in absurd cc)
    (λ done. ap (matching it) done.1.here ∙ all-gone (holds it) docs (own space))
    (effected-comes (deletes false (matching it docs)) None (Deleted n) space s t is)
