-- What an insert does to the documents of its space, and of others.
use Rattle.std.proofs.Common.{◌≡◌, ◌⊎◌, inl, inr, ⊎_elim, ℕ, Bool, true, false, List, [], ◌∷◌, ◌++◌, Option, None, Some}
use Rattle.std.proofs.Common.{refl, ap, sym, ◌∙◌, subst}
use Rattle.std.proofs.lemmas.Bool.{and_parts}
use Rattle.std.proofs.lemmas.Slice.Eq.{bytes_eq-Decides}
use Rattle.std.specs.Str.{bytes_eq}
use Rattle.bson_values.specs.declared.space.Space.{Space}
use Rattle.bson_values.specs.Names.{same_space}
use Rattle.filter_syntax.specs.Meaning.{Doc}
use Rattle.doc_model.specs.declared.op.OpReply.{OpReply}
use Rattle.doc_model.specs.declared.op.OpReply.TheVariants.{Inserted, Refused}
use Rattle.doc_model.specs.Store.{Store, Collection, collection_of, docs_in, docs_of, has_id, with_docs}
use Rattle.doc_model.specs.Step.{Meant, is_full, are_spent, same, by_kind, inserted}

-- the test on spaces is equality
pub space-equal : (a b : Space) → same_space a b ≡ true → a ≡ b
space-equal a b same =
    let both = and_parts (bytes_eq a.db b.db) (bytes_eq a.coll b.coll) same in
    let db = (bytes_eq-Decides a.db b.db).0 both.0 in
    let coll = (bytes_eq-Decides a.coll b.coll).0 both.1 in
    λ i. record { db = db i; coll = coll i }

pub space-same : (a : Space) → same_space a a ≡ true
space-same a = rw ((bytes_eq-Decides a.db a.db).1 refl, (bytes_eq-Decides a.coll a.coll).1 refl) refl

-- a collection that was created for the document
abbrev created : Space → Doc → Collection
created space doc = record { space = space; docs = doc ∷ [] }

-- the collection of the space has what was put there
pub docs-put : (space : Space) (docs : List Doc) (cs : List Collection) (c : Collection) → collection_of space cs ≡ Some c
    → docs_in (collection_of space (with_docs space docs cs)) ≡ docs
docs-put space docs [] c found = absurd cc
docs-put space docs (d ∷ ds) c found = cases (same_space space d.space) refl (λ further. docs-put space docs ds c further)
  where
    cases : (b : Bool) → same_space space d.space ≡ b
        → (collection_of space ds ≡ Some c → docs_in (collection_of space (with_docs space docs ds)) ≡ docs)
        → docs_in (collection_of space (with_docs space docs (d ∷ ds))) ≡ docs
    cases true e rest = rw e (rw e refl)
    cases false e rest = rw e (rw e (rest (rw e at found)))

-- or in the one that was created last
docs-created : (space : Space) (doc : Doc) (cs : List Collection) → collection_of space cs ≡ None
    → docs_in (collection_of space (cs ++ created space doc ∷ [])) ≡ doc ∷ []
docs-created space doc [] absent = rw (space-same space) refl
docs-created space doc (d ∷ ds) absent = cases (same_space space d.space) refl (λ further. docs-created space doc ds further)
  where
    cases : (b : Bool) → same_space space d.space ≡ b
        → (collection_of space ds ≡ None → docs_in (collection_of space (ds ++ created space doc ∷ [])) ≡ doc ∷ [])
        → docs_in (collection_of space ((d ∷ ds) ++ created space doc ∷ [])) ≡ doc ∷ []
    cases true e rest = let here : Some d ≡ None = rw e at absent in absurd cc
    cases false e rest = rw e (rest (rw e at absent))

-- every other space has the documents that it had
pub others-put : (space other : Space) (docs : List Doc) (cs : List Collection) → same_space other space ≡ false
    → docs_in (collection_of other (with_docs space docs cs)) ≡ docs_in (collection_of other cs)
others-put space other docs [] apart = refl
others-put space other docs (d ∷ ds) apart = cases (same_space space d.space) refl (others-put space other docs ds apart)
  where
    cases : (b : Bool) → same_space space d.space ≡ b
        → docs_in (collection_of other (with_docs space docs ds)) ≡ docs_in (collection_of other ds)
        → docs_in (collection_of other (with_docs space docs (d ∷ ds))) ≡ docs_in (collection_of other (d ∷ ds))
    cases true e rest =
        let away : same_space other d.space ≡ false = subst (λ (x : Space). same_space other x ≡ false)
        (space-equal space d.space e) apart in
        rw e (rw away refl)
    cases false e rest = rw e (deeper (same_space other d.space) refl)
      where
        deeper : (b : Bool) → same_space other d.space ≡ b
            → docs_in (collection_of other (d ∷ with_docs space docs ds)) ≡ docs_in (collection_of other (d ∷ ds))
        deeper true there = rw there refl
        deeper false away = rw away rest

others-created : (space other : Space) (doc : Doc) (cs : List Collection) → same_space other space ≡ false
    → docs_in (collection_of other (cs ++ created space doc ∷ [])) ≡ docs_in (collection_of other cs)
others-created space other doc [] apart = rw apart refl
others-created space other doc (d ∷ ds) apart = cases (same_space other d.space) refl (others-created space other doc ds apart)
  where
    cases : (b : Bool) → same_space other d.space ≡ b
        → docs_in (collection_of other (ds ++ created space doc ∷ [])) ≡ docs_in (collection_of other ds)
        → docs_in (collection_of other ((d ∷ ds) ++ created space doc ∷ [])) ≡ docs_in (collection_of other (d ∷ ds))
    cases true e rest = rw e refl
    cases false e rest = rw e rest

-- the document went in: its `_id` was new, it stands last in its space, and the other spaces have what they had
pub record Landed (space : Space) (doc : Doc) (s t : Store) : Type 0 where
  pub new : has_id doc (docs_of space s) ≡ false
  pub last : docs_of space t ≡ docs_of space s ++ doc ∷ []
  pub others : (other : Space) → same_space other space ≡ false → docs_of other t ≡ docs_of other s

-- the reply is a refusal and the store is as it was, or it is what was to be said and the document went in
abbrev pub Came : OpReply → OpReply → Space → Doc → Store → Store → Type 0
Came said reply space doc s t = (((kind : ℕ) × (reply ≡ Refused kind)) × (t ≡ s)) ⊎ ((reply ≡ said) × Landed space doc s t)

-- a refusal
came-refused : (said reply : OpReply) (space : Space) (doc : Doc) (s t : Store) (kind : ℕ)
    → record { reply = reply; store = t } ≡ same (Refused kind) s → Came said reply space doc s t
came-refused said reply space doc s t kind is = inl ((kind, ap (λ (m : Meant). m.reply) is), ap (λ (m : Meant). m.store) is)

came : (said reply : OpReply) (space : Space) (doc : Doc) (s t : Store) (found : Option Collection)
    → collection_of space s.collections ≡ found → record { reply = reply; store = t } ≡ inserted said space doc s found
    → Came said reply space doc s t
came said reply space doc s t (Some c) found is = cases (has_id doc c.docs) refl (are_spent 1 s) refl
  where
    cases : (twice : Bool) → has_id doc c.docs ≡ twice → (spent : Bool) → are_spent 1 s ≡ spent → Came said reply space doc s t
    cases true there spent q = came-refused said reply space doc s t 31 (rw there at is)
    cases false there true q = came-refused said reply space doc s t 33 (rw q at (rw there at is))
    cases false there false q =
        let done = rw q at (rw there at is) in
        let after = ap (λ (m : Meant). m.store.collections) done in
        let before = ap docs_in found in
        let longer : List Doc = c.docs ++ doc ∷ [] in
        inr (
          ap (λ (m : Meant). m.reply) done,
          record {
            new = subst (λ (ds : List Doc). has_id doc ds ≡ false) (sym before) there;
            last = ap (λ (cs : List Collection). docs_in (collection_of space cs)) after ∙ docs-put space longer s.collections c found
                ∙ ap (λ (ds : List Doc). ds ++ doc ∷ []) (sym before);
            others = λ other apart. ap (λ (cs : List Collection). docs_in (collection_of other cs)) after
                ∙ others-put space other longer s.collections apart;
          },
        )
came said reply space doc s t None found is = cases (is_full s) refl (are_spent 2 s) refl
  where
    cases : (full : Bool) → is_full s ≡ full → (spent : Bool) → are_spent 2 s ≡ spent → Came said reply space doc s t
    cases true full spent q = came-refused said reply space doc s t 34 (rw full at is)
    cases false full true q = came-refused said reply space doc s t 33 (rw q at (rw full at is))
    cases false full false q =
        let done = rw q at (rw full at is) in
        let after = ap (λ (m : Meant). m.store.collections) done in
        let before = ap docs_in found in
        inr (
          ap (λ (m : Meant). m.reply) done,
          record {
            new = subst (λ (ds : List Doc). has_id doc ds ≡ false) (sym before) refl;
            last = ap (λ (cs : List Collection). docs_in (collection_of space cs)) after ∙ docs-created space doc s.collections found
                ∙ ap (λ (ds : List Doc). ds ++ doc ∷ []) (sym before);
            others = λ other apart. ap (λ (cs : List Collection). docs_in (collection_of other cs)) after
                ∙ others-created space other doc s.collections apart;
          },
        )

-- an insertion is refused, and changes nothing, or the document went in
pub insert-came : (said reply : OpReply) (space : Space) (doc : Doc) (s t : Store) (kind : Option ℕ)
    → record { reply = reply; store = t } ≡ by_kind kind s (inserted said space doc s (collection_of space s.collections))
    → Came said reply space doc s t
insert-came said reply space doc s t (Some kind) is = came-refused said reply space doc s t kind is
insert-came said reply space doc s t None is = came said reply space doc s t (collection_of space s.collections) refl is

-- one that is replied `Inserted` went in
pub insert-landed : (space : Space) (doc : Doc) (s t : Store) (kind : Option ℕ)
    → record { reply = Inserted; store = t } ≡ by_kind kind s (inserted Inserted space doc s (collection_of space s.collections))
    → Landed space doc s t
insert-landed space doc s t kind is =
    ⊎_elim (λ refused. let kind = refused.0.1 in absurd cc) (λ landed. landed.1) (insert-came Inserted Inserted space doc s t kind is)
