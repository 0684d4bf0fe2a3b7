-- Edits of rows are changes of their documents.
use Rattle.std.proofs.Common.{◌≡◌, ◌<◌, ◌^◌, ℕ, Bool, true, false, ◌||◌, List, [], ◌∷◌, length, refl, ap, sym, ◌∙◌, subst}
use Rattle.std.specs.Prelude.{codes, Some}
use Rattle.std.specs.Str.{bytes_eq}
use Rattle.bson_spelling.specs.Spelling.{key}
use Rattle.bson_values.specs.Names.{first_of}
use Rattle.filter_syntax.specs.Meaning.{Doc}
use Rattle.table_rows.specs.declared.listed.Placed.{Placed}
use Rattle.table_rows.specs.declared.row.Row.{Row}
use Rattle.table_rows.specs.Rows.{has_key, replaced, removed}
use Rattle.table_words.specs.declared.call.Edit.{Edit}
use Rattle.table_words.specs.declared.call.Edit.TheVariants.{Replace, Remove}
use Rattle.table_words.specs.Sound.{IsSound, SoundEdits, SoundRows}
use Rattle.table_words.specs.Step.{edited}
use Rattle.table_words.proofs.Rows.{sound-replaced, sound-removed}
use Rattle.doc_model.specs.Change.{with_new, exchanged, without_old, without_any}
use Rattle.doc_model.specs.Store.{same_id, has_id}
use Rattle.doc_history.specs.Docs.{doc_of, docs_at}
use Rattle.doc_effects.specs.Outcomes.{IsKept, IsKeyOf, AreEdits}
use Rattle.doc_effects.specs.Rows.{IsRowFor}
use Rattle.doc_effects.proofs.Keys.{plain_id, row_id, doc_sound}
use Rattle.bson_values.specs.declared.value.Value.{Value}

-- the row that was made for a document keeps it
pub kept-for : (id : Value) (doc : Doc) (row : Row) → IsRowFor id doc row → IsKept row doc
kept-for id doc row is = record { sound = sound; is_of = doc_sound row sound; short = is.short }
  where
    sound : IsSound row
    sound = record {
      doc = doc;
      json = record { typed = is.typed; stored = is.stored; row_is = sym is.json_is };
      text = is.text_is;
      id = id;
      has_id = is.has_id;
      may = is.may;
      key_is = is.key_is;
    }

-- keys of rows are equal exactly where the documents have the same `_id`
pub kept-same : (row : Row) (doc : Doc) (other : Row) → IsKept row doc → IsSound other → bytes_eq row.key other.key ≡ same_id doc (doc_of other)
kept-same row doc other kept sound =
    let own = kept.sound in
    let found : first_of (codes "_id") doc ≡ Some own.id = ap (first_of (codes "_id")) (sym kept.is_of ∙ doc_sound row own) ∙ own.has_id in
    let short : length (key own.id) < 2 ^ 63 = subst (λ k. length k < 2 ^ 63) own.key_is kept.short in
    ap (λ k. bytes_eq k other.key) own.key_is
    ∙ row_id doc own.id other (plain_id own.doc own.id own.json.stored own.json.typed own.has_id) found short sound

pub kept-key : (next : ℕ) (row : Row) (doc : Doc) (ps : List Placed) → IsKept row doc → SoundRows next ps
    → has_key row.key ps ≡ has_id doc (docs_at ps)
kept-key next row doc [] kept sound = refl
kept-key next row doc (p ∷ ps) kept sound =
    rw (kept-same row doc p.row kept sound.0) (ap (λ b. same_id doc (doc_of p.row) || b) (kept-key next row doc ps kept sound.3))

replaced-docs : (next : ℕ) (row : Row) (new : Doc) (ps : List Placed) → IsKept row new → SoundRows next ps
    → docs_at (replaced row ps) ≡ with_new new (docs_at ps)
replaced-docs next row new [] kept sound = refl
replaced-docs next row new (p ∷ ps) kept sound =
    cases (bytes_eq row.key p.row.key) refl (sym (kept-same row new p.row kept sound.0)) (replaced-docs next row new ps kept sound.3)
  where
    cases : (b : Bool) → bytes_eq row.key p.row.key ≡ b → same_id new (doc_of p.row) ≡ bytes_eq row.key p.row.key
        → docs_at (replaced row ps) ≡ with_new new (docs_at ps) → docs_at (replaced row (p ∷ ps)) ≡ with_new new (docs_at (p ∷ ps))
    cases true e same rest = let there = same ∙ e in rw (e, there) (ap (λ (d : Doc). d ∷ docs_at ps) kept.is_of)
    cases false e same rest = let there = same ∙ e in rw (e, there) (ap (λ ds. doc_of p.row ∷ ds) rest)

removed-docs : (next : ℕ) (row : Row) (old : Doc) (ps : List Placed) → IsKept row old → SoundRows next ps
    → docs_at (removed row.key ps) ≡ without_old old (docs_at ps)
removed-docs next row old [] kept sound = refl
removed-docs next row old (p ∷ ps) kept sound =
    cases (bytes_eq row.key p.row.key) refl (sym (kept-same row old p.row kept sound.0)) (removed-docs next row old ps kept sound.3)
  where
    cases : (b : Bool) → bytes_eq row.key p.row.key ≡ b → same_id old (doc_of p.row) ≡ bytes_eq row.key p.row.key
        → docs_at (removed row.key ps) ≡ without_old old (docs_at ps)
        → docs_at (removed row.key (p ∷ ps)) ≡ without_old old (docs_at (p ∷ ps))
    cases true e same rest = let there = same ∙ e in rw (e, there) refl
    cases false e same rest = let there = same ∙ e in rw (e, there) (ap (λ ds. doc_of p.row ∷ ds) rest)

pub edited-docs : (next : ℕ) (gone news : List Doc) (edits : List Edit) (ps : List Placed) → AreEdits gone news edits → SoundRows next ps
    → docs_at (edited edits ps) ≡ exchanged news (without_any gone (docs_at ps))
edited-docs next (old ∷ gone) news (Remove key ∷ edits) ps are sound =
    let one : docs_at (removed key ps) ≡ without_old old (docs_at ps) =
    subst (λ k. docs_at (removed k ps) ≡ without_old old (docs_at ps)) are.0.key_is (removed-docs next are.0.row old ps are.0.kept sound) in
    edited-docs next gone news edits (removed key ps) are.1 (sound-removed next key ps sound)
    ∙ ap (λ ds. exchanged news (without_any gone ds)) one
edited-docs next (old ∷ gone) news (Replace row ∷ edits) ps are sound = absurd are
edited-docs next (old ∷ gone) news [] ps are sound = absurd are
edited-docs next [] (new ∷ news) (Replace row ∷ edits) ps are sound =
    edited-docs next [] news edits (replaced row ps) are.1 (sound-replaced next row ps are.0.sound sound)
    ∙ ap (λ ds. exchanged news ds) (replaced-docs next row new ps are.0 sound)
edited-docs next [] (new ∷ news) (Remove key ∷ edits) ps are sound = absurd are
edited-docs next [] (new ∷ news) [] ps are sound = absurd are
edited-docs next [] [] [] ps are sound = refl
edited-docs next [] [] (edit ∷ edits) ps are sound = absurd are

-- their rows are sound
pub sound-edits : (gone news : List Doc) (edits : List Edit) → AreEdits gone news edits → SoundEdits edits
sound-edits (old ∷ gone) news (Remove key ∷ edits) are = sound-edits gone news edits are.1
sound-edits (old ∷ gone) news (Replace row ∷ edits) are = absurd are
sound-edits (old ∷ gone) news [] are = absurd are
sound-edits [] (new ∷ news) (Replace row ∷ edits) are = (are.0.sound, sound-edits [] news edits are.1)
sound-edits [] (new ∷ news) (Remove key ∷ edits) are = absurd are
sound-edits [] (new ∷ news) [] are = absurd are
sound-edits [] [] [] are = tt
sound-edits [] [] (edit ∷ edits) are = absurd are
