-- Texts of sound rows read as their JSON.
use Rattle.std.proofs.Common.{◌≡◌, ℕ, Bool, true, false, List, [], ◌∷◌, ◌++◌, map, Option, None, Some, refl, ap, sym, ◌∙◌}
use Rattle.std.proofs.lemmas.List.{map-append}
use Rattle.serde_json.specs.Written.{compact_text}
use Rattle.jsonb_contain.specs.Texts.{data_of, read_json}
use Rattle.typed_json.proofs.Printed.{rows_read_again}
use Rattle.outside.specs.declared.kept.Change.{Change}
use Rattle.outside.specs.declared.kept.Change.TheVariants.{Put, Cut}
use Rattle.table_rows.specs.declared.row.Row.{Row}
use Rattle.table_rows.specs.declared.listed.Placed.{Placed}
use Rattle.table_rows.specs.Rows.{has_key}
use Rattle.table_words.specs.declared.call.Edit.{Edit}
use Rattle.table_words.specs.declared.call.Edit.TheVariants.{Replace, Remove}
use Rattle.table_words.specs.Sound.{IsSound, SoundEdits, SoundAdded}
use Rattle.table_store.specs.Edits.{put_of, puts, cuts, changes_for}
use Rattle.table_store.specs.Kept.{again, plain_text, plain_change}

pub reads : (row : Row) → IsSound row → read_json row.text ≡ Some row.json
reads row sound =
    let again = rows_read_again sound.doc (sound.json).stored (sound.json).typed in
    ap read_json (sound.text ∙ ap (λ j. compact_text (data_of j)) (sym (sound.json).row_is)) ∙ again.again
    ∙ ap (λ j. Some j) (sound.json).row_is

pub plain-sound : (row : Row) → IsSound row → plain_text row.text ≡ row.text
plain-sound row sound = ap again (reads row sound) ∙ sym sound.text

pub plain-put : (n place : ℕ) (row : Row) → IsSound row → plain_change (put_of n place row) ≡ put_of n place row
plain-put n place row sound = ap (Put n place row.key) (plain-sound row sound)

plain-puts : (n : ℕ) (rows : List Placed) (es : List Edit) → SoundEdits es → map plain_change (puts n rows es) ≡ puts n rows es
plain-puts n rows [] sound = refl
plain-puts n rows (Replace row ∷ es) sound = cases (has_key row.key rows) refl (plain-puts n rows es sound.1)
  where
    cases : (b : Bool) → has_key row.key rows ≡ b → map plain_change (puts n rows es) ≡ puts n rows es
        → map plain_change (puts n rows (Replace row ∷ es)) ≡ puts n rows (Replace row ∷ es)
    cases true e rest = rw e (λ i. plain-put n 0 row sound.0 i ∷ rest i)
    cases false e rest = rw e rest
plain-puts n rows (Remove key ∷ es) sound = plain-puts n rows es sound

plain-cuts : (n : ℕ) (es : List Edit) → map plain_change (cuts n es) ≡ cuts n es
plain-cuts n [] = refl
plain-cuts n (Replace row ∷ es) = plain-cuts n es
plain-cuts n (Remove key ∷ es) = ap (λ cs. Cut n key ∷ cs) (plain-cuts n es)

plain-both : (n : ℕ) (rows : List Placed) (es : List Edit) → SoundEdits es
    → map plain_change (puts n rows es ++ cuts n es) ≡ puts n rows es ++ cuts n es
plain-both n rows es sound = map-append plain_change (puts n rows es) (cuts n es) ∙ (λ i. plain-puts n rows es sound i ++ plain-cuts n es i)

pub plain-for : (n place : ℕ) (rows : List Placed) (es : List Edit) (added : Option Row) → SoundEdits es → SoundAdded added
    → map plain_change (changes_for n place rows es added) ≡ changes_for n place rows es added
plain-for n place rows es None sound last = plain-both n rows es sound
plain-for n place rows es (Some row) sound last =
    map-append plain_change (puts n rows es ++ cuts n es) (put_of n place row ∷ [])
    ∙ (λ i. plain-both n rows es sound i ++ plain-put n place row last i ∷ [])
