-- What a Create and an InsertNamed come to.
use Rattle.std.proofs.Common.{◌≡◌, ℕ, ◌+◌, ◌-◌, ◌^◌, nat_lt, ◌<◌, ◌≤◌, ◌==◌, Bool, true, false, List, [], ◌∷◌, ◌++◌, length, map, Option, None, Some, Ok, Err, refl, ap, sym, ◌∙◌, subst, arith}
use Rattle.std.proofs.lemmas.Bool.Decides.{nat_tests}
use Rattle.bson_values.specs.declared.space.Space.{Space}
use Rattle.outside.specs.declared.kept.KeptRow.{KeptRow}
use Rattle.outside.specs.declared.kept.KeptTable.{KeptTable}
use Rattle.outside.specs.declared.kept.Change.{Change}
use Rattle.outside.specs.declared.kept.Change.TheVariants as change
use Rattle.outside.specs.declared.keeper.KeepError.{KeepError}
use Rattle.outside.specs.Causes.{HasCause, failure_of}
use Rattle.outside.specs.Changes.{with_rows, put_row, Goes}
use Rattle.table_rows.specs.declared.row.Row.{Row}
use Rattle.table_rows.specs.declared.listed.Placed.{Placed}
use Rattle.table_rows.specs.declared.listed.Listed.{Listed}
use Rattle.table_words.specs.declared.call.TableCall.TheVariants as call
use Rattle.table_words.specs.declared.call.TableReply.TheVariants as reply
use Rattle.table_words.specs.Tables.{Table, Tables, named, numbered}
use Rattle.table_words.specs.Sound.{IsSound, Sound, SoundTables}
use Rattle.table_words.specs.Step.{inserts_named, inserts_numbered, creates, created, created_with, meant, is_full, are_spent, is_kept}
use Rattle.table_words.proofs.Finds.{number-apart, number-same, numbered-named}
use Rattle.table_store.specs.declared.live.Live.{Live}
use Rattle.table_store.specs.Found.{shown, all_shown}
use Rattle.table_store.specs.Edits.{put_of}
use Rattle.table_store.specs.Kept.{kept_row, kept_table, kept_tables, Tells}
use Rattle.table_store.specs.Ran.{Ran, refusal_of}
use Rattle.table_store.proofs.Calls.{refused-ran}
use Rattle.table_store.proofs.Keeping.{told-changed, create-there, number-swaps}
use Rattle.table_store.proofs.Readings.{plain-put}

pub length-shown : (live : List Live) → length (all_shown live) ≡ length live
length-shown [] = refl
length-shown (l ∷ ls) = let rest = length-shown ls in grind arith

is-full : (live : List Live) (next : ℕ) → 10000 ≤ length live → is_full (record { live = all_shown live; next = next }) ≡ true
is-full live next le = let long = length-shown live in grind (arith, nat_tests)

has-room : (live : List Live) (next : ℕ) → length live < 10000 → is_full (record { live = all_shown live; next = next }) ≡ false
has-room live next less = let long = length-shown live in grind (arith, nat_tests)

spends : (next : ℕ) → 9223372036854775807 < next → nat_lt (2 ^ 63 - 1) (next + 1 - 1) ≡ true
spends next less = grind (arith, nat_tests)

leaves : (next : ℕ) → next ≤ 9223372036854775807 → nat_lt (2 ^ 63 - 1) (next + 1 - 1) ≡ false
leaves next le = grind (arith, nat_tests)

spends-two : (next : ℕ) → 9223372036854775807 ≤ next → nat_lt (2 ^ 63 - 1) (next + 2 - 1) ≡ true
spends-two next le = grind (arith, nat_tests)

leaves-two : (next : ℕ) → next < 9223372036854775807 → nat_lt (2 ^ 63 - 1) (next + 2 - 1) ≡ false
leaves-two next less = grind (arith, nat_tests)

shown-last : (live : List Live) (new : Live) → all_shown (live ++ new ∷ []) ≡ all_shown live ++ shown new ∷ []
shown-last [] new = refl
shown-last (l ∷ ls) new = ap (λ rest. shown l ∷ rest) (shown-last ls new)

-- the list with a table that was made so
list-last : (live after : List Live) (space : Space) (table made : Listed) → table ≡ made
    → after ≡ live ++ record { space = space; table = table } ∷ []
    → all_shown after ≡ all_shown live ++ shown (record { space = space; table = made }) ∷ []
list-last live after space table made is came =
    ap all_shown came ∙ ap (λ (t : Listed). all_shown (live ++ record { space = space; table = t } ∷ [])) is
    ∙ shown-last live (record { space = space; table = made })

module _ (live : List Live) (next : ℕ) (space : Space) (none : named space (all_shown live) ≡ None) where
  abbrev pub s : Tables
  s = record { live = all_shown live; next = next }

  -- ---- Create

  pub create-full : 10000 ≤ length live → (faults : ℕ) → Ran faults faults s s (call.Create space) reply.Full
  create-full le faults = record { replied = (rw (none, is-full live next le) refl, refl); after = sym (stays (named space s.live) none) }
    where
      stays : (o : Option Table) → o ≡ None → (creates space s o).tables ≡ s
      stays None e = rw (is-full live next le) refl
      stays (Some t) e = refl

  pub create-spent : length live < 10000 → 9223372036854775807 < next → (faults : ℕ) → Ran faults faults s s (call.Create space) reply.Spent
  create-spent room le faults = record
      { replied = (rw (none, has-room live next room, spends next le) refl, refl); after = sym (stays (named space s.live) none) }
    where
      stays : (o : Option Table) → o ≡ None → (creates space s o).tables ≡ s
      stays None e = rw (has-room live next room, spends next le) refl
      stays (Some t) e = refl

  pub create-ran : (after : List Live) (table : Listed) (before now : ℕ) → length live < 10000 → next ≤ 9223372036854775807
      → table ≡ record { number = next; stamp = next; rows = [] } → after ≡ live ++ record { space = space; table = table } ∷ []
      → now ≡ before
      → Ran before now s (record { live = all_shown after; next = next + 1 }) (call.Create space) (reply.Inserted next next)
  create-ran after table before now room left is came same =
      rw (same, list-last live after space table (record { number = next; stamp = next; rows = [] }) is came)
      (record { replied = (rw (none, has-room live next room, leaves next left) refl, refl); after = sym (goes (named space s.live) none) })
    where
      goes : (o : Option Table) → o ≡ None → (creates space s o).tables ≡ created space s
      goes None e = rw (has-room live next room, leaves next left) refl
      goes (Some t) e = absurd cc

  pub create-tells : (after : List Live) (kept : Space) (table : Listed) (told new : Option (List KeptTable)) (made : Unit {0})
      → kept ≡ space
      → table ≡ record { number = next; stamp = next; rows = [] } → after ≡ live ++ record { space = space; table = table } ∷ []
      → Goes told new (change.Create next kept ∷ []) (Ok made) → Tells told s
      → Tells new (record { live = all_shown after; next = next + 1 })
  create-tells after kept table told new made copied is came goes tells =
      let fresh : Listed = record { number = next; stamp = next; rows = [] } in
      told-changed told new (change.Create next kept ∷ []) made s (record { live = all_shown after; next = next + 1 }) goes tells refl
      (ap (λ (x : Space). kept_tables (all_shown live) ++ record { number = next; space = x; rows = [] } ∷ []) copied
      ∙ create-there (shown (record { space = space; table = fresh })) (all_shown live)
      ∙ ap kept_tables (sym (list-last live after space table fresh is came)))

  pub create-refused : (before now : ℕ) (refused : KeepError) → length live < 10000 → next ≤ 9223372036854775807
      → HasCause before now (failure_of {T = Unit {0}} (Err refused)) → Ran before now s s (call.Create space) (refusal_of refused)
  create-refused before now refused room left cause =
      refused-ran s (call.Create space) before now refused (rw (none, has-room live next room, leaves next left) refl) cause

  -- ---- InsertNamed of an absent space

  module _ (row : Row) where
    pub with-full : 10000 ≤ length live → (faults : ℕ) → Ran faults faults s s (call.InsertNamed space row) reply.Full
    with-full le faults = record { replied = (rw (none, is-full live next le) refl, refl); after = sym (stays (named space s.live) none) }
      where
        stays : (o : Option Table) → o ≡ None → (inserts_named space row s o).tables ≡ s
        stays None e = rw (is-full live next le) refl
        stays (Some t) e = absurd cc

    pub with-spent : length live < 10000 → 9223372036854775807 ≤ next → (faults : ℕ)
        → Ran faults faults s s (call.InsertNamed space row) reply.Spent
    with-spent room le faults = record
        { replied = (rw (none, has-room live next room, spends-two next le) refl, refl); after = sym (stays (named space s.live) none) }
      where
        stays : (o : Option Table) → o ≡ None → (inserts_named space row s o).tables ≡ s
        stays None e = rw (has-room live next room, spends-two next le) refl
        stays (Some t) e = absurd cc

    -- the table with its first row
    abbrev pub first : Listed
    first = record { number = next; stamp = next + 1; rows = record { place = next + 1; row = row } ∷ [] }

    pub with-ran : (after : List Live) (table : Listed) (before now : ℕ) → length live < 10000 → next < 9223372036854775807
        → table ≡ first → after ≡ live ++ record { space = space; table = table } ∷ [] → now ≡ before
        → Ran before now s (record { live = all_shown after; next = next + 2 }) (call.InsertNamed space row) (reply.Inserted next
        (next + 1))
    with-ran after table before now room left is came same =
        rw (same, list-last live after space table first is came)
        (record {
          replied = (rw (none, has-room live next room, leaves-two next left) refl, refl);
          after = sym (goes (named space s.live) none);
        })
      where
        goes : (o : Option Table) → o ≡ None → (inserts_named space row s o).tables ≡ created_with space row s
        goes None e = rw (has-room live next room, leaves-two next left) refl
        goes (Some t) e = absurd cc

    pub with-refused : (before now : ℕ) (refused : KeepError) → length live < 10000 → next < 9223372036854775807
        → HasCause before now (failure_of {T = Unit {0}} (Err refused))
        → Ran before now s s (call.InsertNamed space row) (refusal_of refused)
    with-refused before now refused room left cause =
        refused-ran s (call.InsertNamed space row) before now refused (rw (none, has-room live next room, leaves-two next left) refl) cause

-- a number that was not given is nowhere
fresh-number : (n : ℕ) (ts : List Table) → SoundTables n ts → numbered n ts ≡ None
fresh-number n [] sound = refl
fresh-number n (t ∷ ts) sound = rw (number-apart n t.number (sound.0).number) (fresh-number n ts sound.2)

with-new : (n : ℕ) (space : Space) (rows : List KeptRow) (f : List KeptRow → List KeptRow) (ts : List Table) → numbered n ts ≡ None
    → with_rows n f (kept_tables ts ++ record { number = n; space = space; rows = rows } ∷ []) ≡ kept_tables ts ++ record {
      number = n;
      space = space;
      rows = f rows;
    } ∷ []
with-new n space rows f [] none = rw (number-same n) refl
with-new n space rows f (t ∷ ts) none = cases (n == t.number) refl (with-new n space rows f ts)
  where
    cases : (b : Bool) → (n == t.number) ≡ b
        → (numbered n ts ≡ None → with_rows n f (kept_tables ts ++ record { number = n; space = space; rows = rows } ∷ []) ≡ kept_tables
        ts ++ record { number = n; space = space; rows = f rows } ∷ [])
        → with_rows n f (kept_tables (t ∷ ts) ++ record { number = n; space = space; rows = rows } ∷ []) ≡ kept_tables (t ∷
        ts) ++ record { number = n; space = space; rows = f rows } ∷ []
    cases true e rest = let clash : Some t ≡ None = rw e at none in absurd cc
    cases false e rest = rw (number-swaps t.number n, e) (ap (λ ks. kept_table t ∷ ks) (rest (rw e at none)))

pub with-tells : (live after : List Live) (next : ℕ) (space copied : Space) (row : Row) (put : Change) (table : Listed) (told new :
    Option (List KeptTable)) (made : Unit {0})
    → Sound (record { live = all_shown live; next = next }) → IsSound row → copied ≡ space → put ≡ put_of next (next + 1) row
    → table ≡ record { number = next; stamp = next + 1; rows = record { place = next + 1; row = row } ∷ [] }
    → after ≡ live ++ record { space = space; table = table } ∷ []
    → Goes told new (change.Create next copied ∷ put ∷ []) (Ok made) → Tells told (record { live = all_shown live; next = next })
    → Tells new (record { live = all_shown after; next = next + 2 })
with-tells live after next space copied row put table told new made sound own is_space is_put is came goes tells =
    let one : Listed = record { number = next; stamp = next + 1; rows = record { place = next + 1; row = row } ∷ [] } in
    let changes : List Change = change.Create next space ∷ put_of next (next + 1) row ∷ [] in
    let same : change.Create next copied ∷ put ∷ [] ≡ changes = λ i. change.Create next (is_space i) ∷ is_put i ∷ [] in
    told-changed told new changes made (record { live = all_shown live; next = next }) (record { live = all_shown after; next = next + 2 })
    (subst (λ (cs : List Change). Goes told new cs (Ok made)) same goes) tells
    (ap (λ c. change.Create next space ∷ c ∷ []) (plain-put next (next + 1) row own))
    (with-new next space [] (put_row (kept_row (record { place = next + 1; row = row }))) (all_shown live)
    (fresh-number next (all_shown live) sound.tables)
    ∙ create-there (shown (record { space = space; table = one })) (all_shown live)
    ∙ ap kept_tables (sym (list-last live after space table one is came)))

-- a table that was made, given a row and stamped
pub made-table : (a b d : Listed) (n place : ℕ) (row : Row) → a ≡ record { number = n; stamp = n; rows = [] }
    → b ≡ record a { rows = a.rows ++ record { place = place; row = row } ∷ [] }
    → d ≡ record b { stamp = place } → d ≡ record { number = n; stamp = place; rows = record { place = place; row = row } ∷ [] }
made-table a b d n place row first second third =
    third ∙ ap (λ (x : Listed). record x { stamp = place })
    (second ∙ ap (λ (x : Listed). record x { rows = x.rows ++ record { place = place; row = row } ∷ [] }) first)

pub pushed : (xs ys zs : List Live) (x : Live) → zs ≡ ys ++ x ∷ [] → ys ≡ xs → zs ≡ xs ++ x ∷ []
pushed xs ys zs x came same = came ∙ ap (λ (l : List Live). l ++ x ∷ []) same

-- an InsertNamed of a live space, once its number is known
pub insert-named : (s : Tables) (space : Space) (row : Row) (n : ℕ) (t : Table) → Sound s → named space s.live ≡ Some t → t.number ≡ n
    → meant s (call.Insert n row) ≡ meant s (call.InsertNamed space row)
insert-named s space row n t sound live is =
    let own : numbered n s.live ≡ Some t =
    subst (λ k. numbered k s.live ≡ Some t) is (numbered-named s.next space t s.live sound.tables live) in
    ap (inserts_numbered row s) own ∙ ap (inserts_named space row s) (sym live)
