-- What a Drop and a DropDatabase come to.
use Rattle.std.proofs.Common.{◌≡◌, ℕ, zero, suc, ◌+◌, ◌<◌, ◌≤◌, ◌==◌, Bool, true, false, List, [], ◌∷◌, ◌++◌, length, map, Option, None, Some, Ok, Err, refl, ap, sym, ◌∙◌, subst, arith}
use Rattle.std.specs.Prelude.{not}
use Rattle.std.specs.List.{filter}
use Rattle.std.specs.Str.{bytes_eq}
use Rattle.bson_values.specs.declared.space.Space.{Space}
use Rattle.outside.specs.declared.kept.KeptTable.{KeptTable}
use Rattle.outside.specs.declared.kept.Change.{Change}
use Rattle.outside.specs.declared.kept.Change.TheVariants as change
use Rattle.outside.specs.declared.keeper.KeepError.{KeepError}
use Rattle.outside.specs.Causes.{HasCause, failure_of}
use Rattle.outside.specs.Changes.{all_changed, without_first, Goes}
use Rattle.outside.specs.Changes as keeping
use Rattle.table_words.specs.declared.call.TableCall.TheVariants as call
use Rattle.table_words.specs.declared.call.TableReply.TheVariants as reply
use Rattle.table_words.specs.Tables.{Table, Tables, named, numbered, without, outside_of, count_in}
use Rattle.table_words.specs.Sound.{IsApart, Sound, SoundTables}
use Rattle.table_words.specs.Step.{drops, meant, is_kept}
use Rattle.table_words.proofs.Finds.{number-apart, number-same, numbered-named}
use Rattle.table_store.specs.declared.live.Live.{Live}
use Rattle.table_store.specs.Found.{shown, all_shown, FoundName, FoundNumber}
use Rattle.table_store.specs.Drops.{drops_of}
use Rattle.table_store.specs.Kept.{kept_table, kept_tables, plain_change, Tells}
use Rattle.table_store.specs.Ran.{Ran, refusal_of}
use Rattle.table_store.proofs.Calls.{refused-ran}
use Rattle.table_store.proofs.Keeping.{told-changed, drop-there, number-swaps}

-- ---- Drop

pub drop-ran : (live after : List Live) (next n : ℕ) (space : Space) (before now : ℕ) → FoundName space live (Some n)
    → all_shown after ≡ without n (all_shown live) → now ≡ before
    → Ran before now (record { live = all_shown live; next = next }) (record { live = all_shown after; next = next }) (call.Drop
    space) (reply.Dropped 1)
drop-ran live after next n space before now found list same = rw (same, list) (record {
  replied = (rw found.1 refl, refl);
  after = sym (went (named space (all_shown live)) found.1);
})
  where
    s : Tables
    s = record { live = all_shown live; next = next }

    went : (o : Option Table) → o ≡ Some found.0 → (drops s o).tables ≡ record { live = without n (all_shown live); next = next }
    went None e = absurd cc
    went (Some t) e = let is : t ≡ found.0 = cc in
        ap (λ k. record { live = without k (all_shown live); next = next }) (ap (λ (x : Table). x.number) is ∙ found.2)

pub drop-tells : (live after : List Live) (next n : ℕ) (told new : Option (List KeptTable)) (made : Unit {0})
    → all_shown after ≡ without n (all_shown live)
    → Goes told new (change.Drop n ∷ []) (Ok made) → Tells told (record { live = all_shown live; next = next })
    → Tells new (record { live = all_shown after; next = next })
drop-tells live after next n told new made list goes tells =
    told-changed told new (change.Drop n ∷ []) made (record { live = all_shown live; next = next })
    (record { live = all_shown after; next = next }) goes tells refl
    (drop-there n (all_shown live) ∙ ap kept_tables (sym list))

pub drop-refused : (live : List Live) (next n : ℕ) (space : Space) (before now : ℕ) (refused : KeepError) → FoundName space live (Some n)
    → HasCause before now (failure_of {T = Unit {0}} (Err refused))
    → Ran before now (record { live = all_shown live; next = next }) (record { live = all_shown live; next = next }) (call.Drop
    space) (refusal_of refused)
drop-refused live next n space before now refused found cause =
    refused-ran (record { live = all_shown live; next = next }) (call.Drop space) before now refused (rw found.1 refl) cause

-- a table that is found by its space is found by its number
pub found-both : (live : List Live) (next n : ℕ) (space : Space) → Sound (record { live = all_shown live; next = next })
    → FoundName space live (Some n)
    → FoundNumber n live None → ⊥
found-both live next n space sound name number =
    let own : numbered n (all_shown live)
    ≡ Some name.0 = subst (λ k. numbered k (all_shown live) ≡ Some name.0) name.2
    (numbered-named next space name.0 (all_shown live) sound.tables name.1) in
    let clash : Some name.0 ≡ None = sym own ∙ number in cc

-- ---- DropDatabase

pub shown-outside : (db : List ℕ) (live : List Live)
    → all_shown (filter (λ (kept : Live). not (bytes_eq db kept.space.db)) live) ≡ outside_of db (all_shown live)
shown-outside db [] = refl
shown-outside db (l ∷ ls) = cases (bytes_eq db l.space.db) refl (shown-outside db ls)
  where
    cases : (b : Bool) → bytes_eq db l.space.db ≡ b
        → all_shown (filter (λ (kept : Live). not (bytes_eq db kept.space.db)) ls) ≡ outside_of db (all_shown ls)
        → all_shown (filter (λ (kept : Live). not (bytes_eq db kept.space.db)) (l ∷ ls)) ≡ outside_of db (all_shown (l ∷ ls))
    cases true e rest = rw e rest
    cases false e rest = rw e (ap (λ ts. shown l ∷ ts) rest)

pub count-drops : (db : List ℕ) (ts : List Table) → length (drops_of db ts) ≡ count_in db ts
count-drops db [] = refl
count-drops db (t ∷ ts) = cases (bytes_eq db t.space.db) refl (count-drops db ts)
  where
    cases : (b : Bool) → bytes_eq db t.space.db ≡ b → length (drops_of db ts) ≡ count_in db ts
        → length (drops_of db (t ∷ ts)) ≡ count_in db (t ∷ ts)
    cases true e rest = rw e (ap (λ n. suc n) rest)
    cases false e rest = rw e rest

-- where there is none, all stay
pub none-outside : (db : List ℕ) (ts : List Table) → count_in db ts ≡ 0 → outside_of db ts ≡ ts
none-outside db [] none = refl
none-outside db (t ∷ ts) none = cases (bytes_eq db t.space.db) refl (none-outside db ts)
  where
    cases : (b : Bool) → bytes_eq db t.space.db ≡ b → (count_in db ts ≡ 0 → outside_of db ts ≡ ts) → outside_of db (t ∷ ts) ≡ t ∷ ts
    cases true e rest = absurd (let clash : suc (count_in db ts) ≡ 0 = rw e at none in cc)
    cases false e rest = rw e (ap (λ us. t ∷ us) (rest (rw e at none)))

plain-drops : (db : List ℕ) (ts : List Table) → map plain_change (drops_of db ts) ≡ drops_of db ts
plain-drops db [] = refl
plain-drops db (t ∷ ts) = cases (bytes_eq db t.space.db) refl (plain-drops db ts)
  where
    cases : (b : Bool) → bytes_eq db t.space.db ≡ b → map plain_change (drops_of db ts) ≡ drops_of db ts
        → map plain_change (drops_of db (t ∷ ts)) ≡ drops_of db (t ∷ ts)
    cases true e rest = rw e (ap (λ cs. change.Drop t.number ∷ cs) rest)
    cases false e rest = rw e rest

-- a table that is apart from those that go stays before them
stays-first : (t : Table) (db : List ℕ) (ts : List Table) (ks : List KeptTable) → IsApart t ts
    → all_changed (drops_of db ts) (kept_table t ∷ ks) ≡ kept_table t ∷ all_changed (drops_of db ts) ks
stays-first t db [] ks apart = refl
stays-first t db (u ∷ us) ks apart = cases (bytes_eq db u.space.db) refl (λ rest. stays-first t db us rest apart.2)
  where
    other : (t.number == u.number) ≡ false
    other = number-swaps t.number u.number ∙ number-apart u.number t.number apart.1

    cases : (b : Bool) → bytes_eq db u.space.db ≡ b
        → ((rest : List KeptTable) → all_changed (drops_of db us) (kept_table t ∷ rest) ≡ kept_table t ∷ all_changed (drops_of db us) rest)
        → all_changed (drops_of db (u ∷ us)) (kept_table t ∷ ks) ≡ kept_table t ∷ all_changed (drops_of db (u ∷ us)) ks
    cases true e rest =
        let head : without_first (keeping.has_number u.number) (kept_table t ∷ ks)
        ≡ kept_table t ∷ without_first (keeping.has_number u.number) ks = rw other refl in
        rw e (ap (all_changed (drops_of db us)) head ∙ rest (without_first (keeping.has_number u.number) ks))
    cases false e rest = rw e (rest ks)

went : (next : ℕ) (db : List ℕ) (ts : List Table) → SoundTables next ts
    → all_changed (drops_of db ts) (kept_tables ts) ≡ kept_tables (outside_of db ts)
went next db [] sound = refl
went next db (t ∷ ts) sound = cases (bytes_eq db t.space.db) refl (went next db ts sound.2)
  where
    cases : (b : Bool) → bytes_eq db t.space.db ≡ b → all_changed (drops_of db ts) (kept_tables ts) ≡ kept_tables (outside_of db ts)
        → all_changed (drops_of db (t ∷ ts)) (kept_tables (t ∷ ts)) ≡ kept_tables (outside_of db (t ∷ ts))
    cases true e rest =
        let head : without_first (keeping.has_number t.number) (kept_tables (t ∷ ts)) ≡ kept_tables ts = rw (number-same t.number) refl in
        rw e (ap (all_changed (drops_of db ts)) head ∙ rest)
    cases false e rest = rw e (stays-first t db ts (kept_tables ts) sound.1 ∙ ap (λ ks. kept_table t ∷ ks) rest)

pub database-none : (s : Tables) (db : List ℕ) (count : ℕ) → count ≡ count_in db s.live → count ≡ 0 → (faults : ℕ)
    → Ran faults faults s s (call.DropDatabase db) (reply.Dropped 0)
database-none s db count is none faults =
    let zero_in : count_in db s.live ≡ 0 = sym is ∙ none in
    record {
      replied = (ap (λ n. reply.Dropped n) (sym zero_in), refl);
      after = ap (λ (ts : List Table). record { live = ts; next = s.next }) (sym (none-outside db s.live zero_in));
    }

pub database-ran : (live after : List Live) (next count : ℕ) (db : List ℕ) (before now : ℕ) → count ≡ count_in db (all_shown live)
    → all_shown after ≡ outside_of db (all_shown live) → now ≡ before
    → Ran before now (record { live = all_shown live; next = next }) (record { live = all_shown after; next = next }) (call.DropDatabase
    db) (reply.Dropped count)
database-ran live after next count db before now is list same =
    rw (same, list) (record { replied = (ap (λ n. reply.Dropped n) is, refl); after = refl })

pub database-tells : (live after : List Live) (next : ℕ) (db : List ℕ) (changes : List Change) (told new : Option (List KeptTable)) (made
    : Unit {0}) → Sound (record { live = all_shown live; next = next })
    → changes ≡ drops_of db (all_shown live) → all_shown after ≡ outside_of db (all_shown live)
    → Goes told new changes (Ok made) → Tells told (record { live = all_shown live; next = next })
    → Tells new (record { live = all_shown after; next = next })
database-tells live after next db changes told new made sound is list goes tells =
    told-changed told new (drops_of db (all_shown live)) made (record { live = all_shown live; next = next })
    (record { live = all_shown after; next = next })
    (subst (λ (cs : List Change). Goes told new cs (Ok made)) is goes) tells (plain-drops db (all_shown live))
    (went next db (all_shown live) sound.tables ∙ ap kept_tables (sym list))

kept-count : (n : ℕ) → (n ≡ 0 → ⊥) → is_kept (reply.Dropped n) ≡ true
kept-count zero some = absurd (some refl)
kept-count (suc n) some = refl

pub database-refused : (s : Tables) (db : List ℕ) (count before now : ℕ) (refused : KeepError) → count ≡ count_in db s.live
    → (count ≡ 0 → ⊥)
    → HasCause before now (failure_of {T = Unit {0}} (Err refused)) → Ran before now s s (call.DropDatabase db) (refusal_of refused)
database-refused s db count before now refused is some cause =
    refused-ran s (call.DropDatabase db) before now refused (ap (λ n. is_kept (reply.Dropped n)) (sym is) ∙ kept-count count some) cause
