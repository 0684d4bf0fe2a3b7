-- Each step goes from sound tables to sound tables, and keeps the tables with older stamps.
use Rattle.std.proofs.Common.{◌≡◌, ℕ, length, length-append, ◌<◌, ◌≤◌, ◌+◌, ◌==◌, Bool, true, false, List, [], ◌∷◌, ◌++◌, Option, None, Some, refl, ap, sym, ◌∙◌, subst, arith}
use Rattle.std.proofs.lemmas.Bool.{ltb-false}
use Rattle.std.proofs.lemmas.Bool.Decides.{nat_tests}
use Rattle.bson_values.specs.declared.space.Space.{Space}
use Rattle.table_rows.specs.declared.row.Row.{Row}
use Rattle.table_rows.specs.declared.listed.Placed.{Placed}
use Rattle.jsonb_contain.specs.declared.cond.Cond.{Cond}
use Rattle.history_lock.specs.declared.entry.Entry.{Entry}
use Rattle.history_lock.specs.Legal.{legal, replay}
use Rattle.table_words.specs.declared.call.Edit.{Edit}
use Rattle.table_words.specs.declared.call.TableCall.{TableCall}
use Rattle.table_words.specs.declared.call.TableCall.TheVariants as call
use Rattle.table_words.specs.declared.call.TableReply.{TableReply}
use Rattle.table_words.specs.declared.call.TableReply.TheVariants as reply
use Rattle.naming.specs.Names.{is_valid}
use Rattle.table_rows.specs.Rows.{has_key}
use Rattle.table_words.specs.Tables.{Table, Tables, named, numbered, put}
use Rattle.table_words.specs.Step.{Meant, same, refused, changed, created, created_with, selects, inserts, inserts_named, inserts_numbered, commits, creates, drops, meant, tables_after, has_added, is_full, are_spent, tstep}
use Rattle.table_words.specs.Sound.{IsSound, SoundEdits, SoundAdded, accepted, Sound, SoundTable, SoundTables}
use Rattle.table_words.specs.Kept.{Kept}
use Rattle.table_words.proofs.Finds.{numbered-named, has-number, sound-found}
use Rattle.table_words.proofs.Rows
use Rattle.table_words.proofs.Changes.{sound-put, found-put, sound-new, found-last, sound-without, found-without, sound-outside, found-outside, length-put, length-without, length-outside}

pub record Goes (s t : Tables) : Type 0 where
  pub sound : Sound t
  pub kept : Kept s t

pub goes-none : (s : Tables) → Sound s → Goes s s
goes-none s sound = record {
  sound = sound;
  kept = record { next = omega arith; table = λ n t found less. found; space = λ n t found less. (t, found, refl) };
}

pub kept-on : (a b c : Tables) → Kept a b → Kept b c → Kept a c
kept-on a b c p q = record {
  next = let x = p.next in let y = q.next in omega arith;
  table = λ n t found less. p.table n t (q.table n t found (let x = p.next in omega (arith, less))) less;
  space = λ n t found less. let one = q.space n t found (let x = p.next in omega (arith, less)) in
      let two = p.space n one.0 one.1 less in (two.0, two.1, two.2 ∙ one.2);
}

-- of a table of refusals one comes, or none
abbrev AllFalse : List (Bool × TableReply) → Type 0
AllFalse [] = Unit {0}
AllFalse (r ∷ rs) = (r.0 ≡ false) × AllFalse rs

pub by-refusals : (P : Tables → Type 0) (s : Tables) (rows : List (Bool × TableReply)) (done : Meant) → P s
    → (AllFalse rows → P done.tables) → P (refused s rows done).tables
by-refusals P s [] done stays goes = goes tt
by-refusals P s (r ∷ rs) done stays goes = cases r.0 refl (λ rest. by-refusals P s rs done stays rest)
  where
    cases : (b : Bool) → r.0 ≡ b → ((AllFalse rs → P done.tables) → P (refused s rs done).tables) → P (refused s (r ∷ rs) done).tables
    cases true e rest = rw e stays
    cases false e rest = rw e (rest (λ more. goes (e, more)))

goes-changed : (s : Tables) (t : Table) (edits : List Edit) (added : Option Row) → Sound s → numbered t.number s.live ≡ Some t
    → SoundEdits edits → SoundAdded added → has_added added t.rows ≡ false → Goes s (changed t edits added s)
goes-changed s t edits added sound found are is none =
    let mine = sound-found s.next t.number t s.live sound.tables found in
    record {
      sound = record {
        tables = sound-put s.next (s.next + 1) s.next t _ s.live sound.tables found (omega arith) (record {
          rows = Rows.sound-added s.next edits added t.rows are is none mine.rows;
          number = let less = mine.number in omega (arith, less);
          stamp = omega arith;
          space = mine.space;
        });
        few = rw (length-put _ s.live) sound.few;
      };
      kept = record {
        next = omega arith;
        table = λ n w there less. found-put n _ w s.live there
            (λ same. let late = ap (λ (x : Table). x.stamp) same in absurd (omega (arith, late, less))) (λ old. old);
        space = λ n w there less. found-put n _ w s.live there
            (λ same. (
              t,
              subst (λ k. numbered k s.live ≡ Some t) (ap (λ (x : Table). x.number) same ∙ has-number n w _ there) found,
              ap (λ (x : Table). x.space) same,
            )) (λ old. (w, old, refl));
      };
    }

-- there is room for one table more
one-more : (s : Tables) (t : Table) → is_full s ≡ false → length (s.live ++ t ∷ []) ≤ 10000
one-more s t room = let less : length s.live < 10000 = grind (arith, nat_tests) in simp length-append (omega (arith, less))

goes-created : (space : Space) (s : Tables) → Sound s → is_valid space ≡ true → is_full s ≡ false → named space s.live ≡ None
    → Goes s (created space s)
goes-created space s sound valid room none = record {
  sound = record {
    tables = sound-new s.next (s.next + 1) _ s.live sound.tables none (omega arith) (omega arith)
        (record { rows = tt; number = omega arith; stamp = omega arith; space = valid });
    few = one-more s _ room;
  };
  kept = record {
    next = omega arith;
    table = λ n w there less. found-last n _ w s.live there
        (λ same. let late = ap (λ (x : Table). x.stamp) same in absurd (omega (arith, late, less))) (λ old. old);
    space = λ n w there less. found-last n _ w s.live there
        (λ same. let late = ap (λ (x : Table). x.number) same ∙ has-number n w _ there in absurd (omega (arith, late, less)))
        (λ old. (w, old, refl));
  };
}

goes-created-with : (space : Space) (row : Row) (s : Tables) → Sound s → is_valid space ≡ true → IsSound row → is_full s ≡ false
    → named space s.live ≡ None → Goes s (created_with space row s)
goes-created-with space row s sound valid is room none = record {
  sound = record {
    tables = sound-new s.next (s.next + 2) _ s.live sound.tables none (omega arith) (omega arith)
        (record { rows = (is, refl, omega arith, tt); number = omega arith; stamp = omega arith; space = valid });
    few = one-more s _ room;
  };
  kept = record {
    next = omega arith;
    table = λ n w there less. found-last n _ w s.live there
        (λ same. let late = ap (λ (x : Table). x.stamp) same in absurd (omega (arith, late, less))) (λ old. old);
    space = λ n w there less. found-last n _ w s.live there
        (λ same. let late = ap (λ (x : Table). x.number) same ∙ has-number n w _ there in absurd (omega (arith, late, less)))
        (λ old. (w, old, refl));
  };
}

goes-inserts : (row : Row) (s : Tables) (t : Table) → Sound s → IsSound row → numbered t.number s.live ≡ Some t
    → Goes s (inserts row s t).tables
goes-inserts row s t sound is found = by-refusals (Goes s) s ((has_key row.key t.rows, reply.Duplicate) ∷ (are_spent 1 s, reply.Spent) ∷ [])
    (record { reply = reply.Inserted t.number s.next; tables = changed t [] (Some row) s }) (goes-none s sound)
    (λ none. goes-changed s t [] (Some row) sound found tt is none.0)

goes-inserts-named : (space : Space) (row : Row) (s : Tables) (o : Option Table) → Sound s → is_valid space ≡ true → IsSound row
    → named space s.live ≡ o → Goes s (inserts_named space row s o).tables
goes-inserts-named space row s (Some t) sound valid is found =
    goes-inserts row s t sound is (numbered-named s.next space t s.live sound.tables found)
goes-inserts-named space row s None sound valid is found =
    by-refusals (Goes s) s ((is_full s, reply.Full) ∷ (are_spent 2 s, reply.Spent) ∷ [])
    (record { reply = reply.Inserted s.next (s.next + 1); tables = created_with space row s }) (goes-none s sound)
    (λ none. goes-created-with space row s sound valid is none.0 found)

itself : (n : ℕ) (s : Tables) (t : Table) → numbered n s.live ≡ Some t → numbered t.number s.live ≡ Some t
itself n s t found = subst (λ k. numbered k s.live ≡ Some t) (sym (has-number n t s.live found)) found

goes-inserts-numbered : (n : ℕ) (row : Row) (s : Tables) (o : Option Table) → Sound s → IsSound row → numbered n s.live ≡ o
    → Goes s (inserts_numbered row s o).tables
goes-inserts-numbered n row s None sound is found = goes-none s sound
goes-inserts-numbered n row s (Some t) sound is found = goes-inserts row s t sound is (itself n s t found)

goes-commits : (n stamp : ℕ) (edits : List Edit) (added : Option Row) (s : Tables) (o : Option Table) → Sound s → SoundEdits edits
    → SoundAdded added → numbered n s.live ≡ o → Goes s (commits stamp edits added s o).tables
goes-commits n stamp edits added s None sound are is found = goes-none s sound
goes-commits n stamp edits added s (Some t) sound are is found = cases (stamp == t.stamp) refl
  where
    cases : (b : Bool) → (stamp == t.stamp) ≡ b → Goes s (commits stamp edits added s (Some t)).tables
    cases true e = rw e (by-refusals (Goes s) s ((has_added added t.rows, reply.Duplicate) ∷ (are_spent 1 s, reply.Spent) ∷ [])
        (record { reply = reply.Done s.next; tables = changed t edits added s }) (goes-none s sound)
        (λ none. goes-changed s t edits added sound (itself n s t found) are is none.0))
    cases false e = rw e (goes-none s sound)

goes-creates : (space : Space) (s : Tables) (o : Option Table) → Sound s → is_valid space ≡ true → named space s.live ≡ o
    → Goes s (creates space s o).tables
goes-creates space s (Some t) sound valid found = goes-none s sound
goes-creates space s None sound valid found = by-refusals (Goes s) s ((is_full s, reply.Full) ∷ (are_spent 1 s, reply.Spent) ∷ [])
    (record { reply = reply.Inserted s.next s.next; tables = created space s }) (goes-none s sound)
    (λ none. goes-created space s sound valid none.0 found)

le-on : {a b c : ℕ} → a ≤ b → b ≤ c → a ≤ c
le-on p q = omega (arith, p, q)

goes-drops : (s : Tables) (o : Option Table) → Sound s → Goes s (drops s o).tables
goes-drops s None sound = goes-none s sound
goes-drops s (Some t) sound = record {
  sound = record { tables = sound-without s.next t.number s.live sound.tables; few = le-on (length-without t.number s.live) sound.few };
  kept = record {
    next = omega arith;
    table = λ n w there less. found-without s.next n t.number w s.live sound.tables there;
    space = λ n w there less. (w, found-without s.next n t.number w s.live sound.tables there, refl);
  };
}

goes-selects : (cond : Cond) (lacking : TableReply) (s : Tables) (o : Option Table) → Sound s → Goes s (selects cond lacking s o).tables
goes-selects cond lacking s None sound = goes-none s sound
goes-selects cond lacking s (Some t) sound = goes-none s sound

pub goes-meant : (s : Tables) (c : TableCall) → Sound s → accepted c → Goes s (meant s c).tables
goes-meant s (call.SelectNamed space cond) sound may = goes-selects cond reply.Absent s (named space s.live) sound
goes-meant s (call.Select n cond) sound may = goes-selects cond reply.Gone s (numbered n s.live) sound
goes-meant s (call.InsertNamed space row) sound may = goes-inserts-named space row s (named space s.live) sound may.0 may.1 refl
goes-meant s (call.Insert n row) sound may = goes-inserts-numbered n row s (numbered n s.live) sound may refl
goes-meant s (call.Commit n stamp edits added) sound may = goes-commits n stamp edits added s (numbered n s.live) sound may.0 may.1 refl
goes-meant s (call.Create space) sound may = goes-creates space s (named space s.live) sound may refl
goes-meant s (call.Drop space) sound may = goes-drops s (named space s.live) sound
goes-meant s (call.DropDatabase db) sound may = record {
  sound = record { tables = sound-outside s.next db s.live sound.tables; few = le-on (length-outside db s.live) sound.few };
  kept = record {
    next = omega arith;
    table = λ n w there less. found-outside s.next n db w s.live sound.tables there;
    space = λ n w there less. (w, found-outside s.next n db w s.live sound.tables there, refl);
  };
}
goes-meant s (call.ListTables db) sound may = goes-none s sound
goes-meant s call.ListDatabases sound may = goes-none s sound

pub goes-after : (s : Tables) (c : TableCall) (r : TableReply) → Sound s → accepted c → Goes s (tables_after s c r)
goes-after s c reply.NoMemory sound may = goes-none s sound
goes-after s c reply.Fault sound may = goes-none s sound
goes-after s c (reply.Rows n stamp rows) sound may = goes-meant s c sound may
goes-after s c reply.Absent sound may = goes-meant s c sound may
goes-after s c reply.Gone sound may = goes-meant s c sound may
goes-after s c (reply.Moved stamp) sound may = goes-meant s c sound may
goes-after s c reply.Duplicate sound may = goes-meant s c sound may
goes-after s c (reply.Inserted n stamp) sound may = goes-meant s c sound may
goes-after s c (reply.Done stamp) sound may = goes-meant s c sound may
goes-after s c (reply.Dropped count) sound may = goes-meant s c sound may
goes-after s c reply.Exists sound may = goes-meant s c sound may
goes-after s c (reply.Names names) sound may = goes-meant s c sound may
goes-after s c reply.Spent sound may = goes-meant s c sound may
goes-after s c reply.Full sound may = goes-meant s c sound may

-- and so does every legal history
pub goes-history : (s : Tables) (n : ℕ) (h : List (Entry TableCall TableReply)) → Sound s → legal tstep tables_after s n h
    → Goes s (replay tables_after s h)
goes-history s n [] sound lawful = goes-none s sound
goes-history s n (e ∷ es) sound lawful =
    let one = goes-after s e.call e.reply sound lawful.1.may in
    let rest = goes-history (tables_after s e.call e.reply) e.after es one.sound lawful.2 in
    record { sound = rest.sound; kept = kept-on s (tables_after s e.call e.reply) (replay tables_after s (e ∷ es)) one.kept rest.kept }
