-- What a call comes to, and what is told after it.
use Rattle.std.proofs.Common.{◌≡◌, ℕ, zero, suc, ◌+◌, ◌-◌, ◌^◌, nat_lt, ◌<◌, ◌≤◌, ◌==◌, Bool, true, false, List, [], ◌∷◌, ◌++◌, length, get_or, set, Option, None, Some, Ok, Err, refl, ap, sym, ◌∙◌, subst, arith}
use Rattle.std.proofs.lemmas.Bool.{or_parts}
use Rattle.std.proofs.lemmas.Bool.Decides.{nat_tests}
use Rattle.std.specs.Str.{bytes_eq}
use Rattle.jsonb_contain.specs.declared.cond.Cond.{Cond}
use Rattle.bson_values.specs.declared.space.Space.{Space}
use Rattle.outside.specs.declared.kept.KeptTable.{KeptTable}
use Rattle.outside.specs.declared.kept.Change.{Change}
use Rattle.outside.specs.declared.keeper.KeepError.{KeepError}
use Rattle.outside.specs.declared.keeper.KeepError.TheVariants.{Failed, NoMemory}
use Rattle.outside.specs.Causes.{HasCause, failure_of}
use Rattle.outside.specs.Changes.{Goes}
use Rattle.table_rows.specs.declared.row.Row.{Row}
use Rattle.table_rows.specs.declared.listed.Placed.{Placed}
use Rattle.table_rows.specs.declared.listed.Listed.{Listed}
use Rattle.table_rows.specs.Rows.{above, has_key, selected, removed}
use Rattle.table_words.specs.declared.call.Edit.{Edit}
use Rattle.table_words.specs.declared.call.TableCall.{TableCall}
use Rattle.table_words.specs.declared.call.TableCall.TheVariants as call
use Rattle.table_words.specs.declared.call.TableReply.{TableReply}
use Rattle.table_words.specs.declared.call.TableReply.TheVariants as reply
use Rattle.table_words.specs.Tables.{Table, Tables, named, numbered, put}
use Rattle.table_words.specs.Sound.{IsSound, SoundEdits, SoundAdded, SoundTable, Sound, accepted}
use Rattle.table_words.specs.Step.{Meant, edited, added_at, has_added, changed, are_spent, selects, inserts_numbered, commits, meant, replies, tables_after, is_kept}
use Rattle.table_words.proofs.Finds.{number-same, has-number, sound-found, numbered-named}
use Rattle.table_words.proofs.Rows.{bytes-same}
use Rattle.table_words.proofs.Goes.{goes-after}
use Rattle.table_store.specs.declared.live.Live.{Live}
use Rattle.table_store.specs.Found.{shown, all_shown, Stands}
use Rattle.table_store.specs.Kept.{kept_tables, Tells}
use Rattle.table_store.specs.Edits.{changes_for, others}
use Rattle.table_store.specs.Ran.{Ran, IsReady, refusal_of}
use Rattle.table_store.proofs.Changing.{kept-for}
use Rattle.table_store.proofs.Edited.{sound-distinct, sound-above, others-last}
use Rattle.table_store.proofs.Keeping.{told-changed}
use Rattle.table_store.proofs.Readings.{plain-for}

-- sound tables after a call
pub ready-after : (told : Option (List KeptTable)) (before after : ℕ) (s t : Tables) (c : TableCall) (r : TableReply) → Sound s → accepted c
    → Ran before after s t c r → Tells told t → IsReady told t
ready-after told before after s t c r sound may ran tells =
    record { sound = subst Sound (sym ran.after) (goes-after s c r sound may).sound; tells = tells }

-- what is told after changes that the keeper did not make
pub told-kept : (old new : Option (List KeptTable)) (changes : List Change) (refused : KeepError) (s : Tables)
    → Goes old new changes (Err refused) → Tells old s → Tells new s
told-kept None new changes refused s goes told = subst (λ o. Tells o s) (sym goes) tt
told-kept (Some old) None changes refused s goes told = tt
told-kept (Some old) (Some new) changes refused s goes told = subst (λ (ts : List KeptTable). Tells (Some ts) s) (sym goes) told

-- the keeper refused
pub refused-ran : (s : Tables) (c : TableCall) (before after : ℕ) (refused : KeepError) → is_kept (meant s c).reply ≡ true
    → HasCause before after (failure_of {T = Unit {0}} (Err refused)) → Ran before after s s c (refusal_of refused)
refused-ran s c before after Failed kept cause = record { replied = (kept, cause.failed); after = refl }
refused-ran s c before after NoMemory kept cause = record { replied = cause.kept; after = refl }

-- two calls that mean the same
pub ran-as : (s t : Tables) (c d : TableCall) (r : TableReply) (before now : ℕ) → meant s c ≡ meant s d → Ran before now s t c r
    → Ran before now s t d r
ran-as s t c d reply.NoMemory before now is ran = record { replied = ran.replied; after = ran.after }
ran-as s t c d reply.Fault before now is ran =
    record { replied = (ap (λ (m : Meant). is_kept m.reply) (sym is) ∙ ran.replied.0, ran.replied.1); after = ran.after }
ran-as s t c d r before now is ran =
    record {
      replied = (ran.replied.0 ∙ ap (λ (m : Meant). m.reply) is, ran.replied.1);
      after = ran.after
          ∙ ap (λ (m : Meant). m.tables) is;
    }

-- ---- Select

same-selects : {s : Tables} (cond : Cond) (o : Option Table) → (selects cond reply.Gone s o).tables ≡ s
same-selects cond None = refl
same-selects cond (Some t) = refl

pub selected-ran : (s : Tables) (n stamp : ℕ) (cond : Cond) (rows : List Row) (t : Table) → numbered n s.live ≡ Some t
    → rows ≡ selected cond t.rows → stamp ≡ t.stamp
    → (faults : ℕ) → Ran faults faults s s (call.Select n cond) (reply.Rows n stamp rows)
selected-ran s n stamp cond rows t live are is faults =
    let number : n ≡ t.number = sym (has-number n t s.live live) in record {
      replied = (rw live (λ i. reply.Rows (number i) (is i) (are i)), refl);
      after = sym (same-selects cond (numbered n s.live));
    }

-- a Select by the name of a live table, once its number is known
pub select-named : (s : Tables) (space : Space) (cond : Cond) (n : ℕ) (t : Table) → Sound s → named space s.live ≡ Some t → t.number ≡ n
    → meant s (call.Select n cond) ≡ meant s (call.SelectNamed space cond)
select-named s space cond n t sound live is =
    let own : numbered n s.live ≡ Some t =
    subst (λ k. numbered k s.live ≡ Some t) is (numbered-named s.next space t s.live sound.tables live) in
    ap (selects cond reply.Gone s) own ∙ ap (selects cond reply.Absent s) (sym live)

-- ---- a change of a live table

pub not-spent : (next : ℕ) → next ≤ 9223372036854775807 → nat_lt (2 ^ 63 - 1) (next + 1 - 1) ≡ false
not-spent next le = grind (arith, nat_tests)

-- the tables, where the one at a place was changed
abbrev pub Changed : List Live → ℕ → ℕ → Live → Listed → List Edit → Option Row → Type 0
Changed live next i old table es added = table ≡ record old.table { stamp = next; rows = edited es old.table.rows ++ added_at next added }

pub record Landed (live : List Live) (next n i : ℕ) (old : Live) (table : Listed) (es : List Edit) (added : Option Row) : Type 0 where
  pub there : numbered (shown old).number (all_shown live) ≡ Some (shown old)
  pub number : n ≡ (shown old).number
  pub over : all_shown (set live i (record { space = old.space; table = table }))
      ≡ put (record (shown old) { stamp = next; rows = edited es old.table.rows ++ added_at next added }) (all_shown live)

pub landed : (live : List Live) (next n i : ℕ) (old : Live) (table : Listed) (es : List Edit) (added : Option Row) → Stands n live i
    → old ≡ get_or live i old
    → Changed live next i old table es added → Landed live next n i old table es added
landed live next n i old table es added at is came =
    let there : numbered n (all_shown live) ≡ Some (shown old) = at.there old ∙ ap (λ (x : Live). Some (shown x)) (sym is) in
    let number : (shown old).number ≡ n = has-number n (shown old) (all_shown live) there in
    let new : Live = record { space = old.space; table = table } in
    let over : all_shown (set live i new) ≡ put (shown new) (all_shown live) = at.over new (ap (λ (x : Listed). x.number) came ∙ number) in
    record {
      there = subst (λ k. numbered k (all_shown live) ≡ Some (shown old)) (sym number) there;
      number = sym number;
      over = over ∙ ap (λ (x : Listed). put (shown (record { space = old.space; table = x })) (all_shown live)) came;
    }

-- the rows of a table that is found are sound
pub sound-at : (live : List Live) (next n i : ℕ) (old : Live) → Stands n live i → old ≡ get_or live i old
    → Sound (record { live = all_shown live; next = next }) → SoundTable next (shown old)
sound-at live next n i old at is sound =
    sound-found next n (shown old) (all_shown live) sound.tables (at.there old ∙ ap (λ (x : Live). Some (shown x)) (sym is))

pub above-at : (live : List Live) (next n i : ℕ) (old : Live) → Stands n live i → old ≡ get_or live i old
    → Sound (record { live = all_shown live; next = next }) → above next old.table.rows ≡ true
above-at live next n i old at is sound = sound-above next old.table.rows (sound-at live next n i old at is sound).rows

inserted : (s : Tables) (t : Table) (row : Row) → numbered t.number s.live ≡ Some t → has_key row.key t.rows ≡ false
    → are_spent 1 s ≡ false → (faults : ℕ)
    → Ran faults faults s (changed t [] (Some row) s) (call.Insert t.number row) (reply.Inserted t.number s.next)
inserted s t row live none left faults =
    record { replied = (rw (live, none, left) refl, refl); after = sym (after (numbered t.number s.live) live) }
  where
    after : (o : Option Table) → o ≡ Some t → (inserts_numbered row s o).tables ≡ changed t [] (Some row) s
    after None e = absurd cc
    after (Some u) e = let same : u ≡ t = cc in
        subst (λ (x : Table). (inserts_numbered row s (Some x)).tables ≡ changed t [] (Some row) s) (sym same) (rw (none, left) refl)

committed : (s : Tables) (t : Table) (es : List Edit) (added : Option Row) → numbered t.number s.live ≡ Some t
    → has_added added t.rows ≡ false → are_spent 1 s ≡ false → (faults : ℕ)
    → Ran faults faults s (changed t es added s) (call.Commit t.number t.stamp es added) (reply.Done s.next)
committed s t es added live none left faults =
    record { replied = (rw (live, number-same t.stamp, none, left) refl, refl); after = sym (after (numbered t.number s.live) live) }
  where
    after : (o : Option Table) → o ≡ Some t → (commits t.stamp es added s o).tables ≡ changed t es added s
    after None e = absurd cc
    after (Some u) e = let same : u ≡ t = cc in
        subst (λ (x : Table). (commits t.stamp es added s (Some x)).tables ≡ changed t es added s) (sym same)
        (rw (number-same t.stamp, none, left) refl)

pub insert-ran : (live : List Live) (next n i : ℕ) (old : Live) (table : Listed) (row : Row) (before now : ℕ) → Stands n live i
    → old ≡ get_or live i old
    → Changed live next i old table [] (Some row) → has_key row.key old.table.rows ≡ false → next ≤ 9223372036854775807 → now ≡ before
    → Ran before now (record { live = all_shown live; next = next }) (record
    { live = all_shown (set live i (record { space = old.space; table = table })); next = next + 1 })
    (call.Insert n row) (reply.Inserted n next)
insert-ran live next n i old table row before now at is came none le same =
    let l = landed live next n i old table [] (Some row) at is came in
    rw (same, l.number, l.over) (inserted (record { live = all_shown live; next = next }) (shown old) row l.there none
    (not-spent next le) before)

pub commit-ran : (live : List Live) (next n i stamp : ℕ) (old : Live) (table : Listed) (es : List Edit) (added : Option Row) (before now
    : ℕ) → Stands n live i → old ≡ get_or live i old
    → Changed live next i old table es added → stamp ≡ old.table.stamp → has_added added old.table.rows ≡ false
    → next ≤ 9223372036854775807 → now ≡ before
    → Ran before now (record { live = all_shown live; next = next }) (record
    { live = all_shown (set live i (record { space = old.space; table = table })); next = next + 1 })
    (call.Commit n stamp es added) (reply.Done next)
commit-ran live next n i stamp old table es added before now at is came stamped none le same =
    let l = landed live next n i old table es added at is came in
    rw (same, l.number, l.over, stamped)
    (committed (record { live = all_shown live; next = next }) (shown old) es added l.there none (not-spent next le) before)

pub change-tells : (live : List Live) (next n i : ℕ) (old : Live) (table : Listed) (es : List Edit) (added : Option Row) (told new :
    Option (List KeptTable)) (made : Unit {0})
    → Sound (record { live = all_shown live; next = next }) → SoundEdits es → SoundAdded added → Stands n live i → old ≡ get_or live i old
    → Changed live next i old table es added → has_added added old.table.rows ≡ false
    → Goes told new (changes_for old.table.number next old.table.rows es added) (Ok made)
    → Tells told (record { live = all_shown live; next = next })
    → Tells new (record { live = all_shown (set live i (record { space = old.space; table = table })); next = next + 1 })
change-tells live next n i old table es added told new made sound edits last at is came none goes tells =
    let l = landed live next n i old table es added at is came in
    let mine = sound-at live next n i old at is sound in
    told-changed told new (changes_for old.table.number next old.table.rows es added) made (record { live = all_shown live; next = next })
    (record { live = all_shown (set live i (record { space = old.space; table = table })); next = next + 1 }) goes tells
    (plain-for old.table.number next old.table.rows es added edits last)
    (kept-for (shown old) next es added (all_shown live) l.there (sound-distinct next old.table.rows mine.rows) none
    ∙ ap kept_tables (sym l.over))

-- a row that was put last and is taken out again
put-back : (p : Placed) (ps : List Placed) → has_key p.row.key ps ≡ false → removed p.row.key (ps ++ p ∷ []) ≡ ps
put-back p [] none = rw (bytes-same p.row.key) refl
put-back p (q ∷ qs) none = let parts = or_parts (bytes_eq p.row.key q.row.key) (has_key p.row.key qs) none in
    rw parts.0 (ap (λ rest. q ∷ rest) (put-back p qs parts.1))

pub undone : (t u v : Listed) (key : List ℕ) (place : ℕ) (row : Row) → has_key row.key t.rows ≡ false → key ≡ row.key
    → u ≡ record t { rows = t.rows ++ record { place = place; row = row } ∷ [] } → v ≡ record u { rows = removed key u.rows } → v ≡ t
undone t u v key place row none is came went =
    let p : Placed = record { place = place; row = row } in
    let over : record u { rows = removed key u.rows }
    ≡ record t { rows = removed key (t.rows ++ p ∷ []) } = ap (λ (x : Listed). record x { rows = removed key x.rows }) came in
    let back : record t { rows = removed key (t.rows ++ p ∷ []) }
    ≡ t = ap (λ rows. record t { rows = rows }) (ap (λ k. removed k (t.rows ++ p ∷ [])) is ∙ put-back p t.rows none) in
    went ∙ over ∙ back

-- a table that got a row last, then the edits of other keys, then its stamp
pub done : (t u v w : Listed) (es : List Edit) (key : List ℕ) (stamp : ℕ) (row : Row) → has_key row.key t.rows ≡ false → key ≡ row.key
    → u ≡ record t { rows = t.rows ++ record { place = stamp; row = row } ∷ [] } → v ≡ record u { rows = edited (others key es) u.rows }
    → w ≡ record v { stamp = stamp }
    → w ≡ record t { stamp = stamp; rows = edited es t.rows ++ record { place = stamp; row = row } ∷ [] }
done t u v w es key stamp row none is came went stamped =
    let q : Placed = record { place = stamp; row = row } in
    let over : record u { rows = edited (others key es) u.rows }
    ≡ record t { rows = edited (others key es) (t.rows ++ q ∷ []) } =
    ap (λ (x : Listed). record x { rows = edited (others key es) x.rows }) came in
    let last : edited (others key es) (t.rows ++ q ∷ [])
    ≡ edited es t.rows ++ q ∷ [] = ap (λ k. edited (others k es) (t.rows ++ q ∷ [])) is ∙ others-last es t.rows q none in
    stamped ∙ ap (λ (x : Listed). record x { stamp = stamp }) (went ∙ over ∙ ap (λ rows. record t { rows = rows }) last)

same-item : (live : List Live) (i : ℕ) (old : Live) → old ≡ get_or live i old → set live i old ≡ live
same-item [] i old is = refl
same-item (l ∷ ls) zero old is = ap (λ x. x ∷ ls) is
same-item (l ∷ ls) (suc i) old is = ap (λ xs. l ∷ xs) (same-item ls i old is)

-- the keeper refused, and the table stayed
pub told-same : (live : List Live) (next n i : ℕ) (old : Live) (table : Listed) (told new : Option (List KeptTable)) (changes : List
    Change) (refused : KeepError) → Stands n live i → old ≡ get_or live i old
    → table ≡ old.table → Goes told new changes (Err refused) → Tells told (record { live = all_shown live; next = next })
    → Tells new (record { live = all_shown (set live i (record { space = old.space; table = table })); next = next })
told-same live next n i old table told new changes refused at is same goes tells =
    let stays : set live i (record { space = old.space; table = table })
    ≡ live = ap (λ (x : Listed). set live i (record { space = old.space; table = x })) same ∙ same-item live i old is in
    subst (λ (ls : List Live). Tells new (record { live = all_shown ls; next = next })) (sym stays)
    (told-kept told new changes refused (record { live = all_shown live; next = next }) goes tells)
