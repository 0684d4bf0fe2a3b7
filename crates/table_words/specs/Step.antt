-- One call on tables.
use Rattle.std.specs.Prelude.{ℕ, ◌≡◌, ◌+◌, ◌-◌, ◌^◌, ◌==◌, ◌≤◌, zero, suc, min, Bool, true, false, ◌&&◌, if◌then◌else◌, List, [], ◌∷◌, ◌++◌, length, Option, None, Some, nat_lt, nat_le}
use Rattle.bson_values.specs.declared.space.Space.{Space}
use Rattle.table_rows.specs.declared.row.Row.{Row}
use Rattle.table_rows.specs.declared.listed.Placed.{Placed}
use Rattle.jsonb_contain.specs.declared.cond.Cond.{Cond}
use Rattle.table_words.specs.declared.call.Edit.{Edit}
use Rattle.table_words.specs.declared.call.Edit.TheVariants.{Replace, Remove}
use Rattle.table_words.specs.declared.call.TableCall.{TableCall}
use Rattle.table_words.specs.declared.call.TableCall.TheVariants as call
use Rattle.table_words.specs.declared.call.TableReply.{TableReply}
use Rattle.table_words.specs.declared.call.TableReply.TheVariants as reply
use Rattle.table_rows.specs.Rows.{has_key, selected, replaced, removed}
use Rattle.table_words.specs.Tables.{Table, Tables, MOST_TABLES, LAST_NUMBER, named, numbered, put, without, outside_of, count_in, names_in, databases}
use Rattle.table_words.specs.Sound.{accepted}
use Rattle.outside.specs.Causes.{Rose}

-- so many numbers, the first of which is given next, would go past the last
abbrev pub are_spent : ℕ → Tables → Bool
are_spent count s = nat_lt LAST_NUMBER (s.next + count - 1)

abbrev pub is_full : Tables → Bool
is_full s = nat_le MOST_TABLES (length s.live)

-- a reply, and the tables after it
pub record Meant : Type 0 where
  pub reply : TableReply
  pub tables : Tables

-- a reply that changes nothing
abbrev pub same : TableReply → Tables → Meant
same r s = record { reply = r; tables = s }

-- the first of these refusals, and else this
abbrev pub refused : Tables → List (Bool × TableReply) → Meant → Meant
refused s [] done = done
refused s (r ∷ rs) done = if r.0 then same r.1 s else refused s rs done

abbrev pub edited : List Edit → List Placed → List Placed
edited [] rows = rows
edited (Replace row ∷ es) rows = edited es (replaced row rows)
edited (Remove key ∷ es) rows = edited es (removed key rows)

abbrev pub added_at : ℕ → Option Row → List Placed
added_at place None = []
added_at place (Some row) = record { place = place; row = row } ∷ []

abbrev pub has_added : Option Row → List Placed → Bool
has_added None rows = false
has_added (Some row) rows = has_key row.key rows

-- a change of a live table takes one number
abbrev pub changed : Table → List Edit → Option Row → Tables → Tables
changed t edits added s = record {
  live = put (record t { stamp = s.next; rows = edited edits t.rows ++ added_at s.next added }) s.live;
  next = s.next + 1;
}

abbrev pub created : Space → Tables → Tables
created space s = record {
  live = s.live ++ record { number = s.next; stamp = s.next; space = space; rows = [] } ∷ [];
  next = s.next + 1;
}

-- the table's number, and then the stamp, which is the place of the row
abbrev pub created_with : Space → Row → Tables → Tables
created_with space row s = record {
  live = s.live ++ record { number = s.next; stamp = s.next + 1; space = space; rows = record { place = s.next + 1; row = row } ∷ [] } ∷ [];
  next = s.next + 2;
}

abbrev pub selects : Cond → TableReply → Tables → Option Table → Meant
selects cond lacking s None = same lacking s
selects cond lacking s (Some t) = same (reply.Rows t.number t.stamp (selected cond t.rows)) s

abbrev pub inserts : Row → Tables → Table → Meant
inserts row s t =
    refused s ((has_key row.key t.rows, reply.Duplicate) ∷ (are_spent 1 s, reply.Spent) ∷ [])
    (record { reply = reply.Inserted t.number s.next; tables = changed t [] (Some row) s })

abbrev pub inserts_named : Space → Row → Tables → Option Table → Meant
inserts_named space row s (Some t) = inserts row s t
inserts_named space row s None =
    refused s ((is_full s, reply.Full) ∷ (are_spent 2 s, reply.Spent) ∷ [])
    (record { reply = reply.Inserted s.next (s.next + 1); tables = created_with space row s })

abbrev pub inserts_numbered : Row → Tables → Option Table → Meant
inserts_numbered row s None = same reply.Gone s
inserts_numbered row s (Some t) = inserts row s t

abbrev pub commits : ℕ → List Edit → Option Row → Tables → Option Table → Meant
commits stamp edits added s None = same reply.Gone s
commits stamp edits added s (Some t) =
    if stamp == t.stamp then
    refused s ((has_added added t.rows, reply.Duplicate) ∷ (are_spent 1 s, reply.Spent) ∷ [])
    (record { reply = reply.Done s.next; tables = changed t edits added s })
    else same (reply.Moved t.stamp) s

abbrev pub creates : Space → Tables → Option Table → Meant
creates space s (Some t) = same reply.Exists s
creates space s None =
    refused s ((is_full s, reply.Full) ∷ (are_spent 1 s, reply.Spent) ∷ [])
    (record { reply = reply.Inserted s.next s.next; tables = created space s })

abbrev pub drops : Tables → Option Table → Meant
drops s None = same reply.Absent s
drops s (Some t) = record { reply = reply.Dropped 1; tables = record s { live = without t.number s.live } }

-- what a call is replied, and the tables after it, where memory and keeper last
abbrev pub meant : Tables → TableCall → Meant
meant s (call.SelectNamed space cond) = selects cond reply.Absent s (named space s.live)
meant s (call.Select table cond) = selects cond reply.Gone s (numbered table s.live)
meant s (call.InsertNamed space row) = inserts_named space row s (named space s.live)
meant s (call.Insert table row) = inserts_numbered row s (numbered table s.live)
meant s (call.Commit table stamp edits added) = commits stamp edits added s (numbered table s.live)
meant s (call.Create space) = creates space s (named space s.live)
meant s (call.Drop space) = drops s (named space s.live)
meant s (call.DropDatabase db) = record { reply = reply.Dropped (count_in db s.live); tables = record s { live = outside_of db s.live } }
meant s (call.ListTables db) = same (reply.Names (names_in db s.live)) s
meant s call.ListDatabases = same (reply.Names (databases [] s.live)) s

-- the tables after a call, which the call and its reply fix
abbrev pub tables_after : Tables → TableCall → TableReply → Tables
tables_after s c reply.NoMemory = s
tables_after s c reply.Fault = s
tables_after s c r = (meant s c).tables

-- the keeper is asked before such a reply
abbrev pub is_kept : TableReply → Bool
is_kept (reply.Inserted table stamp) = true
is_kept (reply.Done stamp) = true
is_kept (reply.Dropped zero) = false
is_kept (reply.Dropped (suc n)) = true
is_kept r = false

-- which reply may be given, with which counts of faults before and after
abbrev pub replies : Tables → TableCall → TableReply → ℕ → ℕ → Type 0
replies s c reply.NoMemory before after = after ≡ before
replies s c reply.Fault before after = (is_kept (meant s c).reply ≡ true) × (Rose before after)
replies s c r before after = (r ≡ (meant s c).reply) × (after ≡ before)

-- the call may be made, and this is its reply
pub record tstep (s : Tables) (c : TableCall) (r : TableReply) (before after : ℕ) : Type 0 where
  pub may : accepted c
  pub replied : replies s c r before after
