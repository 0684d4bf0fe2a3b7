-- What a history says of operations and their replies.
use Rattle.std.specs.Prelude.{ℕ, ◌≡◌, ◌+◌, Bool, true, false, List, [], ◌∷◌, Some, ◌↔◌, ◌⊎◌}
use Rattle.std.specs.Bool.{MatchBool}
use Rattle.history_lock.specs.declared.entry.Entry.{Entry}
use Rattle.history_lock.specs.Places.{Each, picks, has, Belong, is_own, anywhere}
use Rattle.doc_model.specs.declared.op.OpReply.TheVariants.{Refused, Fault, NoMemory}
use Rattle.doc_model.specs.Step.{step, refused_by_words}
use Rattle.doc_model.specs.Run.{Done, whos}
use Rattle.table_words.specs.declared.call.TableCall.{TableCall}
use Rattle.table_words.specs.declared.call.TableReply.{TableReply}
use Rattle.table_words.specs.declared.call.TableReply.TheVariants as reply
use Rattle.table_words.specs.Tables.{Tables}
use Rattle.table_words.specs.Step.{tables_after}
use Rattle.doc_history.specs.Docs.{docs}

-- a call of tables, with its reply, in a history
abbrev pub Tcall : Type 0
Tcall = Entry TableCall TableReply

-- the tables after it
abbrev pub after : Tables → Tcall → Tables
after s e = tables_after s e.call e.reply

-- the last entry of an operation is its step, with a fault told just where the tables told one
pub record Last (s : Tables) (e : Tcall) (d : Done) : Type 0 where
  pub stepped : step d.who d.now d.op (docs s) d.reply (docs (after s e))
  pub fault : (d.reply ≡ Fault) ↔ (e.reply ≡ reply.Fault)

-- what an entry is to an operation, by whether it is one of it, and whether a later one is
abbrev pub at_entry : Bool → Bool → Tables → Tcall → Done → Type 0
at_entry true true s e d = docs (after s e) ≡ docs s
at_entry true false s e d = Last s e d
at_entry false later s e d = Unit {0}

-- the same of each entry, from the tables s and the place i on
abbrev pub acts : (ℕ → Bool) → Tables → ℕ → List Tcall → Done → Type 0
acts mine s i [] d = Unit {0}
acts mine s i (e ∷ es) d = at_entry (picks mine d.who i e) (has mine d.who (i + 1) es) s e d × acts mine (after s e) (i + 1) es d

-- an operation with no entry: want of memory, or what its words are refused for
abbrev pub unlogged : Done → Type 0
unlogged d = (d.reply ≡ NoMemory) ⊎ ((kind : ℕ) × (refused_by_words d.who d.now d.op ≡ Some kind) × (d.reply ≡ Refused kind))

-- one operation, by its entries among those places of a history
abbrev pub told_op : (ℕ → Bool) → Tables → List Tcall → Done → Type 0
told_op mine s h d = MatchBool (has mine d.who 0 h) (acts mine s 0 h d) (unlogged d)

-- these operations and no others made the entries at those places
pub record told_by (mine : ℕ → Bool) (s : Tables) (h : List Tcall) (ds : List Done) : Type 0 where
  pub each : Each (told_op mine s h) ds
  pub none_else : Belong mine (whos ds) 0 h

-- of a whole history
abbrev pub told : Tables → List Tcall → List Done → Type 0
told = told_by anywhere

-- of one seat's own places in what it has seen
abbrev pub told_part : Tables → List Tcall → List ℕ → List Done → Type 0
told_part s seen own = told_by (is_own own) s seen
