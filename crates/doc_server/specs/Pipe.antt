-- One connection over tables of its own, and how those are opened. Links between contracts; nobody has to read them for the main clause.
use Rattle.std.specs.Prelude.{ℕ, ◌≡◌, List, Option, None, Some}
use Rattle.table_store.specs.declared.load_refused.LoadRefused.{LoadRefused}
use Rattle.table_store.specs.declared.load_refused.LoadRefused.TheVariants.{KeeperFault, BadKept, NoMemory}
use Rattle.table_words.specs.Tables.{Tables}
use Rattle.doc_history.specs.Told.{Tcall}
use Rattle.dispatcher.specs.Script.{Executed, ops_from}
use Rattle.doc_server.specs.declared.why.Why.{Why}
use Rattle.doc_server.specs.Talk.{Scene, Talk}
use Rattle.doc_server.specs.Program.{IsHistory}

-- what came of it, and the whole history, which tells its operations
abbrev pub Pipes : Tables → ℕ → List Tcall → Tables → ℕ → Scene → Scene → Why → ℕ → Type 0
Pipes s faults h left faults' old new why commands =
    (all : List ℕ) × (script : List Executed) × (rest : List ℕ)
    × Talk old new why commands all script rest × IsHistory s faults h left faults' (ops_from 0 0 0 script)

-- what is told of a refusal: the table and the place of what is bad, and the status
abbrev pub Told : LoadRefused → Option (ℕ × ℕ) → ℕ → Type 0
Told KeeperFault bad status = (bad ≡ None) × (status ≡ 2)
Told (BadKept table place) bad status = (bad ≡ Some (table, place)) × (status ≡ 3)
Told NoMemory bad status = (bad ≡ None) × (status ≡ 9)
