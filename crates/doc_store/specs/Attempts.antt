-- How an operation that changes documents goes on, and ends. Links between contracts; nobody has to read them for the main clause.
use Rattle.std.specs.Prelude.{ℕ, ◌≡◌, ◌==◌, ◌&&◌, ◌⊎◌, Bool, true, false, List, length, Option, None, Some, is_none, Result, Ok, Err}
use Rattle.bson_values.specs.declared.space.Space.{Space}
use Rattle.history_lock.specs.declared.entry.Who.{Who}
use Rattle.filter_syntax.specs.declared.filter.Filter.{Filter}
use Rattle.doc_model.specs.declared.op.Op.{Op}
use Rattle.doc_model.specs.declared.op.OpReply.{OpReply}
use Rattle.doc_model.specs.declared.op.OpReply.TheVariants as answer
use Rattle.table_words.specs.Called.{Called}
use Rattle.table_words.specs.Tables.{Tables}
use Rattle.table_words.specs.declared.call.TableCall.TheVariants as call
use Rattle.table_words.specs.declared.call.TableReply.{TableReply}
use Rattle.table_words.specs.declared.call.TableReply.TheVariants as reply
use Rattle.doc_history.specs.Part.{Views}
use Rattle.doc_history.specs.Docs.{docs_in_rows}
use Rattle.doc_model.specs.Step.{matching}
use Rattle.doc_effects.specs.Deeds.{effect_of}
use Rattle.doc_store.specs.Ended.{Tried, Ended}
use Rattle.doc_effects.specs.Outcomes.{IsAnswer, Settles}
use Rattle.doc_effects.specs.Replies.{Fits}
use Rattle.doc_store.specs.Replies.{added_reply}
use Rattle.doc_store.specs.declared.changing.Selection.{Selection}
use Rattle.doc_store.specs.declared.changing.Selection.TheVariants as selection
use Rattle.doc_store.specs.declared.changing.Tries.{Tries}
use Rattle.doc_store.specs.declared.changing.Tries.TheVariants.{Ends, Again}
use Rattle.doc_effects.specs.declared.deeds.Deed.{Deed}
use Rattle.doc_effects.specs.declared.deeds.Outcome.{Outcome}
use Rattle.table_rows.specs.declared.row.Row.{Row}

abbrev pub selection_of : TableReply → Selection
selection_of (reply.Rows table stamp rows) = selection.Rows table stamp rows
selection_of reply.Absent = selection.Absent
selection_of r = selection.NoMemory

-- what a Commit's reply makes of the operation
abbrev pub ending_of : OpReply → TableReply → Tries
ending_of told (reply.Done stamp) = Ends told
ending_of told reply.Duplicate = Ends (answer.Refused 31)
ending_of told reply.Spent = Ends (answer.Refused 33)
ending_of told reply.Fault = Ends answer.Fault
ending_of told reply.NoMemory = Ends answer.NoMemory
ending_of told r = Again

-- nothing is to be changed
abbrev pub rests : Outcome → Bool
rests outcome = (length outcome.edits == 0) && is_none outcome.added

-- the outcome was told, or committed to the table with that stamp
abbrev pub Commits : Bool → Tables → ℕ → Views → Views → Who → ℕ → ℕ → Outcome → Tries → Type 0
Commits held s n old new who table stamp outcome tries =
    ((rests outcome ≡ true) × (new ≡ old) × (tries ≡ Ends outcome.reply))
    ⊎ ((r : TableReply) × (rests outcome ≡ false) × Called held s n old new who (call.Commit table stamp outcome.edits outcome.added) r
    × (tries ≡ ending_of outcome.reply r))

-- the outcome of these rows was told or committed; or memory was wanting, and nothing was done
abbrev pub Changes : Bool → Tables → ℕ → Views → Views → Who → ℕ → Filter → Deed → ℕ → ℕ → List Row → Tries → Type 0
Changes held s n old new who now by it table stamp rows tries =
    ((new ≡ old) × (tries ≡ Ends answer.NoMemory))
    ⊎ ((outcome : Outcome) × Settles (effect_of who now by it (matching by (docs_in_rows rows))) outcome × IsAnswer outcome.reply
    × Fits outcome.reply × Commits held s n old new who table stamp outcome tries)

-- of a collection that is absent: what is not to be added is told
abbrev pub untried_by : OpReply → Option Row → Tries
untried_by told (Some row) = Again
untried_by told None = Ends told

abbrev pub untried : {X : Type 0} → Result Outcome X → Tries
untried (Ok outcome) = untried_by outcome.reply outcome.added
untried (Err why) = Ends answer.NoMemory

-- the row was added by name, or there was none
abbrev pub AddsRow : Bool → Tables → ℕ → Views → Views → Who → Space → OpReply → Option Row → OpReply → Type 0
AddsRow held s n old new who space told (Some row) given =
    (r : TableReply) × Called held s n old new who (call.InsertNamed space row) r × (given ≡ added_reply told r)
AddsRow held s n old new who space told None given = (new ≡ old) × (given ≡ told)

abbrev pub AddsNamed : Bool → Tables → ℕ → Views → Views → Who → Space → Outcome → OpReply → Type 0
AddsNamed held s n old new who space outcome given = AddsRow held s n old new who space outcome.reply outcome.added given

abbrev pub FitsEnd : Tries → Type 0
FitsEnd (Ends reply) = Fits reply
FitsEnd Again = Unit {0}

-- the operation ended so, after at most so many calls, or is to be done in a turn
abbrev pub Tells : Tables → Views → Views → Who → ℕ → Op → Tries → Type 0
Tells s old new who now op (Ends reply) = Ended s old new (record { who = who; now = now; op = op; reply = reply }) 1
Tells s old new who now op Again = Tried s old new who 2

abbrev pub TellsEnd : Tables → Views → Views → Who → ℕ → Op → OpReply → Type 0
TellsEnd s old new who now op reply = Ended s old new (record { who = who; now = now; op = op; reply = reply }) 1
