-- Operations that change the documents which a filter holds of. Links between contracts; nobody has to read them for the main clause.
use Rattle.std.specs.Prelude.{ℕ, List, Result, Ok}
use Rattle.history_lock.specs.declared.entry.Who.{Who}
use Rattle.bson_values.specs.declared.space.Space.{Space}
use Rattle.doc_shape.specs.Sorted.{sorted}
use Rattle.filter_syntax.specs.Meaning.{Doc}
use Rattle.filter_syntax.specs.declared.filter.Filter.{Filter}
use Rattle.doc_model.specs.Change.{Effect, updates, deletes, modifies}
use Rattle.doc_model.specs.declared.op.Op.{Op}
use Rattle.doc_model.specs.declared.op.Op.TheVariants as op
use Rattle.doc_effects.specs.declared.deeds.Deed.{Deed}
use Rattle.doc_effects.specs.declared.deeds.Deed.TheVariants as deed

-- the operation that does it
abbrev pub op_done : Deed → Space → Filter → Op
op_done (deed.Update update multi upsert) space it = op.Update space it update multi upsert
op_done (deed.Delete one) space it = op.Delete space it one
op_done (deed.Modify order change fresh upsert shape) space it = op.FindAndModify space it order change fresh upsert shape

-- what it does to the documents that the filter holds of
abbrev pub effect_of : Who → ℕ → Filter → Deed → List Doc → Result Effect ℕ
effect_of who now it (deed.Update update multi upsert) docs = updates who now it update multi upsert docs
effect_of who now it (deed.Delete one) docs = Ok (deletes one docs)
effect_of who now it (deed.Modify order change fresh upsert shape) docs = modifies who now it change fresh upsert shape (sorted order docs)
