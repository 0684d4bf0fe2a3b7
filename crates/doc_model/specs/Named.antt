-- The collection of an operation, and which of them read alone.
use Rattle.std.specs.Prelude.{◌≡◌, true}
use Rattle.bson_values.specs.declared.space.Space.{Space}
use Rattle.naming.specs.Names.{is_valid}
use Rattle.doc_model.specs.declared.op.Op.{Op}
use Rattle.doc_model.specs.declared.op.Op.TheVariants.{Insert, Find, Count, Distinct, Update, Delete, FindAndModify}

abbrev pub space_of : Op → Space
space_of (Insert space doc) = space
space_of (Find space query) = space
space_of (Count space it skip limit) = space
space_of (Distinct space path it) = space
space_of (Update space it update multi upsert) = space
space_of (Delete space it one) = space
space_of (FindAndModify space it order change fresh upsert shape) = space

-- its names are such as a database and a collection may have
abbrev pub IsNamed : Op → Type 0
IsNamed op = is_valid (space_of op) ≡ true

-- the operation reads alone
abbrev pub IsRead : Op → Type 0
IsRead (Insert space doc) = ⊥
IsRead (Update space it update multi upsert) = ⊥
IsRead (Delete space it one) = ⊥
IsRead (FindAndModify space it order change fresh upsert shape) = ⊥
IsRead op = Unit {0}
