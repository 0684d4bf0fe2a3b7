-- What an operation is replied, by the documents that its filter holds of. Links between contracts; nobody has to read them for the main clause.
use Rattle.std.specs.Prelude.{ℕ, ◌≡◌, ◌≢◌, ◌≤◌, ◌+◌, ◌-◌, ◌==◌, min, nat_le, Bool, false, if◌then◌else◌}
use Rattle.std.specs.Prelude.{List, [], length, map, take, Option, Some, None}
use Rattle.bson_values.specs.declared.space.Space.{Space}
use Rattle.bson_values.specs.declared.value.Value.TheVariants.{Arr}
use Rattle.bson_spelling.specs.Spelling.{key}
use Rattle.bson_values.specs.Measures.{size, value_size}
use Rattle.bson_values.specs.declared.value.Value.{Value}
use Rattle.distinct_values.specs.Distinct.{distinct}
use Rattle.doc_shape.specs.Shown.{shown}
use Rattle.doc_shape.specs.Sorted.{sorted}
use Rattle.filter_syntax.specs.Meaning.{Doc}
use Rattle.filter_syntax.specs.declared.filter.Filter.{Filter}
use Rattle.doc_model.specs.declared.op.Op.{Op}
use Rattle.doc_model.specs.declared.op.Op.TheVariants as op
use Rattle.doc_model.specs.declared.op.OpReply.{OpReply}
use Rattle.doc_model.specs.declared.op.OpReply.TheVariants.{Selected, Counted, Values, Updated, Modified, Refused, NoMemory}
use Rattle.doc_model.specs.Step.{cut_to, limited, valued}
use Rattle.doc_effects.specs.declared.aims.Aim.{Aim}
use Rattle.doc_effects.specs.declared.aims.Aim.TheVariants as aim
use Rattle.doc_effects.specs.declared.aims.Show.{Show}

-- an operation that reads the documents which a filter holds of
abbrev pub op_of : Aim → Space → Filter → Op
op_of (aim.Documents show) space it = op.Find space
    (record { filter = it; order = show.order; skip = show.skip; limit = show.limit; shape = show.shape; cut = show.cut })
op_of (aim.Number skip limit) space it = op.Count space it skip limit
op_of (aim.Values path) space it = op.Distinct space path it

-- ---- the documents that a find shows

-- so many of them suffice, without a sort, where at most so many are shown
abbrev pub SufficeFor : Show → ℕ → Type 0
SufficeFor show most = (length show.order ≡ 0) × (show.limit ≢ 0) × (most ≡ show.skip + show.limit)

-- so many are as many as suffice
abbrev pub are_enough : Option ℕ → ℕ → Bool
are_enough None count = false
are_enough (Some most) count = nat_le most count

-- these are all of them, or as many of the first as suffice
abbrev pub IsEnough : Option ℕ → List Doc → List Doc → Type 0
IsEnough None all docs = docs ≡ all
IsEnough (Some most) all docs = take most docs ≡ take most all

-- what is shown of the documents that the filter holds of
abbrev pub displayed : Show → List Doc → List Doc
displayed show docs = cut_to show.cut (map (shown show.shape) (limited show.skip show.limit (sorted show.order docs)))

-- how many of so many are left past the first `skip`, and up to `limit`, where that is not 0
abbrev pub counted : ℕ → ℕ → ℕ → ℕ
counted skip limit count = if limit == 0 then count - skip else min limit (count - skip)

-- what it is replied where they are these
abbrev pub answer_to : Aim → List Doc → OpReply
answer_to (aim.Documents show) docs = Selected (displayed show docs)
answer_to (aim.Number skip limit) docs = Counted (length (limited skip limit docs))
answer_to (aim.Values path) docs = valued (distinct path docs)

-- the reply is this, or want of memory
abbrev pub Answers : OpReply → OpReply → Type 0
Answers NoMemory wanted = Unit {0}
Answers answer wanted = answer ≡ wanted

-- the `_id` of a document that was inserted by an update has a key of at most 16,384 bytes
abbrev pub FitsId : Option Value → Type 0
FitsId None = Unit {0}
FitsId (Some id) = length (key id) ≤ 16384

-- a document that is shown has at most 16,777,216 bytes
abbrev pub FitsDoc : Option Doc → Type 0
FitsDoc None = Unit {0}
FitsDoc (Some doc) = size doc ≤ 16777216

-- values that are replied have, as an array, at most 16,777,216 bytes, and so has a document that is shown
abbrev pub Fits : OpReply → Type 0
Fits (Values values) = value_size (Arr values) ≤ 16777216
Fits (Updated matched changed upserted) = FitsId upserted
Fits (Modified existed upserted value) = FitsId upserted × FitsDoc value
Fits reply = Unit {0}

-- an insert whose words are refused for this, or not, is replied so before its call: refused for that, or for want of memory
abbrev pub Declines : Option ℕ → OpReply → Type 0
Declines words (Refused kind) = words ≡ Some kind
Declines words NoMemory = Unit {0}
Declines words reply = ⊥
