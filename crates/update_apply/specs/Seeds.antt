-- The document with which an upsert begins: the equalities of its filter, put in order. Looked at are the filter's own pairs, and those of
-- the members of a `$and` that stands there.
use Rattle.std.specs.Prelude.{if◌then◌else◌, List, [], ◌∷◌, Ok}
use Rattle.std_words.specs.Steps.{◌>>=◌}
use Rattle.bson_values.specs.declared.value.Value.{out-Value}
use Rattle.filter_syntax.specs.Meaning.{Doc}
use Rattle.filter_syntax.specs.Operands.{is_regex}
use Rattle.filter_syntax.specs.declared.filter.Filter.{Filter}
use Rattle.filter_syntax.specs.declared.filter.Filter.TheFolds.{fold-Filter, fold-Test}
use Rattle.filter_syntax.specs.declared.filter.Filter.TheOpen.{Filter-F, Test-F}
use Rattle.filter_syntax.specs.declared.filter.Test.{Test}
use Rattle.update_syntax.specs.After.{Outcome, set}
use Rattle.update_syntax.specs.Conflicts.{Parts}

-- what a filter makes of a document, and what an operator does at a path
abbrev pub Makes : Type 0
Makes = Doc → Outcome

abbrev pub MakesAt : Type 0
MakesAt = Parts → Doc → Outcome

-- one after another
abbrev pub all_made : List Makes → Doc → Outcome
all_made [] doc = Ok doc
all_made (one ∷ more) doc = one doc >>= all_made more

-- an equality puts its value, which is no regex; no other operator puts any
abbrev pub equal_in : Test-F Makes MakesAt → Parts → Doc → Outcome
equal_in (Test-F.Eq it) path doc = if is_regex (out-Value it) then Ok doc else set path it doc
equal_in test path doc = Ok doc

abbrev pub seeded_in : Filter-F Makes MakesAt → Doc → Outcome
seeded_in (Filter-F.All filters) doc = all_made filters doc
seeded_in (Filter-F.AnyOf filters) doc = Ok doc
seeded_in (Filter-F.NoneOf filters) doc = Ok doc
seeded_in (Filter-F.On path test) doc = test path doc

abbrev pub equal_put : Test → Parts → Doc → Outcome
equal_put = fold-Test Makes MakesAt seeded_in equal_in

abbrev pub seeded : Filter → Doc → Outcome
seeded = fold-Filter Makes MakesAt seeded_in equal_in

-- it begins with no field
abbrev pub seed : Filter → Outcome
seed filter = seeded filter []

-- for the code: what filters put, one after another
abbrev pub each_seeded : List Filter → Doc → Outcome
each_seeded [] doc = Ok doc
each_seeded (one ∷ more) doc = seeded one doc >>= each_seeded more
