-- The update that a value reads as, or the kind of its refusal. 15, a form that no update has, goes before all others, and 22, paths that
-- conflict, after all others. Of the others the first counts: operators in the order written, and the paths of each in order.
use Rattle.std.specs.Prelude.{ℕ, Bool, true, false, ◌&&◌, not, if◌then◌else◌, List, [], ◌∷◌, Option, Some, None, is_some, Result, Ok, Err}
use Rattle.std.specs.List.{list_all, flat_map}
use Rattle.std_words.specs.Steps.{◌>>=◌}
use Rattle.bson_values.specs.declared.pairs.Pair.{Pair}
use Rattle.bson_values.specs.declared.value.Value.{Value, out-Value}
use Rattle.bson_values.specs.declared.value.Value.TheOpen.{Value-F}
use Rattle.filter_syntax.specs.Operands.{found_or, all_of, each, has_dollar, first_name}
use Rattle.filter_syntax.specs.Operators.{named}
use Rattle.update_syntax.specs.Conflicts.{Parts, any_clash}
use Rattle.update_syntax.specs.Operators.{Takes, operators, path_of}
use Rattle.update_syntax.specs.declared.update.Step.{Step}
use Rattle.update_syntax.specs.declared.update.Step.TheVariants as step
use Rattle.update_syntax.specs.declared.update.Update.{Update}
use Rattle.update_syntax.specs.declared.update.Update.TheVariants.{Replace, Steps}

-- ---- operators

-- a path and the operand beside it
abbrev pub step_of : Takes → Pair Value → Result Step ℕ
step_of make pair = path_of pair.name >>= λ path. make path pair.value

-- the paths beside an operator
abbrev pub steps_in : Takes → Value-F Value → Result (List Step) ℕ
steps_in make (Value-F.Doc pairs) = each (step_of make) pairs
steps_in make layer = Err 15

unfoldable pub operator_steps : Pair Value → Result (List Step) ℕ
operator_steps pair = found_or 15 (named pair.name operators) >>= λ (make : Takes). steps_in make (out-Value pair.value)

-- the path of a step
abbrev pub path_at : Step → Parts
path_at (step.Set path it) = path
path_at (step.SetOnInsert path it) = path
path_at (step.Unset path) = path
path_at (step.Inc path number) = path
path_at (step.Mul path number) = path
path_at (step.Min path it) = path
path_at (step.Max path it) = path
path_at (step.Rename from to) = from
path_at (step.Push path items) = path
path_at (step.AddToSet path items) = path
path_at (step.Pop path last) = path
path_at (step.Pull path it) = path
path_at (step.PullAll path items) = path
path_at (step.CurrentDate path date) = path
path_at (step.Bit path kind number) = path

-- the second path, which `$rename` has
abbrev pub target_of : Step → Option Parts
target_of (step.Rename from to) = Some to
target_of one = None

abbrev pub with_target : Parts → Option Parts → List Parts
with_target path None = path ∷ []
with_target path (Some to) = path ∷ to ∷ []

-- all paths of a step
abbrev pub paths_of : Step → List Parts
paths_of one = with_target (path_at one) (target_of one)

abbrev pub without_conflict : List Step → Result Update ℕ
without_conflict steps = if any_clash (flat_map paths_of steps) then Err 22 else Ok (Steps steps)

-- ---- forms

abbrev pub is_document : Value-F Value → Bool
is_document (Value-F.Doc pairs) = true
is_document layer = false

-- an operator's name, and a document
abbrev pub is_operation : Pair Value → Bool
is_operation pair = is_some (named pair.name operators) && is_document (out-Value pair.value)

abbrev pub is_field : Pair Value → Bool
is_field pair = not (has_dollar pair.name)

abbrev pub read_operators : List (Pair Value) → Result Update ℕ
read_operators doc = if list_all is_operation doc then (all_of operator_steps doc >>= without_conflict) else Err 15

-- a replacement is of one document
abbrev pub read_replacement : Bool → List (Pair Value) → Result Update ℕ
read_replacement multi doc = if not multi && list_all is_field doc then Ok (Replace doc) else Err 15

abbrev pub read_document : Bool → List (Pair Value) → Result Update ℕ
read_document multi doc = if has_dollar (first_name doc) then read_operators doc else read_replacement multi doc

-- an array is a pipeline, which is left out
abbrev pub read_in : Bool → Value-F Value → Result Update ℕ
read_in multi (Value-F.Doc pairs) = read_document multi pairs
read_in multi (Value-F.Arr items) = Err 29
read_in multi layer = Err 15

abbrev pub read : Bool → Value → Result Update ℕ
read multi it = read_in multi (out-Value it)
