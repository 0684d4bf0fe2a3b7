-- What the rows of the code's tables say, in the definitions' words.
use Rattle.std.specs.Prelude.{ℕ, Bool, List}
use Rattle.bson_values.specs.declared.value.Value.{Value}
use Rattle.filter_syntax.specs.declared.filter.Filter.{Filter}
use Rattle.filter_syntax.specs.declared.filter.Filter.TheVariants as filter
use Rattle.filter_syntax.specs.declared.filter.Test.{Test}
use Rattle.filter_syntax.specs.declared.filter.Test.TheVariants as test
use Rattle.filter_syntax.specs.declared.operators.Comparison.{Comparison}
use Rattle.filter_syntax.specs.declared.operators.Comparison.TheVariants as comparison
use Rattle.filter_syntax.specs.declared.operators.Membership.{Membership}
use Rattle.filter_syntax.specs.declared.operators.Membership.TheVariants as membership
use Rattle.filter_syntax.specs.declared.operators.Counted.{Counted}
use Rattle.filter_syntax.specs.declared.operators.Counted.TheVariants as counts
use Rattle.filter_syntax.specs.declared.operators.Operator.{Operator}
use Rattle.filter_syntax.specs.declared.operators.Operator.TheVariants as operator
use Rattle.filter_syntax.specs.declared.operators.Logical.{Logical}
use Rattle.filter_syntax.specs.declared.operators.Logical.TheVariants as logical
use Rattle.filter_syntax.specs.declared.operators.TopLevel.{TopLevel}
use Rattle.filter_syntax.specs.declared.operators.TopLevel.TheVariants as top_level
use Rattle.filter_syntax.specs.Operands.{is_left_out, is_left_out_of_all}
use Rattle.filter_syntax.specs.Operators.{Takes, value, values, count, truth, types, division, operator_set, element}
use Rattle.filter_syntax.specs.Operators.{left_out, joined_as, ignored}

abbrev pub compared : Comparison → Value → Test
compared comparison.Eq = test.Eq
compared comparison.Ne = test.Ne
compared comparison.Gt = test.Gt
compared comparison.Gte = test.Gte
compared comparison.Lt = test.Lt
compared comparison.Lte = test.Lte

abbrev pub listed : Membership → List Value → Test
listed membership.OneOf = test.OneOf
listed membership.NotOneOf = test.NotOneOf
listed membership.AllOf = test.AllOf

-- the values that are left out
abbrev pub left_out_of : Membership → Value → Bool
left_out_of membership.OneOf = is_left_out
left_out_of membership.NotOneOf = is_left_out
left_out_of membership.AllOf = is_left_out_of_all

abbrev pub counted : Counted → ℕ → Test
counted counts.Size = test.Size
counted counts.BitsAllSet = test.BitsAllSet
counted counts.BitsAllClear = test.BitsAllClear
counted counts.BitsAnySet = test.BitsAnySet
counted counts.BitsAnyClear = test.BitsAnyClear

abbrev pub told : Operator → Takes Test
told (operator.Value by) = value (compared by)
told (operator.Values by) = values (left_out_of by) (listed by)
told (operator.Count by) = count (counted by)
told operator.Truth = truth
told operator.Types = types
told operator.Division = division
told operator.Set = operator_set
told operator.Element = element
told operator.LeftOut = left_out

abbrev pub combined : Logical → List Filter → Filter
combined logical.And = filter.All
combined logical.Or = filter.AnyOf
combined logical.Nor = filter.NoneOf

abbrev pub told_top_level : TopLevel → Takes (List Filter)
told_top_level (top_level.Filters by) = joined_as (combined by)
told_top_level top_level.Ignored = ignored
told_top_level top_level.LeftOut = left_out
