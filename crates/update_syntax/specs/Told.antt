-- What the rows of the code's table say, in the definitions' words.
use Rattle.std.specs.Prelude.{List}
use Rattle.bson_values.specs.declared.value.Value.{Value}
use Rattle.update_syntax.specs.Conflicts.{Parts}
use Rattle.update_syntax.specs.Operators.{Takes, value, removal, number, target, items, one_end, pulled, all_pulled, moment, bits}
use Rattle.update_syntax.specs.declared.operators.Placing.{Placing}
use Rattle.update_syntax.specs.declared.operators.Placing.TheVariants as placing
use Rattle.update_syntax.specs.declared.operators.Reckoning.{Reckoning}
use Rattle.update_syntax.specs.declared.operators.Reckoning.TheVariants as reckoning
use Rattle.update_syntax.specs.declared.operators.Adding.{Adding}
use Rattle.update_syntax.specs.declared.operators.Adding.TheVariants as adding
use Rattle.update_syntax.specs.declared.operators.Operator.{Operator}
use Rattle.update_syntax.specs.declared.operators.Operator.TheVariants as operator
use Rattle.update_syntax.specs.declared.update.Number.{Number}
use Rattle.update_syntax.specs.declared.update.Step.{Step}
use Rattle.update_syntax.specs.declared.update.Step.TheVariants as step

abbrev pub placed : Placing → Parts → Value → Step
placed placing.Set = step.Set
placed placing.SetOnInsert = step.SetOnInsert
placed placing.Min = step.Min
placed placing.Max = step.Max

abbrev pub reckoned : Reckoning → Parts → Number → Step
reckoned reckoning.Inc = step.Inc
reckoned reckoning.Mul = step.Mul

abbrev pub added : Adding → Parts → List Value → Step
added adding.Push = step.Push
added adding.AddToSet = step.AddToSet

abbrev pub told : Operator → Takes
told (operator.Value by) = value (placed by)
told operator.Removal = removal
told (operator.Number by) = number (reckoned by)
told operator.Target = target
told (operator.Items by) = items (added by)
told operator.End = one_end
told operator.Pulled = pulled
told operator.AllPulled = all_pulled
told operator.Moment = moment
told operator.Bits = bits
