-- What an `_id` may be: MongoDB manual, "The _id Field".
use Rattle.std.specs.Prelude.{Bool, true, false}
use Rattle.bson_values.specs.declared.value.Value.{Value}
use Rattle.bson_values.specs.declared.value.Value.TheOpen.{Value-F}

-- neither an array nor a regex
abbrev pub can_be_id : Value-F Value → Bool
can_be_id (Value-F.Arr items) = false
can_be_id (Value-F.Regex regex) = false
can_be_id _ = true
