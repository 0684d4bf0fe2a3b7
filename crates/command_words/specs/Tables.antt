-- The commands, and the fields of each.
use Prim.Native.String.{String}
use Rattle.std.specs.Prelude.{ℕ, Bool, true, false, List, [], ◌∷◌, codes}
use Rattle.command_words.specs.declared.word.Word.{Word}
use Rattle.command_words.specs.declared.word.Word.TheVariants.{Ping, Insert, Update, Delete, FindAndModify, Find, Count, Distinct}
use Rattle.command_words.specs.declared.takes.Takes.{Takes}
use Rattle.command_words.specs.declared.takes.Takes.TheVariants.{Anything, Text, Document, DocumentOrArray, Truth, Whole, Natural}
use Rattle.command_words.specs.declared.takes.Takes.TheVariants.{ZeroOrOne, Documents, Items}
use Rattle.command_words.specs.declared.takes.Item.{Item}
use Rattle.command_words.specs.declared.takes.Item.TheVariants as item

-- a field, what it takes, and whether it has to be there
pub record Field : Type 0 where
  pub name : List ℕ
  pub takes : Takes
  pub required : Bool

-- what stands beside a command's name, its other fields, and whether nothing further is looked at
pub record Shape : Type 0 where
  pub own : Takes
  pub fields : List Field
  pub free : Bool

abbrev pub may : Takes → String → Field
may takes name = record { name = codes name; takes = takes; required = false }

abbrev pub must : Takes → String → Field
must takes name = record { name = codes name; takes = takes; required = true }

-- the name of a collection, and these fields
abbrev pub on_coll : List Field → Shape
on_coll fields = record { own = Text; fields = fields; free = false }

unfoldable pub commands : List (List ℕ × Word)
commands =
    (codes "ping", Ping) ∷ (codes "insert", Insert) ∷ (codes "update", Update) ∷ (codes "delete", Delete)
    ∷ (codes "findAndModify", FindAndModify) ∷ (codes "findandmodify", FindAndModify) ∷ (codes "find", Find) ∷ (codes "count", Count)
    ∷ (codes "distinct", Distinct) ∷ []

unfoldable pub shape_of : Word → Shape
shape_of Ping = record { own = Anything; fields = []; free = true }
shape_of Insert = on_coll (must Documents "documents" ∷ may Truth "ordered" ∷ [])
shape_of Update = on_coll (must (Items item.Update) "updates" ∷ may Truth "ordered" ∷ [])
shape_of Delete = on_coll (must (Items item.Delete) "deletes" ∷ may Truth "ordered" ∷ [])
shape_of FindAndModify = on_coll (may Document "query" ∷ may Document "sort" ∷ may Truth "remove" ∷ may DocumentOrArray "update"
    ∷ may Truth "new" ∷ may Truth "upsert" ∷ may Document "fields" ∷ [])
shape_of Find = on_coll (may Document "filter" ∷ may Document "sort" ∷ may Document "projection" ∷ may Natural "skip" ∷ may Natural "limit"
    ∷ may Natural "batchSize" ∷ may Truth "singleBatch" ∷ [])
shape_of Count = on_coll (may Document "query" ∷ may Natural "skip" ∷ may Whole "limit" ∷ [])
shape_of Distinct = on_coll (must Text "key" ∷ may Document "query" ∷ [])

-- the fields of an item
unfoldable pub item_fields : Item → List Field
item_fields item.Update = must Document "q" ∷ must DocumentOrArray "u" ∷ may Truth "multi" ∷ may Truth "upsert" ∷ []
item_fields item.Delete = must Document "q" ∷ must ZeroOrOne "limit" ∷ []
