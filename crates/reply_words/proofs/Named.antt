-- The bytes of the parts of a reply that is written with no document made.
use Rattle.std.proofs.Common.{◌≡◌, ℕ, pos, List, map}
use Rattle.bson_values.specs.declared.pairs.Pair.{Pair}
use Rattle.bson_values.specs.declared.value.Value.{Value}
use Rattle.bson_values.specs.declared.value.Value.TheVariants as value
use Rattle.bson_values.specs.declared.value.Value.TheOpen.{Value-F}
use Rattle.bson_spelling.specs.declared.form.Form.TheVariants.{Bson}
use Rattle.bson_spelling.specs.Spelling.{int32, int64, string, held, items_from, enclosed, spell}
use Rattle.bson_spelling.proofs.Helds.{held_by}

-- of a number past 2^32 an int has the low four bytes
pub held-Int : (n : ℕ) → held Bson (value.Int (pos n)) ≡ (16, int32 n)
held-Int n = held_by Bson (value.Int (pos n)) (Value-F.Int (pos n)) (value.outs-Int (pos n))

pub held-Long : (n : ℕ) → held Bson (value.Long (pos n)) ≡ (18, int64 n)
held-Long n = held_by Bson (value.Long (pos n)) (Value-F.Long (pos n)) (value.outs-Long (pos n))

pub held-Str : (text : List ℕ) → held Bson (value.Str text) ≡ (2, string Bson text)
held-Str text = held_by Bson (value.Str text) (Value-F.Str text) (value.outs-Str text)

pub held-Doc : (doc : List (Pair Value)) → held Bson (value.Doc doc) ≡ (3, spell doc)
held-Doc doc = held_by Bson (value.Doc doc) (Value-F.Doc doc) (value.outs-Doc doc)

pub held-Arr : (items : List Value) → held Bson (value.Arr items) ≡ (4, enclosed Bson (items_from 0 (map (held Bson) items)))
held-Arr items = held_by Bson (value.Arr items) (Value-F.Arr items) (value.outs-Arr items)

-- the type bytes and the bytes that are written
pub ruleset helds = (held-Int, held-Long, held-Str, held-Doc)
