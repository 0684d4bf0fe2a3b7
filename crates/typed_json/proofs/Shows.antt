-- What is shown of values that hold others.
use Rattle.std.proofs.Common.{◌≡◌, ◌∙◌, ◌&&◌, ◌==◌, ℕ, Bool, List, codes, length, map, sym, ap}
use Rattle.std.specs.Prelude.{pos}
use Rattle.bson_values.specs.declared.value.Binary.{Binary}
use Rattle.bson_values.specs.declared.pairs.Pair.{Pair}
use Rattle.bson_values.specs.declared.value.Value.{Value}
use Rattle.bson_values.specs.declared.value.Value.TheOpen.{Value-F}
use Rattle.bson_values.specs.declared.value.Value.TheVariants as value
use Rattle.bson_values.specs.declared.value.Value.TheFolds.{fold-roll-Value}
use Rattle.jsonb_contain.specs.declared.value.Json.{Json}
use Rattle.typed_json.specs.Plain.{base64_text, each, hex_text, plain_in, plain_of}
use Rattle.jsonb_contain.specs.declared.value.Json.TheVariants as json
use Rattle.typed_json.specs.Row.{alone, kind_in, kind_of}
use Rattle.typed_json.specs.Typed.{are_bytes, is_typed, is_u8, typed_in}

pub plain_Arr : (items : List Value) → plain_of (value.Arr items) ≡ plain_in (Value-F.Arr (map plain_of items))
plain_Arr items = ap plain_of (sym (value.rolls-Arr items)) ∙ fold-roll-Value Json plain_in (Value-F.Arr items)

pub plain_Doc : (doc : List (Pair Value)) → plain_of (value.Doc doc) ≡ plain_in (Value-F.Doc (each plain_of doc))
plain_Doc doc = ap plain_of (sym (value.rolls-Doc doc)) ∙ fold-roll-Value Json plain_in (Value-F.Doc doc)

pub kind_Arr : (items : List Value) → kind_of (value.Arr items) ≡ kind_in (Value-F.Arr (map kind_of items))
kind_Arr items = ap kind_of (sym (value.rolls-Arr items)) ∙ fold-roll-Value Json kind_in (Value-F.Arr items)

pub kind_Doc : (doc : List (Pair Value)) → kind_of (value.Doc doc) ≡ kind_in (Value-F.Doc (each kind_of doc))
kind_Doc doc = ap kind_of (sym (value.rolls-Doc doc)) ∙ fold-roll-Value Json kind_in (Value-F.Doc doc)

pub kind_Id : (id : List ℕ) → kind_of (value.Id id) ≡ json.Object (alone (codes "objectId"))
kind_Id id = ap kind_of (sym (value.rolls-Id id)) ∙ fold-roll-Value Json kind_in (Value-F.Id id)

-- ---- binaries and ObjectIds

pub plain_Bin : (it : Binary) → plain_of (value.Bin it) ≡ json.Text (base64_text it.bytes)
plain_Bin it = ap plain_of (sym (value.rolls-Bin it)) ∙ fold-roll-Value Json plain_in (Value-F.Bin it)

pub typed_Bin : (it : Binary) → is_typed (value.Bin it) ≡ (is_u8 (pos it.subtype) && are_bytes it.bytes)
typed_Bin it = ap is_typed (sym (value.rolls-Bin it)) ∙ fold-roll-Value Bool typed_in (Value-F.Bin it)

pub plain_Id : (id : List ℕ) → plain_of (value.Id id) ≡ json.Text (hex_text id)
plain_Id id = ap plain_of (sym (value.rolls-Id id)) ∙ fold-roll-Value Json plain_in (Value-F.Id id)

pub typed_Id : (id : List ℕ) → is_typed (value.Id id) ≡ (length id == 12 && are_bytes id)
typed_Id id = ap is_typed (sym (value.rolls-Id id)) ∙ fold-roll-Value Bool typed_in (Value-F.Id id)
