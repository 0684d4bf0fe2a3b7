-- What is moved out of a message is what stands first under that name.
use Rattle.std.proofs.Common.{◌≡◌, ℕ, Bool, true, false, cond, nat_lt, List, [], length, Option, None, Some}
use Rattle.std.proofs.Common.{slice_get, refl, sym, ap, ◌∙◌, arith}
use Rattle.std.specs.Prelude.{find, option_map}
use Rattle.std.specs.Option.{unwrap_or, option_or}
use Rattle.std.specs.List.{position, position_or_len}
use Rattle.std.proofs.lemmas.Grind.{common_steps}
use Rattle.std.proofs.lemmas.List.Folds.{find_at}
use Rattle.std.proofs.lemmas.Option.{slice_get_past}
use Rattle.bson_values.specs.declared.pairs.Pair.{Pair}
use Rattle.bson_values.specs.declared.value.Value.{Value}
use Rattle.bson_values.specs.declared.value.Value.TheViews.{out-Value}
use Rattle.op_msg.specs.declared.message.Message.{Message}
use Rattle.op_msg.specs.declared.message.Sequence.{Sequence}
use Rattle.command_words.specs.Body.{documents_in, sequence_of}

-- the documents of a sequence, where there is one
abbrev pub docs_of : Option Sequence → List (List (Pair Value))
docs_of found = unwrap_or (option_map (λ (it : Sequence). it.docs) found) []

-- the documents of that name in a message, where that value is the field's
abbrev pub docs_by : Message → List ℕ → Option Value → List (List (Pair Value))
docs_by m name found = unwrap_or (option_or (option_map (λ it. documents_in (out-Value it)) found) (sequence_of m.sequences name)) []

abbrev at_place : {A : Type 0} → List A → Option ℕ → Option A
at_place items None = None
at_place items (Some place) = slice_get items place

chosen : {A : Type 0} (items : List A) (place : ℕ) (within : Bool) → within ≡ nat_lt place (length items)
    → slice_get items place ≡ at_place items (cond within (Some place) None)
chosen items place true is = refl
chosen items place false is = slice_get_past items place (grind (arith, common_steps))

-- the first item that passes stands at the first place of one
pub first_passes : {A : Type 0} (passes : A → Bool) (items : List A) → find passes items ≡ at_place items (position passes items)
first_passes passes items = find_at passes items ∙ chosen items (position_or_len passes items) _ refl

pub passes_there : {A : Type 0} (passes : A → Bool) (items : List A) (place : ℕ) → Some place ≡ position passes items
    → find passes items ≡ slice_get items place
passes_there passes items place is = first_passes passes items ∙ ap (at_place items) (sym is)

pub passes_nowhere : {A : Type 0} (passes : A → Bool) (items : List A) → None ≡ position passes items → find passes items ≡ None
passes_nowhere passes items is = first_passes passes items ∙ ap (at_place items) (sym is)
