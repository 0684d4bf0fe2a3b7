-- An insert, an update and a delete whose form is in order have 1 to 1,000 items.
use Prim.Native.String.{String}
use Rattle.std.proofs.Common.{◌≡◌, ◌≤◌, ℕ, Bool, true, false, cond, not, ◌&&◌, ◌||◌, zero, suc}
use Rattle.std.proofs.Common.{List, [], ◌∷◌, length, get_or, refl, sym, ap, ◌∙◌}
use Rattle.std.proofs.lemmas.Bool.{leb-true}
use Rattle.std.proofs.lemmas.List.{length-map}
use Rattle.std.proofs.lemmas.Slice.Eq.{bytes_eq-Decides}
use Rattle.std.specs.Prelude.{Option, None, Some, is_some, is_none, IfSome, find, option_map, codes, drop, if◌then◌else◌}
use Rattle.std.specs.List.{list_any}
use Rattle.std.specs.Option.{option_or, unwrap_or}
use Rattle.std.specs.Str.{bytes_eq}
use Rattle.std_words.proofs.Tests.{and-both, or-not-first}
use Rattle.std_words.specs.Reasons.{when, first, first_of_all}
use Rattle.bson_values.specs.Names.{first_of}
use Rattle.bson_values.specs.declared.pairs.Pair.{Pair}
use Rattle.bson_values.specs.declared.value.Value.{Value}
use Rattle.bson_values.specs.declared.value.Value.TheViews.{out-Value}
use Rattle.op_msg.specs.declared.message.Message.{Message}
use Rattle.op_msg.specs.declared.message.Sequence.{Sequence}
use Rattle.command_words.specs.declared.takes.Takes.{Takes}
use Rattle.command_words.specs.declared.takes.Takes.TheVariants.{Documents, Items}
use Rattle.command_words.specs.declared.takes.Item.TheVariants as item
use Rattle.command_words.specs.declared.word.Word.{Word}
use Rattle.command_words.specs.declared.word.Word.TheVariants.{Insert, Update, Delete}
use Rattle.command_words.specs.Tables.{commands, shape_of, must}
use Rattle.command_words.specs.Body.{values_in, documents_in, sequence_of, documents_of, word_in}
use Rattle.command_words.specs.Refusal.{may_be_items, has_type, in_range, takes_of, value_refusal, field_refusal, sequence_refusal}
use Rattle.command_words.specs.Refusal.{items_refusal, items_lack, fields_in, sequences_in, is_absent, is_lacking, field_reasons}
use Rattle.command_words.specs.Refusal.{word_reasons, form_refusal}

-- ---- where there is no reason

no_first : {A : Type 0} (one other : Option A) → option_or one other ≡ None → one ≡ None
no_first None other is = refl
no_first (Some it) other is = absurd cc

no_later : {A : Type 0} (one other : Option A) → option_or one other ≡ None → other ≡ None
no_later None other is = is
no_later (Some it) other is = absurd cc

-- the reason at a place is none
none_of : {A : Type 0} (reasons : List (Option A)) (place : ℕ) → first reasons ≡ None → get_or reasons place None ≡ None
none_of [] zero is = refl
none_of [] (suc place) is = refl
none_of (one ∷ more) zero is = no_first one (first more) is
none_of (one ∷ more) (suc place) is = none_of more place (no_later one (first more) is)

passed : (test : Bool) (kind : ℕ) → when (not test) kind ≡ None → test ≡ true
passed true kind is = refl
passed false kind is = absurd cc

not_so : (test : Bool) (kind : ℕ) → when test kind ≡ None → test ≡ false
not_so true kind is = absurd cc
not_so false kind is = refl

chosen : {A : Type 0} (P : A → Type 0) (it : A) (here : Bool) (found : Option A) → (here ≡ true → P it) → IfSome found P
    → IfSome (cond here (Some it) found) P
chosen P it true found now later = now refl
chosen P it false found now later = later

-- where none of some things gives a reason, what is found among them gives none
found_passes : {A B : Type 0} (reason : A → Option B) (test : A → Bool) (all : List A) → first_of_all reason all ≡ None
    → IfSome (find test all) (λ it. (test it ≡ true) × (reason it ≡ None))
found_passes reason test [] is = tt
found_passes {A} reason test (it ∷ all) is =
    chosen (λ (one : A). (test one ≡ true) × (reason one ≡ None)) it (test it) (find test all)
    (λ here. (here, no_first (reason it) (first_of_all reason all) is))
    (found_passes reason test all (no_later (reason it) (first_of_all reason all) is))

-- ---- the items of a command

-- the field of that name holds the items of the command, and has to be there
pub record Holds (word : Word) (name : List ℕ) (takes : Takes) : Type 0 where
  pub taken : takes_of word name ≡ takes
  pub apart : (value : Value) (fields : List (Pair Value)) → word_in (record { name = name; value = value } ∷ fields) ≡ None
  pub value_few : (value : Value) → field_refusal takes (out-Value value) ≡ None
      → may_be_items (length (values_in (out-Value value))) ≡ true
  pub docs_few : (docs : List (List (Pair Value))) → sequence_refusal takes docs ≡ None → may_be_items (length docs) ≡ true
  pub there : (m : Message) → list_any (is_lacking m) (shape_of word).fields ≡ false
      → (is_none (first_of name m.body) && is_none (sequence_of m.sequences name)) ≡ false

abbrev is_named : List ℕ → List ℕ → Bool
is_named name one = bytes_eq one name

abbrev FieldPasses : Word → List ℕ → Pair Value → Type 0
FieldPasses word name it = (is_named name it.name ≡ true) × (field_refusal (takes_of word it.name) (out-Value it.value) ≡ None)

abbrev ValueIsFew : Value → Type 0
ValueIsFew value = may_be_items (length (values_in (out-Value value))) ≡ true

same_takes : (word : Word) (name one : List ℕ) (takes : Takes) → takes_of word name ≡ takes → is_named name one ≡ true
    → takes_of word one ≡ takes
same_takes word name one takes taken is = ap (takes_of word) ((bytes_eq-Decides one name).0 is) ∙ taken

field_few : (word : Word) (name : List ℕ) (takes : Takes) → Holds word name takes → (found : Option (Pair Value))
    → IfSome found (FieldPasses word name) → IfSome (option_map (λ (it : Pair Value). it.value) found) ValueIsFew
field_few word name takes holds None passes = tt
field_few word name takes holds (Some field) passes =
    holds.value_few field.value
    (sym (ap (λ takes. field_refusal takes (out-Value field.value)) (same_takes word name field.name takes holds.taken passes.0))
    ∙ passes.1)

-- the command's name is another
is_apart : (P : Type 0) (word : Word) (name : List ℕ) (takes : Takes) → Holds word name takes → (field : Pair Value)
    (fields : List (Pair Value)) → word_in (field ∷ fields) ≡ Some word → is_named name field.name ≡ true → P
is_apart P word name takes holds field fields is here =
    let same = ap (λ text. word_in (record { name = text; value = field.value } ∷ fields)) ((bytes_eq-Decides field.name name).0 here) in
    absurd (cc (sym is ∙ same ∙ holds.apart field.value fields))

body_few : (word : Word) (name : List ℕ) (takes : Takes) → Holds word name takes → (body : List (Pair Value)) → word_in body ≡ Some word
    → fields_in word (drop 1 body) ≡ None → IfSome (first_of name body) ValueIsFew
body_few word name takes holds [] is fine = tt
body_few word name takes holds (field ∷ fields) is fine =
    field_few word name takes holds (find (λ (it : Pair Value). is_named name it.name) (field ∷ fields))
    (chosen (FieldPasses word name) field (is_named name field.name) (find (λ (it : Pair Value). is_named name it.name) fields)
    (is_apart (FieldPasses word name field) word name takes holds field fields is)
    (found_passes (λ (it : Pair Value). field_refusal (takes_of word it.name) (out-Value it.value))
    (λ (it : Pair Value). is_named name it.name) fields fine))

abbrev DocsAreFew : List (List (Pair Value)) → Type 0
DocsAreFew docs = may_be_items (length docs) ≡ true

abbrev SequencePasses : Word → List ℕ → Sequence → Type 0
SequencePasses word name it = (is_named name it.name ≡ true) × (sequence_refusal (takes_of word it.name) it.docs ≡ None)

sequence_few : (word : Word) (name : List ℕ) (takes : Takes) → Holds word name takes → (found : Option Sequence)
    → IfSome found (SequencePasses word name) → IfSome (option_map (λ (it : Sequence). it.docs) found) DocsAreFew
sequence_few word name takes holds None passes = tt
sequence_few word name takes holds (Some it) passes =
    holds.docs_few it.docs
    (sym (ap (λ takes. sequence_refusal takes it.docs) (same_takes word name it.name takes holds.taken passes.0)) ∙ passes.1)

sequences_few : (word : Word) (name : List ℕ) (takes : Takes) → Holds word name takes → (all : List Sequence)
    → sequences_in word all ≡ None → IfSome (sequence_of all name) DocsAreFew
sequences_few word name takes holds all fine =
    sequence_few word name takes holds (find (λ (it : Sequence). is_named name it.name) all)
    (found_passes (λ (it : Sequence). sequence_refusal (takes_of word it.name) it.docs) (λ (it : Sequence). is_named name it.name) all fine)

-- one of the two is there
either_few : (value : Option Value) (beside : Option (List (List (Pair Value)))) → IfSome value ValueIsFew → IfSome beside DocsAreFew
    → (is_none value && is_none beside) ≡ false
    → DocsAreFew (unwrap_or (option_or (option_map (λ it. documents_in (out-Value it)) value) beside) [])
either_few (Some value) beside here later there = ap may_be_items (length-map (values_in (out-Value value)) _) ∙ here
either_few None (Some docs) here later there = later
either_few None None here later there = absurd cc

-- from the reasons of the message
items_few : (word : Word) (name : List ℕ) (takes : Takes) → Holds word name takes → (shape_of word).free ≡ false → (m : Message)
    → form_refusal m ≡ None → word_in m.body ≡ Some word → DocsAreFew (documents_of m name)
items_few word name takes holds full m form is =
    let words = sym (ap (λ found. unwrap_or (option_map (λ word. first (word_reasons word m)) found) (Some 25)) is)
    ∙ no_first _ None (no_later (when (is_some m.foreign) 2) _ form) in
    let fields = sym (ap (λ free. if free then None else first (field_reasons word m)) full) ∙ none_of (word_reasons word m) 4 words in
    either_few (first_of name m.body) (sequence_of m.sequences name)
    (body_few word name takes holds m.body is (none_of (field_reasons word m) 1 fields))
    (sequences_few word name takes holds m.sequences (none_of (field_reasons word m) 2 fields))
    (holds.there m (not_so (list_any (is_lacking m) (shape_of word).fields) 14 (none_of (field_reasons word m) 3 fields)))

-- ---- the commands with items

-- a value of the right type and in range
in_bounds : (takes : Takes) (value : Value) → field_refusal takes (out-Value value) ≡ None → in_range takes (out-Value value) ≡ true
in_bounds takes value is =
    let own = no_first (value_refusal takes (out-Value value)) _ is in
    let fits = no_later (when (not (has_type takes (out-Value value))) 17) _ own in
    passed _ 8 (no_first (when (not (in_range takes (out-Value value))) 8) None fits)

-- a sequence of items, where so many may come
when_few : (few : Bool) (found : Option ℕ) → (if few then found else Some 8) ≡ None → few ≡ true
when_few true found is = refl
when_few false found is = absurd cc

-- the first row is that of the items
first_there : (m : Message) (takes : Takes) (name : String) (more : Bool) → (is_lacking m (must takes name) || more) ≡ false
    → (is_none (first_of (codes name) m.body) && is_none (sequence_of m.sequences (codes name))) ≡ false
first_there m takes name more is =
    or-not-first (is_absent m (must takes name)) (items_lack takes (documents_of m (codes name)))
    (or-not-first (is_lacking m (must takes name)) more is)

inserts : Holds Insert (codes "documents") Documents
unfolding shape_of commands
inserts = record {
  taken = refl;
  apart = λ value fields. refl;
  value_few = λ value is. in_bounds Documents value is;
  docs_few = λ docs is. passed (may_be_items (length docs)) 8 is;
  there = λ m is. first_there m Documents "documents" _ is;
}

updates : Holds Update (codes "updates") (Items item.Update)
unfolding shape_of commands
updates = record {
  taken = refl;
  apart = λ value fields. refl;
  value_few = λ value is. in_bounds (Items item.Update) value is;
  docs_few = λ docs is. when_few (may_be_items (length docs)) (items_refusal (Items item.Update) docs) is;
  there = λ m is. first_there m (Items item.Update) "updates" _ is;
}

deletes : Holds Delete (codes "deletes") (Items item.Delete)
unfolding shape_of commands
deletes = record {
  taken = refl;
  apart = λ value fields. refl;
  value_few = λ value is. in_bounds (Items item.Delete) value is;
  docs_few = λ docs is. when_few (may_be_items (length docs)) (items_refusal (Items item.Delete) docs) is;
  there = λ m is. first_there m (Items item.Delete) "deletes" _ is;
}

pub inserts_few : (m : Message) → form_refusal m ≡ None → word_in m.body ≡ Some Insert → DocsAreFew (documents_of m (codes "documents"))
unfolding shape_of
inserts_few m form is = items_few Insert (codes "documents") Documents inserts refl m form is

pub updates_few : (m : Message) → form_refusal m ≡ None → word_in m.body ≡ Some Update → DocsAreFew (documents_of m (codes "updates"))
unfolding shape_of
updates_few m form is = items_few Update (codes "updates") (Items item.Update) updates refl m form is

pub deletes_few : (m : Message) → form_refusal m ≡ None → word_in m.body ≡ Some Delete → DocsAreFew (documents_of m (codes "deletes"))
unfolding shape_of
deletes_few m form is = items_few Delete (codes "deletes") (Items item.Delete) deletes refl m form is

pub bounds : (count : ℕ) → may_be_items count ≡ true → (1 ≤ count) × (count ≤ 1000)
bounds count is = let both = and-both _ _ is in (leb-true 1 count both.0, leb-true count 1000 both.1)
