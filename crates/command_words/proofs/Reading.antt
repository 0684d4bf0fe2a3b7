-- What is read of a message, from the command that it asks for and from what that means.
use Rattle.std.proofs.Common.{◌≡◌, inl, inr, ◌&&◌, ◌||◌, ℕ, suc, List, [], ◌∷◌, ◌++◌, length, map, refl, sym, ap, ◌∙◌, subst}
use Rattle.std.proofs.lemmas.List.{length-map}
use Rattle.std.proofs.lemmas.List.Elements.{All-nil, All-cons}
use Rattle.std.specs.List.{All}
use Rattle.std.specs.Option.{option_or, unwrap_or}
use Rattle.std.specs.Prelude.{⊤, true, false, None, Some, option_map, codes, Result, Ok, Err, OnOk, IfOk, IfErr}
use Rattle.std.specs.Result.{result_unwrap_or}
use Rattle.std_words.specs.Steps.{◌>>=◌, fault_of}
use Rattle.bson_values.specs.declared.pairs.Pair.{Pair}
use Rattle.bson_values.specs.declared.space.Space.{Space}
use Rattle.bson_values.specs.declared.value.Value.{Value}
use Rattle.filter_syntax.specs.declared.filter.Filter.{Filter}
use Rattle.naming.specs.Names.{is_valid, is_database_name, is_collection_name}
use Rattle.doc_model.specs.declared.op.Modify.{Modify}
use Rattle.doc_model.specs.declared.op.Op.{Op}
use Rattle.doc_model.specs.declared.op.Op.TheVariants as op
use Rattle.doc_model.specs.Named.{IsNamed}
use Rattle.op_msg.specs.declared.message.Message.{Message}
use Rattle.command_words.specs.declared.command.Command.{Command}
use Rattle.command_words.specs.declared.command.Command.TheVariants as command
use Rattle.command_words.specs.declared.refused.CommandRefused.{CommandRefused}
use Rattle.command_words.specs.declared.refused.CommandRefused.TheVariants.{Refused, NoMemory}
use Rattle.command_words.specs.declared.word.Word.{Word}
use Rattle.command_words.specs.declared.word.Word.TheVariants as word
use Rattle.command_words.specs.Tables.{shape_of}
use Rattle.command_words.specs.Body.{documents_of, field_or, truth_or, text_of, word_in, db_of, coll_of}
use Rattle.command_words.specs.Meaning.{AreNamed, AreFew, IsFew, meaning, meaning_of, command_of, space_of, filter_in, count_in}
use Rattle.command_words.specs.Meaning.{update_in, update_of, delete_of, change_in, order_in, shape_in, query_in, batch_in}
use Rattle.doc_shape.specs.Keys.{Way}
use Rattle.doc_shape.specs.Reading.{path_of}
use Rattle.doc_shape.specs.declared.shape.Shape.{Shape}
use Rattle.filter_syntax.specs.Operands.{single, each}
use Rattle.command_words.specs.Refusal.{Tells, may_be_items, form_refusal, refusal}
use Rattle.command_words.specs.Told.{Asks, Gives}
use Rattle.command_words.proofs.Few.{inserts_few, updates_few, deletes_few, bounds}

-- ---- names and numbers of what is meant

inserts_named : (space : Space) → is_valid space ≡ true → (docs : List (List (Pair Value))) → All IsNamed (map (op.Insert space) docs)
inserts_named space is [] = All-nil IsNamed
inserts_named space is (doc ∷ docs) = All-cons IsNamed (op.Insert space doc) (map (op.Insert space) docs) is (inserts_named space is docs)

-- what holds of what is made of each holds of all, and these are as many
all_made : {X Y : Type 0} (P : Y → Type 0) (read : X → Result Y ℕ) → ((x : X) → IfOk (read x) P) → (xs : List X)
    → IfOk (each read xs) (λ ys. All P ys × (length ys ≡ length xs))
all_made P read is [] = (All-nil P, refl)
all_made {X} {Y} P read is (x ∷ xs) = by (read x) (each read xs) (is x) (all_made P read is xs)
  where
    by : (one : Result Y ℕ) (more : Result (List Y) ℕ) → IfOk one P → IfOk more (λ ys. All P ys × (length ys ≡ length xs))
        → IfOk (single one >>= λ ys. more >>= λ zs. Ok (ys ++ zs)) (λ ys. All P ys × (length ys ≡ length (x ∷ xs)))
    by (Ok y) (Ok ys) first others = (All-cons P y ys first others.0, ap suc others.1)
    by (Err kind) more first others = tt
    by (Ok y) (Err kind) first others = tt

-- what holds of the command that one makes of an operand holds where the operand is refused too
of_operand : {A B : Type 0} (P : B → Type 0) (found : Result A ℕ) (make : A → B) → IfOk found (λ it. P (make it))
    → IfOk (found >>= λ it. Ok (make it)) P
of_operand P (Ok it) make is = is
of_operand P (Err kind) make is = tt

always : {A : Type 0} (P : A → Type 0) (found : Result A ℕ) → ((it : A) → P it) → IfOk found P
always P (Ok it) is = is it
always P (Err kind) is = tt

of_any : {A B : Type 0} (P : B → Type 0) (found : Result A ℕ) (make : A → B) → ((it : A) → P (make it))
    → IfOk (found >>= λ it. Ok (make it)) P
of_any P found make is = of_operand P found make (always (λ it. P (make it)) found is)

-- and so where the rest reads another operand
of_rest : {A B : Type 0} (P : B → Type 0) (found : Result A ℕ) (rest : A → Result B ℕ) → ((it : A) → IfOk (rest it) P)
    → IfOk (found >>= rest) P
of_rest P (Ok it) rest is = is it
of_rest P (Err kind) rest is = tt

of_operands : {A B C : Type 0} (P : C → Type 0) (found : Result A ℕ) (other : Result B ℕ) (make : A → B → C)
    → ((it : A) (one : B) → P (make it one)) → IfOk (found >>= λ it. other >>= λ one. Ok (make it one)) P
of_operands P found other make is =
    of_rest P found (λ it. other >>= λ one. Ok (make it one)) (λ it. of_any P other (make it) (is it))

-- what a findAndModify is made of
abbrev modified : Message → Filter → List Way → Modify → Shape → Command
modified m filter order change shape = command.FindAndModify (op.FindAndModify (space_of m) filter order change
    (truth_or false m.body (codes "new")) (truth_or false m.body (codes "upsert")) shape)

of_modify : (P : Command → Type 0) (m : Message)
    → ((filter : Filter) (order : List Way) (change : Modify) (shape : Shape) → P (modified m filter order change shape))
    → IfOk (meaning word.FindAndModify m) P
of_modify P m is = of_rest P (filter_in m.body (codes "query")) _
    (λ filter. of_rest P (order_in m.body (codes "sort")) _
    (λ order. of_operands P (change_in m.body) (shape_in m.body (codes "fields")) (modified m filter order) (is filter order)))

update_named : (space : Space) → is_valid space ≡ true → (item : List (Pair Value)) → IfOk (update_of space item) IsNamed
update_named space is item = of_operands IsNamed (filter_in item (codes "q"))
    (update_in (truth_or false item (codes "multi")) item (codes "u"))
    (λ filter update. op.Update space filter update (truth_or false item (codes "multi")) (truth_or false item (codes "upsert")))
    (λ filter update. is)

delete_named : (space : Space) → is_valid space ≡ true → (item : List (Pair Value)) → IfOk (delete_of space item) IsNamed
delete_named space is item = of_any IsNamed (filter_in item (codes "q"))
    (λ filter. op.Delete space filter (truth_or false item (codes "limit"))) (λ filter. is)

-- of the operations of a command's items
of_items : (P : Command → Type 0) (Q : List Op → Type 0) (found : Result (List Op) ℕ) (make : List Op → Command)
    → ((ops : List Op) → Q ops → P (make ops)) → IfOk found Q → IfOk (found >>= λ ops. Ok (make ops)) P
of_items P Q (Ok ops) make is holds = is ops holds
of_items P Q (Err kind) make is holds = tt

abbrev AreAll : (Op → Type 0) → List (List (Pair Value)) → List Op → Type 0
AreAll P docs ops = All P ops × (length ops ≡ length docs)

are_named : (word : Word) (m : Message)
    → (is_database_name (db_of m) && ((shape_of word).free || is_collection_name (db_of m) (coll_of m))) ≡ true
    → IfOk (meaning word m) AreNamed
unfolding shape_of space_of
are_named word.Ping m is = tt
are_named word.Insert m is = inserts_named (space_of m) is (documents_of m (codes "documents"))
are_named word.Update m is =
    let docs = documents_of m (codes "updates") in
    of_items AreNamed (AreAll IsNamed docs) (each (update_of (space_of m)) docs)
    (λ ops. command.Update ops (truth_or true m.body (codes "ordered"))) (λ ops holds. holds.0)
    (all_made IsNamed (update_of (space_of m)) (update_named (space_of m) is) docs)
are_named word.Delete m is =
    let docs = documents_of m (codes "deletes") in
    of_items AreNamed (AreAll IsNamed docs) (each (delete_of (space_of m)) docs)
    (λ ops. command.Delete ops (truth_or true m.body (codes "ordered"))) (λ ops holds. holds.0)
    (all_made IsNamed (delete_of (space_of m)) (delete_named (space_of m) is) docs)
are_named word.FindAndModify m is = of_modify AreNamed m (λ filter order change shape. is)
are_named word.Find m is = of_any AreNamed (query_in m.body) (λ query. command.Find (op.Find (space_of m) query) (batch_in m.body))
    (λ query. (is, tt))
are_named word.Count m is = of_any AreNamed (filter_in m.body (codes "query"))
    (λ filter. command.Count (op.Count (space_of m) filter (count_in m.body (codes "skip")) (count_in m.body (codes "limit"))))
    (λ filter. (is, tt))
are_named word.Distinct m is = of_operands AreNamed (path_of (field_or [] text_of m.body (codes "key"))) (filter_in m.body (codes "query"))
    (λ path filter. command.Distinct (op.Distinct (space_of m) path filter)) (λ path filter. (is, tt))

-- as many operations as items
as_many : (docs : List (List (Pair Value))) → may_be_items (length docs) ≡ true → (ops : List Op) → length ops ≡ length docs → IsFew ops
as_many docs few ops same = bounds (length ops) (ap may_be_items same ∙ few)

are_few : (word : Word) (m : Message) → form_refusal m ≡ None → word_in m.body ≡ Some word → IfOk (meaning word m) AreFew
are_few word.Ping m form is = tt
are_few word.Insert m form is =
    let docs = documents_of m (codes "documents") in
    as_many docs (inserts_few m form is) (map (op.Insert (space_of m)) docs) (length-map docs (op.Insert (space_of m)))
are_few word.Update m form is =
    let docs = documents_of m (codes "updates") in
    of_items AreFew (AreAll (λ op. ⊤) docs) (each (update_of (space_of m)) docs)
    (λ ops. command.Update ops (truth_or true m.body (codes "ordered"))) (λ ops holds. as_many docs (updates_few m form is) ops holds.1)
    (all_made (λ op. ⊤) (update_of (space_of m)) (λ item. always (λ op. ⊤) (update_of (space_of m) item) (λ op. tt)) docs)
are_few word.Delete m form is =
    let docs = documents_of m (codes "deletes") in
    of_items AreFew (AreAll (λ op. ⊤) docs) (each (delete_of (space_of m)) docs)
    (λ ops. command.Delete ops (truth_or true m.body (codes "ordered"))) (λ ops holds. as_many docs (deletes_few m form is) ops holds.1)
    (all_made (λ op. ⊤) (delete_of (space_of m)) (λ item. always (λ op. ⊤) (delete_of (space_of m) item) (λ op. tt)) docs)
are_few word.FindAndModify m form is = of_modify AreFew m (λ filter order change shape. tt)
are_few word.Find m form is = of_any AreFew (query_in m.body) (λ query. command.Find (op.Find (space_of m) query) (batch_in m.body))
    (λ query. tt)
are_few word.Count m form is = of_any AreFew (filter_in m.body (codes "query"))
    (λ filter. command.Count (op.Count (space_of m) filter (count_in m.body (codes "skip")) (count_in m.body (codes "limit"))))
    (λ filter. tt)
are_few word.Distinct m form is = of_operands AreFew (path_of (field_or [] text_of m.body (codes "key"))) (filter_in m.body (codes "query"))
    (λ path filter. command.Distinct (op.Distinct (space_of m) path filter)) (λ path filter. tt)

-- ---- from what is asked and what it means to what is read

of_word : (m : Message) (word : Word) → word_in m.body ≡ Some word → meaning_of m ≡ meaning word m
of_word m word is = ap (λ found. unwrap_or (option_map (λ one. meaning one m) found) (Ok command.Ping)) is

-- behind a form that is in order only an operand is refused
of_form : (m : Message) → form_refusal m ≡ None → refusal m ≡ fault_of (meaning_of m)
of_form m form = ap (λ one. option_or one (fault_of (meaning_of m))) form

pub accepted : (m : Message) (word : Word) (found : Result Command CommandRefused) → Asks m (Ok word) → Gives found (meaning word m)
    → OnOk found (refusal m ≡ None)
accepted m word (Ok it) (form, is, named) gives = of_form m form ∙ ap fault_of (of_word m word is ∙ gives)
accepted m word (Err why) asks gives = tt

pub means : (m : Message) (word : Word) (found : Result Command CommandRefused) → Asks m (Ok word) → Gives found (meaning word m)
    → IfOk found (λ it. it ≡ command_of m)
means m word (Ok it) (form, is, named) gives = sym (ap (λ all. result_unwrap_or all command.Ping) (of_word m word is ∙ gives))
means m word (Err why) asks gives = tt

pub refused : (m : Message) (word : Word) (found : Result Command CommandRefused) → Asks m (Ok word) → Gives found (meaning word m)
    → IfErr found (λ why. Tells why m)
refused m word (Ok it) asks gives = tt
refused m word (Err (Refused kind)) (form, is, named) gives = of_form m form ∙ ap fault_of (of_word m word is ∙ gives)
refused m word (Err NoMemory) (form, is, named) gives = inl form

pub named : (m : Message) (word : Word) (found : Result Command CommandRefused) → Asks m (Ok word) → Gives found (meaning word m)
    → IfOk found AreNamed
named m word (Ok it) (form, is, valid) gives = subst (λ all. IfOk all AreNamed) gives (are_named word m valid)
named m word (Err why) asks gives = tt

pub few : (m : Message) (word : Word) (found : Result Command CommandRefused) → Asks m (Ok word) → Gives found (meaning word m)
    → IfOk found AreFew
few m word (Ok it) (form, is, valid) gives = subst (λ all. IfOk all AreFew) gives (are_few word m form is)
few m word (Err why) asks gives = tt

-- what is told of a message that asks for no command
pub asks_tells : (why : CommandRefused) (m : Message) → Asks m (Err why) → Tells why m
asks_tells (Refused kind) m is = ap (λ one. option_or one (fault_of (meaning_of m))) is
asks_tells NoMemory m is = inr is

-- for the clauses of `Command::read`
pub ruleset by_clause = (accepted, means, refused, named, few, asks_tells)
