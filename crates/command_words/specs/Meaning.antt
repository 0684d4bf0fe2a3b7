-- What a message asks for whose form is in order, or the kind by which the first of its operands is refused.
use Rattle.std.specs.Prelude.{ℕ, unsigned_abs, ◌≤◌, ⊤, Bool, true, false, if◌then◌else◌, List, [], length, map}
use Rattle.std.specs.Prelude.{Option, None, Some, option_map, codes, Result, Ok, Err}
use Rattle.std.specs.List.{All}
use Rattle.std.specs.Option.{unwrap_or}
use Rattle.std.specs.Result.{result_unwrap_or}
use Rattle.std_words.specs.Steps.{◌>>=◌}
use Rattle.bson_values.specs.declared.pairs.Pair.{Pair}
use Rattle.bson_values.specs.declared.space.Space.{Space}
use Rattle.bson_values.specs.declared.value.Value.{Value}
use Rattle.doc_shape.specs.Keys.{Way}
use Rattle.doc_shape.specs.Reading.{path_of, read_order, read_shape}
use Rattle.doc_shape.specs.declared.shape.Shape.{Shape}
use Rattle.filter_syntax.specs.declared.filter.Filter.{Filter}
use Rattle.filter_syntax.specs.Operands.{each}
use Rattle.filter_syntax.specs.Reading.{read}
use Rattle.update_syntax.specs.declared.update.Update.{Update}
use Rattle.update_syntax.specs.Reading.{read_in}
use Rattle.doc_model.specs.declared.op.Modify.{Modify}
use Rattle.doc_model.specs.declared.op.Modify.TheVariants.{Remove, Change}
use Rattle.doc_model.specs.declared.op.Op.{Op}
use Rattle.doc_model.specs.declared.op.Query.{Query}
use Rattle.doc_model.specs.declared.op.Op.TheVariants as op
use Rattle.doc_model.specs.Named.{IsNamed, IsRead}
use Rattle.op_msg.specs.declared.message.Message.{Message}
use Rattle.command_words.specs.declared.command.Command.{Command}
use Rattle.command_words.specs.declared.command.Command.TheVariants as command
use Rattle.command_words.specs.declared.word.Word.{Word}
use Rattle.command_words.specs.declared.word.Word.TheVariants as word
use Rattle.command_words.specs.Body.{pairs_of, text_of, whole_of, field_or, truth_or, documents_of, word_in, db_of, coll_of}

-- the collection that stands beside the command's name, in the message's database
unfoldable pub space_of : Message → Space
space_of m = record { db = db_of m; coll = coll_of m }

-- the filter that the field of that name reads as; an empty one stands for none
abbrev pub filter_in : List (Pair Value) → List ℕ → Result Filter ℕ
filter_in fields name = read (field_or [] pairs_of fields name)

-- the sort that the field of that name reads as, and the projection; an empty document stands for none
abbrev pub order_in : List (Pair Value) → List ℕ → Result (List Way) ℕ
order_in fields name = read_order (field_or [] pairs_of fields name)

abbrev pub shape_in : List (Pair Value) → List ℕ → Result Shape ℕ
shape_in fields name = read_shape (field_or [] pairs_of fields name)

-- the whole number in the field of that name, without its sign; 0 stands for none
abbrev pub count_in : List (Pair Value) → List ℕ → ℕ
count_in fields name = field_or 0 (λ it. unsigned_abs (whole_of it)) fields name

-- the most documents of a batch; 101 stands for none
abbrev pub batch_in : List (Pair Value) → ℕ
batch_in fields = field_or 101 (λ it. unsigned_abs (whole_of it)) fields (codes "batchSize")

-- where the first batch is all that is asked for, the documents are cut to it
abbrev pub cut_in : List (Pair Value) → Option ℕ
cut_in fields = if truth_or false fields (codes "singleBatch") then Some (batch_in fields) else None

-- what a find shows
abbrev pub query_in : List (Pair Value) → Result Query ℕ
query_in body = filter_in body (codes "filter") >>= λ filter. order_in body (codes "sort")
    >>= λ order. shape_in body (codes "projection")
    >>= λ shape. Ok (record {
      filter = filter;
      order = order;
      skip = count_in body (codes "skip");
      limit = count_in body (codes "limit");
      shape = shape;
      cut = cut_in body;
    })

-- the update that the field of that name reads as, of all documents with `multi`
abbrev pub update_in : Bool → List (Pair Value) → List ℕ → Result Update ℕ
update_in multi fields name = field_or (Err 14) (read_in multi) fields name

-- an item of an update, and of a delete
abbrev pub update_of : Space → List (Pair Value) → Result Op ℕ
update_of space item = filter_in item (codes "q") >>= λ filter. update_in (truth_or false item (codes "multi")) item (codes "u")
    >>= λ update. Ok (op.Update space filter update (truth_or false item (codes "multi")) (truth_or false item (codes "upsert")))

abbrev pub delete_of : Space → List (Pair Value) → Result Op ℕ
delete_of space item = filter_in item (codes "q") >>= λ filter. Ok (op.Delete space filter (truth_or false item (codes "limit")))

-- what a findAndModify does
abbrev pub change_in : List (Pair Value) → Result Modify ℕ
change_in body =
    if truth_or false body (codes "remove") then Ok Remove else (update_in false body (codes "update") >>= λ update. Ok (Change update))

-- by the command; operands are read in the order of its fields
abbrev pub meaning : Word → Message → Result Command ℕ
meaning word.Ping m = Ok command.Ping
meaning word.Insert m =
    Ok (command.Insert (map (op.Insert (space_of m)) (documents_of m (codes "documents"))) (truth_or true m.body (codes "ordered")))
meaning word.Update m = each (update_of (space_of m)) (documents_of m (codes "updates"))
    >>= λ ops. Ok (command.Update ops (truth_or true m.body (codes "ordered")))
meaning word.Delete m = each (delete_of (space_of m)) (documents_of m (codes "deletes"))
    >>= λ ops. Ok (command.Delete ops (truth_or true m.body (codes "ordered")))
meaning word.FindAndModify m = filter_in m.body (codes "query") >>= λ filter. order_in m.body (codes "sort")
    >>= λ order. change_in m.body >>= λ change. shape_in m.body (codes "fields")
    >>= λ shape. Ok (command.FindAndModify (op.FindAndModify (space_of m) filter order change (truth_or false m.body (codes "new"))
    (truth_or false m.body (codes "upsert")) shape))
meaning word.Find m = query_in m.body >>= λ query. Ok (command.Find (op.Find (space_of m) query) (batch_in m.body))
meaning word.Count m = filter_in m.body (codes "query")
    >>= λ filter. Ok (command.Count (op.Count (space_of m) filter (count_in m.body (codes "skip")) (count_in m.body (codes "limit"))))
meaning word.Distinct m = path_of (field_or [] text_of m.body (codes "key"))
    >>= λ path. filter_in m.body (codes "query") >>= λ filter. Ok (command.Distinct (op.Distinct (space_of m) path filter))

-- by the command that the message names
abbrev pub meaning_of : Message → Result Command ℕ
meaning_of m = unwrap_or (option_map (λ one. meaning one m) (word_in m.body)) (Ok command.Ping)

-- what a message means that is not refused
abbrev pub command_of : Message → Command
command_of m = result_unwrap_or (meaning_of m) command.Ping

-- the spaces of a command's operations have names that a database and a collection may have, and one that reads reads alone
abbrev pub AreNamed : Command → Type 0
AreNamed command.Ping = ⊤
AreNamed (command.Insert ops ordered) = All IsNamed ops
AreNamed (command.Update ops ordered) = All IsNamed ops
AreNamed (command.Delete ops ordered) = All IsNamed ops
AreNamed (command.FindAndModify one) = IsNamed one
AreNamed (command.Find one batch) = IsNamed one × IsRead one
AreNamed (command.Count one) = IsNamed one × IsRead one
AreNamed (command.Distinct one) = IsNamed one × IsRead one

-- an insert, an update or a delete has 1 to 1,000 operations
abbrev pub IsFew : List Op → Type 0
IsFew ops = (1 ≤ length ops) × (length ops ≤ 1000)

abbrev pub AreFew : Command → Type 0
AreFew (command.Insert ops ordered) = IsFew ops
AreFew (command.Update ops ordered) = IsFew ops
AreFew (command.Delete ops ordered) = IsFew ops
AreFew other = ⊤
