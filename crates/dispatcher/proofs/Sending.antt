-- Replies that go into one message.
use Rattle.std.proofs.Common.{◌≡◌, ◌+◌, ◌≤◌, true, leb, length, length-append, arith}
use Rattle.std.specs.Prelude.{codes, ◌++◌}
use Rattle.std.proofs.lemmas.Bool.{leb-true}
use Rattle.std_words.proofs.Tests.{and-both}
use Rattle.bson_values.specs.declared.space.Space.{Space}
use Rattle.naming.specs.Names.{is_database_name, is_collection_name, is_valid}
use Rattle.reply_words.specs.Replies.{namespace}

-- the full name of a collection that may be
pub is_short : (space : Space) → is_valid space ≡ true → length (namespace space) ≤ 255
is_short space valid =
    let named = (and-both (is_database_name space.db) (is_collection_name space.db space.coll) valid).1 in
    let all : length space.db + 1 + length space.coll ≤ 255 = leb-true _ _
    ((and-both _ (leb (length space.db + 1 + length space.coll) 255) named).1) in
    omega (arith, all, length-append (space.db ++ codes ".") space.coll, length-append space.db (codes "."))
