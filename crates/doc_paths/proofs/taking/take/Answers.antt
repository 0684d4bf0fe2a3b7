use Rattle.std.proofs.Common.{rules, ◌≡◌, None, sym}
use Rattle.bson_values.specs.declared.value.Value.TheVariants as value
use Rattle.doc_paths.specs.Changes.{peeked}
use Rattle.doc_paths.proofs.Levels.{nothing_taken}
use Rattle.doc_paths.proofs.taking.take.Goals as goal

pub returns-then-is_none-clause-took : goal.returns-then-is_none-clause-took
returns-then-is_none-clause-took c =
    let none : peeked c.args.path.now (value.Doc c.args.doc.now) ≡ None = search rules in
    (sym (nothing_taken c.args.path.now c.args.doc.now none), sym none)
