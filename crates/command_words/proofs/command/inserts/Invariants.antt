use Rattle.std.proofs.Common.{◌≡◌, map}
use Rattle.doc_model.specs.declared.op.Op.TheVariants as op
use Rattle.command_words.proofs.command.inserts.Given as goal

abbrev pub invariant-loop-doc : goal.invariant-loop-doc
invariant-loop-doc l = l.ops ≡ map (op.Insert l.space) l.yielded
