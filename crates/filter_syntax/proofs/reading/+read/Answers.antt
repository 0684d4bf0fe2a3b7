use Rattle.std.proofs.Common.{subst, sym, ap, ◌∙◌}
use Rattle.filter_syntax.specs.Answers.{Gives}
use Rattle.filter_syntax.specs.Operands.{has_dollar}
use Rattle.filter_syntax.proofs.Levels.{equal_doc}
use Rattle.filter_syntax.proofs.reading.+read.Goals as goal

pub read_operand-returns-else-has_dollar : goal.read_operand-returns-else-has_dollar
read_operand-returns-else-has_dollar t c =
    subst (Gives c.read_equal.result)
    (sym (equal_doc c.args.value.now c.in-Doc.doc c.in-Doc.is (sym (c.if-has_dollar.ensures ∙ ap has_dollar c.first_name.ensures))))
    c.read_equal.ensures
