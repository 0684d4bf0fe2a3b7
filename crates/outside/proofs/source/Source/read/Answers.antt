use Rattle.std.proofs.Common.{arith}
use Rattle.std.proofs.lemmas.Grind.{common_steps}
use Rattle.std.proofs.lemmas.List.{drop-drop}
use Rattle.std_words.proofs.Parts.{take-further}
use Rattle.outside.proofs.source.Source.read.Goals as goal

pub returns : goal.returns
returns c = record {
  len = c.read_len-count.ensures;
  buffer = rw (← c.self.view_is) (grind (arith, common_steps));
  source = rw (← c.self.view_is) (grind (arith, common_steps, take-further, drop-drop));
}
