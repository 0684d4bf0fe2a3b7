use Rattle.cli_words.proofs.Refused.{has_cause}
use Rattle.cli_words.proofs.reading.matches.Goals as goal

pub returns-in-Err-clause-bad : goal.returns-in-Err-clause-bad
returns-in-Err-clause-bad c = has_cause _ c.in-Err.error c.refused.result (c.in-Err.ensures.kinds c.requires) c.refused.ensures.memory
