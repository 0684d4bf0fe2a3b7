use Rattle.filter_match.proofs.Below.{first_alone}
use Rattle.filter_match.proofs.tails.whole_path.Goals as goal

pub returns : goal.returns
returns c = λ k h. first_alone 100 k
