use Rattle.doc_paths.proofs.Cuts.{uncut, cut_at, shorter_after}
use Rattle.doc_paths.proofs.path.cut_once.Goals as goal

pub returns : goal.returns
returns c = record { none = uncut c.args.text.now c.split_once.result c.split_once.ensures.cases; cut = cut_at c.args.text.now c.split_once.result c.split_once.ensures.cases; shorter = shorter_after c.args.text.now c.split_once.result c.split_once.ensures.cases }
