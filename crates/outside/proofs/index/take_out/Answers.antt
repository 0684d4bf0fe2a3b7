use Rattle.outside.proofs.Finding.{left}
use Rattle.outside.proofs.index.take_out.Goals as goal

pub returns-in-Some : goal.returns-in-Some
returns-in-Some c = λ rows same it is.
    left c.args.key.now rows c.in-Some.index c.remove.new.self it (same c.in-Some.index c.in-Some.is) c.remove.ensures.entries is
