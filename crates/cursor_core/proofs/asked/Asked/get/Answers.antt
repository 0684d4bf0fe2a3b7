use Rattle.cursor_core.proofs.Entries.{got}
use Rattle.cursor_core.proofs.asked.Asked.get.Goals as goal

pub returns-in-Some : goal.returns-in-Some
returns-in-Some c = rw (← c.self.view_is, c.in-Some.is) (got c.args.id c.peek.result c.in-Some.cache.entries c.peek.ensures)
