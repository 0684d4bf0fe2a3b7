use Rattle.update_apply.proofs.Noted.{noted_more}
use Rattle.update_apply.proofs.sets.note.Goals as goal

pub returns-in-Ok : goal.returns-in-Ok
returns-in-Ok c = noted_more c.args.seen.now c.insert.new.self (record { value = c.args.it }) c.in-Ok.ensures.updates.0
