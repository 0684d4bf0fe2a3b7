use Rattle.std.proofs.Common.{◌≡◌, true, subst}
use Rattle.filter_syntax.specs.Meaning.{Doc}
use Rattle.update_syntax.specs.After.{id_of, keeps_id}
use Rattle.doc_effects.proofs.Renewing.{after_id, after_stored}
use Rattle.doc_effects.proofs.edits.renew.Goals as goal

pub exchange-requires-clause-id : goal.exchange-requires-clause-id
exchange-requires-clause-id c =
    subst (λ (old : Doc). keeps_id (id_of old) (id_of c.in_ok-new.new) ≡ true) c.requires.is_of
    (after_id c.args.update.now c.args.doc.now c.in_ok-new.new c.args.now c.in_ok-new.ensures.ok)

pub exchange-requires-clause-stored : goal.exchange-requires-clause-stored
exchange-requires-clause-stored c = after_stored c.args.update.now c.args.doc.now c.in_ok-new.new c.args.now c.in_ok-new.ensures.ok
