use Rattle.std.proofs.Common.{ap, sym, ◌∙◌}
use Rattle.history_lock.proofs.history.History.begin_alone.Goals as goal

pub take_turn_alone-requires-clause-sits : goal.take_turn_alone-requires-clause-sits
take_turn_alone-requires-clause-sits g c =
    let sits = c.seat.invariant in (
      _,
      sits.origin,
      sits.some_parts,
      ap (λ v. v.parts) c.seat.view_is
          ∙ (c.requires.alone ∙ (sym (ap (λ h. h.parts) c.requires.history) ∙ sym (ap (λ v. v.history.parts) c.seat.view_is))),
    )
