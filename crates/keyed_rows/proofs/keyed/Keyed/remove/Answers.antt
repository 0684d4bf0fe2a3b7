use Rattle.std.proofs.Common.{◌∙◌, ap, sym}
use Rattle.std.specs.Prelude.{is_some}
use Rattle.keyed_rows.proofs.Finds.{is_found}
use Rattle.keyed_rows.proofs.Kept.{opened, closed, seen, looked, absent, taken, not_taken}
use Rattle.keyed_rows.proofs.keyed.Keyed.remove.Goals as goal

pub returns-in_err-place-clause-entries : goal.returns-in_err-place-clause-entries
returns-in_err-place-clause-entries g c =
    let keyed = opened c.self.invariant c.self.view_is in
    seen (not_taken keyed c.forget.new.index c.args.key.now
    (sym c.forget.ensures.place ∙ c.in_err-place.was) c.forget.ensures.others)

pub invariant_of-self-2 : goal.invariant_of-self-2
invariant_of-self-2 g c =
    let keyed = opened c.self.invariant c.self.view_is in
    closed (taken keyed c.remove.new.self c.forget.new.index c.args.key.now
    c.in_ok-place.place (sym c.forget.ensures.place ∙ c.in_ok-place.was) c.remove.ensures.entries c.forget.ensures.others)

pub returns-clause-found : goal.returns-clause-found
returns-clause-found g c =
    let keyed = opened c.self.invariant c.self.view_is in
    c.remove.ensures.value
    ∙ looked keyed c.args.key.now c.in_ok-place.place
    (sym c.forget.ensures.place ∙ c.in_ok-place.was)

pub returns-clause-entries : goal.returns-clause-entries
returns-clause-entries g c =
    let keyed = opened c.self.invariant c.self.view_is in
    seen (taken keyed c.remove.new.self c.forget.new.index c.args.key.now
    c.in_ok-place.place (sym c.forget.ensures.place ∙ c.in_ok-place.was) c.remove.ensures.entries c.forget.ensures.others)

pub returns-in_err-place-clause-there : goal.returns-in_err-place-clause-there
returns-in_err-place-clause-there g c =
    let keyed = opened c.self.invariant c.self.view_is in
    ap is_some c.from_residual.ensures ∙ sym (absent keyed c.args.key.now (sym c.forget.ensures.place ∙ c.in_err-place.was))

pub returns-clause-there : goal.returns-clause-there
returns-clause-there g c =
    let keyed = opened c.self.invariant c.self.view_is in
    ap is_some (c.remove.ensures.value ∙ looked keyed c.args.key.now c.in_ok-place.place (sym c.forget.ensures.place ∙ c.in_ok-place.was))
    ∙ is_found c.args.key.now c.args.self.now
