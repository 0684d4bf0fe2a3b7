use Rattle.std.proofs.Common.{◌∙◌, ap, sym}
use Rattle.std.specs.Prelude.{is_some}
use Rattle.keyed_rows.proofs.Edits.{replaced_none}
use Rattle.keyed_rows.proofs.Kept.{opened, closed, seen, has, missed, stands_there, swapped, swapped_out}
use Rattle.keyed_rows.proofs.keyed.Keyed.replace.Goals as goal

pub swap-requires : goal.swap-requires
swap-requires g c =
    let keyed = opened c.self.invariant c.self.view_is in
    stands_there keyed c.args.key.now c.in-Some.place (sym c.in-Some.ensures)

pub invariant_of-self : goal.invariant_of-self
invariant_of-self g c =
    let keyed = opened c.self.invariant c.self.view_is in
    closed (swapped keyed c.swap.new.entries c.args.key.now c.in-Some.place
    c.swap.result c.args.value (sym c.in-Some.ensures) c.swap.ensures)

pub returns-in-Some-clause-was : goal.returns-in-Some-clause-was
returns-in-Some-clause-was g c =
    let keyed = opened c.self.invariant c.self.view_is in
    swapped_out keyed c.swap.new.entries c.args.key.now c.in-Some.place
    c.swap.result c.args.value (sym c.in-Some.ensures) c.swap.ensures

pub returns-in-Some-clause-entries : goal.returns-in-Some-clause-entries
returns-in-Some-clause-entries g c =
    let keyed = opened c.self.invariant c.self.view_is in
    seen (swapped keyed c.swap.new.entries c.args.key.now c.in-Some.place
    c.swap.result c.args.value (sym c.in-Some.ensures) c.swap.ensures)

pub returns-in-Some-clause-there : goal.returns-in-Some-clause-there
returns-in-Some-clause-there g c = ap is_some c.in-Some.ensures ∙ has (opened c.self.invariant c.self.view_is) c.args.key.now

pub returns-in-None-clause-there : goal.returns-in-None-clause-there
returns-in-None-clause-there g c = ap is_some c.in-None.ensures ∙ has (opened c.self.invariant c.self.view_is) c.args.key.now

pub returns-in-None-clause-entries : goal.returns-in-None-clause-entries
returns-in-None-clause-entries g c =
    let keyed = opened c.self.invariant c.self.view_is in
    sym (replaced_none c.args.key.now c.args.value c.args.self.now
    (missed keyed c.args.key.now (sym c.in-None.ensures)))
