use Rattle.std.proofs.Common.{sym, subst}
use Rattle.bson_values.specs.Names.{names}
use Rattle.bson_values.specs.Places.{Fits}
use Rattle.bson_values.specs.declared.wide.Wide.TheInside.{Inside}
use Rattle.bson_values.proofs.Removals.{removed}
use Rattle.bson_values.proofs.wide.Wide.remove.Goals.{in-Some, in_default}
use Rattle.bson_values.proofs.wide.Wide.remove.Goals as goal

-- the index forgets the place, or there is none
pub invariant_of-self : goal.invariant_of-self
invariant_of-self g c = elim c.match-self.branch [
  | in-Some w ↦ subst (λ (it : Inside g.row.V.Denot). Fits it.index (names it.pairs)) (sym w.self-inside-is)
      (removed c.self.inside.pairs c.remove-pair.new.self c.args.place c.remove-pair.result
      w.in-Some.index w.forget.new.index w.next_in-next.result
      c.remove-pair.ensures.value c.remove-pair.ensures.items (rw (w.as_str.ensures, w.as_slice.ensures) at w.next_in-next.ensures)
      (rw w.as_str-in-Some.ensures at w.forget.ensures)
      (subst (λ index. Fits index (names c.self.inside.pairs)) w.in-Some.is c.self.invariant))
  | in_default w ↦ subst (λ (it : Inside g.row.V.Denot). Fits it.index (names it.pairs)) (sym w.self-inside-is)
      (subst (λ index. Fits index (names c.remove-pair.new.self)) (sym w.in_default.is) tt)
]
