use Rattle.std.proofs.Common.{◌∙◌, sym}
use Rattle.distinct_values.proofs.Told.{joined_old, kept_then, joined_then}
use Rattle.distinct_values.proofs.distinct.Distinct.add.Goals as goal

pub returns-then-has : goal.returns-then-has
returns-then-has c =
    rw (← c.self.view_is) (joined_old c.self.inside.kept c.in_ok-key.key c.args.value c.self.invariant c.in_ok-key.ensures.key c.requires
    c.in_ok-key.ensures.short (sym c.has.ensures ∙ c.if-has.true))

pub invariant_of-self : goal.invariant_of-self
invariant_of-self c =
    kept_then c.self.inside.kept c.in_ok-key.key c.args.value c.self.invariant c.in_ok-key.ensures.key c.requires
    c.in_ok-key.ensures.short c.keep.result c.keep.new.kept c.keep.ensures.ok c.keep.ensures.err

pub returns : goal.returns
returns c =
    rw (← c.self.view_is) (joined_then c.self.inside.kept c.in_ok-key.key c.args.value c.self.invariant c.in_ok-key.ensures.key c.requires
    c.in_ok-key.ensures.short c.keep.result c.keep.new.kept c.keep.ensures.ok (sym c.has.ensures ∙ c.if-has.false))
