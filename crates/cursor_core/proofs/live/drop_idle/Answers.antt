use Rattle.std.proofs.Common.{◌∙◌, ap, sym}
use Rattle.cursor_core.specs.Held.{kept}
use Rattle.cursor_core.proofs.Idle.{none-held, all-awake, last-idle}
use Rattle.cursor_core.proofs.live.drop_idle.Goals as goal

pub returns-then-saturating_sub-lt-IDLE : goal.returns-then-saturating_sub-lt-IDLE
returns-then-saturating_sub-lt-IDLE c =
    sym (all-awake c.args.latest c.in-Some.last c.saturating_sub.result c.loop-last.held c.loop-last.invariant.falls
    (sym c.oldest.ensures ∙ c.in-Some.is) c.saturating_sub.ensures c.if-saturating_sub-lt-IDLE.true) ∙ c.loop-last.invariant.kept

pub loop-last-preserved : goal.loop-last-preserved
loop-last-preserved c =
    let s = last-idle c.args.latest c.in-Some.last c.saturating_sub.result c.loop-last.held c.drop_oldest.new.self
    c.loop-last.invariant.falls
    (sym c.oldest.ensures ∙ c.in-Some.is) c.saturating_sub.ensures c.if-saturating_sub-lt-IDLE.false c.drop_oldest.ensures in
    record { falls = s.falls; kept = s.kept ∙ c.loop-last.invariant.kept }

pub returns : goal.returns
returns c =
    let none = none-held c.loop-last.held (sym c.oldest.ensures ∙ c.in_default.is) in
    none ∙ ap (kept c.args.latest) (sym none) ∙ c.loop-last.invariant.kept
