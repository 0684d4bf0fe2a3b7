use Rattle.std.proofs.Common.{◌≡◌, ◌∙◌, ℕ, ℤ, Bool, true, false, sym, subst, ap}
use Rattle.std.specs.Prelude.{pos, int_lt, unsigned_abs, if◌then◌else◌}
use Rattle.std.specs.Int.{w128}
use Rattle.std.proofs.lemmas.Int.{to_z-of_z}
use Rattle.std.proofs.lemmas.Result.{on_ok_weaker}
use Rattle.serde.specs.Event.{Log, Logs, signed, unsigned}
use Rattle.serde_json.specs.Data as json
use Rattle.serde_json.specs.Events.{number_event}
use Rattle.jsonb_contain.proofs.printing.send_whole.Goals as goal

abbrev Sent : ℤ → Log → Log → Bool → Type 0
Sent n old new below = Logs old new (number_event (if below then json.negative n else json.unsigned (unsigned_abs n)))

pub returns-then-number-lt0 : goal.returns-then-number-lt0
returns-then-number-lt0 g c =
    let n = c.args.number in
    let old = g.S.Serializer.written c.args.out.now in
    let new = g.S.Serializer.written c.i128.new.self in
    let back = to_z-of_z w128 n c.ranges.number in
    let below : int_lt n (pos 0) ≡ true = ap (λ (z : ℤ). int_lt z (pos 0)) (sym back) ∙ c.if-number-lt0.true in
    on_ok_weaker c.i128.result (λ e. subst (Sent n old new) (sym below) (subst (λ (z : ℤ). Logs old new (signed z)) back e)) c.i128.ensures

pub returns-else-number-lt0 : goal.returns-else-number-lt0
returns-else-number-lt0 g c =
    let n = c.args.number in
    let old = g.S.Serializer.written c.args.out.now in
    let new = g.S.Serializer.written c.u128.new.self in
    let back = to_z-of_z w128 n c.ranges.number in
    let above : int_lt n (pos 0) ≡ false = ap (λ (z : ℤ). int_lt z (pos 0)) (sym back) ∙ c.if-number-lt0.false in
    let size : c.unsigned_abs.result ≡ unsigned_abs n = c.unsigned_abs.ensures.value ∙ ap unsigned_abs back in
    on_ok_weaker c.u128.result
    (λ e. subst (Sent n old new) (sym above) (subst (λ (m : ℕ). Logs old new (unsigned m)) size e)) c.u128.ensures
