-- Seats that are cut in two, and two that become one.
use Rattle.std.proofs.Common.{◌≡◌, ℕ, ◌<◌, ◌++◌, if◌then◌else◌, Bool, true, false, [], length, refl, sym, subst}
use Rattle.std.specs.Prelude.{nat_lt}
use Rattle.std.proofs.lemmas.List.{append-nil}
use mathlib.Core.List.{IsPrefix}
use Rattle.atomic_table.specs.Table.{Me, Splits}
use Rattle.history_lock.specs.declared.view.View.{View}
use Rattle.history_lock.specs.declared.rule.Origin.{Origin}
use Rattle.history_lock.specs.declared.rule.Held.{Held}
use Rattle.history_lock.specs.declared.rule.Stage.TheVariants.{Free}
use Rattle.history_lock.specs.declared.rule.Known.{Known}
use Rattle.history_lock.specs.Logged.{Joined}
use Rattle.history_lock.specs.Rule.{Meaning, Kept}
use Rattle.history_lock.specs.Steps.{longer, shorter, staying, leaving}
use Rattle.history_lock.proofs.Parting.{splits-allowed}

module _ {O S C R : Type 0} (m : Meaning O S C R) (key : Origin S) where
  -- once so many parts are offered, the seat may be cut
  pub may-split : (id : ℕ) (old mid : Me (Held O C R) (Known S C R)) (n : ℕ) → mid ≡ (record old.0 { offer = n }, old.1)
      → old.0.stage ≡ Free → 0 < n → n < old.0.parts
      → Splits (Kept m key) id mid.0 (staying mid.0) (leaving mid.0)
  may-split id old mid n is free some_parts fewer =
      subst (λ (z : Me (Held O C R) (Known S C R)). Splits (Kept m key) id z.0 (staying z.0) (leaving z.0)) (sym is)
      (splits-allowed m key id (record old.0 { offer = n }) free some_parts fewer)

module _ {C R : Type 0} where
  -- the two cases
  joined-by : (b : Bool) (one other : View C R) → IsPrefix (if b then one.seen else other.seen) (if b then other.seen else one.seen)
      → Joined one other record { seen = if b then other.seen else one.seen; own = one.own ++ other.own }
  joined-by true one other p = record {
    past_one = p.0;
    past_other = [];
    seen_one = sym p.1;
    seen_other = sym (append-nil other.seen);
    own = refl;
  }
  joined-by false one other p = record {
    past_one = [];
    past_other = p.0;
    seen_one = sym (append-nil one.seen);
    seen_other = sym p.1;
    own = refl;
  }

  -- the longer of two lists begins with both, where the shorter begins it
  pub joined : (one other : View C R) → IsPrefix (shorter one.seen other.seen) (longer one.seen other.seen)
      → Joined one other record { seen = longer one.seen other.seen; own = one.own ++ other.own }
  joined one other p = joined-by (nat_lt (length one.seen) (length other.seen)) one other p

  -- the same of views that are named otherwise
  pub was-joined : (one other both left right : View C R) → left ≡ one → right ≡ other
      → both ≡ record { seen = longer left.seen right.seen; own = left.own ++ right.own }
      → IsPrefix (shorter left.seen right.seen) (longer left.seen right.seen)
      → Joined one other both
  was-joined one other both left right l r is p =
      subst (λ (z : View C R × View C R). Joined z.0 z.1 both) (λ i. (l i, r i)) (subst (Joined left right) (sym is) (joined left right p))
