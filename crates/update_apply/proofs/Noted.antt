-- What a set of values tells once one more is noted.
use Rattle.std.proofs.Common.{◌≡◌, ◌<◌, ℕ, ◌+◌, Bool, true, false, cond, ◌||◌, List, [], ◌∷◌, ◌++◌, length, take, get_or, refl, sym, ap}
use Rattle.std.proofs.Common.{subst, ◌∙◌}
use Rattle.std.proofs.lemmas.List.{take_more}
use Rattle.std.specs.BTreeSet.{BTreeSet, contains}
use Rattle.std.specs.BTreeMap.{is_at}
use Rattle.std.specs.Ordering.{is_eq}
use Rattle.std.specs.Prelude.{Result, Ok, Err, OnOk}
use Rattle.std_words.proofs.Tests.{or-swaps, or-groups}
use Rattle.bson_order.specs.Order.{compared, is_same}
use Rattle.bson_values.specs.declared.value.Value.{Value}
use Rattle.update_apply.specs.Ranks.{Notes, Tells, noted, ranked_cmp}
use Rattle.update_apply.specs.declared.sets.Ranked.{Ranked}
use Rattle.update_syntax.specs.After.{stands_in}

as_or : (a b : Bool) → cond a true b ≡ (a || b)
as_or true b = refl
as_or false b = refl

-- a key that was put in is noted
pub noted_more : (old new : BTreeSet Ranked) (key : Ranked)
    → ((other : Ranked) → contains ranked_cmp new other ≡ cond (is_at (ranked_cmp key) other) true (contains ranked_cmp old other))
    → Notes key.value.now old new
noted_more old new key put other =
    put (record { value = record { ref_ptr = key.value.ref_ptr; now = other } })
    ∙ as_or (is_eq (compared key.value.now other)) (noted old other)

stands_more : (values : List Value) (it other : Value) → stands_in (values ++ it ∷ []) other ≡ (stands_in values other || is_same it other)
stands_more [] it other = or-swaps (is_same it other) false
stands_more (value ∷ values) it other =
    ap (λ b. is_same value other || b) (stands_more values it other)
    ∙ sym (or-groups (is_same value other) (stands_in values other) (is_same it other))

-- then one more value is told
pub tells_more : (old new : BTreeSet Ranked) (values : List Value) (it : Value) → Tells old values → Notes it old new
    → Tells new (values ++ it ∷ [])
unfolding is_same
tells_more old new values it tells notes other =
    notes other ∙ ap (λ b. is_eq (compared it other) || b) (tells other)
    ∙ or-swaps (is_eq (compared it other)) (stands_in values other) ∙ sym (stands_more values it other)

-- the same in a walk over values
pub tells_next : (old new : BTreeSet Ranked) (values : List Value) (i : ℕ) (it : Value) → i < length values → it ≡ get_or values i it
    → Tells old (take i values) → Notes it old new → Tells new (take (i + 1) values)
tells_next old new values i it below is tells notes =
    subst (Tells new) (ap (λ (one : Value). take i values ++ one ∷ []) is ∙ sym (take_more values i it below))
    (tells_more old new (take i values) it tells notes)

-- what is told of a list is told of what it became
pub told_on : {E : Type 0} (result : Result (Unit {0}) E) (seen : BTreeSet Ranked) (all new : List Value) → Tells seen all
    → OnOk result (new ≡ all) → OnOk result (Tells seen new)
told_on (Ok done) seen all new tells is = subst (Tells seen) (sym is) tells
told_on (Err why) seen all new tells is = tt
