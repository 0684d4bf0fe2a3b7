use Rattle.std.proofs.Common.{◌≡◌, ◌∙◌, ◌++◌, ◌∷◌, [], List, ℕ, Bool, ap, sym, refl, map}
use Rattle.bson_values.specs.Names.{names}
use Rattle.bson_values.specs.Storable.{stands}
use Rattle.op_msg.specs.declared.message.Sequence.{Sequence}
use Rattle.command_words.proofs.Twice.{read_at, taken_twice, taken_once, last_once, seen_more}
use Rattle.command_words.proofs.names.sequences_have_twice.Goals as goal

-- the name of a sequence
abbrev name : Sequence → List ℕ
name it = it.name

-- what was found of the names that were seen holds of the first ones
of_first : (front seen first : List (List ℕ)) (text : List ℕ) (found is : Bool) → seen ≡ first
    → found ≡ stands (front ++ seen) text → found ≡ is
    → stands (front ++ first) text ≡ is
of_first front seen first text found is same tells here = ap (λ names. stands (front ++ names) text) (sym same) ∙ sym tells ∙ here

pub returns-then-stands_in_either-clause-value : goal.returns-then-stands_in_either-clause-value
returns-then-stands_in_either-clause-value c =
    taken_twice (names c.args.body.now) (map name c.args.sequences.now) c.loop-place.place c.as_str.result.now
    (read_at name _ _ c.index-sequences-place.result _ c.loop-place-test.true c.index-sequences-place.is c.as_str.ensures)
    (of_first (names c.args.body.now) _ _ c.as_str.result.now _ _
    c.loop-place.invariant.seen c.stands_in_either.ensures c.if-stands_in_either.true)

pub returns-then-sequences-place-eq1-clause-value : goal.returns-then-sequences-place-eq1-clause-value
returns-then-sequences-place-eq1-clause-value c =
    last_once name (names c.args.body.now) c.args.sequences.now c.loop-place.place c.if-sequences-place-eq1.true
    (taken_once (names c.args.body.now) (map name c.args.sequences.now) c.loop-place.place c.as_str.result.now
    (read_at name _ _ c.index-sequences-place.result _ c.loop-place-test.true c.index-sequences-place.is c.as_str.ensures)
    c.loop-place.invariant.none
    (of_first (names c.args.body.now) _ _ c.as_str.result.now _ _
    c.loop-place.invariant.seen c.stands_in_either.ensures c.if-stands_in_either.false))

pub loop-place-preserved : goal.loop-place-preserved
loop-place-preserved c = record {
  seen = seen_more (map name c.args.sequences.now) (names c.see.new.seen) c.loop-place.place c.index-sequences-place.result.name
      (read_at name _ _ c.index-sequences-place.result _ c.loop-place-test.true c.index-sequences-place.is refl)
      (c.in_ok-see.ensures ∙ ap (λ seen. seen ++ c.index-sequences-place.result.name ∷ []) c.loop-place.invariant.seen);
  none = taken_once (names c.args.body.now) (map name c.args.sequences.now) c.loop-place.place c.as_str.result.now
      (read_at name _ _ c.index-sequences-place.result _ c.loop-place-test.true c.index-sequences-place.is c.as_str.ensures)
      c.loop-place.invariant.none
      (of_first (names c.args.body.now) _ _ c.as_str.result.now _ _
      c.loop-place.invariant.seen c.stands_in_either.ensures c.if-stands_in_either.false);
}
