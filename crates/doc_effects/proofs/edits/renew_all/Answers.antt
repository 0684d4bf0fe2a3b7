use Rattle.std.proofs.Common.{arith}
use Rattle.std.proofs.lemmas.Result.{err_from_is_err_and}
use Rattle.doc_effects.proofs.Editing.{first_row, going_fails, going_on, length_others, sound_parted}
use Rattle.doc_effects.proofs.edits.renew_all.Goals as goal

pub returns-in_err-matched-clause-refused : goal.returns-in_err-matched-clause-refused
returns-in_err-matched-clause-refused c =
    let back = err_from_is_err_and c.from_residual.result c.from_residual.ensures.1 in
    let at = first_row c.loop-rest.rest.now c.row-item.result c.in-len1-up.len_at_least c.row-item.is in
    rw (back.1, back.2)
    (going_fails c.args.update.now c.args.now c.args.filter.now _ _ _ _ _ _ at c.loop-rest.invariant.going
    c.in_err-matched.ensures.refused)

pub loop-rest-preserved : goal.loop-rest-preserved
loop-rest-preserved c =
    let at = first_row c.loop-rest.rest.now c.row-item.result c.in-len1-up.len_at_least c.row-item.is in
    record {
      sound = (sound_parted c.loop-rest.rest.now c.row-item.result at c.loop-rest.invariant.sound).1;
      going = going_on c.args.update.now c.args.now c.args.filter.now _ _ _ _ _ _ _ at c.loop-rest.invariant.going
          c.in_ok-matched.ensures.ok c.in_ok-matched.ensures.matched;
      few = omega (arith, length_others c.loop-rest.rest.now c.row-item.result at, c.loop-rest.invariant.few, c.in_ok-matched.ensures.few);
    }
