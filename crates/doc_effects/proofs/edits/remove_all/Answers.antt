use Rattle.doc_effects.proofs.Editing.{first_row, removing_on, sound_parted}
use Rattle.doc_effects.proofs.edits.remove_all.Goals as goal

pub loop-rest-preserved : goal.loop-rest-preserved
loop-rest-preserved c =
    let at = first_row c.loop-rest.rest.now c.row-item.result c.in-len1-up.len_at_least c.row-item.is in
    record {
      sound = (sound_parted c.loop-rest.rest.now c.row-item.result at c.loop-rest.invariant.sound).1;
      going = removing_on c.args.filter.now _ _ _ _ _ at c.loop-rest.invariant.going c.in_ok-remove_if_matching.ensures;
    }
