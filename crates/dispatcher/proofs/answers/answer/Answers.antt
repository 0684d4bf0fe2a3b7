use Rattle.std.proofs.Common.{refl}
use Rattle.std.proofs.lemmas.Int.{to_z-of_z}
use Rattle.std.specs.Int.{w32}
use Rattle.dispatcher.proofs.Executing.{accepted, declined}
use Rattle.dispatcher.proofs.answers.answer.Goals as goal

pub returns-in-Ok-clause-dealt : goal.returns-in-Ok-clause-dealt
returns-in-Ok-clause-dealt g c =
    let number = to_z-of_z w32 c.number_after-number.result c.number_after-number.ensures.fits in
    let request = to_z-of_z w32 c.request_of-request.result c.request_of-request.ensures.fits in
    let by = rw (number, request, c.number_after-number.ensures.value, c.request_of-request.ensures.value) at c.done.ensures.done.1 in
    accepted _ _ _ _ _ _ _ _ _ _ _ c.in-Ok.ensures.accepted c.in-Ok.ensures.means by

pub returns-in-Err-clause-dealt : goal.returns-in-Err-clause-dealt
returns-in-Err-clause-dealt g c =
    let number = to_z-of_z w32 c.number_after-number.result c.number_after-number.ensures.fits in
    let request = to_z-of_z w32 c.request_of-request.result c.request_of-request.ensures.fits in
    let refuses = rw (number, request, c.number_after-number.ensures.value, c.request_of-request.ensures.value) at c.refused.ensures in
    declined _ _ _ _ _ _ _ _ _ _ _ c.in-Err.ensures.refused c.code_of-foreign.ensures refuses refl refl
