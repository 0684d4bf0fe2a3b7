-- What may cross threads: a turn and a past may, a seat where the object may, and then a history may be shared.
use denote.RattleType.{RattleType}
use denote.Param.Send.{IsSend, IsSync, AllSend, AllSync, recorded_send, recorded_sync, struct_send, struct_sync, sendable}
use denote.Struct.Declared.{shape}
use Rattle.std.proofs.Crossing.{crosses}
use Rattle.std.proofs.Crossing as heap
use Rattle.atomic_table.proofs.shared.Seat.TheSendSync as place
use Rattle.atomic_table.proofs.owned.Table.TheSendSync as table
use Rattle.history_lock.specs.declared.object.Object.{Ghosts}
use Rattle.history_lock.specs.contracts.rule.Held as held
use Rattle.history_lock.specs.contracts.rule.Start as start
use Rattle.history_lock.specs.contracts.seat.Seat as seat
use Rattle.history_lock.specs.contracts.seat.Turn as turn
use Rattle.history_lock.specs.contracts.history.History as history
use Rattle.history_lock.specs.contracts.history.History.TheInside as inside
use Rattle.history_lock.specs.contracts.closed.Past as past

module _ (O C R S : RattleType) (g : Ghosts O.Denot C.Denot R.Denot S.Denot) where
  -- what the slot holds
  held_send : IsSend O → IsSend (held.the_row O C R)
  held_send o = search (sendable, crosses) depth 20

  -- what the history keeps of its start
  start_send : IsSend (start.the_field O).row
  start_send = search (sendable, crosses) depth 12

  start_sync : IsSync (start.the_field O).row
  start_sync = search (sendable, crosses) depth 12

  -- the parts of a history
  inside_send : IsSend O → IsSend (inside.the_row O C R S g)
  inside_send o =
      let all : AllSend (shape (inside.the_type O C R S g)).fields =
      (search (table.the_field_send, held_send, heap.send, heap.frees), (start_send, tt)) in
      recorded_send (inside.the_field O C R S g).row _ _ (inside.the_type O C R S g).to_one
      (struct_send (shape (inside.the_type O C R S g)) all)

  inside_sync : IsSend O → IsSync (inside.the_row O C R S g)
  inside_sync o =
      let all : AllSync (shape (inside.the_type O C R S g)).fields =
      (search (table.the_field_sync, held_send, heap.send, heap.sync, heap.frees), (start_sync, tt)) in
      recorded_sync (inside.the_field O C R S g).row _ _ (inside.the_type O C R S g).to_one
      (struct_sync (shape (inside.the_type O C R S g)) all)

  -- each type that callers have
  pub seat_send : IsSend O → IsSend (seat.the_row O C R S g)
  seat_send o = search (sendable, crosses, held_send, place.the_send) depth 20

  pub turn_send : IsSend (turn.the_row O C R S g)
  turn_send = search (sendable, crosses) depth 12

  pub history_send : IsSend O → IsSend (history.the_row O C R S g)
  history_send o = search (sendable, inside_send)

  pub history_sync : IsSend O → IsSync (history.the_row O C R S g)
  history_sync o = search (sendable, inside_sync)

  pub past_send : IsSend (past.the_row O C R S g)
  past_send = search (sendable, crosses) depth 12

-- for a `search` at a join, with what shows that the object may cross
pub ruleset shared = (sendable, crosses, seat_send, turn_send, history_send, history_sync, past_send)
