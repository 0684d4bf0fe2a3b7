use Rattle.std.proofs.Common.{◌-◌, ◌+◌, ◌*◌, ◌≡◌, ◌≤◌, ◌^◌, false, length, drop}
use Rattle.doc_server.specs.Talk.{scene}
use Rattle.doc_server.proofs.Conversation.{Going}
use Rattle.doc_server.proofs.serve.converse.Given as goal

abbrev pub invariant-loop-message : goal.invariant-loop-message
invariant-loop-message g l = record {
  used : l.used ≤ length l.buffer.items;
  limit : l.count ≤ 2 ^ 40;
  room : l.commands + length l.buffer.items ≤ l.count + l.used;
  numbers : l.who.op ≤ 1000 * l.commands;
  free : g.T.TableDesk.held l.tables ≡ false;
  opening : g.T.TableDesk.opening l.tables ≡ g.T.TableDesk.opening l.initial.tables;
  first : g.T.TableDesk.first l.tables ≡ g.T.TableDesk.first l.initial.tables;
  read_faults : g.L.Gate.read_faults l.link ≡ g.L.Gate.read_faults l.initial.link;
  write_faults : g.L.Gate.write_faults l.link ≡ g.L.Gate.write_faults l.initial.link;
  going : Going (g.T.TableDesk.opening l.initial.tables) l.seat l.number
      (scene (g.L.Gate.taken l.initial.link) (g.L.Gate.left l.initial.link) (g.L.Gate.written l.initial.link)
      (g.L.Gate.moments l.initial.link))
      (scene (g.L.Gate.taken l.link) (g.L.Gate.left l.link) (g.L.Gate.written l.link) (g.L.Gate.moments l.link))
      (g.T.TableDesk.at l.initial.tables) (g.T.TableDesk.at l.tables) l.commands l.count l.who (drop l.used l.buffer.items);
}

abbrev pub decreases-loop-message : goal.decreases-loop-message
decreases-loop-message g l = 2 * (2 ^ 40 - l.count) + (length l.buffer.items - l.used)
