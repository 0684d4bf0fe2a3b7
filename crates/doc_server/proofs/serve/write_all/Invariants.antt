use Rattle.std.proofs.Common.{length, ◌-◌, ◌≡◌, ◌≤◌, take}
use Rattle.outside.specs.Told.{Grows}
use Rattle.doc_server.proofs.serve.write_all.Given as goal

abbrev pub invariant-loop-sent : goal.invariant-loop-sent
invariant-loop-sent g l = record {
  within : l.sent ≤ length l.bytes;
  taken : g.L.Gate.taken l.link ≡ g.L.Gate.taken l.initial.link;
  left : g.L.Gate.left l.link ≡ g.L.Gate.left l.initial.link;
  moments : g.L.Gate.moments l.link ≡ g.L.Gate.moments l.initial.link;
  read_faults : g.L.Gate.read_faults l.link ≡ g.L.Gate.read_faults l.initial.link;
  write_faults : g.L.Gate.write_faults l.link ≡ g.L.Gate.write_faults l.initial.link;
  written : Grows (g.L.Gate.written l.initial.link) (g.L.Gate.written l.link) (take l.sent l.bytes);
}

abbrev pub decreases-loop-sent : goal.decreases-loop-sent
decreases-loop-sent g l = length l.bytes - l.sent
